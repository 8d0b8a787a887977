-- What a text line asks, as its reading meets it.
use Rattle.std.proofs.Common.{◌≡◌, ℕ, ◌/◌, ◌%◌, ◌≤◌, List, Some, None, Ok, Err, Option, Result, sym, refl, ap, ◌∙◌, subst, arith}
use Rattle.std.proofs.lemmas.Bool.{cond-false, le-ltb}
use Rattle.frames.specs.declared.PlanFault.{PlanFault}
use Rattle.frames.specs.declared.PlanFault.TheVariants as plan-fault
use Rattle.frames.specs.declared.FrameFault.{FrameFault}
use Rattle.frames.specs.declared.Frame.{Frame}
use Rattle.frames.specs.declared.plan.Plan.{Plan}
use Rattle.frames.specs.Contents.{Content, plan_byte}
use Rattle.frames.specs.Plans.{Makes, PlanRules}
use Rattle.frames.specs.Reading.{read_as}
use Rattle.frames.specs.Views.{Shows, shown_as}
use Rattle.frames.proofs.Written.{written}
use Rattle.lines.specs.declared.LineFault.{LineFault}
use Rattle.lines.specs.declared.LineFault.TheVariants as line-fault
use Rattle.lines.specs.Digits.{bytes_in}
use Rattle.lines.specs.Reads.{frame_room, line_fault, refused_or, line_bytes, line_as, carried, then_by}
use Rattle.lines.specs.Calls.{first_of, bytes_fault}
use Rattle.inspect.specs.declared.texts.TextFault.TheVariants as fault
use Rattle.inspect.specs.Form.{split_as}
use Rattle.inspect.specs.Means.{ReadsText}

-- a plan by its byte
pub plan-byte : (byte : ℕ) (p : Plan) → Makes (byte / 16) (byte % 16) (Ok p) → plan_byte p ≡ byte
plan-byte byte p m = let n = m.1 in let f = m.2 in omega arith

-- numbers that make no plan
pub no_plan : (cs line : List ℕ) (byte : ℕ) (e : PlanFault) → Ok (byte, line) ≡ split_as cs → Makes (byte / 16) (byte % 16) (Err e) → ReadsText cs (Err (fault.Plan e))
no_plan cs line byte plan-fault.Plan s m = record { byte = byte; line = line; split = sym s; none = none }
  where
    none : (p : Plan) → plan_byte p ≡ byte → ⊥
    none p q =
        let few = p.few in
        let n : p.n ≡ byte / 16 = omega arith in
        let f : p.f ≡ byte % 16 = omega arith in
        let rules : PlanRules p.n p.f = record { least = p.least; most = p.most; some = p.some; few = p.few; enough = p.enough } in
        m (subst (λ z. PlanRules (byte / 16) z) f (subst (λ z. PlanRules z p.f) n rules))

module _ (cs line : List ℕ) (byte : ℕ) (p : Plan) (s : Ok (byte, line) ≡ split_as cs) (m : Makes (byte / 16) (byte % 16) (Ok p)) where
  asks : split_as cs ≡ Ok (plan_byte p, line)
  asks = sym s ∙ ap (λ z. Ok (z, line)) (sym (plan-byte byte p m))

  -- a line with a fault, read to a buffer that has room
  pub bad-line : (room n : ℕ) (e : LineFault) → frame_room ≤ room → Err e ≡ refused_or (bytes_fault line room) n → ReadsText cs (Err (fault.Line e))
  bad-line room n e h q = record { plan = p; line = line; asks = asks; refuses = ap (λ z. then_by z (λ bs. carried (read_as p bs))) (found (line_fault line) refl (q ∙ ap (λ z. refused_or (first_of z (line_fault line)) n) (cond-false _ _ _ (le-ltb _ _ h)))) }
    where
      found : (o : Option LineFault) → line_fault line ≡ o → Err e ≡ refused_or o n → line_bytes line ≡ Err e
      found (Some d) f r = let same : d ≡ e = cc in ap (λ z. refused_or z (bytes_in line)) f ∙ ap Err same
      found None f r = let z : ◌≡◌ {A = ℕ} 0 1 = cc in absurd (omega arith)

  module _ (bs : List ℕ) (l : line_bytes line ≡ Ok bs) where
    held : (x : Result Content FrameFault) → read_as p bs ≡ x → line_as p line ≡ carried x
    held x r = ap (λ z. then_by z (λ bs. carried (read_as p bs))) l ∙ ap carried r

    pub bad_frame : (e : FrameFault) → Err e ≡ shown_as (read_as p bs) → ReadsText cs (Err (fault.Line (line-fault.Frame e)))
    bad_frame e q = record { plan = p; line = line; asks = asks; refuses = go (read_as p bs) refl q }
      where
        go : (x : Result Content FrameFault) → read_as p bs ≡ x → Err e ≡ shown_as x → line_as p line ≡ Err (line-fault.Frame e)
        go (Ok c) r q = let z : ◌≡◌ {A = ℕ} 0 1 = cc in absurd (omega arith)
        go (Err d) r q = let same : d ≡ e = cc in held (Err d) r ∙ ap (λ z. Err (line-fault.Frame z)) same

    pub good_frame : (f : Frame) → Shows p bs f → ReadsText cs (Ok f)
    good_frame f w =
        let reads = ap (read_as p) (sym w.written) ∙ written p w.contents w.lawful in
        (w.contents, record { plan = p; line = line; asks = asks; reads = held (Ok w.contents) reads; lawful = w.lawful }, w.seen)
