-- Refused calls leave the record.
use Rattle.std.proofs.Common.{◌≡◌, ℕ, Bool, true, false, cond, not, ◌&&◌, List, Some, None, Ok, Err, Option, Result, refl, ap, arith}
use Rattle.frames.specs.declared.plan.Plan.{Plan}
use Rattle.frames.specs.declared.FrameFault.{FrameFault}
use Rattle.frames.specs.Contents.{Content}
use Rattle.frames.specs.Contents.Content.{order, token}
use Rattle.frames.specs.Reading.{read_as}
use Rattle.boxes.specs.declared.Outcome.TheVariants as outcome
use Rattle.boxes.specs.declared.BoxFault.{BoxFault}
use Rattle.boxes.specs.declared.BoxFault.TheVariants as fault
use Rattle.boxes.specs.Boxes.{Box}
use Rattle.boxes.specs.Handling.{answer, box_after, order_after, token_after}
use Rattle.boxes.specs.Calls.{refused_or, stayed_or, read_answer, read_after, frame_call, frame_after}
use Rattle.boxes.specs.Laws.{RefusalsStay}

contents : (p : Plan) (b : Box) (c : Content) (e : BoxFault) → answer p b c ≡ Err e → box_after p b c ≡ b
contents p b (order x) e q = ap (order_after b x) q
contents p b (token t) e q = ap (token_after p b t) q

waits : (p : Plan) (b : Box) (c : Content) → answer p b c ≡ Ok outcome.Waits → box_after p b c ≡ b
waits p b (order x) q = ap (order_after b x) q
waits p b (token t) q = ap (token_after p b t) q

stale : (p : Plan) (b : Box) (c : Content) → answer p b c ≡ Ok outcome.Stale → box_after p b c ≡ b
stale p b (order x) q = ap (order_after b x) q
stale p b (token t) q = ap (token_after p b t) q

known : (p : Plan) (b : Box) (c : Content) → answer p b c ≡ Ok outcome.Known → box_after p b c ≡ b
known p b (order x) q = ap (order_after b x) q
known p b (token t) q = ap (token_after p b t) q

frames : (p : Plan) (b : Box) (kept : Bool) (bytes : List ℕ) (e : BoxFault) → frame_call p b kept bytes ≡ Err e → frame_after p b kept bytes ≡ b
frames p b kept bytes e q = go kept b.on (read_as p bytes) q
  where
    go : (kept on : Bool) (r : Result Content FrameFault) → cond (not kept) (Err fault.Plan) (cond (not on) (Err fault.Off) (read_answer p b r)) ≡ Err e → cond (kept && on) (read_after p b r) b ≡ b
    go false on r h = refl
    go true false r h = refl
    go true true (Err f) h = refl
    go true true (Ok c) h = contents p b c e h

calls : (o : Option BoxFault) (was becomes : Box) (n : ℕ) (e : BoxFault) → refused_or o n ≡ Err e → stayed_or o was becomes ≡ was
calls None was becomes n e q = let z : ◌≡◌ {A = ℕ} 0 1 = cc in absurd (omega arith)
calls (Some f) was becomes n e q = refl

pub refusals_stay : RefusalsStay
refusals_stay = record { frames = frames; calls = calls; waits = waits; stale = stale; known = known }

-- a call that answers has no fault
pub unrefused : {A : Type 0} (fault : Option BoxFault) (a : A) → Ok a ≡ refused_or fault a → fault ≡ None
unrefused None a q = refl
unrefused (Some e) a q = let z : ◌≡◌ {A = ℕ} 0 1 = cc in absurd (omega arith)
