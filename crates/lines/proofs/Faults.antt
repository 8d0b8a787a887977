-- What the tests of each call find.
use Rattle.std.proofs.Common.{◌≡◌, ℕ, ◌≤◌, List, None, Ok, Err, Result, sym, refl, ap, ◌∙◌, subst, arith}
use Rattle.std.specs.Result.{result_err}
use Rattle.frames.specs.declared.FrameFault.{FrameFault}
use Rattle.frames.specs.declared.Frame.{Frame}
use Rattle.frames.specs.declared.plan.Plan.{Plan}
use Rattle.frames.specs.Contents.{Content}
use Rattle.frames.specs.Reading.{read_as}
use Rattle.frames.specs.Views.{View, Shows, shown_as}
use Rattle.lines.specs.declared.LineFault.{LineFault}
use Rattle.lines.specs.Digits.{bytes_in}
use Rattle.lines.specs.Reads.{frame_room, line_fault, refused_or, line_bytes, carried, then_by}
use Rattle.lines.specs.Calls.{frame_fault, Holds}
use Rattle.lines.specs.Tested.{Readable, FrameReadable, Framed}
use Rattle.lines.proofs.Back.{good_line, writes_back, frame_fits, bytes_read_back}

-- contents that are shown were read, and a fault that is shown was met
pub shown_read : (x : Result Content FrameFault) (v : View) → Ok v ≡ shown_as x → (c : Content) × (x ≡ Ok c)
shown_read (Ok c) v q = (c, refl)
shown_read (Err e) v q = let z : ◌≡◌ {A = ℕ} 0 1 = cc in absurd (omega arith)

pub fault_met : (x : Result Content FrameFault) (e : FrameFault) → Err e ≡ shown_as x → x ≡ Err e
fault_met (Ok c) e q = let z : ◌≡◌ {A = ℕ} 0 1 = cc in absurd (omega arith)
fault_met (Err d) e q = cc

pub readable : (cs : List ℕ) (room : ℕ) (found : Result (Unit {0}) LineFault) → result_err found ≡ line_fault cs → frame_room ≤ room → Readable cs room found
readable cs room (Err e) q h = tt
readable cs room (Ok u) q h =
    let reads : line_bytes cs ≡ Ok (bytes_in cs) = ap (λ z. refused_or z (bytes_in cs)) (sym q) in
    let few = (good_line cs (bytes_in cs) reads).0.few in
    (omega arith, h, reads, (writes_back cs (bytes_in cs) reads).0)

-- bytes that show a frame have a line
pub framed : (p : Plan) (bs : List ℕ) (f : Frame) → Shows p bs f → Framed bs (Ok tt)
framed p bs f s = subst (λ z. Framed z (Ok tt)) s.written ((frame_fits p s.contents s.lawful).1, bytes_read_back p s.contents s.lawful)

-- a line that is a frame's
module _ (p : Plan) (cs : List ℕ) (room : ℕ) where
  pub frame_readable : (found : Result (Unit {0}) LineFault) → Readable cs room (Ok tt) → result_err found ≡ frame_fault (read_as p (bytes_in cs)) → FrameReadable p cs room found
  frame_readable (Err e) r q = tt
  frame_readable (Ok u) r q = (r, contents (read_as p (bytes_in cs)) refl q)
    where
      contents : (x : Result Content FrameFault) → read_as p (bytes_in cs) ≡ x → None ≡ frame_fault x → Holds p cs (bytes_in cs)
      contents (Ok c) e z = record { contents = c; bytes_read = e; line_reads = ap (λ z. then_by z (λ bs. carried (read_as p bs))) r.2 ∙ ap carried e }
      contents (Err d) e z = let z : ◌≡◌ {A = ℕ} 0 1 = cc in absurd (omega arith)
