-- Lawful contents are written: they are not refused, and stand at the front of the buffer.
use Rattle.std.proofs.Common.{◌≡◌, ℕ, ◌≤◌, true, List, length, take, is_ok, None, Ok, Result, ap, ◌∙◌, subst}
use Rattle.std.specs.Option.{option_map}
use Rattle.std.proofs.lemmas.Bool.{cond-false, le-ltb}
use Rattle.frames.specs.declared.plan.Plan.{Plan}
use Rattle.frames.specs.Contents.{Content, Lawful, frame_most, bytes_of}
use Rattle.frames.specs.Reading.{read_as}
use Rattle.frames.proofs.Written.{written}
use Rattle.writing.specs.declared.WriteFault.{WriteFault}
use Rattle.writing.specs.declared.WriteFault.TheVariants as refused
use Rattle.writing.specs.Written.{Writes, ReadsBack, content_fault, fault_of, refusal, answer, buffer}
use Rattle.boxes.specs.Calls.{at_front}

module _ (p : Plan) (c : Content) (out after : List ℕ) (r : Result ℕ WriteFault) (w : Writes p c (content_fault p c) out after r) (room : frame_most ≤ length out) (lawful : Lawful p c) where
  not_refused : refusal out (content_fault p c) ≡ None
  not_refused = cond-false _ _ _ (le-ltb (length out) frame_most room) ∙ ap (λ z. option_map refused.Frame (fault_of z)) (written p c lawful)

  answered : r ≡ Ok (length (bytes_of p c))
  answered = w.answered ∙ ap (λ z. answer z (bytes_of p c)) not_refused

  pub accepted : is_ok r ≡ true
  accepted = ap is_ok answered

  pub long : (n : ℕ) → r ≡ Ok n → n ≡ length (bytes_of p c)
  long n q = let a = answered in cc

  pub front : after ≡ at_front (bytes_of p c) out
  front = w.left ∙ ap (λ z. buffer z (bytes_of p c) out) not_refused

  pub reads : (n : ℕ) → r ≡ Ok n → read_as p (take n after) ≡ Ok c
  reads n q = subst (λ z. ReadsBack p c z after) q w.back
