-- How writing ends.
use Rattle.std.proofs.Common.{◌≡◌, ℕ, ◌<◌, ◌≤◌, not, List, ◌++◌, length, take, drop, is_some, Some, None, Ok, Err, Decides, Option, sym, refl, ap, ◌∙◌, arith}
use Rattle.std.specs.Option.{option_map}
use Rattle.std.proofs.lemmas.List.{take_at}
use Rattle.std.proofs.lemmas.Bool.{cond-true, cond-false, le-ltb, lt-ltb, eq-eqb, true≢false}
use Rattle.frames.specs.declared.plan.Plan.{Plan}
use Rattle.frames.specs.declared.FrameFault.{FrameFault}
use Rattle.frames.specs.Contents.{Content, bytes_of}
use Rattle.frames.specs.Reading.{read_as}
use Rattle.writing.specs.declared.WriteFault.{WriteFault}
use Rattle.writing.specs.declared.WriteFault.TheVariants as refused
use Rattle.frames.specs.Contents.Content.{token}
use Rattle.writing.specs.declared.Draft.{Draft}
use Rattle.writing.specs.Parted.{drafted}
use Rattle.writing.specs.Checked.{Faultless, Sound, LawfulDraft}
use Rattle.writing.specs.Written.{refusal, answer, buffer, Writes, shape_fault, draft_fault, content_fault, first_of, fault_of}
use Rattle.frames.proofs.Written.{written}

module _ (p : Plan) (c : Content) (e : Option FrameFault) (out : List ℕ) where
  refused_as : (w : WriteFault) → refusal out e ≡ Some w → Writes p c e out out (Err w)
  refused_as w q = record { answered = sym (ap (λ z. answer z (bytes_of p c)) q); left = sym (ap (λ z. buffer z (bytes_of p c) out) q); back = tt }

  pub short : length out < 1060 → Writes p c e out out (Err refused.Short)
  short h = refused_as refused.Short (cond-true _ _ _ (lt-ltb (length out) 1060 h))

  roomy : 1060 ≤ length out → refusal out e ≡ option_map refused.Frame e
  roomy h = cond-false _ _ _ (le-ltb (length out) 1060 h)

  pub done : (n : ℕ) (after : List ℕ) → 1060 ≤ length out → e ≡ None → n ≡ length (bytes_of p c) → after ≡ bytes_of p c ++ drop n out → read_as p (bytes_of p c) ≡ Ok c → Writes p c e out after (Ok n)
  done n after h q k w r =
      let none : refusal out e ≡ None = roomy h ∙ ap (option_map refused.Frame) q in
      record {
        answered = ap Ok k ∙ sym (ap (λ z. answer z (bytes_of p c)) none);
        left = w ∙ ap (λ z. bytes_of p c ++ drop z out) k ∙ sym (ap (λ z. buffer z (bytes_of p c) out) none);
        back = ap (read_as p) (ap (take n) w ∙ take_at (bytes_of p c) (drop n out) n (sym k)) ∙ r;
      }

-- a lawful draft has no fault
pub faultless : (p : Plan) (d : Draft) → LawfulDraft p d → draft_fault p d ≡ None
faultless p d l =
    let s = l.shape in
    let shape : shape_fault (length d.proposal.now) d.lengths.now (length d.entries.now) ≡ None =
    cond-false _ _ _ (le-ltb 255 (length d.proposal.now) s.proposed_fits) ∙ cond-false _ _ _ (le-ltb 255 (length d.lengths.now) s.decided_fits)
    ∙ cond-true _ _ _ (eq-eqb _ _ s.adds-up) in
    ap (λ z. first_of z (content_fault p (token (drafted d)))) shape ∙ ap fault_of (written p (token (drafted d)) l.token)

pub decided : (p : Plan) (d : Draft) (r : Option FrameFault) → r ≡ draft_fault p d → Faultless r (Sound p d) → Decides (not (is_some r)) (LawfulDraft p d)
decided p d None q s = (λ _. record { shape = s.shaped; token = s.lawful }, λ _. refl)
decided p d (Some e) q s = (λ z. absurd (true≢false (sym z)), λ l. absurd (apart (q ∙ faultless p d l)))
  where
    apart : Some e ≡ None → ⊥
    apart z = let n : ◌≡◌ {A = ℕ} 0 1 = cc in omega arith
