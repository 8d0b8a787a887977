-- The kind and plan byte of a frame.
use Rattle.std.proofs.Common.{◌≡◌, ℕ, ◌<◌, ◌≤◌, Bool, true, false, cond, ltb, List, length, get_or, Ok, Err, MatchResult, Result, sym, refl, ◌∙◌, subst, inl, inr, arith}
use Rattle.std.proofs.lemmas.Bool.{ltb-true}
use Rattle.frames.specs.declared.Cause.{Cause}
use Rattle.frames.specs.declared.Cause.TheVariants as cause
use Rattle.frames.specs.declared.FrameFault.{FrameFault}
use Rattle.frames.specs.declared.FrameKind.{FrameKind}
use Rattle.frames.specs.declared.FrameKind.TheVariants as kind
use Rattle.frames.specs.declared.plan.Plan.{Plan}
use Rattle.frames.specs.Contents.{NamesKind, plan_byte}
use Rattle.frames.proofs.Steps.{no_fault}
use Rattle.frames.proofs.Written.{by_kind}
use Rattle.reading.specs.Walking.{byte_as, Started}

there : (b : Bool) (x y : ℕ) (e : FrameFault) → cond b (Ok x) (Err e) ≡ Ok y → (b ≡ true) × (x ≡ y)
there true x y e q = (refl, cc)
there false x y e q = absurd (no_fault e y q)

module _ (p : Plan) (bs : List ℕ) (a b : ℕ) (first : byte_as bs 0 ≡ Ok a) (second : byte_as bs 1 ≡ Ok b) (ours : b ≡ plan_byte p) where
  at_0 : (ltb 0 (length bs) ≡ true) × (get_or bs 0 0 ≡ a)
  at_0 = there _ _ a (record { place = length bs; cause = cause.Length }) first

  at_1 : (ltb 1 (length bs) ≡ true) × (get_or bs 1 0 ≡ b)
  at_1 = there _ _ b (record { place = length bs; cause = cause.Length }) second

  two : 2 ≤ length bs
  two = let h : 1 < length bs = ltb-true _ _ at_1.0 in omega arith

  pub started : (k : FrameKind) → NamesKind a (Ok k) → Started p bs (Ok k)
  started kind.Order e = (two, by_kind p bs two (at_1.1 ∙ ours) 1 (inl refl) (at_0.1 ∙ e))
  started kind.Token e = (two, by_kind p bs two (at_1.1 ∙ ours) 2 (inr refl) (at_0.1 ∙ e))

-- the kind that is handed on is the one that the byte names
pub named : {Q : Cause → Type 0} (a : ℕ) (k : FrameKind) (r : Result FrameKind Cause) → MatchResult r (λ x. ◌≡◌ {A = Result FrameKind FrameFault} (Ok k) (Ok x)) Q → ((e : Cause) → Q e → ⊥) → NamesKind a r → NamesKind a (Ok k)
named a k (Ok x) h f n = let e : k ≡ x = cc in subst (λ z. NamesKind a (Ok z)) (sym e) n
named a k (Err e) h f n = absurd (f e h)
