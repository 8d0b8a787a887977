-- A text line by its parts.
use Rattle.std.proofs.Common.{◌≡◌, ℕ, ◌+◌, ◌*◌, cond, eqb, List, get_or, drop, Ok, Err, Result, sym, ap, ◌∙◌}
use Rattle.std.proofs.lemmas.Bool.{cond-true, eq-eqb}
use Rattle.inspect.specs.declared.texts.TextFault.{TextFault}
use Rattle.inspect.specs.declared.texts.TextFault.TheVariants as fault
use Rattle.inspect.specs.Form.{digit_at, and_then, split_as}

pub split_ok : (cs : List ℕ) (high low : ℕ) → Ok high ≡ digit_at cs 0 → Ok low ≡ digit_at cs 1 → get_or cs 2 0 ≡ 32 → split_as cs ≡ Ok (16 * high + low, drop 3 cs)
split_ok cs high low h l s =
    ap (λ z. and_then z (λ high. and_then (digit_at cs 1) (last high))) (sym h) ∙ ap (λ z. and_then z (last high)) (sym l)
    ∙ cond-true _ _ _ (eq-eqb _ _ s)
  where
    last : ℕ → ℕ → Result (ℕ × List ℕ) TextFault
    last high low = cond (eqb (get_or cs 2 0) 32) (Ok (16 * high + low, drop 3 cs)) (Err (fault.Form 2))
