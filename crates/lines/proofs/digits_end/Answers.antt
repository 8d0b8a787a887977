use Rattle.std.proofs.Common.{◌≡◌, ℕ, ◌+◌, true, false, List, ◌∷◌, sym, refl, ◌∙◌, arith, rules}
use Rattle.std.proofs.lemmas.Bool.{cond-true, cond-false}
use Rattle.std.proofs.lemmas.Iterator.{IsFirst-from_position, YieldsList-from_slice, index_from_first}
use borrow.Author.Tests.{tests}
use Rattle.lines.specs.Digits.{is_digit, digits_end}
use Rattle.lines.proofs.digits_end.Goals as goal

stops : (c : ℕ) (cs : List ℕ) → is_digit c ≡ false → digits_end (c ∷ cs) ≡ 0
stops c cs d = cond-false (is_digit c) (1 + digits_end cs) 0 d

goes : (c : ℕ) (cs : List ℕ) → is_digit c ≡ true → digits_end (c ∷ cs) ≡ digits_end cs + 1
goes c cs d = let more = cond-true (is_digit c) (1 + digits_end cs) 0 d in omega arith

pub returns : goal.returns
returns c =
    let cs = c.args.line.now in
    let first = IsFirst-from_position _ _ c.position.result (λ x. is_digit x ≡ false) (λ x. is_digit x ≡ true) c.position.ensures.ran
    (YieldsList-from_slice cs cc) (λ x q k. search (rules, tests)) (λ x q k. search (rules, tests)) in
    c.unwrap_or.ensures ∙ sym (index_from_first digits_end (λ x. is_digit x ≡ false) (λ x. is_digit x ≡ true) refl stops goes cs c.position.result first)
