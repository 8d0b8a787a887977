use Rattle.std.proofs.Common.{◌≡◌, Bool, true, false, not, is_some, sym, refl, ap, ◌∙◌}
use Rattle.writing.proofs.Endings.{decided}
use Rattle.writing.proofs.is_lawful.Goals as goal

pub returns : goal.returns
returns c =
    let d = decided c.args.plan.now c.args.draft.now c.draft_fault.result c.draft_fault.ensures.value c.draft_fault.ensures.sound in
    let none : not (is_some c.draft_fault.result) ≡ c.is_none.result = ap not c.is_none.ensures ∙ not-not c.is_none.result in
    (λ h. d.0 (none ∙ h), λ l. sym none ∙ d.1 l)
  where
    not-not : (b : Bool) → not (not b) ≡ b
    not-not true = refl
    not-not false = refl
