use Rattle.std.proofs.Common.{sym, ◌∙◌}
use Rattle.std.proofs.lemmas.Bool.{true≢false}
use Rattle.records.proofs.Rules.{rules, tested, broken}
use Rattle.records.proofs.BoxRecord.keeps_rules.Goals as goal

pub returns-then-not-numbers_keep : goal.returns-then-not-numbers_keep
returns-then-not-numbers_keep c = broken _ _ _ (λ t. true≢false (sym t.numbers ∙ sym c.numbers_keep.ensures ∙ c.if-not-numbers_keep.true))

pub returns-then-not-tables_fit : goal.returns-then-not-tables_fit
returns-then-not-tables_fit c = broken _ _ _ (λ t. true≢false (sym t.tables ∙ sym c.tables_fit.ensures ∙ c.if-not-tables_fit.true))

pub returns-then-not-lists_keep : goal.returns-then-not-lists_keep
returns-then-not-lists_keep c = broken _ _ _ (λ t. true≢false (sym (c.lists_keep.ensures.1 t.lists) ∙ c.if-not-lists_keep.true))

pub returns-then-not-ids_keep : goal.returns-then-not-ids_keep
returns-then-not-ids_keep c = broken _ _ _ (λ t. true≢false (sym t.ids ∙ sym c.ids_keep.ensures ∙ c.if-not-ids_keep.true))

pub returns : goal.returns
returns c = (
  λ h. rules _ _ _ (record {
    numbers = sym c.numbers_keep.ensures ∙ c.if-not-numbers_keep.false;
    tables = sym c.tables_fit.ensures ∙ c.if-not-tables_fit.false;
    lists = c.lists_keep.ensures.0 c.if-not-lists_keep.false;
    ids = sym c.ids_keep.ensures ∙ c.if-not-ids_keep.false;
    turn = c.turn_keeps.ensures.0 h;
  }),
  λ k. c.turn_keeps.ensures.1 (tested _ _ _ k).turn,
)
