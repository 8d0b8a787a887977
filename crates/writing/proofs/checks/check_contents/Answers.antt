use Rattle.std.proofs.Common.{◌^◌, ◌<◌, length, sym, ap, ◌∙◌, subst, arith}
use Rattle.std.proofs.lemmas.Result.{err_from_is_err_and}
use Rattle.std.proofs.ByRecursion.{All-from_get_or}
use Rattle.frames.specs.Contents.Content.{token}
use Rattle.reading.specs.declared.head.Head.{Head}
use Rattle.reading.specs.Heads.{head_as}
use Rattle.writing.specs.Parted.{drafted}
use Rattle.writing.specs.Checked.{Checks, Shaped}
use Rattle.writing.proofs.Fits.{sound_if}
use Rattle.writing.proofs.Lists.{head_fails, head_passes}
use Rattle.writing.proofs.checks.check_contents.Goals as goal

pub returns-in_err-test-clause-answer : goal.returns-in_err-test-clause-answer
returns-in_err-test-clause-answer c =
    let x = err_from_is_err_and c.from_residual.result c.from_residual.ensures.1 in
    let p = c.args.plan.now in
    let d = c.args.counted.now.draft.now in
    let head = c.head.ensures in
    let stamp = ap (λ (z : Head). z.stamp) head in
    let small : d.stamp < 2 ^ 32 = omega arith in
    rw (x.1, x.2) (head_fails p d small _ (c.in_err-test.ensures ∙ ap (λ z. head_as p z 10) head))

pub returns-clause-answer : goal.returns-clause-answer
returns-clause-answer c =
    let p = c.args.plan.now in
    let d = c.args.counted.now.draft.now in
    let head = c.head.ensures in
    let stamp = ap (λ (z : Head). z.stamp) head in
    let small : d.stamp < 2 ^ 32 = omega arith in
    subst (λ z. Checks z (token (drafted d)) c.check_lists.result) (sym (head_passes p d small (c.in_ok-test.ensures ∙ ap (λ z. head_as p z 10) head))) (c.check_lists.ensures.answer small)

pub returns-clause-sound : goal.returns-clause-sound
returns-clause-sound c =
    let p = c.args.plan.now in
    let counted = c.args.counted.now in
    let d = counted.draft.now in
    let head = c.head.ensures in
    let sender = ap (λ (z : Head). z.sender) head in
    let votes = ap (λ (z : Head). z.votes) head in
    let stamp = ap (λ (z : Head). z.stamp) head in
    let small : d.stamp < 2 ^ 32 = omega arith in
    let reads = head_passes p d small (c.in_ok-test.ensures ∙ ap (λ z. head_as p z 10) head) in
    let bytes = All-from_get_or (λ b. b < 256) d.lengths.now 0 (λ k _. counted.bytes k) in
    let shaped : Shaped (length d.proposal.now) d.lengths.now (length d.entries.now) = record { proposed_fits = counted.proposed_fits; decided_fits = counted.decided_fits; adds-up = counted.adds_up } in
    let checked = subst (λ z. Checks z (token (drafted d)) c.check_lists.result) (sym reads) (c.check_lists.ensures.answer small) in
    sound_if p d (omega arith) (omega arith) bytes shaped c.check_lists.result checked c.check_lists.ensures.whole
