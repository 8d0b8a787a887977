use Rattle.std.proofs.Common.{◌≤◌, [], ◌++◌, length, sym, ap, ◌∙◌, subst, arith}
use Rattle.std.proofs.lemmas.List.{append-nil}
use Rattle.std.specs.List.{flat_map}
use Rattle.std.proofs.lemmas.List.Elements.{All-from_get_or}
use Rattle.std.proofs.lemmas.List.Sums.{sum_by-le}
use Rattle.frames.specs.Contents.{decision_bytes, entry_bytes, parted}
use Rattle.frames.specs.Reading.{entries_as, decisions_as}
use Rattle.writing.specs.Walking.{Walks, rest_of}
use Rattle.writing.proofs.Lists.{lists_end}
use Rattle.writing.proofs.Steps.{stood}
use Rattle.writing.proofs.checks.check_lists.Goals as goal

pub decisions-requires : goal.decisions-requires
decisions-requires c =
    let counted = c.args.counted.now in
    let cs = counted.draft.now.lengths.now in
    let few = sum_by-le (λ x. x) 255 cs (All-from_get_or (λ x. x ≤ 255) cs 0 (λ k _. omega (arith, counted.bytes k))) in
    let proposed = counted.proposed_fits in
    let decided = counted.decided_fits in
    let entries = counted.adds_up in
    let place = c.in_ok-entries.ensures.place in
    let at = c.new-walk.ensures.at in
    omega arith

pub returns-clause-answer : goal.returns-clause-answer
returns-clause-answer c = λ h.
    let p = c.args.plan.now in
    let d = c.args.counted.now.draft.now in
    let D = flat_map decision_bytes (parted d.lengths.now d.entries.now) in
    let new = c.new-walk.ensures in
    let E = flat_map entry_bytes d.proposal.now ++ D in
    let one = stood p _ D c.entries.new.self (c.in_ok-entries.ensures.walked p D [] new.ids) in
    let is = ap (λ z. entries_as p (length d.proposal.now) 0 (record { at = z; bytes = E; met = [] })) (sym new.at) ∙ one.is in
    let here = (λ i. rest_of c.entries.new.self (append-nil D i) one.rest.met) ∙ sym one.here.rest in
    let on = subst (λ z. Walks p (decisions_as p (length d.lengths.now) z) [] c.decisions.result c.decisions.new.self) here (c.decisions.ensures.walked p [] one.rest.met one.here.met) in
    lists_end p d h one.rest is c.decisions.result c.decisions.new.self on c.in_ok-entries.ensures.whole c.decisions.ensures.whole
