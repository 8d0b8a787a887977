use Rattle.std.proofs.Common.{◌≡◌, ℕ, ◌+◌, ◌*◌, ◌≤◌, List, [], ◌∷◌, ◌++◌, length, get_or, drop, sym, refl, ◌∙◌}
use Rattle.std.specs.List.{flat_map}
use Rattle.std.proofs.lemmas.List.{length-append}
use Rattle.frames.specs.Contents.{entry_bytes, decision_bytes, parted}
use Rattle.writing.specs.Parted.{drafted}
use Rattle.std.proofs.lemmas.Slice.{put_mid-paste}
use Rattle.writing.proofs.Cuts.{three_parts}
use Rattle.writing.proofs.Lists.{parted_count}
use Rattle.writing.proofs.bytes.write_parts.Goals as goal

pub returns-clause-bytes : goal.returns-clause-bytes
returns-clause-bytes c =
    let draft = c.args.counted.now.draft.now in
    let E = flat_map entry_bytes draft.proposal.now in
    let D = flat_map decision_bytes (parted draft.lengths.now draft.entries.now) in
    let head : ℕ → List ℕ → ℕ → List ℕ = λ b z m.
    2 ∷ b ∷ draft.sender ∷ get_or z 0 0 ∷ get_or z 1 0 ∷ get_or z 2 0 ∷ get_or z 3 0 ∷ draft.votes ∷ length draft.proposal.now ∷ m ∷ [] in
    let n : length (parted draft.lengths.now draft.entries.now) ≡ length draft.lengths.now = parted_count draft.lengths.now draft.entries.now in
    let one = put_mid-paste 0 10 c.args.out.now _ _ 10 c.copy_from_slice.ensures.after refl refl in
    let long = c.write_entries-middle.ensures.long in
    let decided = c.write_decisions.ensures.long in
    let middle = c.write_entries-middle.ensures.end in
    let end = c.write_decisions.ensures.end in
    let sum = length-append E D in
    let fits : 10 + 9 * length draft.proposal.now + (length draft.lengths.now + 9 * length draft.entries.now) ≤ length c.args.out.now = c.requires in
    let t = drafted draft in
    three_parts c.args.out.now (head c.byte.result c.to_be_bytes.result (length draft.lengths.now)) E D _ _ _ 10 _ _ c.write_entries-middle.result
    refl (sym long) (sym decided) fits one c.write_entries-middle.ensures.bytes middle c.write_decisions.ensures.bytes
    ∙ (λ i. head (c.byte.ensures i) (c.to_be_bytes.ensures i) (sym n i) ++ ((E ++ D) ++ drop (sym end i) c.args.out.now))
