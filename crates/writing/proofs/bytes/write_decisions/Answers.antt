use Rattle.std.proofs.Common.{◌≡◌, ◌+◌, ◌*◌, ◌++◌, ◌∷◌, length, get_or, set, sym, refl, ap, ◌∙◌, arith, length-append}
use lib.Seq.{paste}
use Rattle.std.specs.List.{flat_map}
use Rattle.std.proofs.lemmas.List.{append_assoc}
use Rattle.std.proofs.lemmas.List.Sums.{sum_by-drop_more}
use Rattle.frames.specs.Contents.{entry_bytes, decision_bytes}
use Rattle.writing.proofs.Cuts.{decision_cut, one-more}
use Rattle.writing.proofs.bytes.write_decisions.Goals as goal

pub loop-length-preserved : goal.loop-length-preserved
loop-length-preserved c =
    let (done, inv) = c.loop-length.invariant in
    let cs = c.args.counted.now.draft.now.lengths.now in
    let i = c.loop-length.length-index in
    let lt = c.loop-length-test.true in
    let es = c.loop-length.entries.now in
    let d = c.split_at.result.0.now in
    let others = c.split_at.result.1.now in
    let cut = c.split_at.ensures in
    let front_len = cut.front_len in
    let back_len = cut.back_len in
    let sum = sum_by-drop_more (λ x. x) cs i 0 lt in
    let E = flat_map entry_bytes d in
    let long = c.write_entries-to.ensures.long in
    let k = length done in
    let n = length-append done (decision_bytes d) in
    let len : k + (1 + 9 * length d) ≡ length (done ++ decision_bytes d) = omega arith in
    let at = inv.place in
    let written = one-more c.args.out.now c.args.at done k (get_or cs i 0) E (9 * length d) refl (sym long) (omega arith) in (
      done ++ decision_bytes d,
      record {
        adds_up = omega arith;
        long = omega arith;
        place = omega arith;
        bytes = c.write_entries-to.ensures.bytes ∙ (λ j. paste (set (inv.bytes j) (at j) (get_or cs i 0)) (at j + 1) E (9 * length d)) ∙ written
            ∙ (λ j. paste c.args.out.now c.args.at (done ++ (sym front_len j ∷ E)) (len j));
        whole = inv.whole ∙ ap (λ z. done ++ z) (decision_cut cs i lt es d others cut.front cut.back) ∙ sym (append_assoc done (decision_bytes d) _);
      },
    )
