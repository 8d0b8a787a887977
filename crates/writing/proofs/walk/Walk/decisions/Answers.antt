use Rattle.std.proofs.Common.{◌+◌, ◌-◌, ◌++◌, length, drop, sym, refl, ap, ◌∙◌, arith}
use Rattle.std.specs.List.{flat_map}
use Rattle.std.proofs.lemmas.List.{drop_all}
use Rattle.std.proofs.lemmas.List.Sums.{sum_by-drop_more}
use Rattle.std.proofs.lemmas.Result.{err_from_is_err_and}
use Rattle.frames.specs.Contents.{decision_bytes, parted}
use Rattle.frames.specs.Reading.{decisions_as}
use Rattle.reading.proofs.Walk.{decisions_next, decisions_fall, decisions_none}
use Rattle.writing.specs.Walking.{rest_of}
use Rattle.writing.proofs.Cuts.{decision_first, whole_cut}
use Rattle.writing.proofs.Steps.{stood, fell, stands, falls}
use Rattle.writing.proofs.walk.Walk.decisions.Goals as goal

pub returns-in_err-decision-clause-walked : goal.returns-in_err-decision-clause-walked
returns-in_err-decision-clause-walked c = λ p left met s.
    let x = err_from_is_err_and c.from_residual.result c.from_residual.ensures.1 in
    let cs = c.args.counted.now.draft.now.lengths.now in
    let i = c.loop-length.length-index in
    let lt = c.loop-length-test.true in
    let others = c.split_at.result.1.now in
    let (now, held, same) = c.loop-length.invariant.left_gives p left met s in
    let more = flat_map decision_bytes (parted (drop (i + 1) cs) others) ++ left in
    let bytes = decision_first cs i lt c.loop-length.entries.now c.split_at.result.0.now others c.split_at.ensures.front c.split_at.ensures.back left in
    let fails = fell p _ more _ c.decision.new.self (c.in_err-decision.ensures.walked p more now held) in
    rw (x.1, x.2) (falls p _ left _ c.decision.new.self (sym same ∙ ap (λ z. decisions_as p (length cs - i) (rest_of c.loop-length.self z now)) bytes ∙ decisions_fall p (length cs) i lt _ _ fails))

pub loop-length-preserved : goal.loop-length-preserved
loop-length-preserved c =
    let cs = c.args.counted.now.draft.now.lengths.now in
    let i = c.loop-length.length-index in
    let lt = c.loop-length-test.true in
    let es = c.loop-length.entries.now in
    let d = c.split_at.result.0.now in
    let others = c.split_at.result.1.now in
    let cut = c.split_at.ensures in
    let front_len = cut.front_len in
    let back_len = cut.back_len in
    let step = c.in_ok-decision.ensures in
    let place = step.place in
    let sum = sum_by-drop_more (λ x. x) cs i 0 lt in
    record {
      adds_up = omega arith;
      place = omega arith;
      whole = λ w. c.loop-length.invariant.whole (whole_cut cs i lt es d others cut.front cut.back step.whole w);
      left_gives = λ p left met s.
          let (now, held, same) = c.loop-length.invariant.left_gives p left met s in
          let more = flat_map decision_bytes (parted (drop (i + 1) cs) others) ++ left in
          let bytes = decision_first cs i lt es d others cut.front cut.back left in
          let one = stood p _ more c.decision.new.self (step.walked p more now held) in
          let on = ap (λ z. decisions_as p (length cs - i) (rest_of c.loop-length.self z now)) bytes ∙ decisions_next p (length cs) i lt _ one.rest one.is in
          (one.rest.met, one.here.met, ap (decisions_as p (length cs - (i + 1))) (sym one.here.rest) ∙ sym on ∙ same);
    }

pub returns-clause-walked : goal.returns-clause-walked
returns-clause-walked c = λ p left met s.
    let cs = c.args.counted.now.draft.now.lengths.now in
    let i = c.loop-length.length-index in
    let (now, held, same) = c.loop-length.invariant.left_gives p left met s in
    let all =
    ap (λ z. decisions_as p (length cs - i) (rest_of c.loop-length.self (flat_map decision_bytes (parted z c.loop-length.entries.now) ++ left) now)) (drop_all i cs c.loop-length-test.false) in
    stands p _ _ left c.loop-length.self (sym same ∙ all ∙ decisions_none p (length cs) i c.loop-length-test.false _) record { rest = refl; met = held }
