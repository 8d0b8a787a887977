use Rattle.std.proofs.Common.{◌+◌, ◌-◌, [], ◌++◌, length, get_or, drop, sym, refl, ap, ◌∙◌, arith}
use Rattle.std.specs.List.{flat_map}
use Rattle.std.proofs.lemmas.List.{drop_more, drop_all}
use Rattle.std.proofs.lemmas.Result.{err_from_is_err_and}
use Rattle.frames.specs.declared.Entry.{Entry}
use Rattle.frames.specs.Contents.{entry_bytes}
use Rattle.frames.specs.Reading.{entries_as}
use Rattle.reading.proofs.Walk.{entries_next, entries_fall, entries_none}
use Rattle.writing.specs.Walking.{rest_of}
use Rattle.writing.proofs.Steps.{stood, fell, stands, falls, front_entry, all_more}
use Rattle.writing.proofs.walk.Walk.entries.Goals as goal

abbrev none : Entry
none = record { id = 0; body = [] }

pub returns-in_err-entry-clause-walked : goal.returns-in_err-entry-clause-walked
returns-in_err-entry-clause-walked c = λ p left met s.
    let x = err_from_is_err_and c.from_residual.result c.from_residual.ensures.1 in
    let es = c.args.entries.now in
    let i = c.loop-id.id-index in
    let lt = c.loop-id-test.true in
    let (now, held, same) = c.loop-id.invariant.left_gives p left met record { for_plan = s.for_plan; holds = s.holds } in
    let more = flat_map entry_bytes (drop (i + 1) es) ++ left in
    let bytes = front_entry es i (get_or es i none) left (drop_more es i none lt) in
    let fails = fell p _ more _ c.entry.new.self (c.in_err-entry.ensures.walked p more now held) in
    rw (x.1, x.2) (falls p _ left _ c.entry.new.self (sym same ∙ ap (λ z. entries_as p (length es - i) c.loop-id.self.ids.last (rest_of c.loop-id.self z now)) bytes ∙ entries_fall p (length es) i lt _ _ _ fails))

pub loop-id-preserved : goal.loop-id-preserved
loop-id-preserved c =
    let es = c.args.entries.now in
    let i = c.loop-id.id-index in
    let lt = c.loop-id-test.true in
    let step = c.in_ok-entry.ensures in
    let place = step.place in
    record {
      place = omega arith;
      whole = all_more es i none c.loop-id.invariant.whole step.whole lt;
      left_gives = λ p left met s.
          let (now, held, same) = c.loop-id.invariant.left_gives p left met s in
          let more = flat_map entry_bytes (drop (i + 1) es) ++ left in
          let bytes = front_entry es i (get_or es i none) left (drop_more es i none lt) in
          let one = stood p _ more c.entry.new.self (step.walked p more now held) in
          let on = ap (λ z. entries_as p (length es - i) c.loop-id.self.ids.last (rest_of c.loop-id.self z now)) bytes ∙ entries_next p (length es) i lt _ _ one.rest one.is in
          (one.rest.met, one.here.met, (λ k. entries_as p (length es - (i + 1)) (step.last k) (sym one.here.rest k)) ∙ sym on ∙ same);
    }

pub returns-clause-walked : goal.returns-clause-walked
returns-clause-walked c = λ p left met s.
    let es = c.args.entries.now in
    let i = c.loop-id.id-index in
    let (now, held, same) = c.loop-id.invariant.left_gives p left met record { for_plan = s.for_plan; holds = s.holds } in
    let all = ap (λ z. entries_as p (length es - i) c.loop-id.self.ids.last (rest_of c.loop-id.self (flat_map entry_bytes z ++ left) now)) (drop_all i es c.loop-id-test.false) in
    stands p _ _ left c.loop-id.self (sym same ∙ all ∙ entries_none p (length es) i c.loop-id-test.false _ _) record { rest = refl; met = held }
