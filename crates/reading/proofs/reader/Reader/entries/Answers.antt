use Rattle.std.proofs.Common.{◌+◌, ◌-◌, sym, refl, ◌∙◌}
use Rattle.frames.specs.Reading.{entries_as}
use Rattle.std.proofs.lemmas.Result.{err_from_is_err_and}
use Rattle.reading.specs.Walking.{rest_of}
use Rattle.reading.proofs.Walk.{stood, fell, stands, falls, entries_next, entries_fall, entries_none}
use Rattle.reading.proofs.reader.Reader.entries.Goals as goal

pub returns-in_err-entry : goal.returns-in_err-entry
returns-in_err-entry c = λ p met s.
    let x = err_from_is_err_and c.from_residual.result c.from_residual.ensures.1 in
    let (now, held, same) = c.loop.invariant p met record { for_plan = s.for_plan; holds = s.holds } in
    rw (x.1, x.2) (falls p _ _ c.entry.new.self (sym same ∙ entries_fall p c.args.count c.loop.counter c.loop-test.true _ _ _ (fell p _ _ c.entry.new.self (c.in_err-entry.ensures.read p now held))))

pub loop-preserved : goal.loop-preserved
loop-preserved c = λ p met s.
    let (now, held, same) = c.loop.invariant p met s in
    let one = stood p _ c.entry.new.self (c.in_ok-entry.ensures.read p now held) in
    let on = entries_next p c.args.count c.loop.counter c.loop-test.true _ _ one.rest one.is in
    (one.rest.met, one.here.met, (λ i. entries_as p (c.args.count - (c.loop.counter + 1)) (c.in_ok-entry.ensures.last i) (sym one.here.rest i)) ∙ sym on ∙ same)

pub returns : goal.returns
returns c = λ p met s.
    let (now, held, same) = c.loop.invariant p met record { for_plan = s.for_plan; holds = s.holds } in
    stands p _ (rest_of c.loop.self now) c.loop.self (sym same ∙ entries_none p c.args.count c.loop.counter c.loop-test.false _ _) record { rest = refl; met = held }
