use Rattle.std.proofs.Common.{◌+◌, ◌-◌, sym, refl, ◌∙◌}
use Rattle.frames.specs.Reading.{decisions_as}
use Rattle.std.proofs.lemmas.Result.{err_from_is_err_and}
use Rattle.reading.specs.Walking.{rest_of}
use Rattle.reading.proofs.Walk.{stood, fell, stands, falls, decisions_next, decisions_fall, decisions_none}
use Rattle.reading.proofs.reader.Reader.decisions.Goals as goal

pub returns-in_err-decision : goal.returns-in_err-decision
returns-in_err-decision c = λ p met s.
    let x = err_from_is_err_and c.from_residual.result c.from_residual.ensures.1 in
    let (now, held, same) = c.loop.invariant p met s in
    rw (x.1, x.2) (falls p _ _ c.decision.new.self (sym same ∙ decisions_fall p c.args.count c.loop.counter c.loop-test.true _ _ (fell p _ _ c.decision.new.self (c.in_err-decision.ensures p now held))))

pub loop-preserved : goal.loop-preserved
loop-preserved c = λ p met s.
    let (now, held, same) = c.loop.invariant p met s in
    let one = stood p _ c.decision.new.self (c.in_ok-decision.ensures p now held) in
    let on = decisions_next p c.args.count c.loop.counter c.loop-test.true _ one.rest one.is in
    (one.rest.met, one.here.met, (λ i. decisions_as p (c.args.count - (c.loop.counter + 1)) (sym one.here.rest i)) ∙ sym on ∙ same)

pub returns : goal.returns
returns c = λ p met s.
    let (now, held, same) = c.loop.invariant p met s in
    stands p _ (rest_of c.loop.self now) c.loop.self (sym same ∙ decisions_none p c.args.count c.loop.counter c.loop-test.false _) record { rest = refl; met = held }
