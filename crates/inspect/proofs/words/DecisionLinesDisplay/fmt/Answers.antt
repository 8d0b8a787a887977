use Rattle.std.proofs.Common.{◌≡◌, ◌+◌, ◌^◌, ◌<◌, true, [], ◌++◌, length, refl, ap, ◌∙◌, inl, arith}
use Rattle.std.proofs.Output.{writes_in_calls_nil, has_written_append}
use Rattle.std.specs.Iterator.Adapters.{enumerate_source, enumerate_count}
use Rattle.parts.specs.Going.{entries_of, decisions_of}
use Rattle.parts.proofs.Splits.{length-decisions}
use Rattle.inspect.specs.Telling.{entry_lines, numbered, decision_lines}
use Rattle.inspect.proofs.More.{decision_told}
use Rattle.inspect.proofs.words.DecisionLinesDisplay.fmt.Goals as goal

pub loop-k-init : goal.loop-k-init
loop-k-init g c =
    let it = c.into_iter-k-iterator.result in
    let bs = c.args.self.now.0.now in
    let same = c.into_iter-k-iterator.ensures.into_iter_gives in
    let left : enumerate_source it ≡ decisions_of bs = ap enumerate_source same ∙ c.enumerate-k-items.ensures.source ∙ c.new.ensures.value in
    let count : enumerate_count it ≡ 0 = ap enumerate_count same ∙ c.enumerate-k-items.ensures.count in
    let fits : enumerate_count it + length (enumerate_source it) < 2 ^ 64 = omega (arith, ap length left, length-decisions bs) in
    ((tt, tt, inl fits), tt, fits, λ plain. ([], record { wrote = writes_in_calls_nil _ _; plain = plain }, λ i. decision_lines (count i + 1) (left i)))

pub loop-k-preserved : goal.loop-k-preserved
loop-k-preserved g c =
    let it = c.loop-k.k-iterator in
    let next = c.next.new.self in
    let (given, number, counted, more) = c.in-Some.ensures.steps in
    let fits : enumerate_count next + length (enumerate_source next) < 2 ^ 64 = omega (arith, ap length given, counted, c.loop-k.invariant.2) in
    let es = entries_of c.as_bytes-part.result.now in
    let lines = entry_lines (numbered (c.in-Some.k + 1)) es in (
      (tt, tt, inl fits),
      tt,
      fits,
      λ plain.
          let so_far = c.loop-k.invariant.3 plain in (
            so_far.0 ++ lines,
            has_written_append g.W.Write.write_str_gives c.args.f.now so_far.0 c.loop-k.f lines c.write.new.self so_far.1 (c.in_ok-write.ensures.writes so_far.1.plain (refl {a = true})),
            decision_told so_far.0 (decision_lines 1 (decisions_of c.args.self.now.0.now)) c.in-Some.k (enumerate_count it) (enumerate_count next) es c.in-Some.decision (enumerate_source it) (enumerate_source next) given number counted c.as_bytes-part.ensures so_far.2,
          ),
    )
