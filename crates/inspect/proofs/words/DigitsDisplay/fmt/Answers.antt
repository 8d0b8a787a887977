use Rattle.std.proofs.Common.{arith, rules}
use Rattle.std.proofs.Output.{has_written_append, has_written_of_eq}
use Rattle.inspect.proofs.More.{digits_more}
use Rattle.inspect.proofs.words.DigitsDisplay.fmt.Goals as goal

pub loop-byte-preserved : goal.loop-byte-preserved
loop-byte-preserved g c = λ plain.
    let so_far = c.loop-byte.invariant plain in
    has_written_of_eq _ _ _ _ _ (digits_more c.args.self.now.0.now c.loop-byte.byte-index c.loop-byte-test.true (omega arith)) (has_written_append _ _ _ _ _ _ so_far (search rules))
