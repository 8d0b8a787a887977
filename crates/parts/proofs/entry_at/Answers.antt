use Rattle.std.proofs.Common.{◌≡◌, ◌*◌, ◌/◌, ◌<◌, ◌≤◌, length, drop, Some, sym, ap, ◌∙◌, arith}
use Rattle.std.proofs.lemmas.Bool.{cond-true, cond-false, lt-ltb, le-ltb}
use Rattle.frames.specs.Reading.{entry_in}
use Rattle.parts.proofs.At.{entry_past, entry_is, entry-in-chunk}
use Rattle.parts.proofs.entry_at.Goals as goal

pub returns-in_err-bytes : goal.returns-in_err-bytes
returns-in_err-bytes c =
    let count = c.as_chunks.ensures.front_len in
    let past = c.in_err-bytes.ensures.lookup.3 in
    let h : length c.args.part.now / 9 ≤ c.args.i = omega arith in
    record {
      value = c.from_residual.ensures ∙ sym (cond-false _ _ _ (le-ltb c.args.i (length c.args.part.now / 9) h));
      entries = λ es w q. c.from_residual.ensures ∙ sym (entry_past c.args.part.now es c.args.i h w q);
    }

pub returns : goal.returns
returns c =
    let bs = c.args.part.now in
    let i = c.args.i in
    let chunks = c.as_chunks.ensures in
    let at = c.in_ok-bytes.ensures.lookup in
    let within = at.3.0 in
    let count = chunks.front_len in
    let h : i < length bs / 9 = omega arith in
    let here : Some c.entry_of.result ≡ Some (entry_in (drop (9 * i) bs)) = ap Some (c.entry_of.ensures ∙ entry-in-chunk bs i _ _ chunks.front h at.1) in
    record {
      value = here ∙ sym (cond-true _ _ _ (lt-ltb i (length bs / 9) h));
      entries = λ es w q. here ∙ entry_is bs es i h w q;
    }
