use Rattle.std.proofs.Common.{◌≡◌, ◌+◌, ◌*◌, [], length, get_or, take, sym, refl, ap, ◌∙◌, arith}
use Rattle.std.specs.List.{flat_map}
use Rattle.std.proofs.lemmas.List.{take_more, flat_map_more, length-append, take_all}
use Rattle.std.proofs.lemmas.List.Edits.{paste-paste, paste_none}
use Rattle.frames.specs.Contents.{entry_bytes}
use Rattle.writing.proofs.bytes.write_entries.Goals as goal

pub loop-i-init : goal.loop-i-init
loop-i-init c = record { long = refl; bytes = paste_none c.args.out.now c.args.at [] }

pub loop-i-preserved : goal.loop-i-preserved
loop-i-preserved c =
    let xs = c.args.entries.now in
    let i = c.loop-i.i in
    let e = get_or xs i (record { id = 0; body = [] }) in
    let more = ap (flat_map entry_bytes) (take_more xs i (record { id = 0; body = [] }) c.loop-i-test.true) ∙ sym (flat_map_more entry_bytes [] (take i xs) e) in
    let long = c.write_entry.ensures.long in
    let n : 9 * i + 9 ≡ 9 * (i + 1) = omega arith in
    let both = paste-paste c.args.out.now c.args.at (flat_map entry_bytes (take i xs)) (entry_bytes e) (9 * i) 9 (sym c.loop-i.invariant.long) (sym long) (omega arith) in
    let w = c.write_entry.ensures.bytes in
    let sum = length-append (flat_map entry_bytes (take i xs)) (entry_bytes e) in
    record { long = ap length more ∙ omega (arith, sum, long); bytes = cc }

pub returns : goal.returns
returns c =
    let n : c.loop-i.i ≡ length c.args.entries.now = omega arith in
    let all = take_all c.loop-i.i c.args.entries.now (omega arith) in
    record { end = omega arith; bytes = cc; long = ap (λ z. length (flat_map entry_bytes z)) (sym all) ∙ c.loop-i.invariant.long ∙ omega arith }
