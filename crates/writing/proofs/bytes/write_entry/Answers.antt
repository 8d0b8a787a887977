use Rattle.std.proofs.Common.{◌≡◌, suc, ◌+◌, ◌-◌, [], ◌∷◌, length, sym, refl, ap, ◌∙◌, arith}
use lib.Seq.{paste}
use Rattle.std.proofs.lemmas.Slice.{put_mid-paste}
use Rattle.std.proofs.lemmas.List.Edits.{paste-paste}
use Rattle.writing.proofs.Pastes.{set_is_paste}
use Rattle.writing.proofs.bytes.write_entry.Goals as goal

pub returns : goal.returns
returns c =
    let out = c.args.out.now in
    let at = c.args.at in
    let body = c.args.entry.now.body in
    let eight : length body ≡ 8 = omega arith in
    let k : at + 9 - (at + 1) ≡ 8 = omega arith in
    let one = set_is_paste out at c.args.entry.now.id (omega arith) in
    let three = paste-paste out at (c.args.entry.now.id ∷ []) body 1 8 refl (sym eight) (omega arith) in
    let two = put_mid-paste (at + 1) 8 _ _ body 8 c.copy_from_slice.ensures.after refl (sym eight) in
    record { bytes = rw k (two ∙ ap (λ z. paste z (at + 1) body 8) one ∙ three); long = ap suc eight }
