use Rattle.std.proofs.Common.{◌≡◌, ◌<◌, length, sym, ap, ◌∙◌, arith, length-take}
use Rattle.std.proofs.lemmas.Bool.{true≢false}
use Rattle.std.proofs.lemmas.Grind.{common_steps}
use Rattle.lists.specs.Tables.{held, with_part}
use Rattle.logs.specs.Logs.{log_of, lengths_of}
use Rattle.logs.proofs.Parted.{length_parted}
use Rattle.logs.proofs.Sound.{is_appended, log_after, sound}
use Rattle.logs.proofs.Log.append.Goals as goal

pub returns-clause-meaning : goal.returns-clause-meaning
returns-clause-meaning c =
    let l = c.args.self.now in
    let d = c.args.decision.now in
    let room : l.decided < length l.lengths = omega arith in
    let made : c.extend.new.self ≡ with_part d l.entries = grind (arith, common_steps) in
    ap log_of (is_appended l d _ made) ∙ log_after l d room (sym c.if-not-adds_up.ensures)

pub returns-then-self-ge-DECISIONS-clause-room : goal.returns-then-self-ge-DECISIONS-clause-room
returns-then-self-ge-DECISIONS-clause-room c _ _ few _ =
    let l = c.args.self.now in
    absurd (omega (arith, length_parted (lengths_of l) (held l.entries), length-take l.decided l.lengths))

pub returns-in_err-extend-clause-room : goal.returns-in_err-extend-clause-room
returns-in_err-extend-clause-room c adds _ _ fits =
    let some = c.in_err-extend.ensures.room (sound c.args.self.now adds).entries_fit fits in
    absurd (true≢false (sym some))
