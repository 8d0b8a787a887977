use Rattle.std.proofs.Common.{◌≡◌, ◌<◌, cond, false, not, [], ◌++◌, length, get_or, take, drop, sym, ap, ◌∙◌, rules, arith}
use Rattle.std.proofs.lemmas.Bool.Decides.{nat_tests}
use Rattle.std.proofs.lemmas.Grind.{common_steps}
use Rattle.std.proofs.lemmas.List.{get_or_default}
use Rattle.frames.specs.declared.Entry.{Entry}
use Rattle.lists.specs.Tables.{held, holding, staying}
use Rattle.lists.proofs.Stays.{Moving, moving_yes, moving_no, moved_all, moved_count, ids_left, ascends_left, marked_left}
use Rattle.lists.proofs.Entries.leave.Goals as goal
use Rattle.lists.proofs.Entries.leave.Goals.{then-not-has, else-not-has}

pub bounds-self-kept : goal.bounds-self-kept
bounds-self-kept c =
    let behind = c.loop-k.invariant.0.keeping.behind in
    let test = c.loop-k-test.true in
    grind (arith, nat_tests, common_steps)

pub overflow_cast-self : goal.overflow_cast-self
overflow_cast-self c =
    let behind = c.loop-k.invariant.0.keeping.behind in
    let far = c.loop-k.auto.k-end in
    grind (arith, nat_tests, common_steps)

pub loop-k-preserved : goal.loop-k-preserved
loop-k-preserved c =
    let long = c.loop-k.invariant.0.keeping.long in
    let h : c.loop-k.k < length c.loop-k.self.items = search rules in
    let same = get_or_default c.loop-k.self.items c.loop-k.k (record { id = 0; body = [] }) _ h in
    elim c.if-not-has.branch [
      | then-not-has w ↦ rw (w.self-is, w.kept-is) (moving_yes c.loop-k.invariant.0 h same (ap not (sym w.if-not-has.ensures.flag)), c.loop-k.invariant.1)
      | else-not-has w ↦ rw (w.self-is, w.kept-is) (moving_no c.loop-k.invariant.0 h same (ap not (sym w.if-not-has.ensures.flag)), c.loop-k.invariant.1)
    ]

-- all that were held were passed
at_end : (c : goal.After-self-1) → Moving (λ (e : Entry). not (get_or c.args.gone.now.flags e.id false)) c.args.self.now.items c.loop-k.self.items c.loop-k.kept c.args.self.now.count
at_end c =
    let n : c.loop-k.k ≡ c.args.self.now.count = omega (arith, c.loop-k.auto.k-end, c.loop-k-test.false) in
    rw n at c.loop-k.invariant.0

remain : (c : goal.After-self-1) → take c.loop-k.kept c.loop-k.self.items ≡ staying c.args.gone.now.flags (held c.args.self.now)
remain c = (at_end c).keeping.front

pub returns-clause-table : goal.returns-clause-table
returns-clause-table c =
    let t = c.args.self.now in
    let flags = c.args.gone.now.flags in
    let m = at_end c in
    let items : c.loop-k.self.items ≡ (holding (staying flags (held t)) t).items = moved_all m ∙ ap (λ n. staying flags (held t) ++ drop n t.items) (moved_count m) in
    (λ i. record { items = items i; count = moved_count m i }) ∙ ap (λ b. cond b (holding (staying flags (held t)) t) t) c.if-not-fits.ensures

pub returns-clause-ascends : goal.returns-clause-ascends
returns-clause-ascends c = ascends_left c.args.gone.now.flags (held c.args.self.now) _ (remain c)

pub returns-clause-ids : goal.returns-clause-ids
returns-clause-ids c = λ _. ids_left c.args.gone.now.flags (held c.args.self.now) _ (remain c)

pub returns-clause-marked : goal.returns-clause-marked
returns-clause-marked c = λ _. marked_left c.args.gone.now.flags (held c.args.self.now) _ (remain c)
