use Rattle.std.proofs.Common.{◌≡◌, ◌-◌, [], get_or, take, drop, Ok, sym, ap, ◌∙◌, arith}
use Rattle.std.proofs.lemmas.Result.{err_from_is_err_and}
use Rattle.std.proofs.lemmas.List.{take_rest}
use Rattle.frames.specs.Views.{shown_as}
use Rattle.frames.specs.Views.View.{a_token}
use Rattle.reading.proofs.Heads.{head_passes, head_fails}
use Rattle.reading.proofs.Walk.{listed, unlisted, settled, unsettled}
use Rattle.reading.proofs.Whole.{unfinished, finished, middle, lists_fail, decisions_fail, token_ends, token_shown}
use Rattle.reading.proofs.read_token.Goals as goal

pub returns-in_err-test : goal.returns-in_err-test
returns-in_err-test c =
    let x = err_from_is_err_and c.from_residual.result c.from_residual.ensures.1 in
    rw (x.1, x.2) (sym (ap shown_as (head_fails c.args.plan.now c.args.bytes.now c.of.result c.of.ensures _ c.in_err-test.ensures)))

pub returns-in_err-entries : goal.returns-in_err-entries
returns-in_err-entries c =
    let x = err_from_is_err_and c.from_residual-in_err-entries.result c.from_residual-in_err-entries.ensures.1 in
    let p = c.args.plan.now in
    let bs = c.args.bytes.now in
    let head = head_passes p bs c.of.result c.of.ensures c.in_ok-test.ensures in
    let new = c.new-reader.ensures in
    let fails = unlisted p (get_or bs 8 0) 10 bs c.new-reader.result c.entries.new.self new.at new.bytes _ (c.in_err-entries.ensures p [] new.ids) in
    rw (x.1, x.2) (sym (ap shown_as (head ∙ lists_fail p bs _ fails)))

pub returns-in_err-decisions : goal.returns-in_err-decisions
returns-in_err-decisions c =
    let x = err_from_is_err_and c.from_residual-in_err-decisions.result c.from_residual-in_err-decisions.ensures.1 in
    let p = c.args.plan.now in
    let bs = c.args.bytes.now in
    let head = head_passes p bs c.of.result c.of.ensures c.in_ok-test.ensures in
    let new = c.new-reader.ensures in
    let one = listed p (get_or bs 8 0) 10 bs c.new-reader.result c.entries.new.self new.at new.bytes (c.in_ok-entries.ensures p [] new.ids) in
    let fails = unsettled p (get_or bs 9 0) one.rest c.entries.new.self c.decisions.new.self one.here.rest _ (c.in_err-decisions.ensures p one.rest.met one.here.met) in
    rw (x.1, x.2) (sym (ap shown_as (head ∙ decisions_fail p bs one.rest one.is _ fails)))

pub returns-in_err-end : goal.returns-in_err-end
returns-in_err-end c =
    let x = err_from_is_err_and c.from_residual-in_err-end.result c.from_residual-in_err-end.ensures.1 in
    let p = c.args.plan.now in
    let bs = c.args.bytes.now in
    let head = head_passes p bs c.of.result c.of.ensures c.in_ok-test.ensures in
    let new = c.new-reader.ensures in
    let one = listed p (get_or bs 8 0) 10 bs c.new-reader.result c.entries.new.self new.at new.bytes (c.in_ok-entries.ensures p [] new.ids) in
    let two = settled p (get_or bs 9 0) one.rest c.entries.new.self c.decisions.new.self one.here.rest (c.in_ok-decisions.ensures p one.rest.met one.here.met) in
    let ends = token_ends p bs one.rest one.is two.rest two.is in
    rw (x.1, x.2) (sym (ap shown_as (head ∙ ends ∙ unfinished _ c.decisions.new.self two.rest two.here.rest _ (sym c.in_err-end.ensures))))

pub overflow_sub-middle : goal.overflow_sub-middle
overflow_sub-middle c =
    let p = c.args.plan.now in
    let bs = c.args.bytes.now in
    let new = c.new-reader.ensures in
    let one = listed p (get_or bs 8 0) 10 bs c.new-reader.result c.entries.new.self new.at new.bytes (c.in_ok-entries.ensures p [] new.ids) in
    let m = middle p bs one.rest one.is c.entries.new.self one.here.rest in
    omega arith

pub split_at-requires : goal.split_at-requires
split_at-requires c =
    let p = c.args.plan.now in
    let bs = c.args.bytes.now in
    let new = c.new-reader.ensures in
    let one = listed p (get_or bs 8 0) 10 bs c.new-reader.result c.entries.new.self new.at new.bytes (c.in_ok-entries.ensures p [] new.ids) in
    let m = middle p bs one.rest one.is c.entries.new.self one.here.rest in
    rw (take_rest bs 10) (omega arith)

pub returns : goal.returns
returns c =
    let p = c.args.plan.now in
    let bs = c.args.bytes.now in
    let head = head_passes p bs c.of.result c.of.ensures c.in_ok-test.ensures in
    let new = c.new-reader.ensures in
    let one = listed p (get_or bs 8 0) 10 bs c.new-reader.result c.entries.new.self new.at new.bytes (c.in_ok-entries.ensures p [] new.ids) in
    let two = settled p (get_or bs 9 0) one.rest c.entries.new.self c.decisions.new.self one.here.rest (c.in_ok-decisions.ensures p one.rest.met one.here.met) in
    let done = finished _ c.decisions.new.self two.rest two.here.rest (sym c.in_ok-end.ensures) in
    let told = token_shown p bs one.rest one.is two.rest two.is done.0 done.1 c.entries.new.self one.here.rest in
    let at = c.entries.new.self.at - 10 in
    let first : c.split_at.result.0.now ≡ take at (drop 10 bs) = c.split_at.ensures.front ∙ ap (take at) (take_rest bs 10) in
    let second : c.split_at.result.1.now ≡ drop at (drop 10 bs) = c.split_at.ensures.back ∙ ap (drop at) (take_rest bs 10) in
    (λ i. Ok (a_token (get_or bs 2 0) (c.from_be_bytes-stamp.ensures i) (get_or bs 7 0) (first i) (get_or bs 9 0) (second i))) ∙ sym (ap shown_as head ∙ told)
