use Rattle.std.proofs.Common.{Ok, Result, sym, ap, ◌∙◌, subst}
use Rattle.frames.specs.declared.FrameFault.{FrameFault}
use Rattle.frames.specs.Contents.{Content}
use Rattle.frames.specs.Contents.Content.{order, token}
use Rattle.frames.specs.Reading.{read_as}
use Rattle.received.specs.declared.Received.{Received}
use Rattle.received.specs.Received.{token_of, content_of, HoldsLawful}
use Rattle.turns.proofs.Takes.{taken}
use Rattle.turns.proofs.taking.take_bytes.Goals as goal

pub returns-in-Order-clause-stays : goal.returns-in-Order-clause-stays
returns-in-Order-clause-stays c k =
    let p = c.args.started.now.plan in
    let bytes = c.args.bytes.now in
    let lawful = subst (λ (z : Received). HoldsLawful p (Ok z)) c.in-Order.is (subst (λ x. HoldsLawful x (Ok c.in_ok-entry.field-0)) c.plan-2.ensures c.in_ok-entry.ensures.lawful) in
    let contents = ap {B = Result Content FrameFault} (λ (z : Received). Ok (content_of z)) (sym c.in-Order.is) ∙ c.in_ok-entry.ensures.contents ∙ ap (λ x. read_as x bytes) c.plan-2.ensures in
    (taken p c.args.started.now.at c.args.row.now bytes (order c.in-Order.entry) c.take_order.result c.take_order.new.row k c.in_ok-check_on.ensures.cases.1 lawful contents c.take_order.ensures.answer c.take_order.ensures.meaning c.take_order.ensures.tables).stays

pub returns-in-Order-clause-laws : goal.returns-in-Order-clause-laws
returns-in-Order-clause-laws c k on =
    let p = c.args.started.now.plan in
    let bytes = c.args.bytes.now in
    let lawful = subst (λ (z : Received). HoldsLawful p (Ok z)) c.in-Order.is (subst (λ x. HoldsLawful x (Ok c.in_ok-entry.field-0)) c.plan-2.ensures c.in_ok-entry.ensures.lawful) in
    let contents = ap {B = Result Content FrameFault} (λ (z : Received). Ok (content_of z)) (sym c.in-Order.is) ∙ c.in_ok-entry.ensures.contents ∙ ap (λ x. read_as x bytes) c.plan-2.ensures in
    (taken p c.args.started.now.at c.args.row.now bytes (order c.in-Order.entry) c.take_order.result c.take_order.new.row k on lawful contents c.take_order.ensures.answer c.take_order.ensures.meaning c.take_order.ensures.tables).laws

pub returns-in-Token-clause-stays : goal.returns-in-Token-clause-stays
returns-in-Token-clause-stays c k =
    let p = c.args.started.now.plan in
    let bytes = c.args.bytes.now in
    let fits = subst (λ (z : Received). HoldsLawful p (Ok z)) c.in-Token.is (subst (λ x. HoldsLawful x (Ok c.in_ok-entry.field-0)) c.plan-2.ensures c.in_ok-entry.ensures.lawful) in
    let contents = ap {B = Result Content FrameFault} (λ (z : Received). Ok (content_of z)) (sym c.in-Token.is) ∙ c.in_ok-entry.ensures.contents ∙ ap (λ x. read_as x bytes) c.plan-2.ensures in
    (taken p c.args.started.now.at c.args.row.now bytes (token (token_of c.in-Token.token)) c.take_token.result c.take_token.new.row k c.in_ok-check_on.ensures.cases.1 fits.lawful contents c.take_token.ensures.answer c.take_token.ensures.meaning c.take_token.ensures.tables).stays

pub returns-in-Token-clause-laws : goal.returns-in-Token-clause-laws
returns-in-Token-clause-laws c k on =
    let p = c.args.started.now.plan in
    let bytes = c.args.bytes.now in
    let fits = subst (λ (z : Received). HoldsLawful p (Ok z)) c.in-Token.is (subst (λ x. HoldsLawful x (Ok c.in_ok-entry.field-0)) c.plan-2.ensures c.in_ok-entry.ensures.lawful) in
    let contents = ap {B = Result Content FrameFault} (λ (z : Received). Ok (content_of z)) (sym c.in-Token.is) ∙ c.in_ok-entry.ensures.contents ∙ ap (λ x. read_as x bytes) c.plan-2.ensures in
    (taken p c.args.started.now.at c.args.row.now bytes (token (token_of c.in-Token.token)) c.take_token.result c.take_token.new.row k on fits.lawful contents c.take_token.ensures.answer c.take_token.ensures.meaning c.take_token.ensures.tables).laws
