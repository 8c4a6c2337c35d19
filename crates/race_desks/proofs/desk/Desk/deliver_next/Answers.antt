use Rattle.std.proofs.Common.{refl, rules, Option, IfSome, alloc_error, subst}
use Rattle.asp_model.specs.declared.journal.Delivery.{Delivery}
use Rattle.race_desks.specs.Turns.{IsOwedAt}
use Rattle.race_desks.proofs.CoreLemmas.{deliver_chosen, deliver_comes, deliver_left, deliver_out, keeps_by}
use Rattle.race_desks.proofs.TurnLemmas.{stood, turn_further, turn_still}
use Rattle.race_desks.proofs.desk.Desk.deliver_next.Goals as goal

pub returns-then-owes_nothing-clause-turn : goal.returns-then-owes_nothing-clause-turn
returns-then-owes_nothing-clause-turn g c n = turn_still g.P.UpdatePolicy.answer g.P.UpdatePolicy.asked n c.args.self.now c.requires.orderly

pub deliver-requires-clause-kept : goal.deliver-requires-clause-kept
deliver-requires-clause-kept g c = (c.next_delivery.ensures.turn 0).keeps.orderly.kept

pub returns-clause-turn : goal.returns-clause-turn
returns-clause-turn g c n =
    let e = c.deliver.ensures in
    let before = c.next_delivery.ensures.turn n in
    let orderly = before.keeps.orderly in
    let owed = subst (λ (o : Option Delivery). IfSome o (IsOwedAt c.next_delivery.new.self)) c.in-Some.is c.next_delivery.ensures.owed in
    let chosen = deliver_chosen c.next_delivery.new.self.core c.deliver.new.self orderly.kept c.deliver.result alloc_error _ owed e.chosen e.spent in
    let plan = keeps_by g.P.UpdatePolicy.answer g.P.UpdatePolicy.asked c.next_delivery.new.self.core c.deliver.new.self c.deliver.result alloc_error e.spent e.gives_up e.by_plan chosen e.stopped in
    turn_further g.P.UpdatePolicy.answer g.P.UpdatePolicy.asked n c.args.self.now c.next_delivery.new.self _ before
    (stood g.P.UpdatePolicy.answer g.P.UpdatePolicy.asked n c.next_delivery.new.self _ orderly e.begins e.code e.kept plan (search rules) (search rules)
    (deliver_out _ _ orderly.kept c.deliver.result alloc_error _ e.delivered e.spent e.err)
    (deliver_comes _ _ orderly.kept c.deliver.result alloc_error _ e.delivered e.spent e.gives_up) refl
    (deliver_left _ _ orderly.kept c.deliver.result alloc_error _ e.delivered e.spent e.gives_up))
