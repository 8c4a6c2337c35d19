use Rattle.std.proofs.Common.{refl, rules, alloc_error}
use Rattle.race_desks.proofs.CoreLemmas.{keeps_owed, owed_comes, owed_is, owed_left, owed_may}
use Rattle.race_desks.proofs.TurnLemmas.{looked}
use Rattle.race_desks.proofs.desk.Desk.next_delivery.Goals as goal

pub returns-in_default-clause-turn : goal.returns-in_default-clause-turn
returns-in_default-clause-turn g c n =
    let e = c.next_owed.ensures in
    let plan = keeps_owed g.P.UpdatePolicy.answer g.P.UpdatePolicy.asked c.args.self.now.core c.next_owed.new.self c.next_owed.result alloc_error e.spent e.gives_up e.same in
    looked g.P.UpdatePolicy.answer g.P.UpdatePolicy.asked n c.args.self.now _ c.requires.orderly e.history e.code e.kept plan (search rules) (owed_comes _ _ c.next_owed.result e.same e.gives_up) refl (owed_left _ _ c.next_owed.result e.same e.gives_up)

pub returns-clause-turn : goal.returns-clause-turn
returns-clause-turn g c n =
    let e = c.next_owed.ensures in
    let plan = keeps_owed g.P.UpdatePolicy.answer g.P.UpdatePolicy.asked c.args.self.now.core c.next_owed.new.self c.next_owed.result alloc_error e.spent e.gives_up e.same in
    looked g.P.UpdatePolicy.answer g.P.UpdatePolicy.asked n c.args.self.now _ c.requires.orderly e.history e.code e.kept plan (search rules) (owed_comes _ _ c.next_owed.result e.same e.gives_up) refl (owed_left _ _ c.next_owed.result e.same e.gives_up)

pub returns-clause-owed : goal.returns-clause-owed
returns-clause-owed g c = owed_is _ _ c.next_owed.result c.in-Ok.owed c.in-Ok.is c.next_owed.ensures.same c.next_owed.ensures.next

pub returns-clause-may : goal.returns-clause-may
returns-clause-may g c = owed_may _ _ c.next_owed.result c.in-Ok.owed c.in-Ok.is c.next_owed.ensures.same c.next_owed.ensures.may
