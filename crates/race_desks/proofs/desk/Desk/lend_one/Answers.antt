use Rattle.std.proofs.Common.{rules, ◌≡◌, ℕ, Some, set, ap, sym, ◌∙◌, refl, subst, arith}
use Rattle.core_state.specs.declared.lease.Lease.{Lease}
use Rattle.asp_core.specs.declared.cores.Core.{Core}
use Rattle.asp_core.specs.Cores.{history_of}
use Rattle.asp_core.proofs.OutAfterLemmas.{comes_same}
use Rattle.race_desks.specs.Rows.{IsOut}
use Rattle.race_desks.specs.Turns.{row_of}
use Rattle.race_desks.proofs.CoreLemmas.{keeps_lent, left_same, lends, lends_none, reserve_fits}
use Rattle.race_desks.proofs.TurnLemmas.{filled, stood}
use Rattle.race_desks.proofs.desk.Desk.lend_one.Goals as goal

pub returns-in_err-lease-clause-turn : goal.returns-in_err-lease-clause-turn
returns-in_err-lease-clause-turn g c =
    let e = c.lend.ensures in
    let same = lends_none _ _ c.requires.orderly.kept _ c.lend.result e.lent e.spent (search rules) in
    let plan = keeps_lent g.P.UpdatePolicy.answer g.P.UpdatePolicy.asked c.args.self.now.core c.lend.new.self e.spent e.by_plan e.chosen e.stopped in
    stood g.P.UpdatePolicy.answer g.P.UpdatePolicy.asked c.args.seat c.args.self.now _ c.requires.orderly e.begins e.code e.kept plan (search rules) (search rules)
    (λ k burst out. subst (λ (x : Core g.row.P.Denot). IsOut (history_of x) k burst) (sym same) out)
    (comes_same c.args.self.now.core c.lend.new.self same) refl (left_same c.args.self.now.core c.lend.new.self same)

pub returns-clause-turn : goal.returns-clause-turn
returns-clause-turn g c =
    let e = c.lend.ensures in
    let plan = keeps_lent g.P.UpdatePolicy.answer g.P.UpdatePolicy.asked c.args.self.now.core c.lend.new.self e.spent e.by_plan e.chosen e.stopped in
    let same : Some (c.number.result, c.burst.result, c.further_grants-rounds.result) ≡ Some (c.in_ok-lease.lease.number, c.in_ok-lease.lease.burst, c.further_grants-rounds.result) = λ i. Some (c.number.ensures.number i, c.burst.ensures.burst i, c.further_grants-rounds.result) in
    let lent = lends _ _ c.requires.orderly.kept _ c.lend.result e.lent e.spent c.in_ok-lease.lease (search rules) in
    let desk = c.args.self.now in
    filled g.P.UpdatePolicy.answer g.P.UpdatePolicy.asked c.args.seat c.args.self.now _ c.requires.orderly e.begins e.code e.kept plan c.fill.ensures.seats _ c.in_ok-lease.lease c.further_grants-rounds.result
    lent
    c.requires.seat c.requires.free (c.fill.ensures.rows ∙ ap (set c.args.self.now.rows.items c.args.seat) same) (c.fill.ensures.out ∙ same)
    (omega (arith, c.requires.seat, desk.rows.ok)) refl
    (reserve_fits desk.core c.lend.new.self desk.reserved c.further_grants-rounds.result c.left-before.result c.left-after.result lent.left c.left-before.ensures.left c.left-after.ensures.left (c.leaves_reserve.ensures.leaves c.if-not-leaves_reserve.false) c.further_grants-rounds.ensures.kept)

pub returns-clause-lease : goal.returns-clause-lease
returns-clause-lease g c =
    let e = c.lend.ensures in
    let here = c.in_ok-lease.lease in
    let rounds = c.further_grants-rounds.result in
    let long = c.of.result in
    let lease = (lends _ _ c.requires.orderly.kept _ c.lend.result e.lent e.spent here (search rules)).lease in
    let same : Some (c.number.result, c.burst.result, rounds) ≡ Some (here.number, here.burst, rounds) = λ i. Some (c.number.ensures.number i, c.burst.ensures.burst i, rounds) in
    let by_lease : Some (here.number, here.burst, rounds) ≡ Some (long.lease.number, long.lease.burst, rounds) = ap (λ (l : Lease). Some (l.number, l.burst, rounds)) (sym c.of.ensures.lease) in
    let by_rounds : Some (long.lease.number, long.lease.burst, rounds) ≡ row_of long = ap (λ (n : ℕ). Some (long.lease.number, long.lease.burst, n)) (sym c.of.ensures.rounds) in
    (c.fill.ensures.out ∙ same ∙ by_lease ∙ by_rounds, c.of.ensures.long _ _ lease)
