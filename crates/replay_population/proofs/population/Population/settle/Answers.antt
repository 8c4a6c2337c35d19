use Rattle.std.proofs.Common.{◌≡◌, ◌∙◌, Some, None, refl, sym, ap, subst}
use Rattle.asp_model.specs.Configuration.{requests_of}
use Rattle.step_activity.specs.declared.actor.Actor.{Actor}
use Rattle.step_activity.specs.Actors.{Stands, code_of, log_in}
use Rattle.replay_population.specs.declared.population.Population.{Population}
use Rattle.replay_population.specs.Population.{found_in}
use Rattle.replay_parts.specs.Roster.{IsRoster}
use Rattle.replay_population.proofs.PopulationLemmas.{found_at, found_stands, futures_back, passed_back, passed_same, put_back, roster_back, seats_kept, set_at}
use Rattle.replay_parts.proofs.ResultLemmas.{on_ok}
use Rattle.replay_population.proofs.population.Population.settle.Goals as goal

pub returns-in_default-clause-same : goal.returns-in_default-clause-same
returns-in_default-clause-same c = λ k n h has. seats_kept c.args.self.now c.take.new.self k c.args.number c.take.ensures.set (sym c.in_default.ensures.taken) h

pub returns-in_default-clause-passed : goal.returns-in_default-clause-passed
returns-in_default-clause-passed c = passed_same c.args.self.now c.take.new.self (ap (λ (r : Population). r.roster) c.take.ensures.set.same) (ap (λ (r : Population). r.passed) c.take.ensures.set.same)

pub returns-clause-same : goal.returns-clause-same
returns-clause-same c = λ k n h has.
    let p : Population = c.args.self.now in
    let mid : Population = c.take.new.self in
    let q : Population = c.put.new.self in
    let number = c.args.number in
    let x : Actor = c.in-Some.boxed.value in
    let new : Actor = c.settle.new.self in
    let out = c.take.ensures.set in
    let is : found_in p n ≡ Some x = found_at p n number has ∙ sym c.in-Some.ensures.taken in
    let was = c.as_mut.ensures.value in
    let s = found_stands p k n x h is in
    on_ok c.put.result _ _ (λ back.
    let roster = roster_back p mid q number None (Some new) out back in
    (set_at p q k k n new s.0 h (put_back p mid q n number new has out back) (subst IsRoster (sym roster) h.roster) (futures_back p mid q number None (Some new) out back) refl s.1
    (c.in_ok-settle.ensures.stands s.0 (requests_of k n) (subst (λ y. Stands y s.0 (requests_of k n)) (sym was) s.2))
    (c.settle.ensures.log ∙ ap log_in was ∙ h.logs n x is)
    (λ m d. (refl, refl, refl))
    (c.settle.ensures.code ∙ ap code_of was ∙ h.actors n x is)).0) c.put.ensures.set

pub returns-clause-roster : goal.returns-clause-roster
returns-clause-roster c = on_ok c.put.result _ _ (roster_back c.args.self.now c.take.new.self c.put.new.self c.args.number None (Some c.settle.new.self) c.take.ensures.set) c.put.ensures.set

pub returns-clause-passed : goal.returns-clause-passed
returns-clause-passed c = on_ok c.put.result _ _ (passed_back c.args.self.now c.take.new.self c.put.new.self c.args.number None (Some c.settle.new.self) c.take.ensures.set) c.put.ensures.set
