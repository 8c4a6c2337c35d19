use Rattle.std.proofs.Common.{◌≡◌, ◌∙◌, ◌≤◌, ◌-◌, Some, None, inl, inr, sym, ap, refl, min, subst, arith}
use Rattle.asp_model.specs.Configuration.{requests_of}
use Rattle.step_activity.specs.declared.actor.Actor.{Actor}
use Rattle.step_activity.specs.Actors.{Stands, code_of, log_in}
use Rattle.step_activity.specs.Running.{IsRunBy}
use Rattle.replay_population.specs.declared.population.Population.{Population}
use Rattle.replay_population.specs.Population.{found_in}
use Rattle.replay_parts.specs.Roster.{IsRoster}
use Rattle.replay_population.proofs.PopulationLemmas.{changed, found_at, found_stands, futures_back, passed_back, passed_same, put_back, roster_back, seats_kept}
use Rattle.replay_population.proofs.population.Population.run.Goals as goal

pub returns-in_default-clause-runs : goal.returns-in_default-clause-runs
returns-in_default-clause-runs c = λ k n h has. inr (refl, seats_kept c.args.self.now c.take.new.self k c.args.number c.take.ensures.set (sym c.in_default.ensures.taken) h)

pub returns-in_default-clause-passed : goal.returns-in_default-clause-passed
returns-in_default-clause-passed c = passed_same c.args.self.now c.take.new.self (ap (λ (r : Population). r.roster) c.take.ensures.set.same) (ap (λ (r : Population). r.passed) c.take.ensures.set.same)

pub returns-clause-runs : goal.returns-clause-runs
returns-clause-runs c = λ k n h has.
    let p : Population = c.args.self.now in
    let mid : Population = c.take.new.self in
    let q : Population = c.put.new.self in
    let x : Actor = c.in-Some.boxed.value in
    let new : Actor = c.run.new.self in
    let out = c.take.ensures.set in
    let back = c.in_ok-put.ensures.set in
    let is : found_in p n ≡ Some x = found_at p n c.args.number has ∙ sym c.in-Some.ensures.taken in
    let s = found_stands p k n x h is in
    let was = c.as_mut-actor.ensures.value in
    let stands = subst (λ y. Stands y s.0 (requests_of k n)) (sym was) s.2 in
    let count : c.count.result ≡ s.0.reductions = c.count.ensures.count s.0 (requests_of k n) stands in
    let roster = roster_back p mid q c.args.number None (Some new) out back in
    let r : IsRunBy new s.0 (requests_of k n) c.min.result c.in_ok-taken.taken = c.in_ok-taken.ensures.runs s.0 (requests_of k n) stands in
    let fits : c.in_ok-taken.taken ≤ min c.args.most (c.args.count - s.0.reductions) = omega (arith, r.within, c.min.ensures, c.saturating_sub-left.ensures, count) in
    inl (record {
      activity = s.0;
      there = s.1;
      end = r.end;
      run = r.run;
      within = omega (arith, fits);
      below = omega (arith, fits);
      population = (changed p q k n new r.end h (put_back p mid q n c.args.number new has out back) (subst IsRoster (sym roster) h.roster) (futures_back p mid q c.args.number None (Some new) out back) r.stands (c.in_ok-taken.ensures.log ∙ ap log_in was ∙ h.logs n x is) (c.in_ok-taken.ensures.code ∙ ap code_of was ∙ h.actors n x is)).0;
    })

pub returns-clause-passed : goal.returns-clause-passed
returns-clause-passed c = passed_back c.args.self.now c.take.new.self c.put.new.self c.args.number None (Some c.run.new.self) c.take.ensures.set c.in_ok-put.ensures.set
