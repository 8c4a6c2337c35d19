use Rattle.std.proofs.Common.{◌≡◌, ◌∙◌, false, Some, None, sym, ap, subst}
use Rattle.asp_model.specs.Chase.{Values}
use Rattle.asp_model.specs.Configuration.{requests_of}
use Rattle.asp_model.specs.Shapes.{future_shape}
use Rattle.future_table.specs.Values.{AreOfCode, values_of}
use Rattle.step_activity.specs.declared.actor.Actor.{Actor}
use Rattle.step_activity.specs.Actors.{IsSomebody, Stands, code_of, log_in}
use Rattle.step_reads.specs.Values.{AreClosedValues}
use Rattle.replay_population.specs.declared.population.Population.{Population}
use Rattle.replay_population.specs.Deliveries.{IsDelivered, IsStored, store_with}
use Rattle.replay_population.specs.Population.{found_in}
use Rattle.replay_parts.specs.Roster.{IsRoster}
use Rattle.replay_population.proofs.DeliveryLemmas.{delivered_there, edge_is, edge_nowhere}
use Rattle.replay_population.proofs.PopulationLemmas.{absent_there, found_at, found_stands, futures_back, passed_back, passed_same, put_back, roster_back, seats_kept, values_closed, values_coded}
use Rattle.replay_population.proofs.population.Population.deliver_edge.Goals as goal

pub fill_held-requires-clause-somebody : goal.fill_held-requires-clause-somebody
fill_held-requires-clause-somebody c =
    let p : Population = c.args.self.now in
    let r = c.requires.closed in
    let n = c.requires.known in
    let s = found_stands p r.0 n.0 c.in-Some.boxed.value r.1.population (found_at p n.0 c.args.to n.1 ∙ sym c.in-Some.ensures.taken) in
    subst IsSomebody (sym c.as_mut.ensures.value) (s.0, requests_of r.0 n.0, s.2)

pub fill_held-requires-clause-values : goal.fill_held-requires-clause-values
fill_held-requires-clause-values c =
    let r = c.requires.closed in
    subst (λ f. AreClosedValues (values_of f)) (sym (ap (λ (r : Population). r.futures) c.take.ensures.set.same)) (values_closed c.args.self.now r.0 r.1)

pub fill_held-requires-clause-code : goal.fill_held-requires-clause-code
fill_held-requires-clause-code c =
    let r = c.requires.closed in
    let n = c.requires.known in
    let p : Population = c.args.self.now in
    let coded = values_coded p r.0 n.0 c.in-Some.boxed.value r.1.population (found_at p n.0 c.args.to n.1 ∙ sym c.in-Some.ensures.taken) in
    subst (λ f. AreOfCode (code_of c.as_mut.result.now) f) (sym (ap (λ (r : Population). r.futures) c.take.ensures.set.same)) (subst (λ x. AreOfCode (code_of x) p.futures) (sym c.as_mut.ensures.value) coded)

pub returns-in_default : goal.returns-in_default
returns-in_default c =
    let p : Population = c.args.self.now in
    let q : Population = c.take.new.self in
    let same = c.take.ensures.set.same in
    record {
      delivered = λ k n h has.
          let none = absent_there p k n h (found_at p n c.args.to has ∙ sym c.in_default.ensures.taken) in
          subst (λ o. IsDelivered q k o false) (sym (edge_nowhere k (future_shape c.args.future.now) n none)) (seats_kept p q k c.args.to c.take.ensures.set (sym c.in_default.ensures.taken) h);
      roster = ap (λ (r : Population). r.roster) same;
      passed = passed_same p q (ap (λ (r : Population). r.roster) same) (ap (λ (r : Population). r.passed) same);
    }

pub returns-clause-passed : goal.returns-clause-passed
returns-clause-passed c = passed_back c.args.self.now c.take.new.self c.put.new.self c.args.to None (Some c.fill_held.new.actor) c.take.ensures.set c.in_ok-put.ensures.set

pub returns-clause-delivered : goal.returns-clause-delivered
returns-clause-delivered c = λ k n h has.
    let p : Population = c.args.self.now in
    let mid : Population = c.take.new.self in
    let q : Population = c.put.new.self in
    let to = c.args.to in
    let f = future_shape c.args.future.now in
    let x : Actor = c.in-Some.boxed.value in
    let new : Actor = c.fill_held.new.actor in
    let out = c.take.ensures.set in
    let back = c.in_ok-put.ensures.set in
    let was = c.as_mut.ensures.value in
    let is : found_in p n ≡ Some x = found_at p n to has ∙ sym c.in-Some.ensures.taken in
    let s = found_stands p k n x h is in
    let roster = roster_back p mid q to None (Some new) out back in
    let futures : values_of mid.futures ≡ k.futures = ap (λ (r : Population). values_of r.futures) out.same ∙ h.futures in
    let stored = subst (λ (vs : Values). IsStored new s.0 (requests_of k n) (store_with vs f s.0) c.in_ok-goes.goes) futures (c.in_ok-goes.ensures.stored s.0 (requests_of k n) (subst (λ y. Stands y s.0 (requests_of k n)) (sym was) s.2)) in
    subst (λ o. IsDelivered q k o c.in_ok-goes.goes) (sym (edge_is k f n s.0 s.1))
    (delivered_there p q k n new s.0 (store_with k.futures f s.0) c.in_ok-goes.goes h (put_back p mid q n to new has out back) (subst IsRoster (sym roster) h.roster) (futures_back p mid q to None (Some new) out back) s.1 stored
    (c.fill_held.ensures.log ∙ ap log_in was ∙ h.logs n x is) (c.fill_held.ensures.code ∙ ap code_of was ∙ h.actors n x is))
