use Rattle.std.proofs.Common.{◌≡◌, ◌++◌, ◌∷◌, [], List, Some, None, sym, ap, subst, ◌∙◌}
use Rattle.asp_model.specs.Configuration.{From, ReceptionShape, requests_of}
use Rattle.request_queue.specs.Requests.{request_shape}
use Rattle.step_activity.specs.declared.actor.Actor.{Actor}
use Rattle.step_activity.specs.Actors.{Stands, code_of, log_in}
use Rattle.replay_population.specs.declared.population.Population.{Population}
use Rattle.replay_population.specs.Population.{found_in}
use Rattle.replay_parts.specs.Roster.{IsRoster}
use Rattle.replay_population.proofs.PopulationLemmas.{found_at, found_stands, futures_back, nobody_there, passed_back, passed_same, put_back, received, roster_back}
use Rattle.replay_parts.proofs.ResultLemmas.{on_ok}
use Rattle.replay_population.proofs.population.Population.send.Goals as goal

pub receive-requires : goal.receive-requires
receive-requires c =
    let n = c.requires.known in
    record { code = sym (ap code_of c.as_mut.ensures.value ∙ c.requires.code n.0 c.in-Some.boxed.value (found_at c.args.self.now n.0 c.args.to n.1 ∙ sym c.in-Some.ensures.taken)) }

pub returns-in_default-clause-received : goal.returns-in_default-clause-received
returns-in_default-clause-received c = λ k n h has there. nobody_there c.args.self.now k n h (found_at c.args.self.now n c.args.to has ∙ sym c.in_default.ensures.taken) there

pub returns-in_default-clause-passed : goal.returns-in_default-clause-passed
returns-in_default-clause-passed c = passed_same c.args.self.now c.take.new.self (ap (λ (r : Population). r.roster) c.take.ensures.set.same) (ap (λ (r : Population). r.passed) c.take.ensures.set.same)

pub returns-clause-received : goal.returns-clause-received
returns-clause-received c = λ k n h has there.
    let p : Population = c.args.self.now in
    let mid : Population = c.take.new.self in
    let q : Population = c.put.new.self in
    let to = c.args.to in
    let x : Actor = c.in-Some.boxed.value in
    let new : Actor = c.receive.new.self in
    let out = c.take.ensures.set in
    let is : found_in p n ≡ Some x = found_at p n to has ∙ sym c.in-Some.ensures.taken in
    let was = c.as_mut.ensures.value in
    let s = found_stands p k n x h is in
    on_ok c.put.result _ _ (λ back.
    let roster = roster_back p mid q to None (Some new) out back in
    received p q k n new (request_shape c.args.request) s.0 h (put_back p mid q n to new has out back) (subst IsRoster (sym roster) h.roster) (futures_back p mid q to None (Some new) out back) s.1
    (c.in_ok-receive.ensures.stands s.0 (requests_of k n) (subst (λ y. Stands y s.0 (requests_of k n)) (sym was) s.2))
    (c.in_ok-receive.ensures.log ∙ ap (λ (xs : List ReceptionShape). xs ++ From c.args.request.sender ∷ []) (ap log_in was ∙ h.logs n x is))
    (c.receive.ensures.code ∙ ap code_of was ∙ h.actors n x is)) c.put.ensures.set

pub returns-clause-passed : goal.returns-clause-passed
returns-clause-passed c = on_ok c.put.result _ _ (passed_back c.args.self.now c.take.new.self c.put.new.self c.args.to None (Some c.receive.new.self) c.take.ensures.set) c.put.ensures.set
