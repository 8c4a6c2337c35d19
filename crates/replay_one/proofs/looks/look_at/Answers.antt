use Rattle.std.proofs.Common.{◌≡◌, ◌<◌, ℕ, Bool, true, false, List, Option, Some, None, is_some, refl, sym, ap, subst, ◌∙◌, arith}
use Rattle.asp_model.specs.Chase.{chase}
use Rattle.asp_model.specs.Configuration.{Configuration, From, requests_of}
use Rattle.asp_model.specs.Names.{Name}
use Rattle.asp_model.specs.Intent.{Done, Faulted}
use Rattle.asp_model.specs.Shapes.{fault_shape, future_shape}
use Rattle.step_activity.specs.declared.actor.Actor.{Actor}
use Rattle.asp_model.specs.Step.{ListsShape, intent_in, is_next}
use Rattle.law_chases.proofs.FutureLemmas.{some_is}
use Rattle.replay_population.proofs.EndLemmas.{reached_closed}
use Rattle.replay_population.proofs.OutlookLemmas.{intended}
use Rattle.replay_parts.proofs.RosterLemmas.{number_named, number_within}
use Rattle.def_journals.specs.Journals.{number_of}
use Rattle.law_schedules.specs.Schedules.{RestsIn}
use Rattle.step_activity.specs.Found.{IsFoundFor}
use Rattle.step_activity.specs.Outlook.{IsOutlook}
use Rattle.step_activity.proofs.PassingLemmas.{first_passed}
use Rattle.replay_parts.specs.declared.bounds.Bounds.{Bounds}
use Rattle.replay_population.specs.declared.population.Population.{Population}
use Rattle.replay_parts.specs.Bounds.{count_within, lists_within}
use Rattle.replay_population.specs.Population.{HasPassedIn, IsFoundAt, found_in}
use Rattle.replay_one.specs.declared.looks.Look.{Look}
use Rattle.replay_one.specs.declared.looks.Look.TheVariants as look
use Rattle.replay_one.specs.Round.{IsLook, IsTurn, LogsTo}
use Rattle.replay_one.proofs.LookLemmas.{absent_leaves, awaits_intent, awaits_rests, counted_leaves, done_leaves, done_intent, faulted_intent, held_rests, passed_for, poll_rests, polls_now, polls_target, seen_passed, sends_now, sends_target, serves_rests, serving_intent, steps_now, steps_target, target_there}
use Rattle.replay_population.proofs.PopulationLemmas.{found_at, found_stands, actor_closed, absent_nowhere, values_closed}
use Rattle.replay_one.proofs.looks.look_at.Goals as goal

pub returns-in_default : goal.returns-in_default
returns-in_default c =
    let p : Population = c.args.population.now in
    let b : Bounds = c.args.bounds.now in
    record {
      look = λ program k n h has. subst (IsLook (lists_within b) (count_within b) k p.roster n) (sym c.unseen.ensures.look) (absent_leaves (lists_within b) (count_within b) p k n h.population (found_at p n c.args.number has ∙ sym c.in_default.ensures.value));
      passed = λ k n h has. subst (HasPassedIn k n) (sym c.unseen.ensures.passed) (λ a at. first_passed (chase k.futures) a);
      found = subst (IsFoundAt p c.args.number) (sym c.unseen.ensures.found) (λ x is a rs s. tt);
    }

pub outlook_from-requires-clause-passed : goal.outlook_from-requires-clause-passed
outlook_from-requires-clause-passed c =
    let p : Population = c.args.population.now in
    let r = c.requires.passed in
    passed_for p r.2 r.0 c.in-Some.actor.now c.args.passed r.3 (found_at p r.0 c.args.number r.1 ∙ sym c.in-Some.ensures.value) r.4

pub outlook_from-requires-clause-closed : goal.outlook_from-requires-clause-closed
outlook_from-requires-clause-closed c =
    let p : Population = c.args.population.now in
    let r = c.requires.reached in
    let n = c.requires.passed in
    actor_closed p r.1 n.0 c.in-Some.actor.now (reached_closed p r.0 r.1 r.2) (found_at p n.0 c.args.number n.1 ∙ sym c.in-Some.ensures.value)

pub outlook_from-requires-clause-values : goal.outlook_from-requires-clause-values
outlook_from-requires-clause-values c =
    let r = c.requires.reached in
    values_closed c.args.population.now r.1 (reached_closed c.args.population.now r.0 r.1 r.2)

pub returns-then-count : goal.returns-then-count
returns-then-count c =
    let p : Population = c.args.population.now in
    let b : Bounds = c.args.bounds.now in
    let x : Actor = c.in-Some.actor.now in
    record {
      look = λ program k n h has.
          let s = found_stands p k n x h.population (found_at p n c.args.number has ∙ sym c.in-Some.ensures.value) in
          let count = c.count.ensures.count s.0 (requests_of k n) s.2 in
          let bound = c.count-2.ensures.count p.roster n h.population.roster c.requires.numbered has in
          subst (IsLook (lists_within b) (count_within b) k p.roster n) (sym c.unseen-then-count.ensures.look) (counted_leaves (lists_within b) (count_within b) k n s.0 s.1 (omega (arith, c.if-count.true, count, bound)));
      passed = λ k n h has. subst (HasPassedIn k n) (sym c.unseen-then-count.ensures.passed) (λ a at. first_passed (chase k.futures) a);
      found = subst (IsFoundAt p c.args.number) (sym c.unseen-then-count.ensures.found) (λ x is a rs s. tt);
    }

-- whether its turn has come
by_turn : (lists : Option ListsShape) (count : Name → ℕ) (c : Configuration) (ns : List Name) (n to : Name) (k : ℕ) (o : Option ℕ) (may : Bool) (l : Look) → IsTurn may k o l → number_of to ns ≡ Some k → (may ≡ true → IsLook lists count c ns n (look.Steps o)) → (may ≡ false → RestsIn lists count c n × LogsTo c n to) → IsLook lists count c ns n l
by_turn lists count c ns n to k o true (look.Steps t) h has can rests = subst (λ (u : Option ℕ). IsLook lists count c ns n (look.Steps u)) (sym h) (can refl)
by_turn lists count c ns n to k o true look.Leaves h has can rests = absurd h
by_turn lists count c ns n to k o true (look.Awaits f) h has can rests = absurd h
by_turn lists count c ns n to k o true look.Serves h has can rests = absurd h
by_turn lists count c ns n to k o true (look.Holds x) h has can rests = absurd h
by_turn lists count c ns n to k o false (look.Holds x) h has can rests = let r = rests refl in (r.0, (to, has ∙ ap Some (sym h), r.1))
by_turn lists count c ns n to k o false look.Leaves h has can rests = absurd h
by_turn lists count c ns n to k o false (look.Awaits f) h has can rests = absurd h
by_turn lists count c ns n to k o false look.Serves h has can rests = absurd h
by_turn lists count c ns n to k o false (look.Steps t) h has can rests = absurd h

pub returns-in-Steps : goal.returns-in-Steps
returns-in-Steps c =
    let p : Population = c.args.population.now in
    let b : Bounds = c.args.bounds.now in
    let x : Actor = c.in-Some.actor.now in
    record {
      look = λ program k n h has.
          let is : found_in p n ≡ Some x = found_at p n c.args.number has ∙ sym c.in-Some.ensures.value in
          let s = found_stands p k n x h.population is in
          let count = c.count.ensures.count s.0 (requests_of k n) s.2 in
          let bound = c.count-2.ensures.count p.roster n h.population.roster c.requires.numbered has in
          let below : s.0.reductions < count_within b n = omega (arith, c.if-count.false, count, bound) in
          let o = subst (IsOutlook n (intent_in k n)) c.in-Steps.is (intended p k n x c.in_ok-seen.seen.outlook h.population is c.in_ok-seen.ensures.outlook) in
          let y = steps_now (lists_within b) (count_within b) k n s.0 s.1 below o in
          (y, steps_target (lists_within b) (count_within b) k n p.roster y o);
      passed = λ k n h has. seen_passed p k n x c.in_ok-seen.seen.passed h (found_at p n c.args.number has ∙ sym c.in-Some.ensures.value) c.in_ok-seen.ensures.passed;
      found = λ y is. subst (λ (z : Actor). IsFoundFor z c.in_ok-seen.seen.found) (some_is (c.in-Some.ensures.value ∙ is)) c.in_ok-seen.ensures.found;
    }

pub unreachable-requires : goal.unreachable-requires
unreachable-requires c =
    let p : Population = c.args.population.now in
    let x : Actor = c.in-Some.actor.now in
    let r = c.requires.reached in
    let m = c.requires.passed in
    let n : Name = m.0 in
    let k : Configuration = r.1 in
    let is : found_in p n ≡ Some x = found_at p n c.args.number m.1 ∙ sym c.in-Some.ensures.value in
    let to = c.in-Sends.name in
    let o = subst (IsOutlook n (intent_in k n)) c.in-Sends.is (intended p k n x c.in_ok-seen.seen.outlook r.2.population is c.in_ok-seen.ensures.outlook) in
    absent_nowhere p k to.now r.2.population (sym c.in_default-number_guessed.ensures.number) (target_there r.0 k n to r.2.reached o)

pub name-requires : goal.name-requires
name-requires c = let m = c.requires.passed in record { within = number_within c.args.population.now.roster m.0 c.args.number m.1 }

pub returns-in-Some-number_guessed-clause-look : goal.returns-in-Some-number_guessed-clause-look
returns-in-Some-number_guessed-clause-look c = λ program k n h has.
    let p : Population = c.args.population.now in
    let b : Bounds = c.args.bounds.now in
    let x : Actor = c.in-Some.actor.now in
    let is : found_in p n ≡ Some x = found_at p n c.args.number has ∙ sym c.in-Some.ensures.value in
    let s = found_stands p k n x h.population is in
    let count = c.count.ensures.count s.0 (requests_of k n) s.2 in
    let bound = c.count-2.ensures.count p.roster n h.population.roster c.requires.numbered has in
    let below : s.0.reductions < count_within b n = omega (arith, c.if-count.false, count, bound) in
    let to = c.in-Sends.name in
    let o = subst (IsOutlook n (intent_in k n)) c.in-Sends.is (intended p k n x c.in_ok-seen.seen.outlook h.population is c.in_ok-seen.ensures.outlook) in
    let number : number_of to.now p.roster ≡ Some c.in-Some-number_guessed.to = sym c.in-Some-number_guessed.ensures.number in
    let mine : c.name.result.now ≡ n = some_is (sym c.name.ensures.name ∙ number_named p.roster n c.args.number has) in
    let turn = c.may_come-may.ensures.may k to.now h.population number (target_there program k n to h.reached o) ∙ ap (λ (m : Name). is_next (lists_within b) k to.now (From m)) mine in
    by_turn (lists_within b) (count_within b) k p.roster n to.now c.in-Some-number_guessed.to (Some c.in-Some-number_guessed.to) c.may_come-may.result c.in_turn.result.look c.in_turn.ensures.look number
    (λ e.
    let y = sends_now (lists_within b) (count_within b) program k n s.0 to h.reached s.1 below o (sym turn ∙ e) in
    (y, sends_target (lists_within b) (count_within b) k n p.roster y to c.in-Some-number_guessed.to o number))
    (λ e. held_rests (lists_within b) (count_within b) program k n to h.reached o (sym turn ∙ e))

pub returns-in-Some-number_guessed-clause-passed : goal.returns-in-Some-number_guessed-clause-passed
returns-in-Some-number_guessed-clause-passed c = λ k n h has.
    let p : Population = c.args.population.now in
    let x : Actor = c.in-Some.actor.now in
    subst (HasPassedIn k n) (sym c.in_turn.ensures.passed) (seen_passed p k n x c.in_ok-seen.seen.passed h (found_at p n c.args.number has ∙ sym c.in-Some.ensures.value) c.in_ok-seen.ensures.passed)

pub returns-in-Some-number_guessed-clause-found : goal.returns-in-Some-number_guessed-clause-found
returns-in-Some-number_guessed-clause-found c = subst (IsFoundAt c.args.population.now c.args.number) (sym c.in_turn.ensures.found) (λ x is a rs s. tt)

pub returns-in-Polls : goal.returns-in-Polls
returns-in-Polls c =
    let p : Population = c.args.population.now in
    let b : Bounds = c.args.bounds.now in
    let x : Actor = c.in-Some.actor.now in
    record {
      look = λ program k n h has.
          let is : found_in p n ≡ Some x = found_at p n c.args.number has ∙ sym c.in-Some.ensures.value in
          let s = found_stands p k n x h.population is in
          let count = c.count.ensures.count s.0 (requests_of k n) s.2 in
          let bound = c.count-2.ensures.count p.roster n h.population.roster c.requires.numbered has in
          let below : s.0.reductions < count_within b n = omega (arith, c.if-count.false, count, bound) in
          let o = subst (IsOutlook n (intent_in k n)) c.in-Polls.is (intended p k n x c.in_ok-seen.seen.outlook h.population is c.in_ok-seen.ensures.outlook) in
          let turn = c.may_poll-may.ensures.may k n h.population has (ap is_some s.1) in
          by_turn (lists_within b) (count_within b) k p.roster n n c.args.number None c.may_poll-may.result c.in_turn-in-Polls.result.look c.in_turn-in-Polls.ensures.look has
          (λ e.
          let y = polls_now (lists_within b) (count_within b) k n s.0 s.1 below o (sym turn ∙ e) in
          (y, polls_target (lists_within b) (count_within b) k n p.roster y o))
          (λ e. poll_rests (lists_within b) (count_within b) k n s.0 s.1 o (sym turn ∙ e));
      passed = λ k n h has. subst (HasPassedIn k n) (sym c.in_turn-in-Polls.ensures.passed) (seen_passed p k n x c.in_ok-seen.seen.passed h (found_at p n c.args.number has ∙ sym c.in-Some.ensures.value) c.in_ok-seen.ensures.passed);
      found = subst (IsFoundAt p c.args.number) (sym c.in_turn-in-Polls.ensures.found) (λ x is a rs s. tt);
    }

pub returns-in-Awaits : goal.returns-in-Awaits
returns-in-Awaits c =
    let p : Population = c.args.population.now in
    let b : Bounds = c.args.bounds.now in
    let x : Actor = c.in-Some.actor.now in
    record {
      look = λ program k n h has.
          let is : found_in p n ≡ Some x = found_at p n c.args.number has ∙ sym c.in-Some.ensures.value in
          let f = c.in-Awaits.future in
          awaits_rests (lists_within b) (count_within b) k n (future_shape f.now) (awaits_intent n _ f (subst (IsOutlook n (intent_in k n)) c.in-Awaits.is (intended p k n x c.in_ok-seen.seen.outlook h.population is c.in_ok-seen.ensures.outlook)));
      passed = λ k n h has. seen_passed p k n x c.in_ok-seen.seen.passed h (found_at p n c.args.number has ∙ sym c.in-Some.ensures.value) c.in_ok-seen.ensures.passed;
      found = λ y is a rs s. tt;
    }

pub returns-in-Faulted : goal.returns-in-Faulted
returns-in-Faulted c =
    let p : Population = c.args.population.now in
    let b : Bounds = c.args.bounds.now in
    let x : Actor = c.in-Some.actor.now in
    record {
      look = λ program k n h has.
          let is : found_in p n ≡ Some x = found_at p n c.args.number has ∙ sym c.in-Some.ensures.value in
          let y = c.in-Faulted.field-0 in
          done_leaves (lists_within b) (count_within b) k n (Faulted (fault_shape y)) (faulted_intent n _ y (subst (IsOutlook n (intent_in k n)) c.in-Faulted.is (intended p k n x c.in_ok-seen.seen.outlook h.population is c.in_ok-seen.ensures.outlook))) (λ f e. cc) (λ e. cc);
      passed = λ k n h has. seen_passed p k n x c.in_ok-seen.seen.passed h (found_at p n c.args.number has ∙ sym c.in-Some.ensures.value) c.in_ok-seen.ensures.passed;
      found = λ y is a rs s. tt;
    }

pub returns-in-Serving : goal.returns-in-Serving
returns-in-Serving c =
    let p : Population = c.args.population.now in
    let b : Bounds = c.args.bounds.now in
    let x : Actor = c.in-Some.actor.now in
    record {
      look = λ program k n h has.
          let is : found_in p n ≡ Some x = found_at p n c.args.number has ∙ sym c.in-Some.ensures.value in
          serves_rests (lists_within b) (count_within b) k n (serving_intent n _ (subst (IsOutlook n (intent_in k n)) c.in-Serving.is (intended p k n x c.in_ok-seen.seen.outlook h.population is c.in_ok-seen.ensures.outlook)));
      passed = λ k n h has. seen_passed p k n x c.in_ok-seen.seen.passed h (found_at p n c.args.number has ∙ sym c.in-Some.ensures.value) c.in_ok-seen.ensures.passed;
      found = λ y is a rs s. tt;
    }

pub returns-in-Done : goal.returns-in-Done
returns-in-Done c =
    let p : Population = c.args.population.now in
    let b : Bounds = c.args.bounds.now in
    let x : Actor = c.in-Some.actor.now in
    record {
      look = λ program k n h has.
          let is : found_in p n ≡ Some x = found_at p n c.args.number has ∙ sym c.in-Some.ensures.value in
          done_leaves (lists_within b) (count_within b) k n Done (done_intent n _ (subst (IsOutlook n (intent_in k n)) c.in-Done.is (intended p k n x c.in_ok-seen.seen.outlook h.population is c.in_ok-seen.ensures.outlook))) (λ f e. cc) (λ e. cc);
      passed = λ k n h has. seen_passed p k n x c.in_ok-seen.seen.passed h (found_at p n c.args.number has ∙ sym c.in-Some.ensures.value) c.in_ok-seen.ensures.passed;
      found = λ y is a rs s. tt;
    }
