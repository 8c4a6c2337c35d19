use Rattle.std.proofs.Common.{◌≡◌, ◌++◌, Some, ◌∙◌, List, ap, map, slice_get, sym, subst}
use Rattle.std.proofs.lemmas.Option.{slice_get_within}
use Rattle.asp_model.specs.declared.name.FutureName.{FutureName}
use Rattle.asp_model.specs.Names.{Name}
use Rattle.asp_model.specs.Shapes.{future_shape}
use Rattle.def_journals.specs.Journals.{number_of}
use Rattle.replay_parts.specs.declared.bounds.Bounds.{Bounds}
use Rattle.replay_one.specs.declared.schedule.Schedule.{Schedule}
use Rattle.replay_one.specs.declared.round.Machine.{Machine}
use Rattle.replay_parts.specs.Bounds.{count_within, lists_within}
use Rattle.replay_population.specs.declared.population.Population.{Population}
use Rattle.replay_population.specs.Population.{IsPassing, with_activity, with_poll}
use Rattle.replay_population.specs.Giving.{IsGiving}
use Rattle.replay_one.specs.Schedule.{IsNoted, IsTaken, seen}
use Rattle.law_steps.specs.Waking.{labels_wanted}
use Rattle.serve_rules.specs.Wanted.{wanted_labels}
use Rattle.replay_parts.specs.Notes.{noted_as, served_by}
use Rattle.replay_one.specs.Round.{CanStep, IsLook, IsRunWith, IsTargetOf, seen_in}
use Rattle.replay_parts.proofs.RosterLemmas.{number_named, number_within}
use Rattle.replay_one.proofs.TellLemmas.{acted_at, told_step}
use Rattle.replay_one.proofs.LookLemmas.{awaits_there}
use Rattle.replay_parts.proofs.ReadyLemmas.{ascend_on}
use Rattle.replay_population.proofs.GivingLemmas.{reached_hand_on}
use Rattle.replay_population.proofs.EndLemmas.{reached_closed}
use Rattle.replay_one.proofs.RunLemmas.{awaits_round, but_reached, holds_round, leaves_round, numbered_on, passing_run, serves_round, step_noted, steps_round}
use Rattle.replay_one.proofs.round.Machine.try_step.Goals as goal

pub look_at-requires-clause-numbered : goal.look_at-requires-clause-numbered
look_at-requires-clause-numbered g c = let r = c.requires.running in r.4.run.numbered

pub look_at-requires-clause-reached : goal.look_at-requires-clause-reached
look_at-requires-clause-reached g c =
    let r = c.requires.running in
    (r.2, r.3, but_reached c.args.bounds.now c.args.self.now r.0 r.2 r.3 r.4)

pub act_found-requires-clause-closed : goal.act_found-requires-clause-closed
act_found-requires-clause-closed g c =
    let r = c.requires.running in
    (r.3, reached_closed c.args.self.now.population r.2 r.3 (but_reached c.args.bounds.now c.args.self.now r.0 r.2 r.3 r.4))

pub act_found-requires-clause-known : goal.act_found-requires-clause-known
act_found-requires-clause-known g c = let r = c.requires.running in (r.0, r.1)

pub returns-in-Leaves-clause-tried : goal.returns-in-Leaves-clause-tried
returns-in-Leaves-clause-tried g c = λ program k n has h.
    let b : Bounds = c.args.bounds.now in
    let m : Machine = c.args.self.now in
    let look = subst (IsLook (lists_within b) (count_within b) k m.population.roster n) c.in-Leaves.is (c.in_ok-view.ensures.look program k n (but_reached b m n program k h) has) in
    leaves_round b program k n m.population h.before (seen_in m) h.run h.taken look

pub returns-in_ok-note-in-Awaits-clause-tried : goal.returns-in_ok-note-in-Awaits-clause-tried
returns-in_ok-note-in-Awaits-clause-tried g c = λ program k n has h.
    let b : Bounds = c.args.bounds.now in
    let m : Machine = c.args.self.now in
    let ns : List Name = m.population.roster in
    let f : FutureName = c.in-Awaits.future.now in
    let new : Schedule = c.note.new.self in
    let noted : IsNoted (seen_in m) (future_shape f) n (seen ns new) = subst (λ (g : FutureName). IsNoted (seen_in m) (future_shape g) n (seen ns new)) c.in_ok-future-in-Awaits.ensures.name (c.in_ok-note-in-Awaits.ensures.noted ns n has) in
    let look = subst (IsLook (lists_within b) (count_within b) k ns n) c.in-Awaits.is (c.in_ok-view.ensures.look program k n (but_reached b m n program k h) has) in
    let run = awaits_round b program k n m.population h.before (future_shape f) (seen_in m) (seen ns new) h.run h.taken noted look.0 look.1 in
    let q : Population = c.pass.new.self in
    let there = awaits_there k n (future_shape f) look.1 in
    let passed = c.in_ok-view.view.passed in
    let passing : IsPassing m.population n passed q = c.in_ok-pass-in-Awaits.ensures.passing n has in
    let after : IsRunWith b q (seen ns new) program k = passing_run b program k m.population (seen ns new) n there.0 passed q run passing there.1 (c.in_ok-view.ensures.passed k n h.run.population has there.0 there.1) in
    let roster : q.roster ≡ ns = ap (λ (r : Population). r.roster) passing.same in
    subst (λ (ms : List Name). IsRunWith b q (seen ms new) program k) (sym roster) after

pub give-requires-clause-numbered : goal.give-requires-clause-numbered
give-requires-clause-numbered g c =
    let r = c.requires.running in
    numbered_on c.args.bounds.now c.args.self.now.population.roster c.act_found.new.self.roster r.4.run.numbered (λ j x e. ap (λ (ns : List Name). slice_get ns j) c.in_ok-given-in-Steps.ensures.roster ∙ e)

pub give-requires-clause-giving : goal.give-requires-clause-giving
give-requires-clause-giving g c =
    let r = c.requires.running in
    let b : Bounds = c.args.bounds.now in
    let m : Machine = c.args.self.now in
    let n : Name = r.0 in
    let roster = c.in_ok-given-in-Steps.ensures.roster in
    let look = subst (IsLook (lists_within b) (count_within b) r.3 m.population.roster n) c.in-Steps.is (c.in_ok-view.ensures.look r.2 r.3 n (but_reached b m n r.2 r.3 r.4) r.1) in
    let x : CanStep (lists_within b) (count_within b) r.3 n = look.0 in
    let acts = c.in_ok-given-in-Steps.ensures.acts r.3 x.effect n r.4.run.population r.1 x.intends in (
      n,
      ap (number_of n) roster ∙ r.1,
      r.3,
      x.effect,
      record { free = reached_hand_on r.2 r.3 n x.effect r.4.run.bare r.4.run.reached x.intends; given = acts.0; here = acts.1 },
      subst (λ (ms : List Name). IsTargetOf ms x.effect.sent c.in-Steps.target) (sym roster) look.1,
    )

pub returns-in_ok-wake-in-Steps-clause-tried : goal.returns-in_ok-wake-in-Steps-clause-tried
returns-in_ok-wake-in-Steps-clause-tried g c = λ program k n has h.
    let b : Bounds = c.args.bounds.now in
    let m : Machine = c.args.self.now in
    let ns : List Name = m.population.roster in
    let p : Population = c.act_found.new.self in
    let q : Population = c.give.new.self.population in
    let roster : p.roster ≡ ns = c.in_ok-given-in-Steps.ensures.roster in
    let now : number_of n p.roster ≡ Some c.args.number = ap (number_of n) roster ∙ has in
    let leads = c.in_ok-give-in-Steps.ensures.leads in
    let look = subst (IsLook (lists_within b) (count_within b) k ns n) c.in-Steps.is (c.in_ok-view.ensures.look program k n (but_reached b m n program k h) has) in
    let x : CanStep (lists_within b) (count_within b) k n = look.0 in
    let acts = c.in_ok-given-in-Steps.ensures.acts k x.effect n h.run.population has x.intends in
    let giving : IsGiving p n c.in_ok-given-in-Steps.given k x.effect = record { free = reached_hand_on program k n x.effect h.run.bare h.run.reached x.intends; given = acts.0; here = acts.1 } in
    let population = c.in_ok-give-in-Steps.ensures.population k x.effect n now giving in
    let taken = subst (λ (ms : List Name). IsTaken h.before n (seen ms m.schedule)) (sym roster) h.taken in
    let numbered = numbered_on b ns q.roster h.run.numbered (λ j y e. leads j y (ap (λ (ms : List Name). slice_get ms j) roster ∙ e)) in
    let woken = c.in_ok-wake-in-Steps.ensures.ready n (population.roster.numbers c.args.number n (leads c.args.number n (number_named p.roster n c.args.number now))) in
    steps_round b program k n m.population h.before q (seen p.roster m.schedule) (seen q.roster c.give.new.self.schedule) (seen q.roster c.wake.new.self) x h.run taken
    population
    (c.in_ok-give-in-Steps.ensures.handed_on k x.effect n now giving)
    c.in_ok-wake-in-Steps.ensures.more woken numbered
    (λ j i e. c.in_ok-given-in-Steps.ensures.passed j i (c.in_ok-give-in-Steps.ensures.passed j i e)) h.forgotten

pub wake-requires : goal.wake-requires
wake-requires g c =
    let r = c.requires.running in
    let p : Population = c.act_found.new.self in
    let now = ap (number_of r.0) c.in_ok-given-in-Steps.ensures.roster ∙ r.1 in
    record { known = slice_get_within c.give.new.self.population.roster c.args.number r.0 (c.in_ok-give-in-Steps.ensures.leads c.args.number r.0 (number_named p.roster r.0 c.args.number now)) }

pub wanted-requires : goal.wanted-requires
wanted-requires g c =
    let r = c.requires.running in
    record { closed = (r.3, reached_closed c.args.self.now.population r.2 r.3 (but_reached c.args.bounds.now c.args.self.now r.0 r.2 r.3 r.4)); known = (r.0, r.1) }

pub returns-in_ok-serve-in-Serves-clause-tried : goal.returns-in_ok-serve-in-Serves-clause-tried
returns-in_ok-serve-in-Serves-clause-tried g c = λ program k n has h.
    let b : Bounds = c.args.bounds.now in
    let m : Machine = c.args.self.now in
    let ns : List Name = m.population.roster in
    let look = subst (IsLook (lists_within b) (count_within b) k ns n) c.in-Serves.is (c.in_ok-view.ensures.look program k n (but_reached b m n program k h) has) in
    serves_round b program k n m.population h.before (seen_in m) (seen ns c.serve.new.self) (wanted_labels c.in_ok-wanted-in-Serves.wanted) h.run h.taken (c.in_ok-serve-in-Serves.ensures.watching ns n has) (λ l. c.in_ok-serve-in-Serves.ensures.asks ns n l has)
    (λ a is. c.in_ok-wanted-in-Serves.ensures.wanted k a n h.run.population has is) look.0 look.1

pub returns-in_ok-hold-in-Holds-clause-tried : goal.returns-in_ok-hold-in-Holds-clause-tried
returns-in_ok-hold-in-Holds-clause-tried g c = λ program k n has h.
    let b : Bounds = c.args.bounds.now in
    let m : Machine = c.args.self.now in
    let ns : List Name = m.population.roster in
    let look = subst (IsLook (lists_within b) (count_within b) k ns n) c.in-Holds.is (c.in_ok-view.ensures.look program k n (but_reached b m n program k h) has) in
    let at = look.1 in
    let to : Name = at.0 in
    let sends = c.in_ok-hold-in-Holds.ensures.sends ns n to has at.1 in
    holds_round b program k n m.population h.before (seen_in m) (seen ns c.hold.new.self) to h.run h.taken (c.in_ok-hold-in-Holds.ensures.watching ns n has) sends look.0 at.2

pub before-requires-clause-closed : goal.before-requires-clause-closed
before-requires-clause-closed g c =
    let r = c.requires.running in
    (r.3, reached_closed c.args.self.now.population r.2 r.3 (but_reached c.args.bounds.now c.args.self.now r.0 r.2 r.3 r.4))

pub before-requires-clause-known : goal.before-requires-clause-known
before-requires-clause-known g c = let r = c.requires.running in (r.0, r.1)

pub tell-requires : goal.tell-requires
tell-requires g c =
    let r = c.requires.running in
    record { known = (r.0, ap (number_of r.0) c.in_ok-given-in-Steps.ensures.roster ∙ r.1) }

pub returns-in_ok-wake-in-Steps-clause-told : goal.returns-in_ok-wake-in-Steps-clause-told
returns-in_ok-wake-in-Steps-clause-told g c = λ program k n xs has h t.
    let b : Bounds = c.args.bounds.now in
    let m : Machine = c.args.self.now in
    let look = subst (IsLook (lists_within b) (count_within b) k m.population.roster n) c.in-Steps.is (c.in_ok-view.ensures.look program k n (but_reached b m n program k h) has) in
    let x : CanStep (lists_within b) (count_within b) k n = look.0 in
    let given = c.in_ok-given-in-Steps.given in
    let acts = c.in_ok-given-in-Steps.ensures.acts k x.effect n h.run.population has x.intends in
    let now = ap (number_of n) c.in_ok-given-in-Steps.ensures.roster ∙ has in
    let known = c.in_ok-known-in-Steps.ensures.known k x.activity n h.run.population has x.there in
    let last = with_poll n given (with_activity n x.effect.own k) in
    let served = c.in_ok-known-in-Steps.ensures.told xs k x.activity n t h.run.population has x.there in
    let begun = xs ++ map (noted_as n x.activity.reductions) (served_by (labels_wanted x.activity)) in
    let others = c.in_ok-tell-in-Steps.ensures.told begun last n x.activity x.effect served known acts.1.population now (acted_at n given k x.effect.own) acts.0 in
    let told = told_step (g.N.Notes.tells c.tell.new.notes) xs n x.activity x.effect others in
    let next = returns-in_ok-wake-in-Steps-clause-tried g c program k n has h in
    subst (λ ys. g.N.Notes.tells c.tell.new.notes (xs ++ ys)) (sym (step_noted b program k n m x next.0 h next.1)) told

pub returns-in_ok-wake-in-Steps-clause-order : goal.returns-in_ok-wake-in-Steps-clause-order
returns-in_ok-wake-in-Steps-clause-order g c = λ h.
    let r = c.requires.running in
    let m : Machine = c.args.self.now in
    let ns : List Name = m.population.roster in
    let q : Population = c.give.new.self.population in
    ascend_on m.schedule.ready.ordered c.wake.new.self.ready.ordered ns q.roster r.4.run.population.roster
    (λ j x e. c.in_ok-give-in-Steps.ensures.leads j x (ap (λ (ms : List Name). slice_get ms j) c.in_ok-given-in-Steps.ensures.roster ∙ e))
    (c.in_ok-wake-in-Steps.ensures.ordered ∙ c.in_ok-give-in-Steps.ensures.ordered) h
