use Rattle.std.proofs.Common.{◌≡◌, ◌∙◌, true, Some, is_some, sym, ap, subst}
use Rattle.std.specs.FinMap.{find}
use Rattle.asp_model.specs.Configuration.{Configuration, From, Poll}
use Rattle.asp_model.specs.Names.{name_cmp}
use Rattle.asp_model.specs.Shapes.{future_shape, lists_shape}
use Rattle.asp_model.specs.Status.{status_of_intent}
use Rattle.asp_model.specs.Step.{intent_in, is_reception}
use Rattle.def_journals.specs.Journals.{number_of}
use Rattle.law_chases.proofs.FutureLemmas.{some_is}
use Rattle.law_steps.proofs.WholeLemmas.{reached_are_sound}
use Rattle.replay_one.proofs.LookLemmas.{awaits_intent, target_there}
use Rattle.replay_population.specs.declared.population.Population.{Population}
use Rattle.replay_population.proofs.EndLemmas.{reached_closed}
use Rattle.replay_population.proofs.PopulationLemmas.{absent_nowhere, absent_there, found_at, found_stands}
use Rattle.replay_parts.proofs.RosterLemmas.{number_named, number_within}
use Rattle.step_activity.specs.Outlook.{IsOutlook}
use Rattle.run_waits.proofs.TurnLemmas.{absent_turn, awaits_turn, polls_enter, sends_enter, steps_turn}
use Rattle.run_waits.proofs.cuts.turns.turn_of.Goals as goal

pub creator-requires : goal.creator-requires
creator-requires c = record { known = number_within c.args.population.now.roster c.requires.known.0 c.args.number c.requires.known.1 }

pub outlook-requires-clause-closed : goal.outlook-requires-clause-closed
outlook-requires-clause-closed c = let r = c.requires.reached in (r.1, reached_closed c.args.population.now r.0 r.1 r.2)

pub name-requires : goal.name-requires
name-requires c = record { within = number_within c.args.population.now.roster c.requires.known.0 c.args.number c.requires.known.1 }

pub returns-in_default : goal.returns-in_default
returns-in_default c = record {
  turn = λ program k n h told has.
      let p : Population = c.args.population.now in
      absent_turn (lists_shape c.args.lists.now) k p.roster n c.in_ok-creator.field-0 (absent_there p k n h.population (found_at p n c.args.number has ∙ sym c.in_default.ensures.value)) (c.in_ok-creator.ensures.creator n has);
}

pub unreachable-requires : goal.unreachable-requires
unreachable-requires c =
    let p : Population = c.args.population.now in
    let r = c.requires.reached in
    let m = c.requires.known in
    let k : Configuration = r.1 in
    let o = subst (IsOutlook m.0 (intent_in k m.0)) c.in-Sends.is (c.in_ok-outlook.ensures.outlook k m.0 r.2.population m.1) in
    absent_nowhere p k c.in-Sends.target.now r.2.population (sym c.in_default-number.ensures.number) (target_there r.0 k m.0 c.in-Sends.target r.2.reached o)

pub returns-in-Steps : goal.returns-in-Steps
returns-in-Steps c = record {
  turn = λ program k n h told has.
      steps_turn (lists_shape c.args.lists.now) k c.args.population.now.roster n (subst (IsOutlook n (intent_in k n)) c.in-Steps.is (c.in_ok-outlook.ensures.outlook k n h.population has));
}

pub returns-in-Some-number : goal.returns-in-Some-number
returns-in-Some-number c = record {
  turn = λ program k n h told has.
      let p : Population = c.args.population.now in
      let to = c.in-Sends.target in
      let o = subst (IsOutlook n (intent_in k n)) c.in-Sends.is (c.in_ok-outlook.ensures.outlook k n h.population has) in
      let enters = sends_enter program k n to h.reached o in
      let number : number_of to.now p.roster ≡ Some c.in-Some-number.to = sym c.in-Some-number.ensures.number in
      let mine : c.name.result.now ≡ n = some_is (sym c.name.ensures.name ∙ number_named p.roster n c.args.number has) in
      let next = c.next_entry.ensures.next k to.now h.population number enters.there in
      c.entering.ensures.turn k n to.now (From n) h.population number enters (c.is_from-may.ensures ∙ (λ i. is_reception (From (mine i)) (next i)));
}

pub returns-in-Polls : goal.returns-in-Polls
returns-in-Polls c = record {
  turn = λ program k n h told has.
      let p : Population = c.args.population.now in
      let s = found_stands p k n c.in-Some.field-0.now h.population (found_at p n c.args.number has ∙ sym c.in-Some.ensures.value) in
      let there : is_some (find name_cmp n k.activities) ≡ true = ap is_some s.1 in
      let o = subst (IsOutlook n (intent_in k n)) c.in-Polls.is (c.in_ok-outlook.ensures.outlook k n h.population has) in
      c.entering-in-Polls.ensures.turn k n n Poll h.population has (polls_enter k n there o) (c.is_poll-may.ensures ∙ ap (is_reception Poll) (c.next_entry-in-Polls.ensures.next k n h.population has there));
}

pub returns-in-Awaits : goal.returns-in-Awaits
returns-in-Awaits c = record {
  turn = λ program k n h told has.
      let p : Population = c.args.population.now in
      let f = c.in-Awaits.future in
      let s = found_stands p k n c.in-Some.field-0.now h.population (found_at p n c.args.number has ∙ sym c.in-Some.ensures.value) in
      let e = awaits_intent n (intent_in k n) f (subst (IsOutlook n (intent_in k n)) c.in-Awaits.is (c.in_ok-outlook.ensures.outlook k n h.population has)) in
      awaits_turn (lists_shape c.args.lists.now) k p.roster n c.receiver.result s.0 (future_shape f.now) s.1 e (c.receiver.ensures.receiver k n (reached_are_sound program k h.reached) told (ap status_of_intent e));
}
