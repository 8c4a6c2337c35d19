use Rattle.std.proofs.Common.{◌∙◌, sym, subst}
use Rattle.asp_model.specs.Configuration.{Configuration}
use Rattle.asp_model.specs.Intent.{Effect}
use Rattle.asp_model.specs.Names.{Name}
use Rattle.step_activity.specs.Effects.{IsGiven}
use Rattle.step_activity.specs.declared.act.Given.TheVariants as given
use Rattle.replay_population.specs.Giving.{IsGiving}
use Rattle.replay_population.specs.Population.{IsGivenIn, with_activity, with_poll}
use Rattle.replay_population.proofs.EndLemmas.{reached_closed}
use Rattle.replay_population.proofs.GivingLemmas.{reached_hand_on}
use Rattle.replay_classes.specs.Classes.{class_in}
use Rattle.replay_classes.proofs.ProbeLemmas.{given_sends, sent_entry}
use Rattle.replay_classes.proofs.WalkLemmas.{reached_on}
use Rattle.replay_classes.proofs.probes.send.Goals as goal

pub act-requires-clause-closed : goal.act-requires-clause-closed
act-requires-clause-closed c = let r = c.requires.sends in (r.at, reached_closed c.args.population.now r.program r.at r.reached)

pub unreachable-requires : goal.unreachable-requires
unreachable-requires c =
    let r = c.requires.sends in
    let acts = c.in_ok-given.ensures.acts r.at r.effect r.who r.reached.population r.has r.acts in
    given_sends r.who r.effect c.in_ok-given.given acts.0 r.sends c.in_default.not-Sent

pub give-requires : goal.give-requires
give-requires c =
    let r = c.requires.sends in
    let acts = c.in_ok-given.ensures.acts r.at r.effect r.who r.reached.population r.has r.acts in
    record {
      giving = (
        r.who,
        r.at,
        r.effect,
        record {
          free = reached_hand_on r.program r.at r.who r.effect r.reached.bare r.reached.reached r.acts;
          given = subst (IsGiven r.who r.effect) c.in-Sent.is acts.0;
          here = subst (λ g. IsGivenIn c.act.new.self (with_poll r.who g (with_activity r.who r.effect.own r.at)) g) c.in-Sent.is acts.1;
        },
      );
    }

pub returns-in_ok-give-in-Ok-clause-sent : goal.returns-in_ok-give-in-Ok-clause-sent
returns-in_ok-give-in-Ok-clause-sent c = λ program k e n h is intends.
    let acts = c.in_ok-given.ensures.acts k e n h.population is intends in
    sent_entry (class_in c.args.classes.now) k n e c.in-Sent.to c.in-Sent.request c.in-Ok.sending (subst (IsGiven n e) c.in-Sent.is acts.0) c.in-Ok.ensures.by c.in-Ok.ensures.to c.in-Ok.ensures.class

pub returns-in_ok-give-in-Ok-clause-reached : goal.returns-in_ok-give-in-Ok-clause-reached
returns-in_ok-give-in-Ok-clause-reached c = λ program k e n h is intends.
    let acts = c.in_ok-given.ensures.acts k e n h.population is intends in
    reached_on c.args.population.now c.give.new.self program k n e h intends (c.in_ok-give-in-Ok.ensures.given k e n (record {
      free = reached_hand_on program k n e h.bare h.reached intends;
      given = subst (IsGiven n e) c.in-Sent.is acts.0;
      here = subst (λ g. IsGivenIn c.act.new.self (with_poll n g (with_activity n e.own k)) g) c.in-Sent.is acts.1;
    }))
