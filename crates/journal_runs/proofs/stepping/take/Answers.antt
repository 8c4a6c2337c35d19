use Rattle.std.proofs.Common.{◌≡◌, ◌++◌, ◌&&◌, Bool, true, false, refl, rules, sym, ap, ◌∙◌}
use Rattle.def_journals.specs.Journals.{number_of}
use Rattle.law_core.specs.Commits.{made_by}
use Rattle.replay_population.specs.declared.population.Population.{Population}
use Rattle.law_chases.proofs.FutureLemmas.{none_true}
use Rattle.replay_population.specs.Giving.{IsGiving}
use Rattle.journal_runs.specs.Stepping.{gives}
use Rattle.journal_runs.proofs.StepLemmas.{effect_free, is_after, made_unnumbered, reducing_closed}
use Rattle.journal_runs.proofs.stepping.take.Goals as goal

pub act-requires-clause-closed : goal.act-requires-clause-closed
act-requires-clause-closed c = let r = c.requires.acting in reducing_closed c.args.population.now r.0 r.1 c.args.number r.2 r.3

pub act-requires-clause-known : goal.act-requires-clause-known
act-requires-clause-known c = let r = c.requires.acting in (r.2, r.3.named)

pub hand_on-requires : goal.hand_on-requires
hand_on-requires c =
    let r = c.requires.acting in
    let e = r.4 in
    let acts = c.in_ok-given.ensures.acts r.1 e.0 r.2 r.3.reached.population r.3.named e.1 in
    record { giving = (r.2, r.1, e.0, record { free = effect_free c.args.population.now r.0 r.1 c.args.number r.2 r.3 e.0 e.1; given = acts.0; here = acts.1 }) }

stops_not : (more reaches : Bool) → (more && reaches) ≡ false → more ≡ true → reaches ≡ false
stops_not true reaches h m = h
stops_not false reaches h m = none_true m

stops_both : (more reaches : Bool) → (more && reaches) ≡ true → (more ≡ true) × (reaches ≡ true)
stops_both true reaches h = (refl, h)
stops_both false reaches h = none_true h

pub returns-then-stops : goal.returns-then-stops
returns-then-stops c = record {
  acted = λ program k n e r intends.
      let acts = c.in_ok-given.ensures.acts k e n r.reached.population r.named intends in
      let yes : c.stops-stops.result ≡ true = search rules in
      stops_both c.args.more (gives e) (sym (c.stops-stops.ensures.stops n e acts.0) ∙ yes);
}

pub returns : goal.returns
returns c = record {
  acted = λ program k n e r intends.
      let p : Population = c.args.population.now in
      let acts = c.in_ok-given.ensures.acts k e n r.reached.population r.named intends in
      let giving : IsGiving c.act.new.self n c.in_ok-given.given k e = record { free = effect_free p program k c.args.number n r e intends; given = acts.0; here = acts.1 } in
      let same : c.act.new.self.roster ≡ p.roster = c.in_ok-given.ensures.roster in
      let names = c.in_ok-hand_on.ensures.names k e n giving (λ z is. ap (number_of z.0) same ∙ made_unnumbered p program k c.args.number n r e intends z is) in
      let no : c.stops-stops.result ≡ false = search rules in (
        is_after p program k c.args.number n r e intends c.hand_on.new.population (c.in_ok-hand_on.ensures.given k e n giving) (names ∙ ap (λ ns. ns ++ made_by e.made) same),
        λ more. stops_not c.args.more (gives e) (sym (c.stops-stops.ensures.stops n e acts.0) ∙ no) more,
      );
}
