use Rattle.std.proofs.Common.{sym, subst}
use Rattle.asp_model.specs.Names.{Name}
use Rattle.step_activity.specs.declared.act.Given.TheVariants as given
use Rattle.replay_population.specs.declared.population.Population.{Population}
use Rattle.replay_population.specs.Giving.{IsGiving}
use Rattle.replay_population.specs.Population.{IsPopulation, with_activity}
use Rattle.replay_population.proofs.GivingLemmas.{filled_is, filled_new, filled_root, made_alone, made_given, made_population, made_unlogged, sent_found, sent_is, sent_there}
use Rattle.replay_parts.proofs.ResultLemmas.{on_ok}
use Rattle.replay_population.proofs.population.Population.give.Goals as goal

pub unreachable-requires : goal.unreachable-requires
unreachable-requires c =
    let p : Population = c.args.self.now in
    let r = c.requires.giving in
    let g : IsGiving p r.0 (given.Sent c.in-Sent.name c.in-Sent.request) r.1 r.2 = subst (λ g. IsGiving p r.0 g r.1 r.2) c.in-Sent.is r.3 in
    sent_found p r.0 r.1 r.2 c.in-Sent.name c.in-Sent.request g (sym c.in_default.ensures.number)

pub fill-requires-clause-absent : goal.fill-requires-clause-absent
fill-requires-clause-absent c =
    let p : Population = c.args.self.now in
    let r = c.requires.giving in
    let f = c.in-Filled.future in
    let v = c.in-Filled.value in
    filled_new p r.0 r.1 r.2 f v (subst (λ g. IsGiving p r.0 g r.1 r.2) c.in-Filled.is r.3)

pub fill-requires-clause-one_root : goal.fill-requires-clause-one_root
fill-requires-clause-one_root c =
    let p : Population = c.args.self.now in
    let r = c.requires.giving in
    let f = c.in-Filled.future in
    let v = c.in-Filled.value in
    filled_root p r.0 r.1 r.2 f v (subst (λ g. IsGiving p r.0 g r.1 r.2) c.in-Filled.is r.3)

pub returns-in_ok-insert-in-Made-clause-given : goal.returns-in_ok-insert-in-Made-clause-given
returns-in_ok-insert-in-Made-clause-given c = λ k e n h.
    let p : Population = c.args.self.now in
    let m : Name = c.in-Made.name in
    let x = c.in-Made.actor in
    let g : IsGiving p n (given.Made m x) k e = subst (λ g. IsGiving p n g k e) c.in-Made.is h in
    let b = made_given p n k e m x g in
    made_population p n k e c.insert.new.self m x g (c.in_ok-insert-in-Made.ensures.made (with_activity n e.own k) b.0 g.here.population (made_alone p n k e m x g) (made_unlogged p n k e m x g) b.2 b.3 g.here.coded)

pub returns-in-Some-clause-given : goal.returns-in-Some-clause-given
returns-in-Some-clause-given c = λ k e n h.
    let p : Population = c.args.self.now in
    let name : Name = c.in-Sent.name in
    let r = c.in-Sent.request in
    let g : IsGiving p n (given.Sent name r) k e = subst (λ g. IsGiving p n g k e) c.in-Sent.is h in
    on_ok c.send.result _ _ (subst (IsPopulation c.send.new.self) (sent_is p n k e name r g)) (c.send.ensures.received (with_activity n e.own k) name g.here.population (sym c.in-Some.ensures.number) (sent_there p n k e name r g))

pub returns-in-Filled-clause-given : goal.returns-in-Filled-clause-given
returns-in-Filled-clause-given c = λ k e n h.
    let p : Population = c.args.self.now in
    let f = c.in-Filled.future in
    let v = c.in-Filled.value in
    let g : IsGiving p n (given.Filled f v) k e = subst (λ g. IsGiving p n g k e) c.in-Filled.is h in
    on_ok c.fill.result _ _ (subst (IsPopulation c.fill.new.self) (filled_is p n k e f v g)) (c.fill.ensures.filled (with_activity n e.own k) g.here.population g.here.coded)
