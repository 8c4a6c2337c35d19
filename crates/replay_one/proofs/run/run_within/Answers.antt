use Rattle.std.proofs.Common.{◌≡◌, ◌∙◌, ◌++◌, ap, subst, sym}
use Rattle.std.specs.Arc.{arc_value}
use Rattle.asp_model.specs.Term.{Tree}
use Rattle.asp_model.specs.Configuration.{start}
use Rattle.asp_model.specs.Replay.{steps_from}
use Rattle.asp_model.specs.Shapes.{tree_of}
use Rattle.replay_parts.specs.declared.bounds.Bounds.{Bounds}
use Rattle.replay_parts.specs.Bounds.{count_within, lists_within}
use Rattle.replay_population.specs.declared.population.Population.{Population}
use Rattle.replay_population.specs.Population.{term_of}
use Rattle.replay_population.specs.Reached.{IsReachedPopulation}
use Rattle.replay_population.proofs.EndLemmas.{reached_closed}
use Rattle.replay_parts.proofs.ResultLemmas.{any_way}
use Rattle.replay_one.specs.Told.{notes_by}
use Rattle.replay_one.proofs.PlainLemmas.{begins_run, placed}
use Rattle.replay_one.proofs.run.run_within.Goals as goal

pub run-requires-clause-running : goal.run-requires-clause-running
run-requires-clause-running g c =
    let t : Tree = tree_of c.args.program.now.program.root in
    let same : term_of (arc_value c.in_ok-code.code) ≡ t = ap term_of c.in_ok-code.ensures.ok ∙ c.in_ok-compile.ensures.program in
    (t, start t, begins_run c.args.bounds.now c.in_ok-machine.machine t (term_of (arc_value c.in_ok-code.code)) same c.in_ok-compile.ensures.bare c.in_ok-machine.ensures.population c.in_ok-machine.ensures.numbered c.in_ok-machine.ensures.ready c.in_ok-machine.ensures.passed)

pub end-requires : goal.end-requires
end-requires g c =
    let t : Tree = tree_of c.args.program.now.program.root in
    let b : Bounds = c.args.bounds.now in
    let same : term_of (arc_value c.in_ok-code.code) ≡ t = ap term_of c.in_ok-code.ensures.ok ∙ c.in_ok-compile.ensures.program in
    let begun = begins_run b c.in_ok-machine.machine t (term_of (arc_value c.in_ok-code.code)) same c.in_ok-compile.ensures.bare c.in_ok-machine.ensures.population c.in_ok-machine.ensures.numbered c.in_ok-machine.ensures.ready c.in_ok-machine.ensures.passed in
    let last = steps_from c.args.total (lists_within b) (count_within b) (start t) in
    let after = placed c.run.new.self.population c.tell_places.new.population t last (c.in_ok-run.ensures.runs t (start t) begun) c.in_ok-tell_places.ensures.population in
    record { reached = (t, last, subst (λ (p : Population). IsReachedPopulation p t last) (sym c.into_population.ensures.population) after) }

pub returns : goal.returns
returns g c =
    let t : Tree = tree_of c.args.program.now.program.root in
    let b : Bounds = c.args.bounds.now in
    let same : term_of (arc_value c.in_ok-code.code) ≡ t = ap term_of c.in_ok-code.ensures.ok ∙ c.in_ok-compile.ensures.program in
    let begun = begins_run b c.in_ok-machine.machine t (term_of (arc_value c.in_ok-code.code)) same c.in_ok-compile.ensures.bare c.in_ok-machine.ensures.population c.in_ok-machine.ensures.numbered c.in_ok-machine.ensures.ready c.in_ok-machine.ensures.passed in
    let last = steps_from c.args.total (lists_within b) (count_within b) (start t) in
    let ran = c.in_ok-run.ensures.runs t (start t) begun in
    let placed_there = placed c.run.new.self.population c.tell_places.new.population t last ran c.in_ok-tell_places.ensures.population in
    let after = subst (λ (p : Population). IsReachedPopulation p t last) (sym c.into_population.ensures.population) placed_there in
    record {
      end = c.end.ensures.end t last after;
      outcome = c.end.ensures.outcome t last after;
      told = λ xs told. any_way c.end.result _ (c.in_ok-tell_places.ensures.told (xs ++ notes_by b c.args.total (start t)) t last ran (c.in_ok-run.ensures.told t (start t) xs begun told));
    }

pub tell_places-requires : goal.tell_places-requires
tell_places-requires g c =
    let t : Tree = tree_of c.args.program.now.program.root in
    let b : Bounds = c.args.bounds.now in
    let same : term_of (arc_value c.in_ok-code.code) ≡ t = ap term_of c.in_ok-code.ensures.ok ∙ c.in_ok-compile.ensures.program in
    let begun = begins_run b c.in_ok-machine.machine t (term_of (arc_value c.in_ok-code.code)) same c.in_ok-compile.ensures.bare c.in_ok-machine.ensures.population c.in_ok-machine.ensures.numbered c.in_ok-machine.ensures.ready c.in_ok-machine.ensures.passed in
    let last = steps_from c.args.total (lists_within b) (count_within b) (start t) in
    record { closed = (last, reached_closed c.run.new.self.population t last (c.in_ok-run.ensures.runs t (start t) begun)) }
