use Rattle.std.proofs.Common.{◌≡◌, ◌∙◌, List, map, subst, sym}
use Rattle.std.proofs.lemmas.Result.{IfOk-weaker}
use Rattle.std.specs.Global.{Vec}
use Rattle.asp_model.specs.declared.outcome.Reception.{Reception}
use Rattle.asp_model.specs.declared.outcome.Outcome.{Outcome}
use Rattle.asp_model.specs.Names.{Name}
use Rattle.asp_model.specs.Outcome.{outcome_of}
use Rattle.asp_model.specs.Shapes.{outcome_shape}
use Rattle.asp_model.specs.Term.{Tree}
use Rattle.asp_model.specs.Replay.{CountsShape}
use Rattle.replay_parts.specs.Rows.{list_shape}
use Rattle.replay_one.proofs.DifferenceLemmas.{in_order, names_of_lists}
use Rattle.replay_population.specs.declared.population.Population.{Population}
use Rattle.replay_population.specs.Reached.{IsReachedPopulation}
use Rattle.replay_offers.specs.Programs.{tree_in}
use Rattle.replay_offers.specs.Replays.{IsFreeRun}
use Rattle.replay_offers.proofs.replays.Replays.run_on.Goals as goal

pub start-requires : goal.start-requires
start-requires c =
    let ls : List (Name × Vec Reception) = c.args.lists.now.entries.items in
    let cs : CountsShape = c.args.counts.now.entries.items in
    record { ascending = (in_order ls (map list_shape ls) (sym (names_of_lists ls)) c.requires.ordered.ascending, in_order cs (map list_shape ls) (sym c.requires.ordered.names) c.requires.ordered.ascending, sym (names_of_lists ls) ∙ c.requires.ordered.names) }

pub shown_by-requires : goal.shown_by-requires
shown_by-requires c =
    let t : Tree = tree_in c.args.self.now in
    let free = c.in_ok-go_on.ensures.run in
    record { reached = (t, free.end, subst (λ (p : Population). IsReachedPopulation p t free.end) (sym c.into_population.ensures.population) free.reached) }

pub returns : goal.returns
returns c =
    let t : Tree = tree_in c.args.self.now in
    let free = c.in_ok-go_on.ensures.run in
    let reached = subst (λ (p : Population). IsReachedPopulation p t free.end) (sym c.into_population.ensures.population) free.reached in
    let shown = c.shown_by.ensures.outcome t free.end reached in
    record { run = IfOk-weaker c.shown_by.result (λ (o : Outcome). outcome_shape o ≡ outcome_of free.end) (λ (o : Outcome). IsFreeRun t (outcome_shape o)) (λ o p. record { names = free.names; end = free.end; run = free.run; outcome = p }) shown }
