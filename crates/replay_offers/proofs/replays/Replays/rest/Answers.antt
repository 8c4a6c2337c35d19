use Rattle.std.proofs.Common.{◌∙◌, List, ℕ, Some, map, sym, subst}
use Rattle.std.specs.Global.{Vec}
use Rattle.asp_model.specs.declared.outcome.Reception.{Reception}
use Rattle.asp_model.specs.Names.{Name}
use Rattle.asp_model.specs.Term.{Tree}
use Rattle.asp_model.specs.Configuration.{start}
use Rattle.asp_model.specs.Replay.{CountsShape, count_in, steps_from}
use Rattle.asp_model.specs.Shapes.{counts_shape, lists_shape}
use Rattle.replay_parts.specs.Rows.{list_shape}
use Rattle.replay_one.proofs.DifferenceLemmas.{in_order, names_of_lists}
use Rattle.replay_population.specs.Reached.{IsReachedPopulation}
use Rattle.replay_offers.specs.Programs.{tree_in}
use Rattle.replay_offers.proofs.replays.Replays.rest.Goals as goal

pub start-requires : goal.start-requires
start-requires c =
    let ls : List (Name × Vec Reception) = c.args.lists.now.entries.items in
    let cs : CountsShape = c.args.counts.now.entries.items in
    record { ascending = (in_order ls (map list_shape ls) (sym (names_of_lists ls)) c.requires.ordered.ascending, in_order cs (map list_shape ls) (sym c.requires.ordered.names) c.requires.ordered.ascending, sym (names_of_lists ls) ∙ c.requires.ordered.names) }

pub run-requires-clause-ascending : goal.run-requires-clause-ascending
run-requires-clause-ascending c =
    let ls : List (Name × Vec Reception) = c.args.lists.now.entries.items in
    let cs : CountsShape = c.args.counts.now.entries.items in
    (in_order ls (map list_shape ls) (sym (names_of_lists ls)) c.requires.ordered.ascending, in_order cs (map list_shape ls) (sym c.requires.ordered.names) c.requires.ordered.ascending, sym (names_of_lists ls) ∙ c.requires.ordered.names)

pub run-requires-clause-running : goal.run-requires-clause-running
run-requires-clause-running c = ((tree_in c.args.self.now), start (tree_in c.args.self.now), c.in_ok-machine.ensures.start)

pub returns : goal.returns
returns c = record {
  rests =
      let t : Tree = (tree_in c.args.self.now) in
      subst (λ (n : ℕ). IsReachedPopulation c.run.new.self.population t (steps_from n (Some (lists_shape c.args.lists.now)) (count_in (counts_shape c.args.counts.now)) (start t))) c.total_of.ensures.total
      (c.in_ok-run.ensures.runs t (start t) c.in_ok-machine.ensures.start);
}
