use Rattle.std.proofs.Common.{◌∙◌, List, ℕ, None, Some, map, sym}
use Rattle.std.specs.Global.{Vec}
use Rattle.std.proofs.lemmas.Result.{IfOk-weaker}
use Rattle.asp_model.specs.declared.outcome.Reception.{Reception}
use Rattle.asp_model.specs.Names.{Name}
use Rattle.asp_model.specs.Term.{Tree}
use Rattle.asp_model.specs.Configuration.{Configuration, start}
use Rattle.asp_model.specs.Replay.{CountsShape, count_in, steps_from}
use Rattle.asp_model.specs.Shapes.{counts_shape, lists_shape}
use Rattle.replay_parts.specs.Rows.{list_shape}
use Rattle.replay_one.proofs.DifferenceLemmas.{in_order, names_of_lists}
use Rattle.replay_parts.specs.declared.bounds.Bounds.TheVariants as bounds
use Rattle.replay_offers.proofs.RunLemmas.{free_both}
use Rattle.replay_population.specs.Reached.{IsReachedPopulation}
use Rattle.replay_offers.specs.Programs.{tree_in}
use Rattle.replay_offers.specs.Replays.{IsFreePopulation}
use Rattle.replay_offers.proofs.replays.Replays.go_on.Goals as goal

pub run-requires-clause-ascending : goal.run-requires-clause-ascending
run-requires-clause-ascending c =
    let ls : List (Name × Vec Reception) = c.args.lists.now.entries.items in
    let cs : CountsShape = c.args.counts.now.entries.items in
    (in_order ls (map list_shape ls) (sym (names_of_lists ls)) c.requires.ordered.ascending, in_order cs (map list_shape ls) (sym c.requires.ordered.names) c.requires.ordered.ascending, sym (names_of_lists ls) ∙ c.requires.ordered.names)

pub run-requires-clause-running : goal.run-requires-clause-running
run-requires-clause-running c = ((tree_in c.args.self.now), start (tree_in c.args.self.now), c.requires.start)

pub run-requires-2-clause-running : goal.run-requires-2-clause-running
run-requires-2-clause-running c =
    let t : Tree = tree_in c.args.self.now in
    let d : Configuration = steps_from c.self.inside.budget (Some (lists_shape c.args.lists.now)) (count_in (counts_shape c.args.counts.now)) (start t) in
    (t, d, c.in_ok-rouse.ensures.runs (bounds.Budget c.self.inside.budget) t d (c.in_ok-run.ensures.runs t (start t) c.requires.start) tt)

pub run-requires-2-clause-order : goal.run-requires-2-clause-order
run-requires-2-clause-order c = c.in_ok-rouse.ensures.order c.in_ok-run.ensures.order

pub returns : goal.returns
returns c =
    let t : Tree = tree_in c.args.self.now in
    let n : ℕ = c.self.inside.budget in
    let d : Configuration = steps_from n (Some (lists_shape c.args.lists.now)) (count_in (counts_shape c.args.counts.now)) (start t) in
    let e : Configuration = steps_from n None (λ m. n) d in
    let free = free_both t (Some (lists_shape c.args.lists.now)) (count_in (counts_shape c.args.counts.now)) (λ m. n) n n in
    let ran = c.run-2.ensures.runs t d (c.in_ok-rouse.ensures.runs (bounds.Budget n) t d (c.in_ok-run.ensures.runs t (start t) c.requires.start) tt) in
    record { run = IfOk-weaker c.run-2.result (λ _. IsReachedPopulation c.run-2.new.self.population t e) (λ _. IsFreePopulation t c.run-2.new.self.population) (λ _ p. record { names = free.0; end = e; run = free.1; reached = p }) ran }
