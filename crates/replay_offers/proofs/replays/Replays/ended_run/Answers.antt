use Rattle.std.proofs.Common.{◌≡◌, ◌≤◌, rules}
use Rattle.asp_model.specs.declared.limits.TheConstants.{MOST_REDUCTIONS}
use Rattle.asp_model.specs.Replay.{total}
use Rattle.asp_model.specs.Shapes.{counts_shape, lists_shape, outcome_shape}
use Rattle.asp_model.specs.Status.{Budget}
use Rattle.replay_offers.specs.Programs.{tree_in}
use Rattle.replay_offers.proofs.RunLemmas.{end_shown}
use Rattle.replay_offers.proofs.replays.Replays.ended_run.Goals as goal

pub returns : goal.returns
returns c =
    let within : total (counts_shape c.in_ok-counts.counts) ≤ MOST_REDUCTIONS = search rules in
    let going : (outcome_shape c.args.outcome.now).verdict ≡ Budget → ⊥ = search rules in
    record { end = end_shown (tree_in c.args.self.now) (outcome_shape c.args.outcome.now) (lists_shape c.in_ok-lists.lists) (counts_shape c.in_ok-counts.counts) c.requires.run going c.in_ok-lists.ensures.lists c.in_ok-counts.ensures.counts within }
