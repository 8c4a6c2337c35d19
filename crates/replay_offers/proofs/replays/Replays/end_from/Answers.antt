use Rattle.std.proofs.Common.{rules, subst, sym}
use Rattle.asp_model.specs.Replay.{CountsShape}
use Rattle.asp_model.specs.Shapes.{counts_shape, lists_shape}
use Rattle.law_schedules.specs.Divergence.{AreInOrder}
use Rattle.replay_one.specs.Listed.{AreReplayable}
use Rattle.replay_offers.proofs.OfferLemmas.{even_in_order}
use Rattle.replay_offers.proofs.replays.Replays.end_from.Goals as goal

pub run_on-requires : goal.run_on-requires
run_on-requires c =
    let replayable : AreReplayable (lists_shape c.args.lists.now) (counts_shape c.in_ok-none.none) = search rules in
    record {
      ordered = subst (λ (cs : CountsShape). AreInOrder (lists_shape c.args.lists.now) cs) (sym c.in_ok-counts.ensures.even)
          (even_in_order (lists_shape c.args.lists.now) 0 c.self.inside.budget c.args.lists.now.entries.items (subst (λ (cs : CountsShape). AreInOrder (lists_shape c.args.lists.now) cs) c.in_ok-none.ensures.even replayable.ordered));
    }
