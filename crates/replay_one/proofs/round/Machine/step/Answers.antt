use Rattle.std.proofs.Common.{subst}
use Rattle.replay_one.specs.Round.{IsRound}
use Rattle.replay_one.specs.Told.{AreToldInRound}
use Rattle.replay_one.proofs.round.Machine.step.Goals as goal

pub loop-taken-init : goal.loop-taken-init
loop-taken-init g c = ((λ program k h. h), (λ program k xs h t. t), c.requires.order)

pub round-requires-clause-running : goal.round-requires-clause-running
round-requires-clause-running g c =
    let r = c.requires.running in
    (r.0, r.1, c.loop-taken.invariant.0 r.0 r.1 r.2)

pub returns-in-Steps : goal.returns-in-Steps
returns-in-Steps g c = record {
  steps = λ program k h. subst (λ t. IsRound c.args.bounds.now program k c.args.most t c.round.new.self) c.in-Steps.is (c.in_ok-taken.ensures.round program k (c.loop-taken.invariant.0 program k h));
  told = λ program k xs h t. subst (AreToldInRound (g.N.Notes.tells c.round.new.notes) xs c.args.bounds.now k) c.in-Steps.is (c.in_ok-taken.ensures.told program k xs (c.loop-taken.invariant.0 program k h) (c.loop-taken.invariant.1 program k xs h t));
  order = c.in_ok-taken.ensures.order;
}

pub returns-in-Ends : goal.returns-in-Ends
returns-in-Ends g c = record {
  steps = λ program k h. subst (λ t. IsRound c.args.bounds.now program k c.args.most t c.round.new.self) c.in-Ends.is (c.in_ok-taken.ensures.round program k (c.loop-taken.invariant.0 program k h));
  told = λ program k xs h t. subst (AreToldInRound (g.N.Notes.tells c.round.new.notes) xs c.args.bounds.now k) c.in-Ends.is (c.in_ok-taken.ensures.told program k xs (c.loop-taken.invariant.0 program k h) (c.loop-taken.invariant.1 program k xs h t));
  order = c.in_ok-taken.ensures.order;
}

pub loop-taken-preserved : goal.loop-taken-preserved
loop-taken-preserved g c = (
  (λ program k h. subst (λ t. IsRound c.args.bounds.now program k c.args.most t c.round.new.self) c.in-Leaves.is (c.in_ok-taken.ensures.round program k (c.loop-taken.invariant.0 program k h))),
  (λ program k xs h t. subst (AreToldInRound (g.N.Notes.tells c.round.new.notes) xs c.args.bounds.now k) c.in-Leaves.is (c.in_ok-taken.ensures.told program k xs (c.loop-taken.invariant.0 program k h) (c.loop-taken.invariant.1 program k xs h t))),
  c.in_ok-taken.ensures.order,
)
