use Rattle.std.proofs.Common.{◌≡◌, drop, map}
use Rattle.update_policy.specs.Plans.{listed_by, pair_shape}
use Rattle.update_policy.proofs.plan.Plan.strategy_of.Given as goal

abbrev pub invariant-loop-pair : goal.invariant-loop-pair
invariant-loop-pair l = record {
  items : l.pair-items ≡ l.self.by_label.items;
  later : listed_by l.label.text (map pair_shape (drop l.pair-index l.pair-items)) ≡ listed_by l.label.text (map pair_shape l.pair-items);
}
