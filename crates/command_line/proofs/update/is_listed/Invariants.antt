use Rattle.std.proofs.Common.{◌≡◌, drop, map}
use Rattle.std.specs.List.{list_any}
use Rattle.asp_model.specs.Names.{same_text}
use Rattle.update_policy.specs.Plans.{pair_shape}
use Rattle.command_line.proofs.update.is_listed.Given as goal

abbrev pub invariant-loop-pair : goal.invariant-loop-pair
invariant-loop-pair l = list_any (λ y. same_text l.label y.0) (map pair_shape (drop l.pair-index l.pairs)) ≡ list_any (λ y. same_text l.label y.0) (map pair_shape l.pairs)
