use Rattle.std.specs.Prelude.{map, take}
use Rattle.asp_model.specs.Shapes.{lists_shape}
use Rattle.law_families.specs.Families.{IsWithin}
use Rattle.outcome_search.specs.Ends.{run_logs}
use Rattle.outcome_search.proofs.search.is_within.Given as goal

abbrev pub invariant-loop-end : goal.invariant-loop-end
invariant-loop-end l = IsWithin (map run_logs (take l.end-index l.ends)) (lists_shape l.lists) → ⊥
