-- The limits of a checkpoint.
use Rattle.std.specs.Prelude.{ℕ, ◌+◌, ◌≤◌, List, [], ◌∷◌, length}
use Rattle.asp_model.specs.declared.limits.TheConstants.{MOST_REDUCTIONS, MOST_SAVED_ACTIVITIES, MOST_SAVED_HOMES}
use Rattle.law_frozen.specs.Frozen.{FrozenActivity, FrozenShape}

-- the reductions of all of these
abbrev pub counted : List FrozenActivity → ℕ
counted [] = 0
counted (x ∷ xs) = x.activity.reductions + counted xs

pub record IsWithin (f : FrozenShape) : Type 0 where
  pub activities : length f.activities ≤ MOST_SAVED_ACTIVITIES
  pub homes : length f.homes ≤ MOST_SAVED_HOMES
  pub reductions : counted f.activities ≤ MOST_REDUCTIONS
