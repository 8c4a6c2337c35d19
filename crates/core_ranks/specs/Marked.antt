-- Sets of numbers, as marks.
use Rattle.std.specs.Prelude.{◌≡◌, ℕ, ◌<◌, ◌^◌, true}
use Rattle.core_sets.specs.declared.marks.Marks.{Marks}
use Rattle.core_sets.specs.Marks.{IsTree, is_marked, room}
use Rattle.core_ranks.specs.Numbers.{NumberSet, numbers_below}

-- the numbers whose places are marked
abbrev pub marked_in : Marks → NumberSet
marked_in m = record { keys = numbers_below (room m) (is_marked m) }

pub record AreNumbers (m : Marks) : Type 0 where
  pub tree : IsTree m
  pub low : (p : ℕ) → is_marked m p ≡ true → p < 2 ^ 32
