-- Which of so many things are ticked off, and in which order.
use Rattle.std.specs.Prelude.{◌≡◌, ℕ, ◌+◌, ◌<◌, ◌≤◌, ◌^◌, ◌==◌, Bool, true, false, List, length, sum_by, slice_index_or, vec_capacity}
use Rattle.std.specs.List.{list_any}
use Rattle.core_sets.specs.declared.ticks.Ticks.{Ticks}

abbrev pub is_among : ℕ → List ℕ → Bool
is_among n = list_any (λ k. n == k)

-- how many things there are
abbrev pub size : Ticks → ℕ
size t = length t.done.items

abbrev pub open_count : List Bool → ℕ
open_count = sum_by (λ b. elim b [ true ↦ 0 | false ↦ 1 ])

pub record AreTicks (t : Ticks) : Type 0 where
  pub told : (n : ℕ) → slice_index_or t.done.items n false ≡ is_among n t.order.items
  pub count : length t.order.items + open_count t.done.items ≡ size t
  pub room : size t ≤ vec_capacity t.order
  pub small : size t < 2 ^ 32

-- one more thing takes no memory
pub record HasRoom (t : Ticks) : Type 0 where
  pub done : size t < vec_capacity t.done
  pub order : size t < vec_capacity t.order
  pub small : size t + 1 < 2 ^ 32
