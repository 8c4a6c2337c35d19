-- What contracts see of a value that is shown to all who hold its future: cells of which none is a future.
use Rattle.std.specs.Prelude.{ℕ, ℤ, List, [], ◌∷◌, map, take, drop}
use Rattle.std.specs.Arc.{arc_value}
use Rattle.asp_model.specs.Names.{Name}
use Rattle.code_table.specs.declared.answer.Shown.{Shown}
use Rattle.code_table.specs.declared.answer.Shown.TheVariants as shown
use Rattle.code_table.specs.declared.answer.Held.{Held}
use Rattle.code_table.specs.declared.answer.Held.TheVariants as held

pub data ShownCell : Type 0 where
  Number : (n : ℤ) → ShownCell
  Object : (class : ℕ) (places : List ℕ) → ShownCell
  Reference : (activity : Name) → ShownCell
  Group : (members : List ℕ) → ShownCell

-- the cells, in order
pub record AnswerView : Type 0 where
  pub cells : List ShownCell

-- a cell, with its places among these words
abbrev pub shown_in : List ℕ → Shown → ShownCell
shown_in ws (shown.Number n) = Number n
shown_in ws (shown.Object k start count) = Object k (take count (drop start ws))
shown_in ws (shown.Group start count) = Group (take count (drop start ws))
shown_in ws (shown.Reference n) = Reference (arc_value n)

abbrev pub answer_view : Held → AnswerView
answer_view (held.Number n) = record { cells = Number n ∷ [] }
answer_view (held.Reference n) = record { cells = Reference (arc_value n) ∷ [] }
answer_view (held.Listed s) = record { cells = map (shown_in s.value.words.items) s.value.cells.items }
