-- Which cells of a store hold a future.
use Rattle.std.specs.Prelude.{ℕ, suc, Bool, true, false, List, [], ◌∷◌}
use Rattle.asp_model.specs.Names.{FutureShape, same_future}
use Rattle.code_table.specs.Cells.{CodedCell, CodedStore, Future}

-- the cell is this future
abbrev pub is_future : FutureShape → CodedCell → Bool
is_future f (Future g) = same_future g f
is_future f c = false

-- the cell is some future
abbrev pub is_some_future : CodedCell → Bool
is_some_future (Future g) = true
is_some_future c = false

-- the places of the cells that are this future, ascending, where the first cell has the place n
abbrev pub holders_from : ℕ → FutureShape → CodedStore → List ℕ
holders_from n f [] = []
holders_from n f (c ∷ cs) = elim (is_future f c) [ true ↦ n ∷ holders_from (suc n) f cs | false ↦ holders_from (suc n) f cs ]

abbrev pub holders : FutureShape → CodedStore → List ℕ
holders = holders_from 0

-- the two cells are one future
abbrev pub is_one_future : CodedCell → CodedCell → Bool
is_one_future c (Future g) = is_future g c
is_one_future c d = false
