-- What every pair of columns keeps.
use Rattle.std.specs.Prelude.{◌≡◌, ℕ, ◌≤◌, ◌<◌, ◌-◌, ◌++◌, List, [], ◌∷◌, length, map, vec_len, vec_capacity}
use Rattle.std.specs.List.{AllByRecursion}
use Rattle.code_table.specs.Cells.{CodedCell, Span, all_coded, coded_in, end_of, span_of}
use Rattle.code_table.specs.ColumnsView.{ColumnsView}
use Rattle.code_table.specs.declared.cells.Cell.{Cell}
use Rattle.code_table.specs.declared.columns.Columns.TheInside.{Inside}

abbrev pub columns_view : Inside → ColumnsView
columns_view c = record { items = all_coded c.words.items c.cells.items; free = vec_capacity c.cells - vec_len c.cells }

-- the word lies in the span
abbrev pub IsIn : ℕ → Span → Type 0
IsIn k s = (s.0 ≤ k) × (k < s.1)

-- no word lies in both
abbrev pub IsApart : (one other : Span) → Type 0
IsApart s t = (k : ℕ) → IsIn k s → IsIn k t → ⊥

abbrev pub AreApart : List Span → Type 0
AreApart [] = Unit {0}
AreApart (s ∷ ss) = AllByRecursion (IsApart s) ss × AreApart ss

-- spans end within so many words, and any two of them are apart
pub record AreLaid (n : ℕ) (spans : List Span) : Type 0 where
  pub within : AllByRecursion (λ s. s.1 ≤ n) spans
  pub apart : AreApart spans

abbrev pub AreColumns : Inside → Type 0
AreColumns c = AreLaid (length c.words.items) (map span_of c.cells.items)

-- words came behind the old ones
abbrev pub Grows : (old new : List ℕ) → Type 0
Grows old new = (ws : List ℕ) × (new ≡ old ++ ws)

-- the cell, as it is among the new words, has words behind the old ones alone
pub record IsFresh (old new : List ℕ) (is : CodedCell) (c : Cell) : Type 0 where
  pub cell : coded_in new c ≡ is
  pub within : end_of c ≤ length new
  pub behind : (k : ℕ) → IsIn k (span_of c) → length old ≤ k

-- cells with the same words
pub record AreCopies (old new : List Cell) : Type 0 where
  pub cells : (ws : List ℕ) → all_coded ws new ≡ all_coded ws old
  pub spans : map span_of new ≡ map span_of old
