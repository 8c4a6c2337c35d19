-- What contracts see of a cell whatever code its objects are of: an object is the number of its class and its places.
use Rattle.std.specs.Prelude.{◌≡◌, ℕ, ℤ, ◌+◌, pos, zero, suc, cond, nat_lt, List, [], ◌∷◌, ◌++◌}
use Rattle.std.specs.Prelude.{Option, Some, None, map, take, drop, slice_set}
use Rattle.std.specs.List.{AllByRecursion}
use Rattle.std.specs.Arc.{arc_value}
use Rattle.std.specs.declared.alloc.Global.{Global}
use Rattle.std.specs.declared.sync.Arc.{Arc}
use Rattle.code_table.specs.declared.future.Future.{Future as Held}
use Rattle.asp_model.specs.Names.{Name, FutureShape}
use Rattle.asp_model.specs.Shapes.{future_shape}
use Rattle.code_table.specs.declared.cells.Cell.{Cell}
use Rattle.code_table.specs.declared.cells.Cell.TheVariants as cells
use Rattle.code_table.specs.declared.cells.Object.{Object as Read}
use Rattle.code_table.specs.declared.cells.View.{View}
use Rattle.code_table.specs.declared.cells.View.TheVariants as views
use Rattle.std.specs.Borrow.{Bor}
use Rattle.code_table.specs.declared.places.Shift.{Shift}
use Rattle.code_table.specs.Places.{placed, shifted}

pub data CodedCell : Type 0 where
  Number : (n : ℤ) → CodedCell
  Object : (class : ℕ) (places : List ℕ) → CodedCell
  Reference : (activity : Name) → CodedCell
  Future : (future : FutureShape) → CodedCell
  Group : (members : List ℕ) → CodedCell

-- a future that is shared
abbrev pub held_future : Arc Held Global → FutureShape
held_future f = future_shape (arc_value f).name

-- a cell as it is read
abbrev pub object_coded : Read → CodedCell
object_coded o = Object o.class (placed o.places)

abbrev pub coded : View → CodedCell
coded (views.Number n) = Number n
coded (views.Object o) = object_coded o
coded (views.Reference n) = Reference (arc_value n.now)
coded (views.Future f) = Future (held_future f.now)
coded (views.Group ns) = Group (placed ns)

-- so many words from one on
abbrev pub span_places : List ℕ → (start count : ℕ) → List ℕ
span_places ws start count = take count (drop start ws)

-- a cell as it is kept, with its places among these words
abbrev pub coded_in : List ℕ → Cell → CodedCell
coded_in ws (cells.Number n) = Number n
coded_in ws (cells.Object k start count) = Object k (span_places ws start count)
coded_in ws (cells.Group start count) = Group (span_places ws start count)
coded_in ws (cells.Reference n) = Reference (arc_value n)
coded_in ws (cells.Future f) = Future (held_future f)

-- the words from one up to another
abbrev pub Span : Type 0
Span = ℕ × ℕ

-- the words of a cell
abbrev pub span_of : Cell → Span
span_of (cells.Object k start count) = (start, start + count)
span_of (cells.Group start count) = (start, start + count)
span_of c = (0, 0)

abbrev pub end_of : Cell → ℕ
end_of c = (span_of c).1

-- a cell that has no words
abbrev pub IsBare : Cell → Type 0
IsBare c = end_of c ≡ 0

abbrev pub bare : Cell → CodedCell
bare = coded_in []

-- the word of one of an object's places, where it has that many
abbrev pub word_at : ℕ → Cell → Option ℕ
word_at i (cells.Object k start count) = cond (nat_lt i count) (Some (start + i)) None
word_at i c = None

abbrev pub CodedStore : Type 0
CodedStore = List CodedCell

abbrev pub all_coded : List ℕ → List Cell → CodedStore
all_coded ws cs = map (coded_in ws) cs

-- no cell is a future
abbrev pub IsPlain : CodedCell → Type 0
IsPlain (Future f) = ⊥
IsPlain c = Unit {0}

abbrev pub ArePlain : CodedStore → Type 0
ArePlain = AllByRecursion IsPlain

-- the cell at a place; no call asks past the end
abbrev pub cell_at : CodedStore → ℕ → CodedCell
cell_at [] n = Number (pos 0)
cell_at (c ∷ cs) zero = c
cell_at (c ∷ cs) (suc n) = cell_at cs n

abbrev pub with_cell_at : CodedStore → ℕ → CodedCell → CodedStore
with_cell_at [] n d = []
with_cell_at (c ∷ cs) zero d = d ∷ cs
with_cell_at (c ∷ cs) (suc n) d = c ∷ with_cell_at cs n d

-- an object with another place at one of its indexes; another cell as it is
abbrev pub with_place_at : ℕ → ℕ → CodedCell → CodedCell
with_place_at i n (Object k ns) = Object k (slice_set ns i n)
with_place_at i n c = c

-- the cell with f of each place
abbrev pub moved_coded : (ℕ → ℕ) → CodedCell → CodedCell
moved_coded f (Object k ns) = Object k (map f ns)
moved_coded f (Group ns) = Group (map f ns)
moved_coded f c = c

-- the cell as it is read where its places go elsewhere, if they do
abbrev pub read_coded : Option (Bor Shift) → CodedCell → CodedCell
read_coded shift (Object k ns) = Object k (shifted shift ns)
read_coded shift (Group ns) = Group (shifted shift ns)
read_coded shift c = c

-- the store with the first of these cells at a place, and the others behind its own
abbrev pub with_coded_at : CodedStore → ℕ → List CodedCell → CodedStore
with_coded_at s p [] = s
with_coded_at s p (c ∷ cs) = with_cell_at s p c ++ cs
