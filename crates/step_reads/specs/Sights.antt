-- How strict operands are seen without a change: a future looks like the root of its value.
use Rattle.std.specs.Prelude.{◌≡◌, ℕ, List, [], ◌∷◌, Option, Some, None}
use Rattle.asp_model.specs.Names.{FutureShape}
use Rattle.asp_model.specs.Store.{CellShape, Number, Reference, Future, Group, Store, cell}
use Rattle.asp_model.specs.Contraction.{members_of}
use Rattle.asp_model.specs.Chase as chase
use Rattle.asp_model.specs.Chase.{Chase}
use Rattle.asp_model.specs.Shapes.{future_shape}
use Rattle.code_table.specs.Classes.{class_at}
use Rattle.code_table.specs.Shapes.{class_object}
use Rattle.code_table.specs.Places.{placed}
use Rattle.step_reads.specs.declared.seen.Seen.{Seen}
use Rattle.step_reads.specs.declared.seen.Seen.TheVariants as seen
use Rattle.step_reads.specs.declared.reading.Operand.{Operand}
use Rattle.step_reads.specs.declared.reading.Operand.TheVariants as operand
use Rattle.step_reads.specs.declared.reading.Operands.{Operands}
use Rattle.step_reads.specs.declared.reading.Operands.TheVariants as operands
use Rattle.step_reads.specs.declared.strict.Strict.{Strict}
use Rattle.step_reads.specs.declared.strict.Strict.TheVariants as strict
use Rattle.step_reads.specs.Faces.{Face, face}
use Rattle.step_reads.specs.Strict.{strict_places}

abbrev pub seen_shape : Seen → CellShape
seen_shape (seen.Number n) = Number n
seen_shape (seen.Object o k) = class_object k.now (placed o.places) (class_at k.now o.class)
seen_shape (seen.Reference n) = Reference n.now
seen_shape (seen.Future f) = Future (future_shape f.now)
seen_shape (seen.Group ns) = Group (placed ns)

abbrev pub seen_face : Seen → Face
seen_face x = face (seen_shape x)

-- what an operand looks like, or the future that it awaits
pub data Sight : Type 0 where
  Shows : (f : Face) → Sight
  Misses : (f : FutureShape) → Sight

abbrev pub value_sight : Chase → Sight
value_sight (chase.Value f p) = Shows (face (cell p.cells 0))
value_sight (chase.Unfilled f) = Misses f
value_sight (chase.Cycle f) = Misses f

-- a future looks like the root of its value
abbrev pub sight : (FutureShape → Chase) → CellShape → Sight
sight chases (Future f) = value_sight (chases f)
sight chases c = Shows (face c)

abbrev pub operand_sight : Operand → Sight
operand_sight (operand.Reads x) = Shows (seen_face x)
operand_sight (operand.Awaits g) = Misses (future_shape g.now)

abbrev pub missed_or : Sight → Option FutureShape → Option FutureShape
missed_or (Shows f) o = o
missed_or (Misses g) o = Some g

-- the first future that is awaited at these places
abbrev pub first_missed : (FutureShape → Chase) → Store → List ℕ → Option FutureShape
first_missed chases s [] = None
first_missed chases s (n ∷ ns) = missed_or (sight chases (cell s n)) (first_missed chases s ns)

-- what the one or two operands at these places look like
abbrev pub AreSeen : (FutureShape → Chase) → Store → List ℕ → Face → Face → Type 0
AreSeen chases s [] f g = Unit {0}
AreSeen chases s (i ∷ []) f g = sight chases (cell s i) ≡ Shows f
AreSeen chases s (i ∷ k ∷ []) f g = (sight chases (cell s i) ≡ Shows f) × (sight chases (cell s k) ≡ Shows g)
AreSeen chases s (i ∷ k ∷ j ∷ ns) f g = ⊥

-- the first future that is awaited among the members of a group, or of the value that is one
abbrev pub value_missed : (FutureShape → Chase) → Chase → Option FutureShape
value_missed chases (chase.Value f p) = first_missed chases p.cells (members_of (cell p.cells 0))
value_missed chases (chase.Unfilled f) = None
value_missed chases (chase.Cycle f) = None

abbrev pub members_missed : (FutureShape → Chase) → Store → CellShape → Option FutureShape
members_missed chases s (Future f) = value_missed chases (chases f)
members_missed chases s c = first_missed chases s (members_of c)

-- what strict operands look like, where none is awaited
abbrev pub AreRead : (FutureShape → Chase) → Store → Strict → Face → Face → Type 0
AreRead chases s (strict.Members i) f g = (sight chases (cell s i) ≡ Shows f) × (members_missed chases s (cell s i) ≡ None)
AreRead chases s x f g = AreSeen chases s (strict_places x) f g

-- the first future that is awaited
abbrev pub missed : (FutureShape → Chase) → Store → Strict → Option FutureShape
missed chases s (strict.Members i) = missed_or (sight chases (cell s i)) (members_missed chases s (cell s i))
missed chases s x = first_missed chases s (strict_places x)

abbrev pub IsRead : (FutureShape → Chase) → Store → Strict → Operands → Type 0
IsRead chases s x (operands.Read a b) = AreRead chases s x (seen_face a) (seen_face b)
IsRead chases s x (operands.Awaits g) = missed chases s x ≡ Some (future_shape g.now)
