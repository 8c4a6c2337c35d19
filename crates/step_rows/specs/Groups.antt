-- What the rows of groups come to, by what their operands are seen as.
use Rattle.std.specs.Prelude.{◌≡◌, ℕ, pos, List, [], length}
use Rattle.asp_model.specs.Names.{FutureShape, Text}
use Rattle.asp_model.specs.Store.{CellShape, Store, Number, Future, Group}
use Rattle.asp_model.specs.Contraction.{Contraction, Faults, Needs, NotGroup, NotNumber, allots, first_future, member_row, scattered, sizes_compared, stays_at}
use Rattle.code_table.specs.declared.code.Node.{Node}
use Rattle.code_table.specs.Cells.{CodedStore}
use Rattle.code_table.specs.Shapes.{store_of}
use Rattle.code_table.specs.Places.{placed}
use Rattle.step_rows.specs.declared.groups.SeenGroup.{SeenGroup}
use Rattle.step_rows.specs.declared.groups.SeenGroup.TheVariants as party
use Rattle.step_rows.specs.declared.groups.Scattering.{Scattering}
use Rattle.step_rows.specs.declared.groups.Scattering.TheVariants as scattering
use Rattle.step_rows.specs.declared.seen.Seen.{Seen}
use Rattle.step_rows.specs.declared.seen.Seen.TheVariants as seen
use Rattle.step_rows.specs.Decisions.{decided, needs_or}

-- neither a group nor a future
abbrev pub IsNoGroup : CellShape → Type 0
IsNoGroup (Group ns) = ⊥
IsNoGroup (Future f) = ⊥
IsNoGroup c = Unit {0}

abbrev pub IsSeenGroup : CellShape → SeenGroup → Type 0
IsSeenGroup c (party.Members ns) = c ≡ Group (placed ns)
IsSeenGroup c party.Future = (f : FutureShape) × (c ≡ Future f)
IsSeenGroup c party.Other = IsNoGroup c

-- the contraction of a `size`
abbrev pub sized : Store → ℕ → SeenGroup → Contraction
sized S i (party.Members ns) = allots S (Number (pos (length (placed ns)))) []
sized S i party.Future = Needs i
sized S i party.Other = Faults NotGroup

-- of a `member` of a group
abbrev pub numbered : Store → ℕ → List ℕ → Seen → Contraction
numbered S j ns (seen.Number n) = member_row S (Group ns) (Number n)
numbered S j ns seen.Future = Needs j
numbered S j ns seen.Other = Faults NotNumber

-- of a row that wants a group, and reads a second operand
abbrev pub no_group : ℕ → Seen → Contraction
no_group j seen.Future = Needs j
no_group j y = Faults NotGroup

-- of a `member`
abbrev pub chosen_member : Store → (i j : ℕ) → SeenGroup → Seen → Contraction
chosen_member S i j (party.Members ns) y = numbered S j (placed ns) y
chosen_member S i j party.Future y = Needs i
chosen_member S i j party.Other y = no_group j y

-- of a `waitall`, which needs the first member that is a future
abbrev pub awaited : Store → ℕ → SeenGroup → Contraction
awaited S i (party.Members ns) = needs_or (stays_at i S) (first_future S (placed ns))
awaited S i party.Future = Needs i
awaited S i party.Other = Faults NotGroup

-- of a `scatter` of a group
abbrev pub dealt : Store → Text → ℕ → List ℕ → SeenGroup → Contraction
dealt S l j ns (party.Members ks) = sizes_compared S (scattered l ns (placed ks))
dealt S l j ns party.Future = Needs j
dealt S l j ns party.Other = Faults NotGroup

-- of what is no group
abbrev pub not_dealt : ℕ → SeenGroup → Contraction
not_dealt j party.Future = Needs j
not_dealt j y = Faults NotGroup

-- of a `scatter`
abbrev pub scatters : Store → Text → (i j : ℕ) → SeenGroup → SeenGroup → Contraction
scatters S l i j (party.Members ns) y = dealt S l j (placed ns) y
scatters S l i j party.Future y = Needs i
scatters S l i j party.Other y = not_dealt j y

-- a contraction to calls, of members of two groups of one size, or what a decision stands for
abbrev pub IsScattering : List Node → CodedStore → Text → Contraction → Scattering → Type 0
IsScattering k s l c (scattering.Members ns ks) = (length (placed ns) ≡ length (placed ks)) × (c ≡ sizes_compared (store_of k s) (scattered l (placed ns) (placed ks)))
IsScattering k s l c (scattering.Other d) = c ≡ decided k s d
