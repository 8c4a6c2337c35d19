-- How many members of a group that is waited for are known to have values.
use Rattle.std.specs.Prelude.{◌≡◌, ℕ, None, take}
use Rattle.asp_model.specs.Names.{FutureShape}
use Rattle.asp_model.specs.Store.{CellShape, Future, Store, cell}
use Rattle.asp_model.specs.Contraction.{members_of}
use Rattle.asp_model.specs.Chase as chase
use Rattle.asp_model.specs.Chase.{Chase}
use Rattle.step_reads.specs.declared.strict.Strict.{Strict}
use Rattle.step_reads.specs.declared.strict.Strict.TheVariants as strict
use Rattle.step_reads.specs.Sights.{first_missed}

-- the first so many members of a value that is a group
abbrev pub value_passed : (FutureShape → Chase) → Chase → ℕ → Type 0
value_passed chases (chase.Value f p) k = first_missed chases p.cells (take k (members_of (cell p.cells 0))) ≡ None
value_passed chases (chase.Unfilled f) k = k ≡ 0
value_passed chases (chase.Cycle f) k = k ≡ 0

-- of a group, or of the value that is one
abbrev pub members_passed : (FutureShape → Chase) → Store → CellShape → ℕ → Type 0
members_passed chases s (Future f) k = value_passed chases (chases f) k
members_passed chases s c k = first_missed chases s (take k (members_of c)) ≡ None

-- of the group whose members are strict operands; at other operands nothing is said
abbrev pub ArePassed : (FutureShape → Chase) → Store → Strict → ℕ → Type 0
ArePassed chases s (strict.Members i) k = members_passed chases s (cell s i) k
ArePassed chases s x k = Unit {0}
