-- Redexes that choose a term, or that may ask something of other activities.
use Rattle.std.specs.Prelude.{◌≡◌, ℕ, List, [], ◌∷◌, Option}
use Rattle.asp_model.specs.Names.{Text}
use Rattle.asp_model.specs.Term.{Tree, If, Active, none, more}
use Rattle.asp_model.specs.Store.{CellShape, Number, cell}
use Rattle.asp_model.specs.Contraction.{Communicates, Creates, active_row, contract}
use Rattle.code_table.specs.declared.code.Node.{Node}
use Rattle.code_table.specs.Cells.{CodedStore}
use Rattle.code_table.specs.Shapes.{store_of}
use Rattle.step_rows.specs.declared.asks.Test.{Test}
use Rattle.step_rows.specs.declared.asks.Test.TheVariants as test
use Rattle.step_rows.specs.declared.asks.Creation.{Creation}
use Rattle.step_rows.specs.declared.asks.Creation.TheVariants as creation
use Rattle.step_rows.specs.Decisions.{decided, read, value_redex}

-- the number that chooses, or what the redex comes to
abbrev pub IsTest : List Node → CodedStore → List ℕ → Test → Type 0
IsTest k s ns (test.Number p z) = (ns ≡ p ∷ []) × (cell (store_of k s) p ≡ Number z)
IsTest k s ns (test.Other d) = (a b : Tree) → contract (store_of k s) (record { head = If; places = ns; behind = more a (more b none) }) ≡ decided k s d

abbrev pub IsCreationAt : List Node → CellShape → ℕ → Option Text → Creation → Type 0
IsCreationAt k c i service (creation.Creates p) = (p ≡ i) × (read i (active_row i service) c ≡ Communicates (Creates i service))
IsCreationAt k c i service (creation.Other d) = (s : CodedStore) → read i (active_row i service) c ≡ decided k s d

-- the object that a new activity begins with, or what the redex comes to
abbrev pub IsCreation : List Node → CodedStore → List ℕ → Option Text → Creation → Type 0
IsCreation k s ns service (creation.Creates p) = (ns ≡ p ∷ []) × (contract (store_of k s) (value_redex (Active service) ns) ≡ Communicates (Creates p service))
IsCreation k s ns service (creation.Other d) = contract (store_of k s) (value_redex (Active service) ns) ≡ decided k s d
