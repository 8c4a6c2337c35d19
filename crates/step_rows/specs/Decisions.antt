-- The contraction that a decision stands for.
use Rattle.std.specs.Prelude.{◌≡◌, ℕ, List, [], ◌∷◌, Option, Some, None, length}
use Rattle.asp_model.specs.Names.{Text}
use Rattle.asp_model.specs.Shapes.{fault_shape}
use Rattle.asp_model.specs.Store as store
use Rattle.asp_model.specs.Store.{CellShape, Field, MethodShape, Store, cell, with_cell}
use Rattle.asp_model.specs.Contraction as contraction
use Rattle.asp_model.specs.Contraction.{Contraction, NumberLine, allots, stays_at, method_at, call_row, first_future}
use Rattle.asp_model.specs.Term.{Head, none}
use Rattle.asp_model.specs.Split.{Redex}
use Rattle.code_table.specs.declared.code.MethodCode.{MethodCode}
use Rattle.code_table.specs.declared.code.Node.{Node}
use Rattle.code_table.specs.Tables.{pieces, with_places}
use Rattle.code_table.specs.Sound.{IsSoundMethod}
use Rattle.code_table.specs.Cells.{CodedCell, CodedStore, cell_at, with_cell_at, with_place_at}
use Rattle.code_table.specs.Shapes.{cell_of, store_of}
use Rattle.code_table.specs.Places.{placed}
use Rattle.step_rows.specs.declared.decision.Decision.{Decision}
use Rattle.step_rows.specs.declared.decision.Decision.TheVariants as decision
use Rattle.step_rows.specs.declared.calls.Callee.{Callee}
use Rattle.step_rows.specs.declared.calls.Callee.TheVariants as callee

-- a strict operand is read: a future is needed
abbrev pub read : ℕ → (CellShape → Contraction) → CellShape → Contraction
read i f (store.Future g) = contraction.Needs i
read i f c = f c

-- members are read in order
abbrev pub needs_or : Contraction → Option ℕ → Contraction
needs_or c (Some n) = contraction.Needs n
needs_or c None = c

-- over the store with these cells, whose objects have this code
abbrev pub decided : List Node → CodedStore → Decision → Contraction
decided k s (decision.Stays p) = stays_at p (store_of k s)
decided k s (decision.Number z) = allots (store_of k s) (store.Number z) []
decided k s (decision.Copies p) = allots (store_of k s) (cell (store_of k s) p) []
decided k s (decision.Puts i field to) = stays_at i (store_of k (with_cell_at s i (with_place_at field to (cell_at s i))))
decided k s (decision.Prints p z) = contraction.Becomes (Rattle.asp_model.specs.Term.loc p) (store_of k s) (NumberLine z ∷ [])
decided k s (decision.Faults x) = contraction.Faults (fault_shape x)
decided k s (decision.Needs p) = contraction.Needs p

-- the method that a call leads to, and what it captured
pub record Leads (k : List Node) (c : CodedCell) (l : Text) (count : ℕ) (m : MethodCode) (captured : List ℕ) : Type 0 where
  pub fields : List Field
  pub methods : List MethodShape
  pub cell_is : cell_of k c ≡ store.Object fields methods
  pub found : method_at l methods ≡ Some (with_places (pieces k) m captured)
  pub sound : IsSoundMethod (pieces k) m
  pub size : length captured ≡ length m.captured.items
  pub arity : count ≡ length m.parameters.items

-- what a call with these arguments leads to, where the receiver is this cell
abbrev pub IsCallee : List Node → CodedCell → Text → ℕ → List ℕ → Callee → Type 0
IsCallee k c l i ks (callee.Method m captured) = Leads k c l (length ks) m.now (placed captured)
IsCallee k c l i ks (callee.Members ns) = cell_of k c ≡ store.Group (placed ns)
IsCallee k c l i ks (callee.Activity n) = cell_of k c ≡ store.Reference n.now
IsCallee k c l i ks (callee.Other d) = (s : CodedStore) → read i (call_row (store_of k s) l i ks) (cell_of k c) ≡ decided k s d

-- a redex of places alone
abbrev pub value_redex : Head → List ℕ → Redex
value_redex h ns = record { head = h; places = ns; behind = none }
