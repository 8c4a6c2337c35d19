-- The redex that a node tells whose terms that are reduced in place are done.
use Rattle.std.specs.Prelude.{◌≡◌, ℕ, Bool, true, false, List, [], ◌∷◌}
use Rattle.code_table.specs.declared.code.Kind.{Kind}
use Rattle.code_table.specs.declared.code.Kind.TheVariants as kind
use Rattle.code_table.specs.Tables.{kind_head}
use Rattle.step_rows.specs.declared.redex.Redex.{Redex}
use Rattle.step_rows.specs.declared.redex.Redex.TheVariants as redex
use Rattle.step_rows.specs.Decisions.{value_redex}
use Rattle.step_rows.specs.Redexes.{IsRedex}
use Rattle.step_machine.specs.Rows.{is_simple}

-- it contracts, whatever stands at its places
abbrev pub goes : Kind → Bool
goes (kind.Number n) = true
goes (kind.Make k) = true
goes (kind.Let x) = true
goes kind.Steps = true
goes kind.Repeat = true
goes (kind.Echo x) = true
goes kind.Group = true
goes k = false

-- all terms of the others are places, except for the branches of a choice
abbrev pub IsShown : Kind → List ℕ → Redex → Type 0
IsShown k operands redex.Goes = goes k ≡ true
IsShown k operands (redex.If i) = (k ≡ kind.If) × (operands ≡ i ∷ [])
IsShown k operands x = (is_simple k ≡ true) × IsRedex (value_redex (kind_head k) operands) x
