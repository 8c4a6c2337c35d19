-- How many terms below a node are reduced in place.
use Rattle.std.specs.Prelude.{ℕ}
use Rattle.code_table.specs.declared.code.Kind.{Kind}
use Rattle.code_table.specs.declared.code.Kind.TheVariants as kind

-- of so many terms below a node of this kind, from the first on
abbrev pub operand_count : Kind → ℕ → ℕ
operand_count (kind.Make k) n = n
operand_count (kind.Get l) n = 1
operand_count (kind.Put l) n = 2
operand_count (kind.Call l) n = n
operand_count kind.Clone n = 1
operand_count (kind.Active l) n = 1
operand_count (kind.Let x) n = 1
operand_count kind.Steps n = 1
operand_count kind.If n = 1
operand_count (kind.Operate s) n = 2
operand_count kind.Print n = 1
operand_count kind.Group n = n
operand_count (kind.Scatter l) n = 2
operand_count kind.Size n = 1
operand_count kind.Member n = 2
operand_count kind.WaitAll n = 1
operand_count k n = 0
