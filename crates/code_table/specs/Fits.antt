-- Objects that have a class of the code, and as many places as it asks for.
use Rattle.std.specs.Prelude.{◌≡◌, ℕ, ◌+◌, List, [], ◌∷◌, Option, Some, None, length}
use Rattle.std.specs.List.{AllByRecursion}
use Rattle.code_table.specs.declared.code.Node.{Node}
use Rattle.code_table.specs.declared.class.Class.{Class}
use Rattle.code_table.specs.declared.code.MethodCode.{MethodCode}
use Rattle.code_table.specs.Classes.{class_at}
use Rattle.code_table.specs.Cells as coded
use Rattle.code_table.specs.Cells.{CodedCell, CodedStore}

abbrev pub captured_count : List MethodCode → ℕ
captured_count [] = 0
captured_count (m ∷ ms) = length m.captured.items + captured_count ms

-- the fields of its objects, and what their methods captured
abbrev pub place_count : Class → ℕ
place_count k = length k.fields.items + captured_count k.methods.items

abbrev pub FitsClass : List ℕ → Option Class → Type 0
FitsClass ns None = ⊥
FitsClass ns (Some k) = length ns ≡ place_count k

abbrev pub FitsCode : List Node → CodedCell → Type 0
FitsCode code (coded.Object k ns) = FitsClass ns (class_at code k)
FitsCode code c = Unit {0}

abbrev pub AllFitCode : List Node → CodedStore → Type 0
AllFitCode code = AllByRecursion (FitsCode code)
