-- A value that a holder of a future has seen, and the one that a table has.
use Rattle.std.specs.Prelude.{◌≡◌, List, Option, Some, None}
use Rattle.std.specs.FinMap.{find}
use Rattle.std.specs.Option.{option_map}
use Rattle.asp_model.specs.declared.name.FutureName.{FutureName}
use Rattle.asp_model.specs.Names.{FutureShape, future_cmp}
use Rattle.asp_model.specs.Parcel.{ParcelShape}
use Rattle.asp_model.specs.Chase.{Values}
use Rattle.code_table.specs.declared.cells.Parcel.{Parcel}
use Rattle.code_table.specs.declared.code.Node.{Node}
use Rattle.code_table.specs.Answers.{AnswerView}
use Rattle.code_table.specs.Cells.{CodedStore}
use Rattle.code_table.specs.Shapes.{store_of}
use Rattle.code_table.specs.Shown.{answer_items}
use Rattle.future_table.specs.Values.{by_name}

-- the cells of a future's value, if it is filled
abbrev pub cells_of : FutureName → List (FutureName × Parcel) → Option CodedStore
cells_of f es = option_map (λ p. p.cells.items) (find by_name f es)

-- these cells were seen
abbrev pub IsSeen : CodedStore → Option AnswerView → Type 0
IsSeen s None = ⊥
IsSeen s (Some a) = answer_items a ≡ s

-- the future has a value, which stands for the cells that were seen
abbrev pub HasSeen : List Node → FutureShape → Values → Option AnswerView → Type 0
HasSeen k f values None = ⊥
HasSeen k f values (Some a) = (p : ParcelShape) × (find future_cmp f values ≡ Some p) ×
    (p.cells ≡ store_of k (answer_items a))
