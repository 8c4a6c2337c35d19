-- What holds once the code is whole, of which these nodes are the first.
use Rattle.std.specs.Prelude.{◌≡◌, List, [], ◌∷◌, ◌++◌}
use Rattle.asp_model.specs.Store.{CellShape}
use Rattle.code_compiler.specs.Compiled.{Grows}
use Rattle.code_table.specs.Cells.{CodedStore}
use Rattle.code_table.specs.declared.code.Node.{Node}
use Rattle.code_table.specs.Shapes.{store_of}
use Rattle.code_table.specs.Sound.{IsSound}

abbrev pub Later : List Node → (List Node → Type 0) → Type 0
Later ns P = (added : List Node) → IsSound (ns ++ added) → P (ns ++ added)

-- coded cells stand for these
abbrev pub AreMade : List Node → CodedStore → List CellShape → Type 0
AreMade ns ds cs = Later ns (λ k. store_of k ds ≡ cs)

-- one more cell came
pub record IsPushed (ns ms : List Node) (old new : CodedStore) (c : CellShape) : Type 0 where
  pub grows : Grows ns ms
  pub made : Later ms (λ k. store_of k new ≡ store_of k old ++ c ∷ [])

-- nodes came, and these cells were made with them
pub record AreMadeFrom (ns ms : List Node) (ds : CodedStore) (cs : List CellShape) : Type 0 where
  pub grows : Grows ns ms
  pub made : AreMade ms ds cs
