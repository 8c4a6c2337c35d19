-- What contracts see of the roots of a parcel.
use Rattle.std.specs.Prelude.{ℕ, List, [], ◌∷◌}
use Rattle.code_table.specs.declared.roots.Held.{Held}
use Rattle.code_table.specs.declared.roots.Held.TheVariants as held

-- the numbers, in order
pub record RootsView : Type 0 where
  pub items : List ℕ

abbrev pub roots_view : Held → RootsView
roots_view (held.One root) = record { items = root ∷ [] }
roots_view (held.Listed roots) = record { items = roots.items }
