-- What a cell needs, as far as it is seen without the futures that are filled.
use Rattle.std.specs.Prelude.{◌≡◌, true, false, IsSome}
use Rattle.std.specs.Arc.{arc_value}
use Rattle.asp_model.specs.Store.{CellShape, Future}
use Rattle.asp_model.specs.Contraction.{is_future}
use Rattle.asp_model.specs.Shapes.{future_shape}
use Rattle.code_table.specs.declared.future.Future.{Future as Held}
use Rattle.code_table.specs.declared.future.Sighting.{Sighting}
use Rattle.code_table.specs.Seen.{IsOf, seen_by}
use Rattle.wait_need.specs.declared.peeks.PeekNeed.{PeekNeed}
use Rattle.wait_need.specs.declared.peeks.PeekNeed.TheVariants as peeks

-- the cell is this future, and a value of it was seen
pub record IsSeen (c : CellShape) (f : Held) (x : Sighting) : Type 0 where
  pub holds : c ≡ Future (future_shape f.name)
  pub of : IsOf f x
  pub seen : IsSome (seen_by x)

-- ready exactly where the cell is no future, a value only where one was seen of the future that it is
abbrev pub IsPeekNeed : CellShape → PeekNeed → Type 0
IsPeekNeed c peeks.Ready = is_future c ≡ false
IsPeekNeed c (peeks.Value v) = IsSeen c (arc_value v.future.now) v.sighting
IsPeekNeed c peeks.Stop = is_future c ≡ true
