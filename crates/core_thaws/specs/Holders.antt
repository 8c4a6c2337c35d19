-- Holders of futures that differ in the order of homes and of filled futures alone.
use Rattle.std.specs.Prelude.{◌≡◌}
use Rattle.asp_model.specs.Names.{FutureShape}
use Rattle.def_journals.specs.Edges.{HoldersShape, has_filled, home_of}

-- each future has the same home, and is filled in both or in none; all else is equal
pub record SameHolders (x y : HoldersShape) : Type 0 where
  pub homes : (f : FutureShape) → home_of f x.homes ≡ home_of f y.homes
  pub edges : x.edges ≡ y.edges
  pub filled : (f : FutureShape) → has_filled f x.filled ≡ has_filled f y.filled
  pub received : x.received ≡ y.received
  pub delivered : x.delivered ≡ y.delivered
