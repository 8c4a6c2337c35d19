-- A program that was read has no places.
use Rattle.std.proofs.Common.{◌≡◌, true, false, [], ◌++◌, refl}
use Rattle.asp_model.specs.Term.{Loc, Tree, Trees, node, none, more, locations, locations_below}
use Rattle.asp_model.specs.Readable.{IsReadable, AreReadable}
use Rattle.asp_check.specs.NoPlaces.{ReadableHasNoPlaces}

mutual
  none_in : (t : Tree) → IsReadable t → locations t ≡ []
  none_in (node (Loc n) ts) h = let e : false ≡ true = h.0 in cc
  none_in (node h ts) r = none_below ts r.2

  none_below : (ts : Trees) → AreReadable ts → locations_below ts ≡ []
  none_below none h = refl
  none_below (more t ts) h = λ i. none_in t h.0 i ++ none_below ts h.1 i

pub readable_has_no_places : ReadableHasNoPlaces
readable_has_no_places program h = none_in program h
