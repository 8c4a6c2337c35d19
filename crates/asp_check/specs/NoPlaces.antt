-- A program that was read has no places.
use Rattle.std.specs.Prelude.{◌≡◌, []}
use Rattle.asp_model.specs.Term.{Tree, locations}
use Rattle.asp_model.specs.Readable.{IsReadable}

abbrev pub ReadableHasNoPlaces : Type 0
ReadableHasNoPlaces = (program : Tree) → IsReadable program → locations program ≡ []
