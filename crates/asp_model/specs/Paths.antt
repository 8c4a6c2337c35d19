-- The numbers of a path.
use Rattle.std.specs.Prelude.{◌≡◌, ⊤, ℕ, List, length, take}
use Rattle.asp_model.specs.declared.path.Held.{Held}
use Rattle.asp_model.specs.declared.path.Held.TheVariants as held

-- the first places of a short path, and all of a long one
abbrev pub numbers_of : Held → List ℕ
numbers_of (held.Short numbers count) = take count numbers
numbers_of (held.Long numbers) = numbers.items

-- a short path has four places
abbrev pub IsHeld : Held → Type 0
IsHeld (held.Short numbers count) = length numbers ≡ 4
IsHeld (held.Long numbers) = ⊤
