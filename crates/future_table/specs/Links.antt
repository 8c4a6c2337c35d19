-- How links lead up to heads.
use Rattle.std.specs.Prelude.{◌≡◌, ℕ, suc, ◌<◌, cond, nat_lt, List, [], ◌∷◌, Some, None, length, get_or}
use Rattle.asp_model.specs.Chase.{Chase}
use Rattle.future_table.specs.declared.links.Link.{Link}
use Rattle.future_table.specs.declared.links.End.TheVariants.{Value}

abbrev pub no_link : Link
no_link = record { up = None; height = 0; least = 0; end = Value 0 }

-- the link of a number; no call asks past the end
abbrev pub link_at : List Link → ℕ → Link
link_at links i = get_or links i no_link

abbrev pub IsHead : List Link → ℕ → Type 0
IsHead links i = (i < length links) × ((link_at links i).up ≡ None)

-- a link leads to a higher one
abbrev pub LeadUp : List Link → Type 0
LeadUp links = (i u : ℕ) → i < length links → (link_at links i).up ≡ Some u
    → (u < length links) × ((link_at links i).height < (link_at links u).height)

-- a chase that stays on each way up
abbrev pub StaysUp : List Link → (ℕ → Chase) → Type 0
StaysUp links chases = (i u : ℕ) → i < length links → (link_at links i).up ≡ Some u → chases i ≡ chases u

-- what stays on each way up is at one as at the other
abbrev pub IsAsAt : List Link → ℕ → ℕ → Type 0
IsAsAt links i j = (chases : ℕ → Chase) → StaysUp links chases → chases i ≡ chases j

-- how many links are higher
abbrev pub higher : ℕ → List Link → ℕ
higher h [] = 0
higher h (x ∷ xs) = cond (nat_lt h x.height) (suc (higher h xs)) (higher h xs)
