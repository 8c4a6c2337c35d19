-- Searches for the n-th of places.
use Rattle.std.specs.Prelude.{ℕ, zero, suc, List, [], ◌∷◌, Option, Some, None}
use Rattle.path_equal.specs.declared.search.Search.{Search}
use Rattle.path_equal.specs.declared.search.Search.TheVariants as search

-- one place is passed, or found
abbrev pub passed : ℕ → Search → Search
passed n (search.Left zero) = search.Found n
passed n (search.Left (suc k)) = search.Left k
passed n (search.Found p) = search.Found p

-- all of these, in order
abbrev pub searched : List ℕ → Search → Search
searched [] s = s
searched (n ∷ ns) s = searched ns (passed n s)

abbrev pub place_found : Search → Option ℕ
place_found (search.Left k) = None
place_found (search.Found p) = Some p
