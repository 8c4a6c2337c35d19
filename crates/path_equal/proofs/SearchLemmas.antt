-- Searches past lists of places.
use Rattle.std.proofs.Common.{◌≡◌, ℕ, zero, suc, ◌-◌, ◌<◌, ◌≤◌, List, [], ◌∷◌, ◌++◌, length, get_or, slice_get, refl, ap, ◌∙◌, arith}
use Rattle.path_equal.specs.declared.search.Search.{Search}
use Rattle.path_equal.specs.declared.search.Search.TheVariants as search
use Rattle.path_equal.specs.Searches.{passed, searched, place_found}

pub searched_both : (xs ys : List ℕ) (s : Search) → searched (xs ++ ys) s ≡ searched ys (searched xs s)
searched_both [] ys s = refl
searched_both (x ∷ xs) ys s = searched_both xs ys (passed x s)

pub found_stays : (xs : List ℕ) (p : ℕ) → searched xs (search.Found p) ≡ search.Found p
found_stays [] p = refl
found_stays (x ∷ xs) p = found_stays xs p

pub found_there : (xs : List ℕ) (k : ℕ) → k < length xs → searched xs (search.Left k) ≡ search.Found (get_or xs k 0)
found_there [] k lt = absurd (omega (arith, lt))
found_there (x ∷ xs) zero lt = found_stays xs x
found_there (x ∷ xs) (suc k) lt = let less : k < length xs = omega (arith, lt) in found_there xs k less

pub left_behind : (xs : List ℕ) (k : ℕ) → length xs ≤ k → searched xs (search.Left k) ≡ search.Left (k - length xs)
left_behind [] k le = ap search.Left (omega arith)
left_behind (x ∷ xs) zero le = absurd (omega (arith, le))
left_behind (x ∷ xs) (suc k) le = let less : length xs ≤ k = omega (arith, le) in left_behind xs k less ∙ ap search.Left (omega arith)

-- what is found is the place of that number
pub nth_found : (xs : List ℕ) (k : ℕ) → place_found (searched xs (search.Left k)) ≡ slice_get xs k
nth_found [] k = refl
nth_found (x ∷ xs) zero = ap place_found (found_stays xs x)
nth_found (x ∷ xs) (suc k) = nth_found xs k
