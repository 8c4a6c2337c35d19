-- What contracts see of sets of texts, and of maps from texts to arities.
use Rattle.std.specs.Prelude.{◌≡◌, ℕ, ◌&&◌, not, List, [], ◌∷◌, Option, Some, None, map}
use Rattle.std.specs.Ordering.{nat_cmp}
use Rattle.std.specs.Cmp.Lexicographic.{slice_cmp}
use Rattle.std.specs.BTreeSet.{BTreeSet, contains_by}
use Rattle.std.specs.BTreeMap.{BTreeMap, get_by}
use denote.Ref.{Bor}
use Rattle.asp_model.specs.Names.{Text, same_text}
use Rattle.asp_check.specs.NameFaults.{NameSet}
use Rattle.asp_check.specs.ArityFaults.{LabelArity, first_arity}

unfoldable pub names_in : BTreeSet (Bor Text) → NameSet
names_in s x = contains_by (λ k. slice_cmp nat_cmp x k.now) s

abbrev pub without_name : Text → NameSet → NameSet
without_name x set y = not (same_text x y) && set y

abbrev pub without_names : List Text → NameSet → NameSet
without_names [] set = set
without_names (x ∷ xs) set = without_names xs (without_name x set)

abbrev pub texts : List (Bor Text) → List Text
texts = map (λ k. k.now)

-- the names of a set but for those that were added
abbrev pub but_for : List (Bor Text) → BTreeSet (Bor Text) → NameSet
but_for added s = without_names (texts added) (names_in s)

unfoldable pub arity_in : BTreeMap (Bor Text) ℕ → Text → Option ℕ
arity_in m l = get_by (λ k. slice_cmp nat_cmp l k.now) m

-- the map has the first arity of each label
abbrev pub IsFirst : BTreeMap (Bor Text) ℕ → List LabelArity → Type 0
IsFirst m xs = (l : Text) → arity_in m l ≡ first_arity l xs

-- an arity that is known, or else another
abbrev pub known_or : Option ℕ → Option ℕ → Option ℕ
known_or None o = o
known_or (Some n) o = Some n

-- n is the map m, where a label that lacks an arity has that of the place
abbrev pub HasFirst : BTreeMap (Bor Text) ℕ → LabelArity → BTreeMap (Bor Text) ℕ → Type 0
HasFirst m x n = (l : Text) → arity_in n l ≡ known_or (arity_in m l) (first_arity l (x ∷ []))
