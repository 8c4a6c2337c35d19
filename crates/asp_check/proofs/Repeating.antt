-- Names read one by one: what was found, the names that stood earlier, and the places that are left.
use Rattle.std.proofs.Common.{◌≡◌, ℕ, ◌+◌, ◌<◌, ◌≤◌, List, ◌∷◌, Option, ap, sym, ◌∙◌, map, drop, get_or, length}
use Rattle.std.proofs.lemmas.List.{at_drop_more, at_drop_all}
use Rattle.asp_model.specs.Names.{Text}
use Rattle.asp_check.specs.declared.fault.CheckFault.{CheckFault}
use Rattle.asp_check.specs.declared.fault.CheckKind.{CheckKind}
use Rattle.asp_check.specs.Least.{least_of}
use Rattle.asp_check.specs.Placed.{placed, place_or, later, behind}
use Rattle.asp_check.specs.NameFaults.{NameSet, with_name, with_names, repeats, fault_at, when}
use Rattle.asp_check.proofs.Joined.{least_of_joined}

pub record Reading : Type 0 where
  pub least : Option CheckFault
  pub earlier : NameSet
  pub places : List ℕ

-- after these names
abbrev pub read : CheckKind → ℕ → List Text → Reading → Reading
read kind at xs s = record { least = least_of s.least (repeats kind s.earlier (placed at xs s.places)); earlier = with_names xs s.earlier; places = behind xs s.places }

-- after one
abbrev pub read_one : CheckKind → ℕ → Text → Reading → Reading
read_one kind at x s = record { least = least_of s.least (when (s.earlier x) (fault_at (place_or at s.places) kind)); earlier = with_name x s.earlier; places = later s.places }

pub read-cons : (kind : CheckKind) (at : ℕ) (x : Text) (xs : List Text) (s : Reading) → read kind at (x ∷ xs) s ≡ read kind at xs (read_one kind at x s)
read-cons kind at x xs s = λ i. record { least = least_of_joined s.least (when (s.earlier x) (fault_at (place_or at s.places) kind)) (repeats kind (with_name x s.earlier) (placed at xs (later s.places))) i; earlier = with_names xs (with_name x s.earlier); places = behind xs (later s.places) }

module _ {X : Type 0} (f : X → Text) (kind : CheckKind) (at : ℕ) where
  -- a loop's step, at an item x of the list
  pub read-more : (xs : List X) (i : ℕ) (x : X) (s t : Reading) → i < length xs → x ≡ get_or xs i x → t ≡ read_one kind at (f x) s → read kind at (map f (drop (i + 1) xs)) t ≡ read kind at (map f (drop i xs)) s
  read-more xs i x s t h e d = ap (read kind at (map f (drop (i + 1) xs))) d ∙ sym (read-cons kind at (f x) (map f (drop (i + 1) xs)) s) ∙ ap (λ y. read kind at (f y ∷ map f (drop (i + 1) xs)) s) e ∙ sym (at_drop_more (λ ys. read kind at (map f ys) s) xs i x h)

  -- a loop's end
  pub read-all : (xs : List X) (i : ℕ) (s : Reading) → length xs ≤ i → read kind at (map f (drop i xs)) s ≡ s
  read-all xs i s h = at_drop_all (λ ys. read kind at (map f ys) s) xs i h
