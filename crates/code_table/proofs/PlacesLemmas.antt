-- Places as they are read.
use Rattle.std.proofs.Common.{◌≡◌, ℕ, suc, zero, ◌<◌, List, [], ◌∷◌, ◌++◌, Option, Some, None, Bool, true, false, ◌+◌, ◌&&◌, bytes_eq, nat_eq, nat_lt, length, take, drop, get_or, map, slice_get, refl, add-one, ap, sym, ◌∙◌, arith}
use Rattle.std.proofs.lemmas.List.Folds.{list_all-map}
use Rattle.std.proofs.lemmas.Option.{slice_get-map}
use Rattle.std.proofs.lemmas.Bool.Decides.{Decides-eqb}
use Rattle.std.specs.List.{list_all}
use Rattle.std.specs.Borrow.{Bor}
use Rattle.std.specs.Option.{option_map}
use Rattle.code_table.specs.declared.places.Shift.{Shift}
use Rattle.code_table.specs.Cells.{ArePlain, CodedCell, CodedStore, Future, Group, IsPlain, Number, Object, Reference, moved_coded, read_coded}
use Rattle.code_table.specs.Moves.{shift_of}
use Rattle.code_table.specs.Places.{shift_in, shifted}

map_twice : (f g : ℕ → ℕ) (ns : List ℕ) → map (λ n. f (g n)) ns ≡ map f (map g ns)
map_twice f g [] = refl
map_twice f g (n ∷ ns) = ap (λ (l : List ℕ). f (g n) ∷ l) (map_twice f g ns)

-- each word goes where it goes, and on from there
pub moved_on : (f : ℕ → ℕ) (s : Option (Bor Shift)) (ns : List ℕ) → map (λ n. f (shift_in s n)) ns ≡ map f (shifted s ns)
moved_on f None ns = refl
moved_on f (Some s) ns = map_twice f (shift_of s.now) ns

pub shifted_length : (s : Option (Bor Shift)) (ns : List ℕ) → length (shifted s ns) ≡ length ns
shifted_length None ns = refl
shifted_length (Some s) ns = by ns
  where
    by : (ns : List ℕ) → length (map (shift_of s.now) ns) ≡ length ns
    by [] = refl
    by (n ∷ ns) = ap suc (by ns)

pub shifted_drop : (s : Option (Bor Shift)) (k : ℕ) (ns : List ℕ) → shifted s (drop k ns) ≡ drop k (shifted s ns)
shifted_drop None k ns = refl
shifted_drop (Some s) k ns = by k ns
  where
    by : (k : ℕ) (ns : List ℕ) → map (shift_of s.now) (drop k ns) ≡ drop k (map (shift_of s.now) ns)
    by zero ns = refl
    by (suc k) [] = refl
    by (suc k) (n ∷ ns) = by k ns

pub shifted_take : (s : Option (Bor Shift)) (k : ℕ) (ns : List ℕ) → shifted s (take k ns) ≡ take k (shifted s ns)
shifted_take None k ns = refl
shifted_take (Some s) k ns = by k ns
  where
    by : (k : ℕ) (ns : List ℕ) → map (shift_of s.now) (take k ns) ≡ take k (map (shift_of s.now) ns)
    by zero ns = refl
    by (suc k) [] = refl
    by (suc k) (n ∷ ns) = ap (λ (l : List ℕ). shift_of s.now n ∷ l) (by k ns)

pub shifted_none : (s : Option (Bor Shift)) (ns : List ℕ) → ns ≡ [] → shifted s ns ≡ []
shifted_none s ns e = ap (shifted s) e ∙ nothing s
  where
    nothing : (s : Option (Bor Shift)) → shifted s [] ≡ []
    nothing None = refl
    nothing (Some s) = refl

pub shifted_got : (s : Option (Bor Shift)) (ns : List ℕ) (k w : ℕ) → slice_get ns k ≡ Some w → slice_get (shifted s ns) k ≡ Some (shift_in s w)
shifted_got None ns k w e = e
shifted_got (Some s) ns k w e = slice_get-map (shift_of s.now) ns k ∙ ap (option_map (shift_of s.now)) e

pub shifted_not_got : (s : Option (Bor Shift)) (ns : List ℕ) (k : ℕ) → slice_get ns k ≡ None → slice_get (shifted s ns) k ≡ None
shifted_not_got None ns k e = e
shifted_not_got (Some s) ns k e = slice_get-map (shift_of s.now) ns k ∙ ap (option_map (shift_of s.now)) e

pub shifted_at : (s : Option (Bor Shift)) (ns : List ℕ) (k d e : ℕ) → k < length ns → shift_in s (get_or ns k d) ≡ get_or (shifted s ns) k e
shifted_at None ns k d e lt = by ns k lt
  where
    by : (ns : List ℕ) (k : ℕ) → k < length ns → get_or ns k d ≡ get_or ns k e
    by [] k lt = absurd (omega arith)
    by (n ∷ ns) zero lt = refl
    by (n ∷ ns) (suc k) lt = by ns k (omega arith)
shifted_at (Some s) ns k d e lt = by ns k lt
  where
    by : (ns : List ℕ) (k : ℕ) → k < length ns → shift_of s.now (get_or ns k d) ≡ get_or (map (shift_of s.now) ns) k e
    by [] k lt = absurd (omega arith)
    by (n ∷ ns) zero lt = refl
    by (n ∷ ns) (suc k) lt = by ns k (omega arith)

-- a test of each of them, where they are moved
pub shifted_under : (s : Bor Shift) (size : ℕ) (ns : List ℕ) →
    list_all (λ n. nat_lt (shift_of s.now n) size) ns ≡ list_all (λ n. nat_lt n size) (shifted (Some s) ns)
shifted_under s size ns = sym (list_all-map (λ n. nat_lt n size) (shift_of s.now) ns)

-- two lists, one pair after the other
same_from : (ns ms : List ℕ) (k : ℕ) → k < length ns → k < length ms
    → bytes_eq (drop k ns) (drop k ms) ≡ (nat_eq (get_or ns k 0) (get_or ms k 0) && bytes_eq (drop (suc k) ns) (drop (suc k) ms))
same_from [] ms k lt le = absurd (omega arith)
same_from (n ∷ ns) [] k lt le = absurd (omega arith)
same_from (n ∷ ns) (m ∷ ms) zero lt le = refl
same_from (n ∷ ns) (m ∷ ms) (suc k) lt le = same_from ns ms k (omega arith) (omega arith)

not_true : (b : Bool) → (b ≡ true → ⊥) → b ≡ false
not_true true f = absurd (f refl)
not_true false _ = refl

-- a pair that differs, and one that does not
pub differ_from : (ns ms : List ℕ) (k : ℕ) → k < length ns → k < length ms → (get_or ns k 0 ≡ get_or ms k 0 → ⊥)
    → bytes_eq (drop k ns) (drop k ms) ≡ false
differ_from ns ms k lt le f =
    same_from ns ms k lt le ∙ ap (λ (b : Bool). b && bytes_eq (drop (suc k) ns) (drop (suc k) ms))
    (not_true (nat_eq (get_or ns k 0) (get_or ms k 0)) (λ e. f ((Decides-eqb (get_or ns k 0) (get_or ms k 0)).0 e)))

pub agree_from : (ns ms : List ℕ) (k : ℕ) → k < length ns → k < length ms → get_or ns k 0 ≡ get_or ms k 0
    → bytes_eq (drop k ns) (drop k ms) ≡ bytes_eq (drop (k + 1) ns) (drop (k + 1) ms)
agree_from ns ms k lt le same =
    same_from ns ms k lt le ∙ ap (λ (b : Bool). b && bytes_eq (drop (suc k) ns) (drop (suc k) ms))
    ((Decides-eqb (get_or ns k 0) (get_or ms k 0)).1 same)
    ∙ ap (λ (i : ℕ). bytes_eq (drop i ns) (drop i ms)) (sym (add-one k))

-- a cell as it is read where its places stay, and where they go elsewhere
pub read_none : (c : CodedCell) → read_coded None c ≡ c
read_none (Number n) = refl
read_none (Object k ns) = refl
read_none (Reference a) = refl
read_none (Future f) = refl
read_none (Group ns) = refl

pub read_some : (s : Bor Shift) (c : CodedCell) → read_coded (Some s) c ≡ moved_coded (shift_of s.now) c
read_some s (Number n) = refl
read_some s (Object k ns) = refl
read_some s (Reference a) = refl
read_some s (Future f) = refl
read_some s (Group ns) = refl

-- one more cell that is no future
plain_append : (cs ds : CodedStore) → ArePlain cs → ArePlain ds → ArePlain (cs ++ ds)
plain_append [] ds h g = g
plain_append (c ∷ cs) ds h g = (h.0, plain_append cs ds h.1 g)

pub plain_more : (s : CodedStore) (c : CodedCell) → ArePlain s → IsPlain c → ArePlain (s ++ c ∷ [])
plain_more s c h p = plain_append s (c ∷ []) h (p, tt)
