-- Names and seats by numbers, as an index set and a vector have them.
use Rattle.std.proofs.Common.{◌≡◌, ◌+◌, ◌-◌, ◌^◌, ◌<◌, ◌≤◌, ◌≢◌, ◌++◌, ◌∷◌, [], ℕ, zero, suc, Bool, true, false, List, Option, Some, None, length, length-append, map, slice_get, slice_index_or, slice_set, refl, sym, ap, subst, ◌∙◌, T, arith}
use Rattle.std.specs.Prelude.{◌||◌, if◌then◌else◌, position}
use Rattle.std.specs.List.{list_any}
use Rattle.std.specs.Option.{is_none, unwrap_or}
use Rattle.std.proofs.lemmas.List.{map-append}
use Rattle.std.proofs.lemmas.List.Folds.{list_any_at}
use Rattle.std.proofs.lemmas.List.Quantifiers.{position-Some}
use Rattle.std.proofs.lemmas.Option.{get_or_from_slice_get, slice_get-get_or, slice_get_within}
use Rattle.asp_model.specs.Names.{Name, same_name}
use Rattle.asp_model.specs.Order.{same_name_same}
use Rattle.std.proofs.lemmas.Cmp.{eq_by_cmp_equiv}
use Rattle.std.specs.Cmp.Lexicographic.{nat_list_cmp_total}
use Rattle.core_seats.specs.declared.seat.Seat.{Seat}
use Rattle.core_seats.specs.declared.seats.Seats.{Seats}
use Rattle.core_seats.specs.Seats.{AreSeats, In, IsFound, Out, SeatShape, count_out, names_in, out_by, seat_shape, seats_in}

pub clash : {b : Bool} {C : Type 0} → b ≡ true → b ≡ false → C
clash e d = absurd (subst T (sym e ∙ d) tt)

no_some : {A B : Type 0} {x : A} → None ≡ Some x → B
no_some e = absurd (subst (λ o. T (is_none o)) e tt)

some_is : {A : Type 0} {x y : A} → Some x ≡ Some y → x ≡ y
some_is {x = x} e = ap (λ o. unwrap_or o x) e

name_itself : (n : Name) → same_name n n ≡ true
name_itself n = (eq_by_cmp_equiv nat_list_cmp_total).refl n

pub found_at : (ns : List Name) (n : Name) (k : ℕ) → position (same_name n) ns ≡ Some k → slice_get ns k ≡ Some n
found_at ns n k e =
    let h = position-Some (same_name n) ns k [] e in
    slice_get-get_or ns k [] h.0 ∙ ap Some (sym (same_name_same n _ h.1))

pub absent_new : (ns : List Name) (n : Name) → list_any (same_name n) ns ≡ false → IsFound ns n None
absent_new ns n absent k e =
    let within = slice_get_within ns k n e in
    clash (list_any_at (same_name n) ns k [] within (ap (same_name n) (get_or_from_slice_get ns k n [] e) ∙ name_itself n)) absent

pub new_absent : (ns : List Name) (n : Name) → IsFound ns n None → list_any (same_name n) ns ≡ false
new_absent [] n new = refl
new_absent (m ∷ ms) n new = both (same_name n m) (list_any (same_name n) ms) refl (new_absent ms n (λ k e. new (suc k) e))
  where
    both : (a b : Bool) → same_name n m ≡ a → b ≡ false → (a || b) ≡ false
    both true b e h = absurd (new zero (ap Some (sym (same_name_same n m e))))
    both false b e h = h

-- a new name goes last
pub added : (ns ms : List Name) (n : Name) → IsFound ns n None → ms ≡ (if list_any (same_name n) ns then ns else ns ++ n ∷ []) → ms ≡ ns ++ n ∷ []
added ns ms n new keys = keys ∙ ap (λ b. if b then ns else (ns ++ n ∷ [])) (new_absent ns n new)

pub map_set : {A B : Type 0} (f : A → B) (xs : List A) (k : ℕ) (x : A) → map f (slice_set xs k x) ≡ slice_set (map f xs) k (f x)
map_set f [] k x = refl
map_set f (y ∷ ys) zero x = refl
map_set f (y ∷ ys) (suc k) x = ap (λ zs. f y ∷ zs) (map_set f ys k x)

-- Lists

pub length_map : {A B : Type 0} (f : A → B) (xs : List A) → length (map f xs) ≡ length xs
length_map f [] = refl
length_map f (x ∷ xs) = ap suc (length_map f xs)

pub length_set : {A : Type 0} (xs : List A) (k : ℕ) (x : A) → length (slice_set xs k x) ≡ length xs
length_set [] k x = refl
length_set (y ∷ ys) zero x = refl
length_set (y ∷ ys) (suc k) x = ap suc (length_set ys k x)

pub got_mapped : {A B : Type 0} (f : A → B) (xs : List A) (k : ℕ) (d : A) → k < length xs → slice_get (map f xs) k ≡ Some (f (slice_index_or xs k d))
got_mapped f [] k d h = absurd (omega (arith, h))
got_mapped f (x ∷ xs) zero d h = refl
got_mapped f (x ∷ xs) (suc k) d h = got_mapped f xs k d (omega (arith, h))

-- Seats

module _ {X R : Type 0} where
  count_set : (xs : List (SeatShape X R)) (k : ℕ) (y z : SeatShape X R) → slice_get xs k ≡ Some y → count_out (slice_set xs k z) + out_by y ≡ count_out xs + out_by z
  count_set [] k y z h = no_some h
  count_set (x ∷ xs) zero y z h = let e : out_by x ≡ out_by y = ap out_by (some_is h) in omega (arith, e)
  count_set (x ∷ xs) (suc k) y z h = omega (arith, count_set xs k y z h)

  count_more : (xs : List (SeatShape X R)) (z : SeatShape X R) → count_out (xs ++ z ∷ []) ≡ count_out xs + out_by z
  count_more [] z = omega arith
  count_more (x ∷ xs) z = omega (arith, count_more xs z)

  few_out : (xs : List (SeatShape X R)) → count_out xs ≤ length xs
  few_out [] = omega arith
  few_out (In x ∷ xs) = omega (arith, few_out xs)
  few_out (Out came ∷ xs) = omega (arith, few_out xs)

  pub some_out : (xs : List (SeatShape X R)) (k : ℕ) (came : List R) → slice_get xs k ≡ Some (Out came) → 0 < count_out xs
  some_out [] k came h = no_some h
  some_out (x ∷ xs) zero came h = let e : out_by x ≡ 1 = ap out_by (some_is h) in omega (arith, e)
  some_out (x ∷ xs) (suc k) came h = omega (arith, some_out xs k came h)

  pub none_out : (xs : List (SeatShape X R)) → count_out xs ≡ 0 → (k : ℕ) (came : List R) → slice_get xs k ≢ Some (Out came)
  none_out xs none k came h = absurd (omega (arith, none, some_out xs k came h))

  -- there is a number for one more
  pub away_fits : (s : Seats X R) → AreSeats s → s.away + 1 < 2 ^ 64
  away_fits s h = omega (arith, h.counted, few_out (seats_in s), h.few)

  -- another seat in the place of one
  pub kept_set : (s t : Seats X R) (k : ℕ) (y z : SeatShape X R) → names_in t ≡ names_in s → seats_in t ≡ slice_set (seats_in s) k z → slice_get (seats_in s) k ≡ Some y → t.away + out_by y ≡ s.away + out_by z → AreSeats s → AreSeats t
  kept_set s t k y z names seats was away h =
      let long : length (seats_in t) ≡ length (seats_in s) = ap length seats ∙ length_set (seats_in s) k z in
      record {
        same = ap length names ∙ h.same ∙ sym long;
        few = subst (λ n. n < 2 ^ 32) (sym long) h.few;
        counted = omega (arith, ap count_out seats, count_set (seats_in s) k y z was, away, h.counted);
      }

  -- the same seats
  pub kept_same : (s t : Seats X R) → names_in t ≡ names_in s → seats_in t ≡ seats_in s → t.away ≡ s.away → AreSeats s → AreSeats t
  kept_same s t names seats away h = record {
    same = ap length names ∙ h.same ∙ ap length (sym seats);
    few = subst (λ xs. length xs < 2 ^ 32) (sym seats) h.few;
    counted = away ∙ h.counted ∙ ap count_out (sym seats);
  }

  -- one seat more
  pub kept_more : (s t : Seats X R) (n : Name) (x : Seat X R) → out_by (seat_shape x) ≡ 0 → names_in t ≡ names_in s ++ n ∷ [] → t.seats.items ≡ s.seats.items ++ x ∷ [] → t.away ≡ s.away → length s.seats.items < 2 ^ 32 - 1 → AreSeats s → AreSeats t
  kept_more s t n x here names items away few h =
      let long : length (seats_in t) ≡ length s.seats.items + 1 = length_map seat_shape t.seats.items ∙ ap length items ∙ length-append s.seats.items (x ∷ []) in
      let named : length (names_in t) ≡ length (names_in s) + 1 = ap length names ∙ length-append (names_in s) (n ∷ []) in
      let was : length (names_in s) ≡ length s.seats.items = h.same ∙ length_map seat_shape s.seats.items in
      let seats : seats_in t ≡ seats_in s ++ seat_shape x ∷ [] = ap (map seat_shape) items ∙ map-append seat_shape s.seats.items (x ∷ []) in
      record {
        same = omega (arith, long, named, was);
        few = omega (arith, long, few);
        counted = omega (arith, ap count_out seats, count_more (seats_in s) (seat_shape x), here, away, h.counted);
      }

-- two seats one after the other
pub set_twice : {A : Type 0} (xs : List A) (k : ℕ) (x y : A) → slice_set (slice_set xs k x) k y ≡ slice_set xs k y
set_twice [] k x y = refl
set_twice (z ∷ zs) zero x y = refl
set_twice (z ∷ zs) (suc k) x y = ap (λ ys. z ∷ ys) (set_twice zs k x y)

module _ {X R : Type 0} where
  -- what is in a box is one
  pub same_box : (o : Option (SeatShape X R)) (rs came : List R) → o ≡ Some (Out came) → o ≡ Some (Out rs) → came ≡ rs
  same_box o rs came h g = ap box_in (sym h ∙ g)
    where
      box_in : Option (SeatShape X R) → List R
      box_in (Some (Out cs)) = cs
      box_in (Some (In x)) = []
      box_in None = []

-- a seat in its own place
pub set_back : {A : Type 0} (xs : List A) (k : ℕ) (x : A) → slice_get xs k ≡ Some x → slice_set xs k x ≡ xs
set_back [] k x h = refl
set_back (y ∷ ys) zero x h = ap (λ o. elim o [ None ↦ y | Some z ↦ z ] ∷ ys) (sym h)
set_back (y ∷ ys) (suc k) x h = ap (λ zs. y ∷ zs) (set_back ys k x h)

-- and after another one
pub set_there_back : {A : Type 0} (xs : List A) (k : ℕ) (x y : A) → slice_get xs k ≡ Some x → slice_set (slice_set xs k y) k x ≡ xs
set_there_back xs k x y h = set_twice xs k y x ∙ set_back xs k x h
