-- Spots that are entered, one more at a time.
use Rattle.std.proofs.Common.{◌≡◌, ℕ, zero, suc, ◌+◌, ◌-◌, ◌<◌, ◌≤◌, Bool, true, false, ◌&&◌, ◌==◌, Option, List, [], ◌∷◌, ◌++◌, Some, length, map, get_or, slice_get, refl, sym, ap, subst, ◌∙◌, arith, length-append, inl, inr, T}
use Rattle.std.specs.Prelude.{◌⊎◌}
use Rattle.std.specs.Borrow.{Bor}
use Rattle.std.specs.List.{list_any}
use Rattle.std.proofs.lemmas.List.{get_or_push, get_or_append_left, map-append, length-map, append-nil}
use Rattle.std.proofs.lemmas.List.Folds.{list_any_at}
use Rattle.std.proofs.lemmas.Option.{get_or_from_slice_get, slice_get_within, slice_get-map, slice_get-get_or}
use Rattle.std.specs.Option.{option_map}
use borrow.Author.Count.{below_more}
use Rattle.asp_model.specs.Parcel.{ParcelShape}
use Rattle.code_table.specs.declared.cells.Parcel.{Parcel}
use Rattle.code_table.specs.Shapes.{parcel_shape}
use Rattle.def_paths.specs.Places.{Place, In_store, Side, inner, entered, child_by}
use Rattle.run_ends.specs.declared.entered.Spot.{Spot}
use Rattle.run_ends.specs.declared.entered.Entered.{Entered}
use Rattle.run_ends.specs.Spots.{is_spot, place_at, no_spot, spot_at, numbered_place, spot_place, places_of, places_in, place_of, size_of, IsSpot, IsNumbered, HasValues, Stays, Adds, EntersAt, Grows, IsHome}
use Rattle.run_ends.proofs.SpotLemmas.{places_of-push, length-places_of, spot_stays}

-- Spots can be told apart

both_true : (a b : Bool) → (a && b) ≡ true → (a ≡ true) × (b ≡ true)
both_true true true h = (refl, refl)
both_true true false h = absurd (subst T (sym h) tt)
both_true false b h = absurd (subst T (sym h) tt)

pub spot_tied : (s t : Spot) → is_spot s t ≡ true → s ≡ t
spot_tied s t h =
    let both = both_true (s.home == t.home) (s.cell == t.cell) h in
    let home : s.home ≡ t.home = grind (arith, both.0) in
    let cell : s.cell ≡ t.cell = grind (arith, both.1) in
    λ i. record { home = home i; cell = cell i }

pub spot_itself : (s : Spot) → is_spot s s ≡ true
spot_itself s =
    let home : (s.home == s.home) ≡ true = grind arith in
    let cell : (s.cell == s.cell) ≡ true = grind arith in
    λ i. home i && cell i

pub clash : {b : Bool} {C : Type 0} → b ≡ true → b ≡ false → C
clash e d = absurd (subst T (sym e ∙ d) tt)

-- Spots under numbers

record AreSpots (ss : List Spot) : Type 0 where
  spots : (k : ℕ) → k < length ss → IsSpot (length ss) (spot_at ss k)
  places : (k : ℕ) → k < length ss → place_at (places_of ss) k ≡ spot_place (places_of ss) (spot_at ss k)
  apart : (j k : ℕ) → j < length ss → k < length ss → place_at (places_of ss) j ≡ place_at (places_of ss) k → j ≡ k

spots_in : (e : Entered) → IsNumbered e → AreSpots e.spots.keys
spots_in e h = record { spots = h.spots; places = h.places; apart = h.apart }

numbered_by : (e : Entered) → length e.values.items ≡ size_of e → AreSpots e.spots.keys → IsNumbered e
numbered_by e count h = record { count = count; spots = h.spots; places = h.places; apart = h.apart }

home_alike : (ps : List Place) (n : ℕ) → ((j k : ℕ) → j < n → k < n → place_at ps j ≡ place_at ps k → j ≡ k)
    → (h c i d : ℕ) → h ≤ n → i ≤ n → (0 < h → 0 < c) → (0 < i → 0 < d) → numbered_place ps h c ≡ numbered_place ps i d → (h ≡ i) × (c ≡ d)
home_alike ps n apart zero c zero d le le' in_h in_i e = (refl, cc)
home_alike ps n apart zero c (suc i) zero le le' in_h in_i e = absurd (omega (arith, in_i (omega arith)))
home_alike ps n apart zero c (suc i) (suc d) le le' in_h in_i e = absurd cc
home_alike ps n apart (suc h) zero i d le le' in_h in_i e = absurd (omega (arith, in_h (omega arith)))
home_alike ps n apart (suc h) (suc c) zero d le le' in_h in_i e = absurd cc
home_alike ps n apart (suc h) (suc c) (suc i) zero le le' in_h in_i e = absurd (omega (arith, in_i (omega arith)))
home_alike ps n apart (suc h) (suc c) (suc i) (suc d) le le' in_h in_i e =
    let place : place_at ps h ≡ place_at ps i = cc in
    let number : suc c ≡ suc d = cc in
    (ap suc (apart h i (omega arith) (omega arith) place), number)

same_spot : (s t : Spot) → s.home ≡ t.home → s.cell ≡ t.cell → s ≡ t
same_spot s t h c = λ i. record { home = h i; cell = c i }

-- spots at one place are one
spots_alike : (ss : List Spot) → AreSpots ss → (s t : Spot) → IsSpot (length ss) s → IsSpot (length ss) t → spot_place (places_of ss) s ≡ spot_place (places_of ss) t → s ≡ t
spots_alike ss h s t hs ht e =
    let both = home_alike (places_of ss) (length ss) h.apart s.home s.cell t.home t.cell hs.within ht.within hs.inside ht.inside e in
    same_spot s t both.0 both.1

pub one_spot : (e : Entered) → IsNumbered e → (s t : Spot) → IsSpot (size_of e) s → IsSpot (size_of e) t → place_of e s ≡ place_of e t → s ≡ t
one_spot e h = spots_alike e.spots.keys (spots_in e h)

pub spot_wider : (n m : ℕ) (s : Spot) → n ≤ m → IsSpot n s → IsSpot m s
spot_wider n m s le h = record { within = omega (arith, h.within); inside = h.inside }

module _ (ss : List Spot) (s : Spot) (h : AreSpots ss) (here : IsSpot (length ss) s) (absent : list_any (is_spot s) ss ≡ false) where
  abbrev more : List Spot
  more = ss ++ s ∷ []

  long : length more ≡ length ss + 1
  long = length-append ss (s ∷ [])

  old_spot : (k : ℕ) → k < length ss → spot_at more k ≡ spot_at ss k
  old_spot k lt = get_or_append_left ss (s ∷ []) no_spot k lt

  new_spot : spot_at more (length ss) ≡ s
  new_spot = get_or_push ss s no_spot (length ss) refl

  old_place : (k : ℕ) → k < length ss → place_at (places_of more) k ≡ place_at (places_of ss) k
  old_place k lt =
      ap (λ (ps : List Place). place_at ps k) (places_of-push ss s)
      ∙ get_or_append_left (places_of ss) (spot_place (places_of ss) s ∷ []) (In_store 0) k (omega (arith, lt, length-places_of ss))

  new_place : place_at (places_of more) (length ss) ≡ spot_place (places_of ss) s
  new_place =
      ap (λ (ps : List Place). place_at ps (length ss)) (places_of-push ss s)
      ∙ get_or_push (places_of ss) (spot_place (places_of ss) s) (In_store 0) (length ss) (length-places_of ss)

  other : (k : ℕ) → k < length ss → spot_place (places_of ss) s ≡ place_at (places_of ss) k → ⊥
  other k lt e =
      let same = spots_alike ss h s (spot_at ss k) here (h.spots k lt) (e ∙ h.places k lt) in
      clash (list_any_at (is_spot s) ss k no_spot lt (ap (is_spot s) (sym same) ∙ spot_itself s)) absent

  spots_more : (k : ℕ) → k < length ss + 1 → IsSpot (length more) (spot_at more k)
  spots_more = below_more (λ k. IsSpot (length more) (spot_at more k)) (length ss)
      (λ k lt. subst (IsSpot (length more)) (sym (old_spot k lt)) (spot_wider (length ss) (length more) (spot_at ss k) (omega (arith, long)) (h.spots k lt)))
      (subst (IsSpot (length more)) (sym new_spot) (spot_wider (length ss) (length more) s (omega (arith, long)) here))

  places_more : (k : ℕ) → k < length ss + 1 → place_at (places_of more) k ≡ spot_place (places_of more) (spot_at more k)
  places_more = below_more (λ k. place_at (places_of more) k ≡ spot_place (places_of more) (spot_at more k)) (length ss)
      (λ k lt. old_place k lt ∙ h.places k lt ∙ sym (spot_stays ss (s ∷ []) (spot_at ss k) (h.spots k lt)) ∙ ap (spot_place (places_of more)) (sym (old_spot k lt)))
      (new_place ∙ sym (spot_stays ss (s ∷ []) s here) ∙ ap (spot_place (places_of more)) (sym new_spot))

  apart_more : (j : ℕ) → j < length ss + 1 → (k : ℕ) → k < length ss + 1 → place_at (places_of more) j ≡ place_at (places_of more) k → j ≡ k
  apart_more = below_more (λ j. (k : ℕ) → k < length ss + 1 → place_at (places_of more) j ≡ place_at (places_of more) k → j ≡ k) (length ss)
      (λ j ltj. below_more (λ k. place_at (places_of more) j ≡ place_at (places_of more) k → j ≡ k) (length ss)
      (λ k ltk e. h.apart j k ltj ltk (sym (old_place j ltj) ∙ e ∙ old_place k ltk))
      (λ e. absurd (other j ltj (sym new_place ∙ sym e ∙ old_place j ltj))))
      (below_more (λ k. place_at (places_of more) (length ss) ≡ place_at (places_of more) k → length ss ≡ k) (length ss)
      (λ k ltk e. absurd (other k ltk (sym new_place ∙ e ∙ old_place k ltk)))
      (λ e. refl))

  pushed : AreSpots more
  pushed = record {
    spots = λ k lt. spots_more k (omega (arith, lt, long));
    places = λ k lt. places_more k (omega (arith, lt, long));
    apart = λ j k ltj ltk. apart_more j (omega (arith, ltj, long)) k (omega (arith, ltk, long));
  }

-- Values

first_of : {X : Type 0} (xs : List X) (y : X) (k : ℕ) → k < length xs → slice_get (xs ++ y ∷ []) k ≡ slice_get xs k
first_of [] y k lt = absurd (omega arith)
first_of (x ∷ xs) y zero lt = refl
first_of (x ∷ xs) y (suc k) lt = first_of xs y k (omega arith)

last_of : {X : Type 0} (xs : List X) (y : X) (k : ℕ) → length xs ≡ k → slice_get (xs ++ y ∷ []) k ≡ Some y
last_of [] y zero e = refl
last_of [] y (suc k) e = absurd (omega arith)
last_of (x ∷ xs) y zero e = absurd (omega arith)
last_of (x ∷ xs) y (suc k) e = last_of xs y k (omega arith)

abbrev value_shape : Bor Parcel → ParcelShape
value_shape v = parcel_shape v.now

abbrev HasOf : Side → List Spot → List (Bor Parcel) → Type 0
HasOf a ss vs = (k : ℕ) → k < length ss → entered a (place_at (places_of ss) k) ≡ slice_get (map value_shape vs) k

module _ (a : Side) (ss : List Spot) (s : Spot) (vs : List (Bor Parcel)) (v : Bor Parcel) (h : AreSpots ss) (here : IsSpot (length ss) s) (absent : list_any (is_spot s) ss ≡ false)
    (count : length vs ≡ length ss) (values : HasOf a ss vs) (value : Some (parcel_shape v.now) ≡ entered a (spot_place (places_of ss) s)) where
  counted : length (map value_shape vs) ≡ length ss
  counted = length-map vs value_shape ∙ count

  values_so_far : (k : ℕ) → k < length ss + 1 → entered a (place_at (places_of (ss ++ s ∷ [])) k) ≡ slice_get (map value_shape (vs ++ v ∷ [])) k
  values_so_far = below_more (λ k. entered a (place_at (places_of (ss ++ s ∷ [])) k) ≡ slice_get (map value_shape (vs ++ v ∷ [])) k) (length ss)
      (λ k lt. ap (entered a) (old_place ss s h here absent k lt) ∙ values k lt
      ∙ sym (ap (λ (xs : List ParcelShape). slice_get xs k) (map-append value_shape vs (v ∷ [])) ∙ first_of (map value_shape vs) (value_shape v) k (omega (arith, lt, counted))))
      (ap (entered a) (new_place ss s h here absent) ∙ sym value
      ∙ sym (ap (λ (xs : List ParcelShape). slice_get xs (length ss)) (map-append value_shape vs (v ∷ [])) ∙ last_of (map value_shape vs) (value_shape v) (length ss) counted))

  values_more : HasOf a (ss ++ s ∷ []) (vs ++ v ∷ [])
  values_more k lt = values_so_far k (omega (arith, lt, length-append ss (s ∷ [])))

-- One more value

module _ (s : Spot) (v : Bor Parcel) (old new : Entered) (k : ℕ) (x : EntersAt s v old new k) where
  pub enters_grows : Grows old new
  enters_grows = by x.change
    where
      by : Stays old new ⊎ Adds s v old new → Grows old new
      by (inl h) = record { more = []; spots = h.0 ∙ sym (append-nil old.spots.keys) }
      by (inr h) = record { more = s ∷ []; spots = h.spots }

  pub enters_within : k < size_of new
  enters_within = slice_get_within new.spots.keys k s x.number

  pub enters_numbered : IsNumbered old → IsSpot (size_of old) s → IsNumbered new
  enters_numbered h here = by x.change
    where
      by : Stays old new ⊎ Adds s v old new → IsNumbered new
      by (inl e) = numbered_by new (ap length e.1 ∙ h.count ∙ ap length (sym e.0)) (subst AreSpots (sym e.0) (spots_in old h))
      by (inr e) =
          let ss = old.spots.keys in
          let count : length new.values.items ≡ size_of new = ap length e.values ∙ length-append old.values.items (v ∷ []) ∙ ap (λ n. n + 1) h.count ∙ sym (length-append ss (s ∷ [])) ∙ ap length (sym e.spots) in
          numbered_by new count (subst AreSpots (sym e.spots) (pushed ss s (spots_in old h) here e.absent))

  module _ (a : Side) (h : IsNumbered old) (here : IsSpot (size_of old) s) (values : HasValues a old) (value : Some (parcel_shape v.now) ≡ entered a (place_of old s)) where
    pub enters_values : HasValues a new
    enters_values = by x.change
      where
        by : Stays old new ⊎ Adds s v old new → HasValues a new
        by (inl e) = subst (λ ss. HasOf a ss new.values.items) (sym e.0) (subst (HasOf a old.spots.keys) (sym e.1) values)
        by (inr e) = subst (λ ss. HasOf a ss new.values.items) (sym e.spots) (subst (HasOf a (old.spots.keys ++ s ∷ [])) (sym e.values)
            (values_more a old.spots.keys s old.values.items v (spots_in old h) here e.absent h.count values value))

    place_is : place_at (places_in new) k ≡ place_of old s
    place_is =
        let grows = enters_grows in
        (enters_numbered h here).places k enters_within
        ∙ ap (place_of new) (get_or_from_slice_get new.spots.keys k s no_spot x.number)
        ∙ ap (λ ss. spot_place (places_of ss) s) grows.spots ∙ spot_stays old.spots.keys grows.more s here

    pub enters_home : IsHome a (place_of old s) new (k + 1)
    enters_home c =
        let p = place_of old s in
        let one : suc k ≡ k + 1 = omega arith in
        ap (λ (o : Option ParcelShape). child_by o p c) (sym value)
        ∙ ap (λ (q : Place). inner q c) (sym place_is)
        ∙ ap (λ n. numbered_place (places_in new) n c) one

-- the value of a number
pub value_at : (a : Side) (e : Entered) (home cell : ℕ) (v : Bor Parcel) → (home ≡ 0 → ⊥) → home ≤ size_of e → length e.values.items ≡ size_of e → HasValues a e → v ≡ get_or e.values.items (home - 1) v
    → (x : Place) × (numbered_place (places_in e) home cell ≡ inner x cell) × (entered a x ≡ Some (parcel_shape v.now))
value_at a e zero cell v above le count values is = absurd (above refl)
value_at a e (suc k) cell v above le count values is =
    let one : suc k - 1 ≡ k = omega arith in
    let lt : k < length e.values.items = omega arith in
    let there : get_or e.values.items k v ≡ v = sym (is ∙ ap (λ n. get_or e.values.items n v) one) in
    (place_at (places_in e) k, refl, values k (omega arith) ∙ slice_get-map value_shape e.values.items k ∙ ap (option_map value_shape) (slice_get-get_or e.values.items k v lt) ∙ ap (λ (w : Bor Parcel). Some (value_shape w)) there)
