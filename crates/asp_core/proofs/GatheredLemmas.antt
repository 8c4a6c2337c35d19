-- Those that are in, gathered one after another in the order of their numbers.
use Rattle.std.proofs.Common.{◌≡◌, ◌∙◌, ◌<◌, ◌≤◌, ◌+◌, ◌++◌, ◌∷◌, [], ℕ, zero, suc, true, List, Some, None, Option, length, map, slice_get, take, refl, sym, ap, subst, arith}
use Rattle.std.specs.Global.{Box}
use Rattle.std.specs.List.{AllByRecursion}
use Rattle.std.proofs.lemmas.List.{append-nil, length-take-le, map-append}
use Rattle.asp_model.specs.Names.{Name}
use Rattle.law_chases.proofs.FutureLemmas.{no_some, none_true, some_is}
use Rattle.request_queue.specs.declared.request.Request.{Request}
use Rattle.core_seats.specs.Seats.{In, Out, SeatShape, is_in}
use Rattle.step_activity.specs.declared.actor.Actor.{Actor}
use Rattle.asp_core.specs.Gathering.{IsBrought, as_actor, who_is_in}

abbrev Seated : Type 0
Seated = SeatShape Actor Request

one_taken : {X : Type 0} (xs : List X) (i : ℕ) (x : X) → slice_get xs i ≡ Some x → take (suc i) xs ≡ take i xs ++ x ∷ []
one_taken [] i x is = no_some is
one_taken (y ∷ xs) zero x is = ap (λ z. z ∷ []) (some_is is)
one_taken (y ∷ xs) (suc i) x is = ap (λ zs. y ∷ zs) (one_taken xs i x is)

one_more : (ns : List Name) (seats : List Seated) (n : Name) (seat : Seated) → length ns ≡ length seats → who_is_in (ns ++ n ∷ []) (seats ++ seat ∷ []) ≡ who_is_in ns seats ++ who_is_in (n ∷ []) (seat ∷ [])
one_more [] [] n seat same = refl
one_more [] (s ∷ seats) n seat same = absurd (omega (arith, same))
one_more (m ∷ ns) [] n seat same = absurd (omega (arith, same))
one_more (m ∷ ns) (In a ∷ seats) n seat same = ap (λ xs. (m, a) ∷ xs) (one_more ns seats n seat (omega (arith, same)))
one_more (m ∷ ns) (Out came ∷ seats) n seat same = one_more ns seats n seat (omega (arith, same))

module _ (ns : List Name) (seats : List Seated) (i : ℕ) (old new : List (Name × Box Actor)) (n : Name) (same : length ns ≡ length seats) (lt : i < length seats) (named : slice_get ns i ≡ Some n)
    (each : map as_actor old ≡ who_is_in (take i ns) (take i seats)) where
  then_is : (seat : Seated) → slice_get seats i ≡ Some seat → who_is_in (take (suc i) ns) (take (suc i) seats) ≡ map as_actor old ++ who_is_in (n ∷ []) (seat ∷ [])
  then_is seat here =
      let long : i ≤ length ns = omega (arith, same, lt) in
      let short : i ≤ length seats = omega (arith, lt) in
      (λ j. who_is_in (one_taken ns i n named j) (one_taken seats i seat here j))
      ∙ one_more (take i ns) (take i seats) n seat (length-take-le i ns long ∙ sym (length-take-le i seats short))
      ∙ ap (λ xs. xs ++ who_is_in (n ∷ []) (seat ∷ [])) (sym each)

  -- the next one
  pub each_more : IsBrought n (slice_get seats i) old new → map as_actor new ≡ who_is_in (take (suc i) ns) (take (suc i) seats)
  each_more brought = by (slice_get seats i) refl brought
    where
      got_there : (xs : List Seated) (k : ℕ) → k < length xs → (x : Seated) × (slice_get xs k ≡ Some x)
      got_there [] k lt = absurd (omega (arith, lt))
      got_there (x ∷ xs) zero lt = (x, refl)
      got_there (x ∷ xs) (suc k) lt = got_there xs k (omega (arith, lt))

      by : (o : Option Seated) → slice_get seats i ≡ o → IsBrought n o old new → map as_actor new ≡ who_is_in (take (suc i) ns) (take (suc i) seats)
      by (Some (In a)) is b =
          ap (map as_actor) b.2 ∙ map-append as_actor old ((n, b.0) ∷ []) ∙ ap (λ x. map as_actor old ++ (n, x) ∷ []) b.1 ∙ sym (then_is (In a) is)
      by (Some (Out came)) is b = ap (map as_actor) b ∙ sym (append-nil (map as_actor old)) ∙ sym (then_is (Out came) is)
      by None is b = let x = got_there seats i lt in no_some (sym is ∙ x.1)

-- Where all are in

abbrev front : {X : Type 0} → X → List X → X
front x [] = x
front x (y ∷ ys) = y

abbrev behind : {X : Type 0} → List X → List X
behind [] = []
behind (x ∷ xs) = xs

none_some : {X C : Type 0} {x : X} {xs : List X} → x ∷ xs ≡ [] → C
none_some e = absurd (omega (arith, ap length e))

-- what holds of each that is in
pub of_each : (P : Name → Actor → Type 0) (ns : List Name) (seats : List Seated) (xs : List (Name × Box Actor)) → map as_actor xs ≡ who_is_in ns seats
    → ((k : ℕ) (n : Name) (a : Actor) → slice_get ns k ≡ Some n → slice_get seats k ≡ Some (In a) → P n a) → AllByRecursion (λ e. P e.0 e.1.value) xs
of_each P ns seats [] is holds = tt
of_each P [] seats (x ∷ xs) is holds = none_some is
of_each P (n ∷ ns) [] (x ∷ xs) is holds = none_some is
of_each P (n ∷ ns) (In a ∷ seats) (x ∷ xs) is holds =
    let here : as_actor x ≡ (n, a) = ap (front (as_actor x)) is in
    (subst (λ (e : Name × Actor). P e.0 e.1) (sym here) (holds zero n a refl refl), of_each P ns seats xs (ap behind is) (λ k. holds (suc k)))
of_each P (n ∷ ns) (Out came ∷ seats) (x ∷ xs) is holds = of_each P ns seats (x ∷ xs) is (λ k. holds (suc k))

named_each : (ns : List Name) (seats : List Seated) → length ns ≡ length seats → ((k : ℕ) → k < length seats → is_in (slice_get seats k) ≡ true) → map (λ (e : Name × Actor). e.0) (who_is_in ns seats) ≡ ns
named_each [] seats same home = refl
named_each (n ∷ ns) [] same home = absurd (omega (arith, same))
named_each (n ∷ ns) (In a ∷ seats) same home = ap (λ ms. n ∷ ms) (named_each ns seats (omega (arith, same)) (λ k lt. home (suc k) (omega (arith, lt))))
named_each (n ∷ ns) (Out came ∷ seats) same home = none_true (home zero (omega arith))

names_as : (xs : List (Name × Box Actor)) → map (λ (e : Name × Actor). e.0) (map as_actor xs) ≡ map (λ (e : Name × Box Actor). e.0) xs
names_as [] = refl
names_as (x ∷ xs) = ap (λ ns. x.0 ∷ ns) (names_as xs)

-- they have all names, in the order of their numbers
pub all_named : (ns : List Name) (seats : List Seated) (xs : List (Name × Box Actor)) → map as_actor xs ≡ who_is_in ns seats → length ns ≡ length seats → ((k : ℕ) → k < length seats → is_in (slice_get seats k) ≡ true) → map (λ (e : Name × Box Actor). e.0) xs ≡ ns
all_named ns seats xs is same home = sym (names_as xs) ∙ ap (map (λ (e : Name × Actor). e.0)) is ∙ named_each ns seats same home
