-- Homes in order, of which edges are told one by one.
use Rattle.std.proofs.Common.{◌≡◌, ◌≢◌, ◌∙◌, ◌+◌, ◌<◌, ◌++◌, ◌∷◌, ◌&&◌, ◌||◌, [], ℕ, zero, suc, Bool, T, true, false, cond, List, Option, Some, None, is_some, drop, map, slice_get, take, Result, Ok, Err, OnOk, refl, sym, ap, subst, inl, arith}
use Rattle.std.specs.declared.cmp.Ordering.{Ordering}
use Rattle.std.specs.declared.cmp.Ordering.TheVariants.{Less, Equal, Greater}
use Rattle.std.specs.FinMap.{find, is_sorted}
use Rattle.std.specs.FinMap.Entries.{below_all, find-put}
use Rattle.std.specs.Ordering.{is_eq, is_lt}
use Rattle.asp_model.specs.Chase.{Values}
use Rattle.asp_model.specs.Configuration.{Configuration}
use Rattle.asp_model.specs.Names.{FutureShape, Name, future_cmp, same_future}
use Rattle.def_journals.specs.Edges.{Begins, Fills, HoldersShape, after_event, first_holders, has_filled, home_of, homes_in, no_holders}
use Rattle.future_update.specs.Changes.{once_filled}
use Rattle.law_chases.proofs.FutureLemmas.{future_itself, future_same, future_total, futures_apart, futures_tied, no_some, some_is, true_false}
use Rattle.law_steps.specs.Sound.{IsSound}
use Rattle.law_steps.proofs.NameLemmas.{names_apart}
use Rattle.law_journals.specs.Runs.{AreHoldersOf}
use Rattle.law_journals.proofs.RunLemmas.{first_holders_are, homes_are_of_begun}
use Rattle.law_frozen.specs.Frozen.{in_order}
use Rattle.law_frozen.proofs.FrozenLemmas.{ordered_is}
use Rattle.std.specs.Global.{Box}
use Rattle.asp_model.specs.declared.name.FutureName.{FutureName}
use Rattle.code_table.specs.declared.cells.Parcel.{Parcel}
use Rattle.future_table.specs.Values.{values_of}
use Rattle.future_update.specs.Holders.{home_shape, is_met}
use Rattle.step_activity.specs.declared.actor.Actor.{Actor}
use Rattle.core_edges.specs.declared.edges.Edges.{Edges}
use Rattle.core_edges.specs.Strategies.{KeepsEdges}
use Rattle.core_thaws.specs.Holders.{SameHolders}
use Rattle.core_thaws.specs.Telling.{AreApart, AreHomesOf, AreTold, BeginWith, KeepsRest, all_met}
use Rattle.core_thaws.proofs.HolderLemmas.{filled_behind, home_behind, or_home}

-- Homes that are found

found_home : (f : FutureShape) (xs : List (FutureShape × Name)) → find future_cmp f xs ≡ home_of f xs
found_home f [] = refl
found_home f (x ∷ xs) = by (same_future f x.0) (found_home f xs)
  where
    by : (b : Bool) → find future_cmp f xs ≡ home_of f xs → cond b (Some x.1) (find future_cmp f xs) ≡ elim b [ true ↦ Some x.1 | false ↦ home_of f xs ]
    by true h = refl
    by false h = h

-- as in their own order
pub homes_found : (f : FutureShape) (xs : List (FutureShape × Name)) → find future_cmp f (in_order future_cmp xs) ≡ home_of f xs
homes_found f [] = refl
homes_found f (x ∷ xs) = find-put future_cmp future_total f x.0 x.1 (in_order future_cmp xs) ∙ by (same_future f x.0) (homes_found f xs)
  where
    by : (b : Bool) → find future_cmp f (in_order future_cmp xs) ≡ home_of f xs → cond b (Some x.1) (find future_cmp f (in_order future_cmp xs)) ≡ elim b [ true ↦ Some x.1 | false ↦ home_of f xs ]
    by true h = refl
    by false h = h

ordered_home : (f : FutureShape) (xs : List (FutureShape × Name)) → home_of f (in_order future_cmp xs) ≡ home_of f xs
ordered_home f xs = sym (found_home f (in_order future_cmp xs)) ∙ homes_found f xs

-- A home in order is new behind those before

in_left : (a b : Bool) → T (a && b) → T a
in_left true b h = tt
in_left false b h = absurd h

in_right : (a b : Bool) → T (a && b) → T b
in_right true b h = h
in_right false b h = absurd h

less_apart : (r : Ordering) → T (is_lt r) → is_eq r ≡ false
less_apart Less h = refl
less_apart Equal h = absurd h
less_apart Greater h = absurd h

below_front : (f : FutureShape) (xs ys : List (FutureShape × Name)) (y : FutureShape × Name) → T (below_all future_cmp f (xs ++ y ∷ ys)) → T (is_lt (future_cmp f y.0))
below_front f [] ys y h = in_left (is_lt (future_cmp f y.0)) (below_all future_cmp f ys) h
below_front f (x ∷ xs) ys y h = below_front f xs ys y (in_right (is_lt (future_cmp f x.0)) (below_all future_cmp f (xs ++ y ∷ ys)) h)

pub home_new : (xs ys : List (FutureShape × Name)) (y : FutureShape × Name) → T (is_sorted future_cmp (xs ++ y ∷ ys)) → home_of y.0 xs ≡ None
home_new [] ys y h = refl
home_new (x ∷ xs) ys y h =
    let below : T (below_all future_cmp x.0 (xs ++ y ∷ ys)) = in_left (below_all future_cmp x.0 (xs ++ y ∷ ys)) (is_sorted future_cmp (xs ++ y ∷ ys)) h in
    let less : T (is_lt (future_cmp x.0 y.0)) = below_front x.0 xs ys y below in
    let apart : same_future y.0 x.0 ≡ false = futures_apart y.0 x.0 (λ same.
    true_false (same_future x.0 y.0) (ap (same_future x.0) same ∙ future_itself x.0) (less_apart (future_cmp x.0 y.0) less)) in
    ap (λ b. elim b as (λ q. Option Name) [ true ↦ Some x.1 | false ↦ home_of y.0 xs ]) apart
    ∙ home_new xs ys y (in_right (below_all future_cmp x.0 (xs ++ y ∷ ys)) (is_sorted future_cmp (xs ++ y ∷ ys)) h)

-- homes of a configuration in order, where one is the next
pub home_next : (homes : List (FutureShape × Name)) (c : Configuration) (xs ys : List (FutureShape × Name)) (y : FutureShape × Name) → homes ≡ in_order future_cmp (homes_in c) → homes ≡ xs ++ y ∷ ys → home_of y.0 xs ≡ None
home_next homes c xs ys y is split = home_new xs ys y (subst (λ hs. T (is_sorted future_cmp hs)) (sym is ∙ split) (ordered_is future_cmp future_total future_same (homes_in c)))

-- Edges that are told of homes

none_and : (a v : Bool) → v ≡ false → (a && v) ≡ false
none_and true v is = is
none_and false v is = refl

or_true : (a : Bool) → (a || true) ≡ true
or_true true = refl
or_true false = refl

or_none : (a : Bool) → (a || false) ≡ a
or_none true = refl
or_none false = refl

home_or : (o : Option Name) → or_home o None ≡ o
home_or None = refl
home_or (Some m) = refl

-- a home that was entered is there
pub home_there : (hs : List (FutureShape × Name)) (f : FutureShape) (m : Name) → home_of f hs ≡ None → is_some (home_of f (hs ++ (f, m) ∷ [])) ≡ true
home_there hs f m new = ap is_some (home_behind f hs ((f, m) ∷ []) ∙ ap (λ o. or_home o (home_of f ((f, m) ∷ []))) new ∙ ap (λ b. elim b as (λ q. Option Name) [ true ↦ Some m | false ↦ None ]) (future_itself f))

-- where nothing is known, none was told
pub none_told : (values : Values) (x : HoldersShape) → x ≡ no_holders → AreTold [] values x
none_told values x is = subst (AreTold [] values) (sym is) (record { homes = refl; edges = refl; filled = λ f. refl; received = refl; delivered = refl })

module _ (homes : List (FutureShape × Name)) (values : Values) (x : HoldersShape) (told : AreTold homes values x) (f : FutureShape) (m : Name) (new : home_of f homes ≡ None) where
  abbrev now : List (FutureShape × Name)
  now = homes ++ (f, m) ∷ []

  -- of another future
  other_home : (g : FutureShape) → same_future g f ≡ false → home_of g now ≡ home_of g homes
  other_home g is = home_behind g homes ((f, m) ∷ []) ∙ ap (or_home (home_of g homes)) (ap (λ b. elim b as (λ q. Option Name) [ true ↦ Some m | false ↦ None ]) is) ∙ home_or (home_of g homes)

  this_home : (g : FutureShape) → same_future g f ≡ true → home_of g now ≡ Some m
  this_home g is =
      home_behind g homes ((f, m) ∷ []) ∙ ap (λ o. or_home o (home_of g ((f, m) ∷ []))) (ap (λ q. home_of q homes) (futures_tied g f is) ∙ new)
      ∙ ap (λ b. elim b as (λ q. Option Name) [ true ↦ Some m | false ↦ None ]) is

  abbrev begun : HoldersShape
  begun = after_event (Begins f m) x

  -- it has no value
  pub waits_told : (y : HoldersShape) → y ≡ begun → find future_cmp f values ≡ None → AreTold now values y
  waits_told y is none = subst (AreTold now values) (sym is) (record {
    homes = ap (λ hs. hs ++ (f, m) ∷ []) told.homes;
    edges = told.edges;
    filled = λ g. told.filled g ∙ by g (same_future g f) refl;
    received = told.received;
    delivered = told.delivered;
  })
    where
      by : (g : FutureShape) (b : Bool) → same_future g f ≡ b → (is_some (home_of g homes) && is_some (find future_cmp g values)) ≡ (is_some (home_of g now) && is_some (find future_cmp g values))
      by g true is =
          let value : is_some (find future_cmp g values) ≡ false = ap (λ q. is_some (find future_cmp q values)) (futures_tied g f is) ∙ ap is_some none in
          none_and (is_some (home_of g homes)) (is_some (find future_cmp g values)) value ∙ sym (none_and (is_some (home_of g now)) (is_some (find future_cmp g values)) value)
      by g false is = ap (λ o. is_some o && is_some (find future_cmp g values)) (sym (other_home g is))

  -- it is filled
  not_before : has_filled f begun.filled ≡ false
  not_before = told.filled f ∙ ap (λ o. is_some o && is_some (find future_cmp f values)) new

  pub filled_told : (y : HoldersShape) → y ≡ once_filled f begun → is_some (find future_cmp f values) ≡ true → AreTold now values y
  filled_told y is value = subst (AreTold now values) (sym (is ∙ ap (λ b. elim b as (λ q. HoldersShape) [ true ↦ begun | false ↦ after_event (Fills f) begun ]) not_before)) (record {
    homes = ap (λ hs. hs ++ (f, m) ∷ []) told.homes;
    edges = told.edges;
    filled = λ g. filled_behind g x.filled (f ∷ []) ∙ ap (λ b. b || has_filled g (f ∷ [])) (told.filled g) ∙ by g (same_future g f) refl;
    received = told.received;
    delivered = told.delivered;
  })
    where
      by : (g : FutureShape) (b : Bool) → same_future g f ≡ b
          → ((is_some (home_of g homes) && is_some (find future_cmp g values)) || has_filled g (f ∷ [])) ≡ (is_some (home_of g now) && is_some (find future_cmp g values))
      by g true is =
          ap (λ b. (is_some (home_of g homes) && is_some (find future_cmp g values)) || (b || false)) is
          ∙ or_true (is_some (home_of g homes) && is_some (find future_cmp g values))
          ∙ sym (ap (λ o. is_some o && is_some (find future_cmp g values)) (this_home g is) ∙ ap (λ q. is_some (find future_cmp q values)) (futures_tied g f is) ∙ value)
      by g false is =
          ap (λ b. (is_some (home_of g homes) && is_some (find future_cmp g values)) || (b || false)) is
          ∙ or_none (is_some (home_of g homes) && is_some (find future_cmp g values))
          ∙ ap (λ o. is_some o && is_some (find future_cmp g values)) (sym (other_home g is))

-- All are told

pub same_first : (c : Configuration) (homes : List (FutureShape × Name)) (values : Values) (x : HoldersShape) → IsSound c → homes ≡ in_order future_cmp (homes_in c) → values ≡ c.futures → AreTold homes values x → SameHolders x (first_holders c)
same_first c homes values x sound is same told = record {
  homes = λ f. ap (home_of f) (told.homes ∙ is) ∙ ordered_home f (homes_in c);
  edges = told.edges;
  filled = λ f. told.filled f ∙ ap (λ o. is_some o && is_some (find future_cmp f values)) (ap (home_of f) is ∙ ordered_home f (homes_in c))
      ∙ ap (λ vs. is_some (home_of f (homes_in c)) && is_some (find future_cmp f vs)) same
      ∙ by f (is_some (find future_cmp f c.futures)) refl
      ∙ sym (are.filled f);
  received = told.received;
  delivered = told.delivered;
}
  where
    are : AreHoldersOf c (first_holders c)
    are = first_holders_are c sound

    -- what is filled was begun, so it has a home
    by : (f : FutureShape) (v : Bool) → is_some (find future_cmp f c.futures) ≡ v → (is_some (home_of f (homes_in c)) && is_some (find future_cmp f c.futures)) ≡ is_some (find future_cmp f c.futures)
    by f true is = ap (λ b. b && is_some (find future_cmp f c.futures)) ((homes_are_of_begun c (first_holders c) f sound are).0 (sound.begun f (inl is)))
    by f false is = none_and (is_some (home_of f (homes_in c))) (is_some (find future_cmp f c.futures)) is ∙ sym is

-- edges that met all, and were told of all homes, know what a run that goes on begins with
pub begins_with : {P E : Type 0} (c : Configuration) (es : List (Name × Box Actor)) (homes : List (FutureName × Name)) (filled : List (FutureName × Parcel)) (old mid new : Edges P) → AreHomesOf c homes filled → old.holders.answers ≡ []
    → mid.holders.activities ≡ all_met es → KeepsEdges old mid → (r : Result (Unit {0}) E) → OnOk r (AreTold (map home_shape homes) (values_of filled) new.holders.holders) → OnOk r (KeepsRest mid new) → OnOk r (BeginWith c es old new)
begins_with c es homes filled old mid new are none met keeps (Err e) told rest = tt
begins_with c es homes filled old mid new are none met keeps (Ok v) told rest = record {
  holders = same_first c (map home_shape homes) (values_of filled) new.holders.holders are.sound are.homes are.values told;
  answers = rest.answers ∙ keeps.answers ∙ none;
  activities = rest.activities ∙ met;
  plan = rest.plan ∙ keeps.plan;
  strategies = rest.strategies ∙ keeps.strategies;
  policies = rest.policies ∙ keeps.policies;
}

-- Lists up to a place

module _ {A : Type 0} where
  pub in_taken : (xs : List A) (n k : ℕ) (x : A) → slice_get (take n xs) k ≡ Some x → (k < n) × (slice_get xs k ≡ Some x)
  in_taken [] zero k x at = no_some at
  in_taken [] (suc n) k x at = no_some at
  in_taken (y ∷ xs) zero k x at = no_some at
  in_taken (y ∷ xs) (suc n) zero x at = (omega arith, at)
  in_taken (y ∷ xs) (suc n) (suc k) x at = let r = in_taken xs n k x at in (omega (arith, r.0), r.1)

-- who is not among these was not met
not_met : (es : List (Name × Box Actor)) (n : Name) → ((k : ℕ) (e : Name × Box Actor) → slice_get es k ≡ Some e → n ≢ e.0) → is_met n (all_met es) ≡ false
not_met [] n other = refl
not_met (e ∷ es) n other = λ i. names_apart n e.0 (other 0 e refl) i || not_met es n (λ k d at. other (suc k) d at) i

pub unmet_next : (es : List (Name × Box Actor)) (place : ℕ) (e : Name × Box Actor) → AreApart es → slice_get es place ≡ Some e → is_met e.0 (all_met (take place es)) ≡ false
unmet_next es place e apart here = not_met (take place es) e.0 (λ k d at same. not_below k place (in_taken es place k d at).0 (apart place k e d here (in_taken es place k d at).1 same))
  where
    not_below : (k n : ℕ) → k < n → n ≡ k → ⊥
    not_below k n lt is = omega (arith, lt, is)

pub taken_split : (xs : List (FutureName × Name)) (n : ℕ) (x : FutureName × Name) → slice_get xs n ≡ Some x → map home_shape xs ≡ map home_shape (take n xs) ++ home_shape x ∷ map home_shape (drop (suc n) xs)
taken_split [] n x at = no_some at
taken_split (y ∷ xs) zero x at = ap (λ z. home_shape z ∷ map home_shape xs) (some_is at)
taken_split (y ∷ xs) (suc n) x at = ap (λ zs. home_shape y ∷ zs) (taken_split xs n x at)

pub taken_more : (xs : List (FutureName × Name)) (n : ℕ) (x : FutureName × Name) → slice_get xs n ≡ Some x → map home_shape (take (n + 1) xs) ≡ map home_shape (take n xs) ++ home_shape x ∷ []
taken_more xs n x at =
    let next : n + 1 ≡ suc n = omega arith in
    ap (λ k. map home_shape (take k xs)) next ∙ by xs n x at
  where
    by : (xs : List (FutureName × Name)) (n : ℕ) (x : FutureName × Name) → slice_get xs n ≡ Some x → map home_shape (take (suc n) xs) ≡ map home_shape (take n xs) ++ home_shape x ∷ []
    by [] n x at = no_some at
    by (y ∷ xs) zero x at = ap (λ z. home_shape z ∷ []) (some_is at)
    by (y ∷ xs) (suc n) x at = ap (λ zs. home_shape y ∷ zs) (by xs n x at)

pub rest_then : {P : Type 0} (old mid new : Edges P) → KeepsRest old mid → KeepsRest mid new → KeepsRest old new
rest_then old mid new first then = record {
  answers = then.answers ∙ first.answers;
  activities = then.activities ∙ first.activities;
  plan = then.plan ∙ first.plan;
  strategies = then.strategies ∙ first.strategies;
  policies = then.policies ∙ first.policies;
}
