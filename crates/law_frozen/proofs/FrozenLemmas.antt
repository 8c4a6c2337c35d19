-- The configuration that is thawed differs from the one that was frozen in what was served alone.
use Rattle.std.specs.Prelude.{◌≡◌, ◌≢◌, ◌⊎◌, ◌&&◌, ◌||◌, not, ℕ, zero, suc, ◌+◌, ◌<◌, ◌≤◌, ◌==◌, ◌++◌, Bool, true, false, cond, T, List, [], ◌∷◌, Option, Some, None, is_some, length, map, filter, slice_get}
use Rattle.std.proofs.Common.{refl, sym, ap, subst, ◌∙◌, arith, inl, inr, ⊎_elim}
use Rattle.std.proofs.lemmas.Bool.{eqb-true}
use Rattle.std.specs.declared.cmp.Ordering.{Ordering}
use Rattle.std.specs.declared.cmp.Ordering.TheVariants.{Less, Equal, Greater}
use Rattle.std.specs.List.{flat_map}
use Rattle.std.specs.Ordering.{is_eq}
use Rattle.std.specs.Cmp.{IsTotalOrder}
use Rattle.std.specs.FinMap.{IsAntisymmetric, find, put, is_sorted}
use Rattle.std.specs.FinMap.Entries.{by_order, is_sorted-put, find-put, same_entries}
use Rattle.asp_model.specs.Names.{Name, FutureShape, name_cmp, future_cmp, same_name, same_future}
use Rattle.asp_model.specs.Parcel.{has_place}
use Rattle.asp_model.specs.Configuration.{RequestShape, Activity, Configuration, or_none, requests_of, log_of}
use Rattle.asp_model.specs.Intent.{Numbered}
use Rattle.asp_model.specs.Step.{name_at}
use Rattle.asp_model.specs.History.{FirstShape}
use Rattle.def_journals.specs.Edges.{home_of, homes_in}
use Rattle.law_chases.proofs.FutureLemmas.{no_some, some_is, none_true, future_total, future_same, futures_tied, future_itself}
use Rattle.law_chases.proofs.MapLemmas as Maps
use Rattle.law_steps.specs.Reached.{IsThere}
use Rattle.law_steps.specs.Kept.{Stands}
use Rattle.law_steps.specs.Sound.{IsSound}
use Rattle.law_steps.proofs.EntryLemmas.{In, entry_found}
use Rattle.law_steps.proofs.NameLemmas.{name_total, name_same, name_case, names_tied, name_itself}
use Rattle.law_steps.proofs.JoinLaws.{sorted_mapped}
use Rattle.law_journals.specs.Numbered.{IsFirst}
use Rattle.law_journals.specs.Runs.{IsHome}
use Rattle.law_journals.proofs.CountLemmas.{in_mapped}
use Rattle.law_journals.proofs.HomeLemmas.{received_home}
use Rattle.law_journals.proofs.RunLemmas.{first_holders_are}
use Rattle.law_services.specs.Correct.{bare, bare_of}
use Rattle.law_frozen.specs.Pending.{pending_of, unnumbered, waiting}
use Rattle.law_frozen.specs.Same.{SamePending, served_by, queue_of, bare_entry}
use Rattle.law_frozen.specs.Frozen.{FrozenActivity, FrozenShape, in_order, freeze, frozen_at, frozen_of, spent, has_future, answered, numbers_to, received_by, thawed_activity, each_named, thawed, FrozenIsSame, SameFreezesSame}
use Rattle.law_frozen.proofs.SameLemmas.{found_bare, bare_found, holders, some_same}

-- Entries in order

module _ {K X : Type 0} (R : K → K → Ordering) (o : IsTotalOrder R) (same : IsAntisymmetric R) where
  pub ordered_is : (es : List (K × X)) → T (is_sorted R (in_order R es))
  ordered_is [] = tt
  ordered_is (e ∷ es) = is_sorted-put R o e.0 e.1 (in_order R es) (ordered_is es)

  in_put : (y : K × X) (k : K) (v : X) (es : List (K × X)) → In y (put R k v es) → (y ≡ (k, v)) ⊎ In y es
  in_put y k v [] i = ⊎_elim (λ p. inl p) (λ j. absurd j) i
  in_put y k v (e ∷ es) i = by (R k e.0) refl (in_put y k v es) i
    where
      by : (r : Ordering) → R k e.0 ≡ r → (In y (put R k v es) → (y ≡ (k, v)) ⊎ In y es) → In y (by_order r ((k, v) ∷ e ∷ es) ((e.0, v) ∷ es) (e ∷ put R k v es)) → (y ≡ (k, v)) ⊎ In y (e ∷ es)
      by Less h rest i = i
      by Equal h rest i = ⊎_elim (λ p. inl (p ∙ (λ j. (sym (same k e.0 h) j, v)))) (λ j. inr (inr j)) i
      by Greater h rest i = ⊎_elim (λ p. inr (inl p)) (λ j. ⊎_elim (λ p. inl p) (λ l. inr (inr l)) (rest j)) i

  -- nothing is added
  in_ordered : (y : K × X) (es : List (K × X)) → In y (in_order R es) → In y es
  in_ordered y [] i = i
  in_ordered y (e ∷ es) i = ⊎_elim (λ p. inl p) (λ j. inr (in_ordered y es j)) (in_put y e.0 e.1 (in_order R es) i)

  -- what is found is there
  in_found : (k : K) (v : X) (es : List (K × X)) → find R k es ≡ Some v → In (k, v) es
  in_found k v [] h = no_some h
  in_found k v (e ∷ es) h = by (R k e.0) refl (in_found k v es) h
    where
      by : (r : Ordering) → R k e.0 ≡ r → (find R k es ≡ Some v → In (k, v) es) → cond (is_eq r) (Some e.1) (find R k es) ≡ Some v → In (k, v) (e ∷ es)
      by Less p rest h = inr (rest h)
      by Equal p rest h = inl (λ j. (same k e.0 p j, sym (some_is h) j))
      by Greater p rest h = inr (rest h)

-- homes in order are found as they are looked up
homes_found : (f : FutureShape) (xs : List (FutureShape × Name)) → find future_cmp f (in_order future_cmp xs) ≡ home_of f xs
homes_found f [] = refl
homes_found f (x ∷ xs) = find-put future_cmp future_total f x.0 x.1 (in_order future_cmp xs) ∙ by (same_future f x.0) (homes_found f xs)
  where
    by : (b : Bool) → find future_cmp f (in_order future_cmp xs) ≡ home_of f xs → cond b (Some x.1) (find future_cmp f (in_order future_cmp xs)) ≡ elim b [ true ↦ Some x.1 | false ↦ home_of f xs ]
    by true h = refl
    by false h = h

-- What is found of each activity

in_names : (names : List Name) (k : ℕ) (n : Name) → name_at names k ≡ Some n → In n names
in_names [] k n h = no_some h
in_names (m ∷ names) zero n h = inl (sym (some_is h))
in_names (m ∷ names) (suc k) n h = inr (in_names names k n h)

module _ {X : Type 0} (c : Configuration) (g : FrozenActivity → X) where
  abbrev named_of : List Name → List (Name × X)
  named_of names = each_named g (flat_map (frozen_at c) names)

  -- who is not there is passed over
  named_more : (n : Name) (names : List Name) (q : Name) (o : Option Activity) → find name_cmp n c.activities ≡ o
      → named_of (n ∷ names) ≡ elim o [ None ↦ named_of names | Some a ↦ put name_cmp n (g (freeze c n a)) (named_of names) ]
  named_more n names q o h = ap (λ p. each_named g (elim p [ None ↦ [] | Some a ↦ freeze c n a ∷ [] ] ++ flat_map (frozen_at c) names)) h ∙ by o
    where
      by : (p : Option Activity) → each_named g (elim p [ None ↦ [] | Some a ↦ freeze c n a ∷ [] ] ++ flat_map (frozen_at c) names)
          ≡ elim p [ None ↦ named_of names | Some a ↦ put name_cmp n (g (freeze c n a)) (named_of names) ]
      by None = refl
      by (Some a) = refl

  pub named_none : (names : List Name) (q : Name) → find name_cmp q c.activities ≡ None → find name_cmp q (named_of names) ≡ None
  named_none [] q h = refl
  named_none (n ∷ names) q h = ap (find name_cmp q) (named_more n names q (find name_cmp n c.activities) refl) ∙ by (find name_cmp n c.activities) refl (named_none names q h)
    where
      by : (o : Option Activity) → find name_cmp n c.activities ≡ o → find name_cmp q (named_of names) ≡ None
          → find name_cmp q (elim o [ None ↦ named_of names | Some a ↦ put name_cmp n (g (freeze c n a)) (named_of names) ]) ≡ None
      by None is rest = rest
      by (Some a) is rest = Maps.find_other name_cmp name_total name_same q n (g (freeze c n a)) (named_of names) (λ p. no_some (sym h ∙ ap (λ k. find name_cmp k c.activities) p ∙ is)) ∙ rest

  pub named_some : (names : List Name) (q : Name) (a : Activity) → find name_cmp q c.activities ≡ Some a → In q names → find name_cmp q (named_of names) ≡ Some (g (freeze c q a))
  named_some [] q a h i = absurd i
  named_some (n ∷ names) q a h i = ⊎_elim first (later (named_some names q a h)) (name_case q n)
    where
      first : q ≡ n → find name_cmp q (named_of (n ∷ names)) ≡ Some (g (freeze c q a))
      first p = subst (λ m. find name_cmp m c.activities ≡ Some a → find name_cmp q (named_of (m ∷ names)) ≡ Some (g (freeze c q a))) p
          (λ is. ap (find name_cmp q) (named_more q names q (Some a) is) ∙ Maps.find_same name_cmp name_total name_same q (g (freeze c q a)) (named_of names))
          (subst (λ m. find name_cmp m c.activities ≡ Some a) p h)

      passed : (o : Option Activity) → find name_cmp n c.activities ≡ o → q ≢ n → find name_cmp q (named_of (n ∷ names)) ≡ find name_cmp q (named_of names)
      passed None is apart = ap (find name_cmp q) (named_more n names q None is)
      passed (Some b) is apart = ap (find name_cmp q) (named_more n names q (Some b) is) ∙ Maps.find_other name_cmp name_total name_same q n (g (freeze c n b)) (named_of names) apart

      later : (In q names → find name_cmp q (named_of names) ≡ Some (g (freeze c q a))) → q ≢ n → find name_cmp q (named_of (n ∷ names)) ≡ Some (g (freeze c q a))
      later rest apart = passed (find name_cmp n c.activities) refl apart ∙ rest (⊎_elim (λ p. absurd (apart p)) (λ j. j) i)

-- Numbers of what was served

pub in_numbers : (k j : ℕ) → k < j → has_place k (numbers_to j) ≡ true
in_numbers k zero lt = absurd (omega (arith, lt))
in_numbers k (suc j) lt = by (k == j) refl (in_numbers k j)
  where
    by : (b : Bool) → (k == j) ≡ b → (k < j → has_place k (numbers_to j) ≡ true) → elim b [ true ↦ true | false ↦ has_place k (numbers_to j) ] ≡ true
    by true e rest = refl
    by false e rest = rest (grind (arith, lt, e))

pub not_numbers : (k j : ℕ) → j ≤ k → has_place k (numbers_to j) ≡ false
not_numbers k zero le = refl
not_numbers k (suc j) le = by (k == j) refl (not_numbers k j (omega (arith, le)))
  where
    by : (b : Bool) → (k == j) ≡ b → has_place k (numbers_to j) ≡ false → elim b [ true ↦ true | false ↦ has_place k (numbers_to j) ] ≡ false
    by true e rest = let p : k ≡ j = eqb-true k j e in absurd (omega (arith, le, p))
    by false e rest = rest

abbrev skip_or : Bool → Numbered → List Numbered → List Numbered
skip_or b x xs = elim b [ true ↦ xs | false ↦ x ∷ xs ]

all_wait : (j k : ℕ) (rs : List RequestShape) → j ≤ k → unnumbered (pending_of (numbers_to j) k rs) ≡ rs
all_wait j k [] le = refl
all_wait j k (r ∷ rs) le =
    ap (λ b. unnumbered (skip_or b (k, r) (pending_of (numbers_to j) (suc k) rs))) (not_numbers k j le)
    ∙ ap (λ l. r ∷ l) (all_wait j (suc k) rs (omega (arith, le)))

-- behind what was served, all wait
wait_behind : (j k : ℕ) (qs rs : List RequestShape) → k + length qs ≡ j → unnumbered (pending_of (numbers_to j) k (qs ++ rs)) ≡ rs
wait_behind j k [] rs e = all_wait j k rs (omega (arith, e))
wait_behind j k (q ∷ qs) rs e =
    ap (λ b. unnumbered (skip_or b (k, q) (pending_of (numbers_to j) (suc k) (qs ++ rs)))) (in_numbers k j (omega (arith, e)))
    ∙ wait_behind j (suc k) qs rs (omega (arith, e))

pub length_spent : (fs : List FutureShape) → length (map spent fs) ≡ length fs
length_spent [] = refl
length_spent (f ∷ fs) = ap suc (length_spent fs)

queue_behind : (fs : List FutureShape) (rs : List RequestShape) → waiting (numbers_to (length fs)) (map spent fs ++ rs) ≡ rs
queue_behind fs rs = wait_behind (length fs) 0 (map spent fs) rs (let p : length (map spent fs) ≡ length fs = length_spent fs in omega (arith, p))

-- Items of lists

pub in_front : {A : Type 0} (x : A) (ys zs : List A) → In x ys → In x (ys ++ zs)
in_front x [] zs i = absurd i
in_front x (y ∷ ys) zs i = ⊎_elim (λ p. inl p) (λ j. inr (in_front x ys zs j)) i

pub in_back : {A : Type 0} (x : A) (ys zs : List A) → In x zs → In x (ys ++ zs)
in_back x [] zs i = i
in_back x (y ∷ ys) zs i = inr (in_back x ys zs i)

pub in_either : {A : Type 0} (x : A) (ys zs : List A) → In x (ys ++ zs) → In x ys ⊎ In x zs
in_either x [] zs i = inr i
in_either x (y ∷ ys) zs i = ⊎_elim (λ p. inl (inl p)) (λ j. ⊎_elim (λ l. inl (inr l)) (λ l. inr l) (in_either x ys zs j)) i

pub mapped_in : {A B : Type 0} (f : A → B) (y : B) (xs : List A) → In y (map f xs) → (x : A) × In x xs × (y ≡ f x)
mapped_in f y [] i = absurd i
mapped_in f y (x ∷ xs) i = ⊎_elim (λ p. (x, inl refl, p)) (λ j. let r = mapped_in f y xs j in (r.0, inr r.1, r.2)) i

pub filtered_in : {A : Type 0} (test : A → Bool) (x : A) (xs : List A) → In x (filter test xs) → In x xs × (test x ≡ true)
filtered_in test x [] i = absurd i
filtered_in test x (y ∷ xs) i = by (test y) refl (filtered_in test x xs) i
  where
    by : (b : Bool) → test y ≡ b → (In x (filter test xs) → In x xs × (test x ≡ true)) → In x (cond b (y ∷ filter test xs) (filter test xs)) → In x (y ∷ xs) × (test x ≡ true)
    by true e rest i = ⊎_elim (λ p. (inl p, ap test p ∙ e)) (λ j. let r = rest j in (inr r.0, r.1)) i
    by false e rest i = let r = rest i in (inr r.0, r.1)

pub in_filtered : {A : Type 0} (test : A → Bool) (x : A) (xs : List A) → In x xs → test x ≡ true → In x (filter test xs)
in_filtered test x [] i h = absurd i
in_filtered test x (y ∷ xs) i h = by (test y) refl i (λ j. in_filtered test x xs j h)
  where
    by : (b : Bool) → test y ≡ b → In x (y ∷ xs) → (In x xs → In x (filter test xs)) → In x (cond b (y ∷ filter test xs) (filter test xs))
    by true e i rest = ⊎_elim (λ p. inl p) (λ j. inr (rest j)) i
    by false e i rest = ⊎_elim (λ p. none_true (sym e ∙ ap test (sym p) ∙ h)) rest i

pub number_of_item : {A : Type 0} (xs : List A) (x : A) → In x xs → (k : ℕ) × (slice_get xs k ≡ Some x)
number_of_item [] x i = absurd i
number_of_item (y ∷ xs) x i = ⊎_elim (λ p. (0, ap Some (sym p))) (λ j. let r = number_of_item xs x j in (suc r.0, r.1)) i

pub numbered_in : {A : Type 0} (xs : List A) (k : ℕ) (x : A) → slice_get xs k ≡ Some x → In x xs
numbered_in [] k x h = no_some h
numbered_in (y ∷ xs) zero x h = inl (sym (some_is h))
numbered_in (y ∷ xs) (suc k) x h = inr (numbered_in xs k x h)

pub waiting_in : (served : List ℕ) (k : ℕ) (rs : List RequestShape) (r : RequestShape) → In r (unnumbered (pending_of served k rs)) → In r rs
waiting_in served k [] r i = i
waiting_in served k (q ∷ rs) r i = by (has_place k served) (waiting_in served (suc k) rs r) i
  where
    by : (b : Bool) → (In r (unnumbered (pending_of served (suc k) rs)) → In r rs) → In r (unnumbered (skip_or b (k, q) (pending_of served (suc k) rs))) → In r (q ∷ rs)
    by true rest i = inr (rest i)
    by false rest i = ⊎_elim (λ p. inl p) (λ j. inr (rest j)) i

pub future_there : (f : FutureShape) (rs : List RequestShape) → has_future f rs ≡ true → (r : RequestShape) × In r rs × (r.future ≡ f)
future_there f [] h = none_true h
future_there f (r ∷ rs) h = by (same_future f r.future) refl (future_there f rs) h
  where
    by : (b : Bool) → same_future f r.future ≡ b → (has_future f rs ≡ true → (q : RequestShape) × In q rs × (q.future ≡ f)) → (b || has_future f rs) ≡ true → (q : RequestShape) × In q (r ∷ rs) × (q.future ≡ f)
    by true e rest h = (r, inl refl, sym (futures_tied f r.future e))
    by false e rest h = let x = rest h in (x.0, inr x.1, x.2)

-- Homes, of any configuration

home_in : (f : FutureShape) (m : Name) (xs : List (FutureShape × Name)) → home_of f xs ≡ Some m → In (f, m) xs
home_in f m [] h = no_some h
home_in f m (x ∷ xs) h = by (same_future f x.0) refl (home_in f m xs) h
  where
    by : (b : Bool) → same_future f x.0 ≡ b → (home_of f xs ≡ Some m → In (f, m) xs) → elim b [ true ↦ Some x.1 | false ↦ home_of f xs ] ≡ Some m → In (f, m) (x ∷ xs)
    by true e rest h = inl (λ i. (futures_tied f x.0 e i, sym (some_is h) i))
    by false e rest h = inr (rest h)

in_home : (f : FutureShape) (m : Name) (xs : List (FutureShape × Name)) → In (f, m) xs → (n : Name) × (home_of f xs ≡ Some n)
in_home f m [] i = absurd i
in_home f m (x ∷ xs) i = by (same_future f x.0) refl (in_home f m xs) i
  where
    by : (b : Bool) → same_future f x.0 ≡ b → (In (f, m) xs → (n : Name) × (home_of f xs ≡ Some n)) → In (f, m) (x ∷ xs) → (n : Name) × (elim b [ true ↦ Some x.1 | false ↦ home_of f xs ] ≡ Some n)
    by true e rest i = (x.1, refl)
    by false e rest i = ⊎_elim (λ p. none_true (sym e ∙ ap (same_future f) (sym (ap (λ z. z.0) p)) ∙ future_itself f)) rest i

abbrev homes_at : Name × List RequestShape → List (FutureShape × Name)
homes_at x = map (λ r. (r.future, x.0)) x.1

flat_in : (y : FutureShape × Name) (xs : List (Name × List RequestShape)) → In y (flat_map homes_at xs) → (x : Name × List RequestShape) × In x xs × In y (homes_at x)
flat_in y [] i = absurd i
flat_in y (x ∷ xs) i = ⊎_elim (λ j. (x, inl refl, j)) (λ j. let r = flat_in y xs j in (r.0, inr r.1, r.2)) (in_either y (homes_at x) (flat_map homes_at xs) i)

-- a home has received the request of its future
home_received : (c : Configuration) → T (is_sorted name_cmp c.received) → (y : FutureShape × Name) → In y (homes_in c) → IsHome c y.0 y.1
home_received c s y i =
    let x = flat_in y c.received i in
    let r = mapped_in (λ r. (r.future, x.0.0)) y x.0.1 x.2 in
    let here : requests_of c x.0.0 ≡ x.0.1 = ap or_none (entry_found c.received x.0 s x.1) in
    let k = number_of_item (requests_of c x.0.0) r.0 (subst (In r.0) (sym here) r.1) in
    (k.0, r.0, subst (λ m. Stands c m k.0 r.0) (sym (ap (λ z. z.1) r.2)) k.1, sym (ap (λ z. z.0) r.2))

pub both_true : (a b : Bool) → (a && b) ≡ true → a ≡ true
both_true true b e = refl
both_true false b e = none_true e

-- The configuration that is thawed

module _ (x : FirstShape) (first : IsFirst x) where
  abbrev was : Configuration
  was = x.configuration

  abbrev shape : FrozenShape
  shape = frozen_of x.names was

  abbrev now : Configuration
  now = thawed shape

  sound : IsSound was
  sound = first.sound

  pub in_all : (q : Name) → IsThere was q → In q x.names
  in_all q there = let k = first.numbered.numbered q there in in_names x.names k.0 q k.1

  pub in_all_at : (q : Name) (a : Activity) → find name_cmp q was.activities ≡ Some a → In q x.names
  in_all_at q a is = in_all q (ap is_some is)

  -- who is not there received nothing
  none_received : (q : Name) → find name_cmp q was.activities ≡ None → requests_of was q ≡ []
  none_received q is = by (requests_of was q) refl
    where
      by : (rs : List RequestShape) → requests_of was q ≡ rs → rs ≡ []
      by [] e = refl
      by (r ∷ rs) e = none_true (sym (ap is_some is) ∙ (sound.requests q 0 r (ap (λ l. slice_get l 0) e)).received)

  pub received_at : (q : Name) (a : Activity) → find name_cmp q was.activities ≡ Some a → requests_of now q ≡ received_by shape (freeze was q a)
  received_at q a is = ap or_none (named_some was (received_by shape) x.names q a is (in_all_at q a is))

  pub received_none : (q : Name) → find name_cmp q was.activities ≡ None → requests_of now q ≡ []
  received_none q is = ap or_none (named_none was (received_by shape) x.names q is)

  pub bare_there : (q : Name) → bare_of (find name_cmp q was.activities) ≡ bare_of (find name_cmp q now.activities)
  bare_there q = by (find name_cmp q was.activities) refl
    where
      by : (o : Option Activity) → find name_cmp q was.activities ≡ o → bare_of o ≡ bare_of (find name_cmp q now.activities)
      by None is = sym (ap bare_of (named_none was (thawed_activity shape) x.names q is))
      by (Some a) is = sym (ap bare_of (named_some was (thawed_activity shape) x.names q a is (in_all_at q a is)))

  pending_there : (q : Name) → queue_of was q ≡ queue_of now q
  pending_there q = by (find name_cmp q was.activities) refl
    where
      by : (o : Option Activity) → find name_cmp q was.activities ≡ o → queue_of was q ≡ queue_of now q
      by None is =
          let none : served_by (find name_cmp q was.activities) ≡ [] = ap served_by is in
          let none_now : served_by (find name_cmp q now.activities) ≡ [] = ap served_by (named_none was (thawed_activity shape) x.names q is) in
          (λ i. waiting (none i) (none_received q is i)) ∙ sym (λ i. waiting (none_now i) (received_none q is i))
      by (Some a) is =
          let served : served_by (find name_cmp q now.activities) ≡ numbers_to (length (answered shape (freeze was q a))) = ap served_by (named_some was (thawed_activity shape) x.names q a is (in_all_at q a is)) in
          sym ((λ i. waiting (served i) (received_at q a is i)) ∙ queue_behind (answered shape (freeze was q a)) (queue_of was q))

  pub logs_there : (q : Name) → log_of was q ≡ log_of now q
  logs_there q = by (find name_cmp q was.activities) refl
    where
      by : (o : Option Activity) → find name_cmp q was.activities ≡ o → log_of was q ≡ log_of now q
      by None is = sound.quiet q is ∙ sym (ap or_none (named_none was (λ y. y.log) x.names q is))
      by (Some a) is = sym (ap or_none (named_some was (λ y. y.log) x.names q a is (in_all_at q a is)))

  -- Homes

  pub frozen_home : (f : FutureShape) (m : Name) → In (f, m) shape.homes → IsHome was f m
  frozen_home f m i = home_received was sound.ordered.received (f, m) (in_ordered future_cmp future_total future_same (f, m) (homes_in was) i)

  pub home_frozen : (f : FutureShape) (m : Name) → IsHome was f m → In (f, m) shape.homes
  home_frozen f m h = in_found future_cmp future_total future_same f m shape.homes (homes_found f (homes_in was) ∙ holders was sound f m h)

  home_back : (f : FutureShape) (m : Name) → IsHome now f m → IsHome was f m
  home_back f m h = by (find name_cmp m was.activities) refl
    where
      by : (o : Option Activity) → find name_cmp m was.activities ≡ o → IsHome was f m
      by None is = no_some (sym (ap (λ l. slice_get l h.0) (received_none m is)) ∙ h.2)
      by (Some a) is = ⊎_elim
          (λ i.
          let y = mapped_in spent h.1 (answered shape (freeze was m a)) i in
          let z = mapped_in (λ g. g.0) y.0 _ y.1 in
          let w = filtered_in (λ g. same_name g.1 m && not (has_future g.0 (queue_of was m))) z.0 shape.homes z.1 in
          let same : z.0.0 ≡ f = sym z.2 ∙ ap (λ r. r.future) (sym y.2) ∙ h.3 in
          let at : z.0.1 ≡ m = names_tied z.0.1 m (both_true (same_name z.0.1 m) _ w.1) in
          frozen_home f m (subst (λ g. In g shape.homes) (λ j. (same j, at j)) w.0))
          (λ i. let k = number_of_item (requests_of was m) h.1 (waiting_in _ 0 (requests_of was m) h.1 i) in (k.0, h.1, k.1, h.3))
          (in_either h.1 (map spent (answered shape (freeze was m a))) (queue_of was m)
          (numbered_in _ h.0 h.1 (ap (λ l. slice_get l h.0) (sym (received_at m a is)) ∙ h.2)))

  pub home_on : (f : FutureShape) (m : Name) → IsHome was f m → IsHome now f m
  home_on f m h = by_there (find name_cmp m was.activities) refl
    where
      standing : (a : Activity) → find name_cmp m was.activities ≡ Some a → (r : RequestShape) → In r (received_by shape (freeze was m a)) → r.future ≡ f → IsHome now f m
      standing a is r i e = let k = number_of_item (requests_of now m) r (subst (In r) (sym (received_at m a is)) i) in (k.0, r, k.1, e)

      by_pending : (a : Activity) → find name_cmp m was.activities ≡ Some a → (b : Bool) → has_future f (queue_of was m) ≡ b → IsHome now f m
      by_pending a is true e =
          let r = future_there f (queue_of was m) e in
          standing a is r.0 (in_back r.0 (map spent (answered shape (freeze was m a))) (queue_of was m) r.1) r.2
      by_pending a is false e =
          let kept : (same_name m m && not (has_future f (queue_of was m))) ≡ true = (λ i. name_itself m i && not (e i)) in
          let i = in_filtered (λ g. same_name g.1 m && not (has_future g.0 (queue_of was m))) (f, m) shape.homes (home_frozen f m h) kept in
          standing a is (spent f) (in_front (spent f) (map spent (answered shape (freeze was m a))) (queue_of was m) (in_mapped spent f _ (in_mapped (λ g. g.0) (f, m) _ i))) refl

      by_there : (o : Option Activity) → find name_cmp m was.activities ≡ o → IsHome now f m
      by_there None is = none_true (sym (ap is_some is) ∙ (sound.requests m h.0 h.1 h.2).received)
      by_there (Some a) is = by_pending a is (has_future f (queue_of was m)) refl

  pub received_sorted : T (is_sorted name_cmp now.received)
  received_sorted = ordered_is name_cmp name_total name_same (map (λ y. (y.name, received_by shape y)) shape.activities)

  pub activities_sorted : T (is_sorted name_cmp now.activities)
  activities_sorted = ordered_is name_cmp name_total name_same (map (λ y. (y.name, thawed_activity shape y)) shape.activities)

  homes_back : (f : FutureShape) (m : Name) → home_of f (homes_in now) ≡ Some m → home_of f (homes_in was) ≡ Some m
  homes_back f m h = holders was sound f m (home_back f m (home_received now received_sorted (f, m) (home_in f m (homes_in now) h)))

  homes_there : (f : FutureShape) → home_of f (homes_in was) ≡ home_of f (homes_in now)
  homes_there f = some_same _ _ forth (homes_back f)
    where
      forth : (m : Name) → home_of f (homes_in was) ≡ Some m → home_of f (homes_in now) ≡ Some m
      forth m h =
          let on = home_on f m ((first_holders_are was sound).homes f m h) in
          let there : In (f, m) (homes_in now) = subst (λ g. In (g, m) (homes_in now)) on.3 (received_home now m on.0 on.1 on.2) in
          let y = in_home f m (homes_in now) there in
          y.1 ∙ sym (homes_back f y.0 y.1) ∙ h

  pub thawed_same : SamePending was now
  thawed_same = record {
    activities = same_entries name_cmp name_total name_same (map bare_entry was.activities) (map bare_entry now.activities)
        (sorted_mapped (λ y. bare y.1) was.activities sound.ordered.activities) (sorted_mapped (λ y. bare y.1) now.activities activities_sorted)
        (λ q. found_bare q was.activities ∙ bare_there q ∙ sym (found_bare q now.activities));
    pending = pending_there;
    logs = logs_there;
    futures = refl;
    homes = homes_there;
  }

pub frozen_is_same : FrozenIsSame
frozen_is_same x first = thawed_same x first

-- What differs in what was served alone freezes to the same

abbrev frozen_by : Configuration → Name → Option Activity → List FrozenActivity
frozen_by c n o = elim o [ None ↦ [] | Some a ↦ freeze c n a ∷ [] ]

pub same_freezes_same : SameFreezesSame
same_freezes_same names c d s = (λ i. record { homes = homes i; filled = s.futures i; activities = flat_map (frozen i) names })
  where
    homes : in_order future_cmp (homes_in c) ≡ in_order future_cmp (homes_in d)
    homes = same_entries future_cmp future_total future_same _ _ (ordered_is future_cmp future_total future_same (homes_in c)) (ordered_is future_cmp future_total future_same (homes_in d))
        (λ f. homes_found f (homes_in c) ∙ s.homes f ∙ sym (homes_found f (homes_in d)))

    by : (n : Name) (o p : Option Activity) → bare_of o ≡ bare_of p → frozen_by c n o ≡ frozen_by d n p
    by n None None h = refl
    by n None (Some b) h = no_some h
    by n (Some a) None h = no_some (sym h)
    by n (Some a) (Some b) h = (λ i. record { name = n; activity = some_is h i; log = s.logs n i; queue = s.pending n i } ∷ [])

    frozen : frozen_at c ≡ frozen_at d
    frozen = λ i n. by n (find name_cmp n c.activities) (find name_cmp n d.activities) (bare_found c d s n) i
