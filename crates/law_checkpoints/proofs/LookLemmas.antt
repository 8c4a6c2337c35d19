-- What is looked up in a checkpoint is found in what is thawed.
use Rattle.std.specs.Prelude.{◌≡◌, ◌+◌, ◌≤◌, ◌||◌, Bool, true, false, cond, List, [], ◌∷◌, Option, Some, None, is_some}
use Rattle.std.proofs.Common.{refl, sym, ap, subst, ◌∙◌, arith, inl, inr, ⊎_elim}
use Rattle.std.specs.declared.cmp.Ordering.{Ordering}
use Rattle.std.specs.declared.cmp.Ordering.TheVariants.{Less, Equal, Greater}
use Rattle.std.specs.Ordering.{is_eq}
use Rattle.std.specs.FinMap.{find}
use Rattle.std.specs.FinMap.Entries.{find-put}
use Rattle.asp_model.specs.Names.{Name, FutureShape, name_cmp, future_cmp, same_name, same_future}
use Rattle.asp_model.specs.Store.{CellShape, Number, Object, Reference, Future, Group}
use Rattle.asp_model.specs.Contraction.{is_future}
use Rattle.asp_model.specs.Configuration.{RequestShape}
use Rattle.law_chases.proofs.FutureLemmas.{no_some, some_is, none_true, future_same}
use Rattle.law_steps.specs.Kept.{mark, one_where}
use Rattle.law_steps.specs.Linked.{Each}
use Rattle.law_steps.proofs.EntryLemmas.{In}
use Rattle.law_steps.proofs.NameLemmas.{name_total, name_itself, names_tied}
use Rattle.law_frozen.specs.Frozen.{FrozenActivity, each_named, has_future}
use Rattle.law_frozen.proofs.CountLemmas.{count}
use Rattle.law_checkpoints.specs.Lookups.{activity_of, IsNamed, times_pending}
use Rattle.law_checkpoints.specs.Sound.{StandOnce, IsObject}

pub each_in : {X : Type 0} (P : X → Type 0) (xs : List X) (x : X) → Each P xs → In x xs → P x
each_in P [] x h i = absurd i
each_in P (y ∷ xs) x h (inl p) = subst P (sym p) h.0
each_in P (y ∷ xs) x h (inr i) = each_in P xs x h.1 i

pub in_each : {X : Type 0} (P : X → Type 0) (xs : List X) → ((x : X) → In x xs → P x) → Each P xs
in_each P [] h = tt
in_each P (x ∷ xs) h = (h x (inl refl), in_each P xs (λ y i. h y (inr i)))

-- Activities

abbrev pub with_each : {X : Type 0} → (FrozenActivity → X) → Option FrozenActivity → Option X
with_each g None = None
with_each g (Some x) = Some (g x)

-- something of each activity is found by its name
pub found_each : {X : Type 0} (g : FrozenActivity → X) (n : Name) (xs : List FrozenActivity) → find name_cmp n (each_named g xs) ≡ with_each g (activity_of n xs)
found_each g n [] = refl
found_each {X} g n (x ∷ xs) = find-put name_cmp name_total n x.name (g x) (each_named g xs) ∙ by (same_name n x.name) (found_each g n xs)
  where
    by : (b : Bool) → find name_cmp n (each_named g xs) ≡ with_each g (activity_of n xs) → cond b (Some (g x)) (find name_cmp n (each_named g xs)) ≡ with_each g (elim b [ true ↦ Some x | false ↦ activity_of n xs ])
    by true h = refl
    by false h = h

pub activity_there : (n : Name) (xs : List FrozenActivity) (x : FrozenActivity) → activity_of n xs ≡ Some x → In x xs × (x.name ≡ n)
activity_there n [] x h = no_some h
activity_there n (y ∷ xs) x h = by (same_name n y.name) refl (activity_there n xs x) h
  where
    by : (b : Bool) → same_name n y.name ≡ b → (activity_of n xs ≡ Some x → In x xs × (x.name ≡ n)) → elim b [ true ↦ Some y | false ↦ activity_of n xs ] ≡ Some x → In x (y ∷ xs) × (x.name ≡ n)
    by true e rest h = (inl (sym (some_is h)), ap (λ z. z.name) (sym (some_is h)) ∙ sym (names_tied n y.name e))
    by false e rest h = let r = rest h in (inr r.0, r.1)

named_there : (n : Name) (xs : List FrozenActivity) (x : FrozenActivity) → In x xs → x.name ≡ n → IsNamed xs n
named_there n [] x i e = absurd i
named_there n (y ∷ xs) x i e = by (same_name n y.name) refl i (named_there n xs x)
  where
    by : (b : Bool) → same_name n y.name ≡ b → In x (y ∷ xs) → (In x xs → x.name ≡ n → IsNamed xs n) → is_some (elim b [ true ↦ Some y | false ↦ activity_of n xs ]) ≡ true
    by true t i rest = refl
    by false t i rest = ⊎_elim (λ p. none_true (sym t ∙ ap (same_name n) (sym (ap (λ z. z.name) p) ∙ e) ∙ name_itself n)) (λ j. rest j e) i

-- where no name stands twice, each is found by its own
pub there_activity : (xs : List FrozenActivity) (x : FrozenActivity) → StandOnce xs → In x xs → activity_of x.name xs ≡ Some x
there_activity [] x h i = absurd i
there_activity (y ∷ xs) x h i = by (same_name x.name y.name) refl i (there_activity xs x h.1)
  where
    by : (b : Bool) → same_name x.name y.name ≡ b → In x (y ∷ xs) → (In x xs → activity_of x.name xs ≡ Some x) → elim b [ true ↦ Some y | false ↦ activity_of x.name xs ] ≡ Some x
    by true t i rest = ⊎_elim
        (λ p. ap Some (sym p))
        (λ j. none_true (sym (ap is_some (ap (λ n. activity_of n xs) (names_tied x.name y.name t) ∙ h.0)) ∙ named_there x.name xs x j refl))
        i
    by false t i rest = ⊎_elim (λ p. none_true (sym t ∙ ap (λ z. same_name x.name z.name) (sym p) ∙ name_itself x.name)) rest i

-- Futures

pub home_there : {X : Type 0} (g : FutureShape) (m : X) (es : List (FutureShape × X)) → find future_cmp g es ≡ Some m → In (g, m) es
home_there g m [] h = no_some h
home_there g m (e ∷ es) h = by (future_cmp g e.0) refl (home_there g m es) h
  where
    by : (r : Ordering) → future_cmp g e.0 ≡ r → (find future_cmp g es ≡ Some m → In (g, m) es) → cond (is_eq r) (Some e.1) (find future_cmp g es) ≡ Some m → In (g, m) (e ∷ es)
    by Less p rest h = inr (rest h)
    by Equal p rest h = inl (λ j. (future_same g e.0 p j, sym (some_is h) j))
    by Greater p rest h = inr (rest h)

pub times_are : (g : FutureShape) (rs : List RequestShape) → times_pending g rs ≡ count g rs
times_are g [] = refl
times_are g (r ∷ rs) = ap (λ k. mark g r.future + k) (times_are g rs)

pub count_some : (g : FutureShape) (rs : List RequestShape) → has_future g rs ≡ true → 1 ≤ count g rs
count_some g [] h = none_true h
count_some g (r ∷ rs) h = by (same_future g r.future) (count_some g rs) h
  where
    by : (b : Bool) → (has_future g rs ≡ true → 1 ≤ count g rs) → (b || has_future g rs) ≡ true → 1 ≤ one_where b + count g rs
    by true rest h = omega arith
    by false rest h = let le : 1 ≤ count g rs = rest h in omega (arith, le)

-- Cells

pub no_future : (c : CellShape) → IsObject c → is_future c ≡ false
no_future (Object fields methods) h = refl
no_future (Number n) h = absurd h
no_future (Reference n) h = absurd h
no_future (Future g) h = absurd h
no_future (Group ns) h = absurd h
