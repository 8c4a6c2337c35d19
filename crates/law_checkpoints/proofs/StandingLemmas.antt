-- One list tells how often a future stands.
use Rattle.std.specs.Prelude.{◌≡◌, ◌≢◌, ◌+◌, ◌++◌, Bool, true, false, cond, T, List, [], ◌∷◌, Option, Some, None, is_some, map}
use Rattle.std.proofs.Common.{refl, sym, ap, subst, ◌∙◌, arith}
use Rattle.std.specs.List.{flat_map}
use Rattle.std.specs.FinMap.{find, is_sorted}
use Rattle.std.specs.FinMap.Entries.{below_all}
use Rattle.std.specs.declared.cmp.Ordering.{Ordering}
use Rattle.std.specs.declared.cmp.Ordering.TheVariants.{Less, Equal, Greater}
use Rattle.std.specs.Ordering.{is_eq, is_lt}
use Rattle.asp_model.specs.Names.{Name, FutureShape, future_cmp, same_name}
use Rattle.asp_model.specs.Parcel.{ParcelShape}
use Rattle.asp_model.specs.Configuration.{RequestShape, ServiceShape}
use Rattle.law_chases.proofs.FutureLemmas.{no_some, some_is, true_false, future_same}
use Rattle.law_steps.specs.Kept.{mark, one_where, tally, tally_all}
use Rattle.law_steps.specs.Linked.{Each}
use Rattle.law_steps.proofs.EntryLemmas.{first_of_both, second_of_both}
use Rattle.law_steps.proofs.NameLemmas.{names_tied, name_itself}
use Rattle.law_steps.proofs.SoundLemmas.{mark_other}
use Rattle.law_frozen.specs.Frozen.{FrozenActivity, FrozenShape}
use Rattle.law_checkpoints.specs.Lookups.{activity_of, number_in, HasHome, times_pending, times_at}
use Rattle.law_checkpoints.specs.Sound.{StandOnce}
use Rattle.law_checkpoints.specs.Standing.{future_in, standing_at, times, TimesAreOfList}

times_both : (g : FutureShape) (xs ys : List FutureShape) → times g (xs ++ ys) ≡ times g xs + times g ys
times_both g [] ys = omega arith
times_both g (x ∷ xs) ys = omega (arith, times_both g xs ys)

-- Of one activity

of_requests : (g : FutureShape) (rs : List RequestShape) → times g (map (λ r. r.future) rs) ≡ times_pending g rs
of_requests g [] = refl
of_requests g (r ∷ rs) = ap (λ k. mark g r.future + k) (of_requests g rs)

of_option : (g : FutureShape) (o : Option FutureShape) → times g (future_in o) ≡ tally (mark g) o
of_option g None = refl
of_option g (Some k) = omega arith

of_services : (g : FutureShape) (vs : List ServiceShape) → times g (flat_map (λ v. future_in v.future) vs) ≡ tally_all (mark g) vs
of_services g [] = refl
of_services g (v ∷ vs) = omega (arith, times_both g (future_in v.future) (flat_map (λ u. future_in u.future) vs), of_option g v.future, of_services g vs)

of_activity : (g : FutureShape) (x : FrozenActivity) → times g (standing_at x) ≡ times_at g x
of_activity g x =
    let services = flat_map (λ v. future_in v.future) x.activity.services in
    omega (
      arith,
      times_both g (map (λ r. r.future) x.queue) (future_in x.activity.present ++ services),
      times_both g (future_in x.activity.present) services,
      of_requests g x.queue,
      of_option g x.activity.present,
      of_services g x.activity.services,
    )

-- Of all activities

module _ (f : FrozenShape) (g : FutureShape) (n : Name) (home : HasHome f g n) where
  none_elsewhere : (m : Name) → m ≢ n → (ks : List FutureShape) → Each (λ k. HasHome f k m) ks → times g ks ≡ 0
  none_elsewhere m apart [] h = refl
  none_elsewhere m apart (k ∷ ks) h =
      let here : mark g k ≡ 0 = mark_other g k (λ p. apart (some_is (sym h.0 ∙ ap (λ z. find future_cmp z f.homes) (sym p) ∙ home))) in
      let rest : times g ks ≡ 0 = none_elsewhere m apart ks h.1 in
      omega (arith, here, rest)

  none_behind : (xs : List FrozenActivity) → activity_of n xs ≡ None → Each (λ x. Each (λ k. HasHome f k x.name) (standing_at x)) xs → times g (flat_map standing_at xs) ≡ 0
  none_behind [] none h = refl
  none_behind (x ∷ xs) none h = by (same_name n x.name) refl none (λ e. none_behind xs e h.1)
    where
      by : (b : Bool) → same_name n x.name ≡ b → ◌≡◌ {A = Option FrozenActivity} (elim b [ true ↦ Some x | false ↦ activity_of n xs ]) None → (activity_of n xs ≡ None → times g (flat_map standing_at xs) ≡ 0) → times g (flat_map standing_at (x ∷ xs)) ≡ 0
      by true t e rest = no_some (sym e)
      by false t e rest =
          let here : times g (standing_at x) ≡ 0 = none_elsewhere x.name (λ p. true_false (same_name n x.name) (ap (same_name n) p ∙ name_itself n) t) (standing_at x) h.0 in
          let behind : times g (flat_map standing_at xs) ≡ 0 = rest e in
          omega (arith, times_both g (standing_at x) (flat_map standing_at xs), here, behind)

  of_activities : (xs : List FrozenActivity) → StandOnce xs → Each (λ x. Each (λ k. HasHome f k x.name) (standing_at x)) xs → times g (flat_map standing_at xs) ≡ number_in (times_at g) (activity_of n xs)
  of_activities [] once h = refl
  of_activities (x ∷ xs) once h = by (same_name n x.name) refl (of_activities xs once.1 h.1)
    where
      by : (b : Bool) → same_name n x.name ≡ b → times g (flat_map standing_at xs) ≡ number_in (times_at g) (activity_of n xs)
          → times g (flat_map standing_at (x ∷ xs)) ≡ number_in (times_at g) (elim b [ true ↦ Some x | false ↦ activity_of n xs ])
      by true t rest =
          let behind : times g (flat_map standing_at xs) ≡ 0 = none_behind xs (ap (λ m. activity_of m xs) (names_tied n x.name t) ∙ once.0) h.1 in
          omega (arith, times_both g (standing_at x) (flat_map standing_at xs), of_activity g x, behind)
      by false t rest =
          let here : times g (standing_at x) ≡ 0 = none_elsewhere x.name (λ p. true_false (same_name n x.name) (ap (same_name n) p ∙ name_itself n) t) (standing_at x) h.0 in
          omega (arith, times_both g (standing_at x) (flat_map standing_at xs), here, rest)

-- Of values

none_below : (g : FutureShape) (vs : List (FutureShape × ParcelShape)) → T (below_all future_cmp g vs) → times g (map (λ v. v.0) vs) ≡ 0
none_below g [] h = refl
none_below g (e ∷ es) h =
    let here : mark g e.0 ≡ 0 = by (future_cmp g e.0) (first_of_both (is_lt (future_cmp g e.0)) (below_all future_cmp g es) h) in
    let rest : times g (map (λ v. v.0) es) ≡ 0 = none_below g es (second_of_both (is_lt (future_cmp g e.0)) (below_all future_cmp g es) h) in
    omega (arith, here, rest)
  where
    by : (r : Ordering) → T (is_lt r) → one_where (is_eq r) ≡ 0
    by Less h = refl
    by Equal h = absurd h
    by Greater h = refl

of_values : (g : FutureShape) (vs : List (FutureShape × ParcelShape)) → T (is_sorted future_cmp vs) → times g (map (λ v. v.0) vs) ≡ one_where (is_some (find future_cmp g vs))
of_values g [] h = refl
of_values g (e ∷ es) h = by (future_cmp g e.0) refl (of_values g es (second_of_both (below_all future_cmp e.0 es) (is_sorted future_cmp es) h))
  where
    none : g ≡ e.0 → times g (map (λ v. v.0) es) ≡ 0
    none p = subst (λ k. times k (map (λ v. v.0) es) ≡ 0) (sym p) (none_below e.0 es (first_of_both (below_all future_cmp e.0 es) (is_sorted future_cmp es) h))

    by : (r : Ordering) → future_cmp g e.0 ≡ r → times g (map (λ v. v.0) es) ≡ one_where (is_some (find future_cmp g es))
        → one_where (is_eq r) + times g (map (λ v. v.0) es) ≡ one_where (is_some (cond (is_eq r) (Some e.1) (find future_cmp g es)))
    by Less p rest = omega (arith, rest)
    by Equal p rest = let zero : times g (map (λ v. v.0) es) ≡ 0 = none (future_same g e.0 p) in omega (arith, zero)
    by Greater p rest = omega (arith, rest)

pub times_are_of_list : TimesAreOfList
times_are_of_list f g n once ascend at home =
    let both = times_both g (flat_map standing_at f.activities) (map (λ v. v.0) f.filled) in
    let activities = of_activities f g n home f.activities once at in
    let values = of_values g f.filled ascend in
    omega (arith, both, activities, values)
