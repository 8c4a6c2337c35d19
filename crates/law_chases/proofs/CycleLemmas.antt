-- Walks that never end: their cycles have the least name among all filled futures that come into them.
use Rattle.std.specs.Prelude.{◌≡◌, ◌≢◌, ℕ, zero, suc, ◌+◌, ◌*◌, ◌-◌, ◌<◌, ◌≤◌, Bool, true, false, cond, T, List, [], ◌∷◌, Option, Some, None, length, is_some, map, filter}
use Rattle.std.proofs.Common.{refl, sym, ap, subst, ◌∙◌, arith, inl, inr, ⊎_elim, ◌⊎◌}
use Rattle.std.proofs.lemmas.Bool.{cases_lt}
use Rattle.std.specs.declared.cmp.Ordering.{Ordering}
use Rattle.std.specs.declared.cmp.Ordering.TheVariants.{Less, Equal, Greater}
use Rattle.std.specs.Ordering.{is_lt, is_eq, eq_by_cmp, ordering_reverse}
use Rattle.std.specs.Cmp.{tied_itself}
use Rattle.std.specs.FinMap.{find, is_sorted}
use Rattle.std.specs.FinMap.Entries.{is_sorted-where_key}
use Rattle.asp_model.specs.Names.{FutureShape, future_cmp, future_lt, same_future}
use Rattle.asp_model.specs.Chase.{Values, Lead, Ends, Goes, Misses, lead, Chase, Value, Unfilled, Cycle, walk_end, walked_to, comes_by, lesser, least_of, cycle_of, chase}
use Rattle.law_chases.proofs.FutureLemmas.{no_some, some_is, none_true, future_total, future_same, future_case, future_itself, futures_tied}
use Rattle.law_chases.specs.Walks.{IsFilled}
use Rattle.law_chases.proofs.ChaseLemmas.{walk_by, walk_filled, chase_by}
use Rattle.law_chases.proofs.EndLemmas.{others, lead_other, lead_gone, fewer, went_filled, never_ends, ends_in_all}

abbrev pub walk_on : Lead → FutureShape → (FutureShape → FutureShape) → FutureShape
walk_on l f next = elim l [ Ends p ↦ f | Goes g ↦ next g | Misses ↦ f ]

abbrev pub comes_on : Lead → (FutureShape → Bool) → Bool
comes_on l next = elim l [ Ends p ↦ false | Goes g ↦ next g | Misses ↦ false ]

abbrev pub or_on : Bool → Bool → Bool
or_on b c = elim b [ true ↦ true | false ↦ c ]

-- a walk never ends
abbrev pub HasNoEnd : Values → FutureShape → Type 0
HasNoEnd vs f = (n : ℕ) → walk_end n vs f ≡ None

-- two walks come to one future
pub record Meet (vs : Values) (f g : FutureShape) : Type 0 where
  pub steps : ℕ
  pub others : ℕ
  pub same : walked_to steps vs f ≡ walked_to others vs g

module _ (vs : Values) where
  -- where a walk does not go on, it stays
  stays_on : (l : Lead) (f : FutureShape) → ((g : FutureShape) → l ≢ Goes g) → (next : FutureShape → FutureShape) → walk_on l f next ≡ f
  stays_on (Ends p) f h next = refl
  stays_on (Goes g) f h next = absurd (h g refl)
  stays_on Misses f h next = refl

  pub goes_to : (n : ℕ) (f g : FutureShape) → lead vs f ≡ Goes g → walked_to (suc n) vs f ≡ walked_to n vs g
  goes_to n f g e = ap (λ l. walk_on l f (walked_to n vs)) e

  pub stays_to : (n : ℕ) (f : FutureShape) → ((g : FutureShape) → lead vs f ≢ Goes g) → walked_to n vs f ≡ f
  stays_to zero f h = refl
  stays_to (suc n) f h = stays_on (lead vs f) f h (walked_to n vs)

  -- to go on, or not
  pub lead_case : (f : FutureShape) → ((g : FutureShape) × (lead vs f ≡ Goes g)) ⊎ ((g : FutureShape) → lead vs f ≢ Goes g)
  lead_case f = by (lead vs f) refl
    where
      is_going : Lead → Bool
      is_going (Goes g) = true
      is_going l = false

      by : (l : Lead) → lead vs f ≡ l → ((g : FutureShape) × (lead vs f ≡ Goes g)) ⊎ ((g : FutureShape) → lead vs f ≢ Goes g)
      by (Ends p) e = inr (λ g d. none_true (ap is_going (sym e ∙ d)))
      by (Goes g) e = inl (g, e)
      by Misses e = inr (λ g d. none_true (ap is_going (sym e ∙ d)))

  pub walked_more : (i j : ℕ) (f : FutureShape) → walked_to (i + j) vs f ≡ walked_to j vs (walked_to i vs f)
  walked_more zero j f = let e : 0 + j ≡ j = omega arith in ap (λ n. walked_to n vs f) e
  walked_more (suc i) j f =
      let e : suc i + j ≡ suc (i + j) = omega arith in
      ap (λ n. walked_to n vs f) e ∙ ⊎_elim
      (λ x. goes_to (i + j) f x.0 x.1 ∙ walked_more i j x.0 ∙ sym (ap (walked_to j vs) (goes_to i f x.0 x.1)))
      (λ h. stays_to (suc (i + j)) f h ∙ sym (stays_to j f h) ∙ sym (ap (walked_to j vs) (stays_to (suc i) f h)))
      (lead_case f)

  -- Walks that never end

  pub never_next : (f : FutureShape) → HasNoEnd vs f → (g : FutureShape) × (lead vs f ≡ Goes g) × HasNoEnd vs g
  never_next f h = by (lead vs f) refl
    where
      by : (l : Lead) → lead vs f ≡ l → (g : FutureShape) × (lead vs f ≡ Goes g) × HasNoEnd vs g
      by (Ends p) e = no_some (sym (h 1) ∙ ap (λ l. walk_by l (walk_end 0 vs) f) e)
      by (Goes g) e = (g, e, λ n. sym (ap (λ l. walk_by l (walk_end n vs) f) e) ∙ h (suc n))
      by Misses e = no_some (sym (h 1) ∙ ap (λ l. walk_by l (walk_end 0 vs) f) e)

  pub never_walked : (n : ℕ) (f : FutureShape) → HasNoEnd vs f → HasNoEnd vs (walked_to n vs f)
  never_walked zero f h = h
  never_walked (suc n) f h = let x = never_next f h in subst (HasNoEnd vs) (sym (goes_to n f x.0 x.1)) (never_walked n x.0 x.2)

  -- Tests

  comes_more : (n m : ℕ) (to f : FutureShape) → n ≤ m → comes_by n vs to f ≡ true → comes_by m vs to f ≡ true
  comes_more zero zero to f le h = h
  comes_more zero (suc m) to f le h = ap (λ b. or_on b (comes_on (lead vs f) (comes_by m vs to))) h
  comes_more (suc n) zero to f le h = absurd (omega (arith, le))
  comes_more (suc n) (suc m) to f le h = elim (same_future f to) as (λ b. or_on b (comes_on (lead vs f) (comes_by n vs to)) ≡ true → or_on b (comes_on (lead vs f) (comes_by m vs to)) ≡ true) [
    | true ↦ λ h. refl
    | false ↦ λ h. elim (lead vs f) as (λ l. comes_on l (comes_by n vs to) ≡ true → comes_on l (comes_by m vs to) ≡ true) [
      | Ends p ↦ λ h. h
      | Goes g ↦ λ h. comes_more n m to g (omega (arith, le)) h
      | Misses ↦ λ h. h
    ] h
  ] h

  comes_at_once : (n : ℕ) (to f : FutureShape) → f ≡ to → comes_by n vs to f ≡ true
  comes_at_once n to f e = comes_more 0 n to f (omega arith) (ap (λ x. same_future x to) e ∙ future_itself to)

  comes_later : (n : ℕ) (to f g : FutureShape) → lead vs f ≡ Goes g → comes_by n vs to g ≡ true → comes_by (suc n) vs to f ≡ true
  comes_later n to f g e h = elim (same_future f to) as (λ b. or_on b (comes_on (lead vs f) (comes_by n vs to)) ≡ true) [ true ↦ refl | false ↦ ap (λ l. comes_on l (comes_by n vs to)) e ∙ h ]

  -- a test that succeeds tells of a walk
  pub comes_walks : (n : ℕ) (to f : FutureShape) → comes_by n vs to f ≡ true → (i : ℕ) × (walked_to i vs f ≡ to)
  comes_walks zero to f h = (0, futures_tied f to h)
  comes_walks (suc n) to f h = elim (same_future f to) as (λ b. same_future f to ≡ b → or_on b (comes_on (lead vs f) (comes_by n vs to)) ≡ true → (i : ℕ) × (walked_to i vs f ≡ to)) [
    | true ↦ λ e h. (0, futures_tied f to e)
    | false ↦ λ e h. elim (lead vs f) as (λ l. lead vs f ≡ l → comes_on l (comes_by n vs to) ≡ true → (i : ℕ) × (walked_to i vs f ≡ to)) [
      | Ends p ↦ λ e h. none_true h
      | Goes g ↦ λ e h. let x = comes_walks n to g h in (suc x.0, goes_to x.0 f g e ∙ x.1)
      | Misses ↦ λ e h. none_true h
    ] refl h
  ] refl h

not_going : (vs : Values) (f g h : FutureShape) → lead (others f vs) g ≡ Goes h → g ≢ f
not_going vs f g h e d = none_true (ap is_going (sym (lead_gone f vs) ∙ sym (ap (lead (others f vs)) d) ∙ e))
  where
    is_going : Lead → Bool
    is_going (Goes g) = true
    is_going l = false

module _ (k : FutureShape) (vs : Values) where
  abbrev ws : Values
  ws = others k vs

  -- a test among the others that succeeds does so among all
  comes_in_all : (n : ℕ) (to f : FutureShape) → comes_by n ws to f ≡ true → comes_by n vs to f ≡ true
  comes_in_all zero to f h = h
  comes_in_all (suc n) to f h = elim (same_future f to) as (λ b. or_on b (comes_on (lead ws f) (comes_by n ws to)) ≡ true → or_on b (comes_on (lead vs f) (comes_by n vs to)) ≡ true) [
    | true ↦ λ h. refl
    | false ↦ λ h. elim (lead ws f) as (λ l. lead ws f ≡ l → comes_on l (comes_by n ws to) ≡ true → comes_on (lead vs f) (comes_by n vs to) ≡ true) [
      | Ends p ↦ λ e h. none_true h
      | Goes g ↦ λ e h. ap (λ l. comes_on l (comes_by n vs to)) (sym (lead_other k f vs (not_going vs k f g e)) ∙ e) ∙ comes_in_all n to g h
      | Misses ↦ λ e h. none_true h
    ] refl h
  ] h

  -- a walk to z goes among the others, or comes by k, and goes on from there in no more steps
  among_or_by : (i : ℕ) (f z : FutureShape) → walked_to i vs f ≡ z → (walked_to i ws f ≡ z) ⊎ ((j : ℕ) × (j ≤ i) × (walked_to j vs k ≡ z))
  among_or_by zero f z e = inl e
  among_or_by (suc i) f z e = ⊎_elim
      (λ same. inr (suc i, omega arith, ap (walked_to (suc i) vs) (sym same) ∙ e))
      (λ apart. ⊎_elim
      (λ x. ⊎_elim
      (λ a. inl (goes_to ws i f x.0 (lead_other k f vs apart ∙ x.1) ∙ a))
      (λ b. inr (b.0, omega (arith, b.1), b.2))
      (among_or_by i x.0 z (sym (goes_to vs i f x.0 x.1) ∙ e)))
      (λ h. inl (stays_to ws (suc i) f (λ g d. h g (sym (lead_other k f vs apart) ∙ d)) ∙ sym (stays_to vs (suc i) f h) ∙ e))
      (lead_case vs f))
      (future_case f k)

  -- a walk among the others that never ends is one of all
  walked_among : (i : ℕ) (f : FutureShape) → HasNoEnd ws f → walked_to i ws f ≡ walked_to i vs f
  walked_among zero f h = refl
  walked_among (suc i) f h =
      let x = never_next ws f h in
      goes_to ws i f x.0 x.1 ∙ walked_among i x.0 x.2 ∙ sym (goes_to vs i f x.0 (sym (lead_other k f vs (not_going vs k f x.0 x.1)) ∙ x.1))

  -- a walk that ends at k among the others comes to k
  ends_at : (n : ℕ) (f : FutureShape) → walk_end n ws f ≡ Some (Unfilled k) → (j : ℕ) × (walked_to j vs f ≡ k)
  ends_at zero f e = no_some e
  ends_at (suc n) f e = ⊎_elim
      (λ same. (0, same))
      (λ apart. elim (lead ws f) as (λ l. lead ws f ≡ l → walk_by l (walk_end n ws) f ≡ Some (Unfilled k) → (j : ℕ) × (walked_to j vs f ≡ k)) [
        | Ends p ↦ λ d e. no_some (ap is_unfilled (some_is e))
        | Goes g ↦ λ d e. let x = ends_at n g e in (suc x.0, goes_to vs x.0 f g (sym (lead_other k f vs apart) ∙ d) ∙ x.1)
        | Misses ↦ λ d e. absurd (apart (unfilled_is (some_is e)))
      ] refl e)
      (future_case f k)
    where
      is_unfilled : Chase → Option FutureShape
      is_unfilled (Unfilled f) = Some f
      is_unfilled c = None

      unfilled_is : {f g : FutureShape} → Unfilled f ≡ Unfilled g → f ≡ g
      unfilled_is e = some_is (ap is_unfilled e)

-- A test looks far enough

abbrev LooksFar : ℕ → Type 0
LooksFar n = (vs : Values) → length vs ≤ n → T (is_sorted future_cmp vs) → (i : ℕ) (f z : FutureShape) → walked_to i vs f ≡ z → comes_by (length vs) vs z f ≡ true

-- by induction on the number of steps that may be left
looks_within : (n : ℕ) → ((vs : Values) → suc (length vs) ≤ n → T (is_sorted future_cmp vs) → (i : ℕ) (f z : FutureShape) → walked_to i vs f ≡ z → comes_by (length vs) vs z f ≡ true)
    → (vs : Values) → length vs ≤ n → T (is_sorted future_cmp vs) → (c i : ℕ) → i ≤ c → (f z : FutureShape) → walked_to i vs f ≡ z → comes_by (length vs) vs z f ≡ true
looks_within n fewer_ones vs le sorted c zero b f z e = comes_at_once vs (length vs) z f e
looks_within n fewer_ones vs le sorted zero (suc i) b f z e = absurd (omega (arith, b))
looks_within n fewer_ones vs le sorted (suc c) (suc i) b f z e = ⊎_elim
    (λ x.
    let few = fewer f vs sorted (went_filled vs f x.0 (find future_cmp f vs) x.1) in
    ⊎_elim
    (λ a.
    let soon = fewer_ones (others f vs) (omega (arith, few, le)) (is_sorted-where_key future_cmp (λ g. Rattle.std.specs.Prelude.not (same_future f g)) vs sorted) i x.0 z a in
    subst (λ m. comes_by m vs z f ≡ true) few (comes_later vs (length (others f vs)) z f x.0 x.1 (comes_in_all f vs (length (others f vs)) z x.0 soon)))
    (λ y. looks_within n fewer_ones vs le sorted c y.0 (omega (arith, y.1, b)) f z y.2)
    (among_or_by f vs i x.0 z (sym (goes_to vs i f x.0 x.1) ∙ e)))
    (λ h. comes_at_once vs (length vs) z f (sym (stays_to vs (suc i) f h) ∙ e))
    (lead_case vs f)

looks_far : (n : ℕ) → LooksFar n
looks_far zero vs le sorted i f z e = looks_within 0 (λ ws lt. absurd (omega (arith, lt))) vs le sorted i i (omega arith) f z e
looks_far (suc n) vs le sorted i f z e = looks_within (suc n) (λ ws lt. looks_far n ws (omega (arith, lt))) vs le sorted i i (omega arith) f z e

-- Cycles

-- within as many steps as futures are filled, a walk that never ends is at a future to which it comes back
abbrev ComesBack : Values → FutureShape → Type 0
ComesBack vs f = (m : ℕ) × (m ≤ length vs) × (c : ℕ) × (walked_to (suc c) vs (walked_to m vs f) ≡ walked_to m vs f)

abbrev unfilled_name : Chase → Option FutureShape
unfilled_name (Unfilled f) = Some f
unfilled_name c = None

module _ (vs : Values) (f g : FutureShape) (goes : lead vs f ≡ Goes g) (never : HasNoEnd vs g) where
  abbrev rest : Values
  rest = others f vs

  -- the walk among the others ends, so it comes to f
  back_at_once : (n : ℕ) (y : Chase) → walk_end n rest g ≡ Some y → ComesBack vs f
  back_at_once n (Unfilled k) e = ⊎_elim
      (λ same. let x = ends_at f vs n g (e ∙ ap (λ h. Some (Unfilled h)) same) in (0, omega arith, x.0, goes_to vs x.0 f g goes ∙ x.1))
      (λ apart. no_some (sym (never n) ∙ ends_in_all f vs n g (Unfilled k) (λ d. apart (some_is (ap unfilled_name d))) e))
      (future_case k f)
  back_at_once n (Value h p) e = no_some (sym (never n) ∙ ends_in_all f vs n g (Value h p) (λ d. no_some (ap unfilled_name d)) e)
  back_at_once n (Cycle h) e = no_some (sym (never n) ∙ ends_in_all f vs n g (Cycle h) (λ d. no_some (ap unfilled_name d)) e)

  back_later : suc (length rest) ≡ length vs → HasNoEnd rest g → ComesBack rest g → ComesBack vs f
  back_later few h x =
      let m = x.0 in
      let c = x.2 in
      let at : walked_to m rest g ≡ walked_to m vs g = walked_among f vs m g h in
      let to : walked_to (suc m) vs f ≡ walked_to m rest g = goes_to vs m f g goes ∙ sym at in
      (suc m, omega (arith, few, x.1), c, ap (walked_to (suc c) vs) to ∙ sym (walked_among f vs (suc c) (walked_to m rest g) (never_walked rest m g h)) ∙ x.3 ∙ sym to)

-- within as many steps as futures are filled, a walk that never ends is at a future to which it comes back
comes_back : (n : ℕ) (vs : Values) → length vs ≤ n → T (is_sorted future_cmp vs) → (f : FutureShape) → HasNoEnd vs f → ComesBack vs f
comes_back zero vs le sorted f h = let x = never_next vs f h in absurd (omega (arith, le, fewer f vs sorted (went_filled vs f x.0 (find future_cmp f vs) x.1)))
comes_back (suc n) vs le sorted f h =
    let x = never_next vs f h in
    let few = fewer f vs sorted (went_filled vs f x.0 (find future_cmp f vs) x.1) in
    let ordered = is_sorted-where_key future_cmp (λ g. Rattle.std.specs.Prelude.not (same_future f g)) vs sorted in
    by_end vs f x.0 x.1 x.2 few ordered (walk_end (suc (length (others f vs))) (others f vs) x.0) refl (λ k. comes_back n (others f vs) (omega (arith, few, le)) ordered x.0 k)
  where
    by_end : (vs : Values) (f g : FutureShape) → lead vs f ≡ Goes g → HasNoEnd vs g → suc (length (others f vs)) ≡ length vs → T (is_sorted future_cmp (others f vs)) → (o : Option Chase) → walk_end (suc (length (others f vs))) (others f vs) g ≡ o → (HasNoEnd (others f vs) g → ComesBack (others f vs) g) → ComesBack vs f
    by_end vs f g goes never few ordered (Some y) e to = back_at_once vs f g goes never (suc (length (others f vs))) y e
    by_end vs f g goes never few ordered None e to = let k = never_ends (others f vs) ordered g e in back_later vs f g goes never few k (to k)

-- from anywhere on a cycle a walk comes back to its first future
module _ (vs : Values) (z : FutureShape) (c : ℕ) (back : walked_to (suc c) vs z ≡ z) where
  returns : (n d : ℕ) → d ≤ n → (t : ℕ) × (walked_to t vs (walked_to d vs z) ≡ z)
  returns zero d le = (suc c, let e : d ≡ 0 = omega (arith, le) in ap (λ k. walked_to (suc c) vs (walked_to k vs z)) e ∙ back)
  returns (suc n) d le = ⊎_elim
      (λ lt. let e : d + (suc c - d) ≡ suc c = omega (arith, lt) in (suc c - d, sym (walked_more vs d (suc c - d) z) ∙ ap (λ k. walked_to k vs z) e ∙ back))
      (λ ge.
      let e : suc c + (d - suc c) ≡ d = omega (arith, ge) in
      let x = returns n (d - suc c) (omega (arith, ge, le)) in
      (x.0, ap (walked_to x.0 vs) (ap (λ k. walked_to k vs z) (sym e) ∙ walked_more vs (suc c) (d - suc c) z ∙ ap (walked_to (d - suc c) vs) back) ∙ x.1))
      (cases_lt d (suc c))

module _ (vs : Values) (sorted : T (is_sorted future_cmp vs)) (f : FutureShape) (never : HasNoEnd vs f) where
  abbrev z : FutureShape
  z = walked_to (length vs) vs f

  -- the future to which as many steps lead as futures are filled is in the cycle
  pub in_cycle : (c : ℕ) × (walked_to (suc c) vs z ≡ z)
  in_cycle =
      let x = comes_back (length vs) vs (omega arith) sorted f never in
      let m = x.0 in
      let w = walked_to m vs f in
      let rest = length vs - m in
      let e : m + rest ≡ length vs = omega (arith, x.1) in
      let at : z ≡ walked_to rest vs w = ap (λ k. walked_to k vs f) (sym e) ∙ walked_more vs m rest f in
      let swap : suc x.2 + rest ≡ rest + suc x.2 = omega arith in
      (x.2, ap (walked_to (suc x.2) vs) at ∙ sym (walked_more vs rest (suc x.2) w) ∙ ap (λ k. walked_to k vs w) (sym swap) ∙ walked_more vs (suc x.2) rest w ∙ ap (walked_to rest vs) x.3 ∙ sym at)

  -- from wherever the walk is, it comes there
  pub comes_there : (i : ℕ) → (t : ℕ) × (walked_to t vs (walked_to i vs f) ≡ z)
  comes_there i = ⊎_elim
      (λ lt. let e : i + (length vs - i) ≡ length vs = omega (arith, lt) in (length vs - i, sym (walked_more vs i (length vs - i) f) ∙ ap (λ k. walked_to k vs f) e))
      (λ ge.
      let e : length vs + (i - length vs) ≡ i = omega (arith, ge) in
      let x = returns vs z in_cycle.0 in_cycle.1 (i - length vs) (i - length vs) (omega arith) in
      (x.0, ap (walked_to x.0 vs) (ap (λ k. walked_to k vs f) (sym e) ∙ walked_more vs (length vs) (i - length vs) f) ∙ x.1))
      (cases_lt i (length vs))

  abbrev comes_in : FutureShape → Bool
  comes_in = comes_by (length vs + length vs) vs z

  -- whose walk meets this one passes the test
  meets_test : (g : FutureShape) → Meet vs f g → comes_in g ≡ true
  meets_test g m =
      let x = comes_there m.steps in
      let to : walked_to (m.others + x.0) vs g ≡ z = walked_more vs m.others x.0 g ∙ ap (walked_to x.0 vs) (sym m.same) ∙ x.1 in
      comes_more vs (length vs) (length vs + length vs) z g (omega arith) (looks_far (length vs) vs (omega arith) sorted (m.others + x.0) g z to)

-- Least names

pub less_total : (f g : FutureShape) → future_lt f g ≡ false → future_lt g f ≡ false → f ≡ g
less_total f g a b = by (future_cmp f g) refl
  where
    by : (o : Ordering) → future_cmp f g ≡ o → f ≡ g
    by Less e = none_true (sym a ∙ ap is_lt e)
    by Equal e = future_same f g e
    by Greater e = none_true (sym b ∙ ap is_lt (future_total.antisymm g f ∙ ap ordering_reverse e))

-- f is no greater than g
abbrev pub AtMost : FutureShape → FutureShape → Type 0
AtMost f g = future_lt g f ≡ false

pub itself_at_most : (f : FutureShape) → AtMost f f
itself_at_most f = by (future_cmp f f) refl
  where
    by : (o : Ordering) → future_cmp f f ≡ o → future_lt f f ≡ false
    by Less e = none_true (sym (ap is_eq e) ∙ tied e)
      where
        tied : future_cmp f f ≡ Less → is_eq (future_cmp f f) ≡ true
        tied e = future_itself f
    by Equal e = ap is_lt e
    by Greater e = ap is_lt e

pub at_most_then : (f g h : FutureShape) → AtMost f g → AtMost g h → AtMost f h
at_most_then f g h a b = by (future_cmp h f) refl (future_cmp f g) refl
  where
    by : (o : Ordering) → future_cmp h f ≡ o → (p : Ordering) → future_cmp f g ≡ p → future_lt h f ≡ false
    by Less e Less d = none_true (sym b ∙ ap is_lt (future_total.trans h f g e d))
    by Less e Equal d = none_true (sym b ∙ ap is_lt (ap (future_cmp h) (sym (future_same f g d)) ∙ e))
    by Less e Greater d = none_true (sym a ∙ ap is_lt (future_total.antisymm g f ∙ ap ordering_reverse d))
    by Equal e p d = ap is_lt e
    by Greater e p d = ap is_lt e

Among : FutureShape → List FutureShape → Type 0
Among f [] = ⊥
Among f (g ∷ gs) = (f ≡ g) ⊎ Among f gs

abbrev lesser_by : Bool → FutureShape → FutureShape → FutureShape
lesser_by b f g = elim b [ true ↦ g | false ↦ f ]

pub lesser_first : (f g : FutureShape) → AtMost (lesser f g) f
lesser_first f g = elim (future_lt g f) as (λ b. future_lt g f ≡ b → AtMost (lesser_by b f g) f) [ true ↦ λ e. by (future_cmp f g) refl e | false ↦ λ e. itself_at_most f ] refl
  where
    by : (o : Ordering) → future_cmp f g ≡ o → future_lt g f ≡ true → future_lt f g ≡ false
    by Less d e = none_true (sym (ap is_lt (future_total.antisymm g f ∙ ap ordering_reverse d)) ∙ e)
    by Equal d e = ap is_lt d
    by Greater d e = ap is_lt d

pub lesser_second : (f g : FutureShape) → AtMost (lesser f g) g
lesser_second f g = elim (future_lt g f) as (λ b. future_lt g f ≡ b → AtMost (lesser_by b f g) g) [ true ↦ λ e. itself_at_most g | false ↦ λ e. e ] refl

least_first : (f : FutureShape) (gs : List FutureShape) → AtMost (least_of f gs) f
least_first f [] = itself_at_most f
least_first f (g ∷ gs) = at_most_then (least_of (lesser f g) gs) (lesser f g) f (least_first (lesser f g) gs) (lesser_first f g)

least_each : (f h : FutureShape) (gs : List FutureShape) → Among h gs → AtMost (least_of f gs) h
unfolding Among
least_each f h [] m = absurd m
least_each f h (g ∷ gs) (inl e) = subst (AtMost (least_of (lesser f g) gs)) (sym e) (at_most_then (least_of (lesser f g) gs) (lesser f g) g (least_first (lesser f g) gs) (lesser_second f g))
least_each f h (g ∷ gs) (inr m) = least_each (lesser f g) h gs m

lesser_is : (f g : FutureShape) → (lesser f g ≡ f) ⊎ (lesser f g ≡ g)
lesser_is f g = elim (future_lt g f) as (λ b. (lesser_by b f g ≡ f) ⊎ (lesser_by b f g ≡ g)) [ true ↦ inr refl | false ↦ inl refl ]

least_is : (f : FutureShape) (gs : List FutureShape) → (least_of f gs ≡ f) ⊎ Among (least_of f gs) gs
unfolding Among
least_is f [] = inl refl
least_is f (g ∷ gs) = ⊎_elim
    (λ e. ⊎_elim (λ d. inl (e ∙ d)) (λ d. inr (inl (e ∙ d))) (lesser_is f g))
    (λ m. inr (inr m))
    (least_is (lesser f g) gs)

among_kept : (test : FutureShape → Bool) (f : FutureShape) (gs : List FutureShape) → test f ≡ true → Among f gs → Among f (filter test gs)
unfolding Among
among_kept test f [] e m = m
among_kept test f (g ∷ gs) e (inl d) = subst (λ b. Among f (cond b (g ∷ filter test gs) (filter test gs))) (sym e ∙ ap test d) (inl d)
among_kept test f (g ∷ gs) e (inr m) = elim (test g) as (λ b. Among f (cond b (g ∷ filter test gs) (filter test gs))) [ true ↦ inr (among_kept test f gs e m) | false ↦ among_kept test f gs e m ]

kept_among : (test : FutureShape → Bool) (f : FutureShape) (gs : List FutureShape) → Among f (filter test gs) → (test f ≡ true) × Among f gs
unfolding Among
kept_among test f [] m = absurd m
kept_among test f (g ∷ gs) m = elim (test g) as (λ b. test g ≡ b → Among f (cond b (g ∷ filter test gs) (filter test gs)) → (test f ≡ true) × ((f ≡ g) ⊎ Among f gs)) [
  | true ↦ λ e m. ⊎_elim (λ d. (ap test d ∙ e, inl d)) (λ k. let x = kept_among test f gs k in (x.0, inr x.1)) m
  | false ↦ λ e m. let x = kept_among test f gs m in (x.0, inr x.1)
] refl m

filled_among : (f : FutureShape) (vs : Values) → IsFilled vs f → Among f (map (λ v. v.0) vs)
unfolding Among
filled_among f [] h = none_true h
filled_among f (v ∷ vs) h = elim (same_future f v.0) as (λ b. same_future f v.0 ≡ b → is_some (cond b (Some v.1) (find future_cmp f vs)) ≡ true → (f ≡ v.0) ⊎ Among f (map (λ v. v.0) vs)) [
  | true ↦ λ e h. inl (futures_tied f v.0 e)
  | false ↦ λ e h. inr (filled_among f vs h)
] refl h

among_filled : (f : FutureShape) (vs : Values) → Among f (map (λ v. v.0) vs) → IsFilled vs f
unfolding Among
among_filled f [] m = absurd m
among_filled f (v ∷ vs) (inl e) = ap (λ b. is_some (cond b (Some v.1) (find future_cmp f vs))) (ap (λ x. same_future f x) (sym e) ∙ future_itself f)
among_filled f (v ∷ vs) (inr m) = elim (same_future f v.0) as (λ b. is_some (cond b (Some v.1) (find future_cmp f vs)) ≡ true) [ true ↦ refl | false ↦ among_filled f vs m ]

-- The name of a cycle

pub record IsNameOf (vs : Values) (f n : FutureShape) : Type 0 where
  pub filled : IsFilled vs n
  pub meets : Meet vs f n
  -- it is the least of all filled futures whose walks meet this one
  pub least : (g : FutureShape) → IsFilled vs g → Meet vs f g → AtMost n g

module _ (vs : Values) (sorted : T (is_sorted future_cmp vs)) (f : FutureShape) (never : HasNoEnd vs f) where
  abbrev keys : List FutureShape
  keys = map (λ v. v.0) vs

  abbrev kept : List FutureShape
  kept = filter (comes_in vs sorted f never) keys

  meets_name : (cycle_of vs f ≡ f) ⊎ Among (cycle_of vs f) kept → IsFilled vs (cycle_of vs f) × Meet vs f (cycle_of vs f)
  meets_name (inl e) = (subst (IsFilled vs) (sym e) (walk_filled vs (length vs) f (never (suc (length vs)))), record { steps = 0; others = 0; same = sym e })
  meets_name (inr m) =
      let k = kept_among (comes_in vs sorted f never) (cycle_of vs f) keys m in
      let x = comes_walks vs (length vs + length vs) (walked_to (length vs) vs f) (cycle_of vs f) k.0 in
      (among_filled (cycle_of vs f) vs k.1, record { steps = length vs; others = x.0; same = sym x.1 })

  pub cycle_name : IsNameOf vs f (cycle_of vs f)
  cycle_name =
      let x = meets_name (least_is f kept) in
      record {
        filled = x.0;
        meets = x.1;
        least = λ g h m. least_each f g kept (among_kept (comes_in vs sorted f never) g keys (meets_test vs sorted f never g m) (filled_among g vs h));
      }

  pub chase_never : chase vs f ≡ Cycle (cycle_of vs f)
  chase_never = ap (chase_by vs f) (never (suc (length vs)))
