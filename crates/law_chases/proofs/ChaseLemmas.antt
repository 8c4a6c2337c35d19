-- Chases where more futures are filled.
use Rattle.std.specs.Prelude.{◌≡◌, ℕ, zero, suc, ◌≤◌, Bool, true, false, cond, List, [], ◌∷◌, Option, Some, None, length, is_some, map, filter}
use Rattle.std.proofs.Common.{refl, sym, ap, subst, ◌∙◌, arith}
use Rattle.std.specs.FinMap.{find}
use Rattle.std.specs.Ordering.{eq_by_cmp}
use Rattle.asp_model.specs.Names.{FutureShape, future_cmp, future_lt}
use Rattle.asp_model.specs.Store.{CellShape, Number, Object, Reference, Future, Group, cell}
use Rattle.asp_model.specs.Parcel.{ParcelShape}
use Rattle.asp_model.specs.Contraction.{is_future}
use Rattle.asp_model.specs.Chase.{Values, Lead, Ends, Goes, Misses, lead_by, lead_of, lead, Chase, Value, Unfilled, Cycle, walk_end, lesser, least_of, cycle_of, chase, comes_by, walked_to}
use Rattle.law_chases.specs.Walks.{IsFilled}
use Rattle.law_chases.specs.Chases.{IsValueOf, ChasesFind}
use Rattle.law_chases.proofs.FutureLemmas.{no_some, some_is, none_true, true_false, future_itself}

-- where f has an answer, g has the same
abbrev pub Extends : {A B : Type 0} → (A → Option B) → (A → Option B) → Type 0
Extends {A} {B} f g = (x : A) (y : B) → f x ≡ Some y → g x ≡ Some y

abbrev pub MoreFilled : Values → Values → Type 0
MoreFilled vs ws = Extends (λ f. find future_cmp f vs) (λ f. find future_cmp f ws)

-- the future whose value is awaited
abbrev pub awaited : Chase → Option FutureShape
awaited (Value f p) = None
awaited (Unfilled f) = Some f
awaited (Cycle f) = Some f

-- Leads

abbrev pub is_miss : Lead → Bool
is_miss Misses = true
is_miss l = false

by_no_miss : (p : ParcelShape) (c : CellShape) → is_miss (lead_by p c) ≡ false
by_no_miss p (Future g) = refl
by_no_miss p (Number z) = refl
by_no_miss p (Object fields methods) = refl
by_no_miss p (Reference n) = refl
by_no_miss p (Group ns) = refl

miss_none : (o : Option ParcelShape) → is_miss (lead_of o) ≡ true → o ≡ None
miss_none None h = refl
miss_none (Some p) h = absurd (true_false _ h (by_no_miss p (cell p.cells 0)))

pub lead_kept : (vs ws : Values) → MoreFilled vs ws → (f : FutureShape) (o : Option ParcelShape) → find future_cmp f vs ≡ o → is_miss (lead_of o) ≡ false → lead ws f ≡ lead vs f
lead_kept vs ws more f None is h = none_true (sym h)
lead_kept vs ws more f (Some p) is h = ap lead_of (more f p is ∙ sym is)

-- Walks

abbrev pub walk_by : Lead → (FutureShape → Option Chase) → FutureShape → Option Chase
walk_by l next f = elim l [ Ends p ↦ Some (Value f p) | Goes g ↦ next g | Misses ↦ Some (Unfilled f) ]

-- what an end of a walk needs, to stay one
abbrev pub StaysEnd : Values → Chase → Type 0
StaysEnd ws (Value f p) = Unit {0}
StaysEnd ws (Unfilled f) = find future_cmp f ws ≡ None
StaysEnd ws (Cycle f) = Unit {0}

-- an end of a walk stays its end, unless it was unfilled and is filled
pub end_kept : (vs ws : Values) → MoreFilled vs ws → (n m : ℕ) → n ≤ m → (f : FutureShape) (y : Chase) → StaysEnd ws y → walk_end n vs f ≡ Some y → walk_end m ws f ≡ Some y
end_kept vs ws more zero m le f y stays h = no_some h
end_kept vs ws more (suc n) zero le f y stays h = absurd (omega (arith, le))
end_kept vs ws more (suc n) (suc m) le f y stays h = elim (lead vs f) as (λ l. lead vs f ≡ l → walk_by l (walk_end n vs) f ≡ Some y → walk_by (lead ws f) (walk_end m ws) f ≡ Some y) [
  | Ends p ↦ λ is h. ap (λ l. walk_by l (walk_end m ws) f) (lead_kept vs ws more f (find future_cmp f vs) refl (ap is_miss is) ∙ is) ∙ h
  | Goes g ↦ λ is h. ap (λ l. walk_by l (walk_end m ws) f) (lead_kept vs ws more f (find future_cmp f vs) refl (ap is_miss is) ∙ is) ∙ end_kept vs ws more n m (omega (arith, le)) g y stays h
  | Misses ↦ λ is h. ap (λ l. walk_by l (walk_end m ws) f) (ap lead_of (subst (StaysEnd ws) (sym (some_is h)) stays)) ∙ h
] refl h

-- a walk ends at a value or at an unfilled future
abbrev pub IsEnd : Values → Chase → Type 0
IsEnd vs (Value f p) = Unit {0}
IsEnd vs (Unfilled f) = find future_cmp f vs ≡ None
IsEnd vs (Cycle f) = ⊥

pub is_end : (vs : Values) (n : ℕ) (f : FutureShape) (y : Chase) → walk_end n vs f ≡ Some y → IsEnd vs y
is_end vs zero f y h = no_some h
is_end vs (suc n) f y h = elim (lead vs f) as (λ l. lead vs f ≡ l → walk_by l (walk_end n vs) f ≡ Some y → IsEnd vs y) [
  | Ends p ↦ λ is h. subst (IsEnd vs) (some_is h) tt
  | Goes g ↦ λ is h. is_end vs n g y h
  | Misses ↦ λ is h. subst (IsEnd vs) (some_is h) (miss_none (find future_cmp f vs) (ap is_miss is))
] refl h

-- Cycles

abbrev AllFilled : Values → List FutureShape → Type 0
AllFilled vs [] = Unit {0}
AllFilled vs (f ∷ fs) = IsFilled vs f × AllFilled vs fs

lesser_filled : (vs : Values) (f g : FutureShape) → IsFilled vs f → IsFilled vs g → IsFilled vs (lesser f g)
lesser_filled vs f g h k = elim (future_lt g f) as (λ b. IsFilled vs (elim b [ true ↦ g | false ↦ f ])) [ true ↦ k | false ↦ h ]

least_filled : (vs : Values) (f : FutureShape) (gs : List FutureShape) → IsFilled vs f → AllFilled vs gs → IsFilled vs (least_of f gs)
least_filled vs f [] h k = h
least_filled vs f (g ∷ gs) h k = least_filled vs (lesser f g) gs (lesser_filled vs f g h k.0) k.1

kept_filled : (vs : Values) (test : FutureShape → Bool) (gs : List FutureShape) → AllFilled vs gs → AllFilled vs (filter test gs)
kept_filled vs test [] k = tt
kept_filled vs test (g ∷ gs) k = elim (test g) as (λ b. AllFilled vs (cond b (g ∷ filter test gs) (filter test gs))) [ true ↦ (k.0, kept_filled vs test gs k.1) | false ↦ kept_filled vs test gs k.1 ]

shown_before : (v : FutureShape × ParcelShape) (vs : Values) (f : FutureShape) → IsFilled vs f → IsFilled (v ∷ vs) f
shown_before v vs f h = elim (eq_by_cmp future_cmp f v.0) as (λ b. is_some (cond b (Some v.1) (find future_cmp f vs)) ≡ true) [ true ↦ refl | false ↦ h ]

all_before : (v : FutureShape × ParcelShape) (vs : Values) (fs : List FutureShape) → AllFilled vs fs → AllFilled (v ∷ vs) fs
all_before v vs [] k = tt
all_before v vs (f ∷ fs) k = (shown_before v vs f k.0, all_before v vs fs k.1)

keys_filled : (vs : Values) → AllFilled vs (map (λ v. v.0) vs)
keys_filled [] = tt
keys_filled (v ∷ vs) = (ap (λ b. is_some (cond b (Some v.1) (find future_cmp v.0 vs))) (future_itself v.0), all_before v vs (map (λ u. u.0) vs) (keys_filled vs))

pub walk_filled : (vs : Values) (n : ℕ) (f : FutureShape) → walk_end (suc n) vs f ≡ None → IsFilled vs f
walk_filled vs n f h = elim (find future_cmp f vs) as (λ o. walk_by (lead_of o) (walk_end n vs) f ≡ None → is_some o ≡ true) [ None ↦ λ h. no_some (sym h) | Some p ↦ λ h. refl ] h

-- a cycle is named by a filled future
pub cycle_filled : (vs : Values) (f : FutureShape) → walk_end (suc (length vs)) vs f ≡ None → IsFilled vs (cycle_of vs f)
cycle_filled vs f h = least_filled vs f _ (walk_filled vs (length vs) f h) (kept_filled vs (comes_by _ vs (walked_to (length vs) vs f)) _ (keys_filled vs))

-- Chases

abbrev pub chase_by : Values → FutureShape → Option Chase → Chase
chase_by vs f o = elim o [ Some c ↦ c | None ↦ Cycle (cycle_of vs f) ]

abbrev value_of : Chase → Option (FutureShape × ParcelShape)
value_of (Value f p) = Some (f, p)
value_of c = None

-- a chase to a value stays one
pub chase_value : (vs ws : Values) → MoreFilled vs ws → length vs ≤ length ws → (f g : FutureShape) (p : ParcelShape) → chase vs f ≡ Value g p → chase ws f ≡ Value g p
chase_value vs ws more le f g p h = elim (walk_end (suc (length vs)) vs f) as (λ o. walk_end (suc (length vs)) vs f ≡ o → chase_by vs f o ≡ Value g p → chase ws f ≡ Value g p) [
  | Some c ↦ λ is h. ap (chase_by ws f) (end_kept vs ws more (suc (length vs)) (suc (length ws)) (omega (arith, le)) f (Value g p) tt (is ∙ ap Some h))
  | None ↦ λ is h. no_some (ap value_of h)
] refl h

at_unfilled : (vs ws : Values) → MoreFilled vs ws → length vs ≤ length ws → (f h : FutureShape) → find future_cmp h ws ≡ None → (y : Chase) → walk_end (suc (length vs)) vs f ≡ Some y → awaited y ≡ Some h → awaited (chase ws f) ≡ Some h
at_unfilled vs ws more le f h none (Value g p) is a = no_some a
at_unfilled vs ws more le f h none (Unfilled g) is a = ap (λ o. awaited (chase_by ws f o)) (end_kept vs ws more (suc (length vs)) (suc (length ws)) (omega (arith, le)) f (Unfilled g) (ap (λ k. find future_cmp k ws) (some_is a) ∙ none) is) ∙ a
at_unfilled vs ws more le f h none (Cycle g) is a = absurd (is_end vs (suc (length vs)) f (Cycle g) is)

-- a chase to a future that stays unfilled ends there still
pub chase_unfilled : (vs ws : Values) → MoreFilled vs ws → length vs ≤ length ws → (f h : FutureShape) → find future_cmp h vs ≡ None → find future_cmp h ws ≡ None → awaited (chase vs f) ≡ Some h → awaited (chase ws f) ≡ Some h
chase_unfilled vs ws more le f h before after a = elim (walk_end (suc (length vs)) vs f) as (λ o. walk_end (suc (length vs)) vs f ≡ o → awaited (chase_by vs f o) ≡ Some h → awaited (chase ws f) ≡ Some h) [
  | Some y ↦ λ is a. at_unfilled vs ws more le f h after y is a
  | None ↦ λ is a. absurd (true_false (is_some (find future_cmp h vs)) (subst (IsFilled vs) (some_is a) (cycle_filled vs f is)) (ap is_some before))
] refl a

-- Values that chases find

abbrev is_an_end : Lead → Bool
is_an_end (Ends p) = true
is_an_end l = false

abbrev end_or : ParcelShape → Lead → ParcelShape
end_or p (Ends q) = q
end_or p l = p

ends_at : {p q : ParcelShape} → Ends p ≡ Ends q → p ≡ q
ends_at {p} h = ap (end_or p) h

lead_ends : (p q : ParcelShape) (c : CellShape) → lead_by p c ≡ Ends q → (p ≡ q) × (is_future c ≡ false)
lead_ends p q (Future g) h = none_true (ap is_an_end h)
lead_ends p q (Number z) h = (ends_at h, refl)
lead_ends p q (Object fields methods) h = (ends_at h, refl)
lead_ends p q (Reference n) h = (ends_at h, refl)
lead_ends p q (Group ns) h = (ends_at h, refl)

value_at : (o : Option ParcelShape) (q : ParcelShape) → lead_of o ≡ Ends q → (o ≡ Some q) × (is_future (cell q.cells 0) ≡ false)
value_at None q h = none_true (ap is_an_end h)
value_at (Some p) q h = let x = lead_ends p q (cell p.cells 0) h in (ap Some x.0, subst (λ u. is_future (cell u.cells 0) ≡ false) x.0 x.1)

walk_value : (vs : Values) (n : ℕ) (f y : FutureShape) (p : ParcelShape) → walk_end n vs f ≡ Some (Value y p) → IsValueOf vs y p
walk_value vs zero f y p h = no_some h
walk_value vs (suc n) f y p h = elim (lead vs f) as (λ l. lead vs f ≡ l → walk_by l (walk_end n vs) f ≡ Some (Value y p) → IsValueOf vs y p) [
  | Ends q ↦ λ is h.
      let same = some_is (ap value_of (some_is h)) in
      let x = value_at (find future_cmp f vs) q is in
      (ap (λ k. find future_cmp k vs) (sym (ap (λ z. z.0) same)) ∙ x.0 ∙ ap (λ z. Some z.1) same, subst (λ u. is_future (cell u.cells 0) ≡ false) (ap (λ z. z.1) same) x.1)
  | Goes g ↦ λ is h. walk_value vs n g y p h
  | Misses ↦ λ is h. no_some (ap value_of (some_is h))
] refl h

-- a chase finds the value of the future that it names
pub chase_finds : ChasesFind
chase_finds vs f y p h = elim (walk_end (suc (length vs)) vs f) as (λ o. walk_end (suc (length vs)) vs f ≡ o → chase_by vs f o ≡ Value y p → IsValueOf vs y p) [
  | Some c ↦ λ is h. walk_value vs (suc (length vs)) f y p (is ∙ ap Some h)
  | None ↦ λ is h. no_some (ap value_of h)
] refl h

-- Futures that chases come to

-- the roots of values are of these futures
abbrev pub KeepsLeads : Values → (FutureShape → Type 0) → Type 0
KeepsLeads vs P = (f g : FutureShape) → lead vs f ≡ Goes g → P g

walk_awaits : (vs : Values) (P : FutureShape → Type 0) → KeepsLeads vs P → (n : ℕ) (f h : FutureShape) (y : Chase) → P f → walk_end n vs f ≡ Some y → awaited y ≡ Some h → P h
walk_awaits vs P keeps zero f h y p is a = no_some is
walk_awaits vs P keeps (suc n) f h y p is a = elim (lead vs f) as (λ l. lead vs f ≡ l → walk_by l (walk_end n vs) f ≡ Some y → P h) [
  | Ends q ↦ λ l is. no_some (ap awaited (some_is is) ∙ a)
  | Goes g ↦ λ l is. walk_awaits vs P keeps n g h y (keeps f g l) is a
  | Misses ↦ λ l is. subst P (some_is (ap awaited (some_is is) ∙ a)) p
] refl is

-- what a chase awaits is one of these futures, where the filled ones are
pub chase_awaits : (vs : Values) (P : FutureShape → Type 0) → KeepsLeads vs P → ((f : FutureShape) → IsFilled vs f → P f) → (f h : FutureShape) → P f → awaited (chase vs f) ≡ Some h → P h
chase_awaits vs P keeps filled f h p a = elim (walk_end (suc (length vs)) vs f) as (λ o. walk_end (suc (length vs)) vs f ≡ o → awaited (chase_by vs f o) ≡ Some h → P h) [
  | Some y ↦ λ is a. walk_awaits vs P keeps (suc (length vs)) f h y p is a
  | None ↦ λ is a. subst P (some_is a) (filled (cycle_of vs f) (cycle_filled vs f is))
] refl a
