-- The filled futures are the definitions' map.
use Rattle.std.proofs.Common.{◌≡◌, ◌≢◌, ◌+◌, ◌<◌, ◌≤◌, ◌++◌, ℕ, Bool, T, zero, suc, true, false, cond, length, map, set, get_or, List, [], ◌∷◌, Option, Some, None, Bor, IfSome, refl, sym, ap, subst, ◌∙◌, arith}
use Rattle.std.specs.Option.{option_map, option_copied}
use Rattle.std.specs.Map.{lookup}
use Rattle.std.specs.Map.{values_of as parcels}
use Rattle.std.specs.FinMap.{IsAntisymmetric, find, put, is_sorted}
use Rattle.std.specs.FinMap.Entries.{by_order, is_sorted-put}
use Rattle.std.specs.Cmp.{IsTotalOrder, on_total}
use Rattle.std.specs.declared.cmp.Ordering.{Ordering}
use Rattle.std.specs.declared.cmp.Ordering.TheVariants.{Less, Equal, Greater}
use Rattle.std.specs.Ordering.{eq_by_cmp, is_eq}
use Rattle.std.specs.List.{AllByRecursion, Contains, IsDistinct}
use Rattle.std.proofs.lemmas.List.{length-map}
use Rattle.std.proofs.lemmas.List.Elements.{All-contains_itself}
use Rattle.std.proofs.lemmas.Map.Views.{IfSome-lookup_from_All}
use Rattle.asp_model.specs.declared.name.FutureName.{FutureName}
use Rattle.code_table.specs.declared.cells.Parcel.{Parcel}
use Rattle.asp_model.specs.FutureOrder.{eq_shape}
use Rattle.asp_model.specs.Names.{future_cmp, same_future}
use Rattle.asp_model.specs.Chase.{Values}
use Rattle.asp_model.specs.Shapes.{future_shape}
use Rattle.law_chases.proofs.FutureLemmas.{future_itself, future_same, future_total, futures_tied, no_some, none_true}
use Rattle.law_chases.proofs.MapLemmas.{find_other, find_same, put_put}
use Rattle.code_table.specs.Shapes.{parcel_shape}
use Rattle.future_table.specs.Numbers.{AreApart, number_from}
use Rattle.future_table.specs.Values.{AreOfCode, StayOfCode, by_name, filled_of, values_of}
use Rattle.future_table.proofs.NumberLemmas.{here_or, named_number, same_one}

abbrev pub name_total : IsTotalOrder by_name
name_total = on_total future_shape future_total

pub name_same : (f g : FutureName) → future_shape f ≡ future_shape g → f ≡ g
name_same f g e = λ i. record { by = (e i).by; index = (e i).index }

name_tied : IsAntisymmetric by_name
name_tied f g e = name_same f g (future_same (future_shape f) (future_shape g) e)

-- Entries as values

pub found_shape : (f : FutureName) (es : List (FutureName × Parcel)) → option_map parcel_shape (find by_name f es) ≡ find future_cmp (future_shape f) (values_of es)
found_shape f [] = refl
found_shape f (e ∷ es) = elim (is_eq (by_name f e.0)) as (λ b. option_map parcel_shape (cond b (Some e.1) (find by_name f es)) ≡ cond b (Some (parcel_shape e.1)) (find future_cmp (future_shape f) (values_of es))) [
  | true ↦ refl
  | false ↦ found_shape f es
]

-- where the values have none, the entries have none
pub none_found : (f : FutureName) (es : List (FutureName × Parcel)) → find future_cmp (future_shape f) (values_of es) ≡ None → find by_name f es ≡ None
none_found f es none = by (find by_name f es) (found_shape f es ∙ none)
  where
    by : (o : Option Parcel) → option_map parcel_shape o ≡ None → o ≡ None
    by None e = refl
    by (Some p) e = no_some (sym e)

pub put_shape : (f : FutureName) (p : Parcel) (es : List (FutureName × Parcel)) → values_of (put by_name f p es) ≡ put future_cmp (future_shape f) (parcel_shape p) (values_of es)
put_shape f p [] = refl
put_shape f p (e ∷ es) = by (by_name f e.0) (put_shape f p es)
  where
    by : (o : Ordering) → values_of (put by_name f p es) ≡ put future_cmp (future_shape f) (parcel_shape p) (values_of es)
        → values_of (by_order o ((f, p) ∷ e ∷ es) ((e.0, p) ∷ es) (e ∷ put by_name f p es)) ≡ by_order o ((future_shape f, parcel_shape p) ∷ values_of (e ∷ es)) ((future_shape e.0, parcel_shape p) ∷ values_of es) ((future_shape e.0, parcel_shape e.1) ∷ put future_cmp (future_shape f) (parcel_shape p) (values_of es))
    by Less ih = refl
    by Equal ih = refl
    by Greater ih = ap (λ (vs : Values). (future_shape e.0, parcel_shape e.1) ∷ vs) ih

-- a value of the code that is put
pub stays_of_code : (f : FutureName) (p : Parcel) (es : List (FutureName × Parcel)) → StayOfCode p es (put by_name f p es)
stays_of_code f p [] k is h = (is, tt)
stays_of_code f p (e ∷ es) k is h = by (by_name f e.0) (stays_of_code f p es k is h.1)
  where
    by : (o : Ordering) → AreOfCode k (put by_name f p es) → AreOfCode k (by_order o ((f, p) ∷ e ∷ es) ((e.0, p) ∷ es) (e ∷ put by_name f p es))
    by Less ih = (is, h)
    by Equal ih = (is, h.1)
    by Greater ih = (h.0, ih)

-- What a look-up lends

pub lent_shape : (o : Option (Bor Parcel)) → option_map (λ (p : Bor Parcel). parcel_shape p.now) o ≡ option_map parcel_shape (option_copied o)
lent_shape None = refl
lent_shape (Some p) = refl

held_by : (P : Parcel → Type 0) (o : Option (Bor Parcel)) (p : Option Parcel) → option_copied o ≡ p → IfSome p P → IfSome o (λ q. P q.now)
held_by P None p e h = tt
held_by P (Some q) p e h = subst (λ (x : Option Parcel). IfSome x P) (sym e) h

found_by : (f : FutureName) (es : List (FutureName × Parcel)) → find by_name f es ≡ lookup (eq_by_cmp by_name f) es
found_by f [] = refl
found_by f (e ∷ es) = ap (cond (eq_by_cmp by_name f e.0) (Some e.1)) (found_by f es)

-- it is one of the table's parcels
pub lent_held : (o : Option (Bor Parcel)) (f : FutureName) (es : List (FutureName × Parcel)) → option_copied o ≡ find by_name f es → IfSome o (λ p. Contains (parcels es) p.now)
lent_held o f es e = held_by (Contains (parcels es)) o (lookup (eq_by_cmp by_name f) es) (e ∙ found_by f es) (IfSome-lookup_from_All (Contains (parcels es)) (eq_by_cmp by_name f) es (All-contains_itself (parcels es)))

-- The filled ones of the futures with numbers

sorted_entries : (fs : List FutureName) (ps : List (Option Parcel)) → T (is_sorted by_name (filled_of fs ps))
sorted_entries [] ps = tt
sorted_entries (f ∷ fs) [] = tt
sorted_entries (f ∷ fs) (None ∷ ps) = sorted_entries fs ps
sorted_entries (f ∷ fs) (Some p ∷ ps) = is_sorted-put by_name name_total f p (filled_of fs ps) (sorted_entries fs ps)

pub sorted_values : (fs : List FutureName) (ps : List (Option Parcel)) → T (is_sorted future_cmp (values_of (filled_of fs ps)))
sorted_values [] ps = tt
sorted_values (f ∷ fs) [] = tt
sorted_values (f ∷ fs) (None ∷ ps) = sorted_values fs ps
sorted_values (f ∷ fs) (Some p ∷ ps) = subst (λ (vs : Values). T (is_sorted future_cmp vs)) (sym (put_shape f p (filled_of fs ps))) (is_sorted-put future_cmp future_total (future_shape f) (parcel_shape p) (values_of (filled_of fs ps)) (sorted_values fs ps))

one_more : (f : FutureName) (p : Parcel) (es : List (FutureName × Parcel)) → length (values_of (put by_name f p es)) ≤ suc (length (values_of es))
one_more f p [] = omega arith
one_more f p (e ∷ es) = by (by_name f e.0) (one_more f p es)
  where
    by : (o : Ordering) → length (values_of (put by_name f p es)) ≤ suc (length (values_of es)) → length (values_of (by_order o ((f, p) ∷ e ∷ es) ((e.0, p) ∷ es) (e ∷ put by_name f p es))) ≤ suc (suc (length (values_of es)))
    by Less ih = omega arith
    by Equal ih = omega arith
    by Greater ih = omega (arith, ih)

-- there are no more values than numbers
pub values_count : (fs : List FutureName) (ps : List (Option Parcel)) → length (values_of (filled_of fs ps)) ≤ length ps
values_count [] ps = omega arith
values_count (f ∷ fs) [] = omega arith
values_count (f ∷ fs) (None ∷ ps) = omega (arith, values_count fs ps)
values_count (f ∷ fs) (Some p ∷ ps) = omega (arith, one_more f p (filled_of fs ps), values_count fs ps)

-- a future that is met has no value
pub filled_met : (fs : List FutureName) (ps : List (Option Parcel)) (f : FutureName) → length ps ≡ length fs → filled_of (fs ++ f ∷ []) (ps ++ None ∷ []) ≡ filled_of fs ps
filled_met [] [] f e = refl
filled_met [] (p ∷ ps) f e = absurd (omega (arith, e))
filled_met (g ∷ gs) [] f e = absurd (omega (arith, e))
filled_met (g ∷ gs) (None ∷ ps) f e = filled_met gs ps f (omega (arith, e))
filled_met (g ∷ gs) (Some p ∷ ps) f e = ap (put by_name g p) (filled_met gs ps f (omega (arith, e)))

-- By the number of a future

abbrev Absent : FutureName → List FutureName → Type 0
Absent f [] = Unit {0}
Absent f (g ∷ gs) = (f ≢ g) × Absent f gs

-- the first that is this future stands there
abbrev Stands : FutureName → List FutureName → ℕ → Type 0
Stands f [] i = ⊥
Stands f (g ∷ gs) zero = g ≡ f
Stands f (g ∷ gs) (suc i) = (f ≢ g) × Stands f gs i

differ : (f g : FutureName) → same_future (future_shape f) (future_shape g) ≡ false → f ≢ g
differ f g d is = none_true (sym d ∙ ap (λ h. same_future (future_shape f) (future_shape h)) (sym is) ∙ future_itself (future_shape f))

absent : (k : ℕ) (f : FutureName) (fs : List FutureName) → number_from k (future_shape f) (map future_shape fs) ≡ None → Absent f fs
absent k f [] e = tt
absent k f (g ∷ gs) e = by (same_future (future_shape f) (future_shape g)) refl e (absent (suc k) f gs)
  where
    by : (b : Bool) → same_future (future_shape f) (future_shape g) ≡ b → here_or b k (number_from (suc k) (future_shape f) (map future_shape gs)) ≡ None
        → (number_from (suc k) (future_shape f) (map future_shape gs) ≡ None → Absent f gs) → Absent f (g ∷ gs)
    by true d e next = no_some (sym e)
    by false d e next = (differ f g d, next e)

abbrev StandsFrom : ℕ → ℕ → FutureName → List FutureName → Type 0
StandsFrom k n f fs = (i : ℕ) × (n ≡ k + i) × Stands f fs i

stands_from : (k : ℕ) (f : FutureName) (fs : List FutureName) (n : ℕ) → number_from k (future_shape f) (map future_shape fs) ≡ Some n → StandsFrom k n f fs
stands_from k f [] n e = no_some e
stands_from k f (g ∷ gs) n e = by (same_future (future_shape f) (future_shape g)) refl e (stands_from (suc k) f gs n)
  where
    by : (b : Bool) → same_future (future_shape f) (future_shape g) ≡ b → here_or b k (number_from (suc k) (future_shape f) (map future_shape gs)) ≡ Some n
        → (number_from (suc k) (future_shape f) (map future_shape gs) ≡ Some n → StandsFrom (suc k) n f gs) → StandsFrom k n f (g ∷ gs)
    by true d e next = let same : k ≡ n = cc in (0, omega (arith, same), sym (name_same f g (futures_tied (future_shape f) (future_shape g) d)))
    by false d e next = let x = next e in (suc x.0, omega (arith, x.1), (differ f g d, x.2))

stands : (f : FutureName) (fs : List FutureName) (n : ℕ) → number_from 0 (future_shape f) (map future_shape fs) ≡ Some n → Stands f fs n
stands f fs n e = let x = stands_from 0 f fs n e in let same : x.0 ≡ n = omega (arith, x.1) in subst (Stands f fs) same x.2

others : (f : FutureName) (fs : List FutureName) → AllByRecursion (λ g. same_one f g ≡ false) fs → Absent f fs
others f [] h = tt
others f (g ∷ gs) h = (differ f g (sym (eq_shape f g) ∙ h.0), others f gs h.1)

unfilled : (f : FutureName) (fs : List FutureName) (ps : List (Option Parcel)) → Absent f fs → find by_name f (filled_of fs ps) ≡ None
unfilled f [] ps h = refl
unfilled f (g ∷ gs) [] h = refl
unfilled f (g ∷ gs) (None ∷ ps) h = unfilled f gs ps h.1
unfilled f (g ∷ gs) (Some p ∷ ps) h = find_other by_name name_total name_tied f g p (filled_of gs ps) h.0 ∙ unfilled f gs ps h.1

found : (f : FutureName) (fs : List FutureName) (ps : List (Option Parcel)) (i : ℕ) → AreApart fs → length ps ≡ length fs → Stands f fs i → find by_name f (filled_of fs ps) ≡ get_or ps i None
unfolding IsDistinct
found f [] ps i d e h = absurd h
found f (g ∷ gs) [] i d e h = absurd (omega (arith, e))
found f (g ∷ gs) (None ∷ ps) zero d e h = unfilled f gs ps (subst (λ x. Absent x gs) h (others g gs d.0))
found f (g ∷ gs) (Some p ∷ ps) zero d e h = ap (λ x. find by_name f (put by_name x p (filled_of gs ps))) h ∙ find_same by_name name_total name_tied f p (filled_of gs ps)
found f (g ∷ gs) (None ∷ ps) (suc i) d e h = found f gs ps i d.1 (omega (arith, e)) h.1
found f (g ∷ gs) (Some p ∷ ps) (suc i) d e h = find_other by_name name_total name_tied f g p (filled_of gs ps) h.0 ∙ found f gs ps i d.1 (omega (arith, e)) h.1

-- a value is found by its number
pub found_number : (f : FutureName) (fs : List FutureName) (ps : List (Option Parcel)) (n : ℕ) → AreApart fs → length ps ≡ length fs → number_from 0 (future_shape f) (map future_shape fs) ≡ Some n → find by_name f (filled_of fs ps) ≡ get_or ps n None
found_number f fs ps n d e is = found f fs ps n d e (stands f fs n is)

-- a future without a number has none
pub found_none : (f : FutureName) (fs : List FutureName) (ps : List (Option Parcel)) → number_from 0 (future_shape f) (map future_shape fs) ≡ None → find by_name f (filled_of fs ps) ≡ None
found_none f fs ps is = unfilled f fs ps (absent 0 f fs is)

fills : (f : FutureName) (p : Parcel) (fs : List FutureName) (ps : List (Option Parcel)) (i : ℕ) → length ps ≡ length fs → Stands f fs i → get_or ps i None ≡ None → filled_of fs (set ps i (Some p)) ≡ put by_name f p (filled_of fs ps)
fills f p [] ps i e h none = absurd h
fills f p (g ∷ gs) [] i e h none = absurd (omega (arith, e))
fills f p (g ∷ gs) (None ∷ ps) zero e h none = ap (λ x. put by_name x p (filled_of gs ps)) h
fills f p (g ∷ gs) (Some q ∷ ps) zero e h none = no_some (sym none)
fills f p (g ∷ gs) (None ∷ ps) (suc i) e h none = fills f p gs ps i (omega (arith, e)) h.1 none
fills f p (g ∷ gs) (Some q ∷ ps) (suc i) e h none =
    ap (put by_name g q) (fills f p gs ps i (omega (arith, e)) h.1 none)
    ∙ put_put by_name name_total name_tied g f q p (filled_of gs ps) (sorted_entries gs ps) (λ is. h.0 (sym is))

-- a value that is written under its future's number is put
pub fills_number : (f : FutureName) (p : Parcel) (fs : List FutureName) (ps : List (Option Parcel)) (n : ℕ) → AreApart fs → length ps ≡ length fs → number_from 0 (future_shape f) (map future_shape fs) ≡ Some n → find by_name f (filled_of fs ps) ≡ None
    → filled_of fs (set ps n (Some p)) ≡ put by_name f p (filled_of fs ps)
fills_number f p fs ps n d e is none = let h = stands f fs n is in fills f p fs ps n e h (sym (found f fs ps n d e h) ∙ none)

pub filled_values : (f : FutureName) (p : Parcel) (fs : List FutureName) (ps : List (Option Parcel)) (n : ℕ) → AreApart fs → length ps ≡ length fs → number_from 0 (future_shape f) (map future_shape fs) ≡ Some n → find by_name f (filled_of fs ps) ≡ None
    → values_of (filled_of fs (set ps n (Some p))) ≡ put future_cmp (future_shape f) (parcel_shape p) (values_of (filled_of fs ps))
filled_values f p fs ps n d e is none = ap values_of (fills_number f p fs ps n d e is none) ∙ put_shape f p (filled_of fs ps)

-- a number is one of the values
pub value_within : (f : FutureName) (fs : List FutureName) (ps : List (Option Parcel)) (n : ℕ) → length ps ≡ length fs → number_from 0 (future_shape f) (map future_shape fs) ≡ Some n → n < length ps
value_within f fs ps n e is = let x = named_number (future_shape f) (map future_shape fs) n is in omega (arith, x.0, e, length-map fs future_shape)

pub mapped_more : (xs : List FutureName) (x : FutureName) → map future_shape (xs ++ x ∷ []) ≡ map future_shape xs ++ future_shape x ∷ []
mapped_more [] x = refl
mapped_more (y ∷ xs) x = ap (λ ys. future_shape y ∷ ys) (mapped_more xs x)
