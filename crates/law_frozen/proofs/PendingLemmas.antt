-- Pending requests and the oldest that matches.
use Rattle.std.proofs.Common.{◌≡◌, ℕ, suc, ◌+◌, ◌<◌, ◌≤◌, ◌==◌, not, ◌&&◌, Bool, true, false, cond, List, [], ◌∷◌, ◌++◌, Option, Some, None, length, nat_lt, nat_eq, T, refl, sym, ap, subst, ◌∙◌, arith}
use Rattle.std.proofs.lemmas.Bool.{eqb-true}
use Rattle.std.proofs.lemmas.Bool.Decides.{nat_tests}
use Rattle.std.specs.Ordering.{nat_cmp, is_eq}
use Rattle.std.specs.declared.cmp.Ordering.TheVariants.{Less, Equal, Greater}
use Rattle.std.specs.Map.{remove_entry}
use Rattle.std.specs.BTreeMap.{is_at}
use Rattle.asp_model.specs.Names.{Text}
use Rattle.asp_model.specs.Term.{has_text}
use Rattle.asp_model.specs.Parcel.{has_place}
use Rattle.asp_model.specs.Configuration.{RequestShape, label_of}
use Rattle.asp_model.specs.Intent.{Numbered, oldest_match}
use Rattle.law_chases.proofs.FutureLemmas.{no_some, some_is}
use Rattle.law_frozen.specs.Pending.{ArrivalsWait, MatchesArePending, ServedLeave, ServesAreSame, ServesSame, oldest, pending_of, unnumbered, waiting}

-- Numbers

equal_numbers : (m n : ℕ) → nat_eq m n ≡ is_eq (nat_cmp m n)
equal_numbers m n = by (nat_lt m n) (nat_eq m n) refl refl
  where
    by : (l e : Bool) → nat_lt m n ≡ l → nat_eq m n ≡ e → e ≡ is_eq (cond l Less (cond e Equal Greater))
    by true true p q = absurd (grind (arith, nat_tests))
    by true false p q = refl
    by false true p q = refl
    by false false p q = refl

-- Laws of received requests

abbrev either : Bool → Option Numbered → Option Numbered → Option Numbered
either b x y = elim b [ true ↦ x | false ↦ y ]

pub matches_are_pending : MatchesArePending
matches_are_pending labels served k [] = refl
matches_are_pending labels served k (r ∷ rs) = by (has_place k served) (matches_are_pending labels served (suc k) rs)
  where
    by : (a : Bool) → oldest_match labels served (suc k) rs ≡ oldest labels (pending_of served (suc k) rs)
        → either (not a && has_text (label_of r) labels) (Some (k, r)) (oldest_match labels served (suc k) rs) ≡ oldest labels (elim a [ true ↦ pending_of served (suc k) rs | false ↦ (k, r) ∷ pending_of served (suc k) rs ])
    by true next = next
    by false next = ap (either (has_text (label_of r) labels) (Some (k, r))) next

abbrev skip_or : Bool → Numbered → List Numbered → List Numbered
skip_or b x xs = elim b [ true ↦ xs | false ↦ x ∷ xs ]

pub arrivals_wait : ArrivalsWait
arrivals_wait served k [] r new = by (has_place k served) (ap (λ n. has_place n served) zero_more ∙ new)
  where
    zero_more : k ≡ k + 0
    zero_more = omega arith

    by : (b : Bool) → b ≡ false → skip_or b (k, r) [] ≡ (k + 0, r) ∷ []
    by true e = absurd (subst T e tt)
    by false e = λ i. (zero_more i, r) ∷ []
arrivals_wait served k (q ∷ rs) r new = by (has_place k served) (arrivals_wait served (suc k) rs r (ap (λ n. has_place n served) more ∙ new))
  where
    more : suc k + length rs ≡ k + suc (length rs)
    more = omega arith

    by : (b : Bool) → pending_of served (suc k) (rs ++ r ∷ []) ≡ pending_of served (suc k) rs ++ (suc k + length rs, r) ∷ []
        → skip_or b (k, q) (pending_of served (suc k) (rs ++ r ∷ [])) ≡ skip_or b (k, q) (pending_of served (suc k) rs) ++ (k + suc (length rs), r) ∷ []
    by true next = next ∙ (λ i. pending_of served (suc k) rs ++ (more i, r) ∷ [])
    by false next = ap (λ xs. (k, q) ∷ xs) (next ∙ (λ i. pending_of served (suc k) rs ++ (more i, r) ∷ []))

-- a number that is past is served no more
later : (served : List ℕ) (n k : ℕ) (rs : List RequestShape) → n < k → pending_of (n ∷ served) k rs ≡ pending_of served k rs
later served n k [] lt = refl
later served n k (r ∷ rs) lt = (λ i. skip_or (elim (apart i) [ true ↦ true | false ↦ has_place k served ]) (k, r) (later served n (suc k) rs (omega (arith, lt)) i))
  where
    apart : nat_eq k n ≡ false
    apart = grind (arith, nat_tests, lt)

pub served_leave : ServedLeave
served_leave served n k [] = refl
served_leave served n k (r ∷ rs) = by (nat_eq k n) refl (has_place k served) (served_leave served n (suc k) rs)
  where
    tie : nat_eq k n ≡ true → is_at (nat_cmp n) k ≡ true
    tie e = sym (equal_numbers n k) ∙ grind (arith, nat_tests, e)

    untie : nat_eq k n ≡ false → is_at (nat_cmp n) k ≡ false
    untie e = sym (equal_numbers n k) ∙ grind (arith, nat_tests, e)

    by : (a : Bool) → nat_eq k n ≡ a → (b : Bool) → pending_of (n ∷ served) (suc k) rs ≡ remove_entry (is_at (nat_cmp n)) (pending_of served (suc k) rs)
        → skip_or (elim a [ true ↦ true | false ↦ b ]) (k, r) (pending_of (n ∷ served) (suc k) rs) ≡ remove_entry (is_at (nat_cmp n)) (skip_or b (k, r) (pending_of served (suc k) rs))
    by true e true next = next
    by true e false next = let same : k ≡ n = grind (arith, nat_tests) in later served n (suc k) rs (omega (arith, same)) ∙ sym (ap (λ t. cond t (pending_of served (suc k) rs) ((k, r) ∷ remove_entry (is_at (nat_cmp n)) (pending_of served (suc k) rs))) (tie e))
    by false e true next = next
    by false e false next = ap (λ xs. (k, r) ∷ xs) next ∙ sym (ap (λ t. cond t (pending_of served (suc k) rs) ((k, r) ∷ remove_entry (is_at (nat_cmp n)) (pending_of served (suc k) rs))) (untie e))

-- What is served next

-- the first with one of the labels, and the others
abbrev first_with : List Text → List RequestShape → Option RequestShape
first_with labels [] = None
first_with labels (r ∷ rs) = elim (has_text (label_of r) labels) [ true ↦ Some r | false ↦ first_with labels rs ]

abbrev others_with : List Text → List RequestShape → List RequestShape
others_with labels [] = []
others_with labels (r ∷ rs) = elim (has_text (label_of r) labels) [ true ↦ rs | false ↦ r ∷ others_with labels rs ]

abbrev pub request_in : Option Numbered → Option RequestShape
request_in None = None
request_in (Some x) = Some x.1

-- those from this number on that were not served, oldest first
abbrev pending : List ℕ → ℕ → List RequestShape → List RequestShape
pending served k [] = []
pending served k (r ∷ rs) = elim (has_place k served) [ true ↦ pending served (suc k) rs | false ↦ r ∷ pending served (suc k) rs ]

unnumbered_is : (served : List ℕ) (k : ℕ) (rs : List RequestShape) → unnumbered (pending_of served k rs) ≡ pending served k rs
unnumbered_is served k [] = refl
unnumbered_is served k (r ∷ rs) = by (has_place k served) (unnumbered_is served (suc k) rs)
  where
    by : (b : Bool) → unnumbered (pending_of served (suc k) rs) ≡ pending served (suc k) rs
        → unnumbered (skip_or b (k, r) (pending_of served (suc k) rs)) ≡ elim b [ true ↦ pending served (suc k) rs | false ↦ r ∷ pending served (suc k) rs ]
    by true next = next
    by false next = ap (λ xs. r ∷ xs) next

differs : (k n : ℕ) → (k ≡ n → ⊥) → (k == n) ≡ false
differs k n h = by (k == n) refl
  where
    by : (b : Bool) → (k == n) ≡ b → b ≡ false
    by true e = absurd (h (eqb-true k n e))
    by false e = refl

-- the request is the first pending one with such a label
found_first : (labels : List Text) (s : List ℕ) (k : ℕ) (rs : List RequestShape) → request_in (oldest_match labels s k rs) ≡ first_with labels (pending s k rs)
found_first labels s k [] = refl
found_first labels s k (r ∷ rs) = by (has_place k s) (has_text (label_of r) labels) refl (found_first labels s (suc k) rs)
  where
    by : (p h : Bool) → has_text (label_of r) labels ≡ h → request_in (oldest_match labels s (suc k) rs) ≡ first_with labels (pending s (suc k) rs)
        → request_in (elim (not p && h) [ true ↦ Some (k, r) | false ↦ oldest_match labels s (suc k) rs ])
        ≡ first_with labels (elim p [ true ↦ pending s (suc k) rs | false ↦ r ∷ pending s (suc k) rs ])
    by true h e ih = ih
    by false true e ih = sym (ap (λ b. elim b [ true ↦ Some r | false ↦ first_with labels (pending s (suc k) rs) ]) e)
    by false false e ih = ih ∙ sym (ap (λ b. elim b [ true ↦ Some r | false ↦ first_with labels (pending s (suc k) rs) ]) e)

-- its number is not before
found_behind : (labels : List Text) (s : List ℕ) (k : ℕ) (rs : List RequestShape) (n : ℕ) (r : RequestShape) → oldest_match labels s k rs ≡ Some (n, r) → k ≤ n
found_behind labels s k [] n r e = no_some e
found_behind labels s k (q ∷ rs) n r e = by (not (has_place k s) && has_text (label_of q) labels) e (λ f. found_behind labels s (suc k) rs n r f)
  where
    by : (b : Bool) → ◌≡◌ {A = Option Numbered} (elim b [ true ↦ Some (k, q) | false ↦ oldest_match labels s (suc k) rs ]) (Some (n, r)) → (oldest_match labels s (suc k) rs ≡ Some (n, r) → suc k ≤ n) → k ≤ n
    by true e ih = let same : k ≡ n = ap (λ (x : Numbered). x.0) (some_is e) in omega (arith, same)
    by false e ih = omega (arith, ih e)

abbrev choose : Bool → List RequestShape → List RequestShape → List RequestShape
choose b xs ys = elim b [ true ↦ xs | false ↦ ys ]

abbrev is_either : Bool → Bool → Bool
is_either b c = elim b [ true ↦ true | false ↦ c ]

-- a number before all of these is none of theirs
passed_by : (s : List ℕ) (n k : ℕ) (rs : List RequestShape) → n < k → pending (n ∷ s) k rs ≡ pending s k rs
passed_by s n k [] lt = refl
passed_by s n k (r ∷ rs) lt =
    ap (λ (b : Bool). choose (is_either b (has_place k s)) (pending (n ∷ s) (suc k) rs) (r ∷ pending (n ∷ s) (suc k) rs)) (differs k n (λ e. omega (arith, lt, e)))
    ∙ ap (λ (ps : List RequestShape). choose (has_place k s) ps (r ∷ ps)) (passed_by s n (suc k) rs (omega (arith, lt)))

itself : (k : ℕ) → (k == k) ≡ true
itself k = grind arith

-- the others are left
left_by : (labels : List Text) (s : List ℕ) (k : ℕ) (rs : List RequestShape) (n : ℕ) (r : RequestShape) → oldest_match labels s k rs ≡ Some (n, r) → pending (n ∷ s) k rs ≡ others_with labels (pending s k rs)
left_by labels s k [] n r e = no_some e
left_by labels s k (q ∷ rs) n r e = by (has_place k s) refl (has_text (label_of q) labels) refl e (λ f. left_by labels s (suc k) rs n r f)
  where
    either_way : (b : Bool) → choose (is_either b true) (pending (n ∷ s) (suc k) rs) (q ∷ pending (n ∷ s) (suc k) rs) ≡ pending (n ∷ s) (suc k) rs
    either_way true = refl
    either_way false = refl

    by : (p : Bool) → has_place k s ≡ p → (h : Bool) → has_text (label_of q) labels ≡ h
        → ◌≡◌ {A = Option Numbered} (elim (not p && h) [ true ↦ Some (k, q) | false ↦ oldest_match labels s (suc k) rs ]) (Some (n, r))
        → (oldest_match labels s (suc k) rs ≡ Some (n, r) → pending (n ∷ s) (suc k) rs ≡ others_with labels (pending s (suc k) rs))
        → choose (is_either (k == n) (has_place k s)) (pending (n ∷ s) (suc k) rs) (q ∷ pending (n ∷ s) (suc k) rs)
        ≡ others_with labels (choose p (pending s (suc k) rs) (q ∷ pending s (suc k) rs))
    by true is h e f ih =
        ap (λ (b : Bool). choose (is_either (k == n) b) (pending (n ∷ s) (suc k) rs) (q ∷ pending (n ∷ s) (suc k) rs)) is
        ∙ either_way (k == n) ∙ ih f
    by false is true e f ih =
        let same : k ≡ n = ap (λ (x : Numbered). x.0) (some_is f) in
        ap (λ (b : Bool). choose (is_either b (has_place k s)) (pending (n ∷ s) (suc k) rs) (q ∷ pending (n ∷ s) (suc k) rs)) (ap (λ (m : ℕ). k == m) (sym same) ∙ itself k)
        ∙ passed_by s n (suc k) rs (omega (arith, same))
        ∙ sym (ap (λ (b : Bool). choose b (pending s (suc k) rs) (q ∷ others_with labels (pending s (suc k) rs))) e)
    by false is false e f ih =
        let behind : suc k ≤ n = found_behind labels s (suc k) rs n r f in
        ap (λ (b : Bool). choose (is_either b (has_place k s)) (pending (n ∷ s) (suc k) rs) (q ∷ pending (n ∷ s) (suc k) rs)) (differs k n (λ u. omega (arith, behind, u)))
        ∙ ap (λ (b : Bool). choose b (pending (n ∷ s) (suc k) rs) (q ∷ pending (n ∷ s) (suc k) rs)) is
        ∙ ap (λ (ps : List RequestShape). q ∷ ps) (ih f)
        ∙ sym (ap (λ (b : Bool). choose b (pending s (suc k) rs) (q ∷ others_with labels (pending s (suc k) rs))) e)

-- where the same wait, the same one is found
pub finds_same : (labels : List Text) (s t : List ℕ) (rs qs : List RequestShape) → waiting s rs ≡ waiting t qs → request_in (oldest_match labels s 0 rs) ≡ request_in (oldest_match labels t 0 qs)
finds_same labels s t rs qs same =
    found_first labels s 0 rs
    ∙ ap (first_with labels) (sym (unnumbered_is s 0 rs) ∙ same ∙ unnumbered_is t 0 qs)
    ∙ sym (found_first labels t 0 qs)

-- and the same are left
pub leaves_same : (labels : List Text) (s t : List ℕ) (rs qs : List RequestShape) (k n : ℕ) (r q : RequestShape) → waiting s rs ≡ waiting t qs
    → oldest_match labels s 0 rs ≡ Some (k, r) → oldest_match labels t 0 qs ≡ Some (n, q) → waiting (k ∷ s) rs ≡ waiting (n ∷ t) qs
leaves_same labels s t rs qs k n r q same e f =
    unnumbered_is (k ∷ s) 0 rs
    ∙ left_by labels s 0 rs k r e
    ∙ ap (others_with labels) (sym (unnumbered_is s 0 rs) ∙ same ∙ unnumbered_is t 0 qs)
    ∙ sym (left_by labels t 0 qs n q f)
    ∙ sym (unnumbered_is (n ∷ t) 0 qs)

pub serves_are_same : ServesAreSame
serves_are_same labels s t rs qs k r same is = by (oldest_match labels t 0 qs) refl
  where
    there : request_in (oldest_match labels t 0 qs) ≡ Some r
    there = sym (finds_same labels s t rs qs same) ∙ ap request_in is

    by : (o : Option Numbered) → oldest_match labels t 0 qs ≡ o → ServesSame labels s t rs qs k r
    by None e = no_some (ap request_in (sym e) ∙ there)
    by (Some x) e =
        let request : x.1 ≡ r = some_is (ap request_in (sym e) ∙ there) in
        let found : oldest_match labels t 0 qs ≡ Some (x.0, r) = e ∙ (λ i. Some (x.0, request i)) in
        record { number = x.0; found = found; left = leaves_same labels s t rs qs k x.0 r r same is found }

-- one more request waits last
pub waits_last : (served : List ℕ) (rs : List RequestShape) (r : RequestShape) → has_place (length rs) served ≡ false → waiting served (rs ++ r ∷ []) ≡ waiting served rs ++ r ∷ []
waits_last served rs r new = ap unnumbered (arrivals_wait served 0 rs r (ap (λ n. has_place n served) from_zero ∙ new)) ∙ unnumbered_last (pending_of served 0 rs) (0 + length rs, r)
  where
    from_zero : 0 + length rs ≡ length rs
    from_zero = omega arith

    unnumbered_last : (xs : List Numbered) (x : Numbered) → unnumbered (xs ++ x ∷ []) ≡ unnumbered xs ++ x.1 ∷ []
    unnumbered_last [] x = refl
    unnumbered_last (y ∷ xs) x = ap (λ l. y.1 ∷ l) (unnumbered_last xs x)
