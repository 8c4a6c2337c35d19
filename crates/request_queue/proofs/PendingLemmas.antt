-- Pending requests, and their oldest match.
use Rattle.std.proofs.Common.{◌≡◌, ◌+◌, ◌<◌, ℕ, suc, Bool, true, false, cond, not, ◌&&◌, List, [], ◌∷◌, ◌++◌, Option, Some, length, nat_lt, nat_eq, refl, sym, ap, subst, ◌∙◌, T, arith}
use Rattle.std.proofs.lemmas.Bool.Decides.{nat_tests}
use Rattle.std.specs.Ordering.{nat_cmp, is_eq}
use Rattle.std.specs.declared.cmp.Ordering.TheVariants.{Less, Equal, Greater}
use Rattle.std.specs.Map.{remove_entry}
use Rattle.std.specs.BTreeMap.{is_at}
use Rattle.asp_model.specs.Term.{has_text}
use Rattle.asp_model.specs.Parcel.{has_place}
use Rattle.asp_model.specs.Configuration.{RequestShape, label_of}
use Rattle.asp_model.specs.Intent.{Numbered, oldest_match}
use Rattle.request_queue.specs.Pending.{ArrivalsWait, MatchesArePending, ServedLeave, oldest, pending_of}

-- Numbers

pub equal_numbers : (m n : ℕ) → nat_eq m n ≡ is_eq (nat_cmp m n)
equal_numbers m n = by (nat_lt m n) (nat_eq m n) refl refl
  where
    by : (l e : Bool) → nat_lt m n ≡ l → nat_eq m n ≡ e → e ≡ is_eq (cond l Less (cond e Equal Greater))
    by true true p q = absurd (grind (arith, nat_tests))
    by true false p q = refl
    by false true p q = refl
    by false false p q = refl

-- Laws of received requests

abbrev either : Bool → Option Numbered → Option Numbered → Option Numbered
either b x y = elim b [ true ↦ x | false ↦ y ]

pub matches_are_pending : MatchesArePending
matches_are_pending labels served k [] = refl
matches_are_pending labels served k (r ∷ rs) = by (has_place k served) (matches_are_pending labels served (suc k) rs)
  where
    by : (a : Bool) → oldest_match labels served (suc k) rs ≡ oldest labels (pending_of served (suc k) rs)
        → either (not a && has_text (label_of r) labels) (Some (k, r)) (oldest_match labels served (suc k) rs) ≡ oldest labels (elim a [ true ↦ pending_of served (suc k) rs | false ↦ (k, r) ∷ pending_of served (suc k) rs ])
    by true next = next
    by false next = ap (either (has_text (label_of r) labels) (Some (k, r))) next

abbrev skip_or : Bool → Numbered → List Numbered → List Numbered
skip_or b x xs = elim b [ true ↦ xs | false ↦ x ∷ xs ]

pub arrivals_wait : ArrivalsWait
arrivals_wait served k [] r new = by (has_place k served) (ap (λ n. has_place n served) zero_more ∙ new)
  where
    zero_more : k ≡ k + 0
    zero_more = omega arith

    by : (b : Bool) → b ≡ false → skip_or b (k, r) [] ≡ (k + 0, r) ∷ []
    by true e = absurd (subst T e tt)
    by false e = λ i. (zero_more i, r) ∷ []
arrivals_wait served k (q ∷ rs) r new = by (has_place k served) (arrivals_wait served (suc k) rs r (ap (λ n. has_place n served) more ∙ new))
  where
    more : suc k + length rs ≡ k + suc (length rs)
    more = omega arith

    by : (b : Bool) → pending_of served (suc k) (rs ++ r ∷ []) ≡ pending_of served (suc k) rs ++ (suc k + length rs, r) ∷ []
        → skip_or b (k, q) (pending_of served (suc k) (rs ++ r ∷ [])) ≡ skip_or b (k, q) (pending_of served (suc k) rs) ++ (k + suc (length rs), r) ∷ []
    by true next = next ∙ (λ i. pending_of served (suc k) rs ++ (more i, r) ∷ [])
    by false next = ap (λ xs. (k, q) ∷ xs) (next ∙ (λ i. pending_of served (suc k) rs ++ (more i, r) ∷ []))

-- a number that is past is served no more
later : (served : List ℕ) (n k : ℕ) (rs : List RequestShape) → n < k → pending_of (n ∷ served) k rs ≡ pending_of served k rs
later served n k [] lt = refl
later served n k (r ∷ rs) lt = (λ i. skip_or (elim (apart i) [ true ↦ true | false ↦ has_place k served ]) (k, r) (later served n (suc k) rs (omega (arith, lt)) i))
  where
    apart : nat_eq k n ≡ false
    apart = grind (arith, nat_tests, lt)

pub served_leave : ServedLeave
served_leave served n k [] = refl
served_leave served n k (r ∷ rs) = by (nat_eq k n) refl (has_place k served) (served_leave served n (suc k) rs)
  where
    tie : nat_eq k n ≡ true → is_at (nat_cmp n) k ≡ true
    tie e = sym (equal_numbers n k) ∙ grind (arith, nat_tests, e)

    untie : nat_eq k n ≡ false → is_at (nat_cmp n) k ≡ false
    untie e = sym (equal_numbers n k) ∙ grind (arith, nat_tests, e)

    by : (a : Bool) → nat_eq k n ≡ a → (b : Bool) → pending_of (n ∷ served) (suc k) rs ≡ remove_entry (is_at (nat_cmp n)) (pending_of served (suc k) rs)
        → skip_or (elim a [ true ↦ true | false ↦ b ]) (k, r) (pending_of (n ∷ served) (suc k) rs) ≡ remove_entry (is_at (nat_cmp n)) (skip_or b (k, r) (pending_of served (suc k) rs))
    by true e true next = next
    by true e false next = let same : k ≡ n = grind (arith, nat_tests) in later served n (suc k) rs (omega (arith, same)) ∙ sym (ap (λ t. cond t (pending_of served (suc k) rs) ((k, r) ∷ remove_entry (is_at (nat_cmp n)) (pending_of served (suc k) rs))) (tie e))
    by false e true next = next
    by false e false next = ap (λ xs. (k, r) ∷ xs) next ∙ sym (ap (λ t. cond t (pending_of served (suc k) rs) ((k, r) ∷ remove_entry (is_at (nat_cmp n)) (pending_of served (suc k) rs))) (untie e))
