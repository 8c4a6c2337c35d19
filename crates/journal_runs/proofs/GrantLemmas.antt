-- Grants by numbers, and those of a run.
use Rattle.std.proofs.Common.{◌≡◌, ◌≢◌, ◌<◌, ◌≤◌, ◌+◌, ◌^◌, ◌++◌, ◌∷◌, [], ℕ, zero, suc, Bool, true, false, List, Option, Some, None, is_some, length, slice_get, slice_set, min, refl, sym, ap, subst, ◌∙◌, ⊎_elim, inl, inr, ◌⊎◌, arith}
use Rattle.std.specs.Prelude.{◌==◌}
use Rattle.std.proofs.lemmas.Bool.{cases_lt}
use Rattle.def_journals.specs.Journals.{grant_of, out_but}
use Rattle.law_chases.proofs.FutureLemmas.{no_some, some_is, none_true, true_false}
use Rattle.law_journals.specs.Budgets.{granted_in}
use Rattle.law_traces.specs.Standings.{least_out}
use Rattle.replay_parts.proofs.ColumnLemmas.{is_same, number_case, same_number, set_here, set_other}
use Rattle.journal_runs.specs.Grants.{IsGranted, IsLeastOut}
use Rattle.journal_runs.specs.Runs.{grant_at}

abbrev grant_or : Bool → ℕ → Option ℕ → Option ℕ
grant_or b g o = elim b [ true ↦ Some g | false ↦ o ]

abbrev but_or : Bool → ℕ × ℕ → List (ℕ × ℕ) → List (ℕ × ℕ)
but_or b x xs = elim b [ true ↦ xs | false ↦ x ∷ xs ]

not_equal : (j k : ℕ) → j ≢ k → (j == k) ≡ false
not_equal j k d = elim (j == k) as (λ b. (j == k) ≡ b → b ≡ false) [ true ↦ λ e. absurd (d (is_same j k e)) | false ↦ λ e. refl ] refl

-- Those that are out

pub but_here : (k : ℕ) (xs : List (ℕ × ℕ)) → grant_of k (out_but k xs) ≡ None
but_here k [] = refl
but_here k (x ∷ xs) = by (k == x.0) refl (but_here k xs)
  where
    by : (b : Bool) → (k == x.0) ≡ b → grant_of k (out_but k xs) ≡ None → grant_of k (but_or b x (out_but k xs)) ≡ None
    by true e rest = rest
    by false e rest = ap (λ b. grant_or b x.1 (grant_of k (out_but k xs))) e ∙ rest

pub but_other : (j k : ℕ) (xs : List (ℕ × ℕ)) → j ≢ k → grant_of j (out_but k xs) ≡ grant_of j xs
but_other j k [] d = refl
but_other j k (x ∷ xs) d = by (k == x.0) refl (but_other j k xs d)
  where
    by : (b : Bool) → (k == x.0) ≡ b → grant_of j (out_but k xs) ≡ grant_of j xs → grant_of j (but_or b x (out_but k xs)) ≡ grant_or (j == x.0) x.1 (grant_of j xs)
    by true e rest = rest ∙ ap (λ b. grant_or b x.1 (grant_of j xs)) (sym (not_equal j x.0 (λ same. d (same ∙ sym (is_same k x.0 e)))))
    by false e rest = ap (λ o. grant_or (j == x.0) x.1 o) rest

pub grant_within : (k g : ℕ) (xs : List (ℕ × ℕ)) → grant_of k xs ≡ Some g → g ≤ granted_in xs
grant_within k g [] h = no_some h
grant_within k g (x ∷ xs) h = by (k == x.0) h (grant_within k g xs)
  where
    by : (b : Bool) → grant_or b x.1 (grant_of k xs) ≡ Some g → (grant_of k xs ≡ Some g → g ≤ granted_in xs) → g ≤ x.1 + granted_in xs
    by true e more = let same : x.1 ≡ g = some_is e in omega arith
    by false e more = let m = more e in omega arith

-- grants that stand for those that are out
abbrev pub StandForOut : List (Option ℕ) → List (ℕ × ℕ) → Type 0
StandForOut grants out = (k : ℕ) → grant_at grants k ≡ grant_of k out

pub out_more : (old new : List (Option ℕ)) (out : List (ℕ × ℕ)) (k g : ℕ) → StandForOut old out → IsGranted old k (Some g) new → StandForOut new ((k, g) ∷ out)
out_more old new out k g h s j = ⊎_elim
    (λ same. ap (grant_at new) same ∙ s.here ∙ ap (λ b. grant_or b g (grant_of j out)) (sym (ap (λ i. j == i) (sym same) ∙ same_number j)))
    (λ apart. s.others j apart ∙ h j ∙ ap (λ b. grant_or b g (grant_of j out)) (sym (not_equal j k apart)))
    (number_case j k)

pub out_less : (old new : List (Option ℕ)) (out : List (ℕ × ℕ)) (k : ℕ) → StandForOut old out → IsGranted old k None new → StandForOut new (out_but k out)
out_less old new out k h s j = ⊎_elim
    (λ same. ap (grant_at new) same ∙ s.here ∙ sym (ap (λ i. grant_of i (out_but k out)) same ∙ but_here k out))
    (λ apart. s.others j apart ∙ h j ∙ sym (but_other j k out apart))
    (number_case j k)

-- The least

abbrev least_with : ℕ → Option ℕ → Option ℕ
least_with k o = elim o [ None ↦ Some k | Some j ↦ Some (min k j) ]

own_grant : (x : ℕ × ℕ) (xs : List (ℕ × ℕ)) → grant_of x.0 (x ∷ xs) ≡ Some x.1
own_grant x xs = ap (λ b. grant_or b x.1 (grant_of x.0 xs)) (same_number x.0)

least_at : (m : ℕ) (xs : List (ℕ × ℕ)) → least_out xs ≡ Some m → is_some (grant_of m xs) ≡ true
least_at m [] h = no_some h
least_at m (x ∷ xs) h = by (m == x.0) refl (least_out xs) refl h (least_at m xs)
  where
    by : (b : Bool) → (m == x.0) ≡ b → (o : Option ℕ) → least_out xs ≡ o → least_with x.0 o ≡ Some m → (least_out xs ≡ Some m → is_some (grant_of m xs) ≡ true) → is_some (grant_or b x.1 (grant_of m xs)) ≡ true
    by true e o is g rest = refl
    by false e None is g rest = absurd (true_false (m == x.0) (ap (λ k. m == k) (some_is g) ∙ same_number m) e)
    by false e (Some q) is g rest =
        let apart : m ≢ x.0 = λ same. true_false (m == x.0) (ap (λ k. m == k) (sym same) ∙ same_number m) e in
        let least : min x.0 q ≡ m = some_is g in
        rest (is ∙ ap Some (omega (arith, least, apart)))

least_below : (j : ℕ) (xs : List (ℕ × ℕ)) → is_some (grant_of j xs) ≡ true → (m : ℕ) × (least_out xs ≡ Some m) × (m ≤ j)
least_below j [] h = none_true h
least_below j (x ∷ xs) h = by (j == x.0) refl h (least_below j xs)
  where
    by_rest : j ≡ x.0 → (o : Option ℕ) → (m : ℕ) × (least_with x.0 o ≡ Some m) × (m ≤ j)
    by_rest same None = (x.0, refl, omega (arith, same))
    by_rest same (Some q) = (min x.0 q, refl, omega (arith, same))

    by : (b : Bool) → (j == x.0) ≡ b → is_some (grant_or b x.1 (grant_of j xs)) ≡ true → (is_some (grant_of j xs) ≡ true → (m : ℕ) × (least_out xs ≡ Some m) × (m ≤ j)) → (m : ℕ) × (least_with x.0 (least_out xs) ≡ Some m) × (m ≤ j)
    by true e g rest = by_rest (is_same j x.0 e) (least_out xs)
    by false e g rest =
        let r = rest g in
        (min x.0 r.0, ap (least_with x.0) r.1, omega (arith, r.2))

pub least_some : (k : ℕ) (xs : List (ℕ × ℕ)) → is_some (grant_of k xs) ≡ true → ((j : ℕ) → j < k → grant_of j xs ≡ None) → least_out xs ≡ Some k
least_some k xs here before =
    let m = least_below k xs here in
    ⊎_elim
    (λ less. none_true (ap is_some (sym (before m.0 less)) ∙ least_at m.0 xs m.1))
    (λ le. m.1 ∙ ap Some (omega (arith, le, m.2)))
    (cases_lt m.0 k)

pub least_none : (xs : List (ℕ × ℕ)) → ((j : ℕ) → grant_of j xs ≡ None) → least_out xs ≡ None
least_none [] h = refl
least_none (x ∷ xs) h = no_some (sym (h x.0) ∙ own_grant x xs)

-- Lists of grants

pub grant_past : (xs : List (Option ℕ)) (k : ℕ) → length xs ≤ k → grant_at xs k ≡ None
grant_past [] k h = refl
grant_past (x ∷ xs) zero h = absurd (omega (arith, h))
grant_past (x ∷ xs) (suc k) h = grant_past xs k (omega (arith, h))

-- one more is in
pub grant_pushed : (xs : List (Option ℕ)) (j : ℕ) → grant_at (xs ++ None ∷ []) j ≡ grant_at xs j
grant_pushed [] zero = refl
grant_pushed [] (suc j) = refl
grant_pushed (x ∷ xs) zero = refl
grant_pushed (x ∷ xs) (suc j) = grant_pushed xs j

pub granted_set : (first xs : List (Option ℕ)) (k : ℕ) (o : Option ℕ) → ((j : ℕ) → grant_at xs j ≡ grant_at first j) → (length first ≤ 2 ^ 32 → length xs ≤ 2 ^ 32) → k < length xs → length (slice_set xs k o) ≡ length xs → IsGranted first k o (slice_set xs k o)
granted_set first xs k o same few within long = record {
  here = ap (λ (q : Option (Option ℕ)). elim q [ None ↦ None | Some p ↦ p ]) (set_here xs k o within);
  others = λ j d. ap (λ (q : Option (Option ℕ)). elim q [ None ↦ None | Some p ↦ p ]) (set_other xs j k o d) ∙ same j;
  few = λ h. let f = few h in omega (arith, f, long);
}
