-- The outcome of a run is well formed.
use Rattle.std.specs.Prelude.{◌≡◌, ℕ, zero, suc, ◌≤◌, ◌&&◌, Bool, true, false, T, List, [], ◌∷◌, Some, map, is_some, slice_get}
use Rattle.std.specs.List.{list_all}
use Rattle.std.proofs.Common.{refl, sym, ap, subst, ◌∙◌, arith, inl, inr}
use Rattle.std.proofs.lemmas.Bool.{and_from, and_parts, eqb-true}
use Rattle.std.proofs.lemmas.Simd.{map-map}
use Rattle.std.specs.FinMap.{find, is_sorted}
use Rattle.std.specs.FinMap.Entries.{below_all}
use Rattle.std.specs.Ordering.{is_lt}
use Rattle.asp_model.specs.declared.limits.TheConstants.{MOST_REDUCTIONS}
use Rattle.asp_model.specs.Names.{Name, FutureShape, main_name, name_cmp, same_name}
use Rattle.asp_model.specs.Term.{Tree}
use Rattle.asp_model.specs.Configuration.{RequestShape, ReceptionShape, From, Poll, Activity, Configuration, log_of, requests_of}
use Rattle.asp_model.specs.Intent.{StatusShape, Awaits}
use Rattle.asp_model.specs.Status.{status_of, verdict_of}
use Rattle.asp_model.specs.Replay.{total, lists_of, counts_of}
use Rattle.asp_model.specs.Outcome.{ActivityReportShape, activity_report, outcome_of, lists_in, counts_in}
use Rattle.asp_model.specs.WellFormed.{is_index, is_name, is_future_name, is_named_reception, is_named_status, is_sound_report, begins_with_main}
use Rattle.def_paths.specs.Outcomes.{EndShape, end_of, whole_outcome_of, reported}
use Rattle.law_steps.specs.Reached.{IsAt}
use Rattle.law_steps.specs.Kept.{Tells}
use Rattle.law_steps.proofs.LogLemmas.{logs_tell}
use Rattle.law_steps.proofs.NameLemmas.{name_itself, is_there}
use Rattle.law_chases.proofs.FutureLemmas.{none_true}
use Rattle.law_steps.proofs.EntryLemmas.{In, entry_found, found_entry, first_of_both, second_of_both}
use Rattle.law_steps.proofs.ReachedLemmas.{reached_right}
use Rattle.law_steps.proofs.NamesLaws.{entries_ascend, requests_are_sends}
use Rattle.law_steps.proofs.LinkedLemmas.{awaited_are_begun}
use Rattle.law_outcomes.specs.Outcomes.{IsShown, OutcomesAreWellFormed}
use Rattle.law_outcomes.proofs.HeadLaws.{lines_are_printable}
use Rattle.law_outcomes.proofs.NumberLemmas.{there_is_named, sender_is_named, begun_is_named}

-- What an outcome shows of a configuration

lists_shown : (c : Configuration) (es : List (Name × Activity)) → map {B = Name × List ReceptionShape} (λ a. (a.name, a.senders)) (map (activity_report c) es) ≡ map (λ x. (x.0, log_of c x.0)) es
lists_shown c [] = refl
lists_shown c (e ∷ es) = ap (λ l. (e.0, log_of c e.0) ∷ l) (lists_shown c es)

counts_shown : (c : Configuration) (es : List (Name × Activity)) → map {B = Name × ℕ} (λ a. (a.name, a.count)) (map (activity_report c) es) ≡ map (λ x. (x.0, x.1.reductions)) es
counts_shown c [] = refl
counts_shown c (e ∷ es) = ap (λ l. (e.0, e.1.reductions) ∷ l) (counts_shown c es)

pub outcome_lists : (c : Configuration) → lists_in (outcome_of c) ≡ lists_of c
outcome_lists c = lists_shown c c.activities

-- a whole outcome without the states
pub reported_is : (c : Configuration) → reported (whole_outcome_of c) ≡ outcome_of c
reported_is c = ap (λ (rs : List ActivityReportShape). record { verdict = verdict_of c; activities = rs }) (map-map (λ (e : EndShape). e.report) (end_of c) c.activities)

pub outcome_counts : (c : Configuration) → counts_in (outcome_of c) ≡ counts_of c
outcome_counts c = counts_shown c c.activities

-- Order

true_is : (b : Bool) → T b → b ≡ true
true_is true h = refl
true_is false h = absurd h

below_counts : (n : Name) (es : List (Name × Activity)) → below_all name_cmp n (map (λ x. (x.0, x.1.reductions)) es) ≡ below_all name_cmp n es
below_counts n [] = refl
below_counts n (e ∷ es) = ap (λ b. is_lt (name_cmp n e.0) && b) (below_counts n es)

counts_sorted : (es : List (Name × Activity)) → is_sorted name_cmp (map (λ x. (x.0, x.1.reductions)) es) ≡ is_sorted name_cmp es
counts_sorted [] = refl
counts_sorted (e ∷ es) = λ i. below_counts e.0 es i && counts_sorted es i

below_in : (n : Name) (es : List (Name × Activity)) (x : Name × Activity) → T (below_all name_cmp n es) → In x es → T (is_lt (name_cmp n x.0))
below_in n [] x h i = absurd i
below_in n (e ∷ es) x h (inl p) = subst (λ z. T (is_lt (name_cmp n z.0))) (sym p) (first_of_both _ _ h)
below_in n (e ∷ es) x h (inr i) = below_in n es x (second_of_both _ _ h) i

-- no name is before main's
main_is_least : (n : Name) → is_name n ≡ true → T (is_lt (name_cmp n main_name)) → ⊥
main_is_least [] h lt = none_true h
main_is_least (zero ∷ []) h lt = lt
main_is_least (zero ∷ k ∷ ks) h lt = lt
main_is_least (suc m ∷ ms) h lt = omega (arith, eqb-true (suc m) 0 (and_parts _ (list_all is_index ms) h).0)

main_first : (c : Configuration) (es : List (Name × Activity)) (x : Name × Activity) → T (is_sorted name_cmp es) → ((y : Name × Activity) → In y es → is_name y.0 ≡ true) → In x es → x.0 ≡ main_name → begins_with_main (map (activity_report c) es) ≡ true
main_first c [] x sorted named i is = absurd i
main_first c (e ∷ es) x sorted named (inl p) is = ap (same_name main_name) (ap (λ z. z.0) (sym p) ∙ is) ∙ name_itself main_name
main_first c (e ∷ es) x sorted named (inr i) is = absurd (main_is_least e.0 (named e (inl refl)) (subst (λ n. T (is_lt (name_cmp e.0 n))) is (below_in e.0 es x (first_of_both _ _ sorted) i)))

-- Reports of activities

status_named : (s : StatusShape) → ((f : FutureShape) → s ≡ Awaits f → is_future_name f ≡ true) → is_named_status s ≡ true
status_named (Awaits f) h = h f refl
status_named s h = refl

-- the senders in a log have names, where those of its requests have
log_named : (log : List ReceptionShape) (rs : List RequestShape) → Tells log rs → ((k : ℕ) (r : RequestShape) → slice_get rs k ≡ Some r → is_name r.sender ≡ true) → list_all is_named_reception log ≡ true
log_named [] rs t h = refl
log_named (Poll ∷ xs) rs t h = log_named xs rs t h
log_named (From n ∷ xs) [] t h = cc
log_named (From n ∷ xs) (r ∷ rs) t h =
    let head : n ≡ r.sender = ap (λ l. elim l [ [] ↦ n | y ∷ ys ↦ y ]) t in
    let rest : Tells xs rs = ap (λ l. elim l [ [] ↦ [] | y ∷ ys ↦ ys ]) t in
    and_from _ _ (subst (λ m. is_name m ≡ true) (sym head) (h 0 r refl)) (log_named xs rs rest (λ k. h (suc k)))

all_sound : (c : Configuration) (es : List (Name × Activity)) → ((x : Name × Activity) → In x es → is_sound_report (activity_report c x) ≡ true) → list_all is_sound_report (map (activity_report c) es) ≡ true
all_sound c [] h = refl
all_sound c (e ∷ es) h = and_from _ _ (h e (inl refl)) (all_sound c es (λ x i. h x (inr i)))

sound_report : (program : Tree) (c : Configuration) → IsShown program c → (x : Name × Activity) → IsAt c x.0 x.1 → is_sound_report (activity_report c x) ≡ true
sound_report program c s x is = and_from _ _
    (there_is_named program c s.reached s.within x.0 (ap is_some is))
    (and_from _ _
    (status_named (status_of c x.0) (λ f st. begun_is_named program c s.reached s.within f (awaited_are_begun program c x.0 f s.reached st)))
    (and_from _ _
    (log_named (log_of c x.0) (requests_of c x.0) (logs_tell program c x.0 s.reached) (λ k r st. let q = requests_are_sends program c x.0 k r s.reached st in sender_is_named program c s.reached s.within r.sender (omega (arith, q.first, q.last))))
    (lines_are_printable program c x.0 x.1 s.texts s.reached is)))

pub outcomes_are_well_formed : OutcomesAreWellFormed
outcomes_are_well_formed program c s =
    let sorted = (entries_ascend program c s.reached).activities in
    let at : (x : Name × Activity) → In x c.activities → IsAt c x.0 x.1 = λ x i. entry_found c.activities x sorted i in
    let main = is_there (find name_cmp main_name c.activities) (reached_right program c s.reached).tidy.main in
    let entry = found_entry c.activities main_name main.0 main.1 in
    record {
      main = main_first c c.activities entry.0 sorted (λ x i. there_is_named program c s.reached s.within x.0 (ap is_some (at x i))) entry.1 entry.2;
      ascending = ap (is_sorted name_cmp) (outcome_counts c) ∙ counts_sorted c.activities ∙ true_is (is_sorted name_cmp c.activities) sorted;
      sound = all_sound c c.activities (λ x i. sound_report program c s x (at x i));
      within = subst (λ counts. total counts ≤ MOST_REDUCTIONS) (sym (outcome_counts c)) s.within;
    }
