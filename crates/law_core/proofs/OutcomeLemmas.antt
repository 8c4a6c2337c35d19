-- The end of a run, and its replay.
use Rattle.std.proofs.Common.{◌≡◌, ◌&&◌, ℕ, Bool, true, false, T, List, [], ◌∷◌, Option, Some, None, is_some, map, nat_lt, refl, sym, ap, subst, ◌∙◌, arith}
use Rattle.std.specs.Prelude.{◌||◌, cond}
use Rattle.std.proofs.lemmas.Simd.{map-map}
use Rattle.std.specs.List.{list_any}
use Rattle.asp_model.specs.Term.{Tree}
use Rattle.asp_model.specs.Configuration.{Configuration}
use Rattle.asp_model.specs.Step.{ListsShape}
use Rattle.asp_model.specs.Status.{VerdictShape, Blocked, Budget, End, is_awaiting, is_running, statuses_of, verdict_of}
use Rattle.asp_model.specs.Replay.{CountsShape, Fits, counts_of, lists_of, replay, total}
use Rattle.asp_model.specs.Outcome.{ActivityReportShape, activity_report, counts_in, lists_in, outcome_of}
use Rattle.def_journals.specs.Owed.{goes_on, is_any, next_owed}
use Rattle.law_journals.specs.Budgets.{granted_in}
use Rattle.law_journals.proofs.BudgetLemmas.{budgets_are_kept}
use Rattle.law_chases.proofs.FutureLemmas.{no_some, none_true, some_is}
use Rattle.def_paths.specs.Agree.{Agrees, Pairs, no_pair, pair}
use Rattle.def_paths.specs.Outcomes.{EndShape, EndsAgree, OutcomesAgree, end_of, report_lines_to, reported, whole_outcome_of}
use Rattle.law_paths.specs.Correct.{IsReplayed}
use Rattle.law_paths.proofs.ReplayLemmas.{journals_are_replayed}
use Rattle.asp_model.specs.Chase.{Chase}
use Rattle.asp_model.specs.Names.{FutureShape}
use Rattle.law_core.specs.Outcomes.{JournalsEnd, VerdictsSpend}

-- What an outcome shows of a configuration

shown_lists : (c : Configuration) → lists_in (outcome_of c) ≡ lists_of c
shown_lists c = map-map (λ (r : ActivityReportShape). (r.name, r.senders)) (activity_report c) c.activities

shown_counts : (c : Configuration) → counts_in (outcome_of c) ≡ counts_of c
shown_counts c = map-map (λ (r : ActivityReportShape). (r.name, r.count)) (activity_report c) c.activities

reported_is : (c : Configuration) → reported (whole_outcome_of c) ≡ outcome_of c
reported_is c = ap (λ (rs : List ActivityReportShape). record { verdict = verdict_of c; activities = rs }) (map-map (λ (e : EndShape). e.report) (end_of c) c.activities)

-- outcomes that agree report the same

same_reports : (k l : FutureShape → Chase) (xs ys : List EndShape) → Pairs (EndsAgree k l) xs ys → map (λ (e : EndShape). e.report) xs ≡ map (λ (e : EndShape). e.report) ys
same_reports k l _ _ no_pair = refl
same_reports k l _ _ (pair {xs = xs} {ys = ys} x more) = λ i. x.0 i ∷ same_reports k l xs ys more i

same_outcome : (c d : Configuration) → OutcomesAgree (whole_outcome_of c) (whole_outcome_of d) → outcome_of d ≡ outcome_of c
same_outcome c d h =
    let reports = same_reports _ _ (whole_outcome_of c).ends (whole_outcome_of d).ends h.ends in
    let both : reported (whole_outcome_of c) ≡ reported (whole_outcome_of d) = λ i. record { verdict = h.verdict i; activities = reports i } in
    sym (reported_is d) ∙ sym both ∙ reported_is c

replayed : (program : Tree) (c : Configuration) → IsReplayed program c (replay program (lists_of c) (counts_of c)) → (lists : ListsShape) (counts : CountsShape) → lists ≡ lists_of c → counts ≡ counts_of c → Fits program lists counts × Agrees c (replay program lists counts) × (outcome_of (replay program lists counts) ≡ outcome_of c) × ((depth : Option ℕ) → report_lines_to depth (whole_outcome_of (replay program lists counts)) ≡ report_lines_to depth (whole_outcome_of c))
replayed program c h lists counts e f =
    let whole : (ls : ListsShape) (ks : CountsShape) → Type 0 = λ ls ks. Fits program ls ks × Agrees c (replay program ls ks) × (outcome_of (replay program ls ks) ≡ outcome_of c) × ((depth : Option ℕ) → report_lines_to depth (whole_outcome_of (replay program ls ks)) ≡ report_lines_to depth (whole_outcome_of c)) in
    let d = replay program (lists_of c) (counts_of c) in
    subst (λ ls. whole ls counts) (sym e) (subst (whole (lists_of c)) (sym f) (h.fits, h.agrees, same_outcome c d h.outcomes, λ depth. sym (h.reports depth)))

pub journals_end : JournalsEnd
journals_end program budget journal s bare run =
    let c = s.configuration in
    let x = replayed program c (journals_are_replayed program budget journal s bare run) (lists_in (outcome_of c)) (counts_in (outcome_of c)) (shown_lists c) (shown_counts c) in
    record { fits = x.0; agrees = x.1; outcome = x.2; reports = x.3; lists = shown_lists c; counts = shown_counts c }

-- Verdicts

abbrev told_unless : Bool → VerdictShape → Option VerdictShape
told_unless b v = elim b [ true ↦ None | false ↦ Some v ]

told_is : (b : Bool) (w v : VerdictShape) → told_unless b w ≡ Some v → (b ≡ false) × (w ≡ v)
told_is true w v h = no_some h
told_is false w v h = (refl, some_is h)

both_false : (a b : Bool) → (a || b) ≡ false → (a ≡ false) × (b ≡ false)
both_false true b h = none_true (sym h)
both_false false b h = (refl, h)

nobody_out : (out : List (ℕ × ℕ)) → is_any out ≡ false → granted_in out ≡ 0
nobody_out [] h = refl
nobody_out (x ∷ xs) h = none_true (sym h)

abbrev is_budget : VerdictShape → Bool
is_budget Budget = true
is_budget v = false

verdict_runs : (b a : Bool) → cond b Budget (cond a Blocked End) ≡ Budget → b ≡ true
verdict_runs true a h = refl
verdict_runs false true h = absurd (subst T (sym (ap is_budget h)) tt)
verdict_runs false false h = absurd (subst T (sym (ap is_budget h)) tt)

nothing_left : (left : ℕ) (b : Bool) → b ≡ true → (nat_lt 0 left && b) ≡ false → left ≡ 0
nothing_left left b runs none = by (nat_lt 0 left) refl (ap (λ x. nat_lt 0 left && x) (sym runs) ∙ none)
  where
    by : (x : Bool) → nat_lt 0 left ≡ x → (x && true) ≡ false → left ≡ 0
    by true is h = none_true (sym h)
    by false is h = grind (arith, is)

pub verdicts_spend : VerdictsSpend
verdicts_spend h s holders answers v sound run told =
    let c = s.configuration in
    let x = told_is (is_any s.out || (is_some (next_owed s holders answers) || goes_on s)) (verdict_of c) v told in
    let first = both_false (is_any s.out) (is_some (next_owed s holders answers) || goes_on s) x.0 in
    let second = both_false (is_some (next_owed s holders answers)) (goes_on s) first.1 in
    let kept = budgets_are_kept h s sound run in
    let none = nobody_out s.out first.0 in
    let sums : total (counts_in (outcome_of c)) ≡ total (counts_of c) = ap total (shown_counts c) in (
      x.1,
      record {
        within = omega (arith, sums, kept);
        spent = λ is. (
            let runs : list_any is_running (statuses_of c) ≡ true = verdict_runs (list_any is_running (statuses_of c)) (list_any is_awaiting (statuses_of c)) is in
            let left = nothing_left s.left (list_any is_running (statuses_of c)) runs second.1 in
            omega (arith, sums, kept, none, left));
      },
    )
