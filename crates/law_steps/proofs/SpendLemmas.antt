-- The counts sum to the number of steps, and the run of one thread uses up its steps where it is not stuck.
use Rattle.std.specs.Prelude.{◌≡◌, ℕ, zero, suc, ◌<◌, ◌≤◌, T, List, [], ◌∷◌, Option, Some, None, length, map}
use Rattle.std.proofs.Common.{refl, sym, ap, ◌∙◌, arith, inl, inr, ⊎_elim, ◌⊎◌}
use Rattle.std.proofs.lemmas.Bool.{cases_lt}
use Rattle.std.specs.FinMap.{is_sorted}
use Rattle.std.specs.FinMap.Entries.{below_all}
use Rattle.law_steps.specs.Systems.{count}
use Rattle.law_steps.proofs.SystemCounts.{hit_same, hit_other, run_sum}
use Rattle.asp_model.specs.Names.{Name, name_cmp}
use Rattle.asp_model.specs.Term.{Tree}
use Rattle.asp_model.specs.Configuration.{Activity, Configuration, start}
use Rattle.asp_model.specs.Step.{ListsShape, step}
use Rattle.asp_model.specs.Replay.{lists_of, counts_of, total, steps_from, plain_run}
use Rattle.law_steps.specs.Reached.{RunsTo}
use Rattle.law_steps.specs.Replays.{CountsSum, PlainRunsSpend}
use Rattle.law_steps.proofs.NameLemmas.{name_case}
use Rattle.law_steps.proofs.StepLemmas.{step_taken}
use Rattle.law_steps.proofs.FactLemmas.{face}
use Rattle.law_steps.proofs.SoundLemmas.{at_name}
use Rattle.law_steps.proofs.StartLemmas.{start_face}
use Rattle.law_steps.proofs.ReachedLemmas.{start_right, start_is_reached, runs_go_on}
use Rattle.law_steps.proofs.EntryLemmas.{In, entry_found, found_entry, below_apart, first_of_both, second_of_both}
use Rattle.law_steps.proofs.LinkedLemmas.{acting, stuck_is_still}
use Rattle.law_steps.proofs.FlowLemmas.{machine, own_run, right_run, counts_run}
use Rattle.law_steps.proofs.ReplayLemmas.{total_is, names_cover, next_by, least_picks, least_rests}

-- Names stand once

absent : (lists : ListsShape) (k q : Name) (es : List (Name × Activity)) → k ≡ q → T (below_all name_cmp k es) → count (machine lists) q (map (λ x. x.0) es) ≡ 0
absent lists k q [] p h = refl
absent lists k q (e ∷ es) p h = omega (arith, hit_other (machine lists) q e.0 (λ d. below_apart k (e ∷ es) e h (inl refl) (sym (p ∙ d))), absent lists k q es p (second_of_both _ _ h))

named_once : (lists : ListsShape) (q : Name) (es : List (Name × Activity)) → T (is_sorted name_cmp es) → count (machine lists) q (map (λ x. x.0) es) ≤ 1
named_once lists q [] h = omega arith
named_once lists q (e ∷ es) h = ⊎_elim
    (λ p. omega (arith, hit_same (machine lists) q e.0 p, absent lists e.0 q es (sym p) (first_of_both _ _ h)))
    (λ a. omega (arith, hit_other (machine lists) q e.0 a, named_once lists q es (second_of_both _ _ h)))
    (name_case q e.0)

none_at_start : (program : Tree) (q : Name) → (at_name (start program) q).reductions ≡ 0
none_at_start program q = ap (λ x. x.reductions) (start_face program q)

listed_sum : (program : Tree) (lists : ListsShape) (ns : List Name) (c : Configuration) → RunsTo (Some lists) (start program) ns c → total (counts_of c) ≡ length ns
listed_sum program lists ns c run =
    let r = right_run (Some lists) ns (start program) c (start_right program) run in
    let ordered = r.sound.ordered.activities in
    total_is (λ q. (at_name c q).reductions) c.activities (λ x i. ap (λ o. (face o).reductions) (entry_found c.activities x ordered i))
    ∙ run_sum (machine lists) ns (map (λ x. x.0) c.activities) (λ q. (at_name c q).reductions) (λ q. omega (arith, counts_run lists ns (start program) c (start_right program) run q, none_at_start program q)) (names_cover lists c) (λ q. named_once lists q c.activities ordered)

pub counts_sum : CountsSum
counts_sum program None ns c run = listed_sum program (lists_of c) ns c (own_run program ns c run)
counts_sum program (Some lists) ns c run = listed_sum program lists ns c run

-- The run of one thread

-- it took all its steps, or nobody is left to step
abbrev Ended : ℕ → (Name → ℕ) → List Name → Configuration → Type 0
Ended k count ns d = (length ns ≤ k) × ((length ns ≡ k) ⊎ (next_by None count d ≡ None))

steps_end : (count : Name → ℕ) (k : ℕ) (c : Configuration) → (ns : List Name) × RunsTo None c ns (steps_from k None count c) × Ended k count ns (steps_from k None count c)
steps_end count zero c = ([], refl, (omega arith, inl refl))
steps_end count (suc k) c = elim (next_by None count c) as (λ o. next_by None count c ≡ o → (ns : List Name) × RunsTo None c ns (elim o [ None ↦ c | Some d ↦ steps_from k None count d ]) × Ended (suc k) count ns (elim o [ None ↦ c | Some d ↦ steps_from k None count d ])) [
  | None ↦ λ p. ([], refl, (omega arith, inr p))
  | Some d ↦ λ p.
      let x = least_picks None count c d c.activities p in
      let r = steps_end count k d in
      (x.0.0 ∷ r.0, (d, x.2, r.1), (omega (arith, r.2.0), ⊎_elim (λ e. inl (ap suc e)) (λ e. inr e) r.2.1))
] refl

pub within_total : (es : List (Name × Activity)) (x : Name × Activity) → In x es → x.1.reductions ≤ total (map (λ x. (x.0, x.1.reductions)) es)
within_total [] x i = absurd i
within_total (e ∷ es) x (inl p) = let h : x.1.reductions ≡ e.1.reductions = ap (λ z. z.1.reductions) p in omega (arith, h)
within_total (e ∷ es) x (inr i) = omega (arith, within_total es x i)

-- below the bound, where nobody is left to step, nobody steps
nobody : (n : ℕ) (c : Configuration) → total (counts_of c) < n → next_by None (λ name. n) c ≡ None → (m : Name) (o : Option Configuration) → step None c m ≡ o → o ≡ None
nobody n c less none m None is = refl
nobody n c less none m (Some d) is =
    let x = step_taken None c m d is in
    let a = acting c m x.0 x.1.intends in
    let y = found_entry c.activities m a.0 a.1 in
    let le = least_rests None (λ name. n) c c.activities none y.0 y.1 d (ap (step None c) y.2 ∙ is) in
    absurd (omega (arith, le, less, within_total c.activities y.0 y.1))

pub plain_runs_spend : PlainRunsSpend
plain_runs_spend n program =
    let c = plain_run n program in
    let r = steps_end (λ name. n) n (start program) in
    let sum = counts_sum program None r.0 c r.1 in
    let reached = runs_go_on program None r.0 (start program) c (start_is_reached program) r.1 in (
      omega (arith, sum, r.2.0),
      ⊎_elim
          (λ e. inr (sum ∙ e))
          (λ none. ⊎_elim
          (λ less. inl ((stuck_is_still program c reached).1 (λ m. nobody n c less none m (step None c m) refl)))
          (λ more. inr (omega (arith, sum, r.2.0, more)))
          (cases_lt (total (counts_of c)) n))
          r.2.1,
    )
