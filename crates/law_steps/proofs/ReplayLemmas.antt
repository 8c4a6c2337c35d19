-- The replay under lists and counts reaches what a run with them reaches.
use Rattle.std.specs.Prelude.{◌≡◌, ℕ, zero, suc, ◌-◌, ◌<◌, ◌≤◌, nat_lt, Bool, true, false, List, [], ◌∷◌, Option, Some, None, length, map, is_some}
use Rattle.std.proofs.Common.{refl, sym, ap, subst, ◌∙◌, arith, inl, inr, ⊎_elim}
use Rattle.std.proofs.lemmas.Bool.{ltb-true, ltb-false}
use Rattle.std.specs.FinMap.{find}
use Rattle.law_steps.specs.Systems.{count, Covers}
use Rattle.law_steps.specs.Systems as runs
use Rattle.law_steps.specs.SystemRules.{Rule, repeated}
use Rattle.law_steps.proofs.SystemCounts.{hit_same, run_length}
use Rattle.law_steps.proofs.SystemRules.{rule_reaches}
use Rattle.asp_model.specs.Names.{Name, name_cmp}
use Rattle.asp_model.specs.Term.{Tree}
use Rattle.asp_model.specs.Configuration.{Activity, Configuration, start}
use Rattle.asp_model.specs.Step.{ListsShape, step}
use Rattle.asp_model.specs.Replay.{CountsShape, lists_of, counts_of, total, count_in, least_step, steps_from, plain_run, replay, Fits}
use Rattle.law_steps.specs.Reached.{RunsTo}
use Rattle.law_steps.specs.Replays.{IsItsReplay, OwnListsShow, RunsUnderOwnLists, ReplaysLead, ReplaysAreRuns, RunsReplay, PlainRunsReplay, PlainRunsAreRuns, EndsWith, FitsWhereRun, RunsAgree}
use Rattle.law_chases.proofs.FutureLemmas.{no_some, true_false}
use Rattle.law_steps.proofs.StepLemmas.{step_taken}
use Rattle.law_steps.proofs.FactLemmas.{face}
use Rattle.law_steps.proofs.SoundLemmas.{at_name}
use Rattle.law_steps.proofs.CommuteLemmas.{took}
use Rattle.law_steps.proofs.ReachedLemmas.{Right, start_right, reached_right}
use Rattle.law_steps.proofs.EntryLemmas.{In, entry_found, found_entry}
use Rattle.law_steps.proofs.ListLemmas.{senders_own, count_own}
use Rattle.law_steps.proofs.FlowLemmas.{StepOf, machine, own_run, right_run, counts_step, counts_run}
use Rattle.law_steps.proofs.FlowLemmas as flow

-- The least-named that is able

abbrev pub Chosen : Option ListsShape → (Name → ℕ) → (c d : Configuration) → List (Name × Activity) → Type 0
Chosen lists count c d xs = (x : Name × Activity) × In x xs × (step lists c x.0 ≡ Some d) × (x.1.reductions < count x.0)

abbrev tried : Option Configuration → Option Configuration → Option Configuration
tried o p = elim o [ None ↦ p | Some d ↦ Some d ]

abbrev if_below : Bool → Option Configuration → Option Configuration → Option Configuration
if_below b o p = elim b [ false ↦ p | true ↦ tried o p ]

pub least_picks : (lists : Option ListsShape) (count : Name → ℕ) (c d : Configuration) (xs : List (Name × Activity)) → least_step lists count c xs ≡ Some d → Chosen lists count c d xs
least_picks lists count c d [] h = no_some h
least_picks lists count c d (x ∷ xs) h =
    let later : least_step lists count c xs ≡ Some d → Chosen lists count c d (x ∷ xs) = λ h. let r = least_picks lists count c d xs h in (r.0, inr r.1, r.2, r.3) in
    elim (nat_lt x.1.reductions (count x.0)) as (λ b. nat_lt x.1.reductions (count x.0) ≡ b → if_below b (step lists c x.0) (least_step lists count c xs) ≡ Some d → Chosen lists count c d (x ∷ xs)) [
      | true ↦ λ p h. elim (step lists c x.0) as (λ o. step lists c x.0 ≡ o → tried o (least_step lists count c xs) ≡ Some d → Chosen lists count c d (x ∷ xs)) [
        | None ↦ λ q h. later h
        | Some f ↦ λ q h. (x, inl refl, q ∙ h, ltb-true x.1.reductions (count x.0) p)
      ] refl h
      | false ↦ λ p h. later h
    ] refl h

pub least_rests : (lists : Option ListsShape) (count : Name → ℕ) (c : Configuration) (xs : List (Name × Activity)) → least_step lists count c xs ≡ None → (x : Name × Activity) → In x xs → (d : Configuration) → step lists c x.0 ≡ Some d → count x.0 ≤ x.1.reductions
least_rests lists count c [] h x i d st = absurd i
least_rests lists count c (y ∷ ys) h x i d st =
    elim (nat_lt y.1.reductions (count y.0)) as (λ b. nat_lt y.1.reductions (count y.0) ≡ b → if_below b (step lists c y.0) (least_step lists count c ys) ≡ None → count x.0 ≤ x.1.reductions) [
      | true ↦ λ p h. elim (step lists c y.0) as (λ o. step lists c y.0 ≡ o → tried o (least_step lists count c ys) ≡ None → count x.0 ≤ x.1.reductions) [
        | None ↦ λ q h. ⊎_elim (λ e. no_some (sym q ∙ ap (λ z. step lists c z.0) (sym e) ∙ st)) (λ i. least_rests lists count c ys h x i d st) i
        | Some f ↦ λ q h. no_some (sym h)
      ] refl h
      | false ↦ λ p h. ⊎_elim (λ e. subst (λ z. count z.0 ≤ z.1.reductions) (sym e) (ltb-false y.1.reductions (count y.0) p)) (λ i. least_rests lists count c ys h x i d st) i
    ] refl h

-- The rule of the replay

abbrev pub next_by : Option ListsShape → (Name → ℕ) → Configuration → Option Configuration
next_by lists count c = least_step lists count c c.activities

pub rule_picks : (lists : ListsShape) (counts : Name → ℕ) (c d : Configuration) → Right c → next_by (Some lists) counts c ≡ Some d → (n : Name) × StepOf lists n c d × (1 ≤ counts n - (at_name c n).reductions)
rule_picks lists counts c d r h =
    let x = least_picks (Some lists) counts c d c.activities h in
    let f : x.0.1.reductions ≡ (at_name c x.0.0).reductions = ap (λ o. (face o).reductions) (sym (entry_found c.activities x.0 r.sound.ordered.activities x.1)) in
    (x.0.0, x.2, omega (arith, x.3, f))

pub rule_rests : (lists : ListsShape) (counts : Name → ℕ) (c : Configuration) → Right c → next_by (Some lists) counts c ≡ None → (n : Name) (d : Configuration) → StepOf lists n c d → counts n - (at_name c n).reductions ≡ 0
rule_rests lists counts c r none n d st = by_entry (find name_cmp n c.activities) refl
  where
    by_entry : (o : Option Activity) → find name_cmp n c.activities ≡ o → counts n - (face o).reductions ≡ 0
    by_entry None e =
        let x = step_taken (Some lists) c n d st in
        absurd (true_false (is_some (find name_cmp n c.activities)) (took (Some lists) c n x.0 r.sound x.1).there (ap is_some e))
    by_entry (Some a) e =
        let x = found_entry c.activities n a e in
        let le = least_rests (Some lists) counts c c.activities none x.0 x.1 d (subst (λ k. step (Some lists) c k ≡ Some d) (sym x.2) st) in
        let p : counts x.0.0 ≡ counts n = ap counts x.2 in
        let q : x.0.1.reductions ≡ a.reductions = ap (λ z. z.reductions) x.3 in
        omega (arith, le, p, q)

abbrev pub rule : (lists : ListsShape) (counts : Name → ℕ) → Rule (machine lists)
rule lists counts = record {
  room = λ c q. counts q - (at_name c q).reductions;
  next = next_by (Some lists) counts;
  picks = rule_picks lists counts;
  rests = rule_rests lists counts;
  spends = λ n c d r h q. omega (arith, counts_step lists n c d r h q);
}

pub repeats : (lists : Option ListsShape) (counts : Name → ℕ) (k : ℕ) (c : Configuration) → steps_from k lists counts c ≡ repeated (next_by lists counts) k c
repeats lists counts zero c = refl
repeats lists counts (suc k) c = elim (next_by lists counts c) as (λ o. elim o [ None ↦ c | Some d ↦ steps_from k lists counts d ] ≡ elim o [ None ↦ c | Some d ↦ repeated (next_by lists counts) k d ]) [ None ↦ refl | Some d ↦ repeats lists counts k d ]

-- the replay reaches what a run with these lists and counts reaches
steps_reach : (lists : ListsShape) (counts : Name → ℕ) (k : ℕ) (program : Tree) (ns : List Name) (d : Configuration) → RunsTo (Some lists) (start program) ns d → ((q : Name) → (at_name d q).reductions ≡ counts q) → length ns ≤ k → steps_from k (Some lists) counts (start program) ≡ d
steps_reach lists counts k program ns d run reached le =
    repeats (Some lists) counts k (start program)
    ∙ rule_reaches (machine lists) (rule lists counts) k ns (start program) d (start_right program) run le (λ q. omega (arith, reached q, counts_run lists ns (start program) d (start_right program) run q))

-- The counts sum up to the length of the run

pub total_is : (f : Name → ℕ) (es : List (Name × Activity)) → ((x : Name × Activity) → In x es → f x.0 ≡ x.1.reductions) → total (map (λ x. (x.0, x.1.reductions)) es) ≡ runs.total f (map (λ x. x.0) es)
total_is f [] all = refl
total_is f (x ∷ es) all = omega (arith, all x (inl refl), total_is f es (λ y i. all y (inr i)))

counted_in : (lists : ListsShape) (q : Name) (x : Name × Activity) (es : List (Name × Activity)) → In x es → x.0 ≡ q → 1 ≤ count (machine lists) q (map (λ x. x.0) es)
counted_in lists q x [] i p = absurd i
counted_in lists q x (e ∷ es) (inl h) p = omega (arith, hit_same (machine lists) q e.0 (sym p ∙ ap (λ z. z.0) h))
counted_in lists q x (e ∷ es) (inr i) p = omega (arith, counted_in lists q x es i p)

pub names_cover : (lists : ListsShape) (c : Configuration) → Covers (machine lists) (map (λ x. x.0) c.activities) (λ q. (at_name c q).reductions)
names_cover lists c q = by_entry (find name_cmp q c.activities) refl
  where
    by_entry : (o : Option Activity) → find name_cmp q c.activities ≡ o → 1 ≤ (face o).reductions → 1 ≤ count (machine lists) q (map (λ x. x.0) c.activities)
    by_entry None is le = absurd (omega (arith, le))
    by_entry (Some a) is le = let x = found_entry c.activities q a is in counted_in lists q x.0 c.activities x.1 x.2

length_within : (lists : ListsShape) (program : Tree) (ns : List Name) (c : Configuration) → RunsTo (Some lists) (start program) ns c → length ns ≤ total (counts_of c)
length_within lists program ns c run =
    let r = right_run (Some lists) ns (start program) c (start_right program) run in
    let same = total_is (λ q. (at_name c q).reductions) c.activities (λ x i. ap (λ o. (face o).reductions) (entry_found c.activities x r.sound.ordered.activities i)) in
    omega (arith, same, run_length (machine lists) ns (map (λ x. x.0) c.activities) (λ q. (at_name c q).reductions) (λ q. omega (arith, counts_run lists ns (start program) c (start_right program) run q)) (names_cover lists c))

-- The laws

pub own_lists_show : OwnListsShow
own_lists_show program c m reached = senders_own c (reached_right program c reached).tidy m

pub runs_under_own_lists : RunsUnderOwnLists
runs_under_own_lists program ns c run = own_run program ns c run

pub replays_lead : ReplaysLead
replays_lead program lists ns c run = steps_reach lists (count_in (counts_of c)) (total (counts_of c)) program ns c run (λ q. sym (count_own c q)) (length_within lists program ns c run)

its_replay : (program : Tree) (ns : List Name) (c : Configuration) → RunsTo (Some (lists_of c)) (start program) ns c → IsItsReplay program c
its_replay program ns c run = let h = replays_lead program (lists_of c) ns c run in (record { used_up = ap lists_of h; reached = ap counts_of h }, h)

pub runs_replay : RunsReplay
runs_replay program ns c run = its_replay program ns c (own_run program ns c run)

-- Runs that a rule takes

steps_run : (lists : Option ListsShape) (count : Name → ℕ) (k : ℕ) (c : Configuration) → (ns : List Name) × RunsTo lists c ns (steps_from k lists count c)
steps_run lists count zero c = ([], refl)
steps_run lists count (suc k) c = elim (next_by lists count c) as (λ o. next_by lists count c ≡ o → (ns : List Name) × RunsTo lists c ns (elim o [ None ↦ c | Some d ↦ steps_from k lists count d ])) [
  | None ↦ λ p. ([], refl)
  | Some d ↦ λ p.
      let x = least_picks lists count c d c.activities p in
      let r = steps_run lists count k d in
      (x.0.0 ∷ r.0, (d, x.2, r.1))
] refl

pub plain_runs_are_runs : PlainRunsAreRuns
plain_runs_are_runs n program = steps_run None (λ name. n) n (start program)

pub plain_runs_replay : PlainRunsReplay
plain_runs_replay n program = let r = plain_runs_are_runs n program in runs_replay program r.0 (plain_run n program) r.1

pub replays_are_runs : ReplaysAreRuns
replays_are_runs program lists counts = steps_run (Some lists) (count_in counts) (total counts) (start program)

run_where_fits : (program : Tree) (lists : ListsShape) (counts : CountsShape) → Fits program lists counts → EndsWith program lists counts
run_where_fits program lists counts fits = let r = replays_are_runs program lists counts in (r.0, replay program lists counts, r.1, fits.used_up, fits.reached)

fits_where_run : (program : Tree) (lists : ListsShape) (counts : CountsShape) → EndsWith program lists counts → Fits program lists counts
fits_where_run program lists counts e =
    let h : replay program lists counts ≡ e.1 = ap (replay program lists) (sym e.4) ∙ replays_lead program lists e.0 e.1 e.2 in
    record { used_up = ap lists_of h ∙ e.3; reached = ap counts_of h ∙ e.4 }

pub fits_exactly : FitsWhereRun
fits_exactly program lists counts = (run_where_fits program lists counts, fits_where_run program lists counts)

pub runs_agree : RunsAgree
runs_agree program ns ms c d run other lists counts = flow.runs_agree program ns ms c d run other lists counts
