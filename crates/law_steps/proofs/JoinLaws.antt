-- The laws of joined runs.
use Rattle.std.specs.Prelude.{◌≡◌, ℕ, ◌≤◌, ◌&&◌, ◌||◌, Bool, true, false, T, max, List, [], ◌∷◌, Option, Some, None, is_some, map}
use Rattle.std.proofs.Common.{refl, sym, ap, subst, ◌∙◌, arith, inl, inr, ⊎_elim, ◌⊎◌}
use Rattle.std.proofs.lemmas.Bool.{or_cases}
use Rattle.std.specs.FinMap.{find, is_sorted}
use Rattle.std.specs.FinMap.Entries.{below_all, same_entries}
use Rattle.asp_model.specs.Names.{Name, name_cmp}
use Rattle.asp_model.specs.Term.{Tree}
use Rattle.asp_model.specs.Configuration.{Activity, Configuration, start}
use Rattle.asp_model.specs.Configuration.{ReceptionShape, or_none, log_of}
use Rattle.asp_model.specs.Status.{IsStuck}
use Rattle.asp_model.specs.Replay.{lists_of, counts_of, log_in, zero_or, longer}
use Rattle.law_steps.specs.Reached.{RunsTo}
use Rattle.law_steps.specs.Replays.{ListedRunsStayWithin}
use Rattle.law_steps.specs.Joins.{AreCompatibleRuns, lists_of_both, counts_of_both, JoinedFits, StuckIsJoined, StuckRunsAgree}
use Rattle.law_steps.proofs.NameLemmas.{name_total, name_same}
use Rattle.law_chases.proofs.FutureLemmas.{no_some, none_true}
use Rattle.law_steps.proofs.SoundLemmas.{at_name}
use Rattle.law_steps.proofs.ReachedLemmas.{Right, start_right, start_is_reached, runs_go_on}
use Rattle.law_steps.proofs.ListLemmas.{IsPrefix, with_name, find_mapped, senders_own, count_own}
use Rattle.law_steps.proofs.FlowLemmas.{right_run}
use Rattle.law_steps.proofs.FlowLemmas as flow
use Rattle.law_steps.proofs.ReplayLemmas.{fits_exactly}
use Rattle.law_steps.proofs.LinkedLemmas.{stuck_is_still}
use Rattle.law_steps.proofs.MergeLemmas.{test_of_prefix, IsJoin, longer_joins, join_entry, find_joined, joined_sorted, join_names, join_count, lists_joined, counts_joined, senders_joined, count_joined}
use Rattle.law_steps.proofs.JoinLemmas.{within_run, within_start, AreJoined, runs_joined, NobodySteps, still_joined}
use Rattle.law_steps.proofs.EntryLemmas.{first_of_both, second_of_both}

-- Entries in order

both_of : (a b : Bool) → T a → T b → T (a && b)
both_of true b p q = q
both_of false b p q = p

below_mapped : {X : Type 0} (g : Name × Activity → X) (k : Name) (es : List (Name × Activity)) → T (below_all name_cmp k es) → T (below_all name_cmp k (map (λ x. (x.0, g x)) es))
below_mapped g k [] h = tt
below_mapped g k (e ∷ es) h = both_of _ _ (first_of_both _ _ h) (below_mapped g k es (second_of_both _ _ h))

pub sorted_mapped : {X : Type 0} (g : Name × Activity → X) (es : List (Name × Activity)) → T (is_sorted name_cmp es) → T (is_sorted name_cmp (map (λ x. (x.0, g x)) es))
sorted_mapped g [] h = tt
sorted_mapped g (e ∷ es) h = both_of _ _ (below_mapped g e.0 es (first_of_both _ _ h)) (sorted_mapped g es (second_of_both _ _ h))

lists_sorted : (c : Configuration) → Right c → T (is_sorted name_cmp (lists_of c))
lists_sorted c r = sorted_mapped (λ x. log_of c x.0) c.activities r.sound.ordered.activities

counts_sorted : (c : Configuration) → Right c → T (is_sorted name_cmp (counts_of c))
counts_sorted c r = sorted_mapped (λ x. x.1.reductions) c.activities r.sound.ordered.activities

-- Names that have entries

named : {X : Type 0} (g : Name × Activity → X) (q : Name) (o : Option Activity) → is_some (with_name g q o) ≡ is_some o
named g q None = refl
named g q (Some a) = refl

named_in : {X : Type 0} (g : Name × Activity → X) (q : Name) (es : List (Name × Activity)) → is_some (find name_cmp q (map (λ x. (x.0, g x)) es)) ≡ is_some (find name_cmp q es)
named_in g q es = ap is_some (find_mapped g q es) ∙ named g q (find name_cmp q es)

or_none_of : (a : Bool) → a ≡ (a || false)
or_none_of true = refl
or_none_of false = refl

or_one_of : (a : Bool) → true ≡ (a || true)
or_one_of true = refl
or_one_of false = refl

named_joined : {X : Type 0} (g : Option X → X → X) (o p : Option X) → is_some (join_entry g o p) ≡ (is_some o || is_some p)
named_joined g o None = or_none_of (is_some o)
named_joined g o (Some y) = or_one_of (is_some o)

same_truth : (a b : Bool) → (a ≡ true → b ≡ true) → (b ≡ true → a ≡ true) → a ≡ b
same_truth true b to from = sym (to refl)
same_truth false true to from = from refl
same_truth false false to from = refl

or_true : (a b : Bool) → (a ≡ true) ⊎ (b ≡ true) → (a || b) ≡ true
or_true a b (inl p) = ap (λ z. z || b) p
or_true a b (inr p) = ap (λ z. a || z) p ∙ sym (or_one_of a)

same_list : (o p : Option (List ReceptionShape)) → is_some o ≡ is_some p → or_none o ≡ or_none p → o ≡ p
same_list None None h e = refl
same_list None (Some y) h e = none_true h
same_list (Some x) None h e = none_true (sym h)
same_list (Some x) (Some y) h e = ap Some e

same_count : (o p : Option ℕ) → is_some o ≡ is_some p → zero_or o ≡ zero_or p → o ≡ p
same_count None None h e = refl
same_count None (Some y) h e = none_true h
same_count (Some x) None h e = none_true (sym h)
same_count (Some x) (Some y) h e = ap Some e

-- a configuration that has the activities, log_of and counts of two has their joined lists and counts
record IsBoth (c d e : Configuration) : Type 0 where
  there : (q : Name) → is_some (find name_cmp q e.activities) ≡ (is_some (find name_cmp q c.activities) || is_some (find name_cmp q d.activities))
  received : (q : Name) → log_of e q ≡ log_in (lists_of_both c d) q
  counts : (q : Name) → (at_name e q).reductions ≡ max (at_name c q).reductions (at_name d q).reductions

-- the same with the entries of lists, or of counts
there_both : {X : Type 0} (g : Configuration → Name × Activity → X) (f : Option X → X → X) (c d e : Configuration) → IsBoth c d e → T (is_sorted name_cmp (map (λ x. (x.0, g d x)) d.activities)) → (q : Name)
    → is_some (find name_cmp q (map (λ x. (x.0, g e x)) e.activities)) ≡ is_some (join_entry f (find name_cmp q (map (λ x. (x.0, g c x)) c.activities)) (find name_cmp q (map (λ x. (x.0, g d x)) d.activities)))
there_both g f c d e b sorted q =
    let left = named_in (g c) q c.activities in
    let right = named_in (g d) q d.activities in
    named_in (g e) q e.activities ∙ b.there q ∙ sym ((λ i. left i || right i)) ∙ sym (named_joined f (find name_cmp q (map (λ x. (x.0, g c x)) c.activities)) (find name_cmp q (map (λ x. (x.0, g d x)) d.activities)))

both_lists : (c d e : Configuration) → Right c → Right d → Right e → IsBoth c d e → lists_of e ≡ lists_of_both c d
both_lists c d e rc rd re b =
    let is = lists_joined (lists_of c) (lists_of d) in
    same_entries name_cmp name_total name_same (lists_of e) (lists_of_both c d) (lists_sorted e re) (subst (λ l. T (is_sorted name_cmp l)) (sym is) (joined_sorted join_names (lists_of c) (lists_of d) (lists_sorted c rc)))
    (λ q. same_list (find name_cmp q (lists_of e)) (find name_cmp q (lists_of_both c d))
    (there_both (λ z x. log_of z x.0) join_names c d e b (lists_sorted d rd) q ∙ sym (ap (λ l. is_some (find name_cmp q l)) is ∙ ap is_some (find_joined join_names (lists_of c) (lists_of d) (lists_sorted d rd) q)))
    (senders_own e re.tidy q ∙ b.received q))

both_counts : (c d e : Configuration) → Right c → Right d → Right e → IsBoth c d e → counts_of e ≡ counts_of_both c d
both_counts c d e rc rd re b =
    let is = counts_joined (counts_of c) (counts_of d) in
    same_entries name_cmp name_total name_same (counts_of e) (counts_of_both c d) (counts_sorted e re) (subst (λ l. T (is_sorted name_cmp l)) (sym is) (joined_sorted join_count (counts_of c) (counts_of d) (counts_sorted c rc)))
    (λ q. same_count (find name_cmp q (counts_of e)) (find name_cmp q (counts_of_both c d))
    (there_both (λ z x. x.1.reductions) join_count c d e b (counts_sorted d rd) q ∙ sym (ap (λ l. is_some (find name_cmp q l)) is ∙ ap is_some (find_joined join_count (counts_of c) (counts_of d) (counts_sorted d rd) q)))
    (count_own e q ∙ b.counts q ∙ sym (count_joined (counts_of c) (counts_of d) (counts_sorted d rd) q ∙ (λ i. max (count_own c q i) (count_own d q i)))))

-- Runs under lists

pub listed_runs_stay_within : ListedRunsStayWithin
listed_runs_stay_within program lists ns c run m =
    let r = start_right program in
    let w = within_run lists ns (start program) c r run (within_start program lists) m in
    test_of_prefix (log_in (lists_of c) m) (log_in lists m) (subst (λ l. IsPrefix l (log_in lists m)) (sym (senders_own c (right_run (Some lists) ns (start program) c r run).tidy m)) w)

-- Compatible runs

run_right : (program : Tree) (ns : List Name) (c : Configuration) → RunsTo None (start program) ns c → Right c
run_right program ns c run = right_run None ns (start program) c (start_right program) run

joined_both : (program : Tree) (c d : Configuration) → AreCompatibleRuns program c d → AreJoined c d (lists_of_both c d)
joined_both program c d r =
    let rc = run_right program r.names c r.run in
    let rd = run_right program r.others d r.other in
    λ m. subst (IsJoin (log_of c m) (log_of d m)) (sym (senders_joined (lists_of c) (lists_of d) (lists_sorted d rd) m))
    (subst (λ l. IsJoin l (log_of d m) (longer (log_in (lists_of c) m) (log_in (lists_of d) m))) (senders_own c rc.tidy m)
    (subst (λ l. IsJoin (log_in (lists_of c) m) l (longer (log_in (lists_of c) m) (log_in (lists_of d) m))) (senders_own d rd.tidy m)
    (longer_joins (log_in (lists_of c) m) (log_in (lists_of d) m) (r.compatible m))))

pub joined_fits : JoinedFits
joined_fits program c d r =
    let rc = run_right program r.names c r.run in
    let rd = run_right program r.others d r.other in
    let j = runs_joined program r.names r.others c d (lists_of_both c d) r.run r.other (joined_both program c d r) in
    let re = right_run (Some (lists_of_both c d)) j.names (start program) j.end (start_right program) j.run in
    let b : IsBoth c d j.end = record {
      there = λ q. same_truth (is_some (find name_cmp q j.end.activities)) (is_some (find name_cmp q c.activities) || is_some (find name_cmp q d.activities)) (λ h. or_true _ _ (j.created q h)) (λ h. j.kept q (or_cases _ _ h));
      received = j.met;
      counts = j.counts;
    } in
    (fits_exactly program (lists_of_both c d) (counts_of_both c d)).1 (j.names, j.end, j.run, both_lists c d j.end rc rd re b, both_counts c d j.end rc rd re b)

-- Stuck runs

pub still : (program : Tree) (ns : List Name) (c : Configuration) → RunsTo None (start program) ns c → IsStuck c → NobodySteps c
still program ns c run stuck n d st = no_some (sym ((stuck_is_still program c (runs_go_on program None ns (start program) c (start_is_reached program) run)).0 stuck n) ∙ st)

left_max : (m n : ℕ) → n ≤ m → m ≡ max m n
left_max m n le = omega (arith, le)

right_max : (m n : ℕ) → m ≤ n → n ≡ max m n
right_max m n le = omega (arith, le)

pub stuck_is_joined : StuckIsJoined
stuck_is_joined program c d r stuck =
    let rc = run_right program r.names c r.run in
    let rd = run_right program r.others d r.other in
    let x = still_joined program r.names r.others c d (lists_of_both c d) r.run r.other (joined_both program c d r) (still program r.names c r.run stuck) in
    let b : IsBoth c d c = record {
      there = λ q. same_truth (is_some (find name_cmp q c.activities)) (is_some (find name_cmp q c.activities) || is_some (find name_cmp q d.activities)) (λ h. or_true _ _ (inl h)) (λ h. ⊎_elim (λ p. p) (x.2 q) (or_cases _ _ h));
      received = x.0;
      counts = λ q. left_max (at_name c q).reductions (at_name d q).reductions (x.1 q);
    } in
    (both_lists c d c rc rd rc b, both_counts c d c rc rd rc b)

other_way : (xs ys zs : List ReceptionShape) → IsJoin xs ys zs → IsJoin ys xs zs
other_way xs ys zs (inl p) = inr p
other_way xs ys zs (inr p) = inl p

-- the same for the second run
second_is_joined : (program : Tree) (c d : Configuration) → AreCompatibleRuns program c d → IsStuck d → (lists_of d ≡ lists_of_both c d) × (counts_of d ≡ counts_of_both c d)
second_is_joined program c d r stuck =
    let rc = run_right program r.names c r.run in
    let rd = run_right program r.others d r.other in
    let joins = joined_both program c d r in
    let x = still_joined program r.others r.names d c (lists_of_both c d) r.other r.run (λ m. other_way (log_of c m) (log_of d m) (log_in (lists_of_both c d) m) (joins m)) (still program r.others d r.other stuck) in
    let b : IsBoth c d d = record {
      there = λ q. same_truth (is_some (find name_cmp q d.activities)) (is_some (find name_cmp q c.activities) || is_some (find name_cmp q d.activities)) (λ h. or_true _ _ (inr h)) (λ h. ⊎_elim (x.2 q) (λ p. p) (or_cases _ _ h));
      received = x.0;
      counts = λ q. right_max (at_name c q).reductions (at_name d q).reductions (x.1 q);
    } in
    (both_lists c d d rc rd rd b, both_counts c d d rc rd rd b)

pub stuck_runs_agree : StuckRunsAgree
stuck_runs_agree program c d r stuck other =
    let x = stuck_is_joined program c d r stuck in
    let y = second_is_joined program c d r other in
    flow.runs_agree program r.names r.others c d r.run r.other (x.0 ∙ sym y.0) (x.1 ∙ sym y.1)
