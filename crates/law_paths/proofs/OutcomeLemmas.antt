-- Configurations that agree have equal lists, counts and statuses, and outcomes and reports that agree.
use Rattle.std.specs.Prelude.{◌≡◌, ℕ, Bool, true, false, T, List, [], ◌∷◌, ◌++◌, Option, Some, None, map, codes}
use Rattle.std.proofs.Common.{refl, sym, ap, ◌∙◌}
use Rattle.std.specs.List.{flat_map}
use Rattle.std.specs.FinMap.{find, is_sorted}
use Rattle.std.specs.FinMap.Entries.{same_entries}
use Rattle.asp_model.specs.Names.{Name, name_cmp, future_cmp}
use Rattle.asp_model.specs.Term.{Loc, Tree}
use Rattle.asp_model.specs.Chase.{Values, chase}
use Rattle.asp_model.specs.Configuration.{RequestShape, Activity, Configuration, log_of}
use Rattle.asp_model.specs.Intent.{StatusShape, Done, Serving, Running, Awaits, Faulted}
use Rattle.asp_model.specs.Replay.{lists_of, counts_of}
use Rattle.asp_model.specs.Status.{status_of, statuses_of, verdict_among}
use Rattle.asp_model.specs.Report.{verdict_line, activity_lines}
use Rattle.law_steps.proofs.NameLemmas.{name_total, name_same}
use Rattle.law_chases.proofs.FutureLemmas.{none_true, future_total, future_same}
use Rattle.law_steps.proofs.ListLemmas.{find_mapped, with_name}
use Rattle.law_steps.proofs.JoinLaws.{sorted_mapped}
use Rattle.def_paths.specs.Places.{Place, In_store, side_by}
use Rattle.def_paths.specs.Agree.{Pairs, no_pair, pair, MayBoth, neither, both, ActivitiesAgree, RequestsAgree, ParcelsAgree, Agrees}
use Rattle.def_paths.specs.Snapshots.{SnapshotShape, roots_in, result_in}
use Rattle.def_paths.specs.StateLines.{state_lines}
use Rattle.def_paths.specs.Outcomes.{EndShape, end_of, SnapshotsAgree, EndsAgree, end_lines}
use Rattle.law_paths.specs.Alike.{AreAlike, at_locs, at_node}
use Rattle.law_paths.specs.Whole.{IsWhole}
use Rattle.law_paths.specs.Laws.{EndsOfBothAgree}
use Rattle.law_paths.specs.Reading.{ReportsAgree}
use Rattle.law_paths.proofs.PairLemmas.{pairs_mapped}
use Rattle.law_paths.proofs.ShapeLemmas.{both_first, tree_from}
use Rattle.law_paths.proofs.KeyedLemmas.{entries_related}
use Rattle.law_paths.proofs.PathLemmas.{RootsAlike}
use Rattle.law_paths.proofs.MatchLemmas.{Reached, paths_match, roots_match}
use Rattle.law_paths.proofs.StateLemmas.{BothResult, no_result, results, states_shown}
use Rattle.law_paths.proofs.FollowLemmas.{statuses_agree}

abbrev is_empty : List ℕ → Bool
is_empty [] = true
is_empty (n ∷ ns) = false

-- Lists, counts and statuses

module _ (c d : Configuration) (sorted : T (is_sorted name_cmp c.activities)) (sorted' : T (is_sorted name_cmp d.activities)) (g : Agrees c d) where
  same_entry : {X : Type 0} (h h' : Name × Activity → X) (q : Name) → ((a b : Activity) → ActivitiesAgree (chase c.futures) (chase d.futures) a b → h (q, a) ≡ h' (q, b)) → find name_cmp q (map (λ x. (x.0, h x)) c.activities) ≡ find name_cmp q (map (λ x. (x.0, h' x)) d.activities)
  same_entry h h' q to = find_mapped h q c.activities ∙ by _ _ (g.activities q) ∙ sym (find_mapped h' q d.activities)
    where
      by : (o p : Option Activity) → MayBoth (ActivitiesAgree (chase c.futures) (chase d.futures)) o p → with_name h q o ≡ with_name h' q p
      by _ _ neither = refl
      by _ _ (both x) = ap Some (to _ _ x)

  senders_same : (rs ss : List RequestShape) → Pairs (RequestsAgree (chase c.futures) (chase d.futures)) rs ss → map (λ r. r.sender) rs ≡ map (λ r. r.sender) ss
  senders_same _ _ no_pair = refl
  senders_same _ _ (pair r rs) = λ i. r.sender i ∷ senders_same _ _ rs i

  log_same : (q : Name) → log_of c q ≡ log_of d q
  log_same q = g.logs q

  pub lists_same : lists_of c ≡ lists_of d
  lists_same = same_entries name_cmp name_total name_same _ _ (sorted_mapped (λ x. log_of c x.0) c.activities sorted) (sorted_mapped (λ x. log_of d x.0) d.activities sorted') (λ q. same_entry (λ x. log_of c x.0) (λ x. log_of d x.0) q (λ a b x. log_same q))

  pub counts_same : counts_of c ≡ counts_of d
  counts_same = same_entries name_cmp name_total name_same _ _ (sorted_mapped (λ x. x.1.reductions) c.activities sorted) (sorted_mapped (λ x. x.1.reductions) d.activities sorted') (λ q. same_entry (λ x. x.1.reductions) (λ x. x.1.reductions) q (λ a b x. x.reductions))

second_of : {X : Type 0} (es : List (Name × X)) → List X
second_of es = map (λ x. x.1) es

pairs_second : {X : Type 0} (h : Name × Activity → X) (es : List (Name × Activity)) → second_of (map (λ x. (x.0, h x)) es) ≡ map h es
unfolding second_of
pairs_second h [] = refl
pairs_second h (e ∷ es) = ap (λ l. h e ∷ l) (pairs_second h es)

pub statuses_same : (c d : Configuration) → IsWhole c → IsWhole d → Agrees c d → statuses_of c ≡ statuses_of d
statuses_same c d wc wd g =
    let h : Name × Activity → StatusShape = λ x. status_of c x.0 in
    let h' : Name × Activity → StatusShape = λ x. status_of d x.0 in
    let e = same_entries name_cmp name_total name_same (map (λ x. (x.0, h x)) c.activities) (map (λ x. (x.0, h' x)) d.activities) (sorted_mapped h c.activities wc.sound.ordered.activities) (sorted_mapped h' d.activities wd.sound.ordered.activities)
    (λ q. same_entry c d wc.sound.ordered.activities wd.sound.ordered.activities g h h' q (λ a b x. statuses_agree c d wc wd g q)) in
    sym (pairs_second h c.activities) ∙ ap second_of e ∙ pairs_second h' d.activities

-- Outcomes

activity_ends : (c d : Configuration) → IsWhole c → IsWhole d → Agrees c d → (x y : Name × Activity) → (x.0 ≡ y.0) × ActivitiesAgree (chase c.futures) (chase d.futures) x.1 y.1 → EndsAgree (chase c.futures) (chase d.futures) (end_of c x) (end_of d y)
activity_ends c d wc wd g x y r =
    let status : status_of c x.0 ≡ status_of d y.0 = statuses_agree c d wc wd g x.0 ∙ ap (status_of d) r.0 in
    let senders : log_of c x.0 ≡ log_of d y.0 = log_same c d wc.sound.ordered.activities wd.sound.ordered.activities g x.0 ∙ ap (log_of d) r.0 in (
      λ i. record { name = r.0 i; count = r.1.reductions i; status = status i; senders = senders i; lines = r.1.lines i },
      record { term = r.1.term; services = r.1.services; reading = r.1.reading },
    )

pub ends_of_both_agree : EndsOfBothAgree
ends_of_both_agree c d wc wd g =
    let k = chase c.futures in
    let l = chase d.futures in
    record {
      verdict = ap verdict_among (statuses_same c d wc wd g);
      ends = pairs_mapped (λ x y. (x.0 ≡ y.0) × ActivitiesAgree k l x.1 y.1) (end_of c) (end_of d) (EndsAgree k l) (activity_ends c d wc wd g) c.activities d.activities
          (entries_related name_cmp name_total name_same (λ q. ActivitiesAgree k l) c.activities d.activities wc.sound.ordered.activities wd.sound.ordered.activities g.activities);
      values = entries_related future_cmp future_total future_same (λ q. ParcelsAgree k l) c.futures d.futures wc.sound.ordered.futures wd.sound.ordered.futures g.values;
    }

-- Reports

module _ (R : Place → Place → Type 0) where
  abbrev Stored : ℕ → ℕ → Type 0
  Stored i j = R (In_store i) (In_store j)

  stored : (xs ys : List ℕ) → RootsAlike R xs ys → Pairs Stored xs ys
  stored [] [] h = no_pair
  stored [] (y ∷ ys) h = elim h [ ]
  stored (x ∷ xs) [] h = elim h [ ]
  stored (x ∷ xs) (y ∷ ys) (pair r rs) = pair r (stored xs ys rs)

  result_alike : (status : StatusShape) (t u : Tree) → AreAlike Stored t u → BothResult R (result_in status t) (result_in status u)
  result_alike Done _ _ (at_locs r below) = results r
  result_alike Done _ _ (at_node (Loc n) own below) = none_true (ap is_empty own)
  result_alike Done _ _ (at_node h own below) = no_result
  result_alike Serving _ _ r = no_result
  result_alike Running _ _ r = no_result
  result_alike (Awaits f) _ _ r = no_result
  result_alike (Faulted x) _ _ r = no_result

-- the lines of two snapshots that agree
lines_alike : (d : ℕ) (vs ws : Values) (status : StatusShape) (s t : SnapshotShape) → SnapshotsAgree (chase vs) (chase ws) s t → state_lines d vs status s ≡ state_lines d ws status t
lines_alike d vs ws status s t g =
    let a = side_by (chase vs) s.store in
    let b = side_by (chase ws) t.store in
    let R = Reached a b (roots_in s) (roots_in t) g.reading in
    let m = paths_match a b (roots_in s) (roots_in t) g.reading in
    let roots = stored R (roots_in s) (roots_in t) (roots_match a b (roots_in s) (roots_in t) g.reading) in
    let both = both_first (Stored R) s.active t.active _ _ roots in
    let alike = (tree_from (Stored R) s.term t.term g.term _ _ both.1).0 in
    states_shown a b R m d s.active t.active (result_in status s.term) (result_in status t.term) both.0 (result_alike R status s.term t.term alike)

ends_shown : (depth : Option ℕ) (vs ws : Values) (e d : EndShape) → EndsAgree (chase vs) (chase ws) e d → end_lines depth vs e ≡ end_lines depth ws d
ends_shown None vs ws e d g = ap (λ r. activity_lines r ++ []) g.0
ends_shown (Some n) vs ws e d g = (λ i. activity_lines (g.0 i) ++ state_lines n vs (g.0 i).status e.snapshot) ∙ ap (λ ls. activity_lines d.report ++ ls) (lines_alike n vs ws d.report.status e.snapshot d.snapshot g.1)

all_shown : (depth : Option ℕ) (vs ws : Values) (es ds : List EndShape) → Pairs (EndsAgree (chase vs) (chase ws)) es ds → flat_map (end_lines depth vs) es ≡ flat_map (end_lines depth ws) ds
all_shown depth vs ws _ _ no_pair = refl
all_shown depth vs ws _ _ (pair g gs) = (λ i. ends_shown depth vs ws _ _ g i ++ all_shown depth vs ws _ _ gs i)

pub reports_agree : ReportsAgree
reports_agree depth o p g = (λ i. codes "asp report 2" ∷ verdict_line (g.verdict i) ∷ all_shown depth o.futures p.futures o.ends p.ends g.ends i)
