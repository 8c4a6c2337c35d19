-- A replay diverges first where its rows differ first from those of its lists and counts.
use Rattle.std.specs.Prelude.{◌≡◌, T, List, [], ◌∷◌, Some, length, map}
use Rattle.std.proofs.Common.{refl, sym, ap, ◌∙◌, arith}
use Rattle.std.proofs.lemmas.Bool.{false_from_ne_true}
use Rattle.std.specs.FinMap.{is_sorted}
use Rattle.std.specs.FinMap.Entries.{below_all}
use Rattle.std.specs.Ordering.{is_lt}
use Rattle.asp_model.specs.Names.{Name, name_cmp}
use Rattle.asp_model.specs.Term.{Tree}
use Rattle.asp_model.specs.Configuration.{Activity, Configuration, start, log_of}
use Rattle.asp_model.specs.Step.{ListsShape}
use Rattle.asp_model.specs.Replay.{CountsShape, lists_of, counts_of, entries_of, replay, DivergesAt}
use Rattle.asp_model.specs.Outcome.{ActivityReportShape, activity_report, outcome_of}
use Rattle.law_steps.specs.Reached.{IsReached}
use Rattle.law_schedules.specs.Divergence.{Row, row_of, rows_shown, rows_given, AreInOrder, FitsWhereNoneDiffers, DivergesWhereFirst, RowsAreShown}
use Rattle.law_steps.proofs.EntryLemmas.{first_of_both, second_of_both}
use Rattle.law_steps.proofs.ReachedLemmas.{start_is_reached, runs_go_on}
use Rattle.law_steps.proofs.NamesLaws.{entries_ascend}
use Rattle.law_steps.proofs.ReplayLemmas.{replays_are_runs}
use Rattle.law_schedules.proofs.LeastLemmas.{true_of}
use Rattle.law_schedules.proofs.RowLemmas.{lists_by, counts_by, in_rows, AreAbove, Ascend, first_differs, none_differs}

-- The rows of a configuration

abbrev rows_by : Configuration → List (Name × Activity) → List Row
rows_by c es = map row_of (map (activity_report c) es)

shown_lists : (c : Configuration) (es : List (Name × Activity)) → lists_by (rows_by c es) ≡ map (λ x. (x.0, log_of c x.0)) es
shown_lists c [] = refl
shown_lists c (e ∷ es) = ap (λ l. (e.0, log_of c e.0) ∷ l) (shown_lists c es)

shown_counts : (c : Configuration) (es : List (Name × Activity)) → counts_by (rows_by c es) ≡ map (λ x. (x.0, x.1.reductions)) es
shown_counts c [] = refl
shown_counts c (e ∷ es) = ap (λ l. (e.0, e.1.reductions) ∷ l) (shown_counts c es)

shown_above : (c : Configuration) (k : Name) (es : List (Name × Activity)) → T (below_all name_cmp k es) → AreAbove k (rows_by c es)
shown_above c k [] h = tt
shown_above c k (e ∷ es) h = (true_of (is_lt (name_cmp k e.0)) (first_of_both _ _ h), shown_above c k es (second_of_both _ _ h))

shown_ascend : (c : Configuration) (es : List (Name × Activity)) → T (is_sorted name_cmp es) → Ascend (rows_by c es)
shown_ascend c [] h = tt
shown_ascend c (e ∷ es) h = (shown_above c e.0 es (first_of_both _ _ h), shown_ascend c es (second_of_both _ _ h))

-- The rows of lists and counts

abbrev behind : List Name → List Name
behind [] = []
behind (n ∷ ns) = ns

abbrev first_or : Name → List Name → Name
first_or m [] = m
first_or m (n ∷ ns) = n

given_lists : (lists : ListsShape) (counts : CountsShape) → map (λ x. x.0) lists ≡ map (λ x. x.0) counts → lists_by (rows_given lists counts) ≡ lists
given_lists [] counts h = refl
given_lists (x ∷ lists) [] h = absurd (omega (arith, ap length h))
given_lists (x ∷ lists) (y ∷ counts) h = ap (λ l. x ∷ l) (given_lists lists counts (ap behind h))

given_counts : (lists : ListsShape) (counts : CountsShape) → map (λ x. x.0) lists ≡ map (λ x. x.0) counts → counts_by (rows_given lists counts) ≡ counts
given_counts [] [] h = refl
given_counts [] (y ∷ counts) h = absurd (omega (arith, ap length h))
given_counts (x ∷ lists) [] h = absurd (omega (arith, ap length h))
given_counts (x ∷ lists) (y ∷ counts) h =
    let name : x.0 ≡ y.0 = ap (first_or x.0) h in
    let rest = given_counts lists counts (ap behind h) in
    λ i. (name i, y.1) ∷ rest i

given_above : (k : Name) (lists : ListsShape) (counts : CountsShape) → T (below_all name_cmp k lists) → AreAbove k (rows_given lists counts)
given_above k [] counts h = tt
given_above k (x ∷ lists) [] h = tt
given_above k (x ∷ lists) (y ∷ counts) h = (true_of (is_lt (name_cmp k x.0)) (first_of_both _ _ h), given_above k lists counts (second_of_both _ _ h))

given_ascend : (lists : ListsShape) (counts : CountsShape) → T (is_sorted name_cmp lists) → Ascend (rows_given lists counts)
given_ascend [] counts h = tt
given_ascend (x ∷ lists) [] h = tt
given_ascend (x ∷ lists) (y ∷ counts) h = (given_above x.0 lists counts (first_of_both _ _ h), given_ascend lists counts (second_of_both _ _ h))

reports_shown : (reports : List ActivityReportShape) → rows_given (map (λ a. (a.name, a.senders)) reports) (map (λ a. (a.name, a.count)) reports) ≡ map row_of reports
reports_shown [] = refl
reports_shown (a ∷ reports) = ap (λ l. row_of a ∷ l) (reports_shown reports)

pub rows_are_shown : RowsAreShown
rows_are_shown o = reports_shown o.activities

-- The replay

module _ (program : Tree) (lists : ListsShape) (counts : CountsShape) (order : AreInOrder lists counts) where
  abbrev c : Configuration
  c = replay program lists counts

  abbrev shown : List Row
  shown = rows_shown (outcome_of c)

  abbrev given : List Row
  given = rows_given lists counts

  replay_is_reached : IsReached program c
  replay_is_reached =
      let run = replays_are_runs program lists counts in
      runs_go_on program (Some lists) run.0 (start program) c (start_is_reached program) run.1

  in_shown : (n : Name) → in_rows shown n ≡ entries_of (lists_of c) (counts_of c) n
  in_shown n =
      let p = shown_lists c c.activities in
      let q = shown_counts c c.activities in
      λ i. entries_of (p i) (q i) n

  in_given : (n : Name) → in_rows given n ≡ entries_of lists counts n
  in_given n =
      let p = given_lists lists counts order.names in
      let q = given_counts lists counts order.names in
      λ i. entries_of (p i) (q i) n

pub fits_where_none_differs : FitsWhereNoneDiffers
fits_where_none_differs program lists counts order none =
    let c = replay program lists counts in
    let same = none_differs (rows_shown (outcome_of c)) (rows_given lists counts) none in
    record {
      used_up = sym (shown_lists c c.activities) ∙ ap lists_by same ∙ given_lists lists counts order.names;
      reached = sym (shown_counts c c.activities) ∙ ap counts_by same ∙ given_counts lists counts order.names;
    }

pub diverges_where_first : DivergesWhereFirst
diverges_where_first program lists counts n order first =
    let c = replay program lists counts in
    let shown = in_shown program lists counts order in
    let given = in_given program lists counts order in
    let sorted = (entries_ascend program c (replay_is_reached program lists counts order)).activities in
    let d = first_differs (rows_shown (outcome_of c)) (rows_given lists counts) (shown_ascend c c.activities sorted) (given_ascend lists counts order.ascending) n first in
    let diverges : DivergesAt program lists counts n = λ e. d.at (shown n ∙ e ∙ sym (given n)) in (
      record {
        diverges = diverges;
        least = λ m other. false_from_ne_true (is_lt (name_cmp m n)) (λ h. other (sym (shown m) ∙ d.below m h ∙ given m));
      },
      λ fits. let p = fits.used_up in let q = fits.reached in diverges (λ i. entries_of (p i) (q i) n),
    )
