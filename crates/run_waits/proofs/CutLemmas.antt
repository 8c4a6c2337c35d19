-- What is found is the least cut.
use Rattle.std.proofs.Common.{◌≡◌, ◌≤◌, ◌++◌, ℕ, T, [], map, sym, ap, subst, ◌∙◌}
use Rattle.std.proofs.lemmas.List.{append-nil}
use Rattle.std.specs.FinMap.{is_sorted}
use Rattle.asp_model.specs.declared.outcome.Counts.{Counts}
use Rattle.asp_model.specs.declared.outcome.Lists.{Lists}
use Rattle.asp_model.specs.Names.{Name, name_cmp}
use Rattle.asp_model.specs.Shapes.{counts_shape, lists_shape}
use Rattle.asp_model.specs.Term.{Tree}
use Rattle.asp_model.specs.Configuration.{Configuration, start}
use Rattle.asp_model.specs.Outcome.{ActivityReportShape, OutcomeShape, activity_report, counts_in, lists_in, outcome_of}
use Rattle.asp_model.specs.Replay.{CountsShape, Fits, count_in, counts_of, lists_of, log_in, replay}
use Rattle.asp_model.specs.Step.{ListsShape}
use Rattle.law_families.proofs.CutLemmas.{free_run}
use Rattle.law_steps.proofs.MergeLemmas.{test_of_prefix}
use Rattle.law_steps.proofs.ReplayLemmas.{runs_replay}
use Rattle.law_cuts.specs.Cuts.{IsCut, IsLeastCut}
use Rattle.law_cuts.specs.Searches.{Goal, IsOnWay, made}
use Rattle.law_cuts.proofs.CutLaws.{way_ends}
use Rattle.step_ends.proofs.ReportLemmas.{map_map}
use Rattle.replay_one.specs.Listed.{AreReplayable}
use Rattle.replay_parts.specs.Listening.{AreToldPlaces}
use Rattle.replay_parts.specs.Notes.{places_in, replay_notes}
use Rattle.replay_parts.specs.Rows.{list_shape}
use Rattle.replay_one.proofs.DifferenceLemmas.{in_order, names_of_lists}
use Rattle.run_waits.specs.Targets.{AreTold, Keeps, place_in}
use Rattle.run_waits.specs.declared.receipts.Receipts.{Receipts}
use Rattle.run_waits.proofs.TargetLemmas.{replay_told}
use Rattle.run_waits.specs.Entries.{names_in}
use Rattle.run_waits.specs.Cuts.{IsCutBack, shown}

lists_shown : (c : Configuration) → lists_in (outcome_of c) ≡ lists_of c
lists_shown c = map_map (λ (r : ActivityReportShape). (r.name, r.senders)) (activity_report c) c.activities

counts_shown : (c : Configuration) → counts_in (outcome_of c) ≡ counts_of c
counts_shown c = map_map (λ (r : ActivityReportShape). (r.name, r.count)) (activity_report c) c.activities

-- logs and counts that can be replayed are in order
pub ascending : (lists : Lists) (counts : Counts) → AreReplayable (lists_shape lists) (counts_shape counts)
    → T (is_sorted name_cmp lists.entries.items) × T (is_sorted name_cmp counts.entries.items) × (names_in lists ≡ map (λ x. x.0) counts.entries.items)
ascending lists counts h =
    let ls = lists.entries.items in
    let cs = counts.entries.items in
    let r = h.ordered in
    (in_order ls (map list_shape ls) (sym (names_of_lists ls)) r.ascending, in_order cs (map list_shape ls) (sym r.names) r.ascending, sym (names_of_lists ls) ∙ r.names)

-- where its requests went is told
pub told_end : (program : Tree) (lists : ListsShape) (counts : CountsShape) (r : Receipts) → AreToldPlaces (Keeps r) ([] ++ replay_notes program lists counts) (replay program lists counts) → AreTold (replay program lists counts) r
told_end program lists counts r told f m k q at e =
    let c : Configuration = replay program lists counts in
    let t = replay_told program lists counts told.0 in
    told.2 f ∙ ap (place_in (replay_notes program lists counts ++ places_in c told.0)) (sym e) ∙ t.1 m k q at

itself : (program : Tree) (lists : ListsShape) (counts : CountsShape) → Fits program lists counts → IsCut program lists (lists, counts)
itself program lists counts fits = record { fits = fits; front = λ m. test_of_prefix (log_in lists m) (log_in lists m) ([], append-nil (log_in lists m)) }

module _ (program : Tree) (lists : ListsShape) (counts : CountsShape) (n : Name) (k : ℕ) where
  abbrev goal : Goal
  goal = record { program = program; lists = lists; name = n; count = k }

  -- the replay under its own logs and counts leads there
  pub leads_back : (c : Configuration) → IsOnWay goal c → replay program (lists_of c) (counts_of c) ≡ c
  leads_back c way = (runs_replay program way.names c (free_run lists way.names (start program) c way.run)).1

  pub cut_is : (c : Configuration) (o : OutcomeShape) → Fits program lists counts → k ≤ count_in counts n → IsOnWay goal c → k ≤ made c n → o ≡ outcome_of c → IsCutBack program lists counts n k o
  cut_is c o fits there way has is =
      let least : IsLeastCut program lists n k (lists_of c, counts_of c) = way_ends goal c way has in
      let l : lists_in o ≡ lists_of c = ap lists_in is ∙ lists_shown c in
      let s : counts_in o ≡ counts_of c = ap counts_in is ∙ counts_shown c in
      let same : (lists_of c, counts_of c) ≡ shown o = λ i. (sym l i, sym s i) in
      let cut : IsLeastCut program lists n k (shown o) = subst (IsLeastCut program lists n k) same least in
      record {
        least = cut;
        within = cut.least (lists, counts) (itself program lists counts fits) there;
        replayed = (λ i. outcome_of (replay program (l i) (s i))) ∙ ap outcome_of (leads_back c way) ∙ sym is;
      }

  -- what its outcome shows leads there
  pub shown_leads : (c : Configuration) (o : OutcomeShape) → IsOnWay goal c → o ≡ outcome_of c → replay program (lists_in o) (counts_in o) ≡ c
  shown_leads c o way is =
      let l : lists_in o ≡ lists_of c = ap lists_in is ∙ lists_shown c in
      let s : counts_in o ≡ counts_of c = ap counts_in is ∙ counts_shown c in
      (λ i. replay program (l i) (s i)) ∙ leads_back c way
