use Rattle.std.proofs.Common.{◌≡◌, ◌<◌, ◌∙◌, List, ℕ, Option, Some, length, map, refl, sym, ap, subst}
use Rattle.std.specs.Prelude.{slice_get}
use Rattle.asp_model.specs.Term.{Tree}
use Rattle.law_families.specs.Families.{RunLogs}
use Rattle.outcome_search.specs.Ends.{run_logs}
use Rattle.outcome_search.specs.declared.runs.EndedRun.{EndedRun}
use Rattle.replay_offers.specs.Programs.{tree_in}
use Rattle.outcomes_text.specs.Outcomes.{Outcome}
use Rattle.outcomes_text.specs.Tallies.{AreWithin}
use Rattle.outcomes_words.specs.declared.task.Choice.{Choice}
use Rattle.outcomes_top.specs.Correct.{outcomes_of}
use Rattle.outcomes_top.specs.Surveys.{place_in}
use Rattle.outcomes_top.proofs.FamilyLemmas.{choice_at, fewer_at, halts_memory, has_at, length_mapped, logs_at, one_of, place_within}
use Rattle.outcomes_top.proofs.answer.one.Goals as goal

-- what was answered for the ends and their outcomes, said of their logs
told_of : (depth : Option ℕ) (t : Tree) (slice items : List EndedRun) (tally : List Outcome) (choice : Choice) (r : Option ℕ) → slice ≡ items → tally ≡ outcomes_of depth t (map run_logs items)
    → r ≡ place_in tally (length slice) choice → place_in (outcomes_of depth t (map run_logs items)) (length (map run_logs items)) choice ≡ r
told_of depth t slice items tally choice r e f h =
    ap (λ (os : List Outcome). place_in os (length (map run_logs items)) choice) (sym f)
    ∙ ap (λ (n : ℕ). place_in tally n choice) (length_mapped run_logs items ∙ sym (ap length e)) ∙ sym h

pub returns-in_default-clause-halt : goal.returns-in_default-clause-halt
returns-in_default-clause-halt c =
    let t : Tree = tree_in c.args.family.now.runs in
    let items : List EndedRun = c.args.family.now.ends.items in (
      refl,
      fewer_at c.args.depth t (map run_logs items) c.args.choice
          (told_of c.args.depth t c.deref.result.now items c.args.survey.now.tally c.args.choice c.place_chosen.result c.deref.ensures.value c.requires.survey.tally c.place_chosen.ensures.place ∙ c.in_default.is),
    )

pub end_at-end-requires : goal.end_at-end-requires
end_at-end-requires c =
    let slice : List EndedRun = c.deref.result.now in
    let items : List EndedRun = c.args.family.now.ends.items in
    let e : slice ≡ items = c.deref.ensures.value in
    let same : slice ≡ c.deref-2.result.now = e ∙ sym c.deref-2.ensures.value in
    let count : length (map run_logs items) ≡ length slice = length_mapped run_logs items ∙ sym (ap length e) in
    let within : AreWithin (length slice) c.args.survey.now.tally = subst (λ (n : ℕ). AreWithin n c.args.survey.now.tally) count c.requires.survey.within in
    let below : c.in-Some.place < length slice = place_within c.args.survey.now.tally (length slice) c.args.choice c.in-Some.place within (sym c.place_chosen.ensures.place ∙ c.in-Some.is) in
    record { within = subst (λ (xs : List EndedRun). c.in-Some.place < length xs) same below }

pub report_of-requires : goal.report_of-requires
report_of-requires c =
    let items : List EndedRun = c.args.family.now.ends.items in
    let x : EndedRun = c.end_at-end.result.now in
    let got : slice_get items c.in-Some.place ≡ Some x = ap (λ (xs : List EndedRun). slice_get xs c.in-Some.place) (sym c.deref-2.ensures.value) ∙ c.end_at-end.ensures.end in
    record { end = c.requires.ends (run_logs x) (has_at items c.in-Some.place x got) }

pub returns : goal.returns
returns c =
    let t : Tree = tree_in c.args.family.now.runs in
    let items : List EndedRun = c.args.family.now.ends.items in
    let ends : List RunLogs = map run_logs items in
    let x : EndedRun = c.end_at-end.result.now in
    let got : slice_get items c.in-Some.place ≡ Some x = ap (λ (xs : List EndedRun). slice_get xs c.in-Some.place) (sym c.deref-2.ensures.value) ∙ c.end_at-end.ensures.end in
    let place : place_in (outcomes_of c.args.depth t ends) (length ends) c.args.choice ≡ Some c.in-Some.place =
    told_of c.args.depth t c.deref.result.now items c.args.survey.now.tally c.args.choice c.place_chosen.result c.deref.ensures.value c.requires.survey.tally c.place_chosen.ensures.place ∙ c.in-Some.is in
    record {
      answer = one_of c.args.depth t ends c.args.choice (run_logs x) c.report_of.result
          (choice_at c.args.depth t ends c.args.choice c.in-Some.place (run_logs x) place (logs_at items c.in-Some.place x got)) c.report_of.ensures.report;
      halt = halts_memory c.args.depth t ends c.args.choice c.report_of.result c.report_of.ensures.halt;
    }
