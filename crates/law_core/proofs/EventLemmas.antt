-- The events of commits.
use Rattle.std.proofs.Common.{◌≡◌, ◌+◌, ◌++◌, [], ℕ, zero, suc, List, Option, Some, None, sym, ap, ◌∙◌, arith}
use Rattle.std.proofs.lemmas.List.{append-nil}
use Rattle.asp_model.specs.Names.{Name, name_cmp}
use Rattle.asp_model.specs.Split.{Splits, Stands}
use Rattle.asp_model.specs.Configuration.{Activity, Configuration}
use Rattle.asp_model.specs.Chase.{chase}
use Rattle.asp_model.specs.Intent.{Acts, Rests}
use Rattle.asp_model.specs.Step.{step}
use Rattle.def_journals.specs.Edges.{Event}
use Rattle.def_journals.specs.Passing.{effect_events, named_events, read_in, redex_read, step_events, steps_events, unpacked_by}
use Rattle.law_steps.specs.Reached.{IsAt, Steps}
use Rattle.law_steps.specs.Sound.{IsSound}
use Rattle.law_chases.proofs.MapLemmas.{find_same}
use Rattle.law_steps.proofs.NameLemmas.{name_same, name_total}
use Rattle.law_steps.proofs.WholeLemmas.{moves_keep_sound, sound_intents}
use Rattle.activity_step.specs.Local.{IsLocalStep, LocalRun}
use Rattle.law_core.proofs.ReadingLemmas.{acts_unpack_nothing, nothing_read}
use Rattle.law_core.specs.Commits.{with_activity}
use Rattle.law_core.specs.Events.{ActsAreEvents, RunsAreSilent}
use Rattle.law_core.proofs.LocalLemmas.{local_in, local_step, no_future_read, own_effect, run_sound, written_itself, written_over}

-- One contraction

module _ (c : Configuration) (n : Name) (a b : Activity) (is : IsAt c n a) (x : IsLocalStep a b) where
  reads_none : read_in c n ≡ []
  reads_none =
      ap (λ (o : Option Activity). elim o [ None ↦ [] | Some z ↦ unpacked_by (chase c.futures) z ]) is
      ∙ ap (λ t. elim t [ Stands place ↦ [] | Splits contexts r ↦ redex_read (chase c.futures) a.store r ]) x.splits
      ∙ nothing_read (chase c.futures) a.store x.redex (no_future_read a b x)

  local_silent : step_events c n ≡ []
  local_silent =
      ap (λ p. elim p [ Rests status ↦ [] | Acts e ↦ effect_events n (read_in c n) e ]) (local_in c n a b is x)
      ∙ ap (λ xs. effect_events n xs (own_effect b)) reads_none

-- Runs

abbrev events_then : ℕ → Name → Option Configuration → List Event
events_then r n o = elim o [ None ↦ [] | Some d ↦ steps_events r d n ]

module _ (n : Name) where
  -- the events behind a run are those of the activity that it leads to
  run_events : (r k : ℕ) (c : Configuration) (a b : Activity) → IsSound c → IsAt c n a → LocalRun r a b → steps_events (r + k) c n ≡ steps_events k (with_activity n b c) n
  run_events zero k c a b sound is run =
      let none : 0 + k ≡ k = omega arith in
      ap (λ j. steps_events j c n) none ∙ ap (λ d. steps_events k d n) (sym (written_itself c n sound.ordered.activities b (is ∙ ap Some run)))
  run_events (suc r) k c a b sound is run =
      let d : Configuration = with_activity n run.0 c in
      let steps = local_step c n a run.0 is run.1 in
      let kept = moves_keep_sound (Steps None n) c d sound steps in
      let one : suc r + k ≡ suc (r + k) = omega arith in
      ap (λ j. steps_events j c n) one
      ∙ ap (λ xs. xs ++ events_then (r + k) n (step None c n)) (local_silent c n a run.0 is run.1)
      ∙ ap (events_then (r + k) n) steps
      ∙ run_events r k d run.0 b kept (find_same name_cmp name_total name_same n run.0 c.activities) run.2
      ∙ ap (λ e. steps_events k e n) (written_over c n sound.ordered.activities run.0 b)

pub runs_are_silent : RunsAreSilent
runs_are_silent s k grant n r b h =
    let same : r ≡ r + 0 = omega arith in
    ap (λ o. named_events s r o) h.named
    ∙ ap (λ j. steps_events j s.configuration n) same
    ∙ run_events n r 0 s.configuration h.activity b h.sound h.there h.run

pub acts_are_events : ActsAreEvents
acts_are_events s k grant n r b e h none acts =
    let c : Configuration = with_activity n b s.configuration in
    let sound : IsSound c = run_sound n r s.configuration h.activity b h.sound h.there h.run in
    let same : suc r ≡ r + 1 = omega arith in
    ap (λ o. named_events s (suc r) o) h.named
    ∙ ap (λ j. steps_events j s.configuration n) same
    ∙ run_events n r 1 s.configuration h.activity b h.sound h.there h.run
    ∙ ap (λ o. step_events c n ++ events_then 0 n o) ((sound_intents c sound).step n e acts)
    ∙ append-nil (step_events c n)
    ∙ acts_unpack_nothing c n e none acts
