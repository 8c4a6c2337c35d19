-- What a lease did, by its notes.
use Rattle.std.proofs.Common.{◌≡◌, ◌≤◌, ◌-◌, ◌∷◌, [], ℕ, suc, List, Some, map, sym, ap, ◌∙◌, arith}
use Rattle.asp_model.specs.Names.{Name}
use Rattle.asp_model.specs.Configuration.{Activity}
use Rattle.asp_model.specs.Step.{with_effect}
use Rattle.asp_model.specs.History.{Committed}
use Rattle.def_journals.specs.Journals.{RunShape, all_entered, entered}
use Rattle.def_journals.specs.Passing.{effect_events, entry_events, events_from, receives}
use Rattle.law_core.specs.Commits.{made_by, returned, with_activity}
use Rattle.law_peeks.specs.Needs.{Peek}
use Rattle.law_peeks.specs.Moves.{contractions, peeks, trailing}
use Rattle.law_peeks.specs.Noted.{noted_at}
use Rattle.law_peeks.specs.Commits.{entries_of, need_entry}
use Rattle.law_peeks.specs.Events.{values_of}
use Rattle.law_peeks.specs.Leases.{HasRead, ReadsAndActsAreCommits, ReadsAndActsAreEvents, ReadsAreCommits, ReadsAreEvents, commit_of, read_in}
use Rattle.law_peeks.proofs.EntryLemmas.{moves_and_acts_are_commits, moves_are_commits}
use Rattle.law_peeks.proofs.NotedLemmas.{notes_tell}
use Rattle.law_peeks.proofs.ToldLemmas.{moves_and_acts_are_events, moves_are_events}

module _ (s : RunShape) (k grant : ℕ) (n : Name) (r : ℕ) (notes : List (ℕ × Peek)) (b : Activity) (h : HasRead s k grant n r notes b) where
  trails : trailing h.moves ≡ noted_at r notes
  trails = (notes_tell h.moves).1 ∙ (λ i. noted_at (h.count i) (h.told i))

  pub all_read : peeks h.moves ≡ read_in notes
  all_read = (notes_tell h.moves).0 ∙ ap read_in h.told

  same_entries : entries_of k n h.moves ≡ commit_of k n r notes
  same_entries = λ i. Committed k (h.count i) ∷ map (need_entry n) (trails i)

  few : r ≤ grant → contractions h.moves ≤ grant
  few within = omega (arith, within, h.count)

  pub read_commits : r ≤ grant → all_entered (commit_of k n r notes) s ≡ Some (returned s k (grant - r) (with_activity n b s.configuration) [])
  read_commits within =
      ap (λ es. all_entered es s) (sym same_entries)
      ∙ moves_are_commits s k grant n h.moves b h.moved (few within)
      ∙ ap (λ j. Some (returned s k (grant - j) (with_activity n b s.configuration) [])) h.count

  pub read_events : r ≤ grant → events_from (commit_of k n r notes) s ≡ map (receives n) (values_of (read_in notes))
  read_events within =
      ap (λ es. events_from es s) (sym same_entries)
      ∙ moves_are_events s k grant n h.moves b h.moved (few within)
      ∙ ap (λ xs. map (receives n) (values_of xs)) all_read

pub reads_are_commits : ReadsAreCommits
reads_are_commits s k grant n r notes b h within = read_commits s k grant n r notes b h within

pub reads_are_events : ReadsAreEvents
reads_are_events s k grant n r notes b h within = read_events s k grant n r notes b h within

pub reads_and_acts_are_commits : ReadsAndActsAreCommits
reads_and_acts_are_commits s k grant n r notes b e h within intends =
    let one : suc r ≡ suc (contractions h.moves) = ap suc (sym h.count) in
    ap (λ j. entered (Committed k j) s) one
    ∙ moves_and_acts_are_commits s k grant n h.moves b e h.moved (omega (arith, within, h.count)) intends
    ∙ ap (λ j. Some (returned s k (grant - suc j) (with_effect n e (with_activity n b s.configuration)) (made_by e.made))) h.count

pub reads_and_acts_are_events : ReadsAndActsAreEvents
reads_and_acts_are_events s k grant n r notes b e h none acts =
    ap (λ j. entry_events (Committed k (suc j)) s) (sym h.count)
    ∙ moves_and_acts_are_events s k grant n h.moves b e h.moved none acts
    ∙ ap (λ xs. effect_events n (values_of xs) e) (all_read s k grant n r notes b h)
