-- What the entries of a lawful journal name can be written.
use Rattle.std.proofs.Common.{◌≡◌, ◌≤◌, ◌+◌, ◌^◌, ℕ, Bool, true, false, List, [], ◌∷◌, ◌++◌, Option, Some, None, is_some, refl, ap, ◌∙◌, inl, arith}
use Rattle.std.specs.Prelude.{◌&&◌, ◌==◌}
use Rattle.std.specs.List.{list_all}
use Rattle.std.specs.FinMap.{find}
use Rattle.std.proofs.lemmas.Bool.{and_parts, and_from, leb-true, lt-ltb}
use Rattle.asp_model.specs.declared.limits.TheConstants.{MOST_REDUCTIONS}
use Rattle.asp_model.specs.Names.{FutureShape, name_cmp}
use Rattle.asp_model.specs.Term.{Tree}
use Rattle.asp_model.specs.Configuration.{Configuration}
use Rattle.asp_model.specs.Replay.{counts_of, total}
use Rattle.asp_model.specs.WellFormed.{is_future_name}
use Rattle.asp_model.specs.History.{EntryShape, Lent, Committed, Delivered, Edge, Need, HistoryShape, program_history}
use Rattle.def_journals.specs.Deliveries.{edge_delivered}
use Rattle.def_journals.specs.Journals.{RunShape, all_entered, entered, grant_of, is_in, over, run_of, start_of}
use Rattle.law_chases.proofs.ChaseLemmas.{chase_finds}
use Rattle.law_chases.proofs.FutureLemmas.{no_some, some_is}
use Rattle.law_steps.specs.Reached.{IsReached, IsFilled}
use Rattle.law_steps.specs.Sound.{IsSound}
use Rattle.law_steps.proofs.DeliveryLemmas.{edge_done, need_done}
use Rattle.law_steps.proofs.WholeLemmas.{start_is_sound}
use Rattle.law_journals.specs.Budgets.{granted_in, spent_in}
use Rattle.law_journals.proofs.BudgetLemmas.{budgets_are_kept}
use Rattle.law_journals.proofs.GrowingLemmas.{entries_go_on}
use Rattle.law_journals.proofs.JournalLemmas.{entries_keep_sound, entry_done, first_entered, journals_reach}
use Rattle.law_outcomes.proofs.NumberLemmas.{there_is_named, begun_is_named}
use Rattle.trace_text.specs.Traces.{has_line, has_numbers}
use Rattle.law_traces.specs.Lines.{JournalsHaveLines}

-- A grant is a part of the budget
grant_within : (k g : ℕ) (out : List (ℕ × ℕ)) → grant_of k out ≡ Some g → g ≤ granted_in out
grant_within k g [] h = no_some h
grant_within k g (x ∷ xs) h = by (k == x.0) h (grant_within k g xs)
  where
    by : (b : Bool) → elim b [ true ↦ Some x.1 | false ↦ grant_of k xs ] ≡ Some g → (grant_of k xs ≡ Some g → g ≤ granted_in xs) → g ≤ x.1 + granted_in xs
    by true e more = let same : x.1 ≡ g = some_is e in omega arith
    by false e more = let m = more e in omega arith

-- what a delivery asks for
test_of : (s : RunShape) (b : Bool) (o : Option Configuration) (t : RunShape) → elim b [ true ↦ over s o | false ↦ None ] ≡ Some t → b ≡ true
test_of s true o t e = refl
test_of s false o t e = no_some e

abbrev history : Tree → ℕ → List EntryShape → HistoryShape
history program budget entries = program_history program budget entries

module _ (program : Tree) (budget : ℕ) (small : budget ≤ MOST_REDUCTIONS) (front : List EntryShape) (s : RunShape) (run : run_of (history program budget front) ≡ Some s) where
  c : Configuration
  c = s.configuration

  reached : IsReached program s.configuration
  reached = journals_reach program budget front s run

  sound : IsSound s.configuration
  sound = entries_keep_sound front _ s run (start_is_sound program)

  kept : spent_in s.configuration + (s.left + granted_in s.out) ≡ spent_in (start_of program).configuration + budget
  kept = budgets_are_kept (history program budget front) s (start_is_sound program) run

  spent : total (counts_of s.configuration) ≤ MOST_REDUCTIONS
  spent = let none : spent_in (start_of program).configuration ≡ 0 = refl in omega (arith, kept, none, small)

  grants : granted_in s.out ≤ MOST_REDUCTIONS
  grants = let none : spent_in (start_of program).configuration ≡ 0 = refl in omega (arith, kept, none, small)

  filled_named : (f : FutureShape) → IsFilled s.configuration f → is_future_name f ≡ true
  filled_named f h = begun_is_named program s.configuration reached spent f (sound.begun f (inl h))

  entry_lined : (x : EntryShape) (t : RunShape) → entered x s ≡ Some t → has_numbers x ≡ true → has_line x ≡ true
  entry_lined (Lent k) t e h = h
  entry_lined (Committed k r) t e h =
      let d = entry_done (Committed k r) s t e in
      let within : r ≤ d.grant = leb-true r d.grant d.within in
      let most = grant_within k d.grant s.out d.out in
      and_from _ _ h (lt-ltb r (2 ^ 32) (omega (arith, within, most, grants)))
  entry_lined (Delivered (Edge f from to)) t e h =
      let d = entry_done (Delivered (Edge f from to)) s t e in
      let x = edge_done s.configuration f to d.end d.delivers in
      let may = test_of s (is_some (find name_cmp from s.configuration.activities) && is_in s to) (edge_delivered s.configuration f to) t e in
      let there = (and_parts (is_some (find name_cmp from s.configuration.activities)) (is_in s to) may).0 in
      and_from _ _ (filled_named f (ap is_some x.filled))
      (and_from _ _ (there_is_named program s.configuration reached spent from there) (there_is_named program s.configuration reached spent to (ap is_some x.at)))
  entry_lined (Delivered (Need f to place)) t e h =
      let d = entry_done (Delivered (Need f to place)) s t e in
      let x = need_done s.configuration f to place d.end d.delivers in
      let found = chase_finds s.configuration.futures x.held f x.value x.chased in
      and_from _ _ (filled_named f (ap is_some found.0)) (and_from _ _ (there_is_named program s.configuration reached spent to (ap is_some x.at)) h)

lines_from : (program : Tree) (budget : ℕ) → budget ≤ MOST_REDUCTIONS → (front xs : List EntryShape) (s t : RunShape) → run_of (history program budget front) ≡ Some s → all_entered xs s ≡ Some t → list_all has_numbers xs ≡ true → list_all has_line xs ≡ true
lines_from program budget small front [] s t run e h = refl
lines_from program budget small front (x ∷ xs) s t run e h =
    let u = first_entered x xs s t e in
    let p = and_parts (has_numbers x) (list_all has_numbers xs) h in
    let next = entries_go_on (history program budget front) x s run ∙ u.1 in
    and_from _ _ (entry_lined program budget small front s run x u.0 u.1 p.0) (lines_from program budget small (front ++ x ∷ []) xs u.0 t next u.2 p.1)

pub journals_have_lines : JournalsHaveLines
journals_have_lines program budget entries s run small h = lines_from program budget small [] entries _ s refl run h
