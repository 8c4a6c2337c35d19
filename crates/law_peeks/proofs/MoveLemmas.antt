-- The moves of a lease are reductions of its activity.
use Rattle.std.proofs.Common.{◌≡◌, ◌+◌, ◌∷◌, [], ℕ, zero, suc, true, false, List, Option, Some, None, refl, sym, ap, subst, ◌∙◌, arith}
use Rattle.asp_model.specs.Names.{Name, name_cmp}
use Rattle.asp_model.specs.Chase.{chase}
use Rattle.asp_model.specs.Configuration.{Activity, Configuration}
use Rattle.asp_model.specs.Store.{cell}
use Rattle.def_journals.specs.Deliveries.{at_place, need_delivered, value_needed}
use Rattle.def_journals.specs.Journals.{reduced}
use Rattle.law_chases.specs.Chases.{IsValueOf}
use Rattle.law_chases.proofs.MapLemmas.{find_same}
use Rattle.law_steps.specs.Reached.{IsAt, Needs, Steps}
use Rattle.law_steps.proofs.NameLemmas.{name_same, name_total}
use Rattle.law_paths.specs.Whole.{IsWhole}
use Rattle.law_paths.proofs.WholeLemmas.{moves_keep_whole}
use Rattle.activity_step.specs.Local.{IsLocalStep}
use Rattle.law_core.specs.Commits.{with_activity}
use Rattle.law_core.proofs.LocalLemmas.{local_step, run_reduced, written_itself, written_over}
use Rattle.law_peeks.specs.Needs.{GoesAlike, Peek, with_peek}
use Rattle.law_peeks.specs.Moves.{AreConfirmed, Contracts, IsMoved, IsPeeked, LeaseMove, MovesAreReduced, Peeks, contractions, peeks}
use Rattle.law_peeks.proofs.NeedLemmas.{peek_needed, peek_value}
use Rattle.law_peeks.proofs.StepLemmas.{goes_alike}

-- who is written is there
pub at_itself : (c : Configuration) (n : Name) (b : Activity) → IsAt (with_activity n b c) n b
at_itself c n b = find_same name_cmp name_total name_same n b c.activities

pub itself : (c : Configuration) (n : Name) (a : Activity) → IsWhole c → IsAt c n a → with_activity n a c ≡ c
itself c n a whole is = written_itself c n whole.sound.ordered.activities a is

pub over : (c : Configuration) (n : Name) (a b : Activity) → IsWhole c → with_activity n b (with_activity n a c) ≡ with_activity n b c
over c n a b whole = written_over c n whole.sound.ordered.activities a b

-- One contraction

module _ (c : Configuration) (n : Name) (a m : Activity) (whole : IsWhole c) (is : IsAt c n a) (x : IsLocalStep a m) where
  pub contracted_whole : IsWhole (with_activity n m c)
  contracted_whole = moves_keep_whole (Steps None n) c (with_activity n m c) whole (local_step c n a m is x)

  -- the reductions behind it
  pub contracted : (r : ℕ) → reduced (suc r) n c ≡ reduced r n (with_activity n m c)
  contracted r =
      let one : suc r ≡ 1 + r = omega arith in
      ap (λ j. reduced j n c) one ∙ run_reduced n 1 r c a m whole.sound is (m, x, refl)

-- One value

module _ (c : Configuration) (n : Name) (a : Activity) (x : Peek) (whole : IsWhole c) (is : IsAt c n a) (h : IsPeeked a x) (v : IsValueOf c.futures x.future x.value) where
  abbrev d : Configuration
  d = with_activity n (with_peek a x) c

  delivered : need_delivered c x.future n x.place ≡ Some d
  delivered =
      ap (λ (o : Option Activity). elim o [ None ↦ None | Some z ↦ at_place c n x.place z (value_needed (chase c.futures) x.future (cell z.store x.place)) ]) is
      ∙ ap (at_place c n x.place a) (peek_value c.futures a x h v)

  pub peeked_whole : IsWhole d
  peeked_whole = moves_keep_whole (Needs x.future n x.place) c d whole delivered

  pub peeked_alike : GoesAlike c d n x
  peeked_alike = goes_alike c n a x whole is h.contexts h.redex h.splits (peek_needed c a x h whole.closed v)

  -- the same reductions, where there is one
  pub peeked : (r : ℕ) → reduced (suc r) n c ≡ reduced (suc r) n d
  peeked zero = sym (peeked_alike.steps None)
  peeked (suc r) = λ i. elim (sym peeked_alike.communicates i) [ true ↦ None | false ↦ elim (sym (peeked_alike.steps None) i) [ None ↦ None | Some z ↦ reduced (suc r) n z ] ]

-- Moves

module _ (n : Name) where
  pub moved_whole : (ms : List LeaseMove) (c : Configuration) (a b : Activity) → IsWhole c → IsAt c n a → IsMoved ms a b → AreConfirmed c.futures (peeks ms) → IsWhole (with_activity n b c)
  moved_whole [] c a b whole is run sure = subst IsWhole (sym (itself c n b whole (is ∙ ap Some run))) whole
  moved_whole (Contracts ∷ ms) c a b whole is run sure =
      subst IsWhole (over c n run.0 b whole)
      (moved_whole ms (with_activity n run.0 c) run.0 b (contracted_whole c n a run.0 whole is run.1) (at_itself c n run.0) run.2 sure)
  moved_whole (Peeks x ∷ ms) c a b whole is run sure =
      let m : Activity = with_peek a x in
      subst IsWhole (over c n m b whole)
      (moved_whole ms (with_activity n m c) m b (peeked_whole c n a x whole is run.0 sure.0) (at_itself c n m) run.1 sure.1)

  moved_reduced : (ms : List LeaseMove) (k : ℕ) (c : Configuration) (a b : Activity) → IsWhole c → IsAt c n a → IsMoved ms a b → AreConfirmed c.futures (peeks ms) → reduced (contractions ms + suc k) n c ≡ reduced (suc k) n (with_activity n b c)
  moved_reduced [] k c a b whole is run sure =
      let none : 0 + suc k ≡ suc k = omega arith in
      ap (λ j. reduced j n c) none ∙ ap (reduced (suc k) n) (sym (itself c n b whole (is ∙ ap Some run)))
  moved_reduced (Contracts ∷ ms) k c a b whole is run sure =
      let d : Configuration = with_activity n run.0 c in
      let one : suc (contractions ms) + suc k ≡ suc (contractions ms + suc k) = omega arith in
      ap (λ j. reduced j n c) one
      ∙ contracted c n a run.0 whole is run.1 (contractions ms + suc k)
      ∙ moved_reduced ms k d run.0 b (contracted_whole c n a run.0 whole is run.1) (at_itself c n run.0) run.2 sure
      ∙ ap (reduced (suc k) n) (over c n run.0 b whole)
  moved_reduced (Peeks x ∷ ms) k c a b whole is run sure =
      let m : Activity = with_peek a x in
      let d : Configuration = with_activity n m c in
      let more : contractions ms + suc k ≡ suc (contractions ms + k) = omega arith in
      ap (λ j. reduced j n c) more
      ∙ peeked c n a x whole is run.0 sure.0 (contractions ms + k)
      ∙ ap (λ j. reduced j n d) (sym more)
      ∙ moved_reduced ms k d m b (peeked_whole c n a x whole is run.0 sure.0) (at_itself c n m) run.1 sure.1
      ∙ ap (reduced (suc k) n) (over c n m b whole)

pub moves_are_reduced : MovesAreReduced
moves_are_reduced ms k c n a b whole is run sure = moved_reduced n ms k c a b whole is run sure
