-- The events of what a lease did.
use Rattle.std.proofs.Common.{◌≡◌, ◌+◌, ◌∷◌, ◌++◌, [], ℕ, zero, suc, List, Option, Some, None, map, refl, sym, ap, ◌∙◌, arith}
use Rattle.std.proofs.lemmas.List.{append-nil}
use Rattle.asp_model.specs.Names.{FutureShape, Name}
use Rattle.asp_model.specs.Parcel.{ParcelShape}
use Rattle.asp_model.specs.Chase.{chase}
use Rattle.asp_model.specs.Configuration.{Activity, Configuration}
use Rattle.asp_model.specs.Intent.{Acts, Effect, Intent, Rests}
use Rattle.asp_model.specs.Split.{Splits, Stands}
use Rattle.asp_model.specs.Step.{intent_in, step}
use Rattle.asp_model.specs.History.{Committed, EntryShape}
use Rattle.def_journals.specs.Edges.{Event}
use Rattle.def_journals.specs.Journals.{RunShape, entered}
use Rattle.def_journals.specs.Owed.{need_at, need_of, need_to}
use Rattle.def_journals.specs.Passing.{effect_events, entry_events, events_from, named_events, read_in, receives, step_events, steps_events}
use Rattle.asp_model.specs.Contraction.{first_future}
use Rattle.law_steps.specs.Reached.{IsAt}
use Rattle.activity_step.specs.Local.{IsLocalStep}
use Rattle.law_paths.specs.Whole.{IsWhole}
use Rattle.law_core.specs.Commits.{with_activity}
use Rattle.law_core.proofs.LocalLemmas.{local_in, local_step, no_future_read, own_effect}
use Rattle.law_core.proofs.OperandLemmas.{operands}
use Rattle.law_core.proofs.ReadingLemmas.{acts_unpack_nothing}
use Rattle.law_peeks.specs.Needs.{GoesAlike, Peek, with_peek}
use Rattle.law_peeks.specs.Moves.{AreConfirmed, Contracts, IsMoved, LeaseMove, Peeks, contractions, peeks, trailing, unless_followed}
use Rattle.law_peeks.specs.Commits.{need_entry}
use Rattle.law_peeks.specs.Events.{MovesAndActsAreEvents, MovesAreEvents, values_of}
use Rattle.law_peeks.proofs.MoveLemmas.{at_itself, contracted_whole, itself, over, peeked_alike, peeked_whole}
use Rattle.law_peeks.proofs.EntryLemmas.{HasIn, after, after_in, commits, halfway, need_entered, still_in, trailing_confirmed, with_peek_in}

-- what an activity receives by these values
abbrev told : Name → List Peek → List Event
told n xs = map (receives n) (values_of xs)

abbrev events_then : ℕ → Name → Option Configuration → List Event
events_then r n o = elim o [ None ↦ [] | Some d ↦ steps_events r d n ]

-- One contraction has no event

module _ (c : Configuration) (n : Name) (a m : Activity) (is : IsAt c n a) (x : IsLocalStep a m) where
  needs_none : need_to c n ≡ None
  needs_none =
      ap (λ (o : Option Activity). elim o [ None ↦ None | Some z ↦ need_of (chase c.futures) z ]) is
      ∙ ap (λ t. elim t [ Stands place ↦ None | Splits contexts r ↦ need_at (chase c.futures) a.store (first_future a.store (operands a.store r)) ]) x.splits
      ∙ ap (need_at (chase c.futures) a.store) (no_future_read a m x)

  contracted_events : (r : ℕ) → steps_events (suc r) c n ≡ steps_events r (with_activity n m c) n
  contracted_events r = λ i. acts_unpack_nothing c n (own_effect m) needs_none (local_in c n a m is x) i ++ events_then r n (local_step c n a m is x i)

-- One value less to unpack is one event less

abbrev told_by : Name → List (FutureShape × ParcelShape) → Intent → List Event
told_by n read p = elim p [ Rests status ↦ [] | Acts e ↦ effect_events n read e ]

module _ (c d : Configuration) (n : Name) (x : Peek) (h : GoesAlike c d n x) (e : Effect) (acts : intent_in d n ≡ Acts e) where
  peeked_step : step_events c n ≡ receives n (x.future, x.value) ∷ step_events d n
  peeked_step =
      ap (told_by n (read_in c n)) (sym h.intent ∙ acts)
      ∙ ap (λ xs. effect_events n xs e) h.unpacked
      ∙ ap (λ p. receives n (x.future, x.value) ∷ told_by n (read_in d n) p) (sym acts)

  peeked_events : (r : ℕ) → steps_events (suc r) c n ≡ receives n (x.future, x.value) ∷ steps_events (suc r) d n
  peeked_events r = λ i. peeked_step i ++ events_then r n (sym (h.steps None) i)

-- Moves

module _ (n : Name) where
  -- before a contraction an activity acts
  acts_on : (ms : List LeaseMove) (j : ℕ) (c : Configuration) (a b : Activity) → contractions ms ≡ suc j → IsWhole c → IsAt c n a → IsMoved ms a b → AreConfirmed c.futures (peeks ms) → (e : Effect) × (intent_in c n ≡ Acts e)
  acts_on [] j c a b some whole is run sure = absurd (omega (arith, some))
  acts_on (Contracts ∷ ms) j c a b some whole is run sure = (own_effect run.0, local_in c n a run.0 is run.1)
  acts_on (Peeks x ∷ ms) j c a b some whole is run sure =
      let m : Activity = with_peek a x in
      let y = acts_on ms j (with_activity n m c) m b some (peeked_whole c n a x whole is run.0 sure.0) (at_itself c n m) run.1 sure.1 in
      (y.0, sym (peeked_alike c n a x whole is run.0 sure.0).intent ∙ y.1)

  -- before one that acts too
  acts_before : (ms : List LeaseMove) (c : Configuration) (a b : Activity) (e : Effect) → intent_in (with_activity n b c) n ≡ Acts e → IsWhole c → IsAt c n a → IsMoved ms a b → AreConfirmed c.futures (peeks ms) → (e : Effect) × (intent_in c n ≡ Acts e)
  acts_before [] c a b e acts whole is run sure = (e, ap (λ d. intent_in d n) (sym (itself c n b whole (is ∙ ap Some run))) ∙ acts)
  acts_before (Contracts ∷ ms) c a b e acts whole is run sure = (own_effect run.0, local_in c n a run.0 is run.1)
  acts_before (Peeks x ∷ ms) c a b e acts whole is run sure =
      let m : Activity = with_peek a x in
      let y = acts_before ms (with_activity n m c) m b e (ap (λ d. intent_in d n) (over c n m b whole) ∙ acts) (peeked_whole c n a x whole is run.0 sure.0) (at_itself c n m) run.1 sure.1 in
      (y.0, sym (peeked_alike c n a x whole is run.0 sure.0).intent ∙ y.1)

  -- the contractions tell of all values but the trailing ones
  moved_events : (ms : List LeaseMove) (c : Configuration) (a b : Activity) → IsWhole c → IsAt c n a → IsMoved ms a b → AreConfirmed c.futures (peeks ms) → steps_events (contractions ms) c n ++ told n (trailing ms) ≡ told n (peeks ms)
  moved_events [] c a b whole is run sure = refl
  moved_events (Contracts ∷ ms) c a b whole is run sure =
      ap (λ es. es ++ told n (trailing ms)) (contracted_events c n a run.0 is run.1 (contractions ms))
      ∙ moved_events ms (with_activity n run.0 c) run.0 b (contracted_whole c n a run.0 whole is run.1) (at_itself c n run.0) run.2 sure
  moved_events (Peeks x ∷ ms) c a b whole is run sure =
      let m : Activity = with_peek a x in
      by (contractions ms) refl (moved_events ms (with_activity n m c) m b (peeked_whole c n a x whole is run.0 sure.0) (at_itself c n m) run.1 sure.1)
    where
      by : (j : ℕ) → contractions ms ≡ j → steps_events (contractions ms) (with_activity n (with_peek a x) c) n ++ told n (trailing ms) ≡ told n (peeks ms) → steps_events (contractions ms) c n ++ told n (unless_followed (contractions ms) x (trailing ms)) ≡ told n (x ∷ peeks ms)
      by zero e later =
          let d : Configuration = with_activity n (with_peek a x) c in
          ap (λ i. steps_events i c n ++ told n (unless_followed i x (trailing ms))) e
          ∙ ap (λ es. receives n (x.future, x.value) ∷ es) (ap (λ i. steps_events i d n ++ told n (trailing ms)) (sym e) ∙ later)
      by (suc j) e later =
          let d : Configuration = with_activity n (with_peek a x) c in
          let y = acts_on ms j d (with_peek a x) b e (peeked_whole c n a x whole is run.0 sure.0) (at_itself c n (with_peek a x)) run.1 sure.1 in
          ap (λ i. steps_events i c n ++ told n (unless_followed i x (trailing ms))) e
          ∙ ap (λ es. es ++ told n (trailing ms)) (peeked_events c d n x (peeked_alike c n a x whole is run.0 sure.0) y.0 y.1 j)
          ∙ ap (λ es. receives n (x.future, x.value) ∷ es) (ap (λ i. steps_events i d n ++ told n (trailing ms)) (sym e) ∙ later)

  -- with one reduction more, they tell of all
  acted_events : (ms : List LeaseMove) (c : Configuration) (a b : Activity) (e : Effect) → intent_in (with_activity n b c) n ≡ Acts e → IsWhole c → IsAt c n a → IsMoved ms a b → AreConfirmed c.futures (peeks ms)
      → steps_events (contractions ms + 1) c n ≡ told n (peeks ms) ++ steps_events 1 (with_activity n b c) n
  acted_events [] c a b e acts whole is run sure =
      let none : 0 + 1 ≡ 1 = omega arith in
      ap (λ j. steps_events j c n) none ∙ ap (λ d. steps_events 1 d n) (sym (itself c n b whole (is ∙ ap Some run)))
  acted_events (Contracts ∷ ms) c a b e acts whole is run sure =
      let d : Configuration = with_activity n run.0 c in
      let one : suc (contractions ms) + 1 ≡ suc (contractions ms + 1) = omega arith in
      ap (λ j. steps_events j c n) one
      ∙ contracted_events c n a run.0 is run.1 (contractions ms + 1)
      ∙ acted_events ms d run.0 b e (ap (λ z. intent_in z n) (over c n run.0 b whole) ∙ acts) (contracted_whole c n a run.0 whole is run.1) (at_itself c n run.0) run.2 sure
      ∙ ap (λ z. told n (peeks ms) ++ steps_events 1 z n) (over c n run.0 b whole)
  acted_events (Peeks x ∷ ms) c a b e acts whole is run sure =
      let m : Activity = with_peek a x in
      let d : Configuration = with_activity n m c in
      let kept : IsWhole d = peeked_whole c n a x whole is run.0 sure.0 in
      let more : contractions ms + 1 ≡ suc (contractions ms) = omega arith in
      let acts_then = ap (λ z. intent_in z n) (over c n m b whole) ∙ acts in
      let y = acts_before ms d m b e acts_then kept (at_itself c n m) run.1 sure.1 in
      ap (λ j. steps_events j c n) more
      ∙ peeked_events c d n x (peeked_alike c n a x whole is run.0 sure.0) y.0 y.1 (contractions ms)
      ∙ ap (λ j. receives n (x.future, x.value) ∷ steps_events j d n) (sym more)
      ∙ ap (λ es. receives n (x.future, x.value) ∷ es) (acted_events ms d m b e acts_then kept (at_itself c n m) run.1 sure.1)
      ∙ ap (λ z. told n (x ∷ peeks ms) ++ steps_events 1 z n) (over c n m b whole)

-- Needs

events_on : (x : EntryShape) (xs : List EntryShape) (s t : RunShape) → entered x s ≡ Some t → events_from (x ∷ xs) s ≡ entry_events x s ++ events_from xs t
events_on x xs s t e = ap (λ o. entry_events x s ++ elim o [ None ↦ [] | Some t ↦ events_from xs t ]) e

module _ (k : ℕ) (n : Name) where
  needs_told : (xs : List Peek) (s : RunShape) (a b : Activity) → HasIn s k n a → IsMoved (map Peeks xs) a b → AreConfirmed s.configuration.futures xs → events_from (map (need_entry n) xs) s ≡ told n xs
  needs_told [] s a b h run sure = refl
  needs_told (x ∷ xs) s a b h run sure =
      let t : RunShape = with_peek_in s n a x in
      events_on (need_entry n x) (map (need_entry n) xs) s t (need_entered s k n a b x xs h run sure)
      ∙ ap (λ (o : Option ParcelShape). elim o [ None ↦ [] | Some p ↦ receives n (x.future, p) ∷ [] ] ++ events_from (map (need_entry n) xs) t) sure.0.0
      ∙ ap (λ es. receives n (x.future, x.value) ∷ es) (needs_told xs t (with_peek a x) b (still_in s k n a b x xs h run sure) run.1 sure.1)

-- Both

pub moves_are_events : MovesAreEvents
moves_are_events s k grant n ms b h within =
    let t : RunShape = after s k grant n ms b h within in
    let half = halfway s k grant n ms b h within in
    events_on (Committed k (contractions ms)) (map (need_entry n) (trailing ms)) s t (commits s k grant n ms b h within)
    ∙ (λ i. named_events s (contractions ms) (h.named i) ++ needs_told k n (trailing ms) t half.middle b (after_in s k grant n ms b h within) half.rest (trailing_confirmed s k grant n ms b h within) i)
    ∙ moved_events n ms s.configuration h.activity b h.whole h.there h.moved h.confirmed

pub moves_and_acts_are_events : MovesAndActsAreEvents
moves_and_acts_are_events s k grant n ms b e h none acts =
    let c : Configuration = with_activity n b s.configuration in
    let one : suc (contractions ms) ≡ contractions ms + 1 = omega arith in
    let last : steps_events 1 c n ≡ step_events c n = rest c n (step None c n) in
    ap (named_events s (suc (contractions ms))) h.named
    ∙ ap (λ j. steps_events j s.configuration n) one
    ∙ acted_events n ms s.configuration h.activity b e acts h.whole h.there h.moved h.confirmed
    ∙ ap (λ es. told n (peeks ms) ++ es) (last ∙ acts_unpack_nothing c n e none acts)
  where
    rest : (c : Configuration) (n : Name) (o : Option Configuration) → step_events c n ++ events_then 0 n o ≡ step_events c n
    rest c n None = append-nil (step_events c n)
    rest c n (Some d) = append-nil (step_events c n)
