-- What is thawed is sound, numbered and closed, and a run from it is led back.
use Rattle.std.specs.Prelude.{◌≡◌, ◌&&◌, not, ℕ, suc, ◌+◌, ◌<◌, ◌≤◌, ◌++◌, Bool, true, false, List, [], ◌∷◌, Option, Some, None, is_some, length, map, filter, slice_get}
use Rattle.std.proofs.Common.{refl, sym, ap, subst, ◌∙◌, arith, inl, inr, ⊎_elim, length-append}
use Rattle.std.proofs.lemmas.Bool.{false_from_ne_true}
use Rattle.std.specs.List.{flat_map}
use Rattle.std.specs.FinMap.{find}
use Rattle.asp_model.specs.Names.{Name, FutureShape, name_cmp, future_cmp, same_name}
use Rattle.asp_model.specs.Parcel.{ParcelShape, has_place}
use Rattle.asp_model.specs.Store.{CellShape, Reference, Future, Number, Object, Group, cell}
use Rattle.asp_model.specs.Term.{Tree}
use Rattle.asp_model.specs.Configuration.{RequestShape, Activity, Configuration, requests_of, log_of}
use Rattle.asp_model.specs.Step.{name_at}
use Rattle.asp_model.specs.History.{FirstShape}
use Rattle.def_journals.specs.Edges.{homes_in}
use Rattle.def_journals.specs.Journals.{RunShape, run_from}
use Rattle.law_chases.proofs.FutureLemmas.{no_some, some_is, none_true, true_false, future_total, future_same}
use Rattle.law_steps.specs.Reached.{Move, Makes, IsReached, IsAt, IsThere}
use Rattle.law_steps.specs.Kept.{IsCreated, IsBegun, IsRightRequest, ServesOnce, Stands, StandsOnce, answers_at, answers_of, creations_of, filled_at, number_of, one_unless, is_served, pending_at, sends_of}
use Rattle.law_steps.specs.Linked.{IsKnown, AreKnown}
use Rattle.law_steps.specs.Closed.{IsClosed, IsClosedActivity, IsClosedParcel}
use Rattle.law_steps.specs.Sound.{IsSound}
use Rattle.law_steps.proofs.EachLemmas.{each_weaker}
use Rattle.law_steps.proofs.EntryLemmas.{In}
use Rattle.law_steps.proofs.NameLemmas.{name_total, name_same, name_itself, names_tied, not_some}
use Rattle.law_steps.proofs.ReachedLemmas.{moves_go_on}
use Rattle.law_steps.proofs.WholeLemmas.{moves_keep_sound, reached_are_sound}
use Rattle.asp_model.specs.Contraction.{is_future}
use Rattle.law_journals.specs.Numbered.{AreNumbered, IsFirst}
use Rattle.law_journals.specs.Runs.{IsHome}
use Rattle.law_journals.proofs.CountLemmas.{in_mapped}
use Rattle.law_journals.proofs.JournalLemmas.{entries_keep}
use Rattle.law_services.specs.Correct.{bare, bare_of}
use Rattle.law_frozen.specs.Pending.{waiting}
use Rattle.law_frozen.specs.Same.{SamePending, queue_of, served_by}
use Rattle.law_frozen.specs.Frozen.{FrozenShape, answered, freeze, frozen_at, frozen_of, has_future, numbers_to, spent, thawed, thawed_activity, thawed_first}
use Rattle.law_frozen.specs.Thawed.{RunsAreLedBack, ThawedAreWhole, ThawedAreFirst}
use Rattle.law_frozen.proofs.SameLemmas.{moves_keep_same, same_back, there_same}
use Rattle.law_frozen.proofs.FrozenLemmas as frozen
use Rattle.law_frozen.proofs.FrozenLemmas.{named_none, named_some, in_numbers, not_numbers, length_spent, in_either, mapped_in, filtered_in, in_filtered, number_of_item, numbered_in, waiting_in, future_there, both_true, ordered_is}
use Rattle.law_frozen.proofs.CountLemmas.{count, keys, count_both, count_none, count_once, count_spent, count_waiting, keys_once, one_place, slice_front, slice_behind, slice_below, waiting_at, at_waiting, has_there, numbers_apart, below_numbers}

-- Activities that are equal but for what they served

number_bare : (f : Activity → ℕ) → ((a : Activity) → f (bare a) ≡ f a) → (o p : Option Activity) → bare_of o ≡ bare_of p → number_of f o ≡ number_of f p
number_bare f h None None e = refl
number_bare f h None (Some b) e = no_some e
number_bare f h (Some a) None e = no_some (sym e)
number_bare f h (Some a) (Some b) e = sym (h a) ∙ ap f (some_is e) ∙ h b

answers_bare : (g : FutureShape) (o p : Option Activity) → bare_of o ≡ bare_of p → answers_of g o ≡ answers_of g p
answers_bare g None None e = refl
answers_bare g None (Some b) e = no_some e
answers_bare g (Some a) None e = no_some (sym e)
answers_bare g (Some a) (Some b) e = ap (λ z. answers_of g (Some z)) (some_is e)

both_second : (a b : Bool) → (a && b) ≡ true → b ≡ true
both_second true b e = e
both_second false b e = none_true e

-- Names

names_back : (c : Configuration) (names : List Name) → ((k : ℕ) (n : Name) → name_at names k ≡ Some n → IsThere c n) → map (λ x. x.name) (flat_map (frozen_at c) names) ≡ names
names_back c [] h = refl
names_back c (n ∷ names) h = by (find name_cmp n c.activities) refl (h 0 n refl) (names_back c names (λ k m e. h (suc k) m e))
  where
    by : (o : Option Activity) → find name_cmp n c.activities ≡ o → is_some (find name_cmp n c.activities) ≡ true → map (λ x. x.name) (flat_map (frozen_at c) names) ≡ names
        → map (λ x. x.name) (elim o [ None ↦ [] | Some a ↦ freeze c n a ∷ [] ] ++ flat_map (frozen_at c) names) ≡ n ∷ names
    by None is there rest = none_true (sym (ap is_some is) ∙ there)
    by (Some a) is there rest = ap (λ l. n ∷ l) rest

module _ (x : FirstShape) (first : IsFirst x) where
  abbrev was : Configuration
  was = x.configuration

  abbrev shape : FrozenShape
  shape = frozen_of x.names was

  abbrev now : Configuration
  now = thawed shape

  sound : IsSound was
  sound = first.sound

  bare_there : (m : Name) → bare_of (find name_cmp m was.activities) ≡ bare_of (find name_cmp m now.activities)
  bare_there m = frozen.bare_there x first m

  there_is : (m : Name) → is_some (find name_cmp m was.activities) ≡ is_some (find name_cmp m now.activities)
  there_is m = there_same (find name_cmp m was.activities) (find name_cmp m now.activities) (bare_there m)

  there_now : (m : Name) → IsThere was m → IsThere now m
  there_now m h = sym (there_is m) ∙ h

  sends_same : (m : Name) → sends_of was m ≡ sends_of now m
  sends_same m = number_bare (λ a. a.sends) (λ a. refl) (find name_cmp m was.activities) (find name_cmp m now.activities) (bare_there m)

  creations_same : (m : Name) → creations_of was m ≡ creations_of now m
  creations_same m = number_bare (λ a. a.creations) (λ a. refl) (find name_cmp m was.activities) (find name_cmp m now.activities) (bare_there m)

  answers_same : (m : Name) (g : FutureShape) → answers_at now m g ≡ answers_at was m g
  answers_same m g = sym (answers_bare g (find name_cmp m was.activities) (find name_cmp m now.activities) (bare_there m))

  begun_now : (g : FutureShape) → IsBegun was g → IsBegun now g
  begun_now g h = (h.0, subst (λ k. g.index ≤ k) (sends_same g.by) h.1)

  found_now : (m : Name) (a : Activity) → find name_cmp m was.activities ≡ Some a → find name_cmp m now.activities ≡ Some (thawed_activity shape (freeze was m a))
  found_now m a is = named_some was (thawed_activity shape) x.names m a is (frozen.in_all_at x first m a is)

  found_none : (m : Name) → find name_cmp m was.activities ≡ None → find name_cmp m now.activities ≡ None
  found_none m is = named_none was (thawed_activity shape) x.names m is

  abbrev answers : Name → Activity → List FutureShape
  answers m a = answered shape (freeze was m a)

  received_at : (m : Name) (a : Activity) → find name_cmp m was.activities ≡ Some a → requests_of now m ≡ map spent (answers m a) ++ queue_of was m
  received_at m a is = frozen.received_at x first m a is

  abbrev kept : Name → FutureShape × Name → Bool
  kept m h = same_name h.1 m && not (has_future h.0 (queue_of was m))

  -- what was answered has its home here, and is not pending
  answered_entry : (m : Name) (a : Activity) (g : FutureShape) → In g (answers m a) → (z : FutureShape × Name) × In z shape.homes × (g ≡ z.0) × (kept m z ≡ true)
  answered_entry m a g i =
      let z = mapped_in (λ h. h.0) g (filter (kept m) shape.homes) i in
      let w = filtered_in (kept m) z.0 shape.homes z.1 in
      (z.0, w.0, z.2, w.1)

  answered_home : (m : Name) (a : Activity) (g : FutureShape) → In g (answers m a) → IsHome was g m
  answered_home m a g i =
      let z = answered_entry m a g i in
      let at : z.0.1 ≡ m = names_tied z.0.1 m (both_true (same_name z.0.1 m) (not (has_future z.0.0 (queue_of was m))) z.3) in
      frozen.frozen_home x first g m (subst (λ h. In h shape.homes) (λ j. (sym z.2 j, at j)) z.1)

  -- Requests

  came_from : (m : Name) (k : ℕ) (r : RequestShape) → Stands now m k r → (j : ℕ) × (q : RequestShape) × Stands was m j q × (q.future ≡ r.future) × (r.sender ≡ r.future.by)
  came_from m k r st = by (find name_cmp m was.activities) refl
    where
      by : (o : Option Activity) → find name_cmp m was.activities ≡ o → (j : ℕ) × (q : RequestShape) × Stands was m j q × (q.future ≡ r.future) × (r.sender ≡ r.future.by)
      by None is = no_some (sym (ap (λ l. slice_get l k) (frozen.received_none x first m is)) ∙ st)
      by (Some a) is = ⊎_elim
          (λ i.
          let y = mapped_in spent r (answers m a) i in
          let h = answered_home m a y.0 y.1 in
          (h.0, h.1, h.2, h.3 ∙ sym (ap (λ z. z.future) y.2), ap (λ z. z.sender) y.2 ∙ sym (ap (λ z. z.future.by) y.2)))
          (λ i.
          let j = number_of_item (requests_of was m) r (waiting_in (served_by (find name_cmp m was.activities)) 0 (requests_of was m) r i) in
          (j.0, r, j.1, refl, (sound.requests m j.0 r j.1).by))
          (in_either r (map spent (answers m a)) (queue_of was m) (numbered_in _ k r (ap (λ l. slice_get l k) (sym (received_at m a is)) ∙ st)))

  right_now : (m : Name) (k : ℕ) (r : RequestShape) → Stands now m k r → IsRightRequest now m r
  right_now m k r st =
      let y = came_from m k r st in
      let q = sound.requests m y.0 y.1 y.2 in
      record {
        received = there_now m q.received;
        by = y.4;
        first = subst (λ f. 1 ≤ f.index) y.3 q.first;
        last = subst (λ n. r.future.index ≤ sends_of now n) (sym y.4)
            (subst (λ l. r.future.index ≤ l) (sends_same r.future.by)
            (subst (λ f. f.index ≤ sends_of was f.by) y.3 (subst (λ n. y.1.future.index ≤ sends_of was n) q.by q.last)));
      }

  -- What was served

  served_now : (m : Name) (b : Activity) → IsAt now m b → ServesOnce now m b
  served_now m b at = by (find name_cmp m was.activities) refl
    where
      below : (a : Activity) → find name_cmp m was.activities ≡ Some a → (k : ℕ) → has_place k (numbers_to (length (answers m a))) ≡ true → k < length (requests_of now m)
      below a is k h =
          let lt : k < length (answers m a) = below_numbers k (length (answers m a)) h in
          let front : length (map spent (answers m a)) ≡ length (answers m a) = length_spent (answers m a) in
          let all : length (map spent (answers m a) ++ queue_of was m) ≡ length (map spent (answers m a)) + length (queue_of was m) = length-append (map spent (answers m a)) (queue_of was m) in
          subst (λ l. k < length l) (sym (received_at m a is)) (omega (arith, lt, front, all))

      by : (o : Option Activity) → find name_cmp m was.activities ≡ o → ServesOnce now m b
      by None is = no_some (sym (found_none m is) ∙ at)
      by (Some a) is = subst (ServesOnce now m) (some_is (sym (found_now m a is) ∙ at)) (numbers_apart (length (answers m a)), below a is)

  -- Futures stand once

  module _ (g : FutureShape) (s : StandsOnce was g) (a : Activity) (is : find name_cmp s.target was.activities ≡ Some a) where
    abbrev here : Name
    here = s.target

    alone_here : (k j : ℕ) (r q : RequestShape) → Stands was here k r → Stands was here j q → r.future ≡ g → q.future ≡ g → k ≡ j
    alone_here k j r q e f u v = (s.alone here k r e u).1 ∙ sym (s.alone here j q f v).1

    -- who is pending was not answered
    answered_none : has_future g (queue_of was here) ≡ true → count g (map spent (answers here a)) ≡ 0
    answered_none h = count_none g (map spent (answers here a)) (false_from_ne_true (has_future g (map spent (answers here a))) no)
      where
        no : has_future g (map spent (answers here a)) ≡ true → ⊥
        no e =
            let r = future_there g (map spent (answers here a)) e in
            let y = mapped_in spent r.0 (answers here a) r.1 in
            let z = answered_entry here a y.0 y.1 in
            let same : z.0.0 ≡ g = sym z.2 ∙ sym (ap (λ q. q.future) y.2) ∙ r.2 in
            let free : not (has_future z.0.0 (queue_of was here)) ≡ true = both_second (same_name z.0.1 here) (not (has_future z.0.0 (queue_of was here))) z.3 in
            true_false (not (has_future z.0.0 (queue_of was here))) free (ap not (ap (λ f. has_future f (queue_of was here)) same ∙ h))

    counted_once : count g (requests_of now here) ≤ 1
    counted_once = subst (λ l. count g l ≤ 1) (sym (received_at here a is)) (by (has_future g (queue_of was here)) refl)
      where
        both : count g (map spent (answers here a) ++ queue_of was here) ≡ count g (map spent (answers here a)) + count g (queue_of was here)
        both = count_both g (map spent (answers here a)) (queue_of was here)

        by : (b : Bool) → has_future g (queue_of was here) ≡ b → count g (map spent (answers here a) ++ queue_of was here) ≤ 1
        by true e =
            let none : count g (map spent (answers here a)) ≡ 0 = answered_none e in
            let less : count g (queue_of was here) ≤ count g (requests_of was here) = count_waiting g (served_by (find name_cmp here was.activities)) 0 (requests_of was here) in
            let most : count g (requests_of was here) ≤ 1 = count_once g (requests_of was here) alone_here in
            omega (arith, both, none, less, most)
        by false e =
            let none : count g (queue_of was here) ≡ 0 = count_none g (queue_of was here) e in
            let less : count g (map spent (answers here a)) ≤ keys g shape.homes = count_spent g (kept here) shape.homes in
            let most : keys g shape.homes ≤ 1 = keys_once g shape.homes (ordered_is future_cmp future_total future_same (homes_in was)) in
            omega (arith, both, none, less, most)

    -- its number, and whether it is pending
    abbrev Place : Type 0
    Place = (k : ℕ) × (r : RequestShape) × Stands now here k r × (r.future ≡ g) × (pending_at now here k ≡ pending_at was here s.number)

    pending_now : (k : ℕ) → pending_at now here k ≡ one_unless (has_place k (numbers_to (length (answers here a))))
    pending_now k = ap (λ o. one_unless (is_served k o)) (found_now here a is)

    pending_was : pending_at was here s.number ≡ one_unless (has_place s.number a.served)
    pending_was = ap (λ o. one_unless (is_served s.number o)) is

    queue_is : queue_of was here ≡ waiting a.served (requests_of was here)
    queue_is = ap (λ o. waiting (served_by o) (requests_of was here)) is

    placed : (b : Bool) → has_future g (queue_of was here) ≡ b → Place
    placed true e =
        let r = future_there g (queue_of was here) e in
        let j = number_of_item (queue_of was here) r.0 r.1 in
        let k : ℕ = length (map spent (answers here a)) + j.0 in
        let stands : Stands now here k r.0 = ap (λ l. slice_get l k) (received_at here a is) ∙ slice_behind (map spent (answers here a)) (queue_of was here) j.0 ∙ j.1 in
        let front : length (map spent (answers here a)) ≡ length (answers here a) = length_spent (answers here a) in
        let old = waiting_at a.served 0 (requests_of was here) r.0 (subst (In r.0) queue_is r.1) in
        let same : old.0 ≡ s.number = (s.alone here old.0 r.0 old.1 r.2).1 in
        let at : s.number ≡ old.0 + 0 = omega (arith, same) in
        let new : has_place s.number a.served ≡ false = ap (λ n. has_place n a.served) at ∙ old.2 in
        (k, r.0, stands, r.2, pending_now k ∙ ap one_unless (not_numbers k (length (answers here a)) (omega (arith, front))) ∙ sym (pending_was ∙ ap one_unless new))
    placed false e =
        let free : kept here (g, here) ≡ true = (λ i. name_itself here i && not (e i)) in
        let home : IsHome was g here = (s.number, s.request, s.there, s.is) in
        let i = in_filtered (kept here) (g, here) shape.homes (frozen.home_frozen x first g here home) free in
        let j = number_of_item (map spent (answers here a)) (spent g) (in_mapped spent g (answers here a) (in_mapped (λ h. h.0) (g, here) (filter (kept here) shape.homes) i)) in
        let stands : Stands now here j.0 (spent g) = ap (λ l. slice_get l j.0) (received_at here a is) ∙ slice_front (map spent (answers here a)) (queue_of was here) j.0 (spent g) j.1 in
        let front : length (map spent (answers here a)) ≡ length (answers here a) = length_spent (answers here a) in
        let lt : j.0 < length (map spent (answers here a)) = slice_below (map spent (answers here a)) j.0 (spent g) j.1 in
        (j.0, spent g, stands, refl, pending_now j.0 ∙ ap one_unless (in_numbers j.0 (length (answers here a)) (omega (arith, lt, front))) ∙ sym (pending_was ∙ ap one_unless (was_served (has_place s.number a.served) refl)))
      where
        was_served : (b : Bool) → has_place s.number a.served ≡ b → has_place s.number a.served ≡ true
        was_served true h = h
        was_served false h =
            let z : s.number + 0 ≡ s.number = omega arith in
            let i = at_waiting a.served 0 (requests_of was here) s.number s.request s.there (ap (λ n. has_place n a.served) z ∙ h) in
            none_true (sym e ∙ has_there g (queue_of was here) s.request (subst (In s.request) (sym queue_is) i) s.is)

    stands_by : Place → StandsOnce now g
    stands_by p = record {
      target = here;
      number = p.0;
      request = p.1;
      there = p.2;
      is = p.3;
      alone = λ m k r st e.
          let y = came_from m k r st in
          let at : m ≡ here = (s.alone m y.0 y.1 y.2 (y.3 ∙ e)).0 in
          (at, one_place g (requests_of now here) counted_once k p.0 r p.1 (subst (λ n. Stands now n k r) at st) p.2 e p.3);
      once = (λ i. p.4 i + answers_same here g i + filled_at was g) ∙ s.once;
      nowhere = λ m apart. answers_same m g ∙ s.nowhere m apart;
    }

    stands_now : StandsOnce now g
    stands_now = stands_by (placed (has_future g (queue_of was here)) refl)

  stand_now : (n : Name) (i : ℕ) → suc i ≤ sends_of now n → StandsOnce now (record { by = n; index = suc i })
  stand_now n i le = by (find name_cmp s.target was.activities) refl
    where
      s : StandsOnce was (record { by = n; index = suc i })
      s = sound.stand n i (subst (λ k. suc i ≤ k) (sym (sends_same n)) le)

      by : (o : Option Activity) → find name_cmp s.target was.activities ≡ o → StandsOnce now (record { by = n; index = suc i })
      by None is = none_true (sym (ap is_some is) ∙ (sound.requests s.target s.number s.request s.there).received)
      by (Some a) is = stands_now (record { by = n; index = suc i }) s a is

  -- Cells

  known_now : (c : CellShape) → IsKnown was c → IsKnown now c
  known_now (Reference n) h = there_now n h
  known_now (Future g) h = begun_now g h
  known_now (Number n) h = tt
  known_now (Object fields methods) h = tt
  known_now (Group ns) h = tt

  all_known : (cs : List CellShape) → AreKnown was cs → AreKnown now cs
  all_known cs h = each_weaker (IsKnown was) (IsKnown now) known_now cs h

  -- what holds of each store, and of nothing of a parcel that is empty
  at_now : (P : Activity → Type 0) → ((a : Activity) (ks : List ℕ) → P a → P (record a { served = ks })) → ((m : Name) (a : Activity) → IsAt was m a → P a) → (m : Name) (b : Activity) → IsAt now m b → P b
  at_now P same h m b at = by (find name_cmp m was.activities) refl
    where
      by : (o : Option Activity) → find name_cmp m was.activities ≡ o → P b
      by None is = no_some (sym (found_none m is) ∙ at)
      by (Some a) is = subst P (some_is (sym (found_now m a is) ∙ at)) (same a (numbers_to (length (answers m a))) (h m a is))

  in_parcels : (P : ParcelShape → Type 0) → P (record { cells = []; roots = [] }) → ((m : Name) (k : ℕ) (r : RequestShape) → Stands was m k r → P r.arguments) → (m : Name) (k : ℕ) (r : RequestShape) → Stands now m k r → P r.arguments
  in_parcels P empty h m k r st = by (find name_cmp m was.activities) refl
    where
      by : (o : Option Activity) → find name_cmp m was.activities ≡ o → P r.arguments
      by None is = no_some (sym (ap (λ l. slice_get l k) (frozen.received_none x first m is)) ∙ st)
      by (Some a) is = ⊎_elim
          (λ i. let y = mapped_in spent r (answers m a) i in subst (λ q. P q.arguments) (sym y.2) empty)
          (λ i. let j = number_of_item (requests_of was m) r (waiting_in (served_by (find name_cmp m was.activities)) 0 (requests_of was m) r i) in h m j.0 r j.1)
          (in_either r (map spent (answers m a)) (queue_of was m) (numbered_in _ k r (ap (λ l. slice_get l k) (sym (received_at m a is)) ∙ st)))

  -- All of it

  created_now : (n : Name) → IsCreated was n → IsCreated now n
  created_now n h = ⊎_elim (λ p. inl p) (λ y. inr (y.0, y.1, y.2, subst (λ k. suc y.1 ≤ k) (creations_same y.0) y.3)) h

  created_was : (n : Name) → IsCreated now n → IsCreated was n
  created_was n h = ⊎_elim (λ p. inl p) (λ y. inr (y.0, y.1, y.2, subst (λ k. suc y.1 ≤ k) (sym (creations_same y.0)) y.3)) h

  quiet_now : (m : Name) → find name_cmp m now.activities ≡ None → log_of now m ≡ []
  quiet_now m none = sym (frozen.logs_there x first m) ∙ sound.quiet m (not_some (find name_cmp m was.activities) (λ there. true_false (is_some (find name_cmp m now.activities)) (there_now m there) (ap is_some none)))

  sound_now : IsSound now
  sound_now = record {
    ordered = record {
      activities = frozen.activities_sorted x first;
      received = frozen.received_sorted x first;
      logs = ordered_is name_cmp name_total name_same (map (λ y. (y.name, y.log)) shape.activities);
      futures = sound.ordered.futures;
    };
    there = λ n h. created_now n (sound.there n (there_is n ∙ h));
    created = λ n h. there_now n (sound.created n (created_was n h));
    requests = right_now;
    served = served_now;
    stand = stand_now;
    begun = λ g h. begun_now g (sound.begun g (⊎_elim (λ f. inl f) (λ y. inr (y.0, subst (λ k. 1 ≤ k) (answers_same y.0 g) y.1)) h));
    linked = record {
      stores = at_now (λ a. AreKnown now a.store) (λ a ks h. h) (λ m a at. all_known a.store (sound.linked.stores m a at));
      arguments = in_parcels (λ p. AreKnown now p.cells) tt (λ m k r st. all_known r.arguments.cells (sound.linked.arguments m k r st));
      values = λ g p h. all_known p.cells (sound.linked.values g p h);
    };
    quiet = quiet_now;
  }

  names_are : map (λ y. y.name) shape.activities ≡ x.names
  names_are = names_back was x.names first.numbered.there

  numbered_now : AreNumbered (run_from (thawed_first shape) 0)
  numbered_now = record {
    apart = λ i k n e f. first.numbered.apart i k n (ap (λ l. name_at l i) (sym names_are) ∙ e) (ap (λ l. name_at l k) (sym names_are) ∙ f);
    there = λ k n e. there_now n (first.numbered.there k n (ap (λ l. name_at l k) (sym names_are) ∙ e));
    numbered = λ n h. let y = first.numbered.numbered n (there_is n ∙ h) in (y.0, ap (λ l. name_at l y.0) names_are ∙ y.1);
  }

  closed_now : IsClosed was → IsClosed now
  closed_now h = record {
    activities = at_now IsClosedActivity (λ a ks c. record { term = c.term; services = c.services; store = c.store; active = c.active }) h.activities;
    arguments = in_parcels IsClosedParcel (record { cells = tt; roots = tt }) h.arguments;
    values = h.values;
  }

-- The laws

pub thawed_are_first : ThawedAreFirst
thawed_are_first x first = record { sound = sound_now x first; numbered = numbered_now x first }

pub thawed_are_whole : ThawedAreWhole
thawed_are_whole x first h = record {
  sound = sound_now x first;
  closed = closed_now x first h.closed;
  active = at_now x first (λ a. is_future (cell a.store a.active) ≡ false) (λ a ks p. p) h.active;
}

-- sound, and equal but for what was served to one that the program reaches
abbrev IsBacked : Tree → Configuration → Type 0
IsBacked program d = IsSound d × (c : Configuration) × IsReached program c × SamePending c d

backed_on : (program : Tree) (move : Move) (d e : Configuration) → IsBacked program d → Makes move d e → IsBacked program e
backed_on program move d e b h =
    let c : Configuration = b.1 in
    let y = moves_keep_same move d c e b.0 (reached_are_sound program c b.2) (same_back c d b.3) h in
    (moves_keep_sound move d e b.0 h, y.0, moves_go_on program c y.0 move b.2 y.1, same_back e y.0 y.2)

pub runs_are_led_back : RunsAreLedBack
runs_are_led_back program x budget entries t reached first e =
    let from : RunShape = run_from (thawed_first (frozen_of x.names x.configuration)) budget in
    let b = entries_keep (IsBacked program) (backed_on program) entries from t e (sound_now x first, x.configuration, reached, frozen.thawed_same x first) in
    (b.1, b.2, b.3)
