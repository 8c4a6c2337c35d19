-- A step wakes those whom its effect is for, and who is not woken rests still, and waits for what it waited for.
use Rattle.std.specs.Prelude.{◌≡◌, ◌≢◌, ◌⊎◌, ◌≤◌, ◌<◌, ℕ, nat_lt, Bool, true, false, Option, Some, None, is_some}
use Rattle.std.proofs.Common.{refl, sym, ap, subst, ◌∙◌, arith, inl, inr, ⊎_elim}
use Rattle.std.proofs.lemmas.Bool.{ltb-true, ltb-false, false_from_ne_true}
use Rattle.std.specs.FinMap.{find}
use Rattle.asp_model.specs.Names.{Name, FutureShape, name_cmp}
use Rattle.asp_model.specs.Term.{Tree, has_text}
use Rattle.asp_model.specs.Configuration.{Activity, Configuration, RequestShape}
use Rattle.asp_model.specs.Intent.{Effect, Acts, Serving}
use Rattle.asp_model.specs.Step.{ListsShape, intent_in, with_effect, step}
use Rattle.asp_model.specs.Status.{status_of}
use Rattle.law_steps.specs.Waking.{labels_wanted}
use Rattle.law_steps.specs.Reached.{IsReached, IsAt, IsThere}
use Rattle.law_schedules.specs.Schedules.{RestsIn, IsScheduled, WokenAreScheduled}
use Rattle.law_schedules.specs.Watches.{CalledAreScheduled, IsCalledBy, IsWatched, Watches}
use Rattle.law_steps.proofs.NameLemmas.{is_there}
use Rattle.law_chases.proofs.FutureLemmas.{true_false, some_is}
use Rattle.law_schedules.proofs.EffectLemmas.{others_are_kept}
use Rattle.law_schedules.proofs.RestLemmas.{StillRests, rests_still}

pub below_or_not : (k l : ℕ) → (k < l) ⊎ (l ≤ k)
below_or_not k l = elim (nat_lt k l) as (λ b. nat_lt k l ≡ b → (k < l) ⊎ (l ≤ k)) [
  | true ↦ λ h. inl (ltb-true k l h)
  | false ↦ λ h. inr (ltb-false k l h)
] refl

module _ (program : Tree) (lists : Option ListsShape) (count : Name → ℕ) (c : Configuration) (n : Name) (e : Effect) (noted : FutureShape → Name → Bool) (w : Watches) (before after : Name → Bool) (reached : IsReached program c) (intends : intent_in c n ≡ Acts e) (steps : step lists c n ≡ Some (with_effect n e c))
    (scheduled : IsScheduled lists count c before noted) (watched : IsWatched w count c before) (kept : (m : Name) → before m ≡ true → after m ≡ true) (called : IsCalledBy lists c n e noted w after) where
  -- who is not ready is another
  apart : (m : Name) → after m ≡ false → m ≢ n
  apart m not p = true_false (after m) (ap after p ∙ called.stepper) not

  -- and is as before
  same : (m : Name) → after m ≡ false → find name_cmp m (with_effect n e c).activities ≡ find name_cmp m c.activities
  same m not = others_are_kept c n m e (apart m not) (λ b made. true_false (after m) (called.made m b made) not)

  was_not : (m : Name) → after m ≡ false → before m ≡ false
  was_not m not = false_from_ne_true (before m) (λ h. true_false (after m) (kept m h) not)

  -- what is sent to a server that is not ready is not asked for
  unasked : (m : Name) (a : Activity) → after m ≡ false → IsAt c m a → a.reductions < count m → (r : RequestShape) → e.sent ≡ Some (m, r) → status_of c m ≡ Serving → has_text r.label (labels_wanted a) ≡ false
  unasked m a not is below r sent st = false_from_ne_true (has_text r.label (labels_wanted a)) (λ h.
      true_false (after m) (called.target m r sent ((watched m (was_not m not)).serving a r.label is below st h)) not)

  stands : (m : Name) (a : Activity) → after m ≡ false → IsAt c m a → a.reductions < count m → step lists c m ≡ None → StillRests lists c (with_effect n e c) m noted
  stands m a not is below none = rests_still program lists c n m e a noted reached intends steps (apart m not) is
      (unasked m a not is below)
      (λ g x intends sent to next. true_false (after m) (called.next x.0 m to next ((watched m (was_not m not)).sending a g x is below intends sent)) not)
      (λ f by note. true_false (after m) (called.filled f m by note) not)
      (λ f v. scheduled.waiting m f a is below (was_not m not) v)
      none

  rest_by : (m : Name) (a : Activity) → after m ≡ false → IsAt c m a → RestsIn lists count c m → RestsIn lists count (with_effect n e c) m
  rest_by m a not is (inl at) = inl (λ b there. at b (sym (same m not) ∙ there))
  rest_by m a not is (inr none) = ⊎_elim
      (λ below. inr (stands m a not is below none).none)
      (λ at. inl (λ b there. subst (λ x. count m ≤ x.reductions) (some_is (sym is ∙ sym (same m not) ∙ there)) at))
      (below_or_not a.reductions (count m))

  stands_by : (m : Name) (a : Activity) → after m ≡ false → IsAt c m a → a.reductions < count m → RestsIn lists count c m → StillRests lists c (with_effect n e c) m noted
  stands_by m a not is below (inl at) = absurd (omega (arith, at a is, below))
  stands_by m a not is below (inr none) = stands m a not is below none

  there_before : (m : Name) → after m ≡ false → IsThere (with_effect n e c) m → IsThere c m
  there_before m not there = ap is_some (sym (same m not)) ∙ there

  -- where it stands after the step, if it is below its count
  after_it : (m : Name) (a : Activity) → after m ≡ false → IsAt (with_effect n e c) m a → a.reductions < count m → StillRests lists c (with_effect n e c) m noted
  after_it m a not at below =
      let is : IsAt c m a = sym (same m not) ∙ at in
      stands_by m a not is below (scheduled.rest m (ap is_some is) (was_not m not))

  scheduled_after : IsScheduled lists count (with_effect n e c) after noted
  scheduled_after = record {
    rest = λ m there not.
        let was = there_before m not there in
        let x = is_there (find name_cmp m c.activities) was in
        rest_by m x.0 not x.1 (scheduled.rest m was (was_not m not));
    waiting = λ m f a at below not v. (after_it m a not at below).waits f v;
  }

  watched_after : IsWatched w count (with_effect n e c) after
  watched_after m not = record {
    serving = λ a l at below st h. (watched m (was_not m not)).serving a l (sym (same m not) ∙ at) below ((after_it m a not at below).serves st) h;
    sending = λ a g x at below intends sent.
        let y = (after_it m a not at below).acts g intends in
        (watched m (was_not m not)).sending a y.0 x (sym (same m not) ∙ at) below y.1 (y.2 ∙ sent);
  }

pub called_are_scheduled : CalledAreScheduled
called_are_scheduled program lists count c n e noted w before after reached intends steps scheduled watched kept called = (
  scheduled_after program lists count c n e noted w before after reached intends steps scheduled watched kept called,
  watched_after program lists count c n e noted w before after reached intends steps scheduled watched kept called,
)

-- all are noted everywhere
abbrev everywhere : Watches
everywhere = record { asks = λ m l. true; sends = λ m q. true }

watched_everywhere : (count : Name → ℕ) (c : Configuration) (ready : Name → Bool) → IsWatched everywhere count c ready
watched_everywhere count c ready m not = record { serving = λ a l is below st h. refl; sending = λ a e x is below intends sent. refl }

pub woken_are_scheduled : WokenAreScheduled
woken_are_scheduled program lists count c n e noted before after reached intends steps scheduled kept woken =
    let called : IsCalledBy lists c n e noted everywhere after = record {
      stepper = woken.stepper;
      made = woken.made;
      target = λ m r sent h. woken.target m (r, sent);
      next = λ m q to next h. woken.next m q to next;
      filled = woken.filled;
    } in
    (called_are_scheduled program lists count c n e noted everywhere before after reached intends steps scheduled (watched_everywhere count c before) kept called).0
