-- A run can go on from what is thawed of a sound checkpoint.
use Rattle.std.specs.Prelude.{◌≡◌, ◌≢◌, ◌⊎◌, ◌&&◌, not, ℕ, suc, ◌+◌, ◌<◌, ◌≤◌, ◌++◌, Bool, true, false, List, [], ◌∷◌, Option, Some, None, is_some, length, map, filter, slice_get}
use Rattle.std.proofs.Common.{refl, sym, ap, subst, ◌∙◌, arith, inl, inr, ⊎_elim, length-append}
use Rattle.std.proofs.lemmas.Bool.{false_from_ne_true}
use Rattle.std.specs.FinMap.{find}
use Rattle.asp_model.specs.Names.{Name, FutureShape, name_cmp, future_cmp, same_name, main_name}
use Rattle.asp_model.specs.Store.{CellShape, Reference, Future, Number, Object, Group, cell}
use Rattle.asp_model.specs.Parcel.{ParcelShape, has_place}
use Rattle.asp_model.specs.Configuration.{RequestShape, ServiceShape, Activity, Configuration, or_none, requests_of, log_of}
use Rattle.asp_model.specs.Contraction.{is_future}
use Rattle.def_journals.specs.Journals.{run_from}
use Rattle.law_chases.proofs.FutureLemmas.{no_some, some_is, none_true, true_false, future_total, future_same}
use Rattle.law_steps.specs.Reached.{IsAt, IsThere}
use Rattle.law_steps.specs.Kept.{IsCreated, IsBegun, IsRightRequest, ServesOnce, Stands, StandsOnce, answers_at, answers_of, creations_of, filled_at, mark, number_of, one_unless, is_served, pending_at, sends_of, tally, tally_all}
use Rattle.law_steps.specs.Linked.{Each, IsKnown, AreKnown}
use Rattle.law_steps.specs.Closed.{IsClosed, IsClosedActivity, IsClosedParcel}
use Rattle.law_steps.specs.Sound.{IsSound}
use Rattle.law_steps.proofs.EachLemmas.{each_weaker}
use Rattle.law_steps.proofs.EntryLemmas.{In}
use Rattle.law_steps.proofs.NameLemmas.{name_total, name_same, name_itself, names_tied, is_there}
use Rattle.law_steps.proofs.SoundLemmas.{mark_other}
use Rattle.law_journals.proofs.CountLemmas.{in_mapped}
use Rattle.law_journals.proofs.NameListLemmas.{AreApart, in_numbered}
use Rattle.law_journals.proofs.NumberLemmas.{AreNamed, numbered_by}
use Rattle.law_paths.proofs.KeyedLemmas.{found_at_key}
use Rattle.law_frozen.specs.Frozen.{FrozenActivity, FrozenShape, answered, has_future, numbers_to, received_by, spent, thawed, thawed_activity, thawed_first}
use Rattle.law_frozen.proofs.FrozenLemmas.{in_numbers, not_numbers, length_spent, in_either, mapped_in, filtered_in, in_filtered, number_of_item, numbered_in, future_there, both_true, ordered_is}
use Rattle.law_frozen.proofs.CountLemmas.{count, keys, count_both, count_none, count_spent, keys_once, one_place, slice_front, slice_behind, slice_below, numbers_apart, below_numbers}
use Rattle.law_checkpoints.specs.Lookups.{activity_of, IsNamed, number_in, creations_in, sends_in, HasHome, IsHoused, times_pending, times_at}
use Rattle.law_checkpoints.specs.Sound.{StandOnce, IsCreatedAmong, AreCreated, BeginWithMain, IsKnownIn, IsSoundParcel, IsSoundRequest, IsSoundValue, IsAnsweredAt, IsSoundActivity, IsSoundHome, IsSoundFrozen}
use Rattle.law_checkpoints.specs.Order.{IsCreatedBy, AreBehind, AreInOrder}
use Rattle.law_checkpoints.specs.Laws.{FrozenAreFirst, FrozenAreInOrder, FrozenAreWhole}
use Rattle.law_checkpoints.proofs.LookLemmas.{each_in, with_each, found_each, activity_there, there_activity, home_there, times_are, count_some, no_future}

both_second : (a b : Bool) → (a && b) ≡ true → b ≡ true
both_second true b e = e
both_second false b e = none_true e

not_true : (b : Bool) → not b ≡ true → b ≡ false
not_true true e = none_true e
not_true false e = refl

-- Names

-- the first of some is the first of more
front_activity : (n : Name) (xs ys : List FrozenActivity) (x : FrozenActivity) → activity_of n xs ≡ Some x → activity_of n (xs ++ ys) ≡ Some x
front_activity n [] ys x h = no_some h
front_activity n (z ∷ xs) ys x h = by (same_name n z.name) (front_activity n xs ys x) h
  where
    by : (b : Bool) → (activity_of n xs ≡ Some x → activity_of n (xs ++ ys) ≡ Some x) → elim b [ true ↦ Some z | false ↦ activity_of n xs ] ≡ Some x → elim b [ true ↦ Some z | false ↦ activity_of n (xs ++ ys) ] ≡ Some x
    by true rest h = h
    by false rest h = rest h

creations_more : (by : Name) (k : ℕ) (xs ys : List FrozenActivity) → suc k ≤ creations_in xs by → suc k ≤ creations_in (xs ++ ys) by
creations_more by k xs ys le = of (activity_of by xs) refl le
  where
    of : (o : Option FrozenActivity) → activity_of by xs ≡ o → suc k ≤ number_in (λ x. x.activity.creations) o → suc k ≤ creations_in (xs ++ ys) by
    of None is le = absurd (omega (arith, le))
    of (Some x) is le = subst (λ o. suc k ≤ number_in (λ z. z.activity.creations) o) (sym (front_activity by xs ys x is)) le

append_one : (xs ys : List FrozenActivity) (y : FrozenActivity) → (xs ++ y ∷ []) ++ ys ≡ xs ++ y ∷ ys
append_one [] ys y = refl
append_one (x ∷ xs) ys y = ap (λ l. x ∷ l) (append_one xs ys y)

-- each behind these was created by one of all
created_behind : (before xs : List FrozenActivity) → AreCreated before xs → (x : FrozenActivity) → In x xs → IsCreatedAmong (before ++ xs) x.name
created_behind before [] h x i = absurd i
created_behind before (y ∷ xs) h x (inl p) =
    let c = h.0 in
    (c.0, c.1, ap (λ z. z.name) p ∙ c.2, creations_more c.0 c.1 before (y ∷ xs) c.3)
created_behind before (y ∷ xs) h x (inr i) = subst (λ l. IsCreatedAmong l x.name) (append_one before xs y) (created_behind (before ++ y ∷ []) xs h.1 x i)

created_all : (xs : List FrozenActivity) → BeginWithMain xs → (x : FrozenActivity) → In x xs → (x.name ≡ main_name) ⊎ IsCreatedAmong xs x.name
created_all [] h x i = absurd i
created_all (y ∷ xs) h x (inl p) = inl (ap (λ z. z.name) p ∙ h.0)
created_all (y ∷ xs) h x (inr i) = inr (created_behind (y ∷ []) xs h.1 x i)

main_named : (xs : List FrozenActivity) → BeginWithMain xs → IsNamed xs main_name
main_named [] h = absurd h
main_named (x ∷ xs) h = ap (λ b. is_some (elim b [ true ↦ Some x | false ↦ activity_of main_name xs ])) (ap (same_name main_name) h.0 ∙ name_itself main_name)

names_apart : (xs : List FrozenActivity) → StandOnce xs → AreApart (map (λ x. x.name) xs)
names_apart [] h = tt
names_apart (x ∷ xs) h = (
  λ i. let y = mapped_in (λ z. z.name) x.name xs i in no_some (sym h.0 ∙ ap (λ n. activity_of n xs) y.2 ∙ there_activity xs y.0 h.1 y.1),
  names_apart xs h.1,
)

abbrev names_of : List FrozenActivity → List Name
names_of xs = map (λ x. x.name) xs

names_more : (xs : List FrozenActivity) (x : FrozenActivity) → names_of (xs ++ x ∷ []) ≡ names_of xs ++ x.name ∷ []
names_more [] x = refl
names_more (y ∷ xs) x = ap (λ l. y.name ∷ l) (names_more xs x)

names_behind : (before xs : List FrozenActivity) → AreCreated before xs → AreBehind (names_of before) (names_of xs)
names_behind before [] h = tt
names_behind before (x ∷ xs) h = (
  by (activity_of h.0.0 before) refl h.0.3,
  subst (λ l. AreBehind l (names_of xs)) (names_more before x) (names_behind (before ++ x ∷ []) xs h.1),
)
  where
    by : (o : Option FrozenActivity) → activity_of h.0.0 before ≡ o → suc h.0.1 ≤ number_in (λ z. z.activity.creations) o → IsCreatedBy (names_of before) x.name
    by None is le = absurd (omega (arith, le))
    by (Some y) is le =
        let there = activity_there h.0.0 before y is in
        let i = in_numbered (names_of before) h.0.0 (subst (λ n. In n (names_of before)) there.1 (in_mapped (λ z. z.name) y before there.0)) in
        (h.0.0, h.0.1, i.0, i.1, h.0.2)

names_in_order : (xs : List FrozenActivity) → BeginWithMain xs → AreInOrder (names_of xs)
names_in_order [] h = absurd h
names_in_order (x ∷ xs) h = (h.0, names_behind (x ∷ []) xs h.1)

-- What has to be answered

-- a future that is none of those to be answered is not to be answered
answers_none : (f : FrozenShape) (n : Name) (g : FutureShape) → ((k : FutureShape) → HasHome f k n → g ≢ k) → (a : Activity) → IsAnsweredAt f n a.present → Each (λ v. IsAnsweredAt f n v.future) a.services → answers_of g (Some a) ≡ 0
answers_none f n g apart a p s = let x : tally (mark g) a.present ≡ 0 = one a.present p in let y : tally_all (mark g) a.services ≡ 0 = all a.services s in omega (arith, x, y)
  where
    one : (o : Option FutureShape) → IsAnsweredAt f n o → tally (mark g) o ≡ 0
    one None h = refl
    one (Some k) h = mark_other g k (apart k h)

    all : (vs : List ServiceShape) → Each (λ v. IsAnsweredAt f n v.future) vs → tally_all (mark g) vs ≡ 0
    all [] h = refl
    all (v ∷ vs) h = let x : tally (mark g) v.future ≡ 0 = one v.future h.0 in let y : tally_all (mark g) vs ≡ 0 = all vs h.1 in omega (arith, x, y)

module _ (f : FrozenShape) (h : IsSoundFrozen f) where
  abbrev now : Configuration
  now = thawed f

  abbrev xs : List FrozenActivity
  xs = f.activities

  -- Activities

  found_now : (m : Name) (x : FrozenActivity) → activity_of m xs ≡ Some x → find name_cmp m now.activities ≡ Some (thawed_activity f x)
  found_now m x is = found_each (thawed_activity f) m xs ∙ ap (with_each (thawed_activity f)) is

  found_none : (m : Name) → activity_of m xs ≡ None → find name_cmp m now.activities ≡ None
  found_none m is = found_each (thawed_activity f) m xs ∙ ap (with_each (thawed_activity f)) is

  received_now : (m : Name) (x : FrozenActivity) → activity_of m xs ≡ Some x → requests_of now m ≡ received_by f x
  received_now m x is = ap or_none (found_each (received_by f) m xs ∙ ap (with_each (received_by f)) is)

  received_none : (m : Name) → activity_of m xs ≡ None → requests_of now m ≡ []
  received_none m is = ap or_none (found_each (received_by f) m xs ∙ ap (with_each (received_by f)) is)

  log_none : (m : Name) → activity_of m xs ≡ None → log_of now m ≡ []
  log_none m is = ap or_none (found_each (λ x. x.log) m xs ∙ ap (with_each (λ x. x.log)) is)

  there_is : (m : Name) → is_some (find name_cmp m now.activities) ≡ is_some (activity_of m xs)
  there_is m = ap is_some (found_each (thawed_activity f) m xs) ∙ by (activity_of m xs)
    where
      by : (o : Option FrozenActivity) → is_some (with_each (thawed_activity f) o) ≡ is_some o
      by None = refl
      by (Some x) = refl

  there_now : (m : Name) → IsNamed xs m → IsThere now m
  there_now m n = there_is m ∙ n

  named_now : (m : Name) → IsThere now m → IsNamed xs m
  named_now m t = sym (there_is m) ∙ t

  sends_are : (m : Name) → sends_of now m ≡ sends_in xs m
  sends_are m = ap (number_of (λ a. a.sends)) (found_each (thawed_activity f) m xs) ∙ by (activity_of m xs)
    where
      by : (o : Option FrozenActivity) → number_of (λ a. a.sends) (with_each (thawed_activity f) o) ≡ number_in (λ x. x.activity.sends) o
      by None = refl
      by (Some x) = refl

  creations_are : (m : Name) → creations_of now m ≡ creations_in xs m
  creations_are m = ap (number_of (λ a. a.creations)) (found_each (thawed_activity f) m xs) ∙ by (activity_of m xs)
    where
      by : (o : Option FrozenActivity) → number_of (λ a. a.creations) (with_each (thawed_activity f) o) ≡ number_in (λ x. x.activity.creations) o
      by None = refl
      by (Some x) = refl

  sound_at : (m : Name) (x : FrozenActivity) → activity_of m xs ≡ Some x → IsSoundActivity f x
  sound_at m x is = each_in (IsSoundActivity f) xs x h.activities (activity_there m xs x is).0

  name_is : (m : Name) (x : FrozenActivity) → activity_of m xs ≡ Some x → x.name ≡ m
  name_is m x is = (activity_there m xs x is).1

  -- Homes

  home_at : (g : FutureShape) (m : Name) → In (g, m) f.homes → HasHome f g m
  home_at g m i = found_at_key future_cmp future_total future_same f.homes (g, m) h.homes_ascend i

  sound_home : (g : FutureShape) (m : Name) → HasHome f g m → IsSoundHome f g m
  sound_home g m is = each_in (λ e. IsSoundHome f e.0 e.1) f.homes (g, m) h.homes (home_there g m f.homes is)

  one_home : (g : FutureShape) (m n : Name) → HasHome f g m → HasHome f g n → m ≡ n
  one_home g m n p q = some_is (sym p ∙ q)

  begun_now : (g : FutureShape) → IsHoused f g → IsBegun now g
  begun_now g is =
      let m = is_there (find future_cmp g f.homes) is in
      let s = sound_home g m.0 m.1 in
      (s.first, subst (λ k. g.index ≤ k) (sym (sends_are g.by)) s.last)

  -- Requests

  answered_home : (x : FrozenActivity) (g : FutureShape) → In g (answered f x) → HasHome f g x.name × (has_future g x.queue ≡ false)
  answered_home x g i =
      let z = mapped_in (λ e. e.0) g (filter (λ e. same_name e.1 x.name && not (has_future e.0 x.queue)) f.homes) i in
      let w = filtered_in (λ e. same_name e.1 x.name && not (has_future e.0 x.queue)) z.0 f.homes z.1 in
      let at : z.0.1 ≡ x.name = names_tied z.0.1 x.name (both_true (same_name z.0.1 x.name) (not (has_future z.0.0 x.queue)) w.1) in
      let free : has_future z.0.0 x.queue ≡ false = not_true (has_future z.0.0 x.queue) (both_second (same_name z.0.1 x.name) (not (has_future z.0.0 x.queue)) w.1) in
      (home_at g x.name (subst (λ e. In e f.homes) (λ j. (sym z.2 j, at j)) w.0), ap (λ k. has_future k x.queue) z.2 ∙ free)

  -- whom a request came to
  record Came (m : Name) (r : RequestShape) : Type 0 where
    x : FrozenActivity
    is : activity_of m xs ≡ Some x
    home : HasHome f r.future m
    by : r.sender ≡ r.future.by
    kind : (r ≡ spent r.future) ⊎ In r x.queue

  came : (m : Name) (k : ℕ) (r : RequestShape) → Stands now m k r → Came m r
  came m k r st = by (activity_of m xs) refl
    where
      by : (o : Option FrozenActivity) → activity_of m xs ≡ o → Came m r
      by None is = no_some (sym (ap (λ l. slice_get l k) (received_none m is)) ∙ st)
      by (Some x) is = ⊎_elim
          (λ i.
          let y = mapped_in spent r (answered f x) i in
          let e : y.0 ≡ r.future = sym (ap (λ z. z.future) y.2) in
          record {
            x = x;
            is = is;
            home = subst (λ n. HasHome f r.future n) (name_is m x is) (subst (λ g. HasHome f g x.name) e (answered_home x y.0 y.1).0);
            by = ap (λ z. z.sender) y.2 ∙ ap (λ g. g.by) e;
            kind = inl (y.2 ∙ ap spent e);
          })
          (λ i.
          let q = each_in (IsSoundRequest f x.name) x.queue r (sound_at m x is).queue i in
          record { x = x; is = is; home = subst (λ n. HasHome f r.future n) (name_is m x is) q.home; by = q.sender; kind = inr i })
          (in_either r (map spent (answered f x)) x.queue (numbered_in _ k r (ap (λ l. slice_get l k) (sym (received_now m x is)) ∙ st)))

  right_now : (m : Name) (k : ℕ) (r : RequestShape) → Stands now m k r → IsRightRequest now m r
  right_now m k r st =
      let c = came m k r st in
      let b = begun_now r.future (ap is_some c.home) in
      record {
        received = there_now m (ap is_some c.is);
        by = c.by;
        first = b.0;
        last = subst (λ n. r.future.index ≤ sends_of now n) (sym c.by) b.1;
      }

  -- What was served

  served_now : (m : Name) (b : Activity) → IsAt now m b → ServesOnce now m b
  served_now m b at = by (activity_of m xs) refl
    where
      below : (x : FrozenActivity) → activity_of m xs ≡ Some x → (k : ℕ) → has_place k (numbers_to (length (answered f x))) ≡ true → k < length (requests_of now m)
      below x is k p =
          let lt : k < length (answered f x) = below_numbers k (length (answered f x)) p in
          let front : length (map spent (answered f x)) ≡ length (answered f x) = length_spent (answered f x) in
          let all : length (map spent (answered f x) ++ x.queue) ≡ length (map spent (answered f x)) + length x.queue = length-append (map spent (answered f x)) x.queue in
          subst (λ l. k < length l) (sym (received_now m x is)) (omega (arith, lt, front, all))

      by : (o : Option FrozenActivity) → activity_of m xs ≡ o → ServesOnce now m b
      by None is = no_some (sym (found_none m is) ∙ at)
      by (Some x) is = subst (ServesOnce now m) (some_is (sym (found_now m x is) ∙ at)) (numbers_apart (length (answered f x)), below x is)

  -- Futures stand once

  answers_elsewhere : (g : FutureShape) (m n : Name) → HasHome f g m → n ≢ m → answers_at now n g ≡ 0
  answers_elsewhere g m n home apart = by (activity_of n xs) refl
    where
      by : (o : Option FrozenActivity) → activity_of n xs ≡ o → answers_at now n g ≡ 0
      by None is = ap (answers_of g) (found_none n is)
      by (Some x) is =
          let s = sound_at n x is in
          ap (answers_of g) (found_now n x is) ∙ answers_none f x.name g (λ k q same. apart (sym (name_is n x is) ∙ one_home g x.name m (subst (λ z. HasHome f z x.name) (sym same) q) home)) x.activity s.present s.suspended

  module _ (g : FutureShape) (m : Name) (home : HasHome f g m) (x : FrozenActivity) (is : activity_of m xs ≡ Some x) where
    abbrev front : List RequestShape
    front = map spent (answered f x)

    once_here : times_pending g x.queue + answers_of g (Some x.activity) + filled_at now g ≡ 1
    once_here = ap (λ o. number_in (times_at g) o + filled_at now g) (sym is) ∙ (sound_home g m home).once

    queued : times_pending g x.queue ≡ count g x.queue
    queued = times_are g x.queue

    answers_here : answers_at now m g ≡ answers_of g (Some x.activity)
    answers_here = ap (answers_of g) (found_now m x is)

    -- who is pending was not answered
    answered_none : has_future g x.queue ≡ true → count g front ≡ 0
    answered_none p = count_none g front (false_from_ne_true (has_future g front) (λ e.
        let r = future_there g front e in
        let y = mapped_in spent r.0 (answered f x) r.1 in
        let same : y.0 ≡ g = sym (ap (λ q. q.future) y.2) ∙ r.2 in
        true_false (has_future g x.queue) p (ap (λ k. has_future k x.queue) (sym same) ∙ (answered_home x y.0 y.1).1)))

    counted_once : count g (requests_of now m) ≤ 1
    counted_once = subst (λ l. count g l ≤ 1) (sym (received_now m x is)) (by (has_future g x.queue) refl)
      where
        both : count g (front ++ x.queue) ≡ count g front + count g x.queue
        both = count_both g front x.queue

        by : (b : Bool) → has_future g x.queue ≡ b → count g (front ++ x.queue) ≤ 1
        by true e = let none : count g front ≡ 0 = answered_none e in omega (arith, both, none, once_here, queued)
        by false e =
            let none : count g x.queue ≡ 0 = count_none g x.queue e in
            let less : count g front ≤ keys g f.homes = count_spent g (λ e. same_name e.1 x.name && not (has_future e.0 x.queue)) f.homes in
            let most : keys g f.homes ≤ 1 = keys_once g f.homes h.homes_ascend in
            omega (arith, both, none, less, most)

    record Place : Type 0 where
      number : ℕ
      request : RequestShape
      stands : Stands now m number request
      future : request.future ≡ g
      once : pending_at now m number + answers_at now m g + filled_at now g ≡ 1

    pending_now : (k : ℕ) → pending_at now m k ≡ one_unless (has_place k (numbers_to (length (answered f x))))
    pending_now k = ap (λ o. one_unless (is_served k o)) (found_now m x is)

    placed : (b : Bool) → has_future g x.queue ≡ b → Place
    placed true e =
        let r = future_there g x.queue e in
        let j = number_of_item x.queue r.0 r.1 in
        let k : ℕ = length front + j.0 in
        let size : length front ≡ length (answered f x) = length_spent (answered f x) in
        let pending : pending_at now m k ≡ 1 = pending_now k ∙ ap one_unless (not_numbers k (length (answered f x)) (omega (arith, size))) in
        let some : 1 ≤ count g x.queue = count_some g x.queue e in
        record {
          number = k;
          request = r.0;
          stands = ap (λ l. slice_get l k) (received_now m x is) ∙ slice_behind front x.queue j.0 ∙ j.1;
          future = r.2;
          once = omega (arith, pending, some, queued, once_here, answers_here);
        }
    placed false e =
        let free : (same_name m x.name && not (has_future g x.queue)) ≡ true = (λ i. (ap (same_name m) (name_is m x is) ∙ name_itself m) i && not (e i)) in
        let i = in_filtered (λ e. same_name e.1 x.name && not (has_future e.0 x.queue)) (g, m) f.homes (home_there g m f.homes home) free in
        let j = number_of_item front (spent g) (in_mapped spent g (answered f x) (in_mapped (λ e. e.0) (g, m) (filter (λ e. same_name e.1 x.name && not (has_future e.0 x.queue)) f.homes) i)) in
        let size : length front ≡ length (answered f x) = length_spent (answered f x) in
        let lt : j.0 < length front = slice_below front j.0 (spent g) j.1 in
        let pending : pending_at now m j.0 ≡ 0 = pending_now j.0 ∙ ap one_unless (in_numbers j.0 (length (answered f x)) (omega (arith, lt, size))) in
        let none : count g x.queue ≡ 0 = count_none g x.queue e in
        record {
          number = j.0;
          request = spent g;
          stands = ap (λ l. slice_get l j.0) (received_now m x is) ∙ slice_front front x.queue j.0 (spent g) j.1;
          future = refl;
          once = omega (arith, pending, none, queued, once_here, answers_here);
        }

    stands_by : Place → StandsOnce now g
    stands_by p = record {
      target = m;
      number = p.number;
      request = p.request;
      there = p.stands;
      is = p.future;
      alone = λ n k r st e.
          let at : n ≡ m = one_home g n m (subst (λ z. HasHome f z n) e (came n k r st).home) home in
          (at, one_place g (requests_of now m) counted_once k p.number r p.request (subst (λ q. Stands now q k r) at st) p.stands e p.future);
      once = p.once;
      nowhere = λ n apart. answers_elsewhere g m n home apart;
    }

    stands_now : StandsOnce now g
    stands_now = stands_by (placed (has_future g x.queue) refl)

  stand_now : (n : Name) (i : ℕ) → suc i ≤ sends_of now n → StandsOnce now (record { by = n; index = suc i })
  stand_now n i le =
      let g : FutureShape = record { by = n; index = suc i } in
      let m = is_there (find future_cmp g f.homes) (h.begun n i (subst (λ k. suc i ≤ k) (sends_are n) le)) in
      let x = is_there (activity_of m.0 xs) (sound_home g m.0 m.1).named in
      stands_now g m.0 m.1 x.0 x.1

  -- who is to be answered has a home
  answered_housed : (m : Name) (g : FutureShape) → 1 ≤ answers_at now m g → IsHoused f g
  answered_housed m g le = by (activity_of m xs) refl
    where
      housed : (x : FrozenActivity) → IsSoundActivity f x → 1 ≤ answers_of g (Some x.activity) → (o : Option Name) → find future_cmp g f.homes ≡ o → is_some o ≡ true
      housed x s le None is =
          let none : answers_of g (Some x.activity) ≡ 0 = answers_none f x.name g (λ k q same. no_some (sym is ∙ subst (λ z. HasHome f z x.name) (sym same) q)) x.activity s.present s.suspended in
          absurd (omega (arith, le, none))
      housed x s le (Some n) is = refl

      by : (o : Option FrozenActivity) → activity_of m xs ≡ o → IsHoused f g
      by None is = let none : answers_at now m g ≡ 0 = ap (answers_of g) (found_none m is) in absurd (omega (arith, le, none))
      by (Some x) is = let same : answers_at now m g ≡ answers_of g (Some x.activity) = ap (answers_of g) (found_now m x is) in housed x (sound_at m x is) (omega (arith, le, same)) (find future_cmp g f.homes) refl

  filled_value : (g : FutureShape) (p : ParcelShape) → find future_cmp g f.filled ≡ Some p → IsSoundValue f g p
  filled_value g p is = each_in (λ v. IsSoundValue f v.0 v.1) f.filled (g, p) h.filled (home_there g p f.filled is)

  filled_housed : (g : FutureShape) → is_some (find future_cmp g f.filled) ≡ true → IsHoused f g
  filled_housed g is = let p = is_there (find future_cmp g f.filled) is in (filled_value g p.0 p.1).home

  -- Cells

  known_now : (c : CellShape) → IsKnownIn f c → IsKnown now c
  known_now (Reference n) k = there_now n k
  known_now (Future g) k = begun_now g k
  known_now (Number n) k = tt
  known_now (Object fields methods) k = tt
  known_now (Group ns) k = tt

  all_known : (cs : List CellShape) → Each (IsKnownIn f) cs → AreKnown now cs
  all_known cs k = each_weaker (IsKnownIn f) (IsKnown now) known_now cs k

  -- what holds of each activity, and of the arguments of each pending request
  at_now : (P : Activity → Type 0) → ((x : FrozenActivity) → IsSoundActivity f x → P (thawed_activity f x)) → (m : Name) (b : Activity) → IsAt now m b → P b
  at_now P each m b at = by (activity_of m xs) refl
    where
      by : (o : Option FrozenActivity) → activity_of m xs ≡ o → P b
      by None is = no_some (sym (found_none m is) ∙ at)
      by (Some x) is = subst P (some_is (sym (found_now m x is) ∙ at)) (each x (sound_at m x is))

  in_parcels : (P : ParcelShape → Type 0) → P (record { cells = []; roots = [] }) → ((p : ParcelShape) → IsSoundParcel f p → P p) → (m : Name) (k : ℕ) (r : RequestShape) → Stands now m k r → P r.arguments
  in_parcels P empty each m k r st =
      let c = came m k r st in
      ⊎_elim
      (λ e. subst (λ q. P q.arguments) (sym e) empty)
      (λ i. each r.arguments (each_in (IsSoundRequest f c.x.name) c.x.queue r (sound_at m c.x c.is).queue i).arguments)
      c.kind

  -- All of it

  created_in : (m : Name) → IsThere now m → IsCreated now m
  created_in m t =
      let x = is_there (activity_of m xs) (named_now m t) in
      let y = activity_there m xs x.0 x.1 in
      ⊎_elim
      (λ p. inl (sym y.1 ∙ p))
      (λ c. inr (c.0, c.1, sym y.1 ∙ c.2, subst (λ k. suc c.1 ≤ k) (sym (creations_are c.0)) c.3))
      (created_all xs h.names.created x.0 y.0)

  there_created : (m : Name) → IsCreated now m → IsThere now m
  there_created m c = there_now m (⊎_elim
      (λ p. subst (IsNamed xs) (sym p) (main_named xs h.names.created))
      (λ y. subst (IsNamed xs) (sym y.2) (h.names.all y.0 y.1 (subst (λ k. suc y.1 ≤ k) (creations_are y.0) y.3)))
      c)

  quiet_now : (m : Name) → find name_cmp m now.activities ≡ None → log_of now m ≡ []
  quiet_now m none = by (activity_of m xs) refl
    where
      by : (o : Option FrozenActivity) → activity_of m xs ≡ o → log_of now m ≡ []
      by None is = log_none m is
      by (Some x) is = no_some (sym none ∙ found_now m x is)

  sound_now : IsSound now
  sound_now = record {
    ordered = record {
      activities = ordered_is name_cmp name_total name_same (map (λ x. (x.name, thawed_activity f x)) xs);
      received = ordered_is name_cmp name_total name_same (map (λ x. (x.name, received_by f x)) xs);
      logs = ordered_is name_cmp name_total name_same (map (λ x. (x.name, x.log)) xs);
      futures = h.filled_ascend;
    };
    there = created_in;
    created = there_created;
    requests = right_now;
    served = served_now;
    stand = stand_now;
    begun = λ g t. begun_now g (⊎_elim (filled_housed g) (λ y. answered_housed y.0 g y.1) t);
    linked = record {
      stores = at_now (λ a. AreKnown now a.store) (λ x s. all_known x.activity.store s.known);
      arguments = in_parcels (λ p. AreKnown now p.cells) tt (λ p s. all_known p.cells s.known);
      values = λ g p is. all_known p.cells (filled_value g p is).parcel.known;
    };
    quiet = quiet_now;
  }

  named_all : AreNamed (run_from (thawed_first f) 0)
  named_all = record {
    apart = names_apart xs h.names.once;
    there = λ n i. let y = mapped_in (λ x. x.name) n xs i in there_now n (subst (IsNamed xs) (sym y.2) (ap is_some (there_activity xs y.0 h.names.once y.1)));
    named = λ n t.
        let x = is_there (activity_of n xs) (named_now n t) in
        let y = activity_there n xs x.0 x.1 in
        subst (λ m. In m (map (λ z. z.name) xs)) y.1 (in_mapped (λ z. z.name) x.0 xs y.0);
  }

  closed_now : IsClosed now
  closed_now = record {
    activities = at_now IsClosedActivity (λ x s. record { term = s.closed.term; services = s.closed.services; store = s.closed.store; active = s.closed.active });
    arguments = in_parcels IsClosedParcel (record { cells = tt; roots = tt }) (λ p s. s.closed);
    values = λ g p is. (filled_value g p is).closed;
  }

-- The laws

pub frozen_are_first : FrozenAreFirst
frozen_are_first f h = record { sound = sound_now f h; numbered = numbered_by (run_from (thawed_first f) 0) (named_all f h) }

pub frozen_are_whole : FrozenAreWhole
frozen_are_whole f h = record {
  sound = sound_now f h;
  closed = closed_now f h;
  active = at_now f h (λ a. is_future (cell a.store a.active) ≡ false) (λ x s. no_future (cell x.activity.store x.activity.active) s.object);
}

pub frozen_are_in_order : FrozenAreInOrder
frozen_are_in_order f h = names_in_order f.activities h.names.created
