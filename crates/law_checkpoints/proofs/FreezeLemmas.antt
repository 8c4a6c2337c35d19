-- What is frozen of a run of a program is sound.
use Rattle.std.specs.Prelude.{◌≡◌, ◌≢◌, ◌⊎◌, ℕ, zero, suc, ◌+◌, ◌≤◌, ◌++◌, Bool, true, false, T, List, [], ◌∷◌, Option, Some, None, is_some}
use Rattle.std.proofs.Common.{refl, sym, ap, subst, ◌∙◌, arith, inl, inr, ⊎_elim}
use Rattle.std.proofs.lemmas.Bool.{false_from_ne_true}
use Rattle.std.proofs.lemmas.Grind.{flat_map-append}
use Rattle.std.specs.List.{flat_map}
use Rattle.std.specs.FinMap.{find, is_sorted}
use Rattle.asp_model.specs.Names.{Name, FutureShape, name_cmp, future_cmp, same_name, created_name}
use Rattle.asp_model.specs.Store.{CellShape, Number, Object, Reference, Future, Group}
use Rattle.asp_model.specs.Parcel.{ParcelShape, has_place}
use Rattle.asp_model.specs.Configuration.{RequestShape, ServiceShape, Activity, Configuration, requests_of}
use Rattle.asp_model.specs.History.{FirstShape}
use Rattle.def_journals.specs.Edges.{homes_in}
use Rattle.def_journals.specs.Journals.{run_from}
use Rattle.law_chases.proofs.FutureLemmas.{no_some, some_is, true_false, future_total, future_same}
use Rattle.law_steps.specs.Reached.{IsAt, IsThere}
use Rattle.law_steps.specs.Kept.{IsBegun, StandsOnce, answers_at, answers_of, creations_of, filled_at, mark, number_of, one_unless, is_served, pending_at, sends_of, tally, tally_all}
use Rattle.law_steps.specs.Linked.{Each, IsKnown}
use Rattle.law_steps.specs.Sound.{IsSound}
use Rattle.law_steps.proofs.EachLemmas.{each_weaker}
use Rattle.law_steps.proofs.EntryLemmas.{In}
use Rattle.law_steps.proofs.NameLemmas.{name_itself, names_tied, name_case, is_there, last_same}
use Rattle.law_steps.proofs.SoundLemmas.{mark_same}
use Rattle.law_journals.specs.Numbered.{IsFirst}
use Rattle.law_journals.specs.Runs.{IsHome}
use Rattle.law_journals.proofs.NameListLemmas.{AreApart, numbered_in}
use Rattle.law_journals.proofs.NumberLemmas.{AreNamed, named_by}
use Rattle.law_paths.proofs.KeyedLemmas.{found_at_key}
use Rattle.law_frozen.specs.Pending.{waiting}
use Rattle.law_frozen.specs.Same.{served_by, queue_of}
use Rattle.law_frozen.specs.Frozen.{FrozenActivity, FrozenShape, freeze, frozen_at, frozen_of, has_future}
use Rattle.law_frozen.proofs.FrozenLemmas as frozen
use Rattle.law_frozen.proofs.FrozenLemmas.{in_either, number_of_item, numbered_in as item_in, waiting_in, future_there, ordered_is}
use Rattle.law_frozen.proofs.CountLemmas.{count, count_none, count_once, count_waiting, waiting_at, at_waiting, has_there}
use Rattle.law_checkpoints.specs.Lookups.{activity_of, IsNamed, number_in, creations_in, sends_in, HasHome, IsHoused, times_pending, times_at, times_in}
use Rattle.law_checkpoints.specs.Sound.{StandOnce, IsCreatedAmong, AreCreated, BeginWithMain, HasNames, IsKnownIn, IsSoundRequest, IsSoundValue, IsAnsweredAt, IsSoundActivity, IsSoundHome, IsSoundFrozen}
use Rattle.law_checkpoints.specs.Order.{IsCreatedBy, AreBehind, AreInOrder}
use Rattle.law_checkpoints.proofs.LookLemmas.{in_each, activity_there, home_there, times_are, count_some}
use Rattle.law_checkpoints.proofs.MainLemmas.{not_main}
use Rattle.law_checkpoints.proofs.KeptLemmas.{IsSavable}

-- Activities that are frozen

module _ (c : Configuration) where
  abbrev all : List Name → List FrozenActivity
  all names = flat_map (frozen_at c) names

  abbrev frozen_by : Name → Option Activity → List FrozenActivity
  frozen_by n o = elim o [ None ↦ [] | Some a ↦ freeze c n a ∷ [] ]

  record IsFrozen (names : List Name) (x : FrozenActivity) : Type 0 where
    name : Name
    activity : Activity
    among : In name names
    at : IsAt c name activity
    same : x ≡ freeze c name activity

  in_frozen : (names : List Name) (x : FrozenActivity) → In x (all names) → IsFrozen names x
  in_frozen [] x i = absurd i
  in_frozen (n ∷ names) x i = ⊎_elim
      (by (find name_cmp n c.activities) refl)
      (λ j. let r = in_frozen names x j in record { name = r.name; activity = r.activity; among = inr r.among; at = r.at; same = r.same })
      (in_either x (frozen_at c n) (all names) i)
    where
      by : (o : Option Activity) → find name_cmp n c.activities ≡ o → In x (frozen_by n o) → IsFrozen (n ∷ names) x
      by None is j = absurd j
      by (Some a) is j = ⊎_elim (λ p. record { name = n; activity = a; among = inl refl; at = is; same = p }) (λ l. absurd l) j

  at_frozen : (names : List Name) (q : Name) (a : Activity) → IsAt c q a → In q names → activity_of q (all names) ≡ Some (freeze c q a)
  at_frozen [] q a at i = absurd i
  at_frozen (n ∷ names) q a at i = by (find name_cmp n c.activities) refl (name_case q n) (λ j. at_frozen names q a at j)
    where
      behind : (q ≢ n) → In q names
      behind apart = ⊎_elim (λ p. absurd (apart p)) (λ j. j) i

      by : (o : Option Activity) → find name_cmp n c.activities ≡ o → (q ≡ n) ⊎ (q ≢ n) → (In q names → activity_of q (all names) ≡ Some (freeze c q a)) → activity_of q (all (n ∷ names)) ≡ Some (freeze c q a)
      by None is (inl p) later = no_some (sym is ∙ ap (λ m. find name_cmp m c.activities) (sym p) ∙ at)
      by None is (inr apart) later = ap (λ o. activity_of q (frozen_by n o ++ all names)) is ∙ later (behind apart)
      by (Some b) is (inl p) later =
          let same : b ≡ a = some_is (sym is ∙ ap (λ m. find name_cmp m c.activities) (sym p) ∙ at) in
          ap (λ o. activity_of q (frozen_by n o ++ all names)) is
          ∙ ap (λ t. elim t [ true ↦ Some (freeze c n b) | false ↦ activity_of q (all names) ]) (ap (same_name q) (sym p) ∙ name_itself q)
          ∙ (λ j. Some (freeze c (sym p j) (same j)))
      by (Some b) is (inr apart) later =
          ap (λ o. activity_of q (frozen_by n o ++ all names)) is
          ∙ ap (λ t. elim t [ true ↦ Some (freeze c n b) | false ↦ activity_of q (all names) ]) (false_from_ne_true (same_name q n) (λ t. apart (names_tied q n t)))
          ∙ later (behind apart)

  none_frozen : (names : List Name) (q : Name) → ((a : Activity) → IsAt c q a → In q names → ⊥) → activity_of q (all names) ≡ None
  none_frozen names q unseen = by (activity_of q (all names)) refl
    where
      by : (o : Option FrozenActivity) → activity_of q (all names) ≡ o → o ≡ None
      by None is = refl
      by (Some x) is =
          let y = activity_there q (all names) x is in
          let r = in_frozen names x y.0 in
          let e : r.name ≡ q = ap (λ z. z.name) (sym r.same) ∙ y.1 in
          absurd (unseen r.activity (subst (λ m. IsAt c m r.activity) e r.at) (subst (λ m. In m names) e r.among))

  stand_once : (names : List Name) → AreApart names → StandOnce (all names)
  stand_once [] h = tt
  stand_once (n ∷ names) h = by (find name_cmp n c.activities) (stand_once names h.1)
    where
      by : (o : Option Activity) → StandOnce (all names) → StandOnce (frozen_by n o ++ all names)
      by None rest = rest
      by (Some a) rest = (none_frozen names n (λ b at i. h.0 i), rest)

-- Of a configuration whose activities have one number each

module _ (c : Configuration) (names : List Name) (first : IsFirst (record { names = names; configuration = c })) (order : AreInOrder names) (savable : IsSavable c) where
  abbrev x : FirstShape
  x = record { names = names; configuration = c }

  abbrev shape : FrozenShape
  shape = frozen_of names c

  abbrev xs : List FrozenActivity
  xs = all c names

  sound : IsSound c
  sound = first.sound

  named : AreNamed (run_from x 0)
  named = named_by (run_from x 0) (record { apart = first.numbered.apart; there = first.numbered.there; numbered = first.numbered.numbered })

  found : (q : Name) (a : Activity) → IsAt c q a → activity_of q xs ≡ Some (freeze c q a)
  found q a at = at_frozen c names q a at (named.named q (ap is_some at))

  absent : (q : Name) → find name_cmp q c.activities ≡ None → activity_of q xs ≡ None
  absent q none = none_frozen c names q (λ a at i. no_some (sym none ∙ at))

  named_in : (q : Name) → IsThere c q → IsNamed xs q
  named_in q there = let a = is_there (find name_cmp q c.activities) there in ap is_some (found q a.0 a.1)

  number_of_all : (f : Activity → ℕ) (g : FrozenActivity → ℕ) → ((n : Name) (a : Activity) → g (freeze c n a) ≡ f a) → (q : Name) → number_in g (activity_of q xs) ≡ number_of f (find name_cmp q c.activities)
  number_of_all f g same q = by (find name_cmp q c.activities) refl
    where
      by : (o : Option Activity) → find name_cmp q c.activities ≡ o → number_in g (activity_of q xs) ≡ number_of f (find name_cmp q c.activities)
      by None is = ap (number_in g) (absent q is) ∙ sym (ap (number_of f) is)
      by (Some a) is = ap (number_in g) (found q a is) ∙ same q a ∙ sym (ap (number_of f) is)

  sends_are : (q : Name) → sends_in xs q ≡ sends_of c q
  sends_are q = number_of_all (λ a. a.sends) (λ z. z.activity.sends) (λ n a. refl) q

  creations_are : (q : Name) → creations_in xs q ≡ creations_of c q
  creations_are q = number_of_all (λ a. a.creations) (λ z. z.activity.creations) (λ n a. refl) q

  -- Names

  -- who has created another is there
  creator : (by : Name) (k : ℕ) → suc k ≤ creations_of c by → (a : Activity) × IsAt c by a × (suc k ≤ a.creations)
  creator by k le = of (find name_cmp by c.activities) refl le
    where
      of : (o : Option Activity) → find name_cmp by c.activities ≡ o → suc k ≤ number_of (λ a. a.creations) o → (a : Activity) × IsAt c by a × (suc k ≤ a.creations)
      of None is le = absurd (omega (arith, le))
      of (Some a) is le = (a, is, le)

  created_among : (before : List Name) (n : Name) → IsThere c n → IsCreatedBy before n → IsCreatedAmong (all c before) n
  created_among before n there b = ⊎_elim
      (λ p. absurd (not_main b.0 b.1 (sym b.4 ∙ p)))
      (λ y.
      let same = last_same (suc b.1) (suc y.1) b.0 y.0 (sym b.4 ∙ y.2) in
      let a = creator y.0 y.1 y.3 in
      let at : IsAt c b.0 a.0 = subst (λ m. IsAt c m a.0) (sym same.0) a.1 in
      (b.0, y.1, y.2 ∙ ap (λ m. created_name m (suc y.1)) (sym same.0), subst (λ o. suc y.1 ≤ number_in (λ z. z.activity.creations) o) (sym (at_frozen c before b.0 a.0 at (numbered_in before b.2 b.0 b.3))) a.2))
      (sound.there n there)

  behind : (before ns : List Name) → ((n : Name) → In n ns → IsThere c n) → AreBehind before ns → AreCreated (all c before) (all c ns)
  behind before [] there h = tt
  behind before (n ∷ ns) there h =
      let a = is_there (find name_cmp n c.activities) (there n (inl refl)) in
      let one : all c (n ∷ []) ≡ freeze c n a.0 ∷ [] = ap (λ o. frozen_by c n o ++ []) a.1 in
      let rest = behind (before ++ n ∷ []) ns (λ m i. there m (inr i)) h.1 in
      subst (λ l. AreCreated (all c before) (l ++ all c ns)) (sym (ap (frozen_by c n) a.1)) (
        created_among before n (there n (inl refl)) h.0,
        subst (λ l. AreCreated l (all c ns)) (flat_map-append (frozen_at c) before (n ∷ []) ∙ ap (λ l. all c before ++ l) one) rest,
      )

  begin_with_main : (ns : List Name) → ((n : Name) → In n ns → IsThere c n) → AreInOrder ns → BeginWithMain (all c ns)
  begin_with_main [] there h = absurd h
  begin_with_main (n ∷ ns) there h =
      let a = is_there (find name_cmp n c.activities) (there n (inl refl)) in
      let one : all c (n ∷ []) ≡ freeze c n a.0 ∷ [] = ap (λ o. frozen_by c n o ++ []) a.1 in
      subst (λ l. BeginWithMain (l ++ all c ns)) (sym (ap (frozen_by c n) a.1)) (
        h.0,
        subst (λ l. AreCreated l (all c ns)) one (behind (n ∷ []) ns (λ m i. there m (inr i)) h.1),
      )

  has_names : HasNames xs
  has_names = record {
    once = stand_once c names named.apart;
    created = begin_with_main names named.there order;
    all = λ by k le. named_in (created_name by (suc k)) (sound.created (created_name by (suc k)) (inr (by, k, refl, subst (λ j. suc k ≤ j) (creations_are by) le)));
  }

  -- Homes

  homes_ascend : T (is_sorted future_cmp shape.homes)
  homes_ascend = ordered_is future_cmp future_total future_same (homes_in c)

  has_home : (g : FutureShape) (m : Name) → IsHome c g m → HasHome shape g m
  has_home g m h = found_at_key future_cmp future_total future_same shape.homes (g, m) homes_ascend (frozen.home_frozen x first g m h)

  home_is : (g : FutureShape) (m : Name) → HasHome shape g m → IsHome c g m
  home_is g m h = frozen.frozen_home x first g m (home_there g m shape.homes h)

  -- a future that was begun
  stands : (g : FutureShape) → IsBegun c g → StandsOnce c g
  stands g h = by g.index refl h
    where
      by : (k : ℕ) → g.index ≡ k → IsBegun c g → StandsOnce c g
      by zero e h = absurd (omega (arith, e, h.0))
      by (suc i) e h = subst (StandsOnce c) (λ j. record { by = g.by; index = sym e j }) (sound.stand g.by i (subst (λ k. k ≤ sends_of c g.by) e h.1))

  home_of_begun : (g : FutureShape) (h : IsBegun c g) → IsHome c g (stands g h).target
  home_of_begun g h = let s = stands g h in (s.number, s.request, s.there, s.is)

  housed : (g : FutureShape) → IsBegun c g → IsHoused shape g
  housed g h = ap is_some (has_home g (stands g h).target (home_of_begun g h))

  begun_of : (g : FutureShape) (m : Name) → IsHome c g m → IsBegun c g
  begun_of g m h =
      let r = sound.requests m h.0 h.1 h.2 in
      subst (IsBegun c) h.3 (r.first, subst (λ n. h.1.future.index ≤ sends_of c n) r.by r.last)

  -- who has to answer a future is its home
  answers_home : (g : FutureShape) (m : Name) → 1 ≤ answers_at c m g → HasHome shape g m
  answers_home g m le =
      let b = sound.begun g (inr (m, le)) in
      let s = stands g b in
      ⊎_elim
      (λ p. subst (HasHome shape g) (sym p) (has_home g s.target (home_of_begun g b)))
      (λ apart. let none : answers_at c m g ≡ 0 = s.nowhere m apart in absurd (omega (arith, le, none)))
      (name_case m s.target)

  -- how often a future stands

  module _ (g : FutureShape) (s : StandsOnce c g) (a : Activity) (at : IsAt c s.target a) where
    abbrev queue : List RequestShape
    queue = queue_of c s.target

    queue_is : queue ≡ waiting a.served (requests_of c s.target)
    queue_is = ap (λ o. waiting (served_by o) (requests_of c s.target)) at

    pending_is : pending_at c s.target s.number ≡ one_unless (has_place s.number a.served)
    pending_is = ap (λ o. one_unless (is_served s.number o)) at

    most : count g queue ≤ 1
    most =
        let less : count g queue ≤ count g (requests_of c s.target) = count_waiting g (served_by (find name_cmp s.target c.activities)) 0 (requests_of c s.target) in
        let one : count g (requests_of c s.target) ≤ 1 = count_once g (requests_of c s.target) (λ k j r q e f u v. (s.alone s.target k r e u).1 ∙ sym (s.alone s.target j q f v).1) in
        omega (arith, less, one)

    -- what was served is not pending
    none_there : has_place s.number a.served ≡ true → has_future g queue ≡ true → ⊥
    none_there e t =
        let r = future_there g queue t in
        let y = waiting_at a.served 0 (requests_of c s.target) r.0 (subst (In r.0) queue_is r.1) in
        let same : y.0 ≡ s.number = (s.alone s.target y.0 r.0 y.1 r.2).1 in
        let p : s.number ≡ y.0 + 0 = omega (arith, same) in
        true_false (has_place s.number a.served) e (ap (λ k. has_place k a.served) p ∙ y.2)

    counted : count g queue ≡ pending_at c s.target s.number
    counted = by (has_place s.number a.served) refl
      where
        by : (b : Bool) → has_place s.number a.served ≡ b → count g queue ≡ pending_at c s.target s.number
        by true e = count_none g queue (false_from_ne_true (has_future g queue) (none_there e)) ∙ sym (pending_is ∙ ap one_unless e)
        by false e =
            let z : s.number + 0 ≡ s.number = omega arith in
            let i = at_waiting a.served 0 (requests_of c s.target) s.number s.request s.there (ap (λ k. has_place k a.served) z ∙ e) in
            let some : 1 ≤ count g queue = count_some g queue (has_there g queue s.request (subst (In s.request) (sym queue_is) i) s.is) in
            let one : pending_at c s.target s.number ≡ 1 = pending_is ∙ ap one_unless e in
            omega (arith, some, most, one)

    times_are_one : times_in shape g s.target ≡ 1
    times_are_one =
        let here : times_in shape g s.target ≡ (times_pending g queue + answers_of g (Some a)) + filled_at c g = ap (λ o. number_in (times_at g) o + filled_at c g) (found s.target a at) in
        let answers : answers_at c s.target g ≡ answers_of g (Some a) = ap (answers_of g) at in
        let same : times_pending g queue ≡ count g queue = times_are g queue in
        let once : pending_at c s.target s.number + answers_at c s.target g + filled_at c g ≡ 1 = s.once in
        omega (arith, here, answers, same, counted, once)

  sound_home : (g : FutureShape) (m : Name) → IsHome c g m → IsSoundHome shape g m
  sound_home g m h =
      let b = begun_of g m h in
      let s = stands g b in
      let r = sound.requests m h.0 h.1 h.2 in
      let a = is_there (find name_cmp s.target c.activities) (sound.requests s.target s.number s.request s.there).received in
      let here : s.target ≡ m = sym (s.alone m h.0 h.1 h.2 h.3).0 in
      record {
        first = b.0;
        last = subst (λ k. g.index ≤ k) (sym (sends_are g.by)) b.1;
        named = named_in m r.received;
        other = savable.main.received m h.0 h.1 h.2;
        once = subst (λ n. times_in shape g n ≡ 1) here (times_are_one g s a.0 a.1);
      }

  -- Cells, requests and values

  known_in : (d : CellShape) → IsKnown c d → IsKnownIn shape d
  known_in (Reference n) k = named_in n k
  known_in (Future g) k = housed g k
  known_in (Number n) k = tt
  known_in (Object fields methods) k = tt
  known_in (Group ns) k = tt

  all_known : (cs : List CellShape) → Each (IsKnown c) cs → Each (IsKnownIn shape) cs
  all_known cs k = each_weaker (IsKnown c) (IsKnownIn shape) known_in cs k

  sound_request : (n : Name) (r : RequestShape) → In r (queue_of c n) → IsSoundRequest shape n r
  sound_request n r i =
      let j = number_of_item (requests_of c n) r (waiting_in (served_by (find name_cmp n c.activities)) 0 (requests_of c n) r i) in
      record {
        home = has_home r.future n (j.0, r, j.1, refl);
        sender = (sound.requests n j.0 r j.1).by;
        arguments = record {
          closed = savable.whole.closed.arguments n j.0 r j.1;
          proper = savable.proper.arguments n j.0 r j.1;
          known = all_known r.arguments.cells (sound.linked.arguments n j.0 r j.1);
        };
      }

  sound_value : (g : FutureShape) (p : ParcelShape) → In (g, p) c.futures → IsSoundValue shape g p
  sound_value g p i =
      let at = found_at_key future_cmp future_total future_same c.futures (g, p) sound.ordered.futures i in
      let value = savable.whole.closed.values g p at in
      record {
        home = housed g (sound.begun g (inl (ap is_some at)));
        closed = value;
        parcel = record { closed = value.closed; proper = savable.proper.values g p at; known = all_known p.cells (sound.linked.values g p at) };
      }

  -- Activities

  module _ (n : Name) (a : Activity) (at : IsAt c n a) where
    answered : (g : FutureShape) → 1 ≤ answers_of g (Some a) → HasHome shape g n
    answered g le = answers_home g n (subst (λ k. 1 ≤ k) (sym (ap (answers_of g) at)) le)

    present_home : (o : Option FutureShape) → a.present ≡ o → IsAnsweredAt shape n o
    present_home None e = tt
    present_home (Some g) e = answered g (
        let one : mark g g ≡ 1 = mark_same g g refl in
        let here : tally (mark g) a.present ≡ mark g g = ap (tally (mark g)) e in
        omega (arith, one, here))

    service_home : (v : ServiceShape) → ((g : FutureShape) → v.future ≡ Some g → 1 ≤ tally_all (mark g) a.services) → (o : Option FutureShape) → v.future ≡ o → IsAnsweredAt shape n o
    service_home v le None e = tt
    service_home v le (Some g) e = answered g (let some : 1 ≤ tally_all (mark g) a.services = le g e in omega (arith, some))

    tally_in : (vs : List ServiceShape) (v : ServiceShape) (g : FutureShape) → In v vs → v.future ≡ Some g → 1 ≤ tally_all (mark g) vs
    tally_in [] v g i e = absurd i
    tally_in (w ∷ vs) v g (inl p) e =
        let one : mark g g ≡ 1 = mark_same g g refl in
        let here : tally (mark g) w.future ≡ mark g g = ap (tally (mark g)) (ap (λ z. z.future) (sym p) ∙ e) in
        omega (arith, one, here)
    tally_in (w ∷ vs) v g (inr i) e = let rest : 1 ≤ tally_all (mark g) vs = tally_in vs v g i e in omega (arith, rest)

    sound_activity : IsSoundActivity shape (freeze c n a)
    sound_activity =
        let closed = savable.whole.closed.activities n a at in
        let proper = savable.proper.activities n a at in
        let kept = savable.activities n a at in
        record {
          closed = record { term = closed.term; services = closed.services; store = closed.store; active = closed.active };
          proper = record { term = proper.term; services = proper.services; store = proper.store };
          contexts = kept.services.contexts;
          object = kept.object;
          known = all_known a.store (sound.linked.stores n a at);
          queue = in_each (IsSoundRequest shape n) (queue_of c n) (sound_request n);
          present = present_home a.present refl;
          suspended = in_each (λ v. IsAnsweredAt shape n v.future) a.services (λ v i. service_home v (λ g e. tally_in a.services v g i e) v.future refl);
          answers = kept.services.answers;
        }

  sound_in : (z : FrozenActivity) → In z xs → IsSoundActivity shape z
  sound_in z i = let r = in_frozen c names z i in subst (IsSoundActivity shape) (sym r.same) (sound_activity r.name r.activity r.at)

  pub sound_frozen : IsSoundFrozen shape
  sound_frozen = record {
    names = has_names;
    activities = in_each (IsSoundActivity shape) xs sound_in;
    homes_ascend = homes_ascend;
    homes = in_each (λ h. IsSoundHome shape h.0 h.1) shape.homes (λ h i. sound_home h.0 h.1 (frozen.frozen_home x first h.0 h.1 i));
    begun = λ n i le. housed (record { by = n; index = suc i }) (omega arith, subst (λ k. suc i ≤ k) (sends_are n) le);
    filled_ascend = sound.ordered.futures;
    filled = in_each (λ v. IsSoundValue shape v.0 v.1) c.futures (λ v i. sound_value v.0 v.1 i);
  }
