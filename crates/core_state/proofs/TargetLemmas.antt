-- Who receives a delivery, and whether it may be entered.
use Rattle.std.proofs.Common.{◌≡◌, ◌≢◌, ◌≤◌, Bool, true, false, List, [], ◌∷◌, Option, Some, None, OnOk, Result, ℕ, suc, is_none, is_some, length, slice_get, refl, sym, ap, subst, ◌∙◌, ⊎_elim, ◌⊎◌}
use Rattle.std.proofs.lemmas.Bool.{and_parts, false_from_ne_true}
use Rattle.std.proofs.lemmas.Result.{on_ok_weaker}
use Rattle.std.specs.Prelude.{◌&&◌}
use Rattle.std.specs.FinMap.{find}
use Rattle.asp_model.specs.Chase.{Chase, Cycle, Unfilled, Value, chase}
use Rattle.asp_model.specs.Configuration.{Activity, Configuration, requests_of}
use Rattle.asp_model.specs.Contraction.{is_future}
use Rattle.asp_model.specs.History.{Edge, HistoryShape, Need}
use Rattle.asp_model.specs.Names.{FutureShape, Name, future_cmp, name_cmp, same_future, same_name}
use Rattle.asp_model.specs.Parcel.{ParcelShape}
use Rattle.asp_model.specs.Step.{name_at}
use Rattle.asp_model.specs.Store.{Future, Store, cell}
use Rattle.def_journals.specs.Deliveries.{edge_delivered, need_delivered, value_needed, value_of}
use Rattle.def_journals.specs.Journals.{RunShape, delivered, grant_of, is_in, number_of, over}
use Rattle.law_steps.specs.Reached.{IsFilled, IsThere}
use Rattle.law_steps.proofs.DeliveryLemmas.{NeedDone, edge_done, need_done}
use Rattle.law_steps.proofs.NameLemmas.{is_there, names_tied}
use Rattle.law_chases.proofs.FutureLemmas.{future_itself, no_some, none_true, some_is, true_false}
use Rattle.law_journals.specs.Entered.{IsIn}
use Rattle.law_journals.specs.Numbered.{AreNumbered}
use Rattle.law_journals.proofs.EntryLemmas.{edges_are_entered, needs_are_entered}
use Rattle.law_core.proofs.OwedLemmas.{in_named}
use Rattle.code_table.specs.declared.code.Node.{Node}
use Rattle.code_table.specs.Cells.{CodedStore}
use Rattle.code_table.specs.Shapes.{store_of}
use Rattle.step_rows.proofs.GroupLemmas.{past_future}
use Rattle.request_queue.specs.declared.request.Request.{Request}
use Rattle.future_table.specs.Values as chases
use Rattle.future_table.specs.Values.{told, values_of}
use Rattle.core_seats.specs.Seats.{In, IsFound, IsTaken, Out, SeatShape, names_in, seat_at}
use Rattle.step_activity.specs.declared.actor.Actor.{Actor}
use Rattle.step_activity.specs.Actors.{Stands}
use Rattle.core_state.specs.declared.state.CoreState.{CoreState}
use Rattle.core_state.specs.Cores.{IsCore, IsSeated}
use Rattle.core_state.proofs.LendLemmas.{is_here}
use Rattle.core_state.proofs.ListLemmas.{name_got}
use Rattle.core_state.specs.declared.target.Spot.{Spot}
use Rattle.core_state.specs.Deliveries.{IsDelivered, IsEdgeDelivered, IsNeedDelivered, IsNeeded, IsPassed}
use Rattle.core_state.specs.Targets.{IsEdgeTarget, IsNeedTarget}

-- What is entered

over_some : (s : RunShape) (b : Bool) (o : Option Configuration) → is_some (elim b [ true ↦ over s o | false ↦ None ]) ≡ true → (b ≡ true) × (d : Configuration) × (o ≡ Some d)
over_some s true None h = none_true h
over_some s true (Some d) h = (refl, d, refl)
over_some s false o h = none_true h

pub lawful_edge : (s : RunShape) (f : FutureShape) (from to : Name) → is_some (delivered (Edge f from to) s) ≡ true → IsThere s.configuration from × (is_in s to ≡ true) × IsFilled s.configuration f
lawful_edge s f from to h =
    let c : Configuration = s.configuration in
    let x = over_some s (is_some (find name_cmp from c.activities) && is_in s to) (edge_delivered c f to) h in
    let both = and_parts (is_some (find name_cmp from c.activities)) (is_in s to) x.0 in
    (both.0, both.1, ap is_some (edge_done c f to x.1 x.2).filled)

pub lawful_need : (s : RunShape) (f : FutureShape) (to : Name) (place : ℕ) → is_some (delivered (Need f to place) s) ≡ true → (is_in s to ≡ true) × (d : Configuration) × NeedDone s.configuration f to place d
lawful_need s f to place h =
    let x = over_some s (is_in s to) (need_delivered s.configuration f to place) h in
    (x.0, x.1, need_done s.configuration f to place x.1 x.2)

module _ (s : RunShape) (numbered : AreNumbered s) where
  pub edge_lawful : (k : ℕ) (f : FutureShape) (from to : Name) (x : IsPassed s k f from) → x.name ≡ to → is_some (delivered (Edge f from to) s) ≡ true
  edge_lawful k f from to x is = subst (λ n. is_some (delivered (Edge f from n) s) ≡ true) is (ap is_some (edges_are_entered s k f from x.name x.activity x.value numbered x.here x.sender x.filled))

  pub need_lawful : (k place : ℕ) (f : FutureShape) (to : Name) (x : IsNeeded s k place f) → x.name ≡ to → is_some (delivered (Need f to place) s) ≡ true
  need_lawful k place f to x is = subst (λ n. is_some (delivered (Need f n place) s) ≡ true) is (ap is_some (needs_are_entered s k f x.name place x.activity x.value numbered x.here x.needed))

  -- by who receives it
  pub edge_tells : (f : FutureShape) (from to : Name) (o : Option ℕ) → IsEdgeTarget s f from to o → is_some o ≡ is_some (delivered (Edge f from to) s)
  edge_tells f from to None is = sym is
  edge_tells f from to (Some k) is = sym (edge_lawful k f from to is.0 is.1)

  pub need_tells : (f : FutureShape) (to : Name) (place : ℕ) (o : Option Spot) → IsNeedTarget s f to place o → is_some o ≡ is_some (delivered (Need f to place) s)
  need_tells f to place None is = sym is
  need_tells f to place (Some x) is = sym (need_lawful x.number place f to is.1 is.2)

  module _ (h : HistoryShape) (code : List Node) (new : CoreState) where
    pub edge_is_delivered : (k : ℕ) (f : FutureShape) (from to : Name) (x : IsPassed s k f from) → x.name ≡ to → IsEdgeDelivered h code s k f from x new → IsDelivered h code s (Edge f from to) new
    edge_is_delivered k f from to x is core = subst (λ n. IsDelivered h code s (Edge f from n) new) is
        (_, edges_are_entered s k f from x.name x.activity x.value numbered x.here x.sender x.filled, refl, refl, core)

    pub need_is_delivered : (k place : ℕ) (f : FutureShape) (to : Name) (x : IsNeeded s k place f) → x.name ≡ to → IsNeedDelivered h code s k place f x new → IsDelivered h code s (Need f to place) new
    need_is_delivered k place f to x is core = subst (λ n. IsDelivered h code s (Need f n place) new) is
        (_, needs_are_entered s k f x.name place x.activity x.value numbered x.here x.needed, refl, refl, core)

    -- at the place as it is told
    pub need_there : {E : Type 0} (r : Result (Unit {0}) E) (k loc place : ℕ) (f : FutureShape) (to : Name) → loc ≡ place → ((x : IsNeeded s k loc f) → OnOk r (IsNeedDelivered h code s k loc f x new))
        → (y : IsNeeded s k place f) → y.name ≡ to → OnOk r (IsDelivered h code s (Need f to place) new)
    need_there r k loc place f to same delivers = subst (λ (p : ℕ). (y : IsNeeded s k p f) → y.name ≡ to → OnOk r (IsDelivered h code s (Need f to p) new)) same
        (λ y is. on_ok_weaker r (need_is_delivered k loc f to y is) (delivers y))

-- Where a future leads

same_some : (p : ParcelShape) (b : Bool) → b ≡ is_some (elim b [ true ↦ Some p | false ↦ None ])
same_some p true = refl
same_some p false = refl

pub leads_there : (f g : FutureShape) (c : Chase) → chases.Value g ≡ told c → same_future f g ≡ is_some (value_of f c)
leads_there f g (Value h p) e =
    let same : g ≡ h = cc in
    ap (same_future f) same ∙ same_some p (same_future f h)
leads_there f g (Unfilled h) e = absurd cc
leads_there f g (Cycle h) e = absurd cc

pub leads_nowhere : (f g : FutureShape) (c : Chase) → (chases.Unfilled g ≡ told c) ⊎ (chases.Cycle g ≡ told c) → false ≡ is_some (value_of f c)
leads_nowhere f g (Value h p) e = absurd (⊎_elim (λ is. value_ends g h is) (λ is. value_goes_on g h is) e)
  where
    value_ends : (g h : FutureShape) → chases.Unfilled g ≡ chases.Value h → ⊥
    value_ends g h e = cc

    value_goes_on : (g h : FutureShape) → chases.Cycle g ≡ chases.Value h → ⊥
    value_goes_on g h e = cc
leads_nowhere f g (Unfilled h) e = refl
leads_nowhere f g (Cycle h) e = refl

-- Who is in

abbrev one_later : Bool → Option ℕ → Option ℕ
one_later b o = elim b [ true ↦ Some 0 | false ↦ elim o [ None ↦ None | Some k ↦ Some (suc k) ] ]

nobody : (n : Name) (ns : List Name) → ((k : ℕ) → slice_get ns k ≢ Some n) → number_of n ns ≡ None
nobody n [] none = refl
nobody n (m ∷ ns) none = by (same_name n m) refl (number_of n ns) (nobody n ns (λ k. none (suc k)))
  where
    by : (b : Bool) → same_name n m ≡ b → (o : Option ℕ) → o ≡ None → one_later b o ≡ None
    by true is o rest = absurd (none 0 (ap Some (sym (names_tied n m is))))
    by false is o rest = ap (one_later false) rest

module _ (h : HistoryShape) (code : List Node) (x : CoreState) (s : RunShape) (core : IsCore h code x s) where
  named : (k : ℕ) (n : Name) → slice_get (names_in x.seats) k ≡ Some n → name_at s.names k ≡ Some n
  named k n is = name_got s.names k ∙ ap (λ ns. slice_get ns k) (sym core.populated.names) ∙ is

  absent : (n : Name) → IsFound (names_in x.seats) n None → IsThere s.configuration n → ⊥
  absent n none there =
      let k = core.numbered.numbered n there in
      none k.0 (ap (λ ns. slice_get ns k.0) core.populated.names ∙ sym (name_got s.names k.0) ∙ k.1)

  pub nobody_in : (n : Name) → IsFound (names_in x.seats) n None → is_in s n ≡ false
  nobody_in n none = ap (λ o. elim o [ None ↦ false | Some k ↦ is_none (grant_of k s.out) ]) (nobody n s.names (λ k. subst (λ ns. slice_get ns k ≢ Some n) core.populated.names (none k)))

  module _ (k : ℕ) (n : Name) (found : slice_get (names_in x.seats) k ≡ Some n) where
    pub seated_here : (a : Actor) → IsTaken (seat_at x.seats k) (Some a) → (b : Activity) × IsIn s k n b × Stands a b (requests_of s.configuration n)
    seated_here a taken = by (seat_at x.seats k) (core.populated.seats k n (named k n found)) taken
      where
        by : (o : Option (SeatShape Actor Request)) → IsSeated h code s k n o → IsTaken o (Some a) → (b : Activity) × IsIn s k n b × Stands a b (requests_of s.configuration n)
        by (Some (In y)) seated is = (
          seated.activity,
          record { named = named k n found; free = seated.free; there = seated.there },
          subst (λ z. Stands z seated.activity (requests_of s.configuration n)) (sym (some_is is)) seated.stands,
        )
        by (Some (Out came)) seated is = no_some (sym is)
        by None seated is = absurd seated

    pub seated_away : IsTaken (seat_at x.seats k) None → is_in s n ≡ false
    seated_away taken = in_named s core.numbered k n (named k n found) ∙ by (grant_of k s.out) refl
      where
        by : (o : Option ℕ) → grant_of k s.out ≡ o → is_none o ≡ false
        by None free = let a = is_here h code x s core k n (named k n found) free in no_some (subst (λ seat. IsTaken seat None) a.1 taken)
        by (Some grant) is = refl

  -- Edges

  module _ (f : FutureShape) (from to : Name) where
    abbrev edge_goes : Bool
    edge_goes = is_some (delivered (Edge f from to) s)

    pub no_sender : IsFound (names_in x.seats) from None → edge_goes ≡ false
    no_sender none = false_from_ne_true edge_goes (λ goes. absent from none (lawful_edge s f from to goes).0)

    pub no_value : None ≡ find future_cmp f (values_of x.futures) → edge_goes ≡ false
    no_value none = false_from_ne_true edge_goes (λ goes. true_false (is_some (find future_cmp f s.configuration.futures)) (lawful_edge s f from to goes).2 (ap is_some (ap (find future_cmp f) (sym core.populated.futures) ∙ sym none)))

    pub no_receiver : is_in s to ≡ false → edge_goes ≡ false
    no_receiver away = false_from_ne_true edge_goes (λ goes. true_false (is_in s to) (lawful_edge s f from to goes).1 away)

    pub edge_goes_to : (j : ℕ) → slice_get (names_in x.seats) j ≡ Some from → (p : ParcelShape) → Some p ≡ find future_cmp f (values_of x.futures) → (k : ℕ) (b : Activity) → IsIn s k to b → (y : IsPassed s k f from) × (y.name ≡ to)
    edge_goes_to j found p got k b here = (
      record {
        name = to;
        activity = b;
        here = here;
        sender = core.numbered.there j from (named j from found);
        value = p;
        filled = ap (find future_cmp f) (sym core.populated.futures) ∙ sym got;
      },
      refl,
    )

  -- Needs

  module _ (f : FutureShape) (to : Name) (place : ℕ) where
    abbrev need_goes : Bool
    need_goes = is_some (delivered (Need f to place) s)

    pub nobody_needs : is_in s to ≡ false → need_goes ≡ false
    nobody_needs away = false_from_ne_true need_goes (λ goes. true_false (is_in s to) (lawful_need s f to place goes).0 away)

    module _ (j : ℕ) (b : Activity) (here : IsIn s j to b) where
      -- past the end is no future
      pub none_past : (k : List Node) (cells : CodedStore) → store_of k cells ≡ b.store → length cells ≤ place → is_future (cell b.store place) ≡ false
      none_past k cells is past = subst (λ (t : Store). is_future (cell t place) ≡ false) is (sym (past_future k cells place past))

      -- what a need that is entered finds in the store
      held_then : need_goes ≡ true → (g : FutureShape) × (p : ParcelShape) × (cell b.store place ≡ Future g) × (chase s.configuration.futures g ≡ Value f p)
      held_then goes =
          let done = (lawful_need s f to place goes).2 in
          let same : b ≡ done.receiver = some_is (sym here.there ∙ done.at) in
          (done.held, done.value, ap (λ (a : Activity). cell a.store place) same ∙ done.holds, done.chased)

      pub none_held : is_future (cell b.store place) ≡ false → need_goes ≡ false
      none_held none = false_from_ne_true need_goes (λ goes. true_false (is_future (cell b.store place)) (ap is_future (held_then goes).2) none)

      module _ (g : FutureShape) (holds : cell b.store place ≡ Future g) where
        abbrev led : Option ParcelShape
        led = value_of f (chase (values_of x.futures) g)

        led_so : led ≡ value_needed (chase s.configuration.futures) f (cell b.store place)
        led_so = ap (λ values. value_of f (chase values g)) core.populated.futures ∙ ap (value_needed (chase s.configuration.futures) f) (sym holds)

        pub leads_elsewhere : is_some led ≡ false → need_goes ≡ false
        leads_elsewhere none = false_from_ne_true need_goes (λ goes.
            let held = held_then goes in
            let there : led ≡ Some held.1 =
            led_so
            ∙ ap (value_needed (chase s.configuration.futures) f) held.2
            ∙ ap (value_of f) held.3
            ∙ ap (λ (b : Bool). elim b [ true ↦ Some held.1 | false ↦ None ]) (future_itself f) in
            true_false (is_some led) (ap is_some there) none)

        pub need_goes_to : is_some led ≡ true → (y : IsNeeded s j place f) × (y.name ≡ to)
        need_goes_to leads =
            let p = is_there led leads in
            (record { name = to; activity = b; here = here; value = p.0; needed = sym led_so ∙ p.1 }, refl)
