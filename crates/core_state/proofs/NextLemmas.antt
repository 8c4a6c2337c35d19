-- Who has a need, and what is needed.
use Rattle.std.proofs.Common.{◌≡◌, ◌<◌, ◌≤◌, ◌++◌, Bool, true, false, List, Option, Some, None, Result, Ok, Err, IfOk, ℕ, length, refl, sym, ap, subst, ◌∙◌, arith}
use Rattle.std.specs.Option.{IfSome, option_map}
use Rattle.std.specs.FinMap.{find}
use Rattle.asp_model.specs.Chase.{Chase, Cycle, Unfilled, Value, chase}
use Rattle.asp_model.specs.Configuration.{Activity, RequestShape, requests_of}
use Rattle.asp_model.specs.Contraction.{first_future, strict_members, strict_operands}
use Rattle.asp_model.specs.History.{HistoryShape}
use Rattle.asp_model.specs.Intent as intent
use Rattle.asp_model.specs.Intent.{Acts, Intent}
use Rattle.asp_model.specs.Names.{FutureShape, Name, name_cmp, same_future}
use Rattle.asp_model.specs.Parcel.{ParcelShape}
use Rattle.asp_model.specs.Shapes.{future_shape}
use Rattle.asp_model.specs.Split as terms
use Rattle.asp_model.specs.Split.{Split, Splits, split}
use Rattle.asp_model.specs.Step.{name_at}
use Rattle.asp_model.specs.Store as store
use Rattle.asp_model.specs.Store.{CellShape, Store, cell}
use Rattle.def_journals.specs.Communications.{is_communication}
use Rattle.def_journals.specs.Deliveries.{value_needed, value_of}
use Rattle.def_journals.specs.Journals.{RunShape, grant_of}
use Rattle.def_journals.specs.Owed.{need_at, need_in, need_of, need_to, needed_at}
use Rattle.law_steps.specs.Closed.{IsClosed}
use Rattle.law_steps.proofs.NameLemmas.{is_there}
use Rattle.law_chases.proofs.FutureLemmas.{future_itself, no_some, none_true, some_is}
use Rattle.law_journals.specs.Entered.{IsIn}
use Rattle.code_table.specs.declared.code.Node.{Node}
use Rattle.future_table.specs.Values.{values_of}
use Rattle.step_reads.specs.Values.{AreClosedValues}
use Rattle.core_ranks.specs.Numbers.{has_number}
use Rattle.core_ranks.specs.Ranks.{has_need}
use Rattle.core_seats.specs.Seats.{In, IsTaken, seat_at, seats_in}
use Rattle.step_activity.specs.declared.actor.Actor.{Actor}
use Rattle.step_activity.specs.Actors.{IsClosedFor, Stands}
use Rattle.step_activity.specs.Stances as stances
use Rattle.step_activity.specs.Stances.{stance_by, stance_of}
use Rattle.law_core.specs.Runs.{rank_named, rank_of_number, rank_unless_out}
use Rattle.law_core.proofs.RankLemmas.{ranks_tell}
use Rattle.law_core.specs.Owed.{IsNeed}
use Rattle.core_state.specs.declared.state.CoreState.{CoreState}
use Rattle.core_state.specs.Cores.{IsCore, IsHere}
use Rattle.core_state.proofs.LendLemmas.{is_here}
use Rattle.core_state.proofs.ListLemmas.{got_within}
use Rattle.core_state.specs.declared.next.Needed.{Needed}
use Rattle.core_state.specs.Deliveries.{IsNeeded, IsSomeNeed}
use Rattle.core_state.specs.Next.{IsNextNeed, need_shape, need_told}

-- Who has a need

-- an activity that is in has this need
pub record Owing (s : RunShape) (k : ℕ) : Type 0 where
  pub name : Name
  pub activity : Activity
  pub here : IsIn s k name activity
  pub need : FutureShape × ℕ
  pub is : need_of (chase s.configuration.futures) activity ≡ Some need

abbrev need_by : RunShape → Option Activity → Option (FutureShape × ℕ)
need_by s o = elim o [ None ↦ None | Some a ↦ need_of (chase s.configuration.futures) a ]

owing_by : (s : RunShape) (k : ℕ) (n : Name) → name_at s.names k ≡ Some n → grant_of k s.out ≡ None → (o : Option Activity) → find name_cmp n s.configuration.activities ≡ o → (need : FutureShape × ℕ) → need_by s o ≡ Some need → Owing s k
owing_by s k n named free None at need is = no_some is
owing_by s k n named free (Some a) at need is = record { name = n; activity = a; here = record { named = named; free = free; there = at }; need = need; is = is }

by_grant : (s : RunShape) (k : ℕ) (n : Name) → name_at s.names k ≡ Some n → (o : Option ℕ) → grant_of k s.out ≡ o → has_need (rank_unless_out s n o) ≡ true → Owing s k
by_grant s k n named None free has =
    let need = is_there (need_to s.configuration n) (sym (ranks_tell s.configuration n).needy ∙ has) in
    owing_by s k n named free (find name_cmp n s.configuration.activities) refl need.0 need.1
by_grant s k n named (Some grant) free has = none_true has

by_name : (s : RunShape) (k : ℕ) (o : Option Name) → name_at s.names k ≡ o → has_need (rank_named s k o) ≡ true → Owing s k
by_name s k None named has = none_true has
by_name s k (Some n) named has = by_grant s k n named (grant_of k s.out) refl has

pub owing : (s : RunShape) (k : ℕ) → has_need (rank_of_number s k) ≡ true → Owing s k
owing s k has = by_name s k (name_at s.names k) refl has

pub is_need : (s : RunShape) (k : ℕ) (o : Owing s k) → IsNeed s k o.name o.need
is_need s k o = record { named = o.here.named; free = o.here.free; need = ap (need_by s) o.here.there ∙ o.is }

-- What is needed

value_at : (chases : FutureShape → Chase) (g : FutureShape) (d : Chase) → chases g ≡ d → (q : ℕ) (need : FutureShape × ℕ) → needed_at d q ≡ Some need → (p : ParcelShape) × (value_of need.0 (chases g) ≡ Some p) × (q ≡ need.1)
value_at chases g (Value f p) is q need e = (
  p,
  ap (value_of need.0) is ∙ ap (λ (h : FutureShape). elim (same_future need.0 h) [ true ↦ Some p | false ↦ None ]) (ap (λ (z : FutureShape × ℕ). z.0) (some_is e)) ∙ ap (λ (b : Bool). elim b [ true ↦ Some p | false ↦ None ]) (future_itself need.0),
  ap (λ (z : FutureShape × ℕ). z.1) (some_is e),
)
value_at chases g (Unfilled f) is q need e = no_some e
value_at chases g (Cycle f) is q need e = no_some e

module _ (chases : FutureShape → Chase) (s : Store) (need : FutureShape × ℕ) where
  in_cell : (q : ℕ) (c : CellShape) → cell s q ≡ c → need_in chases q c ≡ Some need → (p : ParcelShape) × (value_needed chases need.0 (cell s need.1) ≡ Some p)
  in_cell q (store.Future g) at e =
      let v = value_at chases g (chases g) refl q need e in
      (v.0, ap (λ n. value_needed chases need.0 (cell s n)) (sym v.2) ∙ ap (value_needed chases need.0) at ∙ v.1)
  in_cell q (store.Number z) at e = no_some e
  in_cell q (store.Object fields methods) at e = no_some e
  in_cell q (store.Reference n) at e = no_some e
  in_cell q (store.Group ns) at e = no_some e

  at_first : (o : Option ℕ) → need_at chases s o ≡ Some need → (p : ParcelShape) × (value_needed chases need.0 (cell s need.1) ≡ Some p)
  at_first None e = no_some e
  at_first (Some q) e = in_cell q (cell s q) refl e

  at_split : (x : Split) → elim x [ terms.Stands place ↦ None | Splits contexts r ↦ need_at chases s (first_future s (strict_operands r.head r.places ++ strict_members s r.head r.places)) ] ≡ Some need → (p : ParcelShape) × (value_needed chases need.0 (cell s need.1) ≡ Some p)
  at_split (terms.Stands place) e = no_some e
  at_split (Splits contexts r) e = at_first (first_future s (strict_operands r.head r.places ++ strict_members s r.head r.places)) e

-- what is owed is there, and may be delivered
pub is_needed : (s : RunShape) (k : ℕ) (o : Owing s k) → IsNeeded s k o.need.1 o.need.0
is_needed s k o =
    let v = at_split (chase s.configuration.futures) o.activity.store o.need (split o.activity.term) o.is in
    record { name = o.name; activity = o.activity; here = o.here; value = v.0; needed = v.1 }

pub needed_name : (s : RunShape) (k : ℕ) (o : Owing s k) → (is_needed s k o).name ≡ o.name
unfolding is_needed
needed_name s k o = refl

-- a stance tells the need
told_by : (o : Option (FutureShape × ℕ)) (b : Bool) (p : Intent) → need_told (elim o [ Some x ↦ stances.Needs x.0 x.1 | None ↦ stance_by b p ]) ≡ o
told_by (Some x) b p = refl
told_by None b (Acts e) = refl
told_by None b (intent.Rests status) = refl

need_stands : (chases : FutureShape → Chase) (rs : List RequestShape) (n : Name) (a : Activity) → need_told (stance_of chases rs n a) ≡ need_of chases a
need_stands chases rs n a = told_by (need_of chases a) (is_communication chases a) (intent.intent chases rs n a)

-- What the call sees

module _ (h : HistoryShape) (code : List Node) (x : CoreState) (s : RunShape) (core : IsCore h code x s) where
  pub none_needed : ((k : ℕ) → has_number k x.ranks.needy.keys ≡ false) → IsNextNeed s None
  none_needed none = λ k. sym (core.ranks k).needy ∙ none k

  module _ (k : ℕ) (needy : has_number k x.ranks.needy.keys ≡ true) where
    abbrev pub owed : Owing s k
    owed = owing s k (sym (core.ranks k).needy ∙ needy)

    abbrev pub received : List RequestShape
    received = requests_of s.configuration owed.name

    abbrev here : (a : Actor) × (seat_at x.seats k ≡ Some (In a)) × IsHere code s k owed.name a
    here = is_here h code x s core k owed.name owed.here.named owed.here.free

    is_taken : (r : Option Actor) → IsTaken (seat_at x.seats k) r → r ≡ Some here.0
    is_taken r taken = subst (λ seat. IsTaken seat r) here.1 taken

    pub somebody_there : IsTaken (seat_at x.seats k) None → ⊥
    somebody_there taken = no_some (is_taken None taken)

    pub known : k < length (seats_in x.seats)
    known = got_within (seats_in x.seats) k (In here.0) here.1

    closed : IsClosed s.configuration
    closed = core.whole.closed

    pub values_closed : AreClosedValues (values_of x.futures)
    values_closed = subst AreClosedValues (sym core.populated.futures) closed.values

    pub stood : (a : Actor) → IsTaken (seat_at x.seats k) (Some a) → Stands a owed.activity received
    stood a taken = subst (λ y. Stands y owed.activity received) (sym (some_is (is_taken (Some a) taken))) (subst (λ c. Stands here.0 c received) (some_is (sym here.2.there ∙ owed.here.there)) here.2.stands)

    pub looked_closed : (a : Actor) → IsTaken (seat_at x.seats k) (Some a) → IsClosedFor a
    looked_closed a taken = record {
      activity = owed.activity;
      received = received;
      stands = stood a taken;
      closed = closed.activities owed.name owed.activity owed.here.there;
      arguments = closed.arguments owed.name;
    }

    pub told_need : need_told (stance_of (chase (values_of x.futures)) received owed.name owed.activity) ≡ Some owed.need
    told_need = need_stands (chase (values_of x.futures)) received owed.name owed.activity ∙ ap (λ values. need_of (chase values) owed.activity) core.populated.futures ∙ owed.is

    module _ {E : Type 0} (r : Result (Option Needed) E) (told : Option (FutureShape × ℕ)) (is : told ≡ Some owed.need) where
      pub next_found : IfOk r (λ z. option_map need_shape z ≡ told) → IfOk r (λ z. IfSome z (λ y. y.number ≡ k)) → ((j : ℕ) → has_number j x.ranks.needy.keys ≡ true → k ≤ j) → IfOk r (IsNextNeed s)
      next_found shown numbered least = by r shown numbered
        where
          before : (j : ℕ) → j < k → (b : Bool) → has_number j x.ranks.needy.keys ≡ b → b ≡ false
          before j lt true has = absurd (omega (arith, lt, least j has))
          before j lt false has = refl

          by : (r : Result (Option Needed) E) → IfOk r (λ z. option_map need_shape z ≡ told) → IfOk r (λ z. IfSome z (λ y. y.number ≡ k)) → IfOk r (IsNextNeed s)
          by (Ok None) shown numbered = no_some (shown ∙ is)
          by (Ok (Some y)) shown numbered = (
            owed.name,
            subst (λ i. IsNeed s i owed.name (need_shape y)) (sym numbered) (subst (IsNeed s k owed.name) (sym (some_is (shown ∙ is))) (is_need s k owed)),
            λ j lt. sym (core.ranks j).needy ∙ before j (subst (λ i. j < i) numbered lt) (has_number j x.ranks.needy.keys) refl,
          )
          by (Err e) shown numbered = tt

      pub owed_found : IfOk r (λ z. option_map need_shape z ≡ told) → IfOk r (λ z. IfSome z (λ y. y.number ≡ k)) → IfOk r (λ z. IfSome z (λ y. IsSomeNeed x y.number y.loc (future_shape y.future)))
      owed_found shown numbered = by r shown numbered
        where
          by : (r : Result (Option Needed) E) → IfOk r (λ z. option_map need_shape z ≡ told) → IfOk r (λ z. IfSome z (λ y. y.number ≡ k)) → IfOk r (λ z. IfSome z (λ y. IsSomeNeed x y.number y.loc (future_shape y.future)))
          by (Ok None) shown numbered = tt
          by (Ok (Some y)) shown numbered = (
            h,
            code,
            s,
            core,
            subst (λ i. IsNeeded s i y.loc (future_shape y.future)) (sym numbered) (subst (λ (z : FutureShape × ℕ). IsNeeded s k z.1 z.0) (sym (some_is (shown ∙ is))) (is_needed s k owed)),
          )
          by (Err e) shown numbered = tt
