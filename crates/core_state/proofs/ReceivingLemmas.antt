-- A delivery to an activity of a core that is in: what it finds there, and the core after it.
use Rattle.std.proofs.Common.{◌≡◌, ◌≢◌, ◌<◌, true, false, List, Option, Some, None, ℕ, length, slice_get, refl, sym, ap, subst, ◌∙◌}
use Rattle.std.specs.Arc.{arc_value}
use Rattle.std.specs.FinMap.{find}
use Rattle.std.specs.List.{Contains}
use Rattle.std.specs.Map.{values_of as parcels}
use Rattle.asp_model.specs.Configuration.{Activity, RequestShape, log_of, requests_of}
use Rattle.asp_model.specs.History.{Delivered, DeliveryShape, HistoryShape, with_entry}
use Rattle.asp_model.specs.Names.{FutureShape, Name, future_cmp, name_cmp}
use Rattle.asp_model.specs.Parcel.{ParcelShape}
use Rattle.asp_model.specs.Store.{Store}
use Rattle.law_steps.proofs.WholeLemmas.{moves_keep_closed}
use Rattle.def_journals.specs.Journals.{RunShape, entered}
use Rattle.law_steps.specs.Closed.{IsClosed, IsClosedValue}
use Rattle.law_steps.specs.Reached.{HasValue, Makes, Move}
use Rattle.law_chases.proofs.MapLemmas as Maps
use Rattle.law_steps.proofs.NameLemmas.{name_same, name_total}
use Rattle.law_chases.proofs.FutureLemmas.{no_some, none_true, some_is, true_false}
use Rattle.law_paths.specs.Whole.{IsWhole}
use Rattle.law_journals.specs.Entered.{IsIn, with_store_of}
use Rattle.code_table.specs.declared.code.Node.{Node}
use Rattle.code_table.specs.declared.cells.Parcel.{Parcel}
use Rattle.code_table.specs.Shapes.{parcel_shape}
use Rattle.code_table.proofs.CodedLemmas.{length-store_of}
use Rattle.future_table.specs.Values.{values_of}
use Rattle.step_reads.specs.Values.{AreClosedValues}
use Rattle.step_reads.proofs.FetchLemmas.{of_code}
use Rattle.core_ranks.specs.Ranks.{HasNeed, IsRanked, RankShape, has_need}
use Rattle.core_seats.specs.Seats.{In, IsTaken, names_in, seat_at, seats_in}
use Rattle.step_activity.specs.declared.actor.Actor.{Actor}
use Rattle.step_activity.specs.Actors.{IsClosedFor, Stands, code_of, log_in}
use Rattle.law_core.specs.Ranked.{rank_in, rank_of}
use Rattle.law_core.specs.Runs.{rank_named, rank_unless_out}
use Rattle.core_state.specs.declared.state.CoreState.{CoreState}
use Rattle.core_state.specs.Cores.{IsCore, IsHere}
use Rattle.core_state.proofs.ComeBackLemmas.{rank_written}
use Rattle.core_state.proofs.LendLemmas.{is_here}
use Rattle.core_state.proofs.ListLemmas.{got_within, name_got}
use Rattle.core_state.specs.Deliveries.{looked_at}
use Rattle.core_state.proofs.DeliveryLemmas.{Delivers, delivered_core}

-- A look

pub is_needy : (x : RankShape) → has_need x ≡ true → x ≡ HasNeed
is_needy HasNeed e = refl
is_needy x e = none_true e

pub not_looked : (x told : RankShape) → has_need x ≡ false → looked_at x told ≡ x
not_looked HasNeed told e = none_true (sym e)
not_looked x told e = refl

-- a look where a value was owed, and nothing new elsewhere
looked_is : (x told : RankShape) → (x ≢ HasNeed → told ≡ x) → looked_at x told ≡ told
looked_is HasNeed told same = refl
looked_is x told same = sym (same (λ e. true_false (has_need x) (ap has_need e) refl))

-- a delivery that can be entered: to whom, whose value, and the store that it makes
pub record Receives (s : RunShape) (k : ℕ) (f : FutureShape) (d : DeliveryShape) : Type 0 where
  pub name : Name
  pub activity : Activity
  pub here : IsIn s k name activity
  pub value : ParcelShape
  pub has_value : HasValue s.configuration f value
  pub store : Store
  pub goes : entered (Delivered d) s ≡ Some (with_store_of s name activity store)
  pub move : Move
  pub made : Makes move s.configuration (with_store_of s name activity store).configuration
  -- its rank changes only where a value was owed to it
  pub keeps : IsWhole s.configuration → rank_in s.configuration name ≢ HasNeed → rank_in (with_store_of s name activity store).configuration name ≡ rank_in s.configuration name

-- some history of this core allows it
pub record Owes (x : CoreState) (k : ℕ) (f : FutureShape) : Type 0 where
  pub history : HistoryShape
  pub code : List Node
  pub s : RunShape
  pub core : IsCore history code x s
  pub d : DeliveryShape
  pub r : Receives s k f d

-- who is taken, and the value that is found
pub record Sees (x : CoreState) (k : ℕ) (f : FutureShape) (a : Actor) (v : Parcel) : Type 0 where
  pub taken : IsTaken (seat_at x.seats k) (Some a)
  pub got : Some (parcel_shape v) ≡ find future_cmp f (values_of x.futures)
  pub held : Contains (parcels x.futures) v

module _ {x : CoreState} {k : ℕ} {f : FutureShape} (q : Owes x k f) where
  abbrev s : RunShape
  s = q.s

  abbrev n : Name
  n = q.r.name

  abbrev pub receiver : Activity
  receiver = q.r.activity

  abbrev t : RunShape
  t = with_store_of s n receiver q.r.store

  abbrev pub received : List RequestShape
  received = requests_of s.configuration n

  closed : IsClosed s.configuration
  closed = q.core.whole.closed

  -- What is found

  found : find future_cmp f (values_of x.futures) ≡ Some q.r.value
  found = ap (find future_cmp f) q.core.populated.futures ∙ q.r.has_value

  pub value_there : find future_cmp f (values_of x.futures) ≢ None
  value_there none = no_some (sym none ∙ found)

  pub values_closed : AreClosedValues (values_of x.futures)
  values_closed = subst AreClosedValues (sym q.core.populated.futures) closed.values

  abbrev here : (a : Actor) × (seat_at x.seats k ≡ Some (In a)) × IsHere q.code s k n a
  here = is_here q.history q.code x s q.core k n q.r.here.named q.r.here.free

  is_taken : (o : Option Actor) → IsTaken (seat_at x.seats k) o → o ≡ Some here.0
  is_taken o taken = subst (λ seat. IsTaken seat o) here.1 taken

  pub somebody_there : IsTaken (seat_at x.seats k) None → ⊥
  somebody_there taken = no_some (is_taken None taken)

  pub known : k < length (seats_in x.seats)
  known = got_within (seats_in x.seats) k (In here.0) here.1

  pub named_so : (m : Name) → slice_get (names_in x.seats) k ≡ Some m → m ≡ n
  named_so m is = some_is (sym is ∙ ap (λ ns. slice_get ns k) q.core.populated.names ∙ sym (name_got s.names k) ∙ q.r.here.named)

  pub ranked : IsRanked x.ranks k (rank_in s.configuration n)
  ranked = subst (IsRanked x.ranks k) (ap (rank_named s k) q.r.here.named ∙ ap (rank_unless_out s n) q.r.here.free) (q.core.ranks k)

  abbrev pub filled : Activity
  filled = record receiver { store = q.r.store }

  module _ {a : Actor} {v : Parcel} (z : Sees x k f a v) where
    same : a ≡ here.0
    same = some_is (is_taken (Some a) z.taken)

    same_value : parcel_shape v ≡ q.r.value
    same_value = some_is (z.got ∙ found)

    pub stood : Stands a receiver received
    stood = subst (λ y. Stands y receiver received) (sym same) (subst (λ c. Stands here.0 c received) (some_is (sym here.2.there ∙ q.r.here.there)) here.2.stands)

    pub its_code : code_of a ≡ q.code
    its_code = ap code_of same ∙ here.2.coded

    pub its_log : log_in a ≡ log_of s.configuration n
    its_log = ap log_in same ∙ here.2.logged

    pub in_its_store : (place : ℕ) → place < length receiver.store → place < length a.activity.state.store.cells
    in_its_store place within = subst (λ (l : ℕ). place < l) (ap length (sym stood.activity.state.store) ∙ length-store_of (arc_value a.activity.code) a.activity.state.store.cells) within

    pub value_closed : IsClosedValue (parcel_shape v)
    value_closed = subst IsClosedValue (sym same_value) (closed.values f q.r.value q.r.has_value)

    pub value_code : arc_value v.code ≡ code_of a
    value_code = of_code q.code x.futures v q.core.populated.values z.held ∙ sym its_code

    -- with the value it stands for the activity after
    pub stands_then : (y : Actor) (makes : ParcelShape → Store) → makes q.r.value ≡ q.r.store → Stands y (record receiver { store = makes (parcel_shape v) }) received → Stands y filled received
    stands_then y makes is h = subst (λ u. Stands y (record receiver { store = u }) received) (ap makes same_value ∙ is) h

  -- The core after

  closed_then : IsClosed t.configuration
  closed_then = moves_keep_closed q.r.move s.configuration t.configuration closed q.r.made

  pub filled_closed : (a : Actor) → Stands a filled received → IsClosedFor a
  filled_closed a stands = record {
    activity = filled;
    received = received;
    stands = stands;
    closed = closed_then.activities n filled (Maps.find_same name_cmp name_total name_same n filled s.configuration.activities);
    arguments = closed.arguments n;
  }

  abbrev pub rank_then : RankShape
  rank_then = looked_at (rank_in s.configuration n) (rank_of (values_of x.futures) received n filled)

  -- the rank after a look is that of the activity
  looked : rank_then ≡ rank_in t.configuration n
  looked =
      ap (λ values. looked_at (rank_in s.configuration n) (rank_of values received n filled)) q.core.populated.futures
      ∙ ap (looked_at (rank_in s.configuration n)) (sym (rank_written s.configuration n filled))
      ∙ looked_is (rank_in s.configuration n) (rank_in t.configuration n) (q.r.keeps q.core.whole)

  pub core_then : (y : CoreState) (a : Actor) → Stands a filled received → code_of a ≡ q.code → log_in a ≡ log_of s.configuration n → Delivers x y k q.d a rank_then → IsCore (with_entry q.history (Delivered q.d)) q.code y t
  core_then y a stands coded logged c = delivered_core q.history q.code x y s q.core k n receiver q.r.here q.r.store q.d q.r.goes a stands coded logged rank_then looked known c
