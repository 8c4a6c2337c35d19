-- A value that is put where it is needed, before the step that needs it: that step is the same then.
use Rattle.std.specs.Prelude.{◌≡◌, ◌<◌, ℕ, false, List, ◌∷◌, Option, Some, length}
use Rattle.asp_model.specs.Names.{FutureShape, Name}
use Rattle.asp_model.specs.Split.{Context, Redex, Splits, split}
use Rattle.asp_model.specs.Store.{Store, Future, cell}
use Rattle.asp_model.specs.Parcel.{ParcelShape, unpack_at}
use Rattle.asp_model.specs.Contraction.{Needs, contract, is_future}
use Rattle.asp_model.specs.Chase.{Chase, Value}
use Rattle.asp_model.specs.Configuration.{Activity, Configuration, RequestShape}
use Rattle.asp_model.specs.Intent.{intent, redex_ready}
use Rattle.asp_model.specs.Step.{ListsShape, intent_in, step}
use Rattle.def_journals.specs.Communications.{communicates_next, is_communication}
use Rattle.def_journals.specs.Deliveries.{need_delivered}
use Rattle.def_journals.specs.Owed.{need_to}
use Rattle.def_journals.specs.Passing.{read_in, redex_read, unpacked_by}
use Rattle.law_steps.specs.Closed.{AreBelow, IsClosedActivity, IsClosedStore}
use Rattle.law_paths.specs.Whole.{IsWhole}

-- a value that is put at a place, and the future whose own value it is
pub record Peek : Type 0 where
  pub future : FutureShape
  pub place : ℕ
  pub value : ParcelShape

-- the redex needs a value at the place, where the future leads to this one, which is its future's own
pub record IsNeeded (chases : FutureShape → Chase) (s : Store) (r : Redex) (x : Peek) : Type 0 where
  pub needs : contract s r ≡ Needs x.place
  pub held : FutureShape
  pub holds : cell s x.place ≡ Future held
  pub leads : chases held ≡ Value x.future x.value
  -- the value has a root, which is no future
  pub some : 0 < length x.value.cells
  pub root : is_future (cell x.value.cells 0) ≡ false

-- the redex is read into the same store; what is unpacked over s is this value, and then what is unpacked over t
pub record IsReadAlike (chases : FutureShape → Chase) (s t : Store) (r : Redex) (x : Peek) : Type 0 where
  pub ready : redex_ready chases t r ≡ redex_ready chases s r
  pub unpacked : redex_read chases s r ≡ (x.future, x.value) ∷ redex_read chases t r

-- so it is where t is s with the value in its place
abbrev pub NeedsKeepReadings : Type 0
NeedsKeepReadings = (chases : FutureShape → Chase) (s : Store) (r : Redex) (x : Peek)
    → IsClosedStore s → AreBelow (length s) r.places → IsNeeded chases s r x
    → IsReadAlike chases s (unpack_at s x.place x.value) r x

-- the activity with the value in its place
abbrev pub with_peek : Activity → Peek → Activity
with_peek a x = record a { store = unpack_at a.store x.place x.value }

-- b intends what a intends, a communication or another reduction, with one value less to unpack
pub record IntendsAlike (chases : FutureShape → Chase) (n : Name) (a b : Activity) (x : Peek) : Type 0 where
  pub intent : (requests : List RequestShape) → intent chases requests n b ≡ intent chases requests n a
  pub asks : is_communication chases b ≡ is_communication chases a
  pub unpacked : unpacked_by chases a ≡ (x.future, x.value) ∷ unpacked_by chases b

-- so does a closed activity with the value that its redex needs
abbrev pub NeedsKeepIntents : Type 0
NeedsKeepIntents = (chases : FutureShape → Chase) (n : Name) (a : Activity) (contexts : List Context) (r : Redex)
    (x : Peek) → IsClosedActivity a → split a.term ≡ Splits contexts r → IsNeeded chases a.store r x
    → IntendsAlike chases n a (with_peek a x) x

-- the next step of an activity in d leads where it leads in c, with one value less to unpack
pub record GoesAlike (c d : Configuration) (n : Name) (x : Peek) : Type 0 where
  pub intent : intent_in d n ≡ intent_in c n
  pub steps : (lists : Option ListsShape) → step lists d n ≡ step lists c n
  pub communicates : communicates_next d n ≡ communicates_next c n
  pub unpacked : read_in c n ≡ (x.future, x.value) ∷ read_in d n

-- so it is where d is c after the delivery of what the activity needs
abbrev pub NeedsKeepSteps : Type 0
NeedsKeepSteps = (c d : Configuration) (n : Name) (f : FutureShape) (place : ℕ) → IsWhole c
    → need_to c n ≡ Some (f, place) → need_delivered c f n place ≡ Some d
    → (p : ParcelShape) × GoesAlike c d n (record { future = f; place = place; value = p })
