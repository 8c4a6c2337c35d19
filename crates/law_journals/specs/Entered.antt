-- What lends and deliveries enter.
use Rattle.std.specs.Prelude.{◌≡◌, ◌<◌, ◌-◌, ◌∷◌, ℕ, true, Some, None}
use Rattle.asp_model.specs.Names.{Name, FutureShape}
use Rattle.asp_model.specs.Parcel.{ParcelShape, unpack_at}
use Rattle.asp_model.specs.Chase.{chase}
use Rattle.asp_model.specs.Configuration.{Activity}
use Rattle.asp_model.specs.Status.{is_running, status_of}
use Rattle.asp_model.specs.Step.{name_at}
use Rattle.asp_model.specs.Store.{Store, cell}
use Rattle.asp_model.specs.History.{Delivered, Edge, Lent, Need}
use Rattle.def_journals.specs.Deliveries.{holders_from, unpack_each, value_needed, with_store}
use Rattle.def_journals.specs.Journals.{RunShape, entered, grant_of, granted}
use Rattle.law_steps.specs.Reached.{HasValue, IsAt, IsThere}
use Rattle.law_journals.specs.Numbered.{AreNumbered}

-- the activity of a number is in, and this one
pub record IsIn (s : RunShape) (k : ℕ) (n : Name) (a : Activity) : Type 0 where
  pub named : name_at s.names k ≡ Some n
  pub free : grant_of k s.out ≡ None
  pub there : IsAt s.configuration n a

abbrev pub with_lease : RunShape → ℕ → RunShape
with_lease s k = record s { left = s.left - granted s; out = (k, granted s) ∷ s.out }

-- one that is in and can step goes out
abbrev pub LendsAreEntered : Type 0
LendsAreEntered = (s : RunShape) (k : ℕ) (n : Name) (a : Activity) → IsIn s k n a
    → is_running (status_of s.configuration n) ≡ true → 0 < s.left
    → entered (Lent k) s ≡ Some (with_lease s k)

-- the store of one activity is another
abbrev pub with_store_of : RunShape → Name → Activity → Store → RunShape
with_store_of s n a store = record s { configuration = with_store s.configuration n a store }

-- a value at each place of one that is in
abbrev pub EdgesAreEntered : Type 0
EdgesAreEntered = (s : RunShape) (k : ℕ) (f : FutureShape) (from to : Name) (a : Activity) (p : ParcelShape)
    → AreNumbered s → IsIn s k to a → IsThere s.configuration from → HasValue s.configuration f p
    → entered (Delivered (Edge f from to)) s
    ≡ Some (with_store_of s to a (unpack_each a.store (holders_from 0 f a.store) p))

-- a value where it is needed
abbrev pub NeedsAreEntered : Type 0
NeedsAreEntered = (s : RunShape) (k : ℕ) (f : FutureShape) (to : Name) (place : ℕ) (a : Activity) (p : ParcelShape)
    → AreNumbered s → IsIn s k to a
    → value_needed (chase s.configuration.futures) f (cell a.store place) ≡ Some p
    → entered (Delivered (Need f to place)) s ≡ Some (with_store_of s to a (unpack_at a.store place p))
