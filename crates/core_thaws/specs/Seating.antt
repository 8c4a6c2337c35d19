-- Activities that get their seats and their ranks, one after the other.
use Rattle.std.specs.Prelude.{◌≡◌, ◌≤◌, ◌++◌, ◌∷◌, [], ℕ, List, Some, length, map, slice_get}
use Rattle.std.specs.Global.{Box}
use Rattle.asp_model.specs.Configuration as model
use Rattle.asp_model.specs.Configuration.{RequestShape}
use Rattle.asp_model.specs.Names.{Name}
use Rattle.asp_model.specs.declared.name.FutureName.{FutureName}
use Rattle.code_table.specs.declared.cells.Parcel.{Parcel}
use Rattle.future_table.specs.Values.{values_of}
use Rattle.law_core.specs.Ranked.{rank_of}
use Rattle.core_ranks.specs.Ranks.{IsRanked, OthersStay, Rests}
use Rattle.core_seats.specs.Seats.{AreSeats, In, names_in, seats_in}
use Rattle.core_state.specs.Journal.{entries_in, room}
use Rattle.core_state.specs.declared.state.CoreState.{CoreState}
use Rattle.step_activity.specs.declared.actor.Actor.{Actor}
use Rattle.step_activity.specs.Actors.{Stands}

-- one more has the next seat, and its rank
pub record IsSeatedBy (n : Name) (a : Actor) (old new : CoreState) : Type 0 where
  pub kept : AreSeats new.seats
  pub names : names_in new.seats ≡ names_in old.seats ++ n ∷ []
  pub seats : seats_in new.seats ≡ seats_in old.seats ++ In a ∷ []
  pub here : (b : model.Activity) (rs : List RequestShape) → Stands a b rs
      → IsRanked new.ranks (length (seats_in old.seats)) (rank_of (values_of old.futures) rs n b)
  pub others : OthersStay (length (seats_in old.seats)) old.ranks new.ranks
  pub futures : new.futures ≡ old.futures
  pub journal : new.journal ≡ old.journal
  pub left : new.left ≡ old.left
  pub bursts : new.bursts ≡ old.bursts

-- these have their seats and ranks, in this order, and nobody else; there is room for so many entries
pub record AreSeated (filled : List (FutureName × Parcel)) (budget more : ℕ) (done : List (Name × Box Actor))
    (x : CoreState) : Type 0 where
  pub kept : AreSeats x.seats
  pub names : names_in x.seats ≡ map (λ e. e.0) done
  pub seats : seats_in x.seats ≡ map (λ e. In e.1.value) done
  pub ranked : (k : ℕ) (e : Name × Box Actor) (b : model.Activity) (rs : List RequestShape)
      → slice_get done k ≡ Some e → Stands e.1.value b rs → IsRanked x.ranks k (rank_of (values_of filled) rs e.0 b)
  pub rests : (k : ℕ) → length done ≤ k → IsRanked x.ranks k Rests
  pub futures : x.futures ≡ filled
  pub entries : entries_in x.journal ≡ []
  pub left : x.left ≡ budget
  pub bursts : x.bursts ≡ 0
  pub room : more ≤ room x.journal
