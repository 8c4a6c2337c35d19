-- What clauses read of a hub and of its seats.
use Rattle.std.specs.Prelude.{◌≡◌, ◌≢◌, ℕ, ◌<◌, List, [], All, length, Option, None, Some, MatchOption}
use Rattle.atomic_table.specs.Seated.{TableId}
use Rattle.atomic_table.specs.declared.shared.Seat.{Seat as Place}
use Rattle.atomic_table.specs.Table.{Me}
use Rattle.asp_model.specs.History.{HistoryShape, BeginsWith}
use Rattle.turn_hub.specs.declared.view.View.{View}
use Rattle.turn_hub.specs.declared.view.Opening.{Opening}
use Rattle.turn_hub.specs.declared.seat.Seat.{Seat}
use Rattle.turn_hub.specs.declared.hub.Hub.{Hub}
use Rattle.turn_hub.specs.Numbers.{own}
use Rattle.turn_hub.specs.Sharing.{Tells}

module _ {H : Type 0} where
  -- how many seats the hub was made for
  abbrev pub seats_of : Hub H → ℕ
  seats_of hub = hub.table.shared.key.seats

  -- the value that the hub was made with
  abbrev pub opened_with : Hub H → H
  opened_with hub = hub.table.shared.key.first.value

  -- the value that its hub was made with
  abbrev pub opened_by : Seat H → Option H
  opened_by seat = seat.place.me.0.opened

  -- the seat is of this table, which was opened so
  abbrev pub IsAt : TableId → Opening H → Seat H → Type 0
  IsAt table key seat = (seat.place.table_id ≡ table) × (seat.among ≡ key.seats) × (opened_by seat ≡ Some key.first.value)

  -- the seat is of this hub
  abbrev pub IsOf : Hub H → Seat H → Type 0
  IsOf hub seat = IsAt hub.table.shared.table_id hub.table.shared.key seat

  -- the history that the seat has seen
  abbrev pub seen_by : Seat H → HistoryShape
  seen_by seat = seat.place.me.0.seen

  -- the number and the burst of the lease that the seat has out, and how many grants are kept for it
  abbrev pub out_with : Seat H → Option (ℕ × ℕ × ℕ)
  out_with seat = seat.place.me.0.out

  -- the value as it was taken, where the seat has the turn
  abbrev pub taken_by : Seat H → Option H
  taken_by seat = seat.place.me.0.taken

  -- the seat has neither the turn nor anything out
  abbrev pub IsFree : Seat H → Type 0
  IsFree seat = (taken_by seat ≡ None) × (out_with seat ≡ None)

  -- the seat keeps its hub, its number and its parts
  abbrev pub IsSame : Seat H → Seat H → Type 0
  IsSame before after =
      (after.place.table_id ≡ before.place.table_id) × (after.among ≡ before.among) × (opened_by after ≡ opened_by before)
      × (after.number ≡ before.number) × (after.parts ≡ before.parts)

  -- the seat keeps what it has seen and what it has out
  abbrev pub KeepsView : Seat H → Seat H → Type 0
  KeepsView before after = (seen_by after ≡ seen_by before) × (out_with after ≡ out_with before)

  -- a free seat of the hub, with this number and so many parts
  abbrev pub IsNew : Hub H → Seat H → ℕ → ℕ → Type 0
  IsNew hub seat number parts = IsOf hub seat × (seat.number ≡ number) × (seat.parts ≡ parts) × IsFree seat

  -- the place keeps its table and its number there
  abbrev pub IsSamePlace : Place (Option H) (View H) → Place (Option H) (View H) → Type 0
  IsSamePlace before after = (after.table_id ≡ before.table_id) × (after.id ≡ before.id)

  -- the view has a number, and neither the turn nor the slot nor anything out
  abbrev pub IsIdle : Me (Option H) (View H) → Type 0
  IsIdle m = (m.1 ≡ []) × (m.0.taken ≡ None) × (m.0.out ≡ None) × (0 < length m.0.numbers)

  -- the history of the value begins with what each of the seats has seen
  abbrev pub AllKnown : (H → HistoryShape) → H → List (Seat H) → Type 0
  AllKnown history h seats = All (λ s. BeginsWith (history h) (seen_by s)) seats

  -- none of so many seats has anything out
  abbrev pub AllIn : (H → ℕ → Option (ℕ × ℕ × ℕ)) → H → ℕ → Type 0
  AllIn out value seats = (n : ℕ) → n < seats → out value n ≡ None

  module _ (history : H → HistoryShape) (out : H → ℕ → Option (ℕ × ℕ × ℕ)) where
    -- the history goes on from the value that was taken, and only what seat n has out may differ
    abbrev pub GoesOn : ℕ → H → H → Type 0
    GoesOn n old value = BeginsWith (history value) (history old) × ((k : ℕ) → k ≢ n → out value k ≡ out old k)

    -- the history of the value begins with all that the view was told
    abbrev pub Knows : H → View H → Type 0
    Knows h v = BeginsWith (history h) v.seen × Tells history out h v.told

    -- the view has the turn, and the value goes on from the one that was taken
    abbrev pub Releases : View H → H → Type 0
    Releases v value = MatchOption v.taken ⊥ (λ old. GoesOn (own v.numbers) old value)

    -- the seat has the turn, and the value goes on from the one that it took
    abbrev pub MayGive : Seat H → H → Type 0
    MayGive seat value = MatchOption (taken_by seat) ⊥ (λ old. GoesOn seat.number old value)
