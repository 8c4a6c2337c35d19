-- Names and seats by numbers.
use Rattle.std.specs.Prelude.{◌≡◌, ◌≢◌, ◌<◌, ◌^◌, ◌+◌, ◌∷◌, [], ℕ, Bool, true, false, List, Option, Some, None, length, map, slice_get, slice_set}
use Rattle.asp_model.specs.Names.{Name}
use Rattle.core_seats.specs.declared.seat.Seat.{Seat}
use Rattle.core_seats.specs.declared.seat.Seat.TheVariants as seat
use Rattle.core_seats.specs.declared.seats.Seats.{Seats}

-- as contracts see it: who is here, or what has come for one that is with a worker
pub data SeatShape (X R : Type 0) : Type 0 where
  In : (x : X) → SeatShape X R
  Out : (came : List R) → SeatShape X R

module _ {X R : Type 0} where
  abbrev pub seat_shape : Seat X R → SeatShape X R
  seat_shape (seat.In x) = In x.value
  seat_shape (seat.Out came) = Out came.items

  abbrev pub is_in : Option (SeatShape X R) → Bool
  is_in (Some (In x)) = true
  is_in (Some (Out came)) = false
  is_in None = false

  -- one that is with a worker counts
  abbrev pub out_by : SeatShape X R → ℕ
  out_by (In x) = 0
  out_by (Out came) = 1

  -- how many are with workers
  abbrev pub count_out : List (SeatShape X R) → ℕ
  count_out [] = 0
  count_out (x ∷ seats) = out_by x + count_out seats

  -- whoever was here is taken; nobody is where nobody was
  abbrev pub IsTaken : Option (SeatShape X R) → Option X → Type 0
  IsTaken (Some (In x)) o = o ≡ Some x
  IsTaken (Some (Out came)) o = o ≡ None
  IsTaken None o = o ≡ None

  -- this has come
  abbrev pub IsOut : Option (SeatShape X R) → List R → Type 0
  IsOut (Some (Out came)) rs = rs ≡ came
  IsOut (Some (In x)) rs = ⊥
  IsOut None rs = ⊥

module _ {X R : Type 0} where
  abbrev pub names_in : Seats X R → List Name
  names_in s = s.names.keys

  abbrev pub seats_in : Seats X R → List (SeatShape X R)
  seats_in s = map seat_shape s.seats.items

  abbrev pub seat_at : Seats X R → ℕ → Option (SeatShape X R)
  seat_at s k = slice_get (seats_in s) k

  -- an activity has this number
  abbrev pub IsKnown : ℕ → Seats X R → Type 0
  IsKnown k s = k < length (seats_in s)

  abbrev pub with_seat : List (SeatShape X R) → ℕ → SeatShape X R → List (SeatShape X R)
  with_seat = slice_set

  -- each has a name and a seat, the numbers are 32 bits long, and those that are out are counted
  pub record AreSeats (s : Seats X R) : Type 0 where
    pub same : length (names_in s) ≡ length (seats_in s)
    pub few : length (seats_in s) < 2 ^ 32
    pub counted : s.away ≡ count_out (seats_in s)

-- the number of a name, or nobody has it
abbrev pub IsFound : List Name → Name → Option ℕ → Type 0
IsFound ns n None = (k : ℕ) → slice_get ns k ≢ Some n
IsFound ns n (Some k) = slice_get ns k ≡ Some n
