-- Values that a lease has read, each noted with how many contractions were before it; and a lease that is parted.
use Rattle.std.specs.Prelude.{◌≡◌, ◌≤◌, ◌-◌, ◌==◌, ℕ, suc, nat_lt, true, false, List, [], ◌∷◌, ◌++◌, map}
use Rattle.asp_model.specs.Configuration.{Activity}
use Rattle.law_peeks.specs.Needs.{Peek}
use Rattle.law_peeks.specs.Moves.{Contracts, IsMoved, LeaseMove, Peeks, bare, contractions, peeks, trailing}

-- where so many contractions were before the first
abbrev pub noted_from : ℕ → List LeaseMove → List (ℕ × Peek)
noted_from n [] = []
noted_from n (Contracts ∷ ms) = noted_from (suc n) ms
noted_from n (Peeks x ∷ ms) = (n, x) ∷ noted_from n ms

abbrev pub noted : List LeaseMove → List (ℕ × Peek)
noted ms = noted_from 0 ms

-- the values that are noted behind just so many
abbrev pub noted_at : ℕ → List (ℕ × Peek) → List Peek
noted_at n [] = []
noted_at n (y ∷ ys) = elim (y.0 == n) [ true ↦ y.1 ∷ noted_at n ys | false ↦ noted_at n ys ]

-- those that are noted behind so many at least, counted from there
abbrev pub noted_on : ℕ → List (ℕ × Peek) → List (ℕ × Peek)
noted_on n [] = []
noted_on n (y ∷ ys) = elim (nat_lt y.0 n) [ true ↦ noted_on n ys | false ↦ (y.0 - n, y.1) ∷ noted_on n ys ]

-- all that was read is noted, and what trails is noted behind all contractions
abbrev pub NotesTell : Type 0
NotesTell = (ms : List LeaseMove) → (peeks ms ≡ map (λ y. y.1) (noted ms))
    × (trailing ms ≡ noted_at (contractions ms) (noted ms))

-- contractions change no note, and a value is noted behind all of them
abbrev pub NotesGoOn : Type 0
NotesGoOn = (ms : List LeaseMove) → ((r : ℕ) → noted (ms ++ bare r) ≡ noted ms)
    × ((x : Peek) → noted (ms ++ Peeks x ∷ []) ≡ noted ms ++ (contractions ms, x) ∷ [])

-- moves up to their g-th contraction, and those behind it
pub record IsParted (ms : List LeaseMove) (a b : Activity) (g : ℕ) : Type 0 where
  pub first : List LeaseMove
  pub rest : List LeaseMove
  pub both : ms ≡ first ++ rest
  pub here : Activity
  pub before : IsMoved first a here
  pub behind : IsMoved rest here b
  pub count : contractions first ≡ g
  pub left : contractions rest ≡ contractions ms - g
  -- what is read behind the g-th contraction belongs to the rest
  pub ends : trailing first ≡ []
  pub notes : noted rest ≡ noted_on g (noted ms)

-- so can all moves be that have so many
abbrev pub MovesArePartable : Type 0
MovesArePartable = (ms : List LeaseMove) (a b : Activity) (g : ℕ) → IsMoved ms a b → g ≤ contractions ms
    → IsParted ms a b g
