-- The rule of a hub's table, and what each step tells.
use Rattle.std.specs.Prelude.{◌≡◌, ◌≢◌, ◌⊎◌, ℕ, ◌-◌, ◌<◌, List, [], ◌∷◌, ◌++◌, length, Option, Some, None, MatchOption}
use mathlib.Core.Option.{some, none}
use lib.ListN.{get_elem?}
use Rattle.atomic_table.specs.Table.{State, Me, Step}
use Rattle.asp_model.specs.History.{HistoryShape, BeginsWith, no_history}
use Rattle.turn_hub.specs.declared.view.View.{View}
use Rattle.turn_hub.specs.declared.view.Opening.{Opening}
use Rattle.turn_hub.specs.Numbers.{times, once_below, total, behind, own}

-- the value keeps what it has to of the one that the hub was made with
abbrev pub IsKept : {H : Type 0} → (H → H → Type 0) → Option H → H → Type 0
IsKept keeps opened h = MatchOption opened ⊥ (λ first. keeps first h)

module _ {H : Type 0} (history : H → HistoryShape) (out : H → ℕ → Option (ℕ × ℕ × ℕ)) where
  -- none of these seats has anything out
  abbrev pub NothingOut : H → List ℕ → Type 0
  NothingOut h [] = Unit {0}
  NothingOut h (n ∷ ns) = (out h n ≡ None) × NothingOut h ns

  -- the first of these seats has this out, and the others have nothing out
  abbrev pub HasOut : H → List ℕ → Option (ℕ × ℕ × ℕ) → Type 0
  HasOut h [] o = Unit {0}
  HasOut h (n ∷ ns) o = (out h n ≡ o) × NothingOut h ns

  -- the history of the value begins with each of these
  abbrev pub Tells : H → List HistoryShape → Type 0
  Tells h [] = Unit {0}
  Tells h (g ∷ gs) = BeginsWith (history h) g × Tells h gs

  -- what a seat's view says is true of the value
  pub record Covers (h : H) (v : View H) : Type 0 where
    pub later : BeginsWith (history h) v.seen
    pub told : Tells h v.told
    pub has_out : HasOut h v.numbers v.out

  -- the value is at home, and nobody has the turn
  pub record IsHome (h : H) (s : State (Option H) (View H)) : Type 0 where
    pub word : s.words ≡ 0 ∷ []
    pub slot : s.homes ≡ some (Some h) ∷ []
    pub idle : (j : ℕ) (v : View H) → get_elem? s.views j ≡ some v → v.taken ≡ None

  -- one seat has the turn and took this value, and no other seat has the turn
  pub record IsAway (h : H) (s : State (Option H) (View H)) : Type 0 where
    pub mark : ℕ
    pub marked : 0 < mark
    pub word : s.words ≡ mark ∷ []
    pub slot : s.homes ≡ none ∷ []
    pub owner : ℕ
    pub view : View H
    pub there : get_elem? s.views owner ≡ some view
    pub live : 0 < length view.numbers
    pub took : view.taken ≡ Some h
    pub idle : (j : ℕ) (v : View H) → get_elem? s.views j ≡ some v → j ≢ owner → v.taken ≡ None

  -- the rule, for a hub made with this value for so many seats: there is one value, at home or away, which keeps what it has to of the
  -- first one, and of which all views are true; each number stands once
  pub record IsShared (keeps : H → H → Type 0) (first : H) (seats : ℕ) (s : State (Option H) (View H)) : Type 0 where
    pub value : H
    pub place : IsHome value s ⊎ IsAway value s
    pub kept : keeps first value
    pub covers : (j : ℕ) (v : View H) → get_elem? s.views j ≡ some v → 0 < length v.numbers → Covers value v
    pub opened : (j : ℕ) (v : View H) → get_elem? s.views j ≡ some v → 0 < length v.numbers → v.opened ≡ Some first
    pub once : (n : ℕ) → total (λ (v : View H). times n v.numbers) s.views ≡ once_below seats n
    pub parts : total (λ (v : View H). length v.numbers) s.views ≡ seats

  -- the view of the first seat, which has all numbers
  abbrev pub first_view : Opening H → View H
  first_view key = record { numbers = 0 ∷ behind 0 (key.seats - 1); seen = history key.first.value; told = []; out = None; taken = None; opened = Some key.first.value }

  -- the turn is got, and with it the value, of which the view is true
  abbrev pub Gets : (H → H → Type 0) → Me (Option H) (View H) → Me (Option H) (View H) → Type 0
  Gets keeps m w = (h : H) × (w ≡ (record m.0 { taken = Some h }, (0, Some h) ∷ m.1)) × Covers h m.0 × IsKept keeps m.0.opened h

  -- where the word was 0 the turn is got, and else nothing changes
  abbrev pub tried : (H → H → Type 0) → Step (Option H) → Me (Option H) (View H) → ℕ → Me (Option H) (View H) → Type 0
  tried keeps st m n w = (n ≡ 0 → Gets keeps m w) × (n ≢ 0 → w ≡ m)

  -- the view after a value was given back
  abbrev pub settled : View H → H → View H
  settled v h = record v { seen = history h; out = out h (own v.numbers); taken = None }

  -- the turn is given up, and the value with it
  abbrev pub released : Step (Option H) → Me (Option H) (View H) → ℕ → Me (Option H) (View H) → Type 0
  released st m n w = (h : H) → m.1 ≡ (0, Some h) ∷ [] → w ≡ (settled m.0 h, [])

-- the numbers without the one that a new seat gets, which is the second
abbrev pub kept_numbers : List ℕ → List ℕ
kept_numbers [] = []
kept_numbers (n ∷ []) = n ∷ []
kept_numbers (n ∷ k ∷ ns) = n ∷ ns

-- the number that a new seat gets
abbrev pub cut_numbers : List ℕ → List ℕ
cut_numbers [] = []
cut_numbers (n ∷ []) = []
cut_numbers (n ∷ k ∷ ns) = k ∷ []

module _ {H : Type 0} where
  -- what a seat keeps when it is split
  abbrev pub kept_view : View H → View H
  kept_view v = record v { numbers = kept_numbers v.numbers }

  -- the view of the seat that is split off
  abbrev pub cut_view : View H → View H
  cut_view v = record { numbers = cut_numbers v.numbers; seen = v.seen; told = []; out = None; taken = None; opened = v.opened }

  -- the view of a seat that took in another
  abbrev pub joined_view : View H → View H → View H
  joined_view v w = record v { numbers = v.numbers ++ w.numbers; told = v.told ++ w.seen ∷ w.told }

  -- what is left of the other
  abbrev pub spent_view : View H
  spent_view = record { numbers = []; seen = no_history; told = []; out = None; taken = None; opened = None }

-- what a seat carries between its take and its give: the empty slot
abbrev pub carried : {H : Type 0} → Option H → List (ℕ × Option H)
carried None = []
carried (Some h) = (0, None) ∷ []
