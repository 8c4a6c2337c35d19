-- Names by their numbers in a list.
use Rattle.std.specs.Prelude.{◌≡◌, ◌≢◌, ◌<◌, ◌^◌, ◌++◌, ◌∷◌, [], ℕ, List, Some, None, length, slice_get}
use Rattle.asp_model.specs.Names.{Name}
use Rattle.def_journals.specs.Journals.{number_of}

-- each name has the number of its place, and the numbers are 32 bits long
pub record IsRoster (ns : List Name) : Type 0 where
  pub numbers : (k : ℕ) (n : Name) → slice_get ns k ≡ Some n → number_of n ns ≡ Some k
  pub few : length ns < 2 ^ 32

-- the names of these numbers are so in the other list too
abbrev pub Leads : List Name → List Name → Type 0
Leads ms ns = (k : ℕ) (n : Name) → slice_get ms k ≡ Some n → slice_get ns k ≡ Some n

-- the name has this number then: it is the last, unless it was there; and the other names are as they were
pub record IsEntered (n : Name) (k : ℕ) (old new : List Name) : Type 0 where
  pub number : number_of n new ≡ Some k
  pub others : (m : Name) → m ≢ n → number_of m new ≡ number_of m old
  pub before : (m : Name) (j : ℕ) → number_of m old ≡ Some j → number_of m new ≡ Some j
  pub leads : Leads old new
  pub last : number_of n old ≡ None → new ≡ old ++ n ∷ []
