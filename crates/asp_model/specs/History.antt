-- Histories: what a run began with, and what came since. A history only grows.
use Rattle.std.specs.Prelude.{◌≡◌, ℕ, List, [], ◌∷◌, ◌++◌, Option, None}
use Rattle.std.specs.Coded.{codes}
use base.Stored.{Coded}
use Rattle.asp_model.specs.Names.{Name, FutureShape}
use Rattle.asp_model.specs.Term.{Tree, Hole, leaf}
use Rattle.asp_model.specs.Configuration.{Configuration}
use Rattle.asp_model.specs.Codes.{coded_tree, coded_configuration}

-- what is done for an activity that was passed a future
pub data ChoiceShape : Type 0 where
  -- its value comes from who passed the future, when that one has received it
  Forward : ChoiceShape
  -- its value comes from the future's home, when it is there
  FromHome : ChoiceShape
  -- its value comes when it is needed
  Leave : ChoiceShape

-- a value that goes to an activity
pub data DeliveryShape : Type 0 where
  -- to each place that holds the future
  Edge : (future : FutureShape) (from to : Name) → DeliveryShape
  -- to one place, where it is needed
  Need : (future : FutureShape) (to : Name) (place : ℕ) → DeliveryShape

-- one line of a journal; activities are numbered from 0, in the order of creation
pub data EntryShape : Type 0 where
  Lent : (number : ℕ) → EntryShape
  Committed : (number reductions : ℕ) → EntryShape
  Delivered : (delivery : DeliveryShape) → EntryShape

-- where a run begins that goes on: a configuration, and the names of its activities in the order of creation
pub record FirstShape : Type 0 where
  pub names : List Name
  pub configuration : Configuration

-- a program, where its run begins if it goes on, a budget, and the entries since
pub record HistoryShape : Type 0 where
  pub program : Tree
  pub first : Option FirstShape
  pub budget : ℕ
  pub entries : List EntryShape

-- of a run that begins with its program
abbrev pub program_history : Tree → ℕ → List EntryShape → HistoryShape
program_history program budget entries = record { program = program; first = None; budget = budget; entries = entries }

-- with one entry more
abbrev pub with_entry : HistoryShape → EntryShape → HistoryShape
with_entry h x = record h { entries = h.entries ++ x ∷ [] }

-- nothing begun
abbrev pub no_history : HistoryShape
no_history = program_history (leaf Hole) 0 []

-- codes of deliveries
pub coded_delivery : Coded DeliveryShape
coded_delivery = hlevel codes

-- codes of entries
pub coded_entry : Coded EntryShape
coded_entry = hlevel (codes, coded_delivery)

-- codes of what a run begins with that goes on
pub coded_first : Coded FirstShape
coded_first = hlevel (codes, coded_configuration)

-- codes of histories
pub history_coded : Coded HistoryShape
history_coded = hlevel (codes, coded_tree, coded_first, coded_entry)

-- the later one has the same start, and all entries of the earlier one in front
pub record BeginsWith (later earlier : HistoryShape) : Type 0 where
  pub program : later.program ≡ earlier.program
  pub first : later.first ≡ earlier.first
  pub budget : later.budget ≡ earlier.budget
  pub rest : List EntryShape
  pub entries : later.entries ≡ earlier.entries ++ rest
