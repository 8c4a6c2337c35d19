-- A future that passes three activities unread: the ten edges that it and the answers of the calls give.
use Rattle.std.specs.Prelude.{◌≡◌, ◌&&◌, Bool, true, false, List, [], ◌∷◌, ◌++◌, Some, None, map}
use Rattle.std.specs.List.{list_any}
use Rattle.asp_model.specs.Names.{Name, FutureShape, main_name}
use Rattle.asp_model.specs.Intent.{Done, Serving}
use Rattle.asp_model.specs.Status.{End}
use Rattle.asp_model.specs.History.{ChoiceShape, Forward, FromHome, Leave, Edge, EntryShape, HistoryShape, Delivered, program_history}
use Rattle.def_journals.specs.Journals.{RunShape, begun, entered}
use Rattle.def_journals.specs.Edges.{EdgeShape, HoldersShape, no_holders, after_events, is_owed}
use Rattle.def_journals.specs.Passing.{entry_events, holders_of}
use Rattle.worked_rows.specs.Reports.{created}
use Rattle.worked_rows.specs.Passing.{handing}
use Rattle.worked_rows.specs.Lending.{leases, sent_by, journal_shows}

abbrev pub edge : FutureShape → (from to : Name) → EdgeShape
edge f from to = record { future = f; from = from; to = to }

abbrev pub delivery : EdgeShape → EntryShape
delivery x = Delivered (Edge x.future x.from x.to)

-- a history of the program
abbrev pub handed : List EntryShape → HistoryShape
handed = program_history handing 1000

-- the answers of the calls of `slow`, `hand`, `pass` and `take`
abbrev pub slow : FutureShape
slow = sent_by main_name 1

abbrev pub hand : FutureShape
hand = sent_by main_name 2

abbrev pub pass : FutureShape
pass = sent_by (created 4) 1

abbrev pub take : FutureShape
take = sent_by (created 3) 1

-- all that is asked, and all that is answered but the call of `take`
abbrev pub until_taken : List EntryShape
until_taken = leases (
    (0, 2) ∷ (0, 3) ∷ (0, 3) ∷ (0, 3) ∷ (0, 3) ∷ (0, 1)
    ∷ (1, 2) ∷ (1, 4) ∷ (1, 3)
    ∷ (4, 2) ∷ (4, 2) ∷ (4, 1) ∷ (4, 3)
    ∷ (3, 2) ∷ (3, 2) ∷ (3, 1) ∷ (3, 3)
    ∷ (2, 2) ∷ (2, 2)
    ∷ [])

abbrev pub before_take : List EdgeShape
before_take = edge slow (created 1) main_name
    ∷ edge hand (created 4) main_name
    ∷ edge slow main_name (created 4)
    ∷ edge pass (created 3) (created 4)
    ∷ edge slow (created 4) (created 3)
    ∷ edge slow (created 3) (created 2)
    ∷ edge pass (created 4) main_name
    ∷ []

abbrev pub after_take : List EdgeShape
after_take = edge take (created 2) (created 3) ∷ edge take (created 3) (created 4) ∷ edge take (created 3) main_name ∷ []

-- with each value handed on as soon as it is there
abbrev pub handing_on : List EntryShape
handing_on = until_taken ++ (map delivery before_take ++ (leases ((2, 3) ∷ (2, 3) ∷ []) ++ map delivery after_take))

abbrev pub HandsOn : Type 0
HandsOn = journal_shows handing 1000 handing_on ≡ Some (record {
  counts = (main_name, 15) ∷ (created 1, 9) ∷ (created 2, 10) ∷ (created 3, 8) ∷ (created 4, 8) ∷ [];
  statuses = Done ∷ Serving ∷ Serving ∷ Serving ∷ Serving ∷ [];
  verdict = End;
  left = 950;
  out = [];
})

-- in the order in which they arise
abbrev pub HasTenEdges : Type 0
HasTenEdges = (holders_of (handed handing_on)).edges ≡ edge slow (created 1) main_name
    ∷ edge hand (created 4) main_name
    ∷ edge slow main_name (created 4)
    ∷ edge pass (created 3) (created 4)
    ∷ edge slow (created 4) (created 3)
    ∷ edge take (created 2) (created 3)
    ∷ edge slow (created 3) (created 2)
    ∷ edge pass (created 4) main_name
    ∷ edge take (created 3) (created 4)
    ∷ edge take (created 3) main_name
    ∷ []

abbrev pub DeliversAll : Type 0
DeliversAll = (holders_of (handed handing_on)).delivered ≡ before_take ++ after_take

-- Owed by an answer that each edge has

abbrev pub is_owed_entry : ChoiceShape → HoldersShape → EntryShape → Bool
is_owed_entry answer h (Delivered (Edge f from to)) = is_owed h answer (edge f from to)
is_owed_entry answer h x = true

-- each edge's delivery is owed when it comes
abbrev pub all_owed : ChoiceShape → List EntryShape → RunShape → HoldersShape → Bool
all_owed answer [] s h = true
all_owed answer (x ∷ xs) s h = is_owed_entry answer h x && elim (entered x s) [
  | None ↦ false
  | Some t ↦ all_owed answer xs t (after_events (entry_events x s) h)
]

abbrev pub owed_at_end : ChoiceShape → List EntryShape → Bool
owed_at_end answer journal = let h : HoldersShape = holders_of (handed journal) in list_any (is_owed h answer) h.edges

pub record OwedWhenDelivered : Type 0 where
  pub forward : all_owed Forward handing_on (begun handing 1000) no_holders ≡ true
  pub from_home : all_owed FromHome handing_on (begun handing 1000) no_holders ≡ true
  -- no more is owed then, and with the answer Leave nothing ever is
  pub no_more : owed_at_end Forward handing_on ≡ false
  pub not_one_less : owed_at_end Forward until_taken ≡ true
  pub left : owed_at_end Leave until_taken ≡ false

-- `take` reads what was delivered, and unpacks nothing itself
abbrev pub lazily : List EntryShape
lazily = until_taken ++ leases ((2, 3) ∷ (2, 3) ∷ [])

-- without deliveries it unpacks the value itself, and has received it
pub record ReadsItself : Type 0 where
  pub received : (holders_of (handed lazily)).received ≡ (slow, created 2) ∷ []
  pub delivered : (holders_of (handed lazily)).delivered ≡ []
