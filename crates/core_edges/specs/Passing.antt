-- Futures that are passed on.
use Rattle.std.specs.Prelude.{◌≡◌, List, [], ◌∷◌, Some}
use Rattle.std.specs.List.{flat_map}
use Rattle.asp_model.specs.Names.{Name, FutureShape}
use Rattle.code_table.specs.Cells.{CodedCell, CodedStore, Future}
use Rattle.asp_model.specs.Configuration.{RequestShape}
use Rattle.def_journals.specs.Edges.{HoldersShape, after_events, home_of, with_edges, with_held}
use Rattle.def_journals.specs.Passing.{sent_events}
use Rattle.core_edges.specs.declared.edges.Edges.{Edges}
use Rattle.core_edges.specs.Answers.{Answering, AreAnswered, Counting}
use Rattle.core_edges.specs.Strategies.{IsLearned, KeepsOthers, strategy_in}

-- the futures that cells hold, whatever code their objects are of
abbrev pub future_held : CodedCell → List FutureShape
future_held (Future f) = f ∷ []
future_held c = []

abbrev pub futures_held : CodedStore → List FutureShape
futures_held = flat_map future_held

abbrev pub one_future : FutureShape → List FutureShape
one_future f = f ∷ []

-- each of these futures went from one activity to another
abbrev pub with_passed : List FutureShape → (from to : Name) → HoldersShape → HoldersShape
with_passed fs from to h = record h { edges = with_edges fs from to h.edges }

pub record ArePassed {P : Type 0} (answers : Answering P) (counts : Counting P) (fs : List FutureShape) (from to : Name) (old new : Edges P) : Type 0 where
  pub holders : new.holders.holders ≡ with_passed fs from to old.holders.holders
  pub answered : AreAnswered answers counts (strategy_in old) old new
  pub others : KeepsOthers old new

-- and these, which the value of a future holds, from its home
abbrev pub with_held_passed : FutureShape → List FutureShape → Name → HoldersShape → HoldersShape
with_held_passed f held to h = record h { edges = with_held held (home_of f h.homes) to h.edges }

pub record IsHeldPassed {P : Type 0} (answers : Answering P) (counts : Counting P) (f : FutureShape) (held : List FutureShape) (to : Name) (old new : Edges P) : Type 0 where
  pub holders : new.holders.holders ≡ with_held_passed f held to old.holders.holders
  pub answered : AreAnswered answers counts (strategy_in old) old new
  pub others : KeepsOthers old new

-- a request was sent to its home, and the strategy of its future is learned
pub record IsSent {P : Type 0} (answers : Answering P) (counts : Counting P) (by home : Name) (r : RequestShape) (old new : Edges P) : Type 0 where
  pub holders : new.holders.holders ≡ after_events (sent_events by (Some (home, r))) old.holders.holders
  pub answered : AreAnswered answers counts (strategy_in new) old new
  pub learned : IsLearned r.future r.label old new
  pub activities : new.holders.activities ≡ old.holders.activities
  pub plan : new.plan ≡ old.plan
