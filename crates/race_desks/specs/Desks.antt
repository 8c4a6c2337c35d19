-- What clauses read of a desk, and how its rows fit its core.
use Rattle.std.specs.Prelude.{◌≡◌, ℕ, List, false, vec_len}
use Rattle.asp_model.specs.History.{HistoryShape}
use Rattle.code_table.specs.declared.code.Node.{Node}
use Rattle.core_edges.specs.Answers.{Answering, Counting}
use Rattle.asp_core.specs.declared.cores.Core.{Core}
use Rattle.def_journals.specs.Journals.{RunShape}
use Rattle.asp_core.specs.Cores.{IsKept, IsRun, code_of, history_of}
use Rattle.asp_core.specs.Chosen.{StaysChosen}
use Rattle.asp_core.specs.Plans.{StayByPlan}
use Rattle.asp_core.specs.Stopping.{StaysStopped}
use Rattle.race_desks.specs.declared.desk.Desk.{Desk}
use Rattle.race_desks.specs.Rows.{AreApart, AreHeld, AreOut, AreReserved, Row, rounds_in, row}

module _ {P : Type 0} where
  abbrev pub core_at : Desk P → Core P
  core_at desk = desk.core

  abbrev pub history_at : Desk P → HistoryShape
  history_at desk = history_of (core_at desk)

  abbrev pub code_at : Desk P → List Node
  code_at desk = code_of (core_at desk)

  -- what a seat has out
  abbrev pub row_at : Desk P → ℕ → Row
  row_at desk seat = row desk.rows.items seat

  -- for how many seats it is
  abbrev pub seats_at : Desk P → ℕ
  seats_at desk = vec_len desk.rows

  -- the core is the run of its journal unless it is spent; what stands in the rows is out and apart; and while the
  -- core is not spent, all that is out stands there: no lease is lost
  pub record IsOrderly (desk : Desk P) : Type 0 where
    pub kept : IsKept (core_at desk)
    pub out : AreOut (history_at desk) desk.rows.items
    pub apart : AreApart desk.rows.items
    pub held : (s : RunShape) → IsRun (core_at desk) s → AreHeld s (seats_at desk) desk.rows.items
    -- and budget is kept for all grants that may follow
    pub counted : desk.reserved ≡ rounds_in desk.rows.items
    pub reserved : (s : RunShape) → IsRun (core_at desk) s → AreReserved s desk.rows.items

  -- what a core that is not spent keeps of an earlier one: that was not spent either, its edges are still answered by
  -- the same plan and policies, values still go along those edges alone for which they chose it, and each lease that
  -- came back had stopped
  pub record KeepsCore (answers : Answering P) (counts : Counting P) (old new : Core P) : Type 0 where
    pub fresh : old.spent ≡ false
    pub plan : StayByPlan answers counts old.edges new.edges
    pub chosen : StaysChosen old new
    pub stopped : StaysStopped (history_of old) (history_of new)

  abbrev pub KeepsUnlessSpent : Answering P → Counting P → (old new : Core P) → Type 0
  KeepsUnlessSpent answers counts old new = new.spent ≡ false → KeepsCore answers counts old new

  -- what a desk keeps of the first one: the code, for how many seats it is, and its core; and it is orderly
  pub record KeepsDesk (answers : Answering P) (counts : Counting P) (first desk : Desk P) : Type 0 where
    pub code : code_at desk ≡ code_at first
    pub seats : seats_at desk ≡ seats_at first
    pub core : KeepsUnlessSpent answers counts (core_at first) (core_at desk)
    pub orderly : IsOrderly desk
