-- What the logs of a run say of all other runs of its program.
use Rattle.std.specs.Prelude.{◌≡◌, true, false, T, List, [], ◌∷◌, Option, Some, None}
use Rattle.std.specs.FinMap.{is_sorted}
use Rattle.std.specs.Ordering.{is_lt}
use Rattle.asp_model.specs.Names.{Name, name_cmp}
use Rattle.asp_model.specs.Outcome.{ActivityReportShape, OutcomeShape}
use Rattle.asp_model.specs.Status.{End, Blocked, Budget}
use Rattle.asp_model.specs.Replay.{log_in}
use Rattle.asp_model.specs.Step.{ListsShape}
use Rattle.law_steps.specs.Joins.{is_narrow}
use Rattle.determinacy.specs.declared.ruling.Ruling.{Ruling}
use Rattle.determinacy.specs.declared.ruling.Ruling.TheVariants as ruling

-- there is no other end, some log leaves it open, or there is no end
pub data RulingShape : Type 0 where
  Determinate : RulingShape
  Open : (name : Name) → RulingShape
  NotEnded : RulingShape

-- a ruling without its borrow
abbrev pub ruling_shape : Ruling → RulingShape
ruling_shape ruling.Determinate = Determinate
ruling_shape (ruling.Open n) = Open n.now
ruling_shape ruling.NotEnded = NotEnded

-- the first activity whose log has a poll or two senders
abbrev pub first_open : List ActivityReportShape → Option Name
first_open [] = None
first_open (a ∷ activities) = elim (is_narrow a.senders) [ true ↦ first_open activities | false ↦ Some a.name ]

-- open where there is one
abbrev pub ruled_by : Option Name → RulingShape
ruled_by None = Determinate
ruled_by (Some n) = Open n

-- the ruling on an outcome
abbrev pub ruled : OutcomeShape → RulingShape
ruled o = elim o.verdict [
  | End ↦ ruled_by (first_open o.activities)
  | Blocked ↦ ruled_by (first_open o.activities)
  | Budget ↦ NotEnded
]

-- strictly, as the names of an outcome do
abbrev pub LogsAscend : ListsShape → Type 0
LogsAscend lists = T (is_sorted name_cmp lists)

-- the least-named activity whose log has a poll or two senders
pub record IsLeastOpen (lists : ListsShape) (n : Name) : Type 0 where
  pub wide : is_narrow (log_in lists n) ≡ false
  pub least : (m : Name) → is_lt (name_cmp m n) ≡ true → is_narrow (log_in lists m) ≡ true
