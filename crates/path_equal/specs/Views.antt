-- Activities of a whole outcome by their names.
use Rattle.std.specs.Prelude.{◌≡◌, ℕ, true, List, map, Some, slice_get}
use Rattle.std.specs.FinMap.{is_sorted}
use Rattle.asp_model.specs.declared.outcome.ActivityReport.{ActivityReport}
use Rattle.asp_model.specs.Names.{Name, name_cmp}
use Rattle.asp_model.specs.Outcome.{counts_in}
use Rattle.asp_model.specs.Shapes.{activity_shape}
use Rattle.def_paths.specs.Outcomes.{EndShape, WholeOutcome, reported}
use Rattle.state_lines.specs.declared.state.State.{State}
use Rattle.state_lines.specs.Views.{IsSeenAs}

-- an activity of that name stands at this number
pub record IsNamedAt (rs : List ActivityReport) (name : Name) (n : ℕ) : Type 0 where
  pub report : ActivityReport
  pub there : slice_get rs n ≡ Some report
  pub named : report.name ≡ name

abbrev pub IsNowhere : List ActivityReport → Name → Type 0
IsNowhere rs name = (n : ℕ) (r : ActivityReport) → slice_get rs n ≡ Some r → r.name ≡ name → ⊥

abbrev pub NamesAscend : List ActivityReport → Type 0
NamesAscend rs = is_sorted name_cmp (map (λ r. (r.name, r.count)) (map activity_shape rs)) ≡ true

-- the state is that of an activity of this name
pub record IsNamed (o : WholeOutcome) (name : Name) (s : State) : Type 0 where
  pub number : ℕ
  pub end : EndShape
  pub there : slice_get o.ends number ≡ Some end
  pub named : end.report.name ≡ name
  pub seen : IsSeenAs o end s

-- no activity has this name
abbrev pub NoneNamed : WholeOutcome → Name → Type 0
NoneNamed o name = (n : ℕ) (e : EndShape) → slice_get o.ends n ≡ Some e → e.report.name ≡ name → ⊥

-- the activities stand in the order of their names, as those of a well-formed outcome do
abbrev pub AreAscending : WholeOutcome → Type 0
AreAscending o = is_sorted name_cmp (counts_in (reported o)) ≡ true
