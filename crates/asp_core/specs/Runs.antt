-- Activities and edges that stand for the run of one history.
use Rattle.std.specs.Prelude.{◌≡◌, ℕ, suc, Bool, false, List, Option, Some, None, length, is_some, map}
use Rattle.asp_model.specs.History.{HistoryShape}
use Rattle.asp_model.specs.Intent.{Effect}
use Rattle.asp_model.specs.Names.{Name}
use Rattle.asp_model.specs.Step.{name_at}
use Rattle.def_journals.specs.Journals.{RunShape, grant_of}
use Rattle.def_journals.specs.Passing.{holders_of}
use Rattle.code_table.specs.declared.code.Node.{Node}
use Rattle.future_update.specs.Holders.{HoldersView, is_out}
use Rattle.core_state.specs.declared.state.CoreState.{CoreState}
use Rattle.core_state.specs.Cores.{IsCore}
use Rattle.core_thaws.specs.Holders.{SameHolders}

-- who comes to be met, in
abbrev pub as_met : List Name → List (Name × Bool)
as_met = map (λ n. (n, false))

-- who is out by the edges is out in the run
abbrev pub AreToldOut : RunShape → List (Name × Bool) → Type 0
AreToldOut s activities = (k : ℕ) (n : Name) → name_at s.names k ≡ Some n → is_out n activities ≡ is_some (grant_of k s.out)

-- the edges are those of a history, but for the order of homes, each with an answer, and tell who is out in its run
pub record AreEdgesOf (h : HistoryShape) (s : RunShape) (v : HoldersView) : Type 0 where
  pub holders : SameHolders v.holders (holders_of h)
  pub answers : length v.answers ≡ length v.holders.edges
  pub names : map (λ x. x.0) v.activities ≡ s.names
  pub out : AreToldOut s v.activities

-- both stand for its run
pub record Stand (h : HistoryShape) (code : List Node) (s : RunShape) (x : CoreState) (v : HoldersView) : Type 0 where
  pub core : IsCore h code x s
  pub edges : AreEdgesOf h s v

abbrev pub StandForSome : CoreState → HoldersView → Type 0
StandForSome x v = (h : HistoryShape) × (code : List Node) × (s : RunShape) × Stand h code s x v

-- the reductions of a commit: those that the lease took, and the communication where there is one
abbrev pub counted : ℕ → Option Effect → ℕ
counted taken None = taken
counted taken (Some e) = suc taken
