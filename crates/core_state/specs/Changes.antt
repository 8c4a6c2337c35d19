-- What an effect changes for others, by their numbers, and what is so before their ranks are told of it.
use Rattle.std.specs.Prelude.{◌≡◌, ◌≢◌, ◌⊎◌, ◌++◌, ℕ, List, Some, None, length}
use Rattle.asp_model.specs.Configuration.{Activity, RequestShape}
use Rattle.asp_model.specs.History.{HistoryShape}
use Rattle.asp_model.specs.Intent.{Acts, Effect}
use Rattle.asp_model.specs.Names.{Name}
use Rattle.asp_model.specs.Parcel.{ParcelShape}
use Rattle.asp_model.specs.Step.{intent_in, name_at, with_effect}
use Rattle.def_journals.specs.Journals.{RunShape, first_in, out_but, run_of}
use Rattle.law_steps.specs.Sound.{IsSound}
use Rattle.law_journals.specs.Numbered.{AreNumbered, IsFirst}
use Rattle.law_paths.specs.Whole.{IsWhole}
use Rattle.law_core.specs.Commits.{made_by, with_activity}
use Rattle.code_table.specs.declared.code.Node.{Node}
use Rattle.code_table.specs.Cells.{held_future}
use Rattle.core_ranks.specs.declared.ranks.Ranks.{Ranks}
use Rattle.core_ranks.specs.Ranks.{IsRanked, RankShape, Goes, Rests}
use Rattle.law_core.specs.Runs.{rank_of_number}
use Rattle.core_state.specs.declared.state.CoreState.{CoreState}
use Rattle.core_state.specs.Cores.{AreRanked, IsPopulated}
use Rattle.core_state.specs.declared.change.Change.{Change}
use Rattle.core_state.specs.declared.change.Change.TheVariants as change

-- by the names before: who is made has the next number
abbrev pub IsChange : List Name → Effect → Change → Type 0
IsChange ns e change.Nothing = (e.sent ≡ None) × (e.made ≡ None) × (e.filled ≡ None)
IsChange ns e (change.Made k) = (m : Name) × (b : Activity) × (e.made ≡ Some (m, b)) × (k ≡ length ns) × (e.sent ≡ None) × (e.filled ≡ None)
IsChange ns e (change.Received k) = (m : Name) × (r : RequestShape) × (e.sent ≡ Some (m, r)) × (name_at ns k ≡ Some m) × (e.made ≡ None) × (e.filled ≡ None)
IsChange ns e (change.Filled f) = (v : ParcelShape) × (e.filled ≡ Some (held_future f, v)) × (e.sent ≡ None) × (e.made ≡ None)

-- the run after a reduction of an activity that comes in
abbrev pub acted : RunShape → ℕ → Name → Activity → Effect → ℕ → RunShape
acted s k n b e left = record {
  configuration = with_effect n e (with_activity n b s.configuration);
  names = s.names ++ made_by e.made;
  left = left;
  out = out_but k s.out;
}

-- the state stands for the run of a history, but for its ranks, and an activity has the number
pub record IsStanding (h : HistoryShape) (code : List Node) (x : CoreState) (t : RunShape) (k : ℕ) : Type 0 where
  pub first : IsFirst (first_in h)
  pub whole : IsWhole t.configuration
  pub run : run_of h ≡ Some t
  pub populated : IsPopulated h code x t
  pub name : Name
  pub named : name_at t.names k ≡ Some name

-- the same, of some history
abbrev pub IsSomeStanding : CoreState → ℕ → Type 0
IsSomeStanding x k = (h : HistoryShape) × (code : List Node) × (t : RunShape) × IsStanding h code x t k

-- others have what a reduction gave, and no rank is told of it
pub record IsChanged (h : HistoryShape) (code : List Node) (x : CoreState) (s : RunShape) (k : ℕ) (n : Name) (b : Activity) (e : Effect) (left : ℕ) (g : Change) : Type 0 where
  pub first : IsFirst (first_in h)
  -- before
  pub numbered : AreNumbered s
  pub named : name_at s.names k ≡ Some n
  pub out : rank_of_number s k ≡ Rests
  pub ranks : AreRanked x s
  pub sound : IsSound (with_activity n b s.configuration)
  pub intends : intent_in (with_activity n b s.configuration) n ≡ Acts e
  -- after
  pub whole : IsWhole (acted s k n b e left).configuration
  pub run : run_of h ≡ Some (acted s k n b e left)
  pub populated : IsPopulated h code x (acted s k n b e left)
  pub change : IsChange s.names e g

abbrev pub IsSomeChanged : CoreState → ℕ → Change → Type 0
IsSomeChanged x k g = (h : HistoryShape) × (code : List Node) × (s : RunShape) × (n : Name) × (b : Activity) × (e : Effect) × (left : ℕ) × IsChanged h code x s k n b e left g

-- all but one have their ranks, and that one has none
abbrev pub AreOthersRanked : Ranks → ℕ → RunShape → Type 0
AreOthersRanked r k t = IsRanked r k Rests × ((j : ℕ) → j ≢ k → IsRanked r j (rank_of_number t j))

-- it stood as it stands, or it rested and may step
abbrev pub MayWake : Ranks → ℕ → RankShape → Type 0
MayWake r k now = (before : RankShape) × IsRanked r k before × ((now ≡ before) ⊎ ((before ≡ Rests) × (now ≡ Goes)))

-- one that received stands so in a state, and its rank may be told
abbrev pub IsWaking : (h : HistoryShape) (code : List Node) → CoreState → RunShape → ℕ → Type 0
IsWaking h code x t k = IsStanding h code x t k × MayWake x.ranks k (rank_of_number t k)

abbrev pub IsSomeWaking : CoreState → ℕ → Type 0
IsSomeWaking x k = (h : HistoryShape) × (code : List Node) × (t : RunShape) × IsWaking h code x t k
