-- How a search on demand finds the least cut: it takes no step but those that every cut needs.
use Rattle.std.specs.Prelude.{◌≡◌, ◌≤◌, ℕ, suc, List, ◌∷◌, Some, None}
use Rattle.asp_model.specs.Names.{Name}
use Rattle.asp_model.specs.Term.{Tree}
use Rattle.asp_model.specs.Configuration.{Configuration, start}
use Rattle.asp_model.specs.Step.{ListsShape, step}
use Rattle.asp_model.specs.Replay.{lists_of, counts_of, count_in}
use Rattle.law_steps.specs.Reached.{RunsTo}
use Rattle.law_steps.specs.Linked.{Each}
use Rattle.law_waits.specs.Courses.{GoesThrough}
use Rattle.law_cuts.specs.Wants.{wanted}
use Rattle.law_cuts.specs.Cuts.{IsLeastCut}

-- the reductions that an activity has made
abbrev pub made : Configuration → Name → ℕ
made c q = count_in (counts_of c) q

-- what is sought: a point of a run of the program under these logs at which an activity has so many reductions
pub record Goal : Type 0 where
  pub program : Tree
  pub lists : ListsShape
  pub name : Name
  pub count : ℕ

-- a run under the logs comes there
abbrev pub ComesThere : Goal → List Name → Configuration → Type 0
ComesThere g names c = RunsTo (Some g.lists) (start g.program) names c × (g.count ≤ made c g.name)

-- each activity has made no more reductions than in each run that comes there
abbrev pub IsBelow : Goal → Configuration → Type 0
IsBelow g c = (names : List Name) (d : Configuration) → ComesThere g names d → (q : Name) → made c q ≤ made d q

-- in each run that comes there this one has made more reductions
abbrev pub IsNeeded : Goal → Configuration → Name → Type 0
IsNeeded g c n = (names : List Name) (d : Configuration) → ComesThere g names d → suc (made c n) ≤ made d n

-- a point of the search
pub record IsOnWay (g : Goal) (c : Configuration) : Type 0 where
  pub names : List Name
  pub run : RunsTo (Some g.lists) (start g.program) names c
  pub below : IsBelow g c

-- the start is on the way
abbrev pub StartIsOnWay : Type 0
StartIsOnWay = (g : Goal) → IsOnWay g (start g.program)

-- the activity that is sought is needed until it has its reductions
abbrev pub GoalIsNeeded : Type 0
GoalIsNeeded = (g : Goal) (c : Configuration) → suc (made c g.name) ≤ g.count → IsNeeded g c g.name

-- a step of one who is needed stays on the way
abbrev pub NeededSteps : Type 0
NeededSteps = (g : Goal) (c d : Configuration) (n : Name) → IsOnWay g c → IsNeeded g c n
    → step (Some g.lists) c n ≡ Some d → IsOnWay g d

-- where one is needed that cannot step, whom it wants is needed, if a run comes there at all
abbrev pub WantedAreNeeded : Type 0
WantedAreNeeded = (g : Goal) (c end : Configuration) (n : Name) (names : List Name) → IsOnWay g c → IsNeeded g c n
    → ComesThere g names end → step (Some g.lists) c n ≡ None
    → (m : Name) × (wanted g.lists c n ≡ Some m) × IsNeeded g c m

-- wants do not go round a circle: those who cannot step, and each of whom wants the next, and the last the first
abbrev pub WantsEnd : Type 0
WantsEnd = (g : Goal) (c end : Configuration) (names : List Name) (first : Name) (others : List Name) → IsOnWay g c
    → ComesThere g names end → IsNeeded g c first → Each (λ q. step (Some g.lists) c q ≡ None) (first ∷ others)
    → GoesThrough (wanted g.lists c) first others first → ⊥

-- a point on the way that is there is the least cut
abbrev pub WayEnds : Type 0
WayEnds = (g : Goal) (c : Configuration) → IsOnWay g c → g.count ≤ made c g.name
    → IsLeastCut g.program g.lists g.name g.count (lists_of c, counts_of c)
