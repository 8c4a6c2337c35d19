-- A cut in the past of a run: an earlier point of the run, and the least one at which an activity has come so far.
use Rattle.std.specs.Prelude.{◌≡◌, ◌≤◌, ℕ}
use Rattle.asp_model.specs.Names.{Name}
use Rattle.asp_model.specs.Term.{Tree}
use Rattle.asp_model.specs.Step.{ListsShape}
use Rattle.asp_model.specs.Replay.{CountsShape, count_in, Fits}
use Rattle.law_families.specs.Families.{RunLogs, AreBeginnings}

-- logs and counts fit, and each log is a front part of the given one
pub record IsCut (program : Tree) (lists : ListsShape) (cut : RunLogs) : Type 0 where
  pub fits : Fits program cut.0 cut.1
  pub front : AreBeginnings cut.0 lists

-- the one has no more of any log, and no greater count
abbrev pub IsAtMost : (cut other : RunLogs) → Type 0
IsAtMost cut other = AreBeginnings cut.0 other.0 × ((q : Name) → count_in cut.1 q ≤ count_in other.1 q)

-- the least of all cuts in which an activity has made so many reductions
pub record IsLeastCut (program : Tree) (lists : ListsShape) (n : Name) (k : ℕ) (cut : RunLogs) : Type 0 where
  pub is : IsCut program lists cut
  pub reaches : k ≤ count_in cut.1 n
  pub least : (other : RunLogs) → IsCut program lists other → k ≤ count_in other.1 n → IsAtMost cut other

-- where logs and counts fit, and the count is reached, there is a least cut; it is below them
abbrev pub CutsAreFound : Type 0
CutsAreFound = (program : Tree) (lists : ListsShape) (counts : CountsShape) (n : Name) (k : ℕ)
    → Fits program lists counts → k ≤ count_in counts n
    → (cut : RunLogs) × IsLeastCut program lists n k cut × IsAtMost cut (lists, counts)

-- and no other
abbrev pub CutsAreOne : Type 0
CutsAreOne = (program : Tree) (lists : ListsShape) (n : Name) (k : ℕ) (cut other : RunLogs)
    → IsLeastCut program lists n k cut → IsLeastCut program lists n k other → cut ≡ other
