-- Families of ended runs of a program, and when no run of the program lies outside of one.
use Rattle.std.specs.Prelude.{◌≡◌, ◌≢◌, ◌⊎◌, ◌≤◌, ℕ, suc, true, List, [], ◌∷◌, ◌++◌, Some, None, take}
use Rattle.std.specs.List.{starts_with}
use Rattle.std.specs.FinMap.{put}
use Rattle.asp_model.specs.Names.{Name, name_cmp}
use Rattle.asp_model.specs.Term.{Tree}
use Rattle.asp_model.specs.Configuration.{ReceptionShape, Configuration, log_of}
use Rattle.asp_model.specs.Step.{ListsShape, reception_at, same_reception, step}
use Rattle.asp_model.specs.Status.{IsStuck}
use Rattle.asp_model.specs.Replay.{CountsShape, lists_of, log_in, replay, Fits}

-- what a report shows of a run: its logs and its counts
abbrev pub RunLogs : Type 0
RunLogs = ListsShape × CountsShape

-- the run is one of these
abbrev pub Has : List RunLogs → RunLogs → Type 0
Has [] x = ⊥
Has (y ∷ ys) x = (y ≡ x) ⊎ Has ys x

-- logs and counts are those of a run of the program after which nobody can step
abbrev pub IsEndedRun : Tree → RunLogs → Type 0
IsEndedRun program x = Fits program x.0 x.1 × IsStuck (replay program x.0 x.1)

-- each of these is
abbrev pub AreEnds : Tree → List RunLogs → Type 0
AreEnds program ends = (x : RunLogs) → Has ends x → IsEndedRun program x

-- each of the other logs begins with the log of its activity
abbrev pub AreBeginnings : (lists others : ListsShape) → Type 0
AreBeginnings lists others = (m : Name) → starts_with same_reception (log_in others m) (log_in lists m) ≡ true

-- the logs of one of these runs begin with these logs
abbrev pub IsWithin : List RunLogs → ListsShape → Type 0
IsWithin ends lists = (x : RunLogs) × Has ends x × AreBeginnings lists x.0

-- the logs, where that of one activity ends after so many entries
abbrev pub cut_lists : ListsShape → Name → ℕ → ListsShape
cut_lists lists q k = put name_cmp q (take k (log_in lists q)) lists

-- a run as far as it goes under its logs cut so
abbrev pub cut_run : Tree → RunLogs → Name → ℕ → Configuration
cut_run program x q k = replay program (cut_lists x.0 q k) x.1

-- in the run cut so somebody can step who enters this in the log that is cut, and that leads here
pub record IsOffer (program : Tree) (x : RunLogs) (q : Name) (k : ℕ) (entry : ReceptionShape)
    (d : Configuration) : Type 0 where
  pub who : Name
  pub steps : step None (cut_run program x q k) who ≡ Some d
  pub logs : log_of d q ≡ log_of (cut_run program x q k) q ++ entry ∷ []

-- the entry stands in the log behind a place at which another one stands
pub record ComesBehind (log : List ReceptionShape) (k : ℕ) (entry : ReceptionShape) : Type 0 where
  pub here : ReceptionShape
  pub at : reception_at log k ≡ Some here
  pub other : entry ≢ here
  pub place : ℕ
  pub behind : suc k ≤ place
  pub comes : reception_at log place ≡ Some entry

-- wherever an entry that comes later is offered, the logs of one of these runs begin so
abbrev pub IsClosed : Tree → List RunLogs → Type 0
IsClosed program ends = (x : RunLogs) (q : Name) (k : ℕ) (entry : ReceptionShape) (d : Configuration)
    → Has ends x → ComesBehind (log_in x.0 q) k entry → IsOffer program x q k entry d → IsWithin ends (lists_of d)

-- ended runs of the program, at least one, that are closed
pub record IsComplete (program : Tree) (ends : List RunLogs) : Type 0 where
  pub one : RunLogs
  pub has : Has ends one
  pub ended : AreEnds program ends
  pub closed : IsClosed program ends
