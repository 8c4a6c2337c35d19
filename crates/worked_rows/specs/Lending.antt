-- Journals: what a lease may be granted and commit, and a delivery that a run takes or does without.
use Rattle.std.specs.Prelude.{◌≡◌, ℕ, pos, List, [], ◌∷◌, ◌++◌, Option, Some, None, map}
use Rattle.std.specs.List.{flat_map}
use Rattle.asp_model.specs.Names.{Name, FutureShape, main_name}
use Rattle.asp_model.specs.Term.{Tree}
use Rattle.asp_model.specs.Contraction.{LineShape, NumberLine}
use Rattle.asp_model.specs.Configuration.{ReceptionShape, From, Poll, log_of}
use Rattle.asp_model.specs.Intent.{StatusShape, Done, Serving, Running}
use Rattle.asp_model.specs.Replay.{CountsShape, counts_of}
use Rattle.asp_model.specs.Status.{VerdictShape, End, Budget, statuses_of, verdict_of}
use Rattle.asp_model.specs.History.{Edge, Need, EntryShape, HistoryShape, Lent, Committed, Delivered, program_history}
use Rattle.def_journals.specs.Journals.{RunShape, run_of}
use Rattle.def_journals.specs.Passing.{holders_of}
use Rattle.def_journals.specs.Owed.{next_owed, verdict_told}
use Rattle.worked_rows.specs.Reports.{created}
use Rattle.worked_rows.specs.Services.{asking}
use Rattle.worked_rows.specs.Polls.{asked_once}

-- an activity goes out, and comes in with so many reductions
abbrev pub lease : (number reductions : ℕ) → List EntryShape
lease k r = Lent k ∷ Committed k r ∷ []

abbrev pub leases : List (ℕ × ℕ) → List EntryShape
leases = flat_map (λ x. lease x.0 x.1)

-- the i-th request of an activity
abbrev pub sent_by : Name → ℕ → FutureShape
sent_by n i = record { by = n; index = i }

-- what a run shows: counts, statuses, verdict, budget, and who is out with which grant
pub record Seen : Type 0 where
  pub counts : CountsShape
  pub statuses : List StatusShape
  pub verdict : VerdictShape
  pub left : ℕ
  pub out : List (ℕ × ℕ)

abbrev pub seen : RunShape → Seen
seen s = record {
  counts = counts_of s.configuration;
  statuses = statuses_of s.configuration;
  verdict = verdict_of s.configuration;
  left = s.left;
  out = s.out;
}

abbrev pub if_run : {A : Type 0} → (RunShape → A) → Option RunShape → Option A
if_run f None = None
if_run f (Some s) = Some (f s)

-- what a lawful journal leaves; none where it is not lawful
abbrev pub journal_shows : Tree → ℕ → List EntryShape → Option Seen
journal_shows program budget journal = if_run seen (run_of (program_history program budget journal))

-- Leases

-- print(a.inc(41)): main makes a, calls it and prints
abbrev pub CommitsTwo : Type 0
CommitsTwo = journal_shows asking 100 (lease 0 2) ≡ Some (record {
  counts = (main_name, 2) ∷ (created 1, 0) ∷ [];
  statuses = Running ∷ Running ∷ [];
  verdict = Budget;
  left = 98;
  out = [];
})

-- a grant leaves the budget, and is 64 at most
abbrev pub IsGranted : ℕ → (granted left : ℕ) → Type 0
IsGranted budget granted left = journal_shows asking budget (Lent 0 ∷ []) ≡ Some (record {
  counts = (main_name, 0) ∷ [];
  statuses = Running ∷ [];
  verdict = Budget;
  left = left;
  out = (0, granted) ∷ [];
})

abbrev pub IsNotLawful : ℕ → List EntryShape → Type 0
IsNotLawful budget journal = journal_shows asking budget journal ≡ None

-- what is no journal: who is out goes out, who is in comes in, nobody has the number, a communication before the last
-- reduction, more than was granted, a value that is not there
pub record RefusesEntries : Type 0 where
  pub out : IsNotLawful 100 (Lent 0 ∷ Lent 0 ∷ [])
  pub inside : IsNotLawful 100 (Committed 0 0 ∷ [])
  pub nobody : IsNotLawful 100 (Lent 1 ∷ [])
  pub communication : IsNotLawful 100 (lease 0 3)
  pub granted : IsNotLawful 1 (lease 0 2)
  pub spent : IsNotLawful 2 (lease 0 2 ++ (Lent 0 ∷ []))
  pub unfilled : IsNotLawful 100 (lease 0 2 ++ (Delivered (Edge (sent_by main_name 1) (created 1) main_name) ∷ []))

-- A delivery

-- main asks and the service ends
abbrev pub until_answered : List EntryShape
until_answered = leases ((0, 2) ∷ (0, 3) ∷ (1, 2) ∷ (1, 4) ∷ [])

-- the answer is delivered, and main prints it
abbrev pub until_delivered : List EntryShape
until_delivered =
    until_answered
    ++ (Delivered (Edge (sent_by main_name 1) (created 1) main_name) ∷ leases ((0, 1) ∷ (1, 3) ∷ []))

abbrev pub DeliversAnswer : Type 0
DeliversAnswer = journal_shows asking 100 until_delivered ≡ Some (record {
  counts = (main_name, 6) ∷ (created 1, 9) ∷ [];
  statuses = Done ∷ Serving ∷ [];
  verdict = End;
  left = 85;
  out = [];
})

-- without it main stands before its print, and the value is owed to it
abbrev pub lacking : List EntryShape
lacking = until_answered ++ lease 1 3

abbrev pub lacking_history : HistoryShape
lacking_history = program_history asking 100 lacking

pub record LacksAnswer : Type 0 where
  pub shows : journal_shows asking 100 lacking ≡ Some (record {
    counts = (main_name, 5) ∷ (created 1, 9) ∷ [];
    statuses = Running ∷ Serving ∷ [];
    verdict = Budget;
    left = 86;
    out = [];
  })
  pub owed : if_run (λ s. next_owed s (holders_of lacking_history) []) (run_of lacking_history)
      ≡ Some (Some (Need (sent_by main_name 1) main_name 4))
  pub verdict : if_run (λ s. verdict_told s (holders_of lacking_history) []) (run_of lacking_history) ≡ Some None

-- Polls

-- main has asked 0.1 to go, which has taken that request
abbrev pub until_asked : List EntryShape
until_asked = leases ((0, 2) ∷ (0, 2) ∷ (1, 2) ∷ [])

-- what is in the log of 0.1, and what all have written
pub record Told : Type 0 where
  pub log : List ReceptionShape
  pub lines : List (List LineShape)

abbrev pub told : RunShape → Told
told s = record { log = log_of s.configuration (created 1); lines = map (λ x. x.1.lines) s.configuration.activities }

abbrev pub journal_tells : List EntryShape → Option Told
journal_tells journal = if_run told (run_of (program_history asked_once 100 journal))

-- 0.1 invokes its method and asks; only then it prints
pub record PollsInCommits : Type 0 where
  pub before : journal_tells (until_asked ++ leases ((1, 2) ∷ (1, 1) ∷ [])) ≡ Some (record {
    log = From main_name ∷ Poll ∷ [];
    lines = [] ∷ (NumberLine (pos 0) ∷ []) ∷ [];
  })
  -- main asks while 0.1 is out
  pub while_out : journal_tells (until_asked ++ (Lent 1 ∷ lease 0 2 ++ (Committed 1 2 ∷ lease 1 1))) ≡ Some (record {
    log = From main_name ∷ From main_name ∷ Poll ∷ [];
    lines = [] ∷ (NumberLine (pos 1) ∷ []) ∷ [];
  })
  pub not_last : journal_tells (until_asked ++ lease 1 3) ≡ None
