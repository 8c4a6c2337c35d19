-- Reports without the lines of logs.
use Rattle.std.specs.Prelude.{◌≡◌, ℕ, not, nat_eq, Bool, List, Option, codes, filter}
use Rattle.std.specs.List.{starts_with}
use Rattle.asp_model.specs.Term.{Tree}
use Rattle.asp_model.specs.Step.{ListsShape}
use Rattle.asp_model.specs.Replay.{CountsShape, replay}
use Rattle.def_paths.specs.Outcomes.{report_lines_to, whole_outcome_of}
use Rattle.replay_services.specs.Compares.{AreSame}

-- it begins as the line of a log does, and no other line of a report
abbrev pub is_log_line : List ℕ → Bool
is_log_line line = starts_with nat_eq line (codes "senders")

-- the lines of a report but for those of logs
abbrev pub without_logs : List (List ℕ) → List (List ℕ)
without_logs lines = filter (λ line. not (is_log_line line)) lines

-- of two runs between which no service can tell, the reports at a depth are equal but for the lines of logs
abbrev pub SameRunsShowAlike : Type 0
SameRunsShowAlike = (program : Tree) (lists : ListsShape) (counts : CountsShape)
    (others : ListsShape) (other_counts : CountsShape) (depth : Option ℕ)
    → AreSame program lists counts others other_counts
    → without_logs (report_lines_to depth (whole_outcome_of (replay program lists counts)))
    ≡ without_logs (report_lines_to depth (whole_outcome_of (replay program others other_counts)))
