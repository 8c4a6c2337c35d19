-- What is said of two replays of a program.
use Rattle.std.specs.Prelude.{◌≡◌, ◌⊎◌, ℕ, List, ◌++◌, Option, codes}
use Rattle.asp_model.specs.Names.{Name}
use Rattle.asp_model.specs.Term.{Tree}
use Rattle.asp_model.specs.Report.{name_text, with_feed}
use Rattle.asp_model.specs.Status.{IsStuck}
use Rattle.asp_model.specs.Step.{ListsShape}
use Rattle.asp_model.specs.Replay.{CountsShape, replay}
use Rattle.def_paths.specs.Outcomes.{report_lines_to, whole_outcome_of}
use Rattle.replay_services.specs.Compares.{AreSame, DifferAt}
use Rattle.replay_services.specs.Reports.{without_logs}

-- that no service could tell, at which activity one could, or that one of the two can go on
pub data Said : Type 0 where
  Same : Said
  Differ : (activity : Name) → Said
  Unended : Said

abbrev pub text_said : Said → List ℕ
text_said Same = with_feed (codes "same")
text_said (Differ n) = with_feed (codes "differ " ++ name_text n)
text_said Unended = with_feed (codes "verdict budget")

abbrev pub status_said : Said → ℕ
status_said Same = 0
status_said (Differ n) = 0
status_said Unended = 5

-- their reports, at every depth, are equal but for the lines of logs
abbrev pub ShowAlike : Tree → ListsShape → CountsShape → ListsShape → CountsShape → Type 0
ShowAlike program lists counts others other_counts = (depth : Option ℕ)
    → without_logs (report_lines_to depth (whole_outcome_of (replay program lists counts)))
    ≡ without_logs (report_lines_to depth (whole_outcome_of (replay program others other_counts)))

-- it is so: both are stuck, no service can tell, and they show alike; both are stuck, and this is the least-named
-- activity that polled or of which a service can tell; or one of them can go on
abbrev pub IsSo : Said → Tree → ListsShape → CountsShape → ListsShape → CountsShape → Type 0
IsSo Same program lists counts others other_counts =
    AreSame program lists counts others other_counts × ShowAlike program lists counts others other_counts
IsSo (Differ n) program lists counts others other_counts = DifferAt program lists counts others other_counts n
IsSo Unended program lists counts others other_counts =
    (IsStuck (replay program lists counts) → ⊥) ⊎ (IsStuck (replay program others other_counts) → ⊥)
