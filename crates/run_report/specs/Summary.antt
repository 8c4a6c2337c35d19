-- A few lines on a run, in place of its whole report.
use Rattle.std.specs.Prelude.{ℕ, List, [], ◌∷◌, ◌+◌, ◌++◌, map, length, cond, codes}
use Rattle.std.specs.Fmt.{decimal}
use Rattle.std.specs.List.{flat_map}
use Rattle.asp_model.specs.Names.{main_name, same_name}
use Rattle.asp_model.specs.Outcome.{ActivityReportShape, OutcomeShape}
use Rattle.asp_model.specs.Report.{output_line, verdict_line, text_of}
use Rattle.law_steps.specs.Kept.{senders_among}

-- how many senders stand in all logs: each request that came has one there
abbrev pub requests_in : List ActivityReportShape → ℕ
requests_in [] = 0
requests_in (a ∷ activities) = length (senders_among a.senders) + requests_in activities

-- the output lines of main
abbrev pub main_lines : List ActivityReportShape → List (List ℕ)
main_lines activities =
    flat_map (λ a. cond (same_name main_name a.name) (map output_line a.lines) []) activities

-- the lines of the summary, without their line feeds
unfoldable pub summary_lines : ℕ → OutcomeShape → List (List ℕ)
summary_lines pairs o =
    (codes "made " ++ decimal pairs)
    ∷ verdict_line o.verdict
    ∷ (codes "activities " ++ decimal (length o.activities))
    ∷ (codes "requests " ++ decimal (requests_in o.activities))
    ∷ main_lines o.activities

-- the whole summary
abbrev pub summary_of : ℕ → OutcomeShape → List ℕ
summary_of pairs o = text_of (summary_lines pairs o)
