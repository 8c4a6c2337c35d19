-- Outcomes that are equal but for logs have reports that are equal but for the lines of logs.
use Rattle.std.specs.Prelude.{◌≡◌, ℕ, not, cond, List, [], ◌∷◌, ◌++◌, Option, Some, None, map, codes}
use Rattle.std.specs.List.{flat_map}
use Rattle.std.proofs.Common.{refl, sym, ap, ◌∙◌}
use Rattle.std.proofs.lemmas.List.Elements.{filter-append}
use Rattle.asp_model.specs.Chase.{Values}
use Rattle.asp_model.specs.Outcome.{ActivityReportShape}
use Rattle.asp_model.specs.Report.{activity_lines, verdict_line}
use Rattle.asp_model.specs.Replay.{replay}
use Rattle.def_paths.specs.Outcomes.{EndShape, WholeOutcome, end_lines, lines_to, report_lines_to, whole_outcome_of}
use Rattle.law_services.specs.Correct.{unlogged, unlogged_end}
use Rattle.replay_services.specs.Reports.{SameRunsShowAlike, is_log_line, without_logs}

activity_same : (a : ActivityReportShape) (extra : List (List ℕ)) → without_logs (activity_lines a ++ extra) ≡ without_logs (activity_lines (record a { senders = [] }) ++ extra)
activity_same a extra = refl

states_same : (depth : Option ℕ) (values : Values) (e : EndShape) → lines_to depth values e ≡ lines_to depth values (unlogged_end e)
states_same None values e = refl
states_same (Some d) values e = refl

end_same : (depth : Option ℕ) (values : Values) (e : EndShape) → without_logs (end_lines depth values e) ≡ without_logs (end_lines depth values (unlogged_end e))
end_same depth values e = activity_same e.report (lines_to depth values e) ∙ ap (λ l. without_logs (activity_lines (record e.report { senders = [] }) ++ l)) (states_same depth values e)

ends_same : (depth : Option ℕ) (values : Values) (es : List EndShape) → without_logs (flat_map (end_lines depth values) es) ≡ without_logs (flat_map (end_lines depth values) (map unlogged_end es))
ends_same depth values [] = refl
ends_same depth values (e ∷ es) =
    filter-append (λ line. not (is_log_line line)) (end_lines depth values e) (flat_map (end_lines depth values) es)
    ∙ (λ i. end_same depth values e i ++ ends_same depth values es i)
    ∙ sym (filter-append (λ line. not (is_log_line line)) (end_lines depth values (unlogged_end e)) (flat_map (end_lines depth values) (map unlogged_end es)))

report_same : (depth : Option ℕ) (o : WholeOutcome) → without_logs (report_lines_to depth o) ≡ without_logs (report_lines_to depth (unlogged o))
report_same depth o = λ i. codes "asp report 2" ∷ cond (not (is_log_line (verdict_line o.verdict))) (verdict_line o.verdict ∷ ends_same depth o.futures o.ends i) (ends_same depth o.futures o.ends i)

pub same_runs_show_alike : SameRunsShowAlike
same_runs_show_alike program lists counts others other_counts depth same =
    report_same depth (whole_outcome_of (replay program lists counts))
    ∙ ap (λ o. without_logs (report_lines_to depth o)) same.shown
    ∙ sym (report_same depth (whole_outcome_of (replay program others other_counts)))
