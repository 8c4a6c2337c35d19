-- Outcomes that are equal but for their logs look the same.
use Rattle.std.proofs.Common.{◌≡◌, ℕ, List, [], ◌∷◌, ◌++◌, Option, Some, None, map, refl, sym, ap, ◌∙◌}
use Rattle.std.specs.Prelude.{cond, not}
use Rattle.std.specs.List.{filter, flat_map}
use Rattle.std.proofs.lemmas.List.Elements.{filter-append}
use Rattle.asp_model.specs.Chase.{Values}
use Rattle.asp_model.specs.Outcome.{ActivityReportShape}
use Rattle.asp_model.specs.Report.{activity_lines, text_of, verdict_line}
use Rattle.def_paths.specs.Outcomes.{EndShape, WholeOutcome, end_lines, lines_to}
use Rattle.law_services.specs.Correct.{unlogged, unlogged_end}
use Rattle.outcomes_text.specs.Outcomes.{is_log_line, text_seen}

-- the lines that show no log
abbrev shown : List (List ℕ) → List (List ℕ)
shown lines = filter (λ l. not (is_log_line l)) lines

activity_same : (a : ActivityReportShape) (extra : List (List ℕ)) → shown (activity_lines a ++ extra) ≡ shown (activity_lines (record a { senders = [] }) ++ extra)
activity_same a extra = refl

states_same : (depth : Option ℕ) (values : Values) (e : EndShape) → lines_to depth values e ≡ lines_to depth values (unlogged_end e)
states_same None values e = refl
states_same (Some d) values e = refl

end_same : (depth : Option ℕ) (values : Values) (e : EndShape) → shown (end_lines depth values e) ≡ shown (end_lines depth values (unlogged_end e))
end_same depth values e =
    activity_same e.report (lines_to depth values e)
    ∙ ap (λ (l : List (List ℕ)). shown (activity_lines (record e.report { senders = [] }) ++ l)) (states_same depth values e)

ends_same : (depth : Option ℕ) (values : Values) (es : List EndShape) → shown (flat_map (end_lines depth values) es) ≡ shown (flat_map (end_lines depth values) (map unlogged_end es))
ends_same depth values [] = refl
ends_same depth values (e ∷ es) =
    filter-append (λ l. not (is_log_line l)) (end_lines depth values e) (flat_map (end_lines depth values) es)
    ∙ (λ i. end_same depth values e i ++ ends_same depth values es i)
    ∙ sym (filter-append (λ l. not (is_log_line l)) (end_lines depth values (unlogged_end e)) (flat_map (end_lines depth values) (map unlogged_end es)))

text_same : (depth : Option ℕ) (o : WholeOutcome) → text_seen depth o ≡ text_seen depth (unlogged o)
text_same depth o = λ i. text_of (cond (not (is_log_line (verdict_line o.verdict))) (verdict_line o.verdict ∷ ends_same depth o.futures o.ends i) (ends_same depth o.futures o.ends i))

pub look_alike : (depth : Option ℕ) (o p : WholeOutcome) → unlogged o ≡ unlogged p → text_seen depth o ≡ text_seen depth p
look_alike depth o p same = text_same depth o ∙ ap (text_seen depth) same ∙ sym (text_same depth p)
