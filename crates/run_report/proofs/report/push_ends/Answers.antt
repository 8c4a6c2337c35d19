use Rattle.std.proofs.Common.{List, ℕ, ◌++◌, ◌∙◌, take, sym, ap, append_assoc}
use Rattle.std.specs.List.{flat_map}
use Rattle.def_paths.specs.Outcomes.{end_lines}
use Rattle.run_report.specs.Ends.{lines_at}
use Rattle.run_report.proofs.EndLemmas.{one_more}
use Rattle.run_report.proofs.report.push_ends.Goals as goal

pub loop-number-preserved : goal.loop-number-preserved
loop-number-preserved c = λ o h.
    let n : ℕ = c.loop-number.number in
    let before : List (List ℕ) = c.args.lines.now.items in
    let one : List (List ℕ) = lines_at c.args.depth o n in
    c.in_ok-push_end.ensures o h
    ∙ ap (λ (l : List (List ℕ)). l ++ one) (c.loop-number.invariant o h)
    ∙ append_assoc before (flat_map (end_lines c.args.depth o.futures) (take n o.ends)) one
    ∙ ap (λ (l : List (List ℕ)). before ++ l) (sym (one_more (end_lines c.args.depth o.futures) o.ends n))
