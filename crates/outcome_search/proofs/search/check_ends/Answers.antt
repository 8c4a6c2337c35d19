use Rattle.std.specs.Prelude.{◌≤◌, length, map}
use Rattle.std.proofs.Common.{subst, arith}
use Rattle.std.proofs.lemmas.List.{length-map}
use Rattle.law_families.specs.Families.{IsComplete}
use Rattle.outcome_search.specs.Ends.{run_logs}
use Rattle.outcome_search.specs.Found.{AreClosed}
use Rattle.outcome_search.proofs.SearchLemmas.{if_complete, complete, none_added, one_of}
use Rattle.outcome_search.proofs.search.check_ends.Goals as goal

pub returns-clause-complete : goal.returns-clause-complete
returns-clause-complete g c =
    let program = g.R.Runs.program c.args.runs.now in
    let e = c.in_ok-stop.ensures in
    let given = map run_logs c.args.ends.items in
    let ends = map run_logs c.close_all.new.ends.items in
    let le : length ends ≤ length given = omega (arith, e.found.room, c.len-most.ensures, length-map c.args.ends.items run_logs) in
    let one = one_of c.args.ends.items (λ none. c.if-most-eq0.false (omega (arith, c.len-most.ensures, c.args.ends.ok.0, none))) in
    if_complete (AreClosed program ends ends) (IsComplete program given)
    (λ all. subst (IsComplete program) (none_added given ends e.grows le) (complete program given ends one.0 one.1 e.found.ends e.grows all))
    c.in_ok-stop.stop e.closed
