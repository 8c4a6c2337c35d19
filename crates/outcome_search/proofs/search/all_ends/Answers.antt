use Rattle.std.specs.Prelude.{◌≡◌, List, [], ◌∷◌, ◌++◌, map}
use Rattle.std.proofs.Common.{refl, sym, ap, subst, ◌∙◌, inl}
use Rattle.law_families.specs.Families.{Has, IsComplete}
use Rattle.outcome_search.specs.declared.runs.EndedRun.{EndedRun}
use Rattle.outcome_search.specs.Ends.{run_logs}
use Rattle.outcome_search.specs.Found.{AreClosed}
use Rattle.outcome_search.proofs.SearchLemmas.{if_complete, complete}
use Rattle.outcome_search.proofs.search.all_ends.Goals as goal

pub returns-clause-complete : goal.returns-clause-complete
returns-clause-complete g c =
    let program = g.R.Runs.program c.args.runs.now in
    let e = c.in_ok-stop.ensures in
    let ends = map run_logs c.close_all.new.ends.items in
    let x = run_logs c.in-Some.end in
    let one : c.push.new.self.items ≡ c.in-Some.end ∷ [] = ◌∙◌ {A = List EndedRun} c.in_ok-push.ensures.items (ap {A = List EndedRun} (λ l. l ++ c.in-Some.end ∷ []) c.new-ends.ensures.items) in
    if_complete (AreClosed program ends ends) (IsComplete program ends)
    (complete program (map run_logs c.push.new.self.items) ends x (subst (λ l. Has (map run_logs l) x) (sym one) (inl refl)) e.found.ends e.grows)
    c.in_ok-stop.stop e.closed
