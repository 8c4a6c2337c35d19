use Rattle.std.proofs.Common.{◌∙◌, false, refl}
use Rattle.std.specs.Arc.{arc_value}
use Rattle.asp_model.specs.Shapes.{tree_of}
use Rattle.def_journals.specs.Journals.{begun as start_of}
use Rattle.core_state.specs.Cores.{program_of}
use Rattle.asp_core.specs.declared.cores.Core.{Core}
use Rattle.asp_core.proofs.ChosenLemmas.{none_delivered}
use Rattle.asp_core.proofs.HomeLemmas.{home_at}
use Rattle.asp_core.proofs.PlanLemmas.{by_plan_begun}
use Rattle.asp_core.proofs.StartLemmas.{run_begins, stand_begun}
use Rattle.asp_core.proofs.StopLemmas.{none_came}
use Rattle.asp_core.proofs.cores.Core.new.Goals as goal

pub begin-requires : goal.begin-requires
begin-requires g c = record { none = c.new-edges.ensures.activities }

pub returns-in-Ok-clause-begun : goal.returns-in-Ok-clause-begun
returns-in-Ok-clause-begun g c =
    let begun = c.in-Ok.begun in
    let code = arc_value begun.code in
    let budget = c.args.budget in
    let new : Core _ = record { alloc = c.args.alloc; code = begun.code; first = c.program-first.result; budget = budget; state = begun.state; edges = c.begin.new.edges; spent = false } in
    let edges = c.in-Ok.ensures.edges in
    run_begins new c.program-first.ensures (tree_of c.args.program.now.program.root) c.in-Ok.ensures.program refl
    (stand_begun (program_of code) budget code begun.state c.begin.new.edges.holders c.in-Ok.ensures.state (edges.holders ∙ c.new-edges.ensures.holders) (edges.answers ∙ c.new-edges.ensures.answers) c.in-Ok.ensures.met) c.in-Ok.ensures.bare

pub returns-in-Ok-clause-plan : goal.returns-in-Ok-clause-plan
returns-in-Ok-clause-plan g c = c.in-Ok.ensures.edges.plan ∙ c.new-edges.ensures.plan

pub returns-in-Ok-clause-policies : goal.returns-in-Ok-clause-policies
returns-in-Ok-clause-policies g c = c.in-Ok.ensures.edges.policies ∙ c.new-edges.ensures.policies

pub returns-in-Ok-clause-by_plan : goal.returns-in-Ok-clause-by_plan
returns-in-Ok-clause-by_plan g c =
    let edges = c.in-Ok.ensures.edges in
    by_plan_begun g.P.UpdatePolicy.answer g.P.UpdatePolicy.asked c.args.plan c.args.policies c.begin.new.edges (edges.holders ∙ c.new-edges.ensures.holders) (edges.answers ∙ c.new-edges.ensures.answers)
    (edges.plan ∙ c.new-edges.ensures.plan) (edges.policies ∙ c.new-edges.ensures.policies)

pub returns-in-Ok-clause-home : goal.returns-in-Ok-clause-home
returns-in-Ok-clause-home g c =
    let begun = c.in-Ok.begun in
    let code = arc_value begun.code in
    let budget = c.args.budget in
    let term = tree_of c.args.program.now.program.root in
    let new : Core _ = record { alloc = c.args.alloc; code = begun.code; first = c.program-first.result; budget = budget; state = begun.state; edges = c.begin.new.edges; spent = false } in
    let edges = c.in-Ok.ensures.edges in
    let st = stand_begun (program_of code) budget code begun.state c.begin.new.edges.holders c.in-Ok.ensures.state (edges.holders ∙ c.new-edges.ensures.holders) (edges.answers ∙ c.new-edges.ensures.answers) c.in-Ok.ensures.met in
    home_at new (start_of term budget) (run_begins new c.program-first.ensures term c.in-Ok.ensures.program refl st c.in-Ok.ensures.bare) refl

pub returns-in-Ok-clause-chosen : goal.returns-in-Ok-clause-chosen
returns-in-Ok-clause-chosen g c =
    let begun = c.in-Ok.begun in
    let new : Core _ = record { alloc = c.args.alloc; code = begun.code; first = c.program-first.result; budget = c.args.budget; state = begun.state; edges = c.begin.new.edges; spent = false } in
    none_delivered new c.in-Ok.ensures.state.entries

pub returns-in-Ok-clause-stopped : goal.returns-in-Ok-clause-stopped
returns-in-Ok-clause-stopped g c =
    let begun = c.in-Ok.begun in
    let new : Core _ = record { alloc = c.args.alloc; code = begun.code; first = c.program-first.result; budget = c.args.budget; state = begun.state; edges = c.begin.new.edges; spent = false } in
    none_came new c.in-Ok.ensures.state.entries
