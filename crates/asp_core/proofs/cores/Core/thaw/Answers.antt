use Rattle.std.proofs.Common.{◌∙◌, false, refl}
use Rattle.std.specs.Arc.{arc_value}
use Rattle.def_journals.specs.Journals.{run_from}
use Rattle.asp_core.specs.declared.cores.Core.{Core}
use Rattle.asp_core.proofs.ChosenLemmas.{none_delivered}
use Rattle.asp_core.proofs.HomeLemmas.{home_at}
use Rattle.asp_core.proofs.StopLemmas.{none_came}
use Rattle.asp_core.proofs.ThawLemmas.{by_plan_thawed, history_thawed, one_first, run_thawed}
use Rattle.asp_core.proofs.cores.Core.thaw.Goals as goal

pub resume-requires : goal.resume-requires
resume-requires g c =
    let r = c.requires.first in
    let new = c.new-edges.ensures in
    record { first = (r.0, r.2); none = new.holders; unanswered = new.answers; nobody = new.activities }

pub returns-in-Ok-clause-run : goal.returns-in-Ok-clause-run
returns-in-Ok-clause-run g c = λ f is.
    let resumed = c.in-Ok.resumed in
    let new : Core _ = record { alloc = c.args.alloc; code = resumed.code; first = c.args.first; budget = c.args.budget; state = resumed.state; edges = c.resume.new.edges; spent = false } in
    let may = one_first c.args.frozen c.args.first c.args.budget f c.requires.first is in
    run_thawed new f (arc_value c.args.frozen.code) c.new-edges.result c.args.frozen.activities.items is c.in-Ok.ensures.code refl (c.in-Ok.ensures.core f may) (c.in-Ok.ensures.begin f may) may.stands.names c.requires.bare

pub returns-in-Ok-clause-history : goal.returns-in-Ok-clause-history
returns-in-Ok-clause-history g c = λ f is.
    let resumed = c.in-Ok.resumed in
    let new : Core _ = record { alloc = c.args.alloc; code = resumed.code; first = c.args.first; budget = c.args.budget; state = resumed.state; edges = c.resume.new.edges; spent = false } in
    let may = one_first c.args.frozen c.args.first c.args.budget f c.requires.first is in
    history_thawed new f (arc_value c.args.frozen.code) c.new-edges.result c.args.frozen.activities.items is c.in-Ok.ensures.code refl (c.in-Ok.ensures.core f may) (c.in-Ok.ensures.begin f may) may.stands.names c.requires.bare

pub returns-in-Ok-clause-plan : goal.returns-in-Ok-clause-plan
returns-in-Ok-clause-plan g c = let r = c.requires.first in (c.in-Ok.ensures.begin r.0 r.2).plan ∙ c.new-edges.ensures.plan

pub returns-in-Ok-clause-policies : goal.returns-in-Ok-clause-policies
returns-in-Ok-clause-policies g c = let r = c.requires.first in (c.in-Ok.ensures.begin r.0 r.2).policies ∙ c.new-edges.ensures.policies

pub returns-in-Ok-clause-by_plan : goal.returns-in-Ok-clause-by_plan
returns-in-Ok-clause-by_plan g c =
    let r = c.requires.first in
    let begun = c.in-Ok.ensures.begin r.0 r.2 in
    by_plan_thawed g.P.UpdatePolicy.answer g.P.UpdatePolicy.asked c.args.plan c.args.policies c.resume.new.edges begun.holders.edges begun.answers (begun.plan ∙ c.new-edges.ensures.plan) (begun.policies ∙ c.new-edges.ensures.policies)

pub returns-in-Ok-clause-home : goal.returns-in-Ok-clause-home
returns-in-Ok-clause-home g c =
    let r = c.requires.first in
    let resumed = c.in-Ok.resumed in
    let new : Core _ = record { alloc = c.args.alloc; code = resumed.code; first = c.args.first; budget = c.args.budget; state = resumed.state; edges = c.resume.new.edges; spent = false } in
    let run = run_thawed new r.0 (arc_value c.args.frozen.code) c.new-edges.result c.args.frozen.activities.items r.1 c.in-Ok.ensures.code refl (c.in-Ok.ensures.core r.0 r.2) (c.in-Ok.ensures.begin r.0 r.2) r.2.stands.names c.requires.bare in
    home_at new (run_from r.0 c.args.budget) run refl

pub returns-in-Ok-clause-chosen : goal.returns-in-Ok-clause-chosen
returns-in-Ok-clause-chosen g c =
    let r = c.requires.first in
    let resumed = c.in-Ok.resumed in
    let new : Core _ = record { alloc = c.args.alloc; code = resumed.code; first = c.args.first; budget = c.args.budget; state = resumed.state; edges = c.resume.new.edges; spent = false } in
    none_delivered new (c.in-Ok.ensures.core r.0 r.2).entries

pub returns-in-Ok-clause-stopped : goal.returns-in-Ok-clause-stopped
returns-in-Ok-clause-stopped g c =
    let r = c.requires.first in
    let resumed = c.in-Ok.resumed in
    let new : Core _ = record { alloc = c.args.alloc; code = resumed.code; first = c.args.first; budget = c.args.budget; state = resumed.state; edges = c.resume.new.edges; spent = false } in
    none_came new (c.in-Ok.ensures.core r.0 r.2).entries
