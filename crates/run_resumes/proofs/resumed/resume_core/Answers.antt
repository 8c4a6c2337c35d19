use Rattle.std.specs.Arc.{arc_value}
use Rattle.def_journals.specs.Journals.{run_from}
use Rattle.core_state.specs.Cores.{program_of}
use Rattle.asp_core.specs.Cores.{history_of}
use Rattle.run_resumes.proofs.ResumeLemmas.{core_since}
use Rattle.run_resumes.proofs.resumed.resume_core.Goals as goal

pub run_core-requires-clause-kept : goal.run_core-requires-clause-kept
run_core-requires-clause-kept g c κs within = λ fresh.
    let r = c.requires.first in
    (run_from r.0 c.args.settings.budget, c.in_ok-core.ensures.run r.0 r.1)

pub returns-clause-history : goal.returns-clause-history
returns-clause-history g c = λ x is.
    core_since c.run_core.result (history_of c.in_ok-core.core) (program_of (arc_value c.args.frozen.code)) x
    c.args.settings.budget c.run_core.ensures.begins (c.in_ok-core.ensures.history x is)
