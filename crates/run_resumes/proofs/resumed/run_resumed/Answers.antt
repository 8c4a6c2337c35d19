use Rattle.std.specs.Arc.{arc_value}
use Rattle.law_frozen.specs.Frozen.{thawed_first}
use Rattle.law_checkpoints.specs.Saved.{frozen_at}
use Rattle.core_state.specs.Cores.{program_of}
use Rattle.asp_core.specs.Cores.{history_of}
use Rattle.run_resumes.proofs.ResumeLemmas.{one_end, resumed_end}
use Rattle.run_resumes.proofs.resumed.run_resumed.Goals as goal

pub returns-clause-end : goal.returns-clause-end
returns-clause-end g c = λ x is.
    resumed_end c.end_of_run.result (history_of c.in_ok-core.core) (program_of (arc_value c.args.frozen.code)) x
    c.args.settings.budget (c.in_ok-core.ensures.history x is) c.end_of_run.ensures.told

pub returns-clause-one : goal.returns-clause-one
returns-clause-one g c = λ x saved is.
    let program = program_of (arc_value c.args.frozen.code) in
    let y = thawed_first (frozen_at x) in
    let end = resumed_end c.end_of_run.result (history_of c.in_ok-core.core) program y c.args.settings.budget
    (c.in_ok-core.ensures.history y is) c.end_of_run.ensures.told in
    one_end c.end_of_run.result program x c.args.settings.budget c.requires.bare saved end
