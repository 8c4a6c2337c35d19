use Rattle.asp_core.specs.Cores.{code_of, history_of}
use Rattle.asp_core.proofs.DeliverLemmas.{owed_may}
use Rattle.asp_core.proofs.cores.Core.next_owed.Goals as goal

pub returns-clause-next : goal.returns-clause-next
returns-clause-next g c = λ s run.
    let x = c.args.self.now in
    c.in_ok-owed.ensures.next (history_of x) (code_of x) s run.stand

pub returns-clause-may : goal.returns-clause-may
returns-clause-may g c = λ s run.
    let x = c.args.self.now in
    owed_may (history_of x) (code_of x) s x.state x.edges.holders run.stand c.in_ok-owed.owed (c.in_ok-owed.ensures.next (history_of x) (code_of x) s run.stand)
