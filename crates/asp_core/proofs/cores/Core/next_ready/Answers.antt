use Rattle.asp_core.specs.Cores.{code_of, history_of}
use Rattle.asp_core.proofs.LendLemmas.{next_seat}
use Rattle.asp_core.proofs.cores.Core.next_ready.Goals as goal

pub returns-clause-next : goal.returns-clause-next
returns-clause-next g c = λ s run.
    let x = c.args.self.now in
    c.next_ready.ensures.next (history_of x) (code_of x) s run.stand.core

pub returns-clause-known : goal.returns-clause-known
returns-clause-known g c =
    let x = c.args.self.now in
    let r = c.requires.kept c.if-self.false in
    next_seat (history_of x) (code_of x) r.0 x.state x.edges.holders r.1.stand c.next_ready.result (c.next_ready.ensures.next (history_of x) (code_of x) r.0 r.1.stand.core)
