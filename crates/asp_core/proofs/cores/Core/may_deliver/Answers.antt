use Rattle.asp_core.specs.Cores.{code_of, history_of}
use Rattle.asp_core.proofs.cores.Core.may_deliver.Goals as goal

pub may_deliver-requires : goal.may_deliver-requires
may_deliver-requires g c =
    let x = c.args.self.now in
    let r = c.requires.kept c.if-self.false in
    record { core = (history_of x, code_of x, r.0, r.1.stand.core) }

pub returns-clause-may : goal.returns-clause-may
returns-clause-may g c = λ s run.
    let x = c.args.self.now in
    c.may_deliver.ensures.may (history_of x) (code_of x) s run.stand.core
