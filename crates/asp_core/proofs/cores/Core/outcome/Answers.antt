use Rattle.asp_core.specs.Cores.{code_of, history_of}
use Rattle.asp_core.proofs.EndLemmas.{home}
use Rattle.asp_core.proofs.cores.Core.outcome.Goals as goal

pub end-requires : goal.end-requires
end-requires g c =
    let x = c.args.self in
    let r = c.requires.kept c.if-self.false in
    record { home = (history_of x, code_of x, r.0, record { core = r.1.stand.core; back = home r.0 x.edges.holders (c.requires.over r.0 r.1) }) }

pub returns-clause-end : goal.returns-clause-end
returns-clause-end g c = λ s run.
    let x = c.args.self in
    c.end.ensures.end (history_of x) (code_of x) s (record { core = run.stand.core; back = home s x.edges.holders (c.requires.over s run) })

pub returns-clause-outcome : goal.returns-clause-outcome
returns-clause-outcome g c = λ s run.
    let x = c.args.self in
    c.end.ensures.outcome (history_of x) (code_of x) s (record { core = run.stand.core; back = home s x.edges.holders (c.requires.over s run) })
