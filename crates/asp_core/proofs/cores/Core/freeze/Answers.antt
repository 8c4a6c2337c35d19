use Rattle.std.proofs.Common.{◌∙◌, ap, map, subst}
use Rattle.def_journals.specs.Edges.{HoldersShape}
use Rattle.def_journals.specs.Passing.{holders_of}
use Rattle.future_update.specs.Holders.{AreHomes, HoldersView, home_shape}
use Rattle.asp_core.specs.Cores.{code_of, history_of}
use Rattle.asp_core.proofs.EndLemmas.{home}
use Rattle.asp_core.proofs.cores.Core.freeze.Goals as goal

pub taken_apart-requires : goal.taken_apart-requires
taken_apart-requires g c =
    let x = c.args.self in
    let r = c.requires.kept c.if-self.false in
    record { still = (history_of x, code_of x, r.0, record { core = r.1.stand.core; back = home r.0 x.edges.holders (c.requires.over r.0 r.1) }) }

pub returns-in-Ok-clause-frozen : goal.returns-in-Ok-clause-frozen
returns-in-Ok-clause-frozen g c = λ s run.
    let x = c.args.self in
    let told = ap (λ (v : HoldersView). v.holders) c.holders.ensures.holders in
    let own = subst (λ (v : HoldersShape). AreHomes v.homes (map home_shape c.in-Ok.homes.items)) told c.in-Ok.ensures.homes in
    let homes : AreHomes (holders_of (history_of x)).homes (map home_shape c.in-Ok.homes.items) = record { found = λ f. own.found f ∙ run.stand.edges.holders.homes f; ascending = own.ascending } in
    c.taken_apart.ensures.frozen (history_of x) s (record { core = run.stand.core; back = home s x.edges.holders (c.requires.over s run) }) homes
