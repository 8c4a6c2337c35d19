use Rattle.asp_core.specs.Cores.{code_of, history_of}
use Rattle.asp_core.proofs.cores.Core.owes_nothing.Goals as goal

pub returns : goal.returns
returns g c = record {
  nothing = λ s run.
      let x = c.args.self.now in
      c.owes_nothing.ensures.nothing (history_of x) (code_of x) s run.stand;
}
