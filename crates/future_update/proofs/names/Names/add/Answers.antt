use Rattle.std.proofs.Common.{subst, sym}
use Rattle.future_update.specs.Names.{IsNumberOf, names_in}
use Rattle.future_update.proofs.NameLemmas.{added}
use Rattle.future_update.proofs.names.Names.add.Goals as goal

pub returns-clause-number : goal.returns-clause-number
returns-clause-number c =
    subst (λ k. IsNumberOf c.insert.new.self.keys c.args.name.now k) (sym c.len-number.ensures.len)
    (added (names_in c.args.self.now) c.insert.new.self.keys c.args.name.now c.in_ok-name.name c.in_ok-name.ensures.name c.requires.new c.in_ok-insert.ensures.keys)
