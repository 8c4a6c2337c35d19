use Rattle.std.proofs.Common.{Some, refl}
use Rattle.replay_parts.specs.declared.numbers.Numbers.{Numbers}
use Rattle.replay_parts.proofs.NumberLemmas.{too_before}
use Rattle.replay_parts.proofs.numbers.Numbers.put_before.Goals as goal

pub returns : goal.returns
returns c =
    let old : Numbers = c.args.self.now in
    let new : Numbers = record { front = Some c.args.number; others = c.insert.new.self } in
    record { added = too_before old new c.args.front c.args.number c.requires.front refl c.in_ok-insert.ensures.updates }
