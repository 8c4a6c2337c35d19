use Rattle.std.proofs.Common.{refl}
use Rattle.replay_parts.specs.declared.numbers.Numbers.{Numbers}
use Rattle.replay_parts.proofs.NumberLemmas.{too_behind}
use Rattle.replay_parts.proofs.numbers.Numbers.put_behind.Goals as goal

pub returns : goal.returns
returns c =
    let old : Numbers = c.args.self.now in
    let new : Numbers = record old { others = c.insert.new.self } in
    record { added = too_behind old new c.args.number refl c.in_ok-insert.ensures.updates }
