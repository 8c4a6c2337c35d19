use Rattle.std.proofs.Common.{◌∙◌, ◌^◌, arith}
use Rattle.checkpoint_items.proofs.NumberLemmas.{narrowed}
use Rattle.checkpoint_items.proofs.numbers.below.Goals as goal

pub returns-clause-number : goal.returns-clause-number
returns-clause-number c =
    c.kept.ensures.number ∙ narrowed c.args.limit (2 ^ 128) c.args.text.now c.written.result (omega arith) c.written.ensures
