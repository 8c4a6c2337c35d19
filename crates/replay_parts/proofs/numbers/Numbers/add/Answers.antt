use Rattle.std.proofs.Common.{◌≡◌, ◌∙◌, Some, ap, refl, rules}
use Rattle.replay_parts.specs.declared.numbers.Numbers.{Numbers}
use Rattle.replay_parts.proofs.NumberLemmas.{too_first, too_same}
use Rattle.replay_parts.proofs.numbers.Numbers.add.Goals as goal

pub returns-in_default : goal.returns-in_default
returns-in_default c =
    let old : Numbers = c.args.self.now in
    record { added = too_first old (record old { front = Some c.args.number }) c.args.number c.in_default.is refl }

pub returns-then-front-number : goal.returns-then-front-number
returns-then-front-number c =
    let same : c.in-Some.front ≡ c.args.number = search rules in
    record { added = too_same c.args.self.now c.args.number (c.in-Some.is ∙ ap Some same) }
