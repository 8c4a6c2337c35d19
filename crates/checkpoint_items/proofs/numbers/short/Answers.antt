use Rattle.std.proofs.Common.{◌∙◌, ◌^◌}
use Rattle.checkpoint_items.proofs.NumberLemmas.{counted}
use Rattle.checkpoint_items.proofs.numbers.short.Goals as goal

pub returns : goal.returns
returns c = counted (2 ^ 128) c.args.text.now c.wide.result c.requires (c.wide.ensures.same ∙ c.count_of.ensures.count) c.wide.ensures.within
