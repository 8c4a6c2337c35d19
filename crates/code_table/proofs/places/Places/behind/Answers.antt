use Rattle.std.proofs.Common.{ap, ◌∙◌}
use Rattle.code_table.specs.Places.{shifted}
use Rattle.code_table.proofs.PlacesLemmas.{shifted_drop}
use Rattle.code_table.proofs.places.Places.behind.Goals as goal

pub returns : goal.returns
returns c = record {
  places = ap (shifted c.args.self.now.shift) c.words_behind.ensures ∙ shifted_drop c.args.self.now.shift c.args.count c.args.self.now.words.now;
}
