use Rattle.std.proofs.Common.{◌<◌, subst, ◌∙◌}
use Rattle.code_table.proofs.PlacesLemmas.{shifted_at, shifted_length}
use Rattle.code_table.proofs.places.Places.at.Goals as goal

pub bounds-self-at : goal.bounds-self-at
bounds-self-at c = subst (λ n. c.args.at < n) (shifted_length c.args.self.now.shift c.args.self.now.words.now) c.requires.within

pub returns : goal.returns
returns c = record {
  place = λ d. c.shifted.ensures.place ∙ shifted_at c.args.self.now.shift c.args.self.now.words.now c.args.at 0 d (subst (λ n. c.args.at < n) (shifted_length c.args.self.now.shift c.args.self.now.words.now) c.requires.within);
}
