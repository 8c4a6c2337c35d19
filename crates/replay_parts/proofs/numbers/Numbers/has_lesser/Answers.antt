use Rattle.std.proofs.Common.{◌≡◌, nat_lt, true, false}
use Rattle.std.proofs.lemmas.Bool.{ltb-true, ltb-false}
use Rattle.replay_parts.proofs.NumberLemmas.{lesser_than, none_lesser_than}
use Rattle.replay_parts.proofs.numbers.Numbers.has_lesser.Goals as goal

pub returns-in-Some : goal.returns-in-Some
returns-in-Some c =
    let f = c.in-Some.first.now in
    let k = c.args.number in
    record { lesser = lesser_than c.args.self.now f k c.in-Some.ensures.member c.in-Some.ensures.least (nat_lt f k) (ltb-true f k) (ltb-false f k) }

pub returns-in-None : goal.returns-in-None
returns-in-None c = record {
  lesser = none_lesser_than c.args.self.now c.args.number (λ more. let bad : false ≡ true = c.in-None.ensures.variant.1 more in absurd cc);
}
