use Rattle.std.proofs.Common.{◌≡◌, IfNone, IfSome, Option, ℕ, true, false, rules, subst, sym}
use Rattle.replay_parts.specs.Numbers.{IsFrontLeast, IsLeastOf, holds}
use Rattle.replay_parts.proofs.NumberLemmas.{none_held, other_least}
use Rattle.replay_parts.proofs.numbers.Numbers.first.Goals as goal

pub returns-then-is_front_least : goal.returns-then-is_front_least
returns-then-is_front_least c =
    let n = c.args.self.now in
    let yes : c.is_front_least.result ≡ true = search rules in
    let x : IsFrontLeast n true = subst (IsFrontLeast n) yes c.is_front_least.ensures.least in
    record {
      least = subst (λ (o : Option ℕ). IfSome o (IsLeastOf n)) (sym x.1) x.2;
      none = subst (λ (o : Option ℕ). IfNone o ((k : ℕ) → holds n k ≡ false)) (sym x.1) tt;
    }

pub returns-in-Some : goal.returns-in-Some
returns-in-Some c =
    let n = c.args.self.now in
    let no : c.is_front_least.result ≡ false = search rules in
    record {
      least = other_least n c.in-Some.first.now (subst (IsFrontLeast n) no c.is_front_least.ensures.least) c.in-Some.ensures.member c.in-Some.ensures.least;
      none = tt;
    }

pub returns-in-None : goal.returns-in-None
returns-in-None c =
    let n = c.args.self.now in
    let no : c.is_front_least.result ≡ false = search rules in
    record {
      least = tt;
      none = none_held n (subst (IsFrontLeast n) no c.is_front_least.ensures.least) (λ more. let bad : false ≡ true = c.in-None.ensures.variant.1 more in absurd cc);
    }
