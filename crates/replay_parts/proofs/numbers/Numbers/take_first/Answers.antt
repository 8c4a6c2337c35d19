use Rattle.std.proofs.Common.{◌≡◌, IfNone, IfSome, None, Option, ℕ, true, false, arith, refl, rules, subst, sym}
use Rattle.replay_parts.specs.declared.numbers.Numbers.{Numbers}
use Rattle.replay_parts.specs.Numbers.{IsFrontLeast, IsLeastTaken, holds}
use Rattle.replay_parts.proofs.NumberLemmas.{first_taken, front_taken, none_held, other_least}
use Rattle.replay_parts.proofs.numbers.Numbers.take_first.Goals as goal

pub returns-then-is_front_least : goal.returns-then-is_front_least
returns-then-is_front_least c =
    let old : Numbers = c.args.self.now in
    let new : Numbers = record old { front = None } in
    let yes : c.is_front_least.result ≡ true = search rules in
    let x : IsFrontLeast old true = subst (IsFrontLeast old) yes c.is_front_least.ensures.least in
    record {
      taken = subst (λ (o : Option ℕ). IfSome o (λ k. IsLeastTaken old k new)) (sym x.1) (front_taken old new x.0 x.2 x.1 refl);
      none = subst (λ (o : Option ℕ). IfNone o ((k : ℕ) → holds old k ≡ false)) (sym x.1) tt;
    }

pub returns-in-Some : goal.returns-in-Some
returns-in-Some c =
    let old : Numbers = c.args.self.now in
    let new : Numbers = record old { others = c.pop_first.new.self } in
    let no : c.is_front_least.result ≡ false = search rules in
    let least = other_least old c.in-Some.number (subst (IsFrontLeast old) no c.is_front_least.ensures.least) c.in-Some.ensures.member c.in-Some.ensures.least in
    record {
      taken = first_taken old new c.in-Some.number least c.in-Some.ensures.updates refl (omega (arith, c.in-Some.ensures.len));
      none = tt;
    }

pub returns-in-None : goal.returns-in-None
returns-in-None c =
    let old : Numbers = c.args.self.now in
    let no : c.is_front_least.result ≡ false = search rules in
    record {
      taken = tt;
      none = none_held old (subst (IsFrontLeast old) no c.is_front_least.ensures.least) (λ more. let bad : false ≡ true = c.in-None.ensures.variant.1 more in absurd cc);
    }
