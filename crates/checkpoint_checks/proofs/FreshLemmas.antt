-- Futures that are new, list by list.
use Rattle.std.specs.Prelude.{◌≡◌, ◌&&◌, not, Bool, true, false, List, [], ◌∷◌, ◌++◌}
use Rattle.std.proofs.Common.{refl, sym, ap, ◌∙◌}
use Rattle.asp_model.specs.Names.{FutureShape}
use Rattle.checkpoint_checks.specs.Maps.{Futures, with_future, with_futures}
use Rattle.checkpoint_checks.specs.Standing.{are_fresh}

and_assoc : (a b c : Bool) → ((a && b) && c) ≡ (a && (b && c))
and_assoc true b c = refl
and_assoc false b c = refl

pub fresh_both : (xs ys : List FutureShape) (set : Futures) → are_fresh set (xs ++ ys) ≡ (are_fresh set xs && are_fresh (with_futures set xs) ys)
fresh_both [] ys set = refl
fresh_both (x ∷ xs) ys set = ap (λ b. not (set x) && b) (fresh_both xs ys (with_future set x))
    ∙ sym (and_assoc (not (set x)) (are_fresh (with_future set x) xs) (are_fresh (with_futures (with_future set x) xs) ys))

pub with_both : (xs ys : List FutureShape) (set : Futures) → with_futures set (xs ++ ys) ≡ with_futures (with_futures set xs) ys
with_both [] ys set = refl
with_both (x ∷ xs) ys set = with_both xs ys (with_future set x)

pub ruleset fresh_laws = (fresh_both, with_both)
