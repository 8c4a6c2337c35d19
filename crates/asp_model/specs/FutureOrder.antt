-- Futures compare in the code as in the definitions.
use Rattle.std.specs.Prelude.{◌≡◌, ℕ, ◌&&◌, Bool, true, false, cond, nat_eq, nat_lt}
use Rattle.std.proofs.Common.{refl, arith}
use Rattle.std.proofs.lemmas.Bool.Decides.{nat_tests}
use Rattle.std.specs.Ordering.{is_eq, nat_cmp, ordering_then}
use Rattle.std.specs.declared.cmp.Ordering.{Ordering}
use Rattle.std.specs.declared.cmp.Ordering.TheVariants.{Less, Equal, Greater}
use Rattle.asp_model.specs.declared.name.FutureName.{FutureName}
use Rattle.asp_model.specs.contracts.name.FutureNamePartialEq.TheImpl as equality
use Rattle.asp_model.specs.contracts.name.FutureNameOrd.TheImpl as ordering
use Rattle.asp_model.specs.Names.{name_cmp, future_cmp, same_future}
use Rattle.asp_model.specs.Shapes.{future_shape}

-- the order of names of futures is that of the definitions
pub cmp_shape : (f g : FutureName) → ordering.ghosts.cmp f g ≡ future_cmp (future_shape f) (future_shape g)
cmp_shape f g = refl

both : (r s : Ordering) (b : Bool) → b ≡ is_eq s → (is_eq r && b) ≡ is_eq (ordering_then r s)
both Less s b e = refl
both Equal s b e = e
both Greater s b e = refl

equal_numbers : (m n : ℕ) → nat_eq m n ≡ is_eq (nat_cmp m n)
equal_numbers m n = by (nat_lt m n) (nat_eq m n) refl refl
  where
    by : (l e : Bool) → nat_lt m n ≡ l → nat_eq m n ≡ e → e ≡ is_eq (cond l Less (cond e Equal Greater))
    by true true p q = absurd (grind (arith, nat_tests))
    by true false p q = refl
    by false true p q = refl
    by false false p q = refl

-- equal names of futures are equal in the definitions
pub eq_shape : (f g : FutureName) → equality.ghosts.eq f g ≡ same_future (future_shape f) (future_shape g)
eq_shape f g =
    both (name_cmp f.by g.by) (nat_cmp f.index g.index) (nat_eq f.index g.index) (equal_numbers f.index g.index)
