-- The order of names tells names apart, and so does that of futures.
use Rattle.std.specs.Prelude.{◌≡◌, true}
use Rattle.std.proofs.Common.{refl, sym, subst, T}
use Rattle.std.specs.declared.cmp.Ordering.{Ordering}
use Rattle.std.specs.declared.cmp.Ordering.TheVariants.{Less, Equal, Greater}
use Rattle.std.specs.Ordering.{is_eq, nat_cmp, ordering_then}
use Rattle.std.specs.FinMap.{slice_cmp-IsAntisymmetric, nat_cmp-IsAntisymmetric}
use Rattle.asp_model.specs.Names.{Name, FutureShape, name_cmp, future_cmp, same_name, same_future}

-- what is compared as equal has the order Equal
pub equal_order : (r : Ordering) → is_eq r ≡ true → r ≡ Equal
equal_order Less e = absurd (subst T (sym e) tt)
equal_order Equal e = refl
equal_order Greater e = absurd (subst T (sym e) tt)

-- names without a difference in their order are equal
pub name_cmp_same : (x y : Name) → name_cmp x y ≡ Equal → x ≡ y
name_cmp_same x y e = slice_cmp-IsAntisymmetric nat_cmp-IsAntisymmetric x y e

-- names that are told as the same are equal
pub same_name_same : (x y : Name) → same_name x y ≡ true → x ≡ y
same_name_same x y e = name_cmp_same x y (equal_order (name_cmp x y) e)

both_equal : (r s : Ordering) → ordering_then r s ≡ Equal → (r ≡ Equal) × (s ≡ Equal)
both_equal Less s e = absurd (subst (λ r. T (is_eq r)) (sym e) tt)
both_equal Equal s e = (refl, e)
both_equal Greater s e = absurd (subst (λ r. T (is_eq r)) (sym e) tt)

-- futures without a difference in their order are equal
pub future_cmp_same : (f g : FutureShape) → future_cmp f g ≡ Equal → f ≡ g
future_cmp_same f g e =
    let es = both_equal (name_cmp f.by g.by) (nat_cmp f.index g.index) e in
    λ i. record { by = name_cmp_same f.by g.by es.0 i; index = nat_cmp-IsAntisymmetric f.index g.index es.1 i }

-- futures that are told as the same are equal
pub same_future_same : (f g : FutureShape) → same_future f g ≡ true → f ≡ g
same_future_same f g e = future_cmp_same f g (equal_order (future_cmp f g) e)
