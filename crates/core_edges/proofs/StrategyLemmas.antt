-- Strategies that are learned.
use Rattle.std.proofs.Common.{◌≡◌, ◌≢◌, true, false, Option, refl, ap, ◌⊎◌, inl, inr, ⊎_elim}
use Rattle.std.specs.BTreeMap as trees
use Rattle.std.specs.BTreeMap.{BTreeMap, is_at}
use Rattle.std.specs.Map.{lookup}
use Rattle.std.specs.Ordering.{is_eq}
use Rattle.std.specs.declared.cmp.Ordering.{Ordering}
use Rattle.asp_model.specs.declared.name.FutureName.{FutureName}
use Rattle.asp_model.specs.contracts.name.FutureNameOrd.TheImpl as ordering
use Rattle.asp_model.specs.Names.{FutureShape, same_future}
use Rattle.asp_model.specs.Order.{same_future_same}
use Rattle.asp_model.specs.Shapes.{future_shape}
use Rattle.update_policy.specs.declared.strategy.Strategy.{Strategy}
use Rattle.update_policy.specs.Plans.{or_strategy}

abbrev pub future_order : FutureName → FutureName → Ordering
future_order = ordering.ghosts.cmp

abbrev named : FutureShape → FutureName
named f = record { by = f.by; index = f.index }

key_case : (f g : FutureName) → (f ≡ g) ⊎ (is_at (future_order f) g ≡ false)
key_case f g = elim (is_eq (future_order f g)) as (λ b. is_eq (future_order f g) ≡ b → (f ≡ g) ⊎ (b ≡ false)) [
  | true ↦ λ e. inl (ap named (same_future_same (future_shape f) (future_shape g) e))
  | false ↦ λ e. inr refl
] refl

-- the strategies of other futures stay
pub others_keep : (usual : Strategy) (old new : BTreeMap FutureName Strategy) (f : FutureName) (o : Option Strategy) → trees.UpdatesBy future_order (future_order f) old new o
    → (g : FutureShape) → future_shape f ≢ g
    → or_strategy usual (lookup (λ h. same_future g (future_shape h)) new.entries) ≡ or_strategy usual (lookup (λ h. same_future g (future_shape h)) old.entries)
others_keep usual old new f o u g d = ⊎_elim
    (λ e. absurd (d (ap future_shape e)))
    (λ e. ap (or_strategy usual) (u.2 (named g) e))
    (key_case f (named g))
