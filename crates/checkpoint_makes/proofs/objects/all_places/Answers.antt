use Rattle.std.proofs.Common.{◌≡◌, ◌∙◌, None, Some, length, sym, ap, subst}
use Rattle.code_table.specs.declared.class.Class.{Class}
use Rattle.code_table.specs.Classes.{class_at, seen_class}
use Rattle.frozen_code.specs.Objects.{AreKept}
use Rattle.checkpoint_makes.proofs.ObjectLemmas.{class_held, class_kept}
use Rattle.checkpoint_makes.proofs.objects.all_places.Goals as goal

no_class : {c : Class} → None ≡ Some c → ⊥
no_class e = cc

same_class : (c d : Class) → Some c ≡ Some d → c ≡ d
same_class c d e = cc

pub unreachable-requires : goal.unreachable-requires
unreachable-requires c =
    let k = class_held c.args.nodes.now c.args.held.now c.requires.object in
    no_class (ap seen_class (sym c.in-None.is) ∙ c.class_in.ensures.class ∙ k.1)

pub object_places-requires : goal.object_places-requires
object_places-requires c =
    let k = c.in-Some.class.now in
    let at : class_at c.args.nodes.now c.args.held.now.node ≡ Some k = sym c.class_in.ensures.class ∙ ap seen_class c.in-Some.is in
    record { kept = subst (λ ps. AreKept (length ps) k.methods.items) (sym c.deref-in-Some.ensures.value) (class_kept c.args.nodes.now c.args.held.now k c.requires.object at) }
