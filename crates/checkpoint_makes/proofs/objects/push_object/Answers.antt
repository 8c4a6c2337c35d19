use Rattle.std.proofs.Common.{◌≡◌, ◌∙◌, Some, sym, ap, subst}
use Rattle.code_table.specs.declared.class.Class.{Class}
use Rattle.code_table.specs.Classes.{class_at}
use Rattle.frozen_code.specs.Objects.{restored_places}
use Rattle.checkpoint_makes.specs.Objects.{HoldsObject, object_redex}
use Rattle.checkpoint_makes.proofs.ObjectLemmas.{object_held, object_pushed, object_redexes}
use Rattle.checkpoint_makes.proofs.objects.push_object.Goals as goal

pub hold_redex-requires : goal.hold_redex-requires
hold_redex-requires c =
    let fs = c.args.fields.items in
    let ms = c.args.methods.items in
    record { redex = (object_redex fs ms, object_redexes fs ms _ c.requires.proper c.in_ok-term.ensures.term) }

pub all_places-requires : goal.all_places-requires
all_places-requires c =
    let fs = c.args.fields.items in
    let ms = c.args.methods.items in
    let held = c.in_ok-held.ensures.redex (object_redex fs ms) (object_redexes fs ms _ c.requires.proper c.in_ok-term.ensures.term) in
    record { object = subst (λ ks. HoldsObject ks c.in_ok-held.held) (sym c.deref.ensures.value) (object_held _ c.in_ok-held.held fs ms (c.in_ok-held.ensures.grows.table c.requires.table) held) }

pub returns : goal.returns
returns c =
    let fs = c.args.fields.items in
    let ms = c.args.methods.items in
    let held = c.in_ok-held.ensures.redex (object_redex fs ms) (object_redexes fs ms _ c.requires.proper c.in_ok-term.ensures.term) in
    let places : (k : Class) → class_at c.hold_redex.new.nodes.items c.in_ok-held.held.node ≡ Some k → c.in_ok-places.places.items ≡ restored_places k c.in_ok-held.held.done.items c.in_ok-held.held.places.items = λ k at. c.in_ok-places.ensures.places k (ap (λ ks. class_at ks c.in_ok-held.held.node) c.deref.ensures.value ∙ at) in
    record { pushed = object_pushed _ _ c.in_ok-held.held fs ms _ _ _ _ c.requires.table c.in_ok-held.ensures.grows held places c.deref-2.ensures.value c.in_ok-push_object.ensures.items }
