use Rattle.std.proofs.Common.{◌≡◌, ◌++◌, List, ℕ, Option, Some, OnOk, sym, ap, subst, ◌∙◌}
use Rattle.asp_model.specs.Store.{reached}
use Rattle.code_table.specs.declared.class.Class.{Class}
use Rattle.code_table.specs.Places.{placed}
use Rattle.code_table.specs.Classes.{class_at}
use Rattle.code_table.specs.Shapes.{class_object}
use Rattle.code_table.specs.declared.cells.Object.{Object}
use Rattle.deep_copy.specs.Reached.{class_places, object_shape}
use Rattle.deep_copy.proofs.ReachedLemmas.{object_reached}
use Rattle.deep_copy.proofs.reached.note_object.Goals as goal

pub returns-in-Some : goal.returns-in-Some
returns-in-Some c =
    let code = c.args.code.now in
    let o : Object = c.args.object in
    let k = c.in-Some.class.now in
    let class : class_at code o.class ≡ Some k = sym c.in-Some.ensures.class in
    let noted : class_places k (placed o.places) ≡ reached (object_shape code o) =
    object_reached code k (placed o.places) c.in-Some.ensures.sound
    ∙ ap (λ (x : Option Class). reached (class_object code (placed o.places) x)) (sym class) in
    subst (λ (xs : List ℕ). OnOk c.note_places.result (c.note_places.new.places.items ≡ c.args.places.now.items ++ xs)) noted c.note_places.ensures
