use Rattle.std.proofs.Common.{◌≡◌, List, [], ◌∷◌, sym, ap, subst, ◌∙◌}
use Rattle.std.specs.Arc.{arc_value}
use Rattle.asp_model.specs.Term.{Tree}
use Rattle.asp_model.specs.Store as store
use Rattle.asp_model.specs.Store.{CellShape}
use Rattle.code_table.specs.declared.code.Node.{Node}
use Rattle.code_table.specs.Pieces.{tree}
use Rattle.code_table.specs.Sound.{IsSound, root_of}
use Rattle.code_table.specs.Tables.{piece_at, pieces}
use Rattle.code_table.specs.Shapes.{store_of}
use Rattle.step_machine.specs.Standing.{View, Standing, view_of}
use Rattle.activity_step.specs.Starting.{start_view}
use Rattle.activity_step.proofs.ObjectLemmas.{empty_object}
use Rattle.activity_step.proofs.StartLemmas.{program_stands}
use Rattle.activity_step.proofs.activity.Activity.main.Goals as goal

pub returns-clause-stands : goal.returns-clause-stands
returns-clause-stands c =
    let k : List Node = arc_value c.args.code in
    let sound : IsSound k = subst IsSound c.deref.ensures c.code_is_sound.ensures.sound in
    let program : Tree = tree [] (piece_at (pieces k) (root_of k)) in
    let view : view_of c.machine_at-machine.result ≡ start_view (root_of k) = c.machine_at-machine.ensures.view ∙ ap start_view (c.root.ensures.root ∙ ap root_of c.deref-2.ensures) in
    let cells : store_of k c.in_ok-store.store.cells ≡ store.Object [] [] ∷ [] = ap (store_of k) c.in_ok-store.ensures.cells ∙ ap (λ (d : CellShape). d ∷ []) (empty_object k sound) in
    c.begin.ensures.stands program (store.Object [] [] ∷ []) (subst (λ (v : View). Standing k v program []) (sym view) (program_stands k sound)) cells
