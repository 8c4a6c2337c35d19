use Rattle.std.proofs.Common.{◌≡◌, List, [], subst}
use Rattle.std.specs.Arc.{arc_value}
use Rattle.std.specs.Option.{option_map}
use Rattle.asp_model.specs.declared.word.Label.{Label}
use Rattle.asp_model.specs.Configuration.{begun}
use Rattle.asp_model.specs.Intent.{start_term}
use Rattle.asp_model.specs.Parcel.{unpack}
use Rattle.asp_model.specs.Store.{Store}
use Rattle.asp_model.specs.Term.{Tree}
use Rattle.code_table.specs.declared.code.Node.{Node}
use Rattle.code_table.specs.Sound.{IsSound}
use Rattle.code_table.specs.Shapes.{parcel_shape, store_of}
use Rattle.step_machine.specs.Standing.{Standing, view_of}
use Rattle.activity_step.specs.Activities.{StandsFor}
use Rattle.activity_step.proofs.activity.Activity.made.Goals as goal

pub returns-clause-stands : goal.returns-clause-stands
returns-clause-stands c =
    let k : List Node = arc_value c.args.object.code in
    let sound : IsSound k = subst IsSound c.deref.ensures c.code_is_sound.ensures.sound in
    let term : Tree = start_term (option_map (λ (l : Label). l.text) c.args.service) 0 in
    let s : Store = unpack [] (parcel_shape c.args.object) in
    subst (λ (q : List Node). (t : Tree) (s : Store) → Standing q (view_of c.in_ok-machine.machine) t [] → store_of q c.in_ok-code.store.cells ≡ s → StandsFor c.begin.result (begun t s)) c.in_ok-code.ensures.code c.begin.ensures.stands term s (c.in_ok-machine.ensures.stands k sound) c.in_ok-code.ensures.cells
