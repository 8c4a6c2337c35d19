use Rattle.std.proofs.Common.{[], ◌∷◌, refl}
use Rattle.std.specs.Arc.{arc_value}
use Rattle.asp_model.specs.Configuration.{begun}
use Rattle.asp_model.specs.Store.{Object}
use Rattle.code_table.specs.Pieces.{tree}
use Rattle.code_table.specs.Sound.{root_of}
use Rattle.code_table.specs.Tables.{piece_at, pieces}
use Rattle.step_activity.proofs.actor.Actor.main.Goals as goal

pub returns-clause-stands : goal.returns-clause-stands
returns-clause-stands c =
    let k = arc_value c.args.code in
    c.begin.ensures.stands (begun (tree [] (piece_at (pieces k) (root_of k))) (Object [] [] ∷ [])) c.in_ok-main.ensures.stands refl refl refl
