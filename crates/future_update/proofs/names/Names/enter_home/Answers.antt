use Rattle.asp_model.specs.Shapes.{future_shape}
use Rattle.future_update.specs.Names.{names_in}
use Rattle.future_update.proofs.NameLemmas.{future_numbered, keeps_then, number_kept}
use Rattle.future_update.proofs.names.Names.enter_home.Goals as goal

pub returns-clause-keeps : goal.returns-clause-keeps
returns-clause-keeps c = keeps_then (names_in c.args.self.now) (names_in c.enter_near.new.self) (names_in c.enter_one_of.new.self) c.enter_near.ensures.keeps c.enter_one_of.ensures.keeps

pub returns-clause-future : goal.returns-clause-future
returns-clause-future c =
    let f = future_shape c.args.future.now in
    let ns = names_in c.enter_near.new.self in
    let ms = names_in c.enter_one_of.new.self in
    future_numbered ms f c.in_ok-by.by (number_kept ns ms f.by c.in_ok-by.by c.enter_one_of.ensures.keeps c.in_ok-by.ensures.number)
