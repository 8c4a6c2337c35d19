use Rattle.asp_model.specs.Shapes.{delivery_shape}
use Rattle.core_edges.proofs.AnswerLemmas.{on_ok}
use Rattle.core_edges.proofs.PassingLemmas.{noted_answers}
use Rattle.core_edges.proofs.edges.Edges.delivered.Goals as goal

pub returns-in-Edge-clause-answers : goal.returns-in-Edge-clause-answers
returns-in-Edge-clause-answers g c =
    on_ok c.received.result (noted_answers g.P.UpdatePolicy.answer g.P.UpdatePolicy.asked (delivery_shape c.args.delivery.now) c.args.self.now c.note.new.self c.received.new.self c.note.ensures.noted) c.received.ensures.answers
