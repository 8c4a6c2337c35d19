use Rattle.std.proofs.Common.{◌≡◌, refl, ap, subst}
use Rattle.std.specs.Arc.{arc_value}
use Rattle.asp_model.specs.declared.name.FutureName.{FutureName}
use Rattle.asp_model.specs.Shapes.{future_shape}
use Rattle.code_table.specs.declared.future.Future.{Future}
use Rattle.request_queue.specs.Requests.{request_shape}
use Rattle.def_journals.specs.Edges.{Begins, after_event}
use Rattle.core_edges.specs.Passing.{ArePassed, futures_held, one_future}
use Rattle.core_edges.proofs.AnswerLemmas.{on_ok}
use Rattle.core_edges.proofs.PassingLemmas.{passes_are, sent_is}
use Rattle.core_edges.proofs.edges.Edges.sent.Goals as goal

pub returns : goal.returns
returns g c =
    let r = c.args.request.now in
    let by = c.args.by.now in
    let home = c.args.home.now in
    let cells = r.arguments.cells.items in
    let first = c.learn.new.self in
    let begun = record first { holders = c.sent.new.self } in
    let named : c.deref.result.now.name ≡ (arc_value r.future).name = ap (λ (f : Future). f.name) c.deref.ensures in
    let begins = subst (λ (f : FutureName). c.sent.new.self.holders ≡ after_event (Begins (future_shape f) home) first.holders.holders) named c.in_ok-sent.ensures.begun in
    let passed = subst (λ (f : FutureName). ArePassed g.P.UpdatePolicy.answer g.P.UpdatePolicy.asked (one_future (future_shape f)) home by begun c.pass.new.self) named c.in_ok-pass.ensures.passed in
    record {
      sent = on_ok c.pass_cells.result (sent_is g.P.UpdatePolicy.answer g.P.UpdatePolicy.asked by home (request_shape r) (futures_held cells) (passes_are (arc_value r.arguments.code) cells by home)
          c.args.self.now first begun c.pass.new.self c.pass_cells.new.self
          c.in_ok-learn.ensures.learned c.in_ok-learn.ensures.rest begins c.sent.ensures.answers refl (record { activities = c.sent.ensures.activities; plan = refl; strategies = refl })
          passed) c.pass_cells.ensures.passed;
    }
