use Rattle.std.proofs.Common.{◌≡◌, ◌≤◌, Some, None, length, refl, rules, sym, ap, subst, ◌∙◌, arith}
use Rattle.asp_model.specs.History.{Delivered, Edge, Need}
use Rattle.asp_model.specs.Shapes.{future_shape}
use Rattle.def_journals.specs.Deliveries.{edge_delivered, need_delivered}
use Rattle.replay_population.specs.Deliveries.{IsDelivered}
use Rattle.replay_parts.proofs.ResultLemmas.{if_ok}
use Rattle.journal_runs.specs.declared.runs.JournalRun.{JournalRun}
use Rattle.journal_runs.specs.Receivers.{IsPlaceOf, IsReceiver}
use Rattle.journal_runs.proofs.EntryLemmas.{edge_not_in, edge_redone_if, from_nobody, need_not_in, need_past, need_redone_if, refused}
use Rattle.journal_runs.proofs.RunFacts.{is_closed}
use Rattle.journal_runs.proofs.runs.JournalRun.deliver_edge.Goals as goal

pub deliver_edge-requires-clause-closed : goal.deliver_edge-requires-clause-closed
deliver_edge-requires-clause-closed c = let r = c.requires.run in (r.3.configuration, is_closed c.args.self.now r.0 r.1 r.2 r.3 r.4)

pub deliver_edge-requires-clause-known : goal.deliver_edge-requires-clause-known
deliver_edge-requires-clause-known c = (c.args.to.now, (subst (IsReceiver c.args.self.now c.args.to.now) c.in-Some-receiver.is c.receiver.ensures.receiver).0)

pub returns-in_default : goal.returns-in_default
returns-in_default c = record {
  delivered = λ program budget entries s r.
      let x : JournalRun = c.args.self.now in
      let f = future_shape c.args.future.now in
      refused x x program budget entries s r (Delivered (Edge f c.args.from.now c.args.to.now)) (from_nobody x x program budget entries s r f c.args.from.now c.args.to.now (sym c.number.ensures.number ∙ c.in_default.is));
}

pub returns-in_default-receiver : goal.returns-in_default-receiver
returns-in_default-receiver c = record {
  delivered = λ program budget entries s r.
      let x : JournalRun = c.args.self.now in
      let f = future_shape c.args.future.now in
      refused x x program budget entries s r (Delivered (Edge f c.args.from.now c.args.to.now)) (edge_not_in x x program budget entries s r f c.args.from.now c.args.to.now (subst (IsReceiver x c.args.to.now) c.in_default-receiver.is c.receiver.ensures.receiver));
}

pub returns : goal.returns
returns c = record {
  delivered = λ program budget entries s r.
      let x : JournalRun = c.args.self.now in
      let y : JournalRun = record x { population = c.deliver_edge.new.self } in
      let f = future_shape c.args.future.now in
      let h = subst (IsReceiver x c.args.to.now) c.in-Some-receiver.is c.receiver.ensures.receiver in
      edge_redone_if x y program budget entries s r refl refl c.deliver_edge.result f c.args.from.now c.args.to.now c.in-Some-receiver.number _ (sym c.number.ensures.number ∙ c.in-Some.is) h c.deliver_edge.ensures.roster (c.deliver_edge.ensures.delivered s.configuration c.args.to.now r.population h.0);
}
