use Rattle.std.proofs.Common.{◌≡◌, ◌≤◌, Some, None, length, refl, rules, sym, ap, subst, ◌∙◌, arith}
use Rattle.asp_model.specs.History.{Delivered, Edge, Need}
use Rattle.asp_model.specs.Shapes.{future_shape}
use Rattle.def_journals.specs.Deliveries.{edge_delivered, need_delivered}
use Rattle.replay_population.specs.Deliveries.{IsDelivered}
use Rattle.replay_parts.proofs.ResultLemmas.{if_ok}
use Rattle.journal_runs.specs.declared.runs.JournalRun.{JournalRun}
use Rattle.journal_runs.specs.Receivers.{IsPlaceOf, IsReceiver}
use Rattle.journal_runs.proofs.EntryLemmas.{edge_not_in, edge_redone_if, from_nobody, need_not_in, need_past, need_redone_if, refused}
use Rattle.journal_runs.proofs.RunFacts.{is_closed}
use Rattle.journal_runs.proofs.runs.JournalRun.deliver_need.Goals as goal

pub deliver_need-requires-clause-closed : goal.deliver_need-requires-clause-closed
deliver_need-requires-clause-closed c = let r = c.requires.run in (r.3.configuration, is_closed c.args.self.now r.0 r.1 r.2 r.3 r.4)

pub deliver_need-requires-clause-known : goal.deliver_need-requires-clause-known
deliver_need-requires-clause-known c = (c.args.to.now, (subst (IsReceiver c.args.self.now c.args.to.now) c.in-Some.is c.receiver.ensures.receiver).0)

pub returns-in_default : goal.returns-in_default
returns-in_default c = record {
  delivered = λ program budget entries s r.
      let x : JournalRun = c.args.self.now in
      let f = future_shape c.args.future.now in
      refused x x program budget entries s r (Delivered (Need f c.args.to.now c.args.loc)) (need_not_in x x program budget entries s r f c.args.to.now c.args.loc (subst (IsReceiver x c.args.to.now) c.in_default.is c.receiver.ensures.receiver));
}

pub returns-in_default-place_of : goal.returns-in_default-place_of
returns-in_default-place_of c = record {
  delivered = λ program budget entries s r.
      let x : JournalRun = c.args.self.now in
      let f = future_shape c.args.future.now in
      let h = subst (IsReceiver x c.args.to.now) c.in-Some.is c.receiver.ensures.receiver in
      let past = subst (IsPlaceOf x.population c.in-Some.number c.args.loc) c.in_default-place_of.is c.place_of.ensures.place in
      refused x x program budget entries s r (Delivered (Need f c.args.to.now c.args.loc)) (need_past x x program budget entries s r f c.args.to.now c.in-Some.number c.args.loc h (λ a at. past s.configuration c.args.to.now a r.population h.0 at));
}

pub returns : goal.returns
returns c = record {
  delivered = λ program budget entries s r.
      let x : JournalRun = c.args.self.now in
      let y : JournalRun = record x { population = c.deliver_need.new.self } in
      let f = future_shape c.args.future.now in
      let h = subst (IsReceiver x c.args.to.now) c.in-Some.is c.receiver.ensures.receiver in
      let place : c.in-Some-place_of.place ≡ c.args.loc = subst (IsPlaceOf x.population c.in-Some.number c.args.loc) c.in-Some-place_of.is c.place_of.ensures.place in
      need_redone_if x y program budget entries s r refl refl c.deliver_need.result f c.args.to.now c.in-Some.number c.in-Some-place_of.place c.args.loc place h c.deliver_need.ensures.roster (c.deliver_need.ensures.delivered s.configuration c.args.to.now r.population h.0);
}
