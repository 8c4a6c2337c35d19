use Rattle.std.proofs.Common.{IfOk, refl, sym, ◌∙◌, subst}
use Rattle.asp_model.specs.Chase.{Values, chase}
use Rattle.asp_model.specs.Configuration as model
use Rattle.asp_model.specs.Intent.{Intent}
use Rattle.future_table.specs.Values.{values_of}
use Rattle.step_reads.specs.declared.strict.Strict.{Strict}
use Rattle.step_reads.specs.Strict.{strict_ready}
use Rattle.step_activity.specs.declared.actor.Actor.{Actor}
use Rattle.step_activity.specs.declared.act.Given.TheVariants as given
use Rattle.step_activity.specs.Actors.{HasOperands, IsClosedFor, Stands}
use Rattle.step_activity.specs.Effects.{IsDoneBy}
use Rattle.step_activity.proofs.FetchLemmas.{Fetched, closed_over, fetched_lacks, fetched_reads}
use Rattle.step_activity.proofs.IntentLemmas.{intent_lacks, intent_over}
use Rattle.step_activity.proofs.StandLemmas.{closed_with, stands_with}
use Rattle.step_activity.proofs.actor.Actor.reduce.Goals as goal

pub contract-requires : goal.contract-requires
contract-requires c =
    let x : Actor = c.args.self.now in
    let h : IsClosedFor x = c.requires.closed in
    let a : model.Activity = h.activity in
    let y = c.fetch_all.new.activity in
    let values : Values = values_of c.args.futures.now in
    let z : Strict = c.args.strict in
    let ops : HasOperands a z = c.requires.operands a h.stands.activity in
    let f : Fetched a (strict_ready (chase values) a.store z) y = fetched_reads a (strict_ready (chase values) a.store z) y c.in_ok-fetch_all.field-0 c.if-branch.true (c.in_ok-fetch_all.ensures.fetched a h.stands.activity) in
    let b : model.Activity = record a { store = f.store } in
    record { closed = closed_with x y h b f.stands c.in_ok-fetch_all.ensures.code refl refl refl (closed_over values a ops.contexts ops.redex f.store c.requires.values h.closed ops.splits (ops.ready (chase values) ∙ f.reads)) }

pub returns-then-branch-clause-acts : goal.returns-then-branch-clause-acts
returns-then-branch-clause-acts c = λ a rs h.
    let x : Actor = c.args.self.now in
    let y = c.fetch_all.new.activity in
    let chases = chase (values_of c.args.futures.now) in
    let n = c.args.name.now in
    let z : Strict = c.args.strict in
    let ops : HasOperands a z = c.requires.operands a h.activity in
    let f : Fetched a (strict_ready chases a.store z) y = fetched_reads a (strict_ready chases a.store z) y c.in_ok-fetch_all.field-0 c.if-branch.true (c.in_ok-fetch_all.ensures.fetched a h.activity) in
    let b : model.Activity = record a { store = f.store } in
    let now : Stands (record x { activity = y; clear = 0 }) b rs = stands_with x y a b rs h f.stands c.in_ok-fetch_all.ensures.code refl refl refl in
    subst (λ (i : Intent). IfOk c.contract.result (IsDoneBy n i rs c.contract.new.self)) (sym (intent_over chases rs n a z ops f.store f.reads)) (c.contract.ensures.contracts b rs ops.contexts ops.redex now ops.splits)

pub returns-else-branch-clause-acts : goal.returns-else-branch-clause-acts
returns-else-branch-clause-acts c = λ a rs h.
    let x : Actor = c.args.self.now in
    let y = c.fetch_all.new.activity in
    let chases = chase (values_of c.args.futures.now) in
    let n = c.args.name.now in
    let z : Strict = c.args.strict in
    let ops : HasOperands a z = c.requires.operands a h.activity in
    let lacks = fetched_lacks a (strict_ready chases a.store z) y c.in_ok-fetch_all.field-0 c.if-branch.false (c.in_ok-fetch_all.ensures.fetched a h.activity) in
    subst (λ (i : Intent). IsDoneBy n i rs (record x { activity = y; clear = 0 }) given.Nothing) (sym (intent_lacks chases rs n a z ops lacks.0 lacks.1)) tt
