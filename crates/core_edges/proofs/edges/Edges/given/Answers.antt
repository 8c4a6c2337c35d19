use Rattle.std.proofs.Common.{◌≡◌, List, IsSome, refl, sym, ap, ◌∙◌, subst}
use Rattle.asp_model.specs.Configuration as model
use Rattle.asp_model.specs.Configuration.{RequestShape}
use Rattle.asp_model.specs.declared.name.FutureName.{FutureName}
use Rattle.asp_model.specs.Shapes.{future_shape}
use Rattle.code_table.specs.declared.future.Future.{Future}
use Rattle.code_table.specs.Cells.{held_future}
use Rattle.def_journals.specs.Edges.{home_of}
use Rattle.future_update.specs.Changes.{once_filled}
use Rattle.code_table.specs.Shapes.{parcel_shape, store_of}
use Rattle.request_queue.specs.Requests.{request_shape}
use Rattle.step_activity.specs.Actors.{Stands, code_of}
use Rattle.step_activity.specs.Effects.{IsGiven}
use Rattle.core_edges.specs.Answers.{AreAnswered}
use Rattle.core_edges.specs.Given.{IsSomeFresh}
use Rattle.core_edges.specs.Strategies.{strategy_in}
use Rattle.core_edges.proofs.AnswerLemmas.{none_answered, on_ok}
use Rattle.core_edges.proofs.GivenLemmas.{filled_given, filled_once, made_given, polled_given, sent_given}
use Rattle.core_edges.proofs.LabelLemmas.{labels_learned, labels_stay}
use Rattle.core_edges.proofs.PassingLemmas.{same_strategies}
use Rattle.core_edges.proofs.edges.Edges.given.Goals as goal

pub sent-requires : goal.sent-requires
sent-requires g c =
    let x = subst (IsSomeFresh c.args.self.now.holders.holders) c.in-Sent.is c.requires.fresh in
    record { new = x.3.sent (c.in-Sent.home, request_shape c.in-Sent.request) x.2.0 }

pub filled-requires : goal.filled-requires
filled-requires g c =
    let x = subst (IsSomeFresh c.args.self.now.holders.holders) c.in-Filled.is c.requires.fresh in
    let named = ap (λ (f : Future). f.name) c.deref.ensures in
    let told : IsSome (home_of (held_future c.in-Filled.future) c.args.self.now.holders.holders.homes) = x.3.begun (held_future c.in-Filled.future, parcel_shape c.in-Filled.field-1) x.2.2 in
    record { told = subst (λ (f : FutureName). IsSome (home_of (future_shape f) c.args.self.now.holders.holders.homes)) (sym named) told }

pub returns-in-Nothing-clause-answers : goal.returns-in-Nothing-clause-answers
returns-in-Nothing-clause-answers g c = none_answered g.P.UpdatePolicy.answer g.P.UpdatePolicy.asked (strategy_in c.args.self.now) c.args.self.now c.args.self.now refl refl refl

pub returns-in-Made-clause-holders : goal.returns-in-Made-clause-holders
returns-in-Made-clause-holders g c e given =
    let is = subst (IsGiven c.args.by.now e) c.in-Made.is given in
    let cells = c.store.result.now.cells in
    let held = subst (λ x. (a : model.Activity) (rs : List RequestShape) → Stands x a rs → store_of (code_of x) cells ≡ a.store) c.as_ref.ensures c.store.ensures.store in
    let told = made_given c.args.by.now e c.in-Made.name c.in-Made.actor cells held is c.args.self.now.holders.holders in
    on_ok c.pass_store.result (λ passed. passed.holders ∙ sym told) c.pass_store.ensures.passed

pub returns-in-Made-clause-answers : goal.returns-in-Made-clause-answers
returns-in-Made-clause-answers g c =
    on_ok c.pass_store.result (λ passed. subst (λ s. AreAnswered g.P.UpdatePolicy.answer g.P.UpdatePolicy.asked s c.args.self.now c.pass_store.new.self) (sym (same_strategies g.P.UpdatePolicy.answer g.P.UpdatePolicy.asked c.args.self.now c.pass_store.new.self passed.others)) passed.answered) c.pass_store.ensures.passed

pub returns-in-Sent-clause-holders : goal.returns-in-Sent-clause-holders
returns-in-Sent-clause-holders g c e given =
    let is = subst (IsGiven c.args.by.now e) c.in-Sent.is given in
    let told = sent_given c.args.by.now e c.in-Sent.home c.in-Sent.request is c.args.self.now.holders.holders in
    on_ok c.sent.result (λ sent. sent.holders ∙ sym told) c.sent.ensures.sent

pub returns-in-Filled-clause-holders : goal.returns-in-Filled-clause-holders
returns-in-Filled-clause-holders g c e given =
    let old = c.args.self.now.holders.holders in
    let f = held_future c.in-Filled.future in
    let is = subst (IsGiven c.args.by.now e) c.in-Filled.is given in
    let x = subst (IsSomeFresh old) c.in-Filled.is c.requires.fresh in
    let new = filled_once f old (x.3.filled (f, parcel_shape c.in-Filled.field-1) x.2.2) in
    let named = ap (λ (f : Future). once_filled (future_shape f.name) old) c.deref.ensures in
    c.filled.ensures.filled ∙ named ∙ new ∙ sym (filled_given c.args.by.now e c.in-Filled.future c.in-Filled.field-1 is old)

pub returns-in-Filled-clause-answers : goal.returns-in-Filled-clause-answers
returns-in-Filled-clause-answers g c =
    let old = c.args.self.now in
    let f = held_future c.in-Filled.future in
    let x = subst (IsSomeFresh old.holders.holders) c.in-Filled.is c.requires.fresh in
    let new = filled_once f old.holders.holders (x.3.filled (f, parcel_shape c.in-Filled.field-1) x.2.2) in
    let named = ap (λ (f : Future). once_filled (future_shape f.name) old.holders.holders) c.deref.ensures in
    none_answered g.P.UpdatePolicy.answer g.P.UpdatePolicy.asked (strategy_in (record old { holders = c.filled.new.self })) old (record old { holders = c.filled.new.self }) (ap (λ h. h.edges) (c.filled.ensures.filled ∙ named ∙ new)) c.filled.ensures.answers refl

pub returns-in-Nothing-clause-labels : goal.returns-in-Nothing-clause-labels
returns-in-Nothing-clause-labels g c homes d n e new given labels =
    let is = subst (IsGiven n e) c.in-Nothing.is given in
    labels_stay homes d n e c.args.self.now c.args.self.now refl labels is.0 (λ f. refl)

pub returns-in-Made-clause-labels : goal.returns-in-Made-clause-labels
returns-in-Made-clause-labels g c homes d n e new given labels =
    let is = subst (IsGiven n e) c.in-Made.is given in
    on_ok c.pass_store.result (λ passed. labels_stay homes d n e c.args.self.now c.pass_store.new.self passed.others.plan labels is.0 (λ f. ap (λ s. s f) (same_strategies g.P.UpdatePolicy.answer g.P.UpdatePolicy.asked c.args.self.now c.pass_store.new.self passed.others))) c.pass_store.ensures.passed

pub returns-in-Sent-clause-labels : goal.returns-in-Sent-clause-labels
returns-in-Sent-clause-labels g c homes d n e new given labels =
    let is = subst (IsGiven n e) c.in-Sent.is given in
    on_ok c.sent.result (λ sent. labels_learned homes d n e c.args.self.now c.sent.new.self sent.plan labels (c.in-Sent.home, request_shape c.in-Sent.request) is.0 new sent.learned) c.sent.ensures.sent

pub returns-in-Filled-clause-labels : goal.returns-in-Filled-clause-labels
returns-in-Filled-clause-labels g c homes d n e new given labels =
    let is = subst (IsGiven n e) c.in-Filled.is given in
    labels_stay homes d n e c.args.self.now (record c.args.self.now { holders = c.filled.new.self }) refl labels is.0 (λ f. refl)

-- A poll

pub returns-in-Polled-clause-holders : goal.returns-in-Polled-clause-holders
returns-in-Polled-clause-holders g c e given = sym (polled_given c.args.by.now e (subst (IsGiven c.args.by.now e) c.in-Polled.is given) c.args.self.now.holders.holders)

pub returns-in-Polled-clause-answers : goal.returns-in-Polled-clause-answers
returns-in-Polled-clause-answers g c = none_answered g.P.UpdatePolicy.answer g.P.UpdatePolicy.asked (strategy_in c.args.self.now) c.args.self.now c.args.self.now refl refl refl

pub returns-in-Polled-clause-labels : goal.returns-in-Polled-clause-labels
returns-in-Polled-clause-labels g c homes d n e new given labels =
    let is = subst (IsGiven n e) c.in-Polled.is given in
    labels_stay homes d n e c.args.self.now c.args.self.now refl labels is.0 (λ f. refl)
