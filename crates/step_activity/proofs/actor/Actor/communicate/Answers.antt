use Rattle.std.proofs.Common.{◌≡◌, ◌∙◌, IfOk, Option, Some, None, map, sym, subst}
use Rattle.asp_model.specs.Configuration as model
use Rattle.asp_model.specs.Contraction.{Communication, Creates, Polls, Sends, Serves}
use Rattle.asp_model.specs.Intent.{Numbered, communicates, creates, labels_served, oldest_match, sends, serves}
use Rattle.asp_model.specs.Names.{Name, Text}
use Rattle.asp_model.specs.Store.{cell}
use Rattle.law_chases.proofs.FutureLemmas.{some_is}
use Rattle.request_queue.specs.Requests.{request_shape}
use Rattle.serve_rules.specs.Labels.{label_text}
use Rattle.step_activity.specs.declared.actor.Actor.{Actor}
use Rattle.step_activity.specs.declared.act.Given.TheVariants as given
use Rattle.step_activity.specs.declared.asked.Asked.{Asked}
use Rattle.step_activity.specs.declared.asked.Asked.TheVariants as asked
use Rattle.step_activity.specs.Actors.{IsClosedFor}
use Rattle.step_activity.specs.Asking.{asked_shape, lent_text}
use Rattle.step_activity.specs.Effects.{IsDoneBy}
use Rattle.step_activity.proofs.MatchLemmas.{is_none, is_there, matched}
use Rattle.step_activity.proofs.actor.Actor.communicate.Goals as goal

pub serve-requires-clause-pending : goal.serve-requires-clause-pending
serve-requires-clause-pending c =
    let x : Actor = c.args.self.now in
    let h : IsClosedFor x = c.requires.closed in
    let a : model.Activity = h.activity in
    let wanted = labels_served (map label_text c.in-Serves.labels.now) (cell a.store a.active) in
    let m = matched x.queue.pending wanted a.served h.received c.in-Some.number h.stands.queue.pending (sym c.in-Some.is ∙ c.in_ok-number-in-Serves.ensures.oldest a h.received h.stands) in
    is_there request_shape _ m.request m.there

told : (k z : Asked) (x : Communication) → k ≡ z → asked_shape k ≡ Some x → asked_shape z ≡ Some x
told k z x e h = subst (λ (w : Asked). asked_shape w ≡ Some x) e h

pub returns-in_ok-service-in-Creates-clause-done : goal.returns-in_ok-service-in-Creates-clause-done
returns-in_ok-service-in-Creates-clause-done c = λ a rs cs r x h e is.
    let n = c.args.name.now in
    let new : Actor = c.create.new.self in
    let object = c.in-Creates.object in
    let same : Creates object (lent_text c.in-Creates.service) ≡ x = some_is (told c.in_ok-object.field-0 (asked.Creates object c.in-Creates.service) x c.in-Creates.is (c.in_ok-object.ensures.asked a cs r x h.activity e is)) in
    let done = subst (λ (l : Option Text). IfOk c.create.result (IsDoneBy n (creates n a cs a.store object l) rs new)) c.in_ok-service-in-Creates.ensures (c.create.ensures.done a rs cs r h e) in
    subst (λ (y : Communication). IfOk c.create.result (IsDoneBy n (communicates rs n a cs a.store y) rs new)) same done

pub returns-in_ok-arguments-in-Sends-clause-done : goal.returns-in_ok-arguments-in-Sends-clause-done
returns-in_ok-arguments-in-Sends-clause-done c = λ a rs cs r x h e is.
    let n = c.args.name.now in
    let new : Actor = c.send.new.self in
    let to = c.in-Sends.to.now in
    let l = c.in-Sends.label.now.text in
    let ks = c.in-Sends.arguments.now in
    let same : Sends to l ks ≡ x = some_is (told c.in_ok-object.field-0 (asked.Sends c.in-Sends.to c.in-Sends.label c.in-Sends.arguments) x c.in-Sends.is (c.in_ok-object.ensures.asked a cs r x h.activity e is)) in
    let done = c.send.ensures.done a rs cs r ks h e (c.in_ok-arguments-in-Sends.ensures.parcel a h.activity) in
    let named = subst (λ (m : Name). IfOk c.send.result (IsDoneBy n (sends n a cs a.store m c.in_ok-label-in-Sends.label.text ks) rs new)) c.in_ok-to-in-Sends.ensures.name done in
    let labelled = subst (λ (m : Text). IfOk c.send.result (IsDoneBy n (sends n a cs a.store to m ks) rs new)) c.in_ok-label-in-Sends.ensures.label named in
    subst (λ (y : Communication). IfOk c.send.result (IsDoneBy n (communicates rs n a cs a.store y) rs new)) same labelled

pub returns-in-Some-clause-done : goal.returns-in-Some-clause-done
returns-in-Some-clause-done c = λ a rs cs r x h e is.
    let n = c.args.name.now in
    let labels = map label_text c.in-Serves.labels.now in
    let wanted = labels_served labels (cell a.store a.active) in
    let same : Serves labels ≡ x = some_is (told c.in_ok-object.field-0 (asked.Serves c.in-Serves.labels) x c.in-Serves.is (c.in_ok-object.ensures.asked a cs r x h.activity e is)) in
    let done = c.serve.ensures.done a rs cs r wanted n h e (sym c.in-Some.is ∙ c.in_ok-number-in-Serves.ensures.oldest a rs h) in
    subst (λ (y : Communication). IfOk c.serve.result (IsDoneBy n (communicates rs n a cs a.store y) rs c.serve.new.self)) same done

pub returns-in-None-clause-done : goal.returns-in-None-clause-done
returns-in-None-clause-done c = λ a rs cs r x h e is.
    let n = c.args.name.now in
    let old : Actor = c.args.self.now in
    let labels = map label_text c.in-Serves.labels.now in
    let wanted = labels_served labels (cell a.store a.active) in
    let same : Serves labels ≡ x = some_is (told c.in_ok-object.field-0 (asked.Serves c.in-Serves.labels) x c.in-Serves.is (c.in_ok-object.ensures.asked a cs r x h.activity e is)) in
    let none : oldest_match wanted a.served 0 rs ≡ None = is_none (oldest_match wanted a.served 0 rs) (sym c.in-None.is ∙ c.in_ok-number-in-Serves.ensures.oldest a rs h) in
    let done = subst (λ (o : Option Numbered). IsDoneBy n (serves a cs o) rs old given.Nothing) (sym none) tt in
    subst (λ (y : Communication). IsDoneBy n (communicates rs n a cs a.store y) rs old given.Nothing) same done

pub returns-in_ok-answer-in-Polls-clause-done : goal.returns-in_ok-answer-in-Polls-clause-done
returns-in_ok-answer-in-Polls-clause-done c = λ a rs cs r x h e is.
    let n = c.args.name.now in
    let labels = map label_text c.in-Polls.labels.now in
    let wanted = labels_served labels (cell a.store a.active) in
    let same : Polls labels ≡ x = some_is (told c.in_ok-object.field-0 (asked.Polls c.in-Polls.labels) x c.in-Polls.is (c.in_ok-object.ensures.asked a cs r x h.activity e is)) in
    let done = c.poll.ensures.done a rs cs r (oldest_match wanted a.served 0 rs) n h e (c.in_ok-answer-in-Polls.ensures.found a rs h) in
    subst (λ (y : Communication). IfOk c.poll.result (IsDoneBy n (communicates rs n a cs a.store y) rs c.poll.new.self)) same done
