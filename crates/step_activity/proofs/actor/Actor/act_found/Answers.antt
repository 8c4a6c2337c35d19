use Rattle.std.proofs.Common.{◌≡◌, ◌<◌, List, ◌∙◌, ℕ, IfOk, Option, None, map, sym, subst}
use Rattle.asp_model.specs.Chase.{Chase, chase}
use Rattle.asp_model.specs.Configuration as model
use Rattle.asp_model.specs.Configuration.{RequestShape}
use Rattle.asp_model.specs.Contraction.{Communicates, Creates, Polls, Sends, Serves, contract}
use Rattle.asp_model.specs.Intent.{Intent, Numbered, creates, labels_served, oldest_match, sends, serves}
use Rattle.asp_model.specs.Names.{FutureShape, Name, Text}
use Rattle.asp_model.specs.Split.{Context, Redex, Splits, split}
use Rattle.asp_model.specs.Store.{cell}
use Rattle.law_steps.specs.Waking.{labels_wanted}
use Rattle.activity_step.specs.Standings.{IsAt}
use Rattle.future_table.specs.Values.{values_of}
use Rattle.request_queue.specs.Requests.{request_shape}
use Rattle.serve_rules.specs.Labels.{label_text}
use Rattle.step_activity.specs.declared.actor.Actor.{Actor}
use Rattle.step_activity.specs.declared.act.Given.TheVariants as given
use Rattle.step_activity.specs.declared.asked.Asked.{Asked}
use Rattle.step_activity.specs.Actors.{IsClosedFor, Stands}
use Rattle.step_activity.specs.Asking.{IsAsked, asked_shape, lent_text}
use Rattle.step_activity.specs.Effects.{IsDoneBy}
use Rattle.step_activity.specs.Found.{IsFound}
use Rattle.step_activity.proofs.FetchLemmas.{place_below}
use Rattle.step_activity.proofs.IntentLemmas.{has_operands, wanted_served}
use Rattle.step_activity.proofs.MatchLemmas.{is_none, is_there, matched}
use Rattle.step_activity.proofs.RedexLemmas.{is_at, is_place}
use Rattle.step_activity.proofs.StanceLemmas.{intent_asks}
use Rattle.step_activity.proofs.StandLemmas.{size}
use Rattle.step_activity.proofs.actor.Actor.act_found.Goals as goal

-- it is closed once it has settled
settled : (x y : Actor) (h : IsClosedFor x) → ((a : model.Activity) (rs : List RequestShape) → Stands x a rs → Stands y a rs) → IsClosedFor y
settled x y h keeps = record { activity = h.activity; received = h.received; stands = keeps h.activity h.received h.stands; closed = h.closed; arguments = h.arguments }

-- a number that is known is that of the oldest match of the labels that it asks for
found_served : (a : model.Activity) (rs : List RequestShape) (cs : List Context) (r : Redex) (texts : List Text) (o : Option ℕ) → split a.term ≡ Splits cs r → contract a.store r ≡ Communicates (Serves texts) → IsFound (labels_wanted a) a rs o → IsFound (labels_served texts (cell a.store a.active)) a rs o
found_served a rs cs r texts o e is known = subst (λ (ls : List Text). IsFound ls a rs o) (wanted_served a cs r a.store texts e is) known

pub end_service-requires-clause-within : goal.end_service-requires-clause-within
end_service-requires-clause-within c =
    let x : Actor = c.settle.new.self in
    let h : IsClosedFor x = settled c.args.self.now x c.requires.closed (λ a rs g. c.in_ok-settle.ensures.stands a rs g) in
    let p : ℕ = c.in-Place.place in
    let at = is_place h.activity c.in_ok-place.field-0 p c.in-Place.is (c.in_ok-place.ensures.standing h.activity h.stands.activity) in
    subst (λ (n : ℕ). p < n) (size x h.activity h.received h.stands) (place_below h.activity p h.closed at)

pub reduce-requires-clause-operands : goal.reduce-requires-clause-operands
reduce-requires-clause-operands c = λ a h.
    has_operands a c.in-Redex.redex c.strict_of-strict.result (is_at a c.in_ok-place.field-0 c.in-Redex.redex c.in-Redex.is (c.in_ok-place.ensures.standing a h)) c.strict_of-strict.ensures.strict

pub asks-requires-clause-stands : goal.asks-requires-clause-stands
asks-requires-clause-stands c = λ a h. is_at a c.in_ok-place.field-0 c.in-Redex.redex c.in-Redex.is (c.in_ok-place.ensures.standing a h)

pub serve-requires-clause-pending : goal.serve-requires-clause-pending
unfolding settled
serve-requires-clause-pending c =
    let x : Actor = c.settle.new.self in
    let h : IsClosedFor x = settled c.args.self.now x c.requires.closed (λ a rs g. c.in_ok-settle.ensures.stands a rs g) in
    let a : model.Activity = h.activity in
    let texts = map label_text c.in-Serves.labels.now in
    let at : IsAt a c.in-Redex.redex = is_at a c.in_ok-place.field-0 c.in-Redex.redex c.in-Redex.is (c.in_ok-place.ensures.standing a h.stands.activity) in
    let is = subst (λ (k : Asked). IsAsked (asked_shape k) (contract a.store at.redex)) c.in-Serves.is (c.asks.ensures.asked a at.contexts at.redex h.stands.activity at.splits) in
    let wanted = labels_served texts (cell a.store a.active) in
    let known = found_served a h.received at.contexts at.redex texts c.args.found at.splits is (c.requires.found a h.received c.requires.closed.stands) in
    let m = matched x.queue.pending wanted a.served h.received c.in-Some.number h.stands.queue.pending (sym c.in-Some.is ∙ c.in_ok-number-in-Serves.ensures.oldest a h.received h.stands known) in
    is_there request_shape _ m.request m.there

pub returns-in-Creates-clause-acts : goal.returns-in-Creates-clause-acts
returns-in-Creates-clause-acts c = λ a rs was.
    let h : Stands c.settle.new.self a rs = c.in_ok-settle.ensures.stands a rs was in
    let n : Name = c.args.name.now in
    let new : Actor = c.create.new.self in
    let object : ℕ = c.in-Creates.object in
    let chases : FutureShape → Chase = chase (values_of c.args.futures.now) in
    let at : IsAt a c.in-Redex.redex = is_at a c.in_ok-place.field-0 c.in-Redex.redex c.in-Redex.is (c.in_ok-place.ensures.standing a h.activity) in
    let is = subst (λ (k : Asked). IsAsked (asked_shape k) (contract a.store at.redex)) c.in-Creates.is (c.asks.ensures.asked a at.contexts at.redex h.activity at.splits) in
    let done = subst (λ (l : Option Text). IfOk c.create.result (IsDoneBy n (creates n a at.contexts a.store object l) rs new)) c.in_ok-service-in-Creates.ensures (c.create.ensures.done a rs at.contexts at.redex h at.splits) in
    subst (λ (i : Intent). IfOk c.create.result (IsDoneBy n i rs new)) (sym (intent_asks chases rs n a at.contexts at.redex at.splits (Creates object (lent_text c.in-Creates.service)) is)) done

pub returns-in-Sends-clause-acts : goal.returns-in-Sends-clause-acts
returns-in-Sends-clause-acts c = λ a rs was.
    let h : Stands c.settle.new.self a rs = c.in_ok-settle.ensures.stands a rs was in
    let n : Name = c.args.name.now in
    let new : Actor = c.send.new.self in
    let to = c.in-Sends.to.now in
    let l = c.in-Sends.label.now.text in
    let ks = c.in-Sends.arguments.now in
    let chases : FutureShape → Chase = chase (values_of c.args.futures.now) in
    let at : IsAt a c.in-Redex.redex = is_at a c.in_ok-place.field-0 c.in-Redex.redex c.in-Redex.is (c.in_ok-place.ensures.standing a h.activity) in
    let is = subst (λ (k : Asked). IsAsked (asked_shape k) (contract a.store at.redex)) c.in-Sends.is (c.asks.ensures.asked a at.contexts at.redex h.activity at.splits) in
    let done = c.send.ensures.done a rs at.contexts at.redex ks h at.splits (c.in_ok-arguments-in-Sends.ensures.parcel a h.activity) in
    let named = subst (λ (m : Name). IfOk c.send.result (IsDoneBy n (sends n a at.contexts a.store m c.in_ok-label-in-Sends.label.text ks) rs new)) c.in_ok-to-in-Sends.ensures.name done in
    let labelled = subst (λ (m : Text). IfOk c.send.result (IsDoneBy n (sends n a at.contexts a.store to m ks) rs new)) c.in_ok-label-in-Sends.ensures.label named in
    subst (λ (i : Intent). IfOk c.send.result (IsDoneBy n i rs new)) (sym (intent_asks chases rs n a at.contexts at.redex at.splits (Sends to l ks) is)) labelled

pub returns-in-Serves-clause-acts : goal.returns-in-Serves-clause-acts
returns-in-Serves-clause-acts c = λ a rs was.
    let h : Stands c.settle.new.self a rs = c.in_ok-settle.ensures.stands a rs was in
    let n : Name = c.args.name.now in
    let new : Actor = c.serve.new.self in
    let texts = map label_text c.in-Serves.labels.now in
    let wanted = labels_served texts (cell a.store a.active) in
    let chases : FutureShape → Chase = chase (values_of c.args.futures.now) in
    let at : IsAt a c.in-Redex.redex = is_at a c.in_ok-place.field-0 c.in-Redex.redex c.in-Redex.is (c.in_ok-place.ensures.standing a h.activity) in
    let is = subst (λ (k : Asked). IsAsked (asked_shape k) (contract a.store at.redex)) c.in-Serves.is (c.asks.ensures.asked a at.contexts at.redex h.activity at.splits) in
    let known = found_served a rs at.contexts at.redex texts c.args.found at.splits is (c.requires.found a rs was) in
    let done = c.serve.ensures.done a rs at.contexts at.redex wanted n h at.splits (sym c.in-Some.is ∙ c.in_ok-number-in-Serves.ensures.oldest a rs h known) in
    subst (λ (i : Intent). IfOk c.serve.result (IsDoneBy n i rs new)) (sym (intent_asks chases rs n a at.contexts at.redex at.splits (Serves texts) is)) done

pub returns-in_default-clause-acts : goal.returns-in_default-clause-acts
returns-in_default-clause-acts c = λ a rs was.
    let h : Stands c.settle.new.self a rs = c.in_ok-settle.ensures.stands a rs was in
    let n : Name = c.args.name.now in
    let old : Actor = c.settle.new.self in
    let texts = map label_text c.in-Serves.labels.now in
    let wanted = labels_served texts (cell a.store a.active) in
    let chases : FutureShape → Chase = chase (values_of c.args.futures.now) in
    let at : IsAt a c.in-Redex.redex = is_at a c.in_ok-place.field-0 c.in-Redex.redex c.in-Redex.is (c.in_ok-place.ensures.standing a h.activity) in
    let is = subst (λ (k : Asked). IsAsked (asked_shape k) (contract a.store at.redex)) c.in-Serves.is (c.asks.ensures.asked a at.contexts at.redex h.activity at.splits) in
    let known = found_served a rs at.contexts at.redex texts c.args.found at.splits is (c.requires.found a rs was) in
    let none : oldest_match wanted a.served 0 rs ≡ None = is_none (oldest_match wanted a.served 0 rs) (sym c.in_default.is ∙ c.in_ok-number-in-Serves.ensures.oldest a rs h known) in
    let done = subst (λ (o : Option Numbered). IsDoneBy n (serves a at.contexts o) rs old given.Nothing) (sym none) tt in
    subst (λ (i : Intent). IsDoneBy n i rs old given.Nothing) (sym (intent_asks chases rs n a at.contexts at.redex at.splits (Serves texts) is)) done

pub returns-in-Polls-clause-acts : goal.returns-in-Polls-clause-acts
returns-in-Polls-clause-acts c = λ a rs was.
    let h : Stands c.settle.new.self a rs = c.in_ok-settle.ensures.stands a rs was in
    let n : Name = c.args.name.now in
    let new : Actor = c.poll.new.self in
    let texts = map label_text c.in-Polls.labels.now in
    let wanted = labels_served texts (cell a.store a.active) in
    let chases : FutureShape → Chase = chase (values_of c.args.futures.now) in
    let at : IsAt a c.in-Redex.redex = is_at a c.in_ok-place.field-0 c.in-Redex.redex c.in-Redex.is (c.in_ok-place.ensures.standing a h.activity) in
    let is = subst (λ (k : Asked). IsAsked (asked_shape k) (contract a.store at.redex)) c.in-Polls.is (c.asks.ensures.asked a at.contexts at.redex h.activity at.splits) in
    let done = c.poll.ensures.done a rs at.contexts at.redex (oldest_match wanted a.served 0 rs) n h at.splits (c.in_ok-answer-in-Polls.ensures.found a rs h) in
    subst (λ (i : Intent). IfOk c.poll.result (IsDoneBy n i rs new)) (sym (intent_asks chases rs n a at.contexts at.redex at.splits (Polls texts) is)) done
