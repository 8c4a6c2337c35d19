use Rattle.std.proofs.Common.{◌≡◌, ◌∙◌, refl}
use Rattle.std.proofs.lemmas.Result.{on_ok_weaker}
use Rattle.indexmap.specs.IndexMap.{with_value_at}
use Rattle.asp_model.specs.Shapes.{arrival_shape}
use Rattle.replay_services.specs.Listeners.{arrived, heard_shape, with_arrival}
use Rattle.replay_services.proofs.ListenerLemmas.{written}
use Rattle.replay_services.proofs.listener.Listener.add_arrival.Goals as goal

pub returns : goal.returns
returns c =
    let old = c.know.new.self in
    let place = c.in_ok-place.place in
    let more = arrived c.args.by.now c.args.label.now.text in
    let same : arrival_shape (record { sender = c.in_ok-copy.field-0; label = c.in_ok-copy-2.field-0 }) ≡ more = λ i. arrived (c.in_ok-copy.ensures.name i) (c.in_ok-copy-2.ensures.label i) in
    on_ok_weaker c.add_arrival.result
    (λ e. written c.args.to.now place (λ h g. g ≡ with_arrival more h) c.args.self.now old (record { alloc = old.alloc; ahead = old.ahead; heard = with_value_at old.heard place c.add_arrival.new.self }) c.in-Some.heard.now c.add_arrival.new.self
    c.in_ok-place.ensures.same c.in_ok-place.ensures.at c.in-Some.ensures.unique c.in-Some.ensures.value refl (e ∙ (λ i. with_arrival (same i) (heard_shape c.in-Some.heard.now)))) c.add_arrival.ensures
