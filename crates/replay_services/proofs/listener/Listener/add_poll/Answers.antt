use Rattle.std.proofs.Common.{◌≡◌, refl}
use Rattle.indexmap.specs.IndexMap.{with_value_at}
use Rattle.replay_services.specs.Listeners.{with_poll}
use Rattle.replay_services.proofs.ListenerLemmas.{written}
use Rattle.replay_services.proofs.listener.Listener.add_poll.Goals as goal

pub returns : goal.returns
returns c =
    let old = c.know.new.self in
    let place = c.in_ok-place.place in
    written c.args.by.now place (λ h g. g ≡ with_poll h) c.args.self.now old (record { alloc = old.alloc; ahead = old.ahead; heard = with_value_at old.heard place c.add_poll.new.self }) c.in-Some.heard.now c.add_poll.new.self
    c.in_ok-place.ensures.same c.in_ok-place.ensures.at c.in-Some.ensures.unique c.in-Some.ensures.value refl c.add_poll.ensures
