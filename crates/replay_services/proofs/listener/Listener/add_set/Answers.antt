use Rattle.std.proofs.Common.{refl}
use Rattle.std.proofs.lemmas.Result.{on_ok_weaker}
use Rattle.indexmap.specs.IndexMap.{with_value_at}
use Rattle.serve_rules.specs.Wanted.{wanted_labels}
use Rattle.replay_services.specs.Listeners.{IsWithSet}
use Rattle.replay_services.proofs.ListenerLemmas.{written}
use Rattle.replay_services.proofs.listener.Listener.add_set.Goals as goal

pub returns : goal.returns
returns c =
    let old = c.know.new.self in
    let place = c.in_ok-place.place in
    on_ok_weaker c.add_set.result
    (written c.args.by.now place (IsWithSet (wanted_labels c.args.wanted)) c.args.self.now old (record { alloc = old.alloc; ahead = old.ahead; heard = with_value_at old.heard place c.add_set.new.self }) c.in-Some.heard.now c.add_set.new.self
    c.in_ok-place.ensures.same c.in_ok-place.ensures.at c.in-Some.ensures.unique c.in-Some.ensures.value refl) c.add_set.ensures
