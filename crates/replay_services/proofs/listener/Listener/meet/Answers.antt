use Rattle.std.proofs.Common.{◌≡◌, None, sym, subst}
use Rattle.indexmap.specs.IndexMap.{get}
use Rattle.asp_model.specs.Names.{Name, same_name}
use Rattle.replay_services.proofs.ListenerLemmas.{known_same}
use Rattle.replay_services.proofs.listener.Listener.meet.Goals as goal

pub returns-clause-same : goal.returns-clause-same
returns-clause-same c =
    let old = c.args.self.now.heard in
    known_same c.in_ok-name.name old c.insert.new.self c.new.result (subst (λ (k : Name). get same_name old k ≡ None) (sym c.in_ok-name.ensures.name) c.requires.new) c.new.ensures c.in_ok-insert.ensures.updates.0
