use Rattle.std.proofs.Common.{◌≡◌, ◌∙◌, Some, sym, ap}
use Rattle.asp_model.specs.Names.{Name}
use Rattle.replay_services.specs.declared.heard.Heard.{Heard}
use Rattle.replay_services.proofs.ListenerLemmas.{key_found}
use Rattle.replay_services.proofs.listener.Listener.place_of.Goals as goal

pub returns-in-Some-clause-at : goal.returns-in-Some-clause-at
returns-in-Some-clause-at c =
    let key : Name = c.in-Some._key.now in
    let value : Heard = c.in-Some._value.now in
    let same : key ≡ c.args.name.now = key_found c.args.name.now key c.args.self.now.heard (sym c.in-Some.ensures.key) in
    (value, c.in-Some.ensures.entry ∙ ap (λ (k : Name). Some (k, value)) same, sym c.in-Some.ensures.value)
