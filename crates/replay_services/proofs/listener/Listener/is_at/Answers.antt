use Rattle.std.proofs.Common.{◌≡◌, ◌∙◌, Some, sym, ap, subst}
use Rattle.indexmap.specs.IndexMap.{get}
use Rattle.asp_model.specs.Names.{Name, same_name}
use Rattle.asp_model.specs.Order.{same_name_same}
use Rattle.replay_services.specs.declared.heard.Heard.{Heard}
use Rattle.replay_services.proofs.listener.Listener.is_at.Goals as goal

pub returns-in-Some : goal.returns-in-Some
returns-in-Some c = λ yes.
    let key : Name = c.in-Some.key.now in
    let h : Heard = c.in-Some._heard.now in
    let same : key ≡ c.args.name.now = same_name_same key c.args.name.now (sym c.eq.ensures ∙ yes) in
    (h, sym c.in-Some.ensures.entry ∙ ap (λ (k : Name). Some (k, h)) same, subst (λ (k : Name). get same_name c.args.self.now.heard k ≡ Some h) same c.in-Some.ensures.value)
