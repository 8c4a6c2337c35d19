use Rattle.std.proofs.Common.{◌≡◌, ◌∙◌, List, length, sym, ap, subst}
use Rattle.std.specs.Global.{Box}
use Rattle.std.specs.List.{AllZip}
use Rattle.asp_model.specs.Names.{Name}
use Rattle.step_activity.specs.declared.actor.Actor.{Actor}
use Rattle.asp_core.specs.Frozen.{KeepsEntry}
use Rattle.asp_core.proofs.FrozenLemmas.{written}
use Rattle.asp_core.proofs.freezing.settled.Goals as goal

pub returns : goal.returns
returns c =
    let v = c.in_ok-activities.activities in
    let new : List (Name × Box Actor) = c.settle_all.new.activities in
    let now : c.deref_mut.result.now ≡ v.items = c.deref_mut.ensures.value in
    let same : length new ≡ length v.items = c.settle_all.auto.activities ∙ ap length now in
    let keeps = subst (λ es. AllZip KeepsEntry es new) now c.in_ok-settle_all.ensures.keeps in
    record { settled = (v.items, c.in_ok-activities.ensures.each, subst (AllZip KeepsEntry v.items) (sym (written v.items new v.len same v.ok.0)) keeps) }
