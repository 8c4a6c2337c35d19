use Rattle.std.proofs.Common.{◌≡◌, IfOk, true, false, refl, sym, ◌∙◌, subst}
use Rattle.asp_model.specs.Contraction.{Contraction}
use Rattle.asp_model.specs.Intent.{contracts}
use Rattle.step_activity.specs.declared.actor.Actor.{Actor}
use Rattle.step_activity.specs.Actors.{IsClosedFor, Stands}
use Rattle.step_activity.specs.Asking.{communicates}
use Rattle.step_activity.specs.Effects.{IsDoneBy}
use Rattle.step_activity.proofs.IntentLemmas.{Asking, asking, stays, turned}
use Rattle.step_activity.proofs.StandLemmas.{closed_with, stands_with}
use Rattle.step_activity.proofs.actor.Actor.contract.Goals as goal

pub communicate-requires : goal.communicate-requires
communicate-requires c =
    let x : Actor = c.args.self.now in
    let h : IsClosedFor x = c.requires.closed in
    let v = c.in_ok-advance.advance in
    let y = c.step.new.self in
    let asks : communicates v ≡ true = sym c.is_communication.ensures ∙ c.if-is_communication.true in
    record { closed = closed_with x y h h.activity (stays y h.activity v (c.in_ok-advance.ensures.after h.activity h.stands.activity) asks) c.in_ok-advance.ensures.code refl refl refl h.closed }

pub returns-then-is_communication-clause-contracts : goal.returns-then-is_communication-clause-contracts
returns-then-is_communication-clause-contracts c = λ a rs cs r h e.
    let x : Actor = c.args.self.now in
    let y = c.step.new.self in
    let v = c.in_ok-advance.advance in
    let n = c.args.name.now in
    let asks : communicates v ≡ true = sym c.is_communication.ensures ∙ c.if-is_communication.true in
    let w : Asking y a r = asking y a cs r v e (c.in_ok-advance.ensures.after a h.activity) asks in
    let now : Stands (record x { activity = y; clear = 0 }) a rs = stands_with x y a a rs h w.stands c.in_ok-advance.ensures.code refl refl refl in
    subst (λ (k : Contraction). IfOk c.communicate.result (IsDoneBy n (contracts rs n a cs a.store k) rs c.communicate.new.self)) (sym w.is) (c.communicate.ensures.done a rs cs r w.communication now e w.is)

pub returns-else-is_communication-clause-contracts : goal.returns-else-is_communication-clause-contracts
returns-else-is_communication-clause-contracts c = λ a rs cs r h e.
    let x : Actor = c.args.self.now in
    let v = c.in_ok-advance.advance in
    let asks : communicates v ≡ false = sym c.is_communication.ensures ∙ c.if-is_communication.false in
    turned x c.step.new.self a rs c.args.name.now cs r h c.in_ok-advance.ensures.code e v (c.in_ok-advance.ensures.after a h.activity) asks
