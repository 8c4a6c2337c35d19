use Rattle.std.proofs.Common.{◌≡◌, ◌∙◌, ℕ, length, sym, ap, subst}
use Rattle.asp_model.specs.Contraction.{contract}
use Rattle.asp_model.specs.Store.{Store}
use Rattle.step_rows.specs.declared.redex.Redex.{Redex}
use Rattle.activity_step.specs.Standings.{IsAt}
use Rattle.code_table.specs.Cells.{CodedStore}
use Rattle.object_store.specs.View.{StoreView}
use Rattle.law_steps.specs.Closed.{AreBelow}
use Rattle.step_activity.specs.declared.actor.Actor.{Actor}
use Rattle.step_activity.specs.Actors.{IsClosedFor, code_of}
use Rattle.step_activity.specs.Asking.{IsAsked, IsWithin, asked_in, asked_shape}
use Rattle.step_activity.proofs.FetchLemmas.{redex_below}
use Rattle.step_activity.proofs.IntentLemmas.{same_redex}
use Rattle.step_activity.proofs.RedexLemmas.{asked_within, is_asked, placed}
use Rattle.step_activity.proofs.StandLemmas.{size}
use Rattle.step_activity.proofs.actor.Actor.asks.Goals as goal

below : (x : Actor) (h : IsClosedFor x) (t : Redex) (a : IsAt h.activity t) → AreBelow (length x.activity.state.store.cells) a.redex.places
below x h t a = subst (λ (n : ℕ). AreBelow n a.redex.places) (size x h.activity h.received h.stands) (redex_below h.activity a.contexts a.redex h.closed a.splits)

pub asked_at-requires : goal.asked_at-requires
asked_at-requires c =
    let x : Actor = c.args.self.now in
    let h : IsClosedFor x = c.requires.closed in
    let a : IsAt h.activity c.args.redex = c.requires.stands h.activity h.stands.activity in
    let n : length c.store.result.now.cells ≡ length x.activity.state.store.cells = ap (λ (s : StoreView). length s.cells) c.store.ensures.store in
    record { placed = placed (length c.store.result.now.cells) a.redex c.args.redex a.is (subst (λ (m : ℕ). AreBelow m a.redex.places) (sym n) (below x h _ a)) }

pub returns-clause-asked : goal.returns-clause-asked
returns-clause-asked c = λ a cs r h e.
    let x : Actor = c.args.self.now in
    let told : Redex = c.args.redex in
    let at : IsAt a told = c.requires.stands a h in
    let same : r ≡ at.redex = same_redex cs at.contexts r at.redex (sym e ∙ at.splits) in
    let cells : CodedStore = x.activity.state.store.cells in
    let is : asked_shape c.asked_at.result ≡ asked_in cells told = c.asked_at.ensures.asked ∙ ap (λ (s : StoreView). asked_in s.cells told) c.store.ensures.store in
    let comes = subst (λ (s : Store). IsAsked (asked_in cells told) (contract s at.redex)) h.state.store (is_asked (code_of x) cells at.redex told at.is) in
    subst (λ o. IsAsked o (contract a.store r)) (sym is) (subst (λ q. IsAsked (asked_in cells told) (contract a.store q)) (sym same) comes)

pub returns-clause-within : goal.returns-clause-within
returns-clause-within c =
    let x : Actor = c.args.self.now in
    let told : Redex = c.args.redex in
    let h : IsClosedFor x = c.requires.closed in
    let a : IsAt h.activity told = c.requires.stands h.activity h.stands.activity in
    let n : ℕ = length x.activity.state.store.cells in
    subst (IsWithin n) (sym c.asked_at.ensures.asked) (asked_within n c.store.result.now.cells a.redex told a.is (below x h _ a))
