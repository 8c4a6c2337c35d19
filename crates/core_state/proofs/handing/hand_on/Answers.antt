use Rattle.std.proofs.Common.{◌≡◌, ◌∙◌, None, Some, ap, length, refl, subst, sym}
use Rattle.std.specs.FinMap.{find}
use Rattle.asp_model.specs.Names.{future_cmp}
use Rattle.asp_model.specs.Shapes.{future_shape}
use Rattle.code_table.specs.Cells.{held_future}
use Rattle.code_table.specs.Shapes.{parcel_shape}
use Rattle.request_queue.specs.Requests.{request_shape}
use Rattle.step_activity.specs.declared.act.Given.TheVariants as given
use Rattle.core_state.specs.declared.state.CoreState.{CoreState}
use Rattle.core_state.specs.Cores.{IsPopulated}
use Rattle.core_state.proofs.PopulateLemmas.{member_comes}
use Rattle.core_state.specs.Handing.{IsToHand}
use Rattle.core_state.proofs.HandLemmas.{handed_is, made_is, named, new_name, nobody_made}
use Rattle.core_state.proofs.handing.hand_on.Goals as goal

pub add-requires-clause-new : goal.add-requires-clause-new
add-requires-clause-new c = λ k found.
    let r = c.requires.given in
    let x = c.args.state.now in
    let to = subst (λ g. IsToHand r.0 r.1 x r.2 r.3 r.4 g) c.in-Made.is r.5 in
    new_name r.0 r.1 x r.2 r.3 r.4 (given.Made c.in-Made.name c.in-Made.actor) c.in-Made.name c.in-Made.actor.value to to.given.1 k c.in-Made.name (named r.0 r.1 x r.2 to.populated k c.in-Made.name found) refl

pub fill-requires-clause-absent : goal.fill-requires-clause-absent
fill-requires-clause-absent c =
    let r = c.requires.given in
    let to = subst (λ g. IsToHand r.0 r.1 c.args.state.now r.2 r.3 r.4 g) c.in-Filled.is r.5 in
    ap (find future_cmp (held_future c.in-Filled.future)) to.populated.futures ∙ (to.filled (held_future c.in-Filled.future, parcel_shape c.in-Filled.value) to.given.2).0

pub fill-requires-clause-one_root : goal.fill-requires-clause-one_root
fill-requires-clause-one_root c =
    let r = c.requires.given in
    let to = subst (λ g. IsToHand r.0 r.1 c.args.state.now r.2 r.3 r.4 g) c.in-Filled.is r.5 in
    (to.filled (held_future c.in-Filled.future, parcel_shape c.in-Filled.value) to.given.2).1

pub hand_over-requires : goal.hand_over-requires
hand_over-requires c =
    let r = c.requires.given in
    let to = subst (λ g. IsToHand r.0 r.1 c.args.state.now r.2 r.3 r.4 g) c.in-Sent.is r.5 in
    let there = to.sent (c.in-Sent.to, request_shape c.in-Sent.request) to.given.0 in
    record { receiving = (r.0, r.1, r.2, record { populated = to.populated; numbered = to.numbered; there = there; coded = to.coded }) }

pub returns-in_ok-number-in-Made-clause-populated : goal.returns-in_ok-number-in-Made-clause-populated
returns-in_ok-number-in-Made-clause-populated c = λ h code u own e r.
    let x = c.args.state.now in
    let n = c.in-Made.name in
    let a = c.in-Made.actor in
    let y : CoreState = record { alloc = x.alloc; seats = c.add.new.self; ranks = x.ranks; futures = x.futures; journal = x.journal; left = x.left; bursts = x.bursts } in
    let to = subst (λ g. IsToHand h code x u own e g) c.in-Made.is r in
    let b = made_is e.made n a.value to.given.1 in
    subst (IsPopulated h code y) (handed_is u e None (Some (n, b.0)) None to.given.0 b.1 to.given.2)
    (member_comes h code x y u n a.value b.0 to.populated (new_name h code x u own e (given.Made n a) n a.value to to.given.1) (to.made (n, b.0) b.1).1 (to.made (n, b.0) b.1).2
    c.in_ok-number-in-Made.ensures.seats c.in_ok-number-in-Made.ensures.names c.in_ok-number-in-Made.ensures.kept refl b.2 to.coded b.3)

pub returns-in_ok-number-in-Made-clause-change : goal.returns-in_ok-number-in-Made-clause-change
returns-in_ok-number-in-Made-clause-change c = λ h code u own e r.
    let to = subst (λ g. IsToHand h code c.args.state.now u own e g) c.in-Made.is r in
    let b = made_is e.made c.in-Made.name c.in-Made.actor.value to.given.1 in
    let last : c.in_ok-number-in-Made.number ≡ length u.names = c.in_ok-number-in-Made.ensures.number ∙ sym (ap length (sym to.populated.names) ∙ to.populated.kept.same) in
    (c.in-Made.name, b.0, b.1, last, to.given.0, to.given.2)

pub returns-in_ok-number-in-Sent-clause-populated : goal.returns-in_ok-number-in-Sent-clause-populated
returns-in_ok-number-in-Sent-clause-populated c = λ h code u own e r.
    let to = subst (λ g. IsToHand h code c.args.state.now u own e g) c.in-Sent.is r in
    let sent = Some (c.in-Sent.to, request_shape c.in-Sent.request) in
    subst (IsPopulated h code c.hand_over.new.state) (nobody_made u sent None ∙ handed_is u e sent None None to.given.0 to.given.1 to.given.2)
    (c.in_ok-number-in-Sent.ensures.populated h code u (record { populated = to.populated; numbered = to.numbered; there = to.sent (c.in-Sent.to, request_shape c.in-Sent.request) to.given.0; coded = to.coded }))

pub returns-in_ok-number-in-Sent-clause-change : goal.returns-in_ok-number-in-Sent-clause-change
returns-in_ok-number-in-Sent-clause-change c = λ h code u own e r.
    let to = subst (λ g. IsToHand h code c.args.state.now u own e g) c.in-Sent.is r in
    let named = c.in_ok-number-in-Sent.ensures.number h code u (record { populated = to.populated; numbered = to.numbered; there = to.sent (c.in-Sent.to, request_shape c.in-Sent.request) to.given.0; coded = to.coded }) in
    (c.in-Sent.to, request_shape c.in-Sent.request, to.given.0, named, to.given.1, to.given.2)

pub returns-in_ok-fill-in-Filled-clause-change : goal.returns-in_ok-fill-in-Filled-clause-change
returns-in_ok-fill-in-Filled-clause-change c = λ h code u own e r.
    let to = subst (λ g. IsToHand h code c.args.state.now u own e g) c.in-Filled.is r in
    let value = parcel_shape c.in-Filled.value in
    (value, to.given.2 ∙ ap (λ f. Some (future_shape f.name, value)) (sym c.in_ok-filled-in-Filled.ensures), to.given.0, to.given.1)
