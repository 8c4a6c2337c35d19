use Rattle.std.proofs.Common.{◌++◌, ◌∙◌, List, [], ◌∷◌, map, take, ap, sym, subst}
use Rattle.std.proofs.lemmas.List.{map-append, take_more}
use Rattle.asp_model.specs.declared.outcome.Reception.{Reception}
use Rattle.asp_model.specs.Shapes.{lists_shape}
use Rattle.asp_model.specs.Step.{ListsShape}
use Rattle.replay_offers.specs.Entries.{HasEntry}
use Rattle.replay_offers.specs.Logs.{each_entered}
use Rattle.replay_offers.specs.Offered.{HasEntered}
use Rattle.replay_offers.proofs.OfferLemmas.{one_offer_more}
use Rattle.replay_offers.proofs.offers.with_each.Goals as goal

pub loop-entry-preserved : goal.loop-entry-preserved
loop-entry-preserved c = λ e h.
    let rows : List Reception = c.deref-entry-items.result.now in
    let before : List Reception = take c.loop-entry.entry-index rows in
    let x : Reception = c.entry-item.result in
    let parts : HasEntry (before ++ x ∷ []) e = subst (λ (xs : List Reception). HasEntry xs e) (take_more rows c.loop-entry.entry-index x c.loop-entry-test.true ∙ ap (λ (y : Reception). before ++ y ∷ []) (sym c.entry-item.is)) h in
    let held : ListsShape = lists_shape c.args.held.now.lists in
    subst (λ (vs : List ListsShape). HasEntered vs (each_entered c.args.to.now e held))
    (sym (ap (map lists_shape) c.in_ok-push.ensures.items ∙ map-append lists_shape c.loop-entry.offers.items (c.in_ok-with_entry.field-0 ∷ [])))
    (one_offer_more c.args.to.now e held before x (map lists_shape c.loop-entry.offers.items) (lists_shape c.in_ok-with_entry.field-0) (c.loop-entry.invariant e) c.in_ok-with_entry.ensures.entered parts)
