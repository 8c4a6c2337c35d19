use Rattle.std.proofs.Common.{◌≡◌, ◌∙◌, Some, sym, ap, is_some}
use Rattle.std.specs.FinMap.{find}
use Rattle.asp_model.specs.Names.{future_cmp}
use Rattle.asp_model.specs.Shapes.{delivery_shape}
use Rattle.code_table.specs.Shapes.{parcel_shape}
use Rattle.future_table.specs.Values.{values_of}
use Rattle.law_chases.proofs.FutureLemmas.{none_true}
use Rattle.core_edges.specs.Deliveries.{future_of}
use Rattle.core_edges.proofs.AnswerLemmas.{on_ok}
use Rattle.asp_core.proofs.deliveries.tell.Goals as goal

pub unreachable-requires : goal.unreachable-requires
unreachable-requires g c =
    none_true (ap is_some (c.in_default.ensures.value ∙ ap (λ f. find future_cmp f (values_of c.args.state.now.futures)) c.future_in.ensures) ∙ c.requires.filled)

pub returns-clause-told : goal.returns-clause-told
returns-clause-told g c = λ s futures.
    let found : find future_cmp (future_of (delivery_shape c.args.delivery.now)) s.configuration.futures ≡ Some (parcel_shape c.in-Some.value.now) =
    ap (find future_cmp (future_of (delivery_shape c.args.delivery.now))) (sym futures)
    ∙ ap (λ f. find future_cmp f (values_of c.args.state.now.futures)) (sym c.future_in.ensures) ∙ sym c.in-Some.ensures.value in
    on_ok c.delivered.result (λ after. after s found) c.delivered.ensures.holders
