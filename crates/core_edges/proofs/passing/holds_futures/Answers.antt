use Rattle.std.proofs.Common.{◌≡◌, ◌∙◌, ◌++◌, [], ap, arith, subst, sym}
use Rattle.std.specs.Option.{option_map}
use Rattle.asp_model.specs.Shapes.{future_shape}
use Rattle.code_table.specs.Cells.{ArePlain, coded}
use Rattle.core_edges.specs.Passing.{future_held}
use Rattle.core_edges.proofs.PassingLemmas.{held_told, plain_held, stored_more}
use Rattle.core_edges.proofs.passing.holds_futures.Goals as goal

pub loop-place-preserved : goal.loop-place-preserved
loop-place-preserved c =
    let x = coded c.view.result in
    let held : [] ≡ future_held x = held_told x _ (sym (ap (option_map (λ f. future_shape f.now)) c.in-None.is) ∙ c.future_in.ensures.held) in
    stored_more c.args.cells.now.items c.loop-place.place x (omega arith) c.view.ensures.view ∙ (λ i. c.loop-place.invariant i ++ sym held i)

pub returns-in-Some : goal.returns-in-Some
returns-in-Some c = record { none = plain_held c.args.cells.now.items (subst ArePlain c.in-Some.ensures.cells c.in-Some.ensures.plain) }
