use Rattle.std.proofs.Common.{OnOk, ◌≡◌, ◌∙◌, [], ap, subst, sym}
use Rattle.std.specs.Option.{option_map}
use Rattle.asp_model.specs.Shapes.{future_shape}
use Rattle.code_table.specs.Cells.{coded}
use Rattle.core_edges.specs.Passing.{ArePassed, future_held, one_future}
use Rattle.core_edges.proofs.PassingLemmas.{held_told, none_passed}
use Rattle.core_edges.proofs.edges.Edges.pass_cell.Goals as goal

pub returns-in-Some : goal.returns-in-Some
returns-in-Some g c =
    let held : one_future (future_shape c.in-Some.future.now) ≡ future_held (coded c.args.cell) =
    held_told (coded c.args.cell) _ (sym (ap (option_map (λ f. future_shape f.now)) c.in-Some.is) ∙ c.future_in.ensures.held) in
    record { passed = subst (λ fs. OnOk c.pass.result (ArePassed g.P.UpdatePolicy.answer g.P.UpdatePolicy.asked fs c.args.from.now c.args.to.now c.args.self.now c.pass.new.self)) held c.pass.ensures.passed }

pub returns-in-None : goal.returns-in-None
returns-in-None g c =
    let held : [] ≡ future_held (coded c.args.cell) =
    held_told (coded c.args.cell) _ (sym (ap (option_map (λ f. future_shape f.now)) c.in-None.is) ∙ c.future_in.ensures.held) in
    record { passed = subst (λ fs. ArePassed g.P.UpdatePolicy.answer g.P.UpdatePolicy.asked fs c.args.from.now c.args.to.now c.args.self.now c.args.self.now) held (none_passed g.P.UpdatePolicy.answer g.P.UpdatePolicy.asked c.args.from.now c.args.to.now c.args.self.now) }
