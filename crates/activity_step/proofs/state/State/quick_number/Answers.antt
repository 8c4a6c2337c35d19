use Rattle.std.proofs.Common.{rules, ◌≡◌, ◌++◌, List, [], map, sym, ap, subst, ◌∙◌, to_z, of_z, w64}
use Rattle.asp_model.specs.Contraction.{allots}
use Rattle.asp_model.specs.Shapes.{line_shape}
use Rattle.asp_model.specs.Store as store
use Rattle.asp_model.specs.declared.outcome.Line.{Line}
use Rattle.code_table.specs.Shapes.{store_of}
use Rattle.step_machine.specs.Sites.{number_redex}
use Rattle.activity_step.specs.declared.state.State.{State}
use Rattle.activity_step.proofs.AdvanceLemmas.{given}
use Rattle.activity_step.proofs.state.State.quick_number.Goals as goal

pub returns : goal.returns
returns c = record {
  reduced = λ k t vs s ls h at.
      let x = c.args.self.now in
      let y : State = record { machine = c.give.new.self; store = c.add_number.new.store; lines = x.lines } in
      let done = c.in_ok-place.ensures.performed k in
      let same : to_z w64 (of_z w64 c.args.value) ≡ c.args.value = search rules in
      let lines = subst (λ (l : List Line). map line_shape l ≡ map line_shape l ++ done.added) c.deref.ensures.value done.lines_are in
      given k x y t vs s ls c.args.number c.args.from c.args.done c.in_ok-place.place (number_redex c.args.value) done.added h at
      (ap (λ z. allots (store_of k x.store.cells) (store.Number z) []) (sym same) ∙ done.is) c.in_ok-give.ensures.view lines;
}
