use Rattle.std.proofs.Common.{◌≡◌, IfOk, ap, subst, sym, ◌∙◌}
use Rattle.syntax_terms.specs.Shapes.{part_shape, kind_shape, open_shape, stack}
use Rattle.syntax_grammar.specs.Closings.{FinishedShape}
use Rattle.syntax_states.specs.Answers.{finished_in}
use Rattle.syntax_states.proofs.Others.{body_over}
use Rattle.syntax_states.proofs.closing.+finish.Goals as goal

pub returns-in_ok-whole-in-Some : goal.returns-in_ok-whole-in-Some
returns-in_ok-whole-in-Some t c =
    subst (λ (z : FinishedShape). IfOk c.finish.result (λ f. finished_in f (stack c.finish.new.state.outer.items) ≡ z))
    (body_over (open_shape c.args.state.now.inner) c.in-InBody.begun (part_shape c.args.part) c.in_ok-value.value c.in_ok-whole-in-Some.whole c.args.state.now.outer.items c.pop.new.self.items c.in-Some.around c.replace-in-Some.new.dest
    (ap kind_shape (sym c.in-InBody.is ∙ c.replace.ensures.value) ∙ c.in_ok-value.ensures.kind) c.in_ok-value.ensures.value c.in-Some.ensures.items c.in_ok-whole-in-Some.ensures.binding c.replace-in-Some.ensures.after)
    c.finish.ensures
