use Rattle.std.proofs.Common.{List, ℕ, ap, subst, ◌∙◌}
use Rattle.step_machine.specs.declared.frames.Form.{Form}
use Rattle.step_machine.specs.Calls.{IsCalling}
use Rattle.step_machine.specs.Items.{Waits}
use Rattle.step_machine.specs.Stacks.{IsItem}
use Rattle.path_equal.specs.Searches.{searched}
use Rattle.path_equal.proofs.CallLemmas.{calling_before}
use Rattle.path_equal.proofs.stack.past_before.Goals as goal

pub returns-in-Calls : goal.returns-in-Calls
returns-in-Calls c = record {
  searched = λ ns x item.
      let k = c.args.code.now in
      let own = c.args.own.now in
      let f = c.args.frame in
      let d : IsCalling k c.in-Calls.spread own f.node f.from x = subst (λ (g : Form). IsItem k ns own g f.node f.from (Waits x)) c.in-Calls.is item in
      c.past-in-Calls.ensures.searched ∙ ap (λ (xs : List ℕ). searched xs c.args.search) (calling_before k c.in-Calls.spread own f.node f.from x d c.laid_out-laid.result (c.laid_out-laid.ensures.laid d.laid));
}
