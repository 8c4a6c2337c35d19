use Rattle.std.proofs.Common.{refl, subst}
use Rattle.step_machine.specs.declared.frames.Form.{Form}
use Rattle.step_machine.specs.Calls.{IsCalling}
use Rattle.step_machine.specs.Items.{Waits}
use Rattle.step_machine.specs.Stacks.{IsItem, IsWaiting}
use Rattle.path_equal.proofs.CallLemmas.{calling_behind}
use Rattle.path_equal.proofs.ContextLemmas.{waiting_found}
use Rattle.path_equal.proofs.stack.past_after.Goals as goal

pub returns-in-Terms : goal.returns-in-Terms
returns-in-Terms c = record {
  searched = λ x item.
      let k = c.args.code.now in
      let ns = c.args.places.now in
      let own = c.args.own.now in
      let f = c.args.frame in
      let w : IsWaiting k ns own f.node f.from x = subst (λ (g : Form). IsItem k ns own g f.node f.from (Waits x)) c.in-Terms.is item in
      waiting_found k ns own f.node f.from _ x c.args.search c.past_behind.result w refl c.past_behind.ensures.searched;
}

pub returns-in-Calls : goal.returns-in-Calls
returns-in-Calls c = record {
  searched = λ x item.
      let k = c.args.code.now in
      let own = c.args.own.now in
      let f = c.args.frame in
      let d : IsCalling k c.in-Calls.spread own f.node f.from x = subst (λ (g : Form). IsItem k c.args.places.now own g f.node f.from (Waits x)) c.in-Calls.is item in
      calling_behind k c.in-Calls.spread own f.node f.from x d c.laid_out-laid.result c.args.search c.past_left.result (c.laid_out-laid.ensures.laid d.laid) c.past_left.ensures.searched;
}
