use Rattle.std.proofs.Common.{sym, ◌∙◌}
use Rattle.asp_model.proofs.NameLemmas.{left_ended, right_ended}
use Rattle.asp_model.proofs.name.compare_numbers.Goals as goal
use Rattle.asp_model.proofs.name.compare_numbers.Goals.{then-loop-i-test+else-i-right, else-loop-i-test}

pub returns : goal.returns
returns c =
    let l = c.args.left.now in
    let r = c.args.right.now in
    let is = c.loop-i.invariant in
    record {
      order = c.cmp-2.ensures ∙ sym (is.rest ∙ (elim c.loop-i-test.branch [
        | then-loop-i-test+else-i-right w ↦ right_ended l r c.loop-i.i w.loop-i-test.true is.right w.if-i-right.false
        | else-loop-i-test w ↦ left_ended l r c.loop-i.i is.left is.right w.loop-i-test.false
      ]));
    }
