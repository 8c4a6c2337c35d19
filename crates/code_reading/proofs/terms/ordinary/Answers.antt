use Rattle.std.proofs.Common.{◌≡◌, ◌∙◌, List, drop, sym, ap, subst}
use Rattle.code_table.specs.declared.code.Child.{Child}
use Rattle.code_table.specs.Sound.{AllBelow}
use Rattle.code_reading.proofs.BehindLemmas.{all_below_drop}
use Rattle.code_reading.proofs.terms.ordinary.Goals as goal

pub push_terms-requires-clause-below : goal.push_terms-requires-clause-below
push_terms-requires-clause-below c =
    let cs : List Child = c.args.node.now.children.items in
    let is : c.children_from-behind.result.now ≡ drop c.len.result (drop c.args.gone cs) =
    c.children_from-behind.ensures.children ∙ ap (drop c.len.result) (c.children_from.ensures.children ∙ ap (drop c.args.gone) c.deref.ensures.value) in
    subst (AllBelow c.args.number) (sym is) (all_below_drop c.args.number (drop c.args.gone cs) c.len.result (all_below_drop c.args.number cs c.args.gone c.requires.children))
