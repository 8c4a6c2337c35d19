use Rattle.std.proofs.Common.{◌≡◌, IfOk, ap, sym, subst}
use Rattle.asp_model.specs.Term.{Head}
use Rattle.asp_model.specs.Contraction.{contract}
use Rattle.code_table.specs.Tables.{kind_head}
use Rattle.code_table.specs.Shapes.{store_of}
use Rattle.step_rows.specs.Decisions.{decided, value_redex}
use Rattle.step_rows.proofs.deciding.decide.Goals as goal

pub returns-in-Clone : goal.returns-in-Clone
returns-in-Clone c = record {
  decided = let k = c.args.code.now in let s = c.args.store.now.cells in
      subst (λ (h : Head). IfOk c.clone_row.result (λ d. contract (store_of k s) (value_redex h c.args.operands.now) ≡ decided k s d)) (ap kind_head (sym c.in-Clone.is)) (c.clone_row.ensures.row k);
}

pub returns-in-Operate : goal.returns-in-Operate
returns-in-Operate c = record {
  decided = let k = c.args.code.now in let s = c.args.store.now.cells in
      subst (λ (h : Head). IfOk c.operate_row.result (λ d. contract (store_of k s) (value_redex h c.args.operands.now) ≡ decided k s d)) (ap kind_head (sym c.in-Operate.is)) (c.operate_row.ensures.row k);
}

pub returns-in-Print : goal.returns-in-Print
returns-in-Print c = record {
  decided = let k = c.args.code.now in let s = c.args.store.now.cells in
      subst (λ (h : Head). IfOk c.print_row.result (λ d. contract (store_of k s) (value_redex h c.args.operands.now) ≡ decided k s d)) (ap kind_head (sym c.in-Print.is)) (c.print_row.ensures.row k);
}

pub returns-in-Size : goal.returns-in-Size
returns-in-Size c = record {
  decided = let k = c.args.code.now in let s = c.args.store.now.cells in
      subst (λ (h : Head). IfOk c.size_row.result (λ d. contract (store_of k s) (value_redex h c.args.operands.now) ≡ decided k s d)) (ap kind_head (sym c.in-Size.is)) (c.size_row.ensures.row k);
}

pub returns-in-Member : goal.returns-in-Member
returns-in-Member c = record {
  decided = let k = c.args.code.now in let s = c.args.store.now.cells in
      subst (λ (h : Head). IfOk c.member_row.result (λ d. contract (store_of k s) (value_redex h c.args.operands.now) ≡ decided k s d)) (ap kind_head (sym c.in-Member.is)) (c.member_row.ensures.row k);
}

pub returns-in-WaitAll : goal.returns-in-WaitAll
returns-in-WaitAll c = record {
  decided = let k = c.args.code.now in let s = c.args.store.now.cells in
      subst (λ (h : Head). IfOk c.wait_row.result (λ d. contract (store_of k s) (value_redex h c.args.operands.now) ≡ decided k s d)) (ap kind_head (sym c.in-WaitAll.is)) (c.wait_row.ensures.row k);
}
