use Rattle.std.proofs.Common.{◌≡◌, IfSome, ap, sym, subst}
use Rattle.asp_model.specs.Contraction.{contract}
use Rattle.asp_model.specs.Term.{Head}
use Rattle.code_table.specs.Tables.{kind_head}
use Rattle.code_table.specs.Shapes.{store_of}
use Rattle.step_rows.specs.Decisions.{decided, value_redex}
use Rattle.step_rows.proofs.near.near_decide.Goals as goal

pub returns-in-Operate : goal.returns-in-Operate
returns-in-Operate c = record {
  decided =
      let k = c.args.code.now in
      let s = c.args.store.now.cells in
      subst (λ (h : Head). IfSome c.near_operate_row.result (λ d. contract (store_of k s) (value_redex h c.args.operands.now) ≡ decided k s d)) (ap kind_head (sym c.in-Operate.is)) (c.near_operate_row.ensures.row k);
}
