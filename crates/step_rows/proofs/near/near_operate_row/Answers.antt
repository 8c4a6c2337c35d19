use Rattle.std.proofs.Common.{◌≡◌, ℕ, List, IfSome, sym, subst}
use Rattle.asp_model.specs.Contraction.{contract}
use Rattle.asp_model.specs.Shapes.{sign_shape}
use Rattle.asp_model.specs.Term.{Operate}
use Rattle.code_table.specs.Shapes.{store_of}
use Rattle.step_rows.specs.Decisions.{decided, value_redex}
use Rattle.step_rows.proofs.near.near_operate_row.Goals as goal

pub returns : goal.returns
returns c = record {
  row = λ k.
      let s = c.args.store.now.cells in
      subst (λ (ns : List ℕ). IfSome c.near_operate.result (λ d. contract (store_of k s) (value_redex (Operate (sign_shape c.args.sign)) ns) ≡ decided k s d)) (sym c.in-Some.ensures.two) (c.near_operate.ensures.row k);
}
