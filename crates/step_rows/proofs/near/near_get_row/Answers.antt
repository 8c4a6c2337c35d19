use Rattle.std.proofs.Common.{◌≡◌, ℕ, List, IfSome, sym, subst}
use Rattle.asp_model.specs.Contraction.{contract}
use Rattle.asp_model.specs.Term.{Get}
use Rattle.code_table.specs.Shapes.{store_of}
use Rattle.step_rows.specs.Decisions.{decided, value_redex}
use Rattle.step_rows.proofs.near.near_get_row.Goals as goal

pub returns : goal.returns
returns c =
    let k = c.args.code.now in
    let s = c.args.store.now.cells in
    let l = c.args.label.now.label.text in
    record {
      row = subst (λ (ns : List ℕ). IfSome c.near_get.result (λ d. contract (store_of k s) (value_redex (Get l) ns) ≡ decided k s d)) (sym c.in-Some.ensures.one) c.near_get.ensures.row;
    }
