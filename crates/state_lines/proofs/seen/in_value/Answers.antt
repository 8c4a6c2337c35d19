use Rattle.std.proofs.Common.{◌∙◌, ◌≤◌, List, length, sym, ap, subst}
use Rattle.std.specs.Arc.{arc_value}
use Rattle.code_table.specs.declared.code.Node.{Node}
use Rattle.code_table.specs.Shapes.{cell_of, cell_shape, store_of}
use Rattle.code_table.proofs.CodedLemmas.{cell-store_of, length-store_of}
use Rattle.state_lines.proofs.SightLemmas.{cell_past}
use Rattle.state_lines.proofs.seen.in_value.Goals as goal

pub returns-in-None : goal.returns-in-None
returns-in-None c =
    let code = arc_value c.args.value.now.code in
    let s = c.args.value.now.cells.items in
    record { cell = cell_past (store_of code s) c.args.place (subst (λ n. n ≤ c.args.place) (sym (length-store_of code s)) c.in-None.ensures.got) }

pub returns-in-Some : goal.returns-in-Some
returns-in-Some c =
    let code = arc_value c.args.value.now.code in
    let s = c.args.value.now.cells.items in
    let x = c.in-Some.cell in
    record {
      cell = c.see.ensures.cell ∙ ap (λ (k : List Node). cell_shape k x) c.deref.ensures
          ∙ ap (cell_of code) c.in-Some.ensures.got.1 ∙ sym (cell-store_of code s c.args.place);
    }
