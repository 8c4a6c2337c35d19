use Rattle.std.proofs.Common.{◌∙◌, ◌≤◌, ℕ, List, length, sym, ap, subst}
use Rattle.std.specs.Arc.{arc_value}
use Rattle.code_table.specs.declared.code.Node.{Node}
use Rattle.code_table.specs.Shapes.{cell_of, cell_shape, store_of}
use Rattle.code_table.proofs.CodedLemmas.{cell-store_of, length-store_of}
use Rattle.step_reads.proofs.SightLemmas.{past_end}
use Rattle.step_reads.proofs.reading.cell_of.Goals as goal

pub returns-in-Some : goal.returns-in-Some
returns-in-Some c =
    let k : List Node = arc_value c.args.parcel.now.code in
    let s = c.args.parcel.now.cells.items in
    let p : ℕ = c.args.place in
    let d = c.in-Some.cell in
    record {
      cell = c.see.ensures.cell ∙ ap (λ (m : List Node). cell_shape m d) c.deref.ensures
          ∙ ap (cell_of k) c.in-Some.ensures.got.1 ∙ sym (cell-store_of k s p);
    }

pub returns-in-None : goal.returns-in-None
returns-in-None c =
    let k : List Node = arc_value c.args.parcel.now.code in
    let s = c.args.parcel.now.cells.items in
    let p : ℕ = c.args.place in
    let past : length (store_of k s) ≤ p = subst (λ n. n ≤ p) (sym (length-store_of k s)) c.in-None.ensures.got in
    record { cell = sym (past_end (store_of k s) p past) }
