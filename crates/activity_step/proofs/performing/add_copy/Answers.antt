use Rattle.std.proofs.Common.{◌≡◌, ℕ, List, [], ◌∷◌, ◌++◌, IfOk, OnOk, Result, Ok, Err, length, map, refl, sym, ap, ◌∙◌}
use Rattle.std.proofs.lemmas.List.{append-nil}
use Rattle.asp_model.specs.Shapes.{line_shape}
use Rattle.asp_model.specs.Contraction.{allots}
use Rattle.asp_model.specs.declared.outcome.Line.{Line}
use Rattle.std.specs.declared.alloc.AllocError.{AllocError}
use Rattle.code_table.specs.declared.code.Node.{Node}
use Rattle.code_table.specs.Cells.{CodedCell, CodedStore, cell_at}
use Rattle.code_table.specs.Shapes.{cell_of, store_of}
use Rattle.code_table.proofs.CodedLemmas.{cell-store_of, length-store_of, store_of-append}
use Rattle.step_rows.specs.declared.decision.Decision.TheVariants as decision
use Rattle.activity_step.specs.Advances.{IsPerformed}
use Rattle.activity_step.proofs.performing.add_copy.Goals as goal

copied : (k : List Node) (old new : CodedStore) (lines : List Line) (at : ℕ) (c : CodedCell) (r : Result ℕ AllocError) → c ≡ cell_at old at → IfOk r (λ p. p ≡ length old) → OnOk r (new ≡ old ++ c ∷ []) → IfOk r (IsPerformed k old new lines lines (decision.Copies at))
copied k old new lines at c (Err e) is place cells = tt
copied k old new lines at c (Ok p) is place cells = record {
  added = [];
  is =
      (λ i. allots (store_of k old) ((cell-store_of k old at ∙ ap (cell_of k) (sym is)) i) [])
      ∙ (λ i. Rattle.asp_model.specs.Contraction.Becomes (Rattle.asp_model.specs.Term.loc ((length-store_of k old ∙ sym place) i)) ((sym (ap (store_of k) cells ∙ store_of-append k old (c ∷ []))) i) []);
  lines_are = sym (append-nil (map line_shape lines));
}

pub returns : goal.returns
returns c = record {
  performed = λ k. copied k c.args.store.now.cells c.add_equal.new.self.cells c.args.lines.now c.args.at (cell_at c.args.store.now.cells c.args.at) c.add_equal.result refl c.add_equal.ensures.place c.add_equal.ensures.cells;
}
