use Rattle.std.proofs.Common.{◌∙◌, List, ap, map, sym}
use Rattle.std.proofs.lemmas.Result.{err_from_is_err_and}
use Rattle.asp_model.specs.declared.term.Term.{Term}
use Rattle.asp_model.specs.Shapes.{tree_of}
use Rattle.checkpoint_text.specs.Reading.{list_of, running_of, term}
use Rattle.checkpoint_files.specs.Running.{is_running}
use Rattle.checkpoint_files.proofs.RunningLemmas.{some_refused, running_none, running_told}
use Rattle.checkpoint_files.proofs.running.read_running.Goals as goal

pub returns-in_err-terms : goal.returns-in_err-terms
returns-in_err-terms c =
    let q = err_from_is_err_and c.from_residual.result c.from_residual.ensures.1 in
    rw (q.1, q.2)
    (record {
      read = some_refused (list_of term) running_of c.args.items.now c.in_err-terms.field-0.0
          c.in_err-terms.ensures.read;
    })

pub returns-then-runs : goal.returns-then-runs
returns-then-runs c = record {
  read = running_told (list_of term) c.args.items.now c.read_terms.new.items
      (map tree_of c.in_ok-terms.terms.items) c.in_ok-terms.ensures.read
      (ap (λ (ts : List Term). is_running (map tree_of ts)) (sym c.deref.ensures.value) ∙ sym c.runs.ensures.running
      ∙ c.if-runs.true);
}

pub returns-else-runs : goal.returns-else-runs
returns-else-runs c = record {
  read = running_none (list_of term) c.args.items.now c.read_terms.new.items
      (map tree_of c.in_ok-terms.terms.items) c.in_ok-terms.ensures.read
      (ap (λ (ts : List Term). is_running (map tree_of ts)) (sym c.deref.ensures.value) ∙ sym c.runs.ensures.running
      ∙ c.if-runs.false);
}
