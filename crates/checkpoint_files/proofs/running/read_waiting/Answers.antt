use Rattle.std.proofs.Common.{◌∙◌, List, ap, map, sym}
use Rattle.std.proofs.lemmas.Result.{err_from_is_err_and}
use Rattle.asp_model.specs.declared.term.Term.{Term}
use Rattle.asp_model.specs.Shapes.{tree_of}
use Rattle.checkpoint_text.specs.Reading.{list_of, waiting_of, term}
use Rattle.checkpoint_files.specs.Running.{is_waiting}
use Rattle.checkpoint_files.proofs.RunningLemmas.{some_refused, waiting_none, waiting_told}
use Rattle.checkpoint_files.proofs.running.read_waiting.Goals as goal

pub returns-in_err-terms : goal.returns-in_err-terms
returns-in_err-terms c =
    let q = err_from_is_err_and c.from_residual.result c.from_residual.ensures.1 in
    rw (q.1, q.2)
    (record {
      read = some_refused (list_of term) waiting_of c.args.items.now c.in_err-terms.field-0.0
          c.in_err-terms.ensures.read;
    })

pub returns-then-waits : goal.returns-then-waits
returns-then-waits c = record {
  read = waiting_told (list_of term) c.args.items.now c.read_terms.new.items
      (map tree_of c.in_ok-terms.terms.items) c.in_ok-terms.ensures.read
      (ap (λ (ts : List Term). is_waiting (map tree_of ts)) (sym c.deref.ensures.value) ∙ sym c.waits.ensures.waiting
      ∙ c.if-waits.true);
}

pub returns-else-waits : goal.returns-else-waits
returns-else-waits c = record {
  read = waiting_none (list_of term) c.args.items.now c.read_terms.new.items
      (map tree_of c.in_ok-terms.terms.items) c.in_ok-terms.ensures.read
      (ap (λ (ts : List Term). is_waiting (map tree_of ts)) (sym c.deref.ensures.value) ∙ sym c.waits.ensures.waiting
      ∙ c.if-waits.false);
}
