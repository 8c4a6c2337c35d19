use Rattle.std.proofs.Common.{◌<◌, ℕ, List, [], None, length, sym, ◌∙◌, ap, subst, arith}
use Rattle.std.specs.Prelude.{slice_get}
use Rattle.std.proofs.lemmas.Option.{slice_get_past}
use Rattle.asp_model.specs.History.{ChoiceShape}
use Rattle.def_journals.specs.Edges.{EdgeShape, no_holders, owed_at}
use Rattle.future_update.specs.declared.numbered.Edge.{Edge}
use Rattle.std.specs.List.{AllByRecursion}
use Rattle.future_update.specs.Records.{answers_of, names_of}
use Rattle.future_update.proofs.NameLemmas.{clash}
use Rattle.future_update.specs.Kept.{IsMember}
use Rattle.future_update.specs.Passings.{may_send}
use Rattle.future_update.proofs.HolderLemmas.{owes_by, passings_kept}
use Rattle.future_update.proofs.holders.Holders.new.Goals as goal

none_before : {C : Type 0} (p : ℕ) → p < 0 → C
none_before p lt = absurd (omega (arith, lt))

pub invariant_of-result : goal.invariant_of-result
invariant_of-result c =
    let nothing : List EdgeShape = [] in
    let unanswered : List ChoiceShape = [] in
    record {
      records = c.new.ensures.records;
      passings = passings_kept (record { sorted = c.new-2.result; last = None }) [] c.new.result.edges.keys [] (answers_of c.new.result) (λ p sends. clash sends (ap may_send (slice_get_past unanswered p (omega arith)))) c.new.ensures.edges c.new.ensures.answers;
      owed = λ p. c.new-3.ensures.none p ∙ sym (owes_by c.new.result no_holders unanswered c.new.ensures.shape c.new.ensures.answers p ∙ ap (λ x. owed_at no_holders x (slice_get unanswered p)) (slice_get_past nothing p (omega arith)));
      laned = record {
        lanes = c.new-3.ensures.lanes;
        size = c.new-3.ensures.count ∙ sym (ap (λ (es : List Edge). length es) c.new.ensures.edges);
        lane = λ p lt. none_before p (subst (λ (es : List Edge). p < length es) c.new.ensures.edges lt);
        members = subst (AllByRecursion (IsMember (names_of c.new.result) c.new-3.result)) (sym c.new-4.ensures.items) tt;
        closed = λ k e. clash e (c.new-3.ensures.open k);
      };
    }
