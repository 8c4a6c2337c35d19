use Rattle.std.proofs.Common.{◌≡◌, ◌∙◌, sym, ap, subst}
use Rattle.std.specs.Prelude.{not}
use Rattle.asp_model.specs.Shapes.{choice_shape}
use Rattle.def_journals.specs.Edges.{has_edge, has_filled, is_chosen, is_owed}
use Rattle.future_update.specs.declared.numbered.Edge.{Edge}
use Rattle.future_update.specs.Names.{IsKnownEdge, edge_of, future_of}
use Rattle.future_update.specs.Numbered.{edge_at, no_edge}
use Rattle.future_update.specs.Records.{names_of, shape_of}
use Rattle.future_update.proofs.NameLemmas.{clash}
use Rattle.future_update.proofs.NumberLemmas.{all_at}
use Rattle.future_update.proofs.OwedLemmas.{all_tests, delivered_no, unfilled_no}
use Rattle.future_update.proofs.RecordLemmas.{edges_known}
use Rattle.future_update.proofs.records.Records.owes_with.Goals as goal
use Rattle.future_update.proofs.records.Records.owes_with.Goals.{then-not-was_delivered, else-not-was_delivered}

pub is_filled-requires : goal.is_filled-requires
is_filled-requires c =
    let r = c.args.self.now in
    let known = subst (IsKnownEdge (names_of r)) (sym c.edge-edge.ensures.edge) (all_at (IsKnownEdge (names_of r)) r.edges.keys c.args.place no_edge c.requires.within (edges_known r c.requires.records)) in
    record { records = c.requires.records; known = known.future }

pub is_chosen-requires : goal.is_chosen-requires
is_chosen-requires c =
    let r = c.args.self.now in
    let known = subst (IsKnownEdge (names_of r)) (sym c.edge-edge.ensures.edge) (all_at (IsKnownEdge (names_of r)) r.edges.keys c.args.place no_edge c.requires.within (edges_known r c.requires.records)) in
    record { records = c.requires.records; known = known }

pub returns-then-is_filled : goal.returns-then-is_filled
returns-then-is_filled c =
    let r = c.args.self.now in
    let h = shape_of r in
    let a = choice_shape c.args.answer in
    let x = edge_of (names_of r) (edge_at r.edges.keys c.args.place) in
    let is = c.edge-edge.ensures.edge in
    let chosen = c.is_chosen.ensures.chosen ∙ ap (λ (e : Edge). is_chosen a h (edge_of (names_of r) e)) is in
    let owed : is_chosen a h x ≡ is_owed h a x = elim c.if-not-was_delivered.branch [
      | then-not-was_delivered w ↦ all_tests (has_edge x h.delivered) (has_filled x.future h.filled) (is_chosen a h x)
          (sym c.was_delivered.ensures.delivered ∙ w.if-not-was_delivered.true)
          (sym (w.is_filled.ensures.filled ∙ ap (λ (e : Edge). has_filled (future_of (names_of r) e.future) h.filled) is) ∙ sym w.value-is ∙ c.if-is_filled.true)
      | else-not-was_delivered w ↦ clash c.if-is_filled.true (w.value-is ∙ ap (λ b. not b) w.if-not-was_delivered.false)
    ] in
    record { owed = chosen ∙ owed }

pub returns-else-is_filled : goal.returns-else-is_filled
returns-else-is_filled c =
    let r = c.args.self.now in
    let h = shape_of r in
    let a = choice_shape c.args.answer in
    let x = edge_of (names_of r) (edge_at r.edges.keys c.args.place) in
    let is = c.edge-edge.ensures.edge in
    let v = c.if-not-was_delivered.value in
    let owed : v ≡ is_owed h a x = elim c.if-not-was_delivered.branch [
      | then-not-was_delivered w ↦ unfilled_no (has_edge x h.delivered) (has_filled x.future h.filled) (is_chosen a h x) v c.if-is_filled.false
          (sym (w.is_filled.ensures.filled ∙ ap (λ (e : Edge). has_filled (future_of (names_of r) e.future) h.filled) is) ∙ sym w.value-is ∙ c.if-is_filled.false)
      | else-not-was_delivered w ↦ delivered_no (has_edge x h.delivered) (has_filled x.future h.filled) (is_chosen a h x) v c.if-is_filled.false
          (sym c.was_delivered.ensures.delivered ∙ w.if-not-was_delivered.false)
    ] in
    record { owed = owed }
