use Rattle.std.proofs.Common.{◌≡◌, ℕ, List, [], ◌∷◌, ◌++◌, OnOk, subst, ◌∙◌}
use Rattle.code_table.specs.Cells.{Object}
use Rattle.activity_step.proofs.objects.add_kept.Goals as goal

pub returns-clause-cells : goal.returns-clause-cells
returns-clause-cells c =
    subst (λ (ns : List ℕ). OnOk c.add_object.result (c.add_object.new.self.cells ≡ c.args.store.now.cells ++ Object c.args.number ns ∷ []))
    (c.as_slice.ensures ∙ c.in_ok-places.ensures.places) c.add_object.ensures.cells
