use Rattle.std.proofs.Common.{map, sym, ap, ◌∙◌}
use Rattle.std.specs.FinMap.{is_sorted}
use Rattle.asp_model.specs.Names.{name_cmp}
use Rattle.asp_model.specs.Shapes.{reception_shape}
use Rattle.replay_one.proofs.ListedLemmas.{in_order, names_in_order, no_true}
use Rattle.replay_one.proofs.listed.are_in_order.Goals as goal

pub returns-then-have_same_names : goal.returns-then-have_same_names
returns-then-have_same_names c =
    in_order (λ v. map reception_shape v.items) c.args.lists.now.entries.items c.args.counts.now.entries.items c.ascend.result
    (ap (map (λ x. x.0)) (sym c.deref.ensures.value) ∙ c.have_same_names.ensures.0 c.if-have_same_names.true ∙ ap (map (λ x. x.0)) c.deref-2.ensures.value)
    (c.ascend.ensures ∙ ap (is_sorted name_cmp) c.deref-then-have_same_names.ensures.value)

pub returns-else-have_same_names : goal.returns-else-have_same_names
returns-else-have_same_names c = (
  λ yes. no_true (sym c.if-have_same_names.false ∙ yes),
  λ order. c.have_same_names.ensures.1
      (ap (map (λ x. x.0)) c.deref.ensures.value ∙ names_in_order (λ v. map reception_shape v.items) c.args.lists.now.entries.items c.args.counts.now.entries.items order ∙ ap (map (λ x. x.0)) (sym c.deref-2.ensures.value)),
)
