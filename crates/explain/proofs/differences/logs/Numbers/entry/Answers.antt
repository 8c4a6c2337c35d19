use Rattle.std.proofs.Common.{◌∙◌, ap, option_map, sym}
use Rattle.std.specs.List.{slice_get}
use Rattle.asp_model.specs.Shapes.{reception_shape}
use Rattle.explain.proofs.LogLemmas.{entry_found}
use Rattle.explain.proofs.differences.logs.Numbers.entry.Goals as goal

pub returns : goal.returns
returns c = record {
  entry =
      ap (option_map reception_shape) (c.reception_in.ensures ∙ ap (λ l. slice_get l c.args.place) c.deref.ensures.value)
      ∙ entry_found c.args.lists.now c.args.self.now c.requires.numbered c.args.name.now c.in-Some.number c.in-Some-log_at.entry.now (sym c.in-Some.ensures) (sym c.in-Some-log_at.ensures) c.args.place;
}
