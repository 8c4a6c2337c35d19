use Rattle.std.proofs.Common.{map, sym, ap, ◌∙◌, rules}
use Rattle.std.specs.Option.{option_map}
use Rattle.asp_model.specs.Shapes.{activity_shape}
use Rattle.determinacy.specs.Rulings.{first_open}
use Rattle.determinacy.proofs.RulingLemmas.{first_least, none_open, not_named, one_name}
use Rattle.determinacy.proofs.ruling.rule.Goals as goal

pub returns-in-None : goal.returns-in-None
returns-in-None c = record {
  ruling = search rules;
  narrow = λ e. none_open (map activity_shape c.args.outcome.now.activities.items) (
      ap (λ xs. first_open (map activity_shape xs)) (sym c.deref.ensures.value)
      ∙ sym c.first_open.ensures ∙ ap (option_map (λ n. n.now)) c.in-None.is);
  least = λ h n e. not_named n e;
}

pub returns-in-Some : goal.returns-in-Some
returns-in-Some c = record {
  ruling = search rules;
  narrow = λ e. not_named c.in-Some.name.now (sym e);
  least = λ h n e. first_least (map activity_shape c.args.outcome.now.activities.items) n h (
      ap (λ xs. first_open (map activity_shape xs)) (sym c.deref.ensures.value)
      ∙ sym c.first_open.ensures ∙ ap (option_map (λ n. n.now)) c.in-Some.is ∙ one_name c.in-Some.name.now n e);
}
