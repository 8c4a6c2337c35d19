use Rattle.std.proofs.Common.{◌∙◌, ap, is_some}
use Rattle.serve_rules.specs.Labels.{class_labels}
use Rattle.serve_rules.proofs.LabelLemmas.{number_has}
use Rattle.serve_rules.proofs.wanted.is_method.Goals as goal

pub returns : goal.returns
returns c = record { member = c.is_some.ensures ∙ ap is_some c.method.ensures.number ∙ number_has c.args.label.now.text (class_labels c.args.class.now) }
