use Rattle.serve_rules.proofs.LabelLemmas.{object_labels}
use Rattle.serve_rules.proofs.laws.labels_are_of_objects.Goals as goal

pub returns : goal.returns
returns c = record { law = object_labels }
