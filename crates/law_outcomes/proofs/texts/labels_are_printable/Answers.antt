use Rattle.law_outcomes.proofs.LabelLemmas.{labels_are_printable}
use Rattle.law_outcomes.proofs.texts.labels_are_printable.Goals as goal

pub returns : goal.returns
returns c = labels_are_printable
