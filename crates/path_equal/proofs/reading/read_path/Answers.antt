use Rattle.std.proofs.Common.{Some, None, ◌∙◌, ap}
use Rattle.path_equal.specs.Reading.{found_of, labels_shape}
use Rattle.path_equal.proofs.ReadLemmas.{read_is}
use Rattle.path_equal.proofs.reading.read_path.Goals as goal

pub returns-in-Some : goal.returns-in-Some
returns-in-Some c = record {
  found = λ s status is term. c.read_from.ensures.found ∙ ap found_of (read_is c.args.state.now s status is c.args.root (labels_shape c.args.path.now) (Some c.in-Some.place) (c.in-Some.ensures.place s term));
}

pub returns-in-None : goal.returns-in-None
returns-in-None c = record {
  found = λ s status is term. ap found_of (read_is c.args.state.now s status is c.args.root (labels_shape c.args.path.now) None (c.in-None.ensures.place s term));
}
