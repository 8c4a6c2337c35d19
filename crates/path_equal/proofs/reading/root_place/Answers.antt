use Rattle.std.proofs.Common.{List, ap, reverse, slice_get, sym, ◌++◌, ◌∙◌}
use Rattle.std.proofs.lemmas.List.{reverse-reverse}
use Rattle.std.specs.List.{flat_map}
use Rattle.asp_model.specs.Configuration.{ServiceShape}
use Rattle.asp_model.specs.Term.{locations}
use Rattle.def_paths.specs.Agree.{places_in}
use Rattle.path_equal.specs.Reading.{root_in}
use Rattle.path_equal.proofs.reading.root_place.Goals as goal

pub returns-in-TermAt : goal.returns-in-TermAt
returns-in-TermAt c = record {
  place = λ s term. c.nth_place.ensures.place s.term (reverse s.services) term
      ∙ ap (λ (ss : List ServiceShape). slice_get (locations s.term ++ flat_map places_in ss) c.in-TermAt.number) (reverse-reverse s.services)
      ∙ sym (ap (root_in c.args.state.now s) c.in-TermAt.is);
}
