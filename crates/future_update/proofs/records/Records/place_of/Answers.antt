use Rattle.std.proofs.Common.{◌∙◌, ap}
use Rattle.std.specs.Prelude.{position}
use Rattle.def_journals.specs.Edges.{same_edge}
use Rattle.asp_model.specs.Shapes.{future_shape}
use Rattle.future_update.specs.Names.{edge_between}
use Rattle.future_update.specs.Records.{shape_of}
use Rattle.future_update.proofs.PlaceLemmas.{edge_nowhere, edge_place}
use Rattle.future_update.proofs.records.Records.place_of.Goals as goal

pub returns-in-Some : goal.returns-in-Some
returns-in-Some c =
    let r = c.args.self.now in
    record { place = c.get_index_of.ensures.index ∙ edge_place r c.requires.records c.in-Some.edge c.in-Some.ensures.found.0 ∙ ap (λ x. position (same_edge x) (shape_of r).edges) c.in-Some.ensures.found.1 }

pub returns-in-None : goal.returns-in-None
returns-in-None c = record { place = edge_nowhere c.args.self.now c.requires.records (edge_between (future_shape c.args.future.now) c.args.from.now c.args.to.now) c.in-None.ensures.found }
