use Rattle.std.proofs.Common.{sym}
use Rattle.future_update.specs.Names.{edge_of}
use Rattle.future_update.specs.Records.{names_of, shape_of}
use Rattle.future_update.proofs.NumberLemmas.{same_names}
use Rattle.future_update.proofs.records.Records.is_no_edge.Goals as goal

pub returns-clause-edge : goal.returns-clause-edge
returns-clause-edge c =
    let r = c.args.self.now in
    let x = c.args.edge in
    c.is_no_edge.ensures.edge (edge_of (names_of r) x) (shape_of r).edges
    (sym (same_names (names_of r) c.requires.records.names x.from x.to c.requires.known.from c.requires.known.to))
    c.has_edge.ensures.edge
