use Rattle.std.proofs.Common.{sym, ◌∙◌}
use Rattle.future_update.specs.Names.{IsKnownEdge}
use Rattle.future_update.specs.Numbered.{IsPassed}
use Rattle.future_update.specs.Records.{names_of}
use Rattle.future_update.proofs.NumberLemmas.{all_so, edge_kept}
use Rattle.future_update.proofs.records.Records.has_edge.Goals as goal

pub returns : goal.returns
returns c =
    let r = c.args.self.now in
    let known = all_so (IsPassed (names_of r)) (IsKnownEdge (names_of r)) r.edges.keys (λ x h. h.0) c.requires.records.edges in
    record { edge = c.contains.ensures ∙ sym (edge_kept (names_of r) c.requires.records.names c.args.edge c.requires.known r.edges.keys known) }
