use Rattle.std.proofs.Common.{subst}
use Rattle.future_update.specs.Holders.{AreEdges, HoldersView}
use Rattle.future_update.specs.Records.{names_of}
use Rattle.future_update.proofs.EdgeLemmas.{edges_apart}
use Rattle.future_update.proofs.holders.Holders.len.Goals as goal

pub returns-clause-edges : goal.returns-clause-edges
returns-clause-edges c =
    let r = c.self.inside.records in
    let h = c.self.invariant.records in
    subst (λ (v : HoldersView). AreEdges v.holders.edges) c.self.view_is (edges_apart (names_of r) h.names r.edges.keys h.edges h.apart)
