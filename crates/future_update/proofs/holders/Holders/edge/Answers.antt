use Rattle.std.proofs.Common.{◌<◌, ◌∙◌, length, sym, ap, subst}
use Rattle.std.specs.Prelude.{Some}
use Rattle.std.proofs.lemmas.List.{length-map}
use Rattle.future_update.specs.Holders.{HoldersView, edge_in}
use Rattle.future_update.specs.Names.{edge_of}
use Rattle.future_update.specs.Records.{names_of}
use Rattle.future_update.proofs.PlaceLemmas.{edge_stands}
use Rattle.future_update.proofs.holders.Holders.edge.Goals as goal

pub returns : goal.returns
returns c =
    let r = c.self.inside.records in
    let within : c.args.place < length r.edges.keys = subst (λ n. c.args.place < n) (length-map r.edges.keys (edge_of (names_of r))) (subst (λ (v : HoldersView). c.args.place < length v.holders.edges) (sym c.self.view_is) c.requires.within) in
    record { edge = ap (λ (v : HoldersView). edge_in v c.args.place) (sym c.self.view_is) ∙ edge_stands r c.args.place within ∙ ap (λ e. Some (edge_of (names_of r) e)) (sym c.edge-edge.ensures.edge) ∙ ap Some (sym c.edge.ensures.edge) }
