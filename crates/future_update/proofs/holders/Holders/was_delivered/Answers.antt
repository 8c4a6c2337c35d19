use Rattle.std.proofs.Common.{◌<◌, ◌∙◌, length, sym, ap, subst}
use Rattle.std.proofs.lemmas.List.{length-map}
use Rattle.future_update.specs.Holders.{HoldersView, edge_in, is_delivered}
use Rattle.future_update.specs.Names.{edge_of}
use Rattle.future_update.specs.Records.{names_of, shape_of}
use Rattle.future_update.proofs.PlaceLemmas.{edge_stands}
use Rattle.future_update.proofs.holders.Holders.was_delivered.Goals as goal

pub was_delivered-requires : goal.was_delivered-requires
was_delivered-requires c =
    let r = c.self.inside.records in
    let within : c.args.place < length r.edges.keys = subst (λ n. c.args.place < n) (length-map r.edges.keys (edge_of (names_of r))) (subst (λ (v : HoldersView). c.args.place < length v.holders.edges) (sym c.self.view_is) c.requires.within) in
    record { records = c.self.invariant.records; within = within }

pub returns : goal.returns
returns c =
    let r = c.self.inside.records in
    let within : c.args.place < length r.edges.keys = subst (λ n. c.args.place < n) (length-map r.edges.keys (edge_of (names_of r))) (subst (λ (v : HoldersView). c.args.place < length v.holders.edges) (sym c.self.view_is) c.requires.within) in
    record { delivered = c.was_delivered.ensures.delivered ∙ sym (ap (λ x. is_delivered (shape_of r) x) (edge_stands r c.args.place within)) ∙ ap (λ (v : HoldersView). is_delivered v.holders (edge_in v c.args.place)) c.self.view_is }
