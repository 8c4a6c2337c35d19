use Rattle.std.proofs.Common.{◌∷◌, [], sym, ◌∙◌, ap, map}
use Rattle.std.proofs.lemmas.List.{map-append}
use Rattle.future_update.specs.Names.{edge_of}
use Rattle.future_update.specs.Numbered.{edge_at}
use Rattle.future_update.specs.Records.{names_of, shape_of}
use Rattle.future_update.proofs.RecordLemmas.{delivered_more, delivered_so}
use Rattle.future_update.proofs.records.Records.deliver.Goals as goal

pub tick-requires-clause-open : goal.tick-requires-clause-open
tick-requires-clause-open c = sym (delivered_so c.args.self.now c.requires.records c.args.place c.requires.within) ∙ c.requires.open

pub returns-clause-shape : goal.returns-clause-shape
returns-clause-shape c =
    let r = c.args.self.now in
    let delivered = ap (map (λ p. edge_of (names_of r) (edge_at r.edges.keys p))) c.tick.ensures.order ∙ map-append (λ p. edge_of (names_of r) (edge_at r.edges.keys p)) r.delivered.order.items (c.args.place ∷ []) ∙ sym (delivered_more r c.requires.records c.args.place c.requires.within c.requires.open) in
    λ i. record (shape_of r) { delivered = delivered i }
