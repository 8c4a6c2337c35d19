use Rattle.std.proofs.Common.{◌++◌, ◌∷◌, [], sym, ◌∙◌, ap, map, ℕ}
use Rattle.std.proofs.lemmas.List.{map-append}
use Rattle.indexmap.specs.IndexMap.{keys}
use Rattle.asp_model.specs.Names.{FutureShape}
use Rattle.future_update.specs.Names.{future_of}
use Rattle.future_update.specs.Numbered.{future_at}
use Rattle.future_update.specs.Records.{names_of, shape_of}
use Rattle.future_update.proofs.RecordLemmas.{filled_so, found_future, home_there}
use Rattle.future_update.proofs.records.Records.tick_filled.Goals as goal

pub tick-requires-clause-open : goal.tick-requires-clause-open
tick-requires-clause-open c = sym (filled_so c.args.self.now c.requires.records c.args.future c.requires.known c.in-Some.number (sym c.in-Some.ensures.index)) ∙ c.requires.open

pub returns-clause-shape : goal.returns-clause-shape
returns-clause-shape c =
    let r = c.args.self.now in
    let at : ℕ → FutureShape = λ i. future_of (names_of r) (future_at (keys r.homes) i) in
    let filled = ap (map at) c.tick.ensures.order ∙ map-append at r.filled.order.items (c.in-Some.number ∷ []) ∙ ap (λ f. (shape_of r).filled ++ future_of (names_of r) f ∷ []) (sym (found_future c.args.future r.homes.entries c.in-Some.number (sym c.in-Some.ensures.index))) in
    λ i. record (shape_of r) { filled = filled i }

pub unreachable-requires : goal.unreachable-requires
unreachable-requires c = absurd (home_there c.args.self.now c.requires.records c.args.future c.requires.known c.requires.told (sym c.in-None.ensures.found))
