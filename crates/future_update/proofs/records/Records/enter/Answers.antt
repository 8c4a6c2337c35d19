use Rattle.std.proofs.Common.{◌≡◌, ◌++◌, ◌∷◌, ◌+◌, [], sym, ◌∙◌, ap, subst, rules, arith, length, length-append, map, List}
use Rattle.std.specs.Prelude.{if◌then◌else◌}
use Rattle.std.specs.List.{AllByRecursion, list_any}
use Rattle.std.proofs.lemmas.List.{map-append}
use Rattle.asp_model.specs.declared.journal.Choice.{Choice}
use Rattle.future_update.specs.declared.numbered.Edge.{Edge}
use Rattle.future_update.specs.Names.{edge_of}
use Rattle.future_update.specs.Numbered.{IsPassed, is_edge}
use Rattle.future_update.specs.Records.{names_of, shape_of}
use Rattle.future_update.proofs.NumberLemmas.{all_more}
use Rattle.future_update.proofs.RecordLemmas.{delivered_stays, edge_new, edges_more, inserted, passed_more, ticks_below}
use Rattle.future_update.proofs.records.Records.enter.Goals as goal

keys : (c : goal.After-grow) → c.insert.new.self.keys ≡ c.args.self.now.edges.keys ++ c.args.edge ∷ []
keys c =
    let r = c.args.self.now in
    let grown : c.insert.new.self.keys ≡ (if list_any (is_edge c.args.edge) r.edges.keys then r.edges.keys else r.edges.keys ++ c.args.edge ∷ []) = search rules in
    inserted r.edges.keys c.insert.new.self.keys c.args.edge (edge_new r c.requires.records c.args.edge c.requires.passed.0 c.requires.new) grown

pub returns-clause-edges : goal.returns-clause-edges
returns-clause-edges c = keys c

pub returns-clause-records : goal.returns-clause-records
returns-clause-records c =
    let r = c.args.self.now in
    let h = c.requires.records in
    let long : length c.insert.new.self.keys ≡ length r.edges.keys + 1 = ap (λ (xs : List Edge). length xs) (keys c) ∙ length-append r.edges.keys (c.args.edge ∷ []) in
    let answered : c.push.new.self.items ≡ r.answers.items ++ c.args.answer ∷ [] = search rules in
    let answers : length c.push.new.self.items ≡ length r.answers.items + 1 = ap (λ (xs : List Choice). length xs) answered ∙ length-append r.answers.items (c.args.answer ∷ []) in
    record {
      names = h.names;
      homes = h.homes;
      futures = h.futures;
      filled = h.filled;
      filled_size = h.filled_size;
      edges = subst (AllByRecursion (IsPassed (names_of r))) (sym (keys c)) (all_more (IsPassed (names_of r)) r.edges.keys c.args.edge h.edges c.requires.passed);
      apart = edges_more r.edges.keys c.insert.new.self.keys c.args.edge h.apart (edge_new r h c.args.edge c.requires.passed.0 c.requires.new) (keys c);
      answers = omega (arith, answers, long, h.answers);
      delivered = c.grow.ensures.ticks;
      delivered_size = omega (arith, c.grow.ensures.size, long, h.delivered_size);
      received = h.received;
    }

pub returns-clause-shape : goal.returns-clause-shape
returns-clause-shape c =
    let r = c.args.self.now in
    let ns = names_of r in
    let h = c.requires.records in
    let edges = ap (map (edge_of ns)) (keys c) ∙ map-append (edge_of ns) r.edges.keys (c.args.edge ∷ []) ∙ sym (passed_more r h c.args.edge c.requires.passed c.requires.new) in
    let delivered = ap (map _) c.grow.ensures.order ∙ delivered_stays ns r.edges.keys c.insert.new.self.keys c.args.edge r.delivered.order.items (keys c) (ticks_below r.delivered _ h.delivered h.delivered_size) in
    λ i. record (shape_of r) { edges = edges i; delivered = delivered i }
