use Rattle.std.proofs.Common.{◌≡◌, ◌++◌, ◌∷◌, ◌+◌, [], List, ℕ, Bool, sym, ◌∙◌, ap, subst, rules, arith, length, length-append, map}
use Rattle.std.specs.List.{AllByRecursion}
use Rattle.std.proofs.lemmas.List.{map-append}
use Rattle.indexmap.specs.IndexMap.{insert_entry, keys}
use Rattle.future_update.specs.declared.numbered.Future.{Future}
use Rattle.future_update.specs.Numbered.{IsKnownHome, home_entry, is_future}
use Rattle.future_update.specs.Records.{names_of, shape_of}
use Rattle.future_update.proofs.NumberLemmas.{all_more}
use Rattle.future_update.proofs.RecordLemmas.{filled_stays, futures_more, home_more, home_new, keys_more, keys_new, sized, unfilled_new}
use Rattle.future_update.proofs.records.Records.begin.Goals as goal

entries : (c : goal.After-grow) → c.insert.new.self.entries ≡ c.args.self.now.homes.entries ++ (c.args.future, c.args.home) ∷ []
entries c =
    let r = c.args.self.now in
    let grown : c.insert.new.self.entries ≡ insert_entry is_future r.homes.entries c.args.future c.args.home = search rules in
    home_more c.args.future c.args.home r.homes.entries c.insert.new.self.entries (home_new r c.requires.records c.args.future c.requires.known c.requires.new) grown

pub returns-clause-records : goal.returns-clause-records
returns-clause-records c =
    let r = c.args.self.now in
    let h = c.requires.records in
    let long : length c.insert.new.self.entries ≡ length r.homes.entries + 1 = ap (λ (xs : List (Future × ℕ)). length xs) (entries c) ∙ length-append r.homes.entries ((c.args.future, c.args.home) ∷ []) in
    let grown = keys_more c.args.future c.args.home r.homes.entries c.insert.new.self.entries (entries c) in
    let new = home_new r h c.args.future c.requires.known c.requires.new in
    record {
      names = h.names;
      homes = subst (AllByRecursion (IsKnownHome (names_of r))) (sym (entries c)) (all_more (IsKnownHome (names_of r)) r.homes.entries (c.args.future, c.args.home) h.homes (c.requires.known, c.requires.home));
      futures = futures_more (keys r.homes) (keys c.insert.new.self) c.args.future h.futures (keys_new c.args.future r.homes.entries new) grown;
      filled = c.grow.ensures.ticks;
      filled_size = omega (arith, c.grow.ensures.size, ap (λ (xs : List Bool). length xs) c.in_ok-reserve-2.ensures.done, long, h.filled_size);
      edges = h.edges;
      apart = h.apart;
      answers = h.answers;
      delivered = h.delivered;
      delivered_size = h.delivered_size;
      received = h.received;
    }

pub returns-clause-begun : goal.returns-clause-begun
returns-clause-begun c =
    let r = c.args.self.now in
    let ns = names_of r in
    let h = c.requires.records in
    let homes = ap (map (home_entry ns)) (entries c) ∙ map-append (home_entry ns) r.homes.entries ((c.args.future, c.args.home) ∷ []) in
    let filled = ap (map _) (c.grow.ensures.order ∙ c.in_ok-reserve-2.ensures.order) ∙ filled_stays ns (keys r.homes) (keys c.insert.new.self) c.args.future r.filled.order.items (keys_more c.args.future c.args.home r.homes.entries c.insert.new.self.entries (entries c)) (sized r.homes.entries r.filled h.filled h.filled_size) in
    λ i. record (shape_of r) { homes = homes i; filled = filled i }

pub returns-clause-unfilled : goal.returns-clause-unfilled
returns-clause-unfilled c = unfilled_new c.args.self.now c.requires.records c.args.future c.requires.known c.requires.new
