use Rattle.std.proofs.Common.{◌≡◌, ◌∙◌, [], refl, sym}
use Rattle.run_waits.specs.declared.cuts.search.Search.{Search}
use Rattle.run_waits.proofs.SearchLemmas.{goes_back, goes_on, no_items}
use Rattle.run_waits.proofs.cuts.search.Search.go_back.Goals as goal

pub returns-in-Some : goal.returns-in-Some
returns-in-Some c = record {
  searched = λ g lists turns same w.
      let s : Search = c.args.self.now in
      goes_back g lists s (record s { top = c.in-Some.number; below = c.pop.new.self }) turns c.in-Some.number w refl refl c.in-Some.ensures.items;
}

pub returns-in-None : goal.returns-in-None
returns-in-None c = record {
  searched = λ g lists turns same w.
      let s : Search = c.args.self.now in
      let empty : s.below.items ≡ [] = no_items s.below.items (sym s.below.ok.0 ∙ c.in-None.ensures.cases.0) in
      let rest : c.pop.new.self.items ≡ [] = no_items c.pop.new.self.items (sym c.pop.new.self.ok.0 ∙ c.in-None.ensures.cases.1) in
      goes_on g lists s turns w empty c.pop.new.self rest c.args.count c.count.result same (c.count.ensures.count w.point w.activity w.top w.at.population w.named.0 w.there);
}
