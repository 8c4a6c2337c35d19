use Rattle.std.proofs.Common.{◌≡◌, refl, sym, subst, arith}
use Rattle.asp_model.specs.Shapes.{lists_shape}
use Rattle.law_cuts.specs.Searches.{Goal}
use Rattle.replay_population.specs.declared.population.Population.{Population}
use Rattle.replay_parts.specs.Roster.{Leads}
use Rattle.run_waits.specs.Searches.{goal_of}
use Rattle.run_waits.specs.declared.cuts.search.Search.{Search}
use Rattle.run_waits.proofs.SearchLemmas.{reached_point, run_none, run_one, same_search, stepped}
use Rattle.run_waits.proofs.cuts.search.Search.turn.Goals as goal

pub returns-then-taken-gt0 : goal.returns-then-taken-gt0
returns-then-taken-gt0 c = record {
  searched = λ program n counts turns sought w.
      let g : Goal = goal_of program c.args.lists.now n c.args.count in
      let s : Search = c.args.self.now in
      let q : Population = c.run.new.self in
      let h = reached_point g counts c.args.receipts.now sought c.args.lists.now s turns w in
      let one = run_one program w.point w.top h.reached (lists_shape c.args.lists.now) q _ c.in_ok-taken.taken c.if-taken-gt0.true (c.in_ok-taken.ensures.runs w.point w.top w.at.population w.named.0) in
      let leads : Leads s.population.roster q.roster = subst (Leads s.population.roster) (sym c.in_ok-taken.ensures.roster) (λ k m e. e) in
      c.go_back.ensures.searched g c.args.lists.now turns refl (stepped g counts c.args.receipts.now sought c.args.lists.now s turns w q one.0 one.1 one.2 leads);
}

pub look-requires-clause-searching : goal.look-requires-clause-searching
look-requires-clause-searching c =
    let r = c.requires.searching in
    let g : Goal = goal_of r.0 c.args.lists.now r.1 c.args.count in
    let s : Search = c.args.self.now in
    let q : Population = c.run.new.self in
    let w = r.5 in
    let h = reached_point g r.2 c.args.receipts.now r.4 c.args.lists.now s r.3 w in
    let none : c.in_ok-taken.taken ≡ 0 = omega (arith, c.if-taken-gt0.false) in
    let pop = run_none r.0 w.point w.top h.reached q 1 _ c.in_ok-taken.taken none (c.in_ok-taken.ensures.runs w.point w.top w.at.population w.named.0) in
    (r.0, r.1, r.2, r.3, r.4, same_search g c.args.lists.now s r.3 q w pop c.in_ok-taken.ensures.roster)

pub returns : goal.returns
returns c = record {
  searched = λ program n counts turns sought w.
      let g : Goal = goal_of program c.args.lists.now n c.args.count in
      let s : Search = c.args.self.now in
      let q : Population = c.run.new.self in
      let h = reached_point g counts c.args.receipts.now sought c.args.lists.now s turns w in
      let none : c.in_ok-taken.taken ≡ 0 = omega (arith, c.if-taken-gt0.false) in
      let pop = run_none program w.point w.top h.reached q 1 _ c.in_ok-taken.taken none (c.in_ok-taken.ensures.runs w.point w.top w.at.population w.named.0) in
      c.look.ensures.searched program n counts turns sought (same_search g c.args.lists.now s turns q w pop c.in_ok-taken.ensures.roster);
}
