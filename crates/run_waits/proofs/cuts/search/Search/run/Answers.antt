use Rattle.std.proofs.Common.{◌≡◌, ◌-◌, Bool, suc, subst, arith}
use Rattle.law_cuts.specs.Searches.{Goal}
use Rattle.run_waits.specs.Searches.{IsSearched, IsSearching, goal_of}
use Rattle.run_waits.proofs.SearchLemmas.{few_turns}
use Rattle.run_waits.proofs.cuts.search.Search.run.Goals as goal

pub turn-requires-clause-searching : goal.turn-requires-clause-searching
turn-requires-clause-searching c =
    let r = c.requires.searching in
    (r.0, r.1, r.2, c.args.turns - c.loop-left.left, r.4, c.loop-left.invariant.1 r.0 r.1 r.2 r.4 r.5)

pub returns-then-branch : goal.returns-then-branch
returns-then-branch c = record {
  found = λ program n counts sought w.
      let g : Goal = goal_of program c.args.lists.now n c.args.count in
      let t = c.args.turns - c.loop-left.left in
      subst (λ (b : Bool). IsSearched g c.args.lists.now b c.turn.new.self (suc t)) c.if-branch.true (c.in_ok-turn.ensures.searched program n counts t sought (c.loop-left.invariant.1 program n counts sought w));
}

pub loop-left-preserved : goal.loop-left-preserved
loop-left-preserved c = (
  omega (arith, c.loop-left.invariant.0),
  λ program n counts sought w.
      let g : Goal = goal_of program c.args.lists.now n c.args.count in
      let t = c.args.turns - c.loop-left.left in
      let more : suc t ≡ c.args.turns - (c.loop-left.left - 1) = omega (arith, c.loop-left.invariant.0, c.loop-left-test.true) in
      let on = subst (λ (b : Bool). IsSearched g c.args.lists.now b c.turn.new.self (suc t)) c.if-branch.false (c.in_ok-turn.ensures.searched program n counts t sought (c.loop-left.invariant.1 program n counts sought w)) in
      subst (IsSearching g c.args.lists.now c.turn.new.self) more on,
)

pub unreachable-requires : goal.unreachable-requires
unreachable-requires c =
    let r = c.requires.searching in
    let g : Goal = goal_of r.0 c.args.lists.now r.1 c.args.count in
    let few = few_turns g r.2 c.args.receipts.now r.4 c.args.lists.now c.loop-left.self (c.args.turns - c.loop-left.left) (c.loop-left.invariant.1 r.0 r.1 r.2 r.4 r.5) in
    absurd (omega (arith, few, r.3, c.loop-left-test.false))
