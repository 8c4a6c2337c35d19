use Rattle.std.proofs.Common.{◌∙◌, refl, ap, subst}
use Rattle.asp_model.specs.Shapes.{lists_shape}
use Rattle.law_cuts.specs.Searches.{Goal}
use Rattle.replay_population.proofs.EndLemmas.{reached_closed}
use Rattle.replay_population.proofs.GivingLemmas.{reached_hand_on}
use Rattle.run_waits.specs.Searches.{goal_of}
use Rattle.run_waits.specs.Turns.{IsTurn}
use Rattle.run_waits.specs.declared.cuts.search.Search.{Search}
use Rattle.run_waits.specs.declared.cuts.turns.Turn.TheVariants as turn
use Rattle.run_waits.proofs.SearchLemmas.{pushed, reached_point, stepped, told_at, wants_some}
use Rattle.run_waits.proofs.cuts.search.Search.look.Goals as goal

pub turn_of-requires-clause-reached : goal.turn_of-requires-clause-reached
turn_of-requires-clause-reached c =
    let r = c.requires.searching in
    let g : Goal = goal_of r.0 c.args.lists.now r.1 c.args.count in
    (r.0, r.5.point, reached_point g r.2 c.args.receipts.now r.4 c.args.lists.now c.args.self.now r.3 r.5)

pub step-requires : goal.step-requires
step-requires c =
    let r = c.requires.searching in
    let g : Goal = goal_of r.0 c.args.lists.now r.1 c.args.count in
    let s : Search = c.args.self.now in
    let w = r.5 in
    let h = reached_point g r.2 c.args.receipts.now r.4 c.args.lists.now s r.3 w in
    let told = told_at g r.2 c.args.receipts.now r.4 w.point w.at.way in
    let t = subst (IsTurn (lists_shape c.args.lists.now) w.point s.population.roster w.top) c.in-Steps.is (c.in_ok-turn_of.ensures.turn r.0 w.point w.top h told w.named.0) in
    record { steps = (w.top, w.named.0, w.point, t.0, reached_closed s.population r.0 w.point h, t.1, reached_hand_on r.0 w.point w.top t.0 h.bare h.reached t.1) }

pub unreachable-requires : goal.unreachable-requires
unreachable-requires c =
    let r = c.requires.searching in
    let g : Goal = goal_of r.0 c.args.lists.now r.1 c.args.count in
    let s : Search = c.args.self.now in
    let w = r.5 in
    let h = reached_point g r.2 c.args.receipts.now r.4 c.args.lists.now s r.3 w in
    let told = told_at g r.2 c.args.receipts.now r.4 w.point w.at.way in
    let is = c.in-Wants-None.is ∙ ap (λ o. turn.Wants o) c.in-Wants-None.field-0-is in
    let t = subst (IsTurn (lists_shape c.args.lists.now) w.point s.population.roster w.top) is (c.in_ok-turn_of.ensures.turn r.0 w.point w.top h told w.named.0) in
    wants_some g r.2 c.args.receipts.now r.4 c.args.lists.now s r.3 w s.population w.at.population refl refl t

pub returns-in_ok-step-in-Steps : goal.returns-in_ok-step-in-Steps
returns-in_ok-step-in-Steps c = record {
  searched = λ program n counts turns sought w.
      let g : Goal = goal_of program c.args.lists.now n c.args.count in
      let s : Search = c.args.self.now in
      let h = reached_point g counts c.args.receipts.now sought c.args.lists.now s turns w in
      let told = told_at g counts c.args.receipts.now sought w.point w.at.way in
      let t = subst (IsTurn (lists_shape c.args.lists.now) w.point s.population.roster w.top) c.in-Steps.is (c.in_ok-turn_of.ensures.turn program w.point w.top h told w.named.0) in
      let pop = c.in_ok-step-in-Steps.ensures.steps w.point t.0 w.top w.at.population w.named.0 t.1 (reached_hand_on program w.point w.top t.0 h.bare h.reached t.1) in
      c.go_back.ensures.searched g c.args.lists.now turns refl (stepped g counts c.args.receipts.now sought c.args.lists.now s turns w c.step.new.self _ t.2 pop c.in_ok-step-in-Steps.ensures.leads);
}

pub returns-in_ok-push-in-Wants-Some : goal.returns-in_ok-push-in-Wants-Some
returns-in_ok-push-in-Wants-Some c = record {
  searched = λ program n counts turns sought w.
      let g : Goal = goal_of program c.args.lists.now n c.args.count in
      let s : Search = c.args.self.now in
      let h = reached_point g counts c.args.receipts.now sought c.args.lists.now s turns w in
      let told = told_at g counts c.args.receipts.now sought w.point w.at.way in
      let is = c.in-Wants-Some.is ∙ ap (λ o. turn.Wants o) c.in-Wants-Some.field-0-is in
      let t = subst (IsTurn (lists_shape c.args.lists.now) w.point s.population.roster w.top) is (c.in_ok-turn_of.ensures.turn program w.point w.top h told w.named.0) in
      pushed g counts c.args.receipts.now sought c.args.lists.now s turns w s.population _ c.in-Wants-Some.number w.at.population refl refl t refl c.in-Wants-Some.number-is c.in_ok-push-in-Wants-Some.ensures.items;
}
