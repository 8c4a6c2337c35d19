use Rattle.std.proofs.Common.{◌≡◌, ◌∙◌, ap, subst}
use Rattle.asp_model.specs.Chase.{chase}
use Rattle.asp_model.specs.Shapes.{future_shape}
use Rattle.code_table.specs.Cells.{held_future}
use Rattle.code_table.specs.declared.future.Future.{Future}
use Rattle.future_table.specs.Values.{values_of}
use Rattle.core_ranks.specs.Ranks.{AreShifted, IsRanked, rank_shape}
use Rattle.law_core.specs.Ranked.{rank_at}
use Rattle.law_core.specs.Runs.{rank_of_number}
use Rattle.core_state.specs.Changes.{IsChange, acted}
use Rattle.core_state.proofs.OtherLemmas.{made_rests, made_stands, nothing_changed, one_filled, one_made, one_received, own_received, receiver_may_wake, receiver_stands}
use Rattle.core_state.proofs.ranking.rank_others.Goals as goal

pub returns-in-Nothing-clause-ranks : goal.returns-in-Nothing-clause-ranks
returns-in-Nothing-clause-ranks c = λ h code s n b e left p.
    nothing_changed h code c.args.state.now s c.args.number n b e left c.args.change p (subst (IsChange s.names e) c.in-Nothing.is p.change)

-- Made

pub look-requires : goal.look-requires
look-requires c =
    let r = c.requires.changed in
    let is = subst (IsChange r.2.names r.5) c.in-Made.is r.7.change in
    record { standing = (r.0, r.1, acted r.2 c.args.number r.3 r.4 r.5 r.6, made_stands r.0 r.1 c.args.state.now r.2 c.args.number r.3 r.4 r.5 r.6 c.args.change r.7 c.in-Made.other is) }

pub rank-requires : goal.rank-requires
rank-requires c =
    let r = c.requires.changed in
    let is = subst (IsChange r.2.names r.5) c.in-Made.is r.7.change in
    record { rests = made_rests r.0 r.1 c.args.state.now r.2 c.args.number r.3 r.4 r.5 r.6 c.args.change r.7 c.in-Made.other is }

pub returns-in_ok-rank-in-Made-2-clause-ranks : goal.returns-in_ok-rank-in-Made-2-clause-ranks
returns-in_ok-rank-in-Made-2-clause-ranks c = λ h code s n b e left p.
    let x = c.args.state.now in
    let k = c.args.number in
    let q = c.in-Made.other in
    let t = acted s k n b e left in
    let is = subst (IsChange s.names e) c.in-Made.is p.change in
    let told : rank_shape c.in_ok-rank-in-Made.rank ≡ rank_of_number t q = c.in_ok-rank-in-Made.ensures.rank h code t (made_stands h code x s k n b e left c.args.change p q is) in
    one_made h code x s k n b e left c.args.change p q is c.rank.new.self (subst (IsRanked c.rank.new.self q) told c.in_ok-rank-in-Made-2.ensures.here) c.in_ok-rank-in-Made-2.ensures.others

-- Received

pub returns-then-other-number-clause-ranks : goal.returns-then-other-number-clause-ranks
returns-then-other-number-clause-ranks c = λ h code s n b e left p.
    own_received h code c.args.state.now s c.args.number n b e left c.args.change p c.in-Received.other (subst (IsChange s.names e) c.in-Received.is p.change) c.if-other-number.true

pub wake-requires : goal.wake-requires
wake-requires c =
    let r = c.requires.changed in
    let x = c.args.state.now in
    let q = c.in-Received.other in
    let is = subst (IsChange r.2.names r.5) c.in-Received.is r.7.change in
    let stands = receiver_stands r.0 r.1 x r.2 c.args.number r.3 r.4 r.5 r.6 c.args.change r.7 q is in
    let may = receiver_may_wake r.0 r.1 x r.2 c.args.number r.3 r.4 r.5 r.6 c.args.change r.7 q is c.if-other-number.false in
    record { waking = (r.0, r.1, acted r.2 c.args.number r.3 r.4 r.5 r.6, (stands, may)) }

pub returns-in_ok-wake-in-Received-clause-ranks : goal.returns-in_ok-wake-in-Received-clause-ranks
returns-in_ok-wake-in-Received-clause-ranks c = λ h code s n b e left p.
    let x = c.args.state.now in
    let k = c.args.number in
    let q = c.in-Received.other in
    let t = acted s k n b e left in
    let is = subst (IsChange s.names e) c.in-Received.is p.change in
    let stands = receiver_stands h code x s k n b e left c.args.change p q is in
    let may = receiver_may_wake h code x s k n b e left c.args.change p q is c.if-other-number.false in
    one_received h code x s k n b e left c.args.change p q is c.wake.new.state.ranks c.if-other-number.false (c.in_ok-wake-in-Received.ensures.here h code t (stands, may)) c.in_ok-wake-in-Received.ensures.others

-- Filled

pub returns-in_ok-shift-in-Filled-clause-ranks : goal.returns-in_ok-shift-in-Filled-clause-ranks
returns-in_ok-shift-in-Filled-clause-ranks c = λ h code s n b e left p.
    let x = c.args.state.now in
    let rank = rank_shape c.in_ok-rank-in-Filled.rank in
    let told : rank ≡ rank_at (chase (values_of x.futures) (held_future c.in-Filled.future)) = c.in_ok-rank-in-Filled.ensures.rank ∙ ap (λ (f : Future). rank_at (chase (values_of x.futures) (future_shape f.name))) c.deref.ensures in
    let shifts = subst (λ (f : Future). AreShifted (future_shape f.name) rank x.ranks c.shift.new.self) c.deref-in-Filled.ensures c.in_ok-shift-in-Filled.ensures.shifted in
    one_filled h code x s c.args.number n b e left c.args.change p c.in-Filled.future rank c.shift.new.self (subst (IsChange s.names e) c.in-Filled.is p.change) told shifts
