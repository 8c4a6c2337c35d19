use Rattle.std.proofs.Common.{◌≡◌, ◌∙◌, OnOk, ap, subst, sym}
use Rattle.core_ranks.specs.Ranks.{IsRanked, goes, rank_shape}
use Rattle.law_core.specs.Runs.{rank_of_number}
use Rattle.core_state.specs.Changes.{MayWake}
use Rattle.core_state.proofs.OtherLemmas.{goes_still, rested_before, rests_still}
use Rattle.core_state.proofs.ranking.wake.Goals as goal

pub returns-then-goes-clause-here : goal.returns-then-goes-clause-here
returns-then-goes-clause-here c = λ h code t r.
    goes_still c.args.state.now.ranks c.args.number (rank_of_number t c.args.number) r.1 (sym c.goes.ensures.goes ∙ c.if-goes.true)

pub look-requires : goal.look-requires
look-requires c = let r = c.requires.waking in record { standing = (r.0, r.1, r.2, r.3.0) }

pub rank-requires : goal.rank-requires
rank-requires c =
    let r = c.requires.waking in
    let x = c.args.state.now in
    let k = c.args.number in
    let told : rank_shape c.in_ok-rank.rank ≡ rank_of_number r.2 k = c.in_ok-rank.ensures.rank r.0 r.1 r.2 r.3.0 in
    record {
      rests = rested_before x.ranks k (rank_shape c.in_ok-rank.rank) (subst (MayWake x.ranks k) (sym told) r.3.1) (sym c.goes.ensures.goes ∙ c.if-goes.false) (sym c.is_going.ensures ∙ c.if-not-is_going.false);
    }

pub returns-then-not-is_going-clause-here : goal.returns-then-not-is_going-clause-here
returns-then-not-is_going-clause-here c = λ h code t r.
    let k = c.args.number in
    let told : rank_shape c.in_ok-rank.rank ≡ rank_of_number t k = c.in_ok-rank.ensures.rank h code t r.0 in
    rests_still c.args.state.now.ranks k (rank_of_number t k) r.1 (ap goes (sym told) ∙ sym c.is_going.ensures ∙ c.if-not-is_going.true)

pub returns-clause-here : goal.returns-clause-here
returns-clause-here c = λ h code t r.
    let k = c.args.number in
    let told : rank_shape c.in_ok-rank.rank ≡ rank_of_number t k = c.in_ok-rank.ensures.rank h code t r.0 in
    subst (λ z. OnOk c.rank.result (IsRanked c.rank.new.self k z)) told c.rank.ensures.here
