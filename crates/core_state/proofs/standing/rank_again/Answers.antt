use Rattle.std.proofs.Common.{◌≡◌, ◌∙◌, sym, subst}
use Rattle.core_ranks.specs.Ranks.{HasNeed, IsRanked}
use Rattle.law_core.specs.Ranked.{rank_of}
use Rattle.future_table.specs.Values.{values_of}
use Rattle.core_state.proofs.ReceivingLemmas.{is_needy, not_looked}
use Rattle.core_state.specs.Deliveries.{looked_at}
use Rattle.core_state.proofs.standing.rank_again.Goals as goal

pub returns-then-not-has_need-clause-here : goal.returns-then-not-has_need-clause-here
returns-then-not-has_need-clause-here c = λ was a rs n r st.
    subst (IsRanked c.args.ranks.now c.args.number) (sym (not_looked was (rank_of (values_of c.args.futures.now) rs n a) (sym r.needy ∙ sym c.has_need.ensures.has_need ∙ c.if-not-has_need.true))) r

pub rank-requires : goal.rank-requires
rank-requires c =
    let r = c.requires.ranked in
    let is : r.0 ≡ HasNeed = is_needy r.0 (sym r.1.needy ∙ sym c.has_need.ensures.has_need ∙ c.if-not-has_need.false) in
    record { rests = c.leave.ensures.here HasNeed (subst (IsRanked c.args.ranks.now c.args.number) is r.1) }

pub returns-clause-here : goal.returns-clause-here
returns-clause-here c = λ was a rs n r st.
    let is : was ≡ HasNeed = is_needy was (sym r.needy ∙ sym c.has_need.ensures.has_need ∙ c.if-not-has_need.false) in
    let told = rank_of (values_of c.args.futures.now) rs n a in
    subst (λ x. IsRanked c.rank.new.self c.args.number (looked_at x told)) (sym is) (subst (IsRanked c.rank.new.self c.args.number) (c.in_ok-rank.ensures.rank a rs n st) c.in_ok-rank-2.ensures.here)

pub returns-clause-others : goal.returns-clause-others
returns-clause-others c = λ j x apart r. c.in_ok-rank-2.ensures.others j x apart (c.leave.ensures.others j x apart r)
