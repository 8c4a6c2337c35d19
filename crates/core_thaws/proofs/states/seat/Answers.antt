use Rattle.std.proofs.Common.{ℕ, length, refl, sym, subst}
use Rattle.future_table.specs.Values.{values_of}
use Rattle.law_core.specs.Ranked.{rank_of}
use Rattle.core_ranks.specs.Ranks.{IsRanked, OthersStay}
use Rattle.core_seats.specs.Seats.{seats_in}
use Rattle.step_activity.specs.Actors.{Stands}
use Rattle.core_thaws.proofs.states.seat.Goals as goal

pub returns : goal.returns
returns c =
    let old = c.args.state.now in
    let count : ℕ = length (seats_in old.seats) in
    let added = c.in_ok-number.ensures in
    record {
      seated = record {
        kept = added.kept;
        names = added.names;
        seats = added.seats;
        here = λ b rs stands.
            let told = c.in_ok-rank.ensures.rank b rs c.args.name (subst (λ x. Stands x b rs) (sym c.as_ref.ensures) stands) in
            subst (λ k. IsRanked c.rank.new.self k (rank_of (values_of old.futures) rs c.args.name b)) added.number (subst (IsRanked c.rank.new.self c.in_ok-number.number) told c.in_ok-rank-2.ensures.here);
        others = subst (λ k. OthersStay k old.ranks c.rank.new.self) added.number c.in_ok-rank-2.ensures.others;
        futures = refl;
        journal = refl;
        left = refl;
        bursts = refl;
      };
    }
