use Rattle.core_ranks.specs.Ranks.{rank_shape}
use Rattle.core_seats.specs.Seats.{seat_at}
use Rattle.core_state.proofs.HandLemmas.{taken_in, taken_out}
use Rattle.core_state.proofs.StandLemmas.{here_closed, here_ranked, number_known, out_ranked, values_closed}
use Rattle.core_state.proofs.ranking.look.Goals as goal

pub get-requires : goal.get-requires
get-requires c = let r = c.requires.standing in record { known = number_known r.0 r.1 c.args.state.now r.2 c.args.number r.3 }

pub rank_of-requires-clause-closed : goal.rank_of-requires-clause-closed
rank_of-requires-clause-closed c =
    let r = c.requires.standing in
    let x = c.args.state.now in
    here_closed r.0 r.1 x r.2 c.args.number r.3 c.in-Some.actor.now (taken_in (seat_at x.seats c.args.number) c.in-Some.actor.now c.in-Some.ensures.here)

pub rank_of-requires-clause-values : goal.rank_of-requires-clause-values
rank_of-requires-clause-values c = let r = c.requires.standing in values_closed r.0 r.1 c.args.state.now r.2 c.args.number r.3

pub returns-in_ok-rank-in-Some : goal.returns-in_ok-rank-in-Some
returns-in_ok-rank-in-Some c = record {
  rank = λ h code t s.
      let x = c.args.state.now in
      let a = c.in-Some.actor.now in
      here_ranked h code x t c.args.number s a (rank_shape c.in_ok-rank-in-Some.rank) (taken_in (seat_at x.seats c.args.number) a c.in-Some.ensures.here)
      (λ b rs n stands. c.in_ok-rank-in-Some.ensures.rank b rs n stands);
}

pub returns-in-None : goal.returns-in-None
returns-in-None c = record {
  rank = λ h code t s. out_ranked h code c.args.state.now t c.args.number s (taken_out (seat_at c.args.state.now.seats c.args.number) c.in-None.ensures.here);
}
