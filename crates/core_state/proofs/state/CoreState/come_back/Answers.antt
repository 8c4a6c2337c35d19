use Rattle.std.proofs.Common.{◌∙◌, [], sym, refl}
use Rattle.core_ranks.specs.Ranks.{rank_shape}
use Rattle.core_seats.specs.Seats.{Out, seats_in}
use Rattle.core_state.specs.declared.state.CoreState.{CoreState}
use Rattle.core_state.proofs.ListLemmas.{got_within}
use Rattle.core_state.proofs.ComeBackLemmas.{rank_written, run_back}
use Rattle.core_state.proofs.state.CoreState.come_back.Goals as goal

pub put-came-requires-clause-known : goal.put-came-requires-clause-known
put-came-requires-clause-known c = got_within (seats_in c.args.self.now.seats) c.args.number (Out []) c.requires.returning.4.away

pub returns-clause-committed : goal.returns-clause-committed
returns-clause-committed c = λ h code s n r told.
    let x = c.args.self.now in
    let y : CoreState = record { alloc = x.alloc; seats = c.put-came.new.self; ranks = c.rank.new.self; futures = x.futures; journal = c.note.new.self; left = c.left_with-self.result; bursts = x.bursts } in
    run_back h code x y s c.args.number n c.args.grant c.args.taken c.args.actor.value r (rank_shape c.args.rank) (told ∙ sym (rank_written s.configuration n r.end)) (record {
      seats = c.put-came.ensures.seats;
      names = c.put-came.ensures.names;
      kept = c.put-came.ensures.kept;
      here = c.in_ok-rank.ensures.here;
      others = c.in_ok-rank.ensures.others;
      futures = refl;
      entries = c.note.ensures.entries;
      room = c.note.ensures.room;
      left = c.left_with-self.ensures.left;
      bursts = refl;
    })
