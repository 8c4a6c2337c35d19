use Rattle.replay_offers.proofs.replays.held_in.Goals as goal

pub returns : goal.returns
returns c = record {
  held = λ t d r. record {
    lists = c.in_ok-lists.ensures.lists t d r;
    next = c.in_ok-entries.ensures.next t d r;
  };
}
