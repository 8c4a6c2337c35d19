use Rattle.std.proofs.Common.{◌∙◌}
use Rattle.core_thaws.proofs.ToldLemmas.{begins_with}
use Rattle.core_thaws.proofs.edges.tell.Goals as goal

pub begin_all-requires : goal.begin_all-requires
begin_all-requires g c = record { none = c.in_ok-meet_all.ensures.edges.holders ∙ c.requires.none; homes = c.requires.homes }

pub returns : goal.returns
returns g c = record {
  begin = λ k are.
      begins_with k c.args.activities.now c.args.homes.now c.args.futures.now c.args.edges.now c.meet_all.new.edges c.begin_all.new.edges are c.requires.unanswered
      c.in_ok-meet_all.ensures.met c.in_ok-meet_all.ensures.edges c.begin_all.result c.begin_all.ensures.told c.begin_all.ensures.rest;
}
