use Rattle.std.proofs.Common.{refl, ◌+◌}
use Rattle.explain.proofs.PlaceLemmas.{written}
use Rattle.explain.proofs.differences.places.Places.next.Goals as goal

pub returns-clause-more : goal.returns-clause-more
returns-clause-more c = written c.args.name.now c.args.self.now c.know.new.self.counts (c.get_mut.follows.lender (c.in-Some.count.now + 1)) c.in-Some.count.now (c.in-Some.count.now + 1)
    (record { alloc = c.know.new.self.alloc; counts = c.get_mut.follows.lender (c.in-Some.count.now + 1) })
    c.in_ok-know.ensures.same refl c.in-Some.ensures.value refl (c.get_mut.follows.holds (c.in-Some.count.now + 1))
