use Rattle.std.proofs.Common.{length, refl, subst}
use Rattle.asp_model.specs.Configuration.{log_of}
use Rattle.replay_parts.specs.declared.bounds.Next.{Next}
use Rattle.replay_parts.specs.Bounds.{IsNextAt, lists_within}
use Rattle.replay_one.proofs.LookLemmas.{next_of}
use Rattle.replay_one.proofs.round.wake_next.Goals as goal

pub returns-in-Only-clause-next : goal.returns-in-Only-clause-next
returns-in-Only-clause-next c = λ k n q population has there i sends.
    let lists = lists_within c.args.bounds.now in
    let at = subst (λ (x : Next). IsNextAt lists n (length (log_of k n)) x) c.in-Only.is (c.next_in.ensures.next k n population has there) in
    c.wake_owner.ensures.owner n q has (next_of lists k n q (length (log_of k n)) c.in-Only.next refl at i) sends
