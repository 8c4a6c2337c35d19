use Rattle.std.proofs.Common.{◌∙◌, length, refl, sym, subst}
use Rattle.asp_model.specs.Configuration.{Poll, log_of}
use Rattle.replay_parts.specs.declared.bounds.Next.{Next}
use Rattle.replay_parts.specs.Bounds.{IsNextAt, lists_within}
use Rattle.replay_one.proofs.LookLemmas.{anything_next, nothing_next, only_next}
use Rattle.replay_one.proofs.looks.may_poll.Goals as goal

pub returns-in-Anything : goal.returns-in-Anything
returns-in-Anything c = record {
  may = λ k n population has there.
      let lists = lists_within c.args.bounds.now in
      let at = subst (λ (x : Next). IsNextAt lists n (length (log_of k n)) x) c.in-Anything.is (c.next_in.ensures.next k n population has there) in
      sym (anything_next lists k n (Poll) (length (log_of k n)) at);
}

pub returns-in-Only : goal.returns-in-Only
returns-in-Only c = record {
  may = λ k n population has there.
      let lists = lists_within c.args.bounds.now in
      let at = subst (λ (x : Next). IsNextAt lists n (length (log_of k n)) x) c.in-Only.is (c.next_in.ensures.next k n population has there) in
      c.is_poll.ensures ∙ sym (only_next lists k n (Poll) (length (log_of k n)) c.in-Only.next refl at);
}

pub returns-in-Nothing : goal.returns-in-Nothing
returns-in-Nothing c = record {
  may = λ k n population has there.
      let lists = lists_within c.args.bounds.now in
      let at = subst (λ (x : Next). IsNextAt lists n (length (log_of k n)) x) c.in-Nothing.is (c.next_in.ensures.next k n population has there) in
      sym (nothing_next lists k n (Poll) (length (log_of k n)) refl at);
}
