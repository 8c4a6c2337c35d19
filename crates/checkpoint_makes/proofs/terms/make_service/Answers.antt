use Rattle.checkpoint_makes.proofs.HeldLemmas.{service_made, some_wait, waiting_asked}
use Rattle.checkpoint_makes.proofs.terms.make_service.Goals as goal

pub first_of-contexts-requires : goal.first_of-contexts-requires
first_of-contexts-requires c = record { some = some_wait c.args.service.terms.items c.requires.waits }

pub make_contexts-requires : goal.make_contexts-requires
make_contexts-requires c = record { contexts = waiting_asked c.args.service.terms.items _ _ c.first_of-contexts.ensures.first c.requires.waits }

pub returns : goal.returns
returns c = record { made = service_made _ _ c.args.service _ _ _ _ c.first_of-contexts.ensures.first c.requires.waits c.in_ok-held.ensures.held c.in_ok-contexts.ensures.turned c.in_ok-future.ensures.same }
