use Rattle.turn_hub.proofs.hub.Hub.close.Goals as goal

pub returns-clause-history : goal.returns-clause-history
returns-clause-history g c = c.gather-place.ensures.knows _ c.empty_slot.ensures.knows
