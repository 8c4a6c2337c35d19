use Rattle.turn_hub.proofs.NumberLemmas.{parts_length}
use Rattle.turn_hub.proofs.closing.opened.Goals as goal

pub returns-clause-parts : goal.returns-clause-parts
returns-clause-parts g c = let seat = c.args.seat in parts_length seat.number seat.parts _ seat.some_part seat.numbered
