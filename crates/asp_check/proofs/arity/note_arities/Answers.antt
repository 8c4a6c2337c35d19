use Rattle.std.proofs.Common.{◌∙◌, arith, map}
use Rattle.asp_check.specs.Walk.{arity_of}
use Rattle.asp_check.proofs.Arities.{faults_more}
use Rattle.asp_check.proofs.arity.note_arities.Goals as goal

pub loop-place-preserved : goal.loop-place-preserved
loop-place-preserved c = faults_more (map arity_of c.args.places.now) c.args.places.now c.loop-place.place-index _ c.loop-place.least c.note_arity.new.least c.known_arity.result (omega arith) (c.known_arity.ensures ∙ c.requires _) c.note_arity.ensures ∙ c.loop-place.invariant
