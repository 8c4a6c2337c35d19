use Rattle.std.proofs.Common.{◌∙◌, ap, arith, map}
use Rattle.asp_check.specs.ArityFaults.{first_arity}
use Rattle.asp_check.specs.Sets.{known_or}
use Rattle.asp_check.specs.Walk.{arity_of}
use Rattle.asp_check.proofs.Arities.{arity_in-empty, first_more}
use Rattle.asp_check.proofs.arity.first_arities.Goals as goal

pub loop-place-init : goal.loop-place-init
loop-place-init c = λ q. ap (λ o. known_or o (first_arity q (map arity_of c.args.places.now))) (arity_in-empty c.new-arities.result c.new-arities.ensures.empty q)

pub loop-place-preserved : goal.loop-place-preserved
loop-place-preserved c = λ q. first_more c.loop-place.arities c.add_first.new.arities c.args.places.now c.loop-place.place-index _ (omega arith) c.in_ok-add_first.ensures q ∙ c.loop-place.invariant q
