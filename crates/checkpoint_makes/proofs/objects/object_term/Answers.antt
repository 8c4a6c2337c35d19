use Rattle.checkpoint_makes.proofs.ObjectLemmas.{object_is}
use Rattle.checkpoint_makes.proofs.objects.object_term.Goals as goal

pub returns : goal.returns
returns c = record { term = object_is c.args.fields.items c.in_ok-fields.fields c.args.methods c.blank.result c.in_ok-fields.ensures.labels c.in_ok-fields.ensures.places }
