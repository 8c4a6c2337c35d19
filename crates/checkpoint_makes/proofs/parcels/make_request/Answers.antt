use Rattle.std.proofs.Common.{ap, refl}
use Rattle.checkpoint_makes.proofs.MadeLemmas.{request_made}
use Rattle.checkpoint_makes.proofs.parcels.make_request.Goals as goal

pub make_parcel-requires : goal.make_parcel-requires
make_parcel-requires c = record { table = c.requires.table; proper = c.requires.proper }

pub returns : goal.returns
returns c = record { made = request_made _ _ _ c.args.request (ap (λ l. l.text) c.alone.ensures.label) refl c.in_ok-future.ensures.future c.in_ok-arguments.ensures.made }
