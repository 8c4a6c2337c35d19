use Rattle.std.proofs.Common.{length, sym, subst}
use Rattle.frozen_code.specs.Objects.{AreKept}
use Rattle.frozen_code.proofs.objects.object_places.Goals as goal

pub push_kept-requires : goal.push_kept-requires
push_kept-requires c = record { within = subst (AreKept (length c.args.places.now)) (sym c.deref.ensures.value) c.requires.kept }
