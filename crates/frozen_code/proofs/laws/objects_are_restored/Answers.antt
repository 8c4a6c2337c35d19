use Rattle.frozen_code.proofs.ObjectLemmas.{objects_are_kept, objects_are_restored}
use Rattle.frozen_code.proofs.laws.objects_are_restored.Goals as goal

pub returns : goal.returns
returns c = record { kept = objects_are_kept; same = objects_are_restored }
