use Rattle.checkpoint_checks.proofs.SoundLemmas.{fits_of, fits_to}
use Rattle.checkpoint_checks.proofs.laws.fitting_is_sound.Goals as goal

pub returns : goal.returns
returns c = λ file. (fits_to file, fits_of file)
