use Rattle.std.proofs.Common.{◌∙◌, refl, sym}
use Rattle.law_chases.proofs.FutureLemmas.{none_true}
use Rattle.checkpoint_checks.proofs.SoundLemmas.{fits_of, fits_to}
use Rattle.checkpoint_checks.proofs.whole.is_sound.Goals as goal

pub returns-in-Ok : goal.returns-in-Ok
returns-in-Ok c = record { sound = (λ e. fits_to c.args.file.now c.in-Ok.ensures.fits, λ s. refl) }

pub returns-in-Err-Unsound : goal.returns-in-Err-Unsound
returns-in-Err-Unsound c = record {
  sound = (
    λ e. none_true e,
    λ s. sym (c.in-Err-Unsound.ensures.fits c.in-Err-Unsound.field-0-is) ∙ fits_of c.args.file.now s,
  );
}
