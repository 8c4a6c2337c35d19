use Rattle.std.proofs.Common.{[], ◌∷◌, refl}
use Rattle.std.specs.Fmt.{digits}
use Rattle.asp_model.specs.Names.{main_name}
use Rattle.asp_model.specs.History.{Lent, Committed}
use Rattle.asp_model.specs.Replay.{plain_run}
use Rattle.def_journals.specs.Journals.{RunShape}
use Rattle.checkpoint_text.specs.Rows.{three}
use Rattle.law_checkpoints.specs.Saved.{end_of}
use Rattle.law_checkpoints.proofs.AgainLemmas.{runs_are_saved}
use Rattle.law_checkpoint_texts.proofs.rows.saved_at_three.Goals as goal

at_three : RunShape
at_three = record { configuration = plain_run 3 three; names = main_name ∷ []; left = 0; out = [] }

pub returns : goal.returns
unfolding digits at_three
returns c = (end_of at_three, runs_are_saved three 3 (Lent 0 ∷ Committed 0 3 ∷ []) at_three refl, refl)
