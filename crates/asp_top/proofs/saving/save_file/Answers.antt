use Rattle.asp_top.proofs.saving.save_file.Goals as goal

pub returns-clause-ran : goal.returns-clause-ran
returns-clause-ran g c = record { checked = c.in_ok-checked.checked; given = c.in_ok-checked.ensures.program; run = c.in_ok-saved.ensures.saved }
