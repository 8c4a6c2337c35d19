use Rattle.std.proofs.Common.{refl}
use Rattle.clap.proofs.OnLiterals.{clap_on_literals}
use Rattle.asp_model.specs.Readable.{is_identifier}
use Rattle.command_line.specs.Command.{is_taken, rows_given}
use Rattle.command_line.specs.Lines.{AcceptedLines}
use Rattle.command_line.specs.Task.{task_of}
use Rattle.command_line.proofs.lines.accepted_lines.Goals as goal

accepted : AcceptedLines
unfolding clap_on_literals is_identifier is_taken rows_given task_of
accepted = record {
  file = refl;
  budget = refl;
  budget_before = refl;
  leading_zeros = refl;
  workers = refl;
  workers_before = refl;
  check = refl;
  determinate = refl;
  determinate_settings = refl;
  journal = refl;
  save = refl;
  save_settings = refl;
  resume = refl;
  resume_all = refl;
  save_again = refl;
  replay = refl;
  replay_hyphen = refl;
  hyphen_behind = refl;
  same = refl;
  trace = refl;
  trace_all = refl;
  state = refl;
  state_budget = refl;
  state_zeros = refl;
  state_replay = refl;
  make = refl;
  make_budget = refl;
  strategy = refl;
  forward = refl;
  update = refl;
  updates = refl;
  sixteen = refl;
  make_all = refl;
  end_of_options = refl;
  one_hyphen = refl;
  empty_word = refl;
}

pub returns : goal.returns
returns c = record { lines = accepted }
