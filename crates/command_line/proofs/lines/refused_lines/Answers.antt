use Rattle.std.proofs.Common.{refl}
use Rattle.clap.proofs.OnLiterals.{clap_on_literals}
use Rattle.asp_model.specs.Readable.{is_identifier}
use Rattle.command_line.specs.Command.{is_taken, rows_given}
use Rattle.command_line.specs.Lines.{RefusedCombinations, RefusedNumbers, RefusedStrategies, RefusedWords}
use Rattle.command_line.specs.Task.{task_of}
use Rattle.command_line.proofs.lines.refused_lines.Goals as goal

combinations : RefusedCombinations
unfolding clap_on_literals is_identifier is_taken rows_given task_of
combinations = record {
  nothing = refl;
  budget_alone = refl;
  file_make = refl;
  make_check = refl;
  make_replay = refl;
  check_budget = refl;
  check_replay = refl;
  replay_budget = refl;
  determinate_alone = refl;
  determinate_check = refl;
  determinate_replay = refl;
  determinate_state = refl;
  determinate_make = refl;
  journal_check = refl;
  journal_replay = refl;
  journal_state = refl;
  journal_determinate = refl;
  journal_make = refl;
  save_alone = refl;
  save_check = refl;
  save_replay = refl;
  save_state = refl;
  save_determinate = refl;
  save_journal = refl;
  save_trace = refl;
  save_make = refl;
  resume_alone = refl;
  resume_check = refl;
  resume_replay = refl;
  resume_determinate = refl;
  resume_journal = refl;
  resume_trace = refl;
  resume_make = refl;
  save_again_state = refl;
  same_alone = refl;
  same_state = refl;
  same_check = refl;
  same_make = refl;
  trace_alone = refl;
  trace_check = refl;
  trace_replay = refl;
  trace_same = refl;
  trace_determinate = refl;
  trace_journal = refl;
  trace_make = refl;
  trace_workers = refl;
  trace_strategy = refl;
  trace_update = refl;
  state_alone = refl;
  check_state = refl;
  make_state = refl;
  workers_alone = refl;
  check_workers = refl;
  check_strategy = refl;
  check_update = refl;
  replay_workers = refl;
  replay_strategy = refl;
  replay_update = refl;
}

strategies : RefusedStrategies
unfolding clap_on_literals is_identifier is_taken rows_given task_of
strategies = record {
  unknown = refl;
  capital = refl;
  nothing = refl;
  no_pair = refl;
  no_strategy = refl;
  no_label = refl;
  comma_behind = refl;
  unknown_behind = refl;
  reserved = refl;
  digit = refl;
  hyphen = refl;
  label_twice = refl;
  seventeen = refl;
  strategy_twice = refl;
}

numbers : RefusedNumbers
unfolding clap_on_literals is_identifier is_taken rows_given task_of
numbers = record {
  no_budget = refl;
  budget_above = refl;
  nine_digits = refl;
  no_digit = refl;
  sign = refl;
  state_above = refl;
  no_state = refl;
  state_word = refl;
  no_workers = refl;
  workers_above = refl;
  workers_sign = refl;
  workers_nothing = refl;
  no_pairs = refl;
  pairs_above = refl;
}

words : RefusedWords
unfolding clap_on_literals is_identifier is_taken rows_given task_of
words = record {
  two_files = refl;
  twice = refl;
  workers_twice = refl;
  state_twice = refl;
  resume_twice = refl;
  flag_twice = refl;
  flag_with_value = refl;
  no_value = refl;
  no_value_at_end = refl;
  hyphen_behind = refl;
  shortened = refl;
  unknown = refl;
  help = refl;
  short_help = refl;
  version = refl;
}

pub returns : goal.returns
returns c = record { combinations = combinations; strategies = strategies; numbers = numbers; words = words }
