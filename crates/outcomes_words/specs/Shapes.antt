-- What the code holds, as texts and tasks.
use Rattle.std.specs.Prelude.{◌≡◌, List, Option, Some, option_map, map, false}
use Rattle.std.specs.Borrow.{Bor}
use Rattle.clap.specs.Walk.{Text}
use Rattle.outcomes_words.specs.declared.command.Texts.{Texts}
use Rattle.outcomes_words.specs.declared.command.Refused.{Refused}
use Rattle.outcomes_words.specs.declared.command.Refused.TheVariants as refused
use Rattle.outcomes_words.specs.declared.task.Task.{Task}
use Rattle.outcomes_words.specs.declared.task.Wanted.{Wanted}
use Rattle.outcomes_words.specs.declared.task.Wanted.TheVariants as wanted
use Rattle.outcomes_words.specs.declared.task.WordsRefused.{WordsRefused}
use Rattle.outcomes_words.specs.declared.task.WordsRefused.TheVariants as errors
use Rattle.outcomes_words.specs.Words.{AskNothing, IsWithin, TaskShape, TextsShape, is_taken, task_of}

abbrev pub text_behind : Option (Bor Text) → Option Text
text_behind = option_map (λ s. s.now)

abbrev pub texts_behind : List (Bor Text) → List Text
texts_behind = map (λ s. s.now)

abbrev pub texts_shape : Texts → TextsShape
texts_shape t = record {
  file = text_behind t.file;
  budget = text_behind t.budget;
  ends = text_behind t.ends;
  state = text_behind t.state;
  report = text_behind t.report;
  end = text_behind t.end;
  given = texts_behind t.given.items;
  whole_orders = t.whole_orders;
}

abbrev pub task_shape : Task → TaskShape
task_shape t = record {
  file = t.file.now;
  budget = t.budget;
  most = t.most;
  depth = t.depth;
  choice = t.choice;
  given = texts_behind t.given.items;
  whole_orders = t.whole_orders;
}

-- the words ask for this task; or the command does not take them, and the text is the help
abbrev pub IsWanted : List Text → Wanted → Type 0
IsWanted words (wanted.Outcomes task) = task_of words ≡ Some (task_shape task)
IsWanted words (wanted.Help text) = is_taken words ≡ false

-- the words are refused for what they are, and not for want of memory
abbrev pub IsRefusedFor : List Text → Refused → Type 0
IsRefusedFor words refused.Memory = Unit {0}
IsRefusedFor words refused.Usage = is_taken words ≡ false
IsRefusedFor words (refused.Help text) = is_taken words ≡ false

-- a task is within its bounds
abbrev pub IsWantedWithin : Wanted → Type 0
IsWantedWithin (wanted.Outcomes task) = IsWithin (task_shape task)
IsWantedWithin (wanted.Help text) = Unit {0}

-- the words ask for nothing, or memory ran out
abbrev pub IsUnwanted : List Text → WordsRefused → Type 0
IsUnwanted words errors.Usage = AskNothing words
IsUnwanted words errors.Memory = Unit {0}
