-- What the code holds, as texts and tasks.
use Rattle.std.specs.Prelude.{◌≡◌, List, Option, Some, map, option_map, false}
use Rattle.std.specs.Borrow.{Bor}
use Rattle.clap.specs.Walk.{Text}
use Rattle.asp_explain.specs.declared.command.Texts.{Texts}
use Rattle.asp_explain.specs.declared.command.Refused.{Refused}
use Rattle.asp_explain.specs.declared.command.Refused.TheVariants as refused
use Rattle.asp_explain.specs.declared.page.Page.{Page}
use Rattle.asp_explain.specs.declared.task.Task.{Task}
use Rattle.asp_explain.specs.declared.task.Task.TheVariants as task
use Rattle.asp_explain.specs.declared.task.Wanted.{Wanted}
use Rattle.asp_explain.specs.declared.task.Wanted.TheVariants as wanted
use Rattle.asp_explain.specs.declared.stop.Stop.{Stop}
use Rattle.asp_explain.specs.declared.stop.Stop.TheVariants as stops
use Rattle.asp_explain.specs.Words.{TextsShape, is_taken}
use Rattle.asp_explain.specs.Tasks.{AskNothing, Events, File, Other, PageShape, Picture, Run, TaskShape, Until, task_of}

abbrev pub text_behind : Option (Bor Text) → Option Text
text_behind = option_map (λ s. s.now)

abbrev pub texts_behind : List (Bor Text) → List Text
texts_behind = map (λ s. s.now)

abbrev pub pair_behind : Option (Bor Text × Bor Text) → Option (Text × Text)
pair_behind = option_map (λ p. (p.0.now, p.1.now))

abbrev pub texts_shape : Texts → TextsShape
texts_shape t = record {
  file = text_behind t.file;
  report = text_behind t.report;
  events = t.events;
  activity = text_behind t.activity;
  from = text_behind t.from;
  most = text_behind t.most;
  until = pair_behind t.until;
  other = text_behind t.other;
  picture = t.picture;
}

abbrev pub page_shape : Page → PageShape
page_shape p = record { activity = text_behind p.activity; from = p.from; most = p.most }

abbrev pub task_shape : Task → TaskShape
task_shape (task.File file) = File file.now
task_shape (task.Run file report) = Run file.now report.now
task_shape (task.Events file report page) = Events file.now report.now (page_shape page)
task_shape (task.Other file report other picture) = Other file.now report.now other.now picture
task_shape (task.Picture file report page) = Picture file.now report.now (page_shape page)
task_shape (task.Until file report activity count) = Until file.now report.now activity.now count

-- the words ask for this task; or the command does not take them, and the text is the help
abbrev pub IsWanted : List Text → Wanted → Type 0
IsWanted words (wanted.Told task) = task_of words ≡ Some (task_shape task)
IsWanted words (wanted.Help text) = is_taken words ≡ false

-- the words are refused for what they are, and not for want of memory
abbrev pub IsRefusedFor : List Text → Refused → Type 0
IsRefusedFor words refused.Memory = Unit {0}
IsRefusedFor words refused.Usage = is_taken words ≡ false
IsRefusedFor words (refused.Help text) = is_taken words ≡ false

-- the words ask for nothing, or memory ran out
abbrev pub StopsFor : List Text → Stop → Type 0
StopsFor words stops.Usage = AskNothing words
StopsFor words stops.Memory = Unit {0}
StopsFor words stop = ⊥
