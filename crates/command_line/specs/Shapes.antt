-- What the code holds, as texts and tasks.
use Rattle.std.specs.Prelude.{Option, option_map}
use Rattle.std.specs.Borrow.{Bor}
use Rattle.clap.specs.Walk.{Text}
use Rattle.update_policy.specs.Plans.{plan_shape}
use Rattle.command_line.specs.Command.{SettingTexts, TextsShape}
use Rattle.command_line.specs.Settings.{SettingsShape}
use Rattle.command_line.specs.Wanted.{CompanionsShape, WantedShape, Run, Check, Rule, Journal, Save, Resume, SaveAgain, Replay, Compare, Trace, Make}
use Rattle.command_line.specs.Task.{TaskShape, Runs, Checks, Rules, Journals, Saves, Resumes, SavesAgain, Replays, Compares, Traces, Makes}
use Rattle.command_line.specs.declared.command.Given.{Given}
use Rattle.command_line.specs.declared.command.Texts.{Texts}
use Rattle.command_line.specs.declared.settings.Settings.{Settings}
use Rattle.command_line.specs.declared.task.Task.{Task}
use Rattle.command_line.specs.declared.task.Task.TheVariants as task
use Rattle.command_line.specs.declared.wanted.Companions.{Companions}
use Rattle.command_line.specs.declared.wanted.Wanted.{Wanted}
use Rattle.command_line.specs.declared.wanted.Wanted.TheVariants as wanted

abbrev pub text_behind : Option (Bor Text) → Option Text
text_behind = option_map (λ s. s.now)

abbrev pub given_shape : Given → SettingTexts
given_shape g = record {
  workers = text_behind g.workers;
  budget = text_behind g.budget;
  strategy = text_behind g.strategy;
  update = text_behind g.update;
}

abbrev pub texts_shape : Texts → TextsShape
texts_shape t = record {
  file = text_behind t.file;
  check = t.check;
  determinate = t.determinate;
  journal = t.journal;
  save = t.save;
  resume = text_behind t.resume;
  replay = text_behind t.replay;
  same = text_behind t.same;
  trace = text_behind t.trace;
  make = text_behind t.make;
  state = text_behind t.state;
  settings = given_shape t.settings;
}

abbrev pub settings_shape : Settings → SettingsShape
settings_shape s = record { workers = s.workers; budget = s.budget; plan = plan_shape s.plan }

abbrev pub task_shape : Task → TaskShape
task_shape (task.Run file settings depth) = Runs file.now (settings_shape settings) depth
task_shape (task.Check file) = Checks file.now
task_shape (task.Rule file settings) = Rules file.now (settings_shape settings)
task_shape (task.Journal file settings) = Journals file.now (settings_shape settings)
task_shape (task.Save file settings) = Saves file.now (settings_shape settings)
task_shape (task.Resume file checkpoint settings depth) = Resumes file.now checkpoint.now (settings_shape settings) depth
task_shape (task.SaveAgain file checkpoint settings) = SavesAgain file.now checkpoint.now (settings_shape settings)
task_shape (task.Replay file report depth) = Replays file.now report.now depth
task_shape (task.Compare file report other) = Compares file.now report.now other.now
task_shape (task.Trace file trace budget depth) = Traces file.now trace.now budget depth
task_shape (task.Make pairs settings) = Makes pairs (settings_shape settings)

abbrev pub wanted_shape : Wanted → WantedShape
wanted_shape wanted.Run = Run
wanted_shape wanted.Check = Check
wanted_shape wanted.Rule = Rule
wanted_shape wanted.Journal = Journal
wanted_shape wanted.Save = Save
wanted_shape (wanted.Resume checkpoint) = Resume checkpoint.now
wanted_shape (wanted.SaveAgain checkpoint) = SaveAgain checkpoint.now
wanted_shape (wanted.Replay report) = Replay report.now
wanted_shape (wanted.Compare report other) = Compare report.now other.now
wanted_shape (wanted.Trace trace) = Trace trace.now
wanted_shape (wanted.Make pairs) = Make pairs.now

abbrev pub companions_shape : Companions → CompanionsShape
companions_shape c = record { racing = c.racing; budget = c.budget; state = c.state }
