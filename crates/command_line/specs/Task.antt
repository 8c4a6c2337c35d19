-- What words ask for.
use Rattle.std.specs.Prelude.{◌≤◌, ℕ, if◌then◌else◌, ⊤}
use Rattle.std.specs.Prelude.{List, Option, Some, None, option_map, option_and_then}
use Rattle.clap.specs.Walk.{Text}
use Rattle.asp_model.specs.declared.limits.TheConstants.{MOST_DEPTH, MOST_PAIRS, MOST_REDUCTIONS}
use Rattle.command_line.specs.Command.{SettingTexts, TextsShape, is_taken, texts_of}
use Rattle.command_line.specs.Numbers.{number_in}
use Rattle.command_line.specs.Settings.{IsSettings, SettingsShape, budget_of, settings_of}
use Rattle.command_line.specs.Wanted.{WantedShape, Run, Check, Rule, Journal, Save, Resume, SaveAgain, Replay, Compare, Trace, Make}
use Rattle.command_line.specs.Wanted.{companions_of, stand, wanted_in}

-- a depth is that of the states that the report shows; with none it shows no state
pub data TaskShape : Type 0 where
  Runs : (file : Text) (settings : SettingsShape) (depth : Option ℕ) → TaskShape
  Checks : (file : Text) → TaskShape
  Rules : (file : Text) (settings : SettingsShape) → TaskShape
  Journals : (file : Text) (settings : SettingsShape) → TaskShape
  Saves : (file : Text) (settings : SettingsShape) → TaskShape
  Resumes : (file checkpoint : Text) (settings : SettingsShape) (depth : Option ℕ) → TaskShape
  SavesAgain : (file checkpoint : Text) (settings : SettingsShape) → TaskShape
  Replays : (file report : Text) (depth : Option ℕ) → TaskShape
  Compares : (file report other : Text) → TaskShape
  Traces : (file trace : Text) (budget : ℕ) (depth : Option ℕ) → TaskShape
  Makes : (pairs : ℕ) (settings : SettingsShape) → TaskShape

-- a depth is at most 4
abbrev pub IsDepth : Option ℕ → Type 0
IsDepth None = ⊤
IsDepth (Some depth) = depth ≤ MOST_DEPTH

-- the settings are such, pairs and a budget are 1 to the most, and a depth is one
abbrev pub IsWithin : TaskShape → Type 0
IsWithin (Runs file settings depth) = IsSettings settings × IsDepth depth
IsWithin (Rules file settings) = IsSettings settings
IsWithin (Journals file settings) = IsSettings settings
IsWithin (Saves file settings) = IsSettings settings
IsWithin (Resumes file checkpoint settings depth) = IsSettings settings × IsDepth depth
IsWithin (SavesAgain file checkpoint settings) = IsSettings settings
IsWithin (Replays file report depth) = IsDepth depth
IsWithin (Traces file trace budget depth) = ((1 ≤ budget) × (budget ≤ MOST_REDUCTIONS)) × IsDepth depth
IsWithin (Makes pairs settings) = ((1 ≤ pairs) × (pairs ≤ MOST_PAIRS)) × IsSettings settings
IsWithin task = ⊤

-- 0 to 4, where one is given
abbrev pub depth_of : Option Text → Option (Option ℕ)
depth_of None = Some None
depth_of (Some text) = option_map Some (number_in 0 MOST_DEPTH text)

abbrev pub running : Text → SettingTexts → Option Text → Option TaskShape
running file given state =
    option_and_then (λ s. option_map (Runs file s) (depth_of state)) (settings_of given)

abbrev pub ruling : Text → SettingTexts → Option TaskShape
ruling file given = option_map (Rules file) (settings_of given)

abbrev pub journaling : Text → SettingTexts → Option TaskShape
journaling file given = option_map (Journals file) (settings_of given)

abbrev pub saving : Text → SettingTexts → Option TaskShape
saving file given = option_map (Saves file) (settings_of given)

abbrev pub resuming : Text → Text → SettingTexts → Option Text → Option TaskShape
resuming file checkpoint given state =
    option_and_then (λ s. option_map (Resumes file checkpoint s) (depth_of state)) (settings_of given)

abbrev pub saving_again : Text → Text → SettingTexts → Option TaskShape
saving_again file checkpoint given = option_map (SavesAgain file checkpoint) (settings_of given)

abbrev pub replaying : Text → Text → Option Text → Option TaskShape
replaying file report state = option_map (Replays file report) (depth_of state)

abbrev pub tracing : Text → Text → SettingTexts → Option Text → Option TaskShape
tracing file trace given state =
    option_and_then (λ n. option_map (Traces file trace n) (depth_of state)) (budget_of given.budget)

abbrev pub making : Text → SettingTexts → Option TaskShape
making pairs given =
    option_and_then (λ n. option_map (Makes n) (settings_of given)) (number_in 1 MOST_PAIRS pairs)

-- the task, of a program in FILE or of a generated one
abbrev pub task_by : WantedShape → (file : Option Text) → TextsShape → Option TaskShape
task_by Run (Some file) t = running file t.settings t.state
task_by Check (Some file) t = Some (Checks file)
task_by Rule (Some file) t = ruling file t.settings
task_by Journal (Some file) t = journaling file t.settings
task_by Save (Some file) t = saving file t.settings
task_by (Resume checkpoint) (Some file) t = resuming file checkpoint t.settings t.state
task_by (SaveAgain checkpoint) (Some file) t = saving_again file checkpoint t.settings
task_by (Replay report) (Some file) t = replaying file report t.state
task_by (Compare report other) (Some file) t = Some (Compares file report other)
task_by (Trace trace) (Some file) t = tracing file trace t.settings t.state
task_by (Make pairs) None t = making pairs t.settings
task_by wanted file t = None

-- where all that is given may stand beside what is asked for
abbrev pub task_beside : TextsShape → WantedShape → Option TaskShape
task_beside t wanted = if stand (companions_of wanted) t then task_by wanted t.file t else None

abbrev pub task_in : TextsShape → Option TaskShape
task_in t = option_and_then (task_beside t) (wanted_in t)

-- what the words ask for, where the command takes them and their texts may stand together
unfoldable pub task_of : List Text → Option TaskShape
task_of words = if is_taken words then task_in (texts_of words) else None
