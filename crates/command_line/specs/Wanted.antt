-- The table of the command: which task is asked for, and what may stand beside it.
use Rattle.std.specs.Prelude.{◌&&◌, ◌||◌, not, if◌then◌else◌, Bool, true, false}
use Rattle.std.specs.Prelude.{Option, Some, None, option_map, is_some}
use Rattle.clap.specs.Walk.{Text}
use Rattle.command_line.specs.Command.{SettingTexts, TextsShape}

-- what is asked of a program
pub data WantedShape : Type 0 where
  -- where no option asks for anything else
  Run : WantedShape
  Check : WantedShape
  -- whether the run is the only one
  Rule : WantedShape
  -- what the core of the run did
  Journal : WantedShape
  -- what is left of a run whose budget runs out
  Save : WantedShape
  -- a run that goes on from a checkpoint
  Resume : (checkpoint : Text) → WantedShape
  -- what is left of it, where its budget runs out
  SaveAgain : (checkpoint : Text) → WantedShape
  Replay : (report : Text) → WantedShape
  -- two reports of it, as services see them
  Compare : (report other : Text) → WantedShape
  -- whether a trace is one of it, and how it ends
  Trace : (trace : Text) → WantedShape
  Make : (pairs : Text) → WantedShape

-- with one option more, where it is given: it asks for something in place of a run, and no two of them stand together
abbrev pub and_asks : Option WantedShape → Option WantedShape → Option WantedShape
and_asks asked None = asked
and_asks (Some Run) (Some wanted) = Some wanted
and_asks asked (Some wanted) = None

-- a flag asks for this, where it is given
abbrev pub flag_asks : Bool → WantedShape → Option WantedShape
flag_asks given wanted = if given then Some wanted else None

-- `--save` and `--resume` stand together, too
abbrev pub save_asks : Bool → Option Text → Option WantedShape
save_asks save None = flag_asks save Save
save_asks false (Some checkpoint) = Some (Resume checkpoint)
save_asks true (Some checkpoint) = Some (SaveAgain checkpoint)

-- `--replay` asks for a replay, and with `--same` for a comparison
abbrev pub replay_asks : Option Text → Option Text → Option WantedShape
replay_asks None same = None
replay_asks (Some report) None = Some (Replay report)
replay_asks (Some report) (Some other) = Some (Compare report other)

-- the one task asked for: a line for each option that asks for one
abbrev pub wanted_in : TextsShape → Option WantedShape
wanted_in t =
    let asked = and_asks (Some Run) (flag_asks t.check Check) in
    let asked = and_asks asked (flag_asks t.determinate Rule) in
    let asked = and_asks asked (flag_asks t.journal Journal) in
    let asked = and_asks asked (save_asks t.save t.resume) in
    let asked = and_asks asked (replay_asks t.replay t.same) in
    let asked = and_asks asked (option_map Trace t.trace) in
    and_asks asked (option_map Make t.make)

-- what may stand beside what is asked for
pub record CompanionsShape : Type 0 where
  -- workers and strategies
  pub racing : Bool
  pub budget : Bool
  pub state : Bool

abbrev pub companions_of : WantedShape → CompanionsShape
companions_of Run = record { racing = true; budget = true; state = true }
companions_of Check = record { racing = false; budget = false; state = false }
companions_of Rule = record { racing = true; budget = true; state = false }
companions_of Journal = record { racing = true; budget = true; state = false }
companions_of Save = record { racing = true; budget = true; state = false }
companions_of (Resume checkpoint) = record { racing = true; budget = true; state = true }
companions_of (SaveAgain checkpoint) = record { racing = true; budget = true; state = false }
companions_of (Replay report) = record { racing = false; budget = false; state = true }
companions_of (Compare report other) = record { racing = false; budget = false; state = false }
companions_of (Trace trace) = record { racing = false; budget = true; state = true }
companions_of (Make pairs) = record { racing = true; budget = true; state = false }

-- workers or a strategy are given
abbrev pub is_racing : SettingTexts → Bool
is_racing t = is_some t.workers || (is_some t.strategy || is_some t.update)

-- it is not given, or may stand there
abbrev pub is_allowed : (may given : Bool) → Bool
is_allowed may given = may || not given

-- all that is given may stand there, and `--same` beside `--replay` alone
abbrev pub stand : CompanionsShape → TextsShape → Bool
stand c t = is_allowed c.racing (is_racing t.settings)
    && (is_allowed c.budget (is_some t.settings.budget)
    && (is_allowed c.state (is_some t.state) && is_allowed (is_some t.replay) (is_some t.same)))
