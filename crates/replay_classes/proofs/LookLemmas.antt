-- What is told of an activity is what it does next.
use Rattle.std.specs.Borrow.{Bor}
use Rattle.asp_model.specs.declared.name.ActivityName.{ActivityName}
use Rattle.asp_model.specs.Names.{Name}
use Rattle.asp_model.specs.Intent as intent
use Rattle.asp_model.specs.Intent.{Intent, Acts, Rests, StatusShape}
use Rattle.step_activity.specs.Outlook.{IsOutlook}
use Rattle.step_parts.specs.declared.outlook.Outlook.{Outlook}
use Rattle.step_parts.specs.declared.outlook.Outlook.TheVariants as outlook
use Rattle.replay_classes.specs.declared.looks.Look.{Look}
use Rattle.replay_classes.specs.declared.looks.Look.TheVariants as look
use Rattle.replay_classes.specs.Looks.{IsLook}

abbrev pub look_by : Outlook → Look
look_by outlook.Steps = look.Steps
look_by (outlook.Sends m) = look.Sends m.now
look_by outlook.Polls = look.Polls
look_by o = look.Rests

-- who rests has no next step

no_steps : (n : Name) (s : StatusShape) → IsOutlook n (Rests s) outlook.Steps → ⊥
no_steps n intent.Done h = h
no_steps n intent.Serving h = h
no_steps n intent.Running h = h
no_steps n (intent.Awaits f) h = h
no_steps n (intent.Faulted x) h = h

no_sends : (n : Name) (m : Bor ActivityName) (s : StatusShape) → IsOutlook n (Rests s) (outlook.Sends m) → ⊥
no_sends n m intent.Done h = h
no_sends n m intent.Serving h = h
no_sends n m intent.Running h = h
no_sends n m (intent.Awaits f) h = h
no_sends n m (intent.Faulted x) h = h

no_polls : (n : Name) (s : StatusShape) → IsOutlook n (Rests s) outlook.Polls → ⊥
no_polls n intent.Done h = h
no_polls n intent.Serving h = h
no_polls n intent.Running h = h
no_polls n (intent.Awaits f) h = h
no_polls n (intent.Faulted x) h = h

pub looks_so : (n : Name) (i : Intent) (o : Outlook) → IsOutlook n i o → IsLook n i (look_by o)
looks_so n (Acts e) outlook.Steps h = h
looks_so n (Acts e) (outlook.Sends m) h = h
looks_so n (Acts e) outlook.Polls h = h
looks_so n (Acts e) (outlook.Awaits f) h = absurd h
looks_so n (Acts e) (outlook.Faulted x) h = absurd h
looks_so n (Acts e) outlook.Serving h = absurd h
looks_so n (Acts e) outlook.Done h = absurd h
looks_so n (Rests s) (outlook.Awaits f) h = tt
looks_so n (Rests s) (outlook.Faulted x) h = tt
looks_so n (Rests s) outlook.Serving h = tt
looks_so n (Rests s) outlook.Done h = tt
looks_so n (Rests s) outlook.Steps h = absurd (no_steps n s h)
looks_so n (Rests s) (outlook.Sends m) h = absurd (no_sends n m s h)
looks_so n (Rests s) outlook.Polls h = absurd (no_polls n s h)
