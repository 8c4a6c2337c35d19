-- What an activity does next, as it is told without a change.
use Rattle.std.specs.Prelude.{◌≡◌, Option, Some, None}
use Rattle.asp_model.specs.Names.{Name}
use Rattle.asp_model.specs.Configuration.{RequestShape}
use Rattle.asp_model.specs.Intent as intent
use Rattle.asp_model.specs.Intent.{Intent, Acts, Rests}
use Rattle.asp_model.specs.Shapes.{fault_shape, future_shape}
use Rattle.law_steps.specs.Steps.{IsPoll}
use Rattle.step_parts.specs.declared.outlook.Outlook.{Outlook}
use Rattle.step_parts.specs.declared.outlook.Outlook.TheVariants as outlook

-- who is sent to
abbrev pub IsTo : Option (Name × RequestShape) → Name → Type 0
IsTo None n = ⊥
IsTo (Some x) n = x.0 ≡ n

-- the intent of this activity acts, and logs nothing, or sends to this one, or polls; or it rests so
abbrev pub IsOutlook : Name → Intent → Outlook → Type 0
IsOutlook n (Acts e) outlook.Steps = (e.sent ≡ None) × (e.logged ≡ None)
IsOutlook n (Acts e) (outlook.Sends m) = IsTo e.sent m.now
IsOutlook n (Acts e) outlook.Polls = IsPoll n e
IsOutlook n (Rests (intent.Awaits f)) (outlook.Awaits g) = f ≡ future_shape g.now
IsOutlook n (Rests (intent.Faulted x)) (outlook.Faulted y) = x ≡ fault_shape y
IsOutlook n (Rests intent.Serving) outlook.Serving = Unit {0}
IsOutlook n (Rests intent.Done) outlook.Done = Unit {0}
IsOutlook n p o = ⊥
