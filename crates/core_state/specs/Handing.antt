-- What a reduction gives to others, handed on.
use Rattle.std.specs.Prelude.{◌≡◌, ℕ, List, [], ◌++◌, Option, Some, None, length}
use Rattle.std.specs.FinMap.{find}
use Rattle.asp_model.specs.Configuration.{Activity, Configuration, From, ReceptionShape, RequestShape, log_of, requests_of}
use Rattle.asp_model.specs.History.{HistoryShape}
use Rattle.asp_model.specs.Intent.{Effect}
use Rattle.asp_model.specs.Names.{Name, FutureShape, name_cmp, future_cmp}
use Rattle.asp_model.specs.Parcel.{ParcelShape}
use Rattle.asp_model.specs.Step.{put_some, with_last}
use Rattle.def_journals.specs.Journals.{RunShape, out_but}
use Rattle.law_steps.specs.Reached.{IsThere}
use Rattle.law_journals.specs.Numbered.{AreNumbered}
use Rattle.law_core.specs.Commits.{made_by, with_activity}
use Rattle.std.specs.Arc.{arc_value}
use Rattle.request_queue.specs.declared.request.Request.{Request}
use Rattle.code_table.specs.declared.code.Node.{Node}
use Rattle.step_activity.specs.declared.actor.Actor.{Actor}
use Rattle.core_state.specs.Returning.{IsReturning}
use Rattle.step_activity.specs.declared.act.Given.{Given}
use Rattle.step_activity.specs.Effects.{IsGiven, IsGivenOf}
use Rattle.core_state.specs.declared.state.CoreState.{CoreState}
use Rattle.core_state.specs.Cores.{IsPopulated}

-- what a request that comes is in a log
abbrev pub received_log : Option (Name × RequestShape) → Option (Name × ReceptionShape)
received_log None = None
received_log (Some z) = Some (z.0, From z.1.sender)

-- what an effect logs where it sends nothing: it asks what is pending, if anything
abbrev pub asked_log : Option (Name × RequestShape) → Option (Name × ReceptionShape) → Option (Name × ReceptionShape)
asked_log None logged = logged
asked_log (Some z) logged = None

-- who intended an effect, with that done, and in its log what it asked
abbrev pub with_own : Name → Effect → Configuration → Configuration
with_own n e c = record (with_activity n e.own c) { logs = with_last (asked_log e.sent e.logged) c.logs }

-- the run, once others have what the effect gives
abbrev pub handed : RunShape → Effect → RunShape
handed u e = record u {
  configuration = record {
    activities = put_some name_cmp e.made u.configuration.activities;
    received = with_last e.sent u.configuration.received;
    logs = with_last (received_log e.sent) u.configuration.logs;
    futures = put_some future_cmp e.filled u.configuration.futures;
  };
  names = u.names ++ made_by e.made;
}

-- it may be handed on: who is made is new, who is sent to is there, and the future that is filled was not
pub record IsToHand (h : HistoryShape) (code : List Node) (x : CoreState) (u : RunShape) (n : Name) (e : Effect) (g : Given) : Type 0 where
  pub populated : IsPopulated h code x u
  pub numbered : AreNumbered u
  pub given : IsGiven n e g
  pub coded : IsGivenOf code g
  pub made : (z : Name × Activity) → e.made ≡ Some z → (find name_cmp z.0 u.configuration.activities ≡ None) × (requests_of u.configuration z.0 ≡ []) × (log_of u.configuration z.0 ≡ [])
  pub sent : (z : Name × RequestShape) → e.sent ≡ Some z → IsThere u.configuration z.0
  pub filled : (z : FutureShape × ParcelShape) → e.filled ≡ Some z → (find future_cmp z.0 u.configuration.futures ≡ None) × (length z.1.roots ≡ 1)

abbrev pub IsSomeToHand : CoreState → Given → Type 0
IsSomeToHand x g = (h : HistoryShape) × (code : List Node) × (u : RunShape) × (n : Name) × (e : Effect) × IsToHand h code x u n e g

-- a request comes, and is logged
abbrev pub with_received : RunShape → Name → RequestShape → RunShape
with_received u m r = record u {
  configuration = record u.configuration {
    received = with_last (Some (m, r)) u.configuration.received;
    logs = with_last (Some (m, From r.sender)) u.configuration.logs;
  };
}

-- a request may come to one who is there
pub record IsReceiving (h : HistoryShape) (code : List Node) (x : CoreState) (u : RunShape) (to : Name) (r : Request) : Type 0 where
  pub populated : IsPopulated h code x u
  pub numbered : AreNumbered u
  pub there : IsThere u.configuration to
  pub coded : arc_value r.arguments.code ≡ code

abbrev pub IsSomeReceiving : CoreState → Name → Request → Type 0
IsSomeReceiving x to r = (h : HistoryShape) × (code : List Node) × (u : RunShape) × IsReceiving h code x u to r

-- the run with one activity in again, in this configuration
abbrev pub came_in : RunShape → ℕ → ℕ → Configuration → RunShape
came_in s k left c = record { configuration = c; names = s.names; left = left; out = out_but k s.out }

-- somebody's lease comes back
abbrev pub IsComing : CoreState → ℕ → Actor → Type 0
IsComing x k a = (h : HistoryShape) × (code : List Node) × (s : RunShape) × (n : Name) × (grant : ℕ) × (taken : ℕ) × IsReturning h code x s k n grant taken a
