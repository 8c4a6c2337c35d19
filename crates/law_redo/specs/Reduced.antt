-- The reductions of a commit, taken one after another; and what tells whether the next one asks others.
use Rattle.std.specs.Prelude.{◌≡◌, ℕ, suc, ◌+◌, ◌||◌, true, false, List, Some, None, is_some}
use Rattle.asp_model.specs.Names.{Name, FutureShape}
use Rattle.asp_model.specs.Chase.{Chase}
use Rattle.asp_model.specs.Configuration.{Activity, Configuration, RequestShape}
use Rattle.asp_model.specs.Intent.{Acts, Effect, Rests, StatusShape, intent}
use Rattle.asp_model.specs.Step.{intent_in, with_effect}
use Rattle.def_journals.specs.Communications.{communicates_next, is_communication}
use Rattle.def_journals.specs.Journals.{reduced}
use Rattle.def_journals.specs.Owed.{need_of}
use Rattle.law_steps.specs.Reached.{IsAt}
use Rattle.law_steps.specs.Sound.{IsSound}
use Rattle.activity_step.specs.Local.{LocalRun}
use Rattle.law_core.specs.Commits.{with_activity}

-- the reductions behind contractions that need no other are those of the activity to which they lead
abbrev pub RunsAreReduced : Type 0
RunsAreReduced = (j r : ℕ) (c : Configuration) (n : Name) (a b : Activity) → IsSound c → IsAt c n a → LocalRun j a b
    → reduced (j + r) n c ≡ reduced r n (with_activity n b c)

-- and those behind a step that is no communication
abbrev pub StepsAreReduced : Type 0
StepsAreReduced = (r : ℕ) (c : Configuration) (n : Name) (e : Effect) → IsSound c → communicates_next c n ≡ false
    → intent_in c n ≡ Acts e → reduced (suc r) n c ≡ reduced r n (with_effect n e c)

-- the last step may be a communication
abbrev pub LastsAreReduced : Type 0
LastsAreReduced = (c : Configuration) (n : Name) (e : Effect) → IsSound c → intent_in c n ≡ Acts e
    → reduced 1 n c ≡ Some (with_effect n e c)

-- no other step may
abbrev pub CommunicationsAreLast : Type 0
CommunicationsAreLast = (r : ℕ) (c : Configuration) (n : Name) → communicates_next c n ≡ true
    → reduced (suc (suc r)) n c ≡ None

-- whoever rests takes no step
abbrev pub RestsAreReduced : Type 0
RestsAreReduced = (r : ℕ) (c : Configuration) (n : Name) (status : StatusShape) → intent_in c n ≡ Rests status
    → reduced (suc r) n c ≡ None

-- one who needs a value, and acts, asks others exactly if it sends or makes something: a service, a poll and the end
-- of a service read no operand
abbrev pub NeedersAsk : Type 0
NeedersAsk = (chases : FutureShape → Chase) (requests : List RequestShape) (n : Name) (a : Activity) (e : Effect)
    (x : FutureShape × ℕ) → need_of chases a ≡ Some x → intent chases requests n a ≡ Acts e
    → is_communication chases a ≡ is_some e.sent || is_some e.made
