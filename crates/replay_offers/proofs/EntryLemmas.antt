-- What could be entered next.
use Rattle.std.proofs.Common.{◌≡◌, ℕ, ◌+◌, ◌<◌, ◌≤◌, true, false, get_or, List, [], ◌∷◌, ◌++◌, length, Option, Some, None, refl, sym, ap, subst, ◌∙◌, ◌⊎◌, inl, inr, ⊎_elim, arith}
use Rattle.std.specs.Prelude.{is_some, nat_lt}
use Rattle.std.proofs.lemmas.Bool.{ltb-true, ltb-false}
use Rattle.std.proofs.lemmas.Option.{slice_get-get_or}
use Rattle.std.specs.FinMap.{find}
use Rattle.asp_model.specs.Chase.{chase}
use Rattle.asp_model.specs.declared.outcome.Reception.{Reception}
use Rattle.asp_model.specs.Names.{Name, name_cmp}
use Rattle.asp_model.specs.Term.{Tree}
use Rattle.asp_model.specs.Configuration as model
use Rattle.asp_model.specs.Configuration.{Configuration, ReceptionShape, From, Poll, RequestShape, requests_of}
use Rattle.asp_model.specs.Intent.{Effect, Intent, Acts, Rests, Done, intent}
use Rattle.asp_model.specs.Shapes.{reception_shape}
use Rattle.asp_model.specs.Step.{intent_in}
use Rattle.def_journals.specs.Journals.{number_of}
use Rattle.law_chases.proofs.FutureLemmas.{no_some, some_is}
use Rattle.law_steps.specs.Reached.{IsAt, IsReached, IsThere}
use Rattle.law_steps.proofs.LinkedLemmas.{targets_are_there}
use Rattle.law_families.specs.Complete.{IntendsToLog}
use Rattle.asp_model.specs.declared.name.ActivityName.{ActivityName}
use Rattle.std.specs.Borrow.{Bor}
use Rattle.law_steps.proofs.FactLemmas.{IsLogged, acts_facts}
use Rattle.step_activity.specs.Outlook.{IsOutlook, IsTo}
use Rattle.step_parts.specs.declared.outlook.Outlook.{Outlook}
use Rattle.step_parts.specs.declared.outlook.Outlook.TheVariants as outlook
use Rattle.replay_population.specs.declared.population.Population.{Population}
use Rattle.replay_parts.specs.Roster.{IsRoster}
use Rattle.replay_population.specs.Population.{IsPopulation}
use Rattle.replay_population.specs.Reached.{IsReachedPopulation}
use Rattle.replay_parts.proofs.RosterLemmas.{number_within}
use Rattle.replay_population.proofs.PopulationLemmas.{absent_nowhere}
use Rattle.replay_offers.specs.Entries.{HasEntry, HasNext, HasNextOf, IsEntry, with_some}

-- more entries have what fewer have
pub still_has : (xs ys : List Reception) (entry : ReceptionShape) → HasEntry xs entry → HasEntry (xs ++ ys) entry
still_has [] ys entry h = absurd h
still_has (x ∷ xs) ys entry (inl e) = inl e
still_has (x ∷ xs) ys entry (inr h) = inr (still_has xs ys entry h)

pub has_last : (xs : List Reception) (x : Reception) (entry : ReceptionShape) → reception_shape x ≡ entry → HasEntry (xs ++ x ∷ []) entry
has_last [] x entry e = inl e
has_last (y ∷ xs) x entry e = inr (has_last xs x entry e)

-- who acts is there
pub acts_there : (c : Configuration) (n : Name) (e : Effect) → intent_in c n ≡ Acts e → (a : model.Activity) × IsAt c n a
acts_there c n e h = elim (find name_cmp n c.activities) as (λ o. find name_cmp n c.activities ≡ o → intent_from o ≡ Acts e → (a : model.Activity) × IsAt c n a) [
  | None ↦ λ is g. absurd cc
  | Some a ↦ λ is g. (a, is)
] refl h
  where
    intent_from : Option model.Activity → Intent
    intent_from o = elim o [ None ↦ Rests Done | Some a ↦ intent (chase c.futures) (requests_of c n) n a ]

-- so is whoever intends to enter something
pub logger_there : (c : Configuration) (n q : Name) (entry : ReceptionShape) → IntendsToLog c n q entry → (a : model.Activity) × IsAt c n a
logger_there c n q (From m) h = acts_there c n h.1.0 h.1.1
logger_there c n q Poll h = acts_there c n h.1.0 h.1.1

-- and whose log it is
pub owner_there : (program : Tree) (c : Configuration) (n q : Name) (entry : ReceptionShape) → IsReached program c → IntendsToLog c n q entry → IsThere c q
owner_there program c n q (From m) r h = targets_are_there program c n h.1.0 (q, h.1.2.0) r h.1.1 h.1.2.1
owner_there program c n q Poll r h = subst (IsThere c) (sym h.0) (ap is_some (logger_there c n q Poll h).1)

-- what an intent logs

abbrev Logs : Configuration → Name → Name → ReceptionShape → Type 0
Logs c n q entry = (e : Effect) × (intent_in c n ≡ Acts e) × IsLogged n e.sent e.logged × (e.logged ≡ Some (q, entry))

logs_as : (c : Configuration) (n q : Name) (entry : ReceptionShape) → IntendsToLog c n q entry → Logs c n q entry
logs_as c n q (From m) h =
    let e : Effect = h.1.0 in
    let facts = (acts_facts c n e h.1.1).1.logged in
    let logged : e.logged ≡ Some (q, From n) = subst (λ (s : Option (Name × RequestShape)). IsLogged n s e.logged) h.1.2.1 facts in
    (e, h.1.1, facts, logged ∙ ap (λ (k : Name). Some (q, From k)) (sym h.0))
logs_as c n q Poll h =
    let e : Effect = h.1.0 in
    (e, h.1.1, (acts_facts c n e h.1.1).1.logged, h.1.2 ∙ ap (λ (k : Name). Some (k, Poll)) (sym h.0))

abbrev pub outlook_log : Name → Outlook → Option (Name × ReceptionShape)
outlook_log n (outlook.Sends m) = Some (m.now, From n)
outlook_log n outlook.Polls = Some (n, Poll)
outlook_log n o = None

sends_log : (n : Name) (s : Option (Name × RequestShape)) (l : Option (Name × ReceptionShape)) (m : Name) → IsTo s m → IsLogged n s l → l ≡ Some (m, From n)
sends_log n None l m h g = absurd h
sends_log n (Some x) l m h g = g ∙ ap (λ (k : Name). Some (k, From n)) h

-- what an outlook tells of it
told_log : (n : Name) (e : Effect) (o : Outlook) → IsOutlook n (Acts e) o → IsLogged n e.sent e.logged → e.logged ≡ outlook_log n o
told_log n e outlook.Steps h g = h.1
told_log n e (outlook.Sends m) h g = sends_log n e.sent e.logged m.now h g
told_log n e outlook.Polls h g = h
told_log n e (outlook.Awaits f) h g = absurd h
told_log n e (outlook.Faulted x) h g = absurd h
told_log n e outlook.Serving h g = absurd h
told_log n e outlook.Done h g = absurd h

pub outlook_tells : (c : Configuration) (n q : Name) (entry : ReceptionShape) (o : Outlook) → IsOutlook n (intent_in c n) o → IntendsToLog c n q entry → outlook_log n o ≡ Some (q, entry)
outlook_tells c n q entry o h g =
    let l = logs_as c n q entry g in
    sym (told_log n l.0 o (subst (λ (p : Intent). IsOutlook n p o) l.1 h) l.2) ∙ l.3

pub outlook_sends : (c : Configuration) (n q : Name) (entry : ReceptionShape) (to : Bor ActivityName) → IsOutlook n (intent_in c n) (outlook.Sends to) → IntendsToLog c n q entry → (q ≡ to.now) × (From n ≡ entry)
outlook_sends c n q entry to h g =
    let e : (to.now, From n) ≡ (q, entry) = some_is (outlook_tells c n q entry (outlook.Sends to) h g) in
    (sym (ap (λ (z : Name × ReceptionShape). z.0) e), ap (λ (z : Name × ReceptionShape). z.1) e)

pub outlook_polls : (c : Configuration) (n q : Name) (entry : ReceptionShape) → IsOutlook n (intent_in c n) outlook.Polls → IntendsToLog c n q entry → (q ≡ n) × (Poll ≡ entry)
outlook_polls c n q entry h g =
    let e : (n, Poll) ≡ (q, entry) = some_is (outlook_tells c n q entry outlook.Polls h g) in
    (sym (ap (λ (z : Name × ReceptionShape). z.0) e), ap (λ (z : Name × ReceptionShape). z.1) e)

pub outlook_logs_nothing : {A : Type 0} (c : Configuration) (n q : Name) (entry : ReceptionShape) (o : Outlook) → IsOutlook n (intent_in c n) o → outlook_log n o ≡ None → IntendsToLog c n q entry → A
outlook_logs_nothing c n q entry o h none g = no_some (sym none ∙ outlook_tells c n q entry o h g)

-- one more name

has_some : (xs : List Reception) (x : Option Reception) (entry : ReceptionShape) → IsEntry entry x → HasEntry (with_some xs x) entry
has_some xs None entry h = absurd h
has_some xs (Some x) entry h = has_last xs x entry h

keeps_some : (xs : List Reception) (x : Option Reception) (entry : ReceptionShape) → HasEntry xs entry → HasEntry (with_some xs x) entry
keeps_some xs None entry h = h
keeps_some xs (Some x) entry h = still_has xs (x ∷ []) entry h

pub count_more : (ns : List Name) (c : Configuration) (q : Name) (count : ℕ) (xs : List Reception) (x : Option Reception) → HasNextOf ns c q count xs
    → ((n : Name) (entry : ReceptionShape) → number_of n ns ≡ Some count → IntendsToLog c n q entry → IsEntry entry x) → HasNextOf ns c q (count + 1) (with_some xs x)
count_more ns c q count xs x h g n k entry is lt intends = ⊎_elim
    (λ (less : k < count). keeps_some xs x entry (h n k entry is less intends))
    (λ (same : k ≡ count). has_some xs x entry (g n entry (is ∙ ap Some same) intends))
    (less_or_same k count lt)
  where
    less_or_same : (k count : ℕ) → k < count + 1 → (k < count) ⊎ (k ≡ count)
    less_or_same k count lt = elim (nat_lt k count) as (λ b. nat_lt k count ≡ b → (k < count) ⊎ (k ≡ count)) [
      | true ↦ λ e. inl (ltb-true k count e)
      | false ↦ λ e. inr (omega (arith, lt, ltb-false k count e))
    ] refl

-- Numbers

-- a number below all has a name
pub known_at : (ns : List Name) (k : ℕ) → IsRoster ns → k < length ns → (n : Name) × (number_of n ns ≡ Some k)
known_at ns k sound lt = (get_or ns k [], sound.numbers k (get_or ns k []) (slice_get-get_or ns k [] lt))

-- who is there has a number below all
pub numbered : (p : Population) (c : Configuration) (n : Name) (a : model.Activity) → IsPopulation p c → IsAt c n a → (k : ℕ) × (number_of n p.roster ≡ Some k) × (k < length p.roster)
numbered p c n a h at = elim (number_of n p.roster) as (λ o. number_of n p.roster ≡ o → (k : ℕ) × (number_of n p.roster ≡ Some k) × (k < length p.roster)) [
  | None ↦ λ e. absent_nowhere p c n h e (ap is_some at)
  | Some k ↦ λ e. (k, e, number_within p.roster n k e)
] refl

-- nothing is entered by those without a number
pub all_numbered : (p : Population) (program : Tree) (c : Configuration) (q : Name) (count : ℕ) (xs : List Reception) → IsReachedPopulation p program c → length p.roster ≤ count → HasNextOf p.roster c q count xs → HasNext c q xs
all_numbered p program c q count xs h past has n entry intends =
    let there = logger_there c n q entry intends in
    let number = numbered p c n there.0 h.population there.1 in
    has n number.0 entry number.1 (omega (arith, number.2, past)) intends
