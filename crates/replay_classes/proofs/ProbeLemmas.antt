-- What activities send next, found by letting each of them send.
use Rattle.std.specs.Prelude.{◌≡◌, ◌≢◌, ◌<◌, ◌≤◌, ◌+◌, ℕ, zero, suc, Bool, true, false, List, [], ◌∷◌, ◌++◌, Option, Some, None, length, slice_get, nat_lt}
use Rattle.std.proofs.Common.{refl, sym, ap, subst, ◌∙◌, ◌⊎◌, inl, inr, ⊎_elim, arith}
use Rattle.std.proofs.lemmas.Bool.{ltb-true, ltb-false}
use Rattle.asp_model.specs.Names.{Name, Text}
use Rattle.asp_model.specs.Configuration.{Configuration, From, Poll, ReceptionShape, RequestShape}
use Rattle.asp_model.specs.Intent.{Effect, Intent, Acts, Rests}
use Rattle.asp_model.specs.Step.{intent_in, with_effect}
use Rattle.asp_model.specs.Term.{Tree}
use Rattle.def_journals.specs.Journals.{number_of}
use Rattle.law_chases.proofs.FutureLemmas.{no_some, some_is, true_false}
use Rattle.law_steps.specs.Steps.{IsPoll}
use Rattle.law_steps.proofs.FactLemmas.{IsLogged, acts_facts, acts_is}
use Rattle.law_steps.proofs.FrameLemmas.{intends_stay}
use Rattle.law_steps.proofs.LinkedLemmas.{intends_step}
use Rattle.law_classes.specs.Alike.{asked_at}
use Rattle.law_classes.specs.Runs.{Entry, entered, entry_of}
use Rattle.asp_model.specs.declared.name.ActivityName.{ActivityName}
use Rattle.request_queue.specs.declared.request.Request.{Request}
use Rattle.step_activity.specs.declared.act.Given.{Given}
use Rattle.step_activity.specs.declared.act.Given.TheVariants as given
use Rattle.step_activity.specs.Effects.{IsGiven}
use Rattle.step_activity.specs.Outlook.{IsTo}
use Rattle.class_search.specs.declared.ends.Sending.{Sending}
use Rattle.replay_population.specs.declared.population.Population.{Population}
use Rattle.replay_population.specs.Reached.{IsReachedPopulation}
use Rattle.replay_parts.specs.Roster.{Leads}
use Rattle.replay_parts.proofs.RosterLemmas.{leads_both, number_named, one_name}
use Rattle.replay_offers.proofs.EntryLemmas.{acts_there, known_at, numbered}
use Rattle.replay_classes.specs.declared.looks.Look.{Look}
use Rattle.replay_classes.specs.declared.looks.Look.TheVariants as look
use Rattle.replay_classes.specs.Looks.{AreSenders, AreSendersTo, IsLook, IsSendingIf, Sends}
use Rattle.replay_classes.specs.Probes.{CanSend, HasNexts, IsProbed}
use Rattle.replay_classes.specs.Sendings.{IsAmong, entry_of as entry_sent}

pub less_or_same : (k count : ℕ) → k < count + 1 → (k < count) ⊎ (k ≡ count)
less_or_same k count lt = elim (nat_lt k count) as (λ b. nat_lt k count ≡ b → (k < count) ⊎ (k ≡ count)) [
  | true ↦ λ e. inl (ltb-true k count e)
  | false ↦ λ e. inr (omega (arith, lt, ltb-false k count e))
] refl

pub among_more : (ss ts : List Sending) (o : Option Entry) → IsAmong ss o → IsAmong (ss ++ ts) o
among_more [] ts o h = absurd h
among_more (s ∷ ss) ts o (inl e) = inl e
among_more (s ∷ ss) ts o (inr h) = inr (among_more ss ts o h)

pub among_last : (ss : List Sending) (s : Sending) (o : Option Entry) → o ≡ entry_sent s → IsAmong (ss ++ s ∷ []) o
among_last [] s o e = inl e
among_last (x ∷ ss) s o e = inr (among_last ss s o e)

-- Who sends

pub sending_so : (i : Intent) (b : Bool) (e : Effect) → IsSendingIf i b → i ≡ Acts e → (b ≡ true) × Sends e
sending_so i b e h is = by_told b (subst (λ j. IsSendingIf j b) is h)
  where
    by_told : (c : Bool) → IsSendingIf (Acts e) c → (c ≡ true) × Sends e
    by_told true g = (refl, g)
    by_told false g = absurd g

pub sending_acts : (i : Intent) → IsSendingIf i true → (e : Effect) × (i ≡ Acts e) × Sends e
sending_acts (Acts e) h = (e, refl, h)
sending_acts (Rests s) h = absurd h

-- those of one number more
pub senders_more : (ns : List Name) (c : Configuration) (count : ℕ) (bs : List Bool) (b : Bool) → length bs ≡ count → AreSendersTo ns c count bs
    → ((n : Name) → number_of n ns ≡ Some count → IsSendingIf (intent_in c n) b) → AreSendersTo ns c (count + 1) (bs ++ b ∷ [])
senders_more ns c count bs b long h g n k is lt = ⊎_elim
    (λ less. let x = h n k is less in (x.0, get_front bs b k x.0 x.1, x.2))
    (λ same. (b, subst (λ j. slice_get (bs ++ b ∷ []) j ≡ Some b) (long ∙ sym same) (get_last bs b), g n (is ∙ ap Some same)))
    (less_or_same k count lt)
  where
    get_front : (xs : List Bool) (x : Bool) (k : ℕ) (y : Bool) → slice_get xs k ≡ Some y → slice_get (xs ++ x ∷ []) k ≡ Some y
    get_front [] x k y e = no_some e
    get_front (z ∷ xs) x zero y e = e
    get_front (z ∷ xs) x (suc k) y e = get_front xs x k y e

    get_last : (xs : List Bool) (x : Bool) → slice_get (xs ++ x ∷ []) (length xs) ≡ Some x
    get_last [] x = refl
    get_last (z ∷ xs) x = get_last xs x

pub sends_if : {m : Name} (n : Name) (i : Intent) (l : Look) → IsLook n i l → l ≡ look.Sends m → IsSendingIf i true
sends_if {m} n i l h is = by_intent i (subst (IsLook n i) is h)
  where
    by_intent : (j : Intent) → IsLook n j (look.Sends m) → IsSendingIf j true
    by_intent (Acts e) g = λ none. no_target e.sent g none
      where
        no_target : (o : Option (Name × RequestShape)) → IsTo o m → o ≡ None → ⊥
        no_target None t none = t
        no_target (Some z) t none = no_some (sym none)
    by_intent (Rests t) g = absurd g

pub rests_if : (n : Name) (i : Intent) (l : Look) → IsLook n i l → l ≡ look.Rests → IsSendingIf i false
rests_if n i l h is = by_intent i (subst (IsLook n i) is h)
  where
    by_intent : (j : Intent) → IsLook n j look.Rests → IsSendingIf j false
    by_intent (Acts e) g = absurd g
    by_intent (Rests t) g = tt

-- What is given

pub given_sends : (n : Name) (e : Effect) (g : Given) → IsGiven n e g → Sends e → ((m : ActivityName) (r : Request) → g ≡ given.Sent m r → ⊥) → ⊥
given_sends n e given.Nothing h sends not = sends h.0
given_sends n e (given.Made m x) h sends not = sends h.0
given_sends n e (given.Sent m r) h sends not = not m r refl
given_sends n e (given.Filled f p) h sends not = sends h.0
given_sends n e given.Polled h sends not = sends h.0

pub sent_entry : (K : Text → ℕ) (c : Configuration) (n : Name) (e : Effect) (m : Name) (r : Request) (s : Sending) → IsGiven n e (given.Sent m r) → s.by ≡ r.sender → s.to ≡ m → s.class ≡ K r.label.text → entry_of K c n e ≡ entry_sent s
sent_entry K c n e m r s g by to class =
    let entry : entered K (asked_at c n) e.sent e.logged ≡ Some (m, K r.label.text, From r.sender) = λ i. entered K (asked_at c n) (g.0 i) (g.3 i) in
    let same : entry_sent s ≡ Some (m, K r.label.text, From r.sender) = λ i. Some (to i, class i, From (by i)) in
    entry ∙ sym same

-- One who sends

-- who sends intends what it intended, whoever else has sent
module _ (K : Text → ℕ) (old : Population) (program : Tree) (c : Configuration) where
  -- nobody has sent
  pub probed_none : IsReachedPopulation old program c → IsProbed K old program c 0 old []
  probed_none h = record {
    at = c;
    reached = h;
    leads = λ k n e. e;
    done = λ n k e is lt intends. absurd (omega (arith, lt));
    left = λ n k e is le intends. intends;
  }

  pub number_on : (p : Population) (d : Configuration) (n : Name) (k : ℕ) → IsReachedPopulation p program d → Leads old.roster p.roster → number_of n old.roster ≡ Some k → number_of n p.roster ≡ Some k
  number_on p d n k h leads is = h.population.roster.numbers k n (leads k n (number_named old.roster n k is))

  -- this one does not
  pub probed_not : (count : ℕ) (p : Population) (ss : List Sending) → IsProbed K old program c count p ss → ((n : Name) (e : Effect) → number_of n old.roster ≡ Some count → intent_in c n ≡ Acts e → ⊥) → IsProbed K old program c (count + 1) p ss
  probed_not count p ss h rests = record {
    at = h.at;
    reached = h.reached;
    leads = h.leads;
    done = λ n k e is lt intends. ⊎_elim (λ less. h.done n k e is less intends) (λ same. absurd (rests n e (is ∙ ap Some same) intends)) (less_or_same k count lt);
    left = λ n k e is le intends. h.left n k e is (omega (arith, le)) intends;
  }

  pub can_send : (count : ℕ) (p : Population) (ss : List Sending) (n : Name) (e : Effect) → IsProbed K old program c count p ss → number_of n old.roster ≡ Some count → intent_in c n ≡ Acts e → Sends e → CanSend p count
  can_send count p ss n e h is intends sends = record {
    who = n;
    has = number_on p h.at n count h.reached h.leads is;
    program = program;
    at = h.at;
    reached = h.reached;
    effect = e;
    acts = h.left n count e is (omega arith) intends;
    sends = sends;
  }

  same_entry : (d : Configuration) (n : Name) (e : Effect) → Sends e → intent_in c n ≡ Acts e → entry_of K d n e ≡ entry_of K c n e
  same_entry d n e sends intends = by_facts e.sent e.logged sends (acts_facts c n e intends).1.logged
    where
      by_facts : (o : Option (Name × RequestShape)) (l : Option (Name × ReceptionShape)) → (o ≡ None → ⊥) → IsLogged n o l → entered K (asked_at d n) o l ≡ entered K (asked_at c n) o l
      by_facts None l sends logged = absurd (sends refl)
      by_facts (Some z) l sends logged = ap (λ k. entered K (asked_at d n) (Some z) k) logged ∙ ap (λ k. entered K (asked_at c n) (Some z) k) (sym logged)

  no_poll : (n : Name) (e : Effect) → Sends e → intent_in c n ≡ Acts e → IsPoll n e → ⊥
  no_poll n e sends intends poll = by_facts e.sent e.logged sends (acts_facts c n e intends).1.logged poll
    where
      by_facts : (o : Option (Name × RequestShape)) (l : Option (Name × ReceptionShape)) → (o ≡ None → ⊥) → IsLogged n o l → l ≡ Some (n, Poll) → ⊥
      by_facts None l sends logged is = sends refl
      by_facts (Some z) l sends logged is =
          let f : From n ≡ Poll = ap (λ (x : Name × ReceptionShape). x.1) (some_is (sym logged ∙ is)) in
          absurd cc

  -- this one does
  pub probed_more : (count : ℕ) (p q : Population) (ss : List Sending) (s : Sending) (n : Name) (e : Effect) (h : IsProbed K old program c count p ss)
      → ((m : Name) (f : Effect) → intent_in c m ≡ Acts f → Sends f) → number_of n old.roster ≡ Some count → intent_in c n ≡ Acts e → Sends e
      → entry_of K h.at n e ≡ entry_sent s → IsReachedPopulation q program (with_effect n e h.at) → Leads p.roster q.roster
      → IsProbed K old program c (count + 1) q (ss ++ s ∷ [])
  probed_more count p q ss s n e h all is intends sends entry reached leads = record {
    at = with_effect n e h.at;
    reached = reached;
    leads = leads_both old.roster p.roster q.roster h.leads leads;
    done = λ m k f has lt acts. ⊎_elim
        (λ less. among_more ss (s ∷ []) (entry_of K c m f) (h.done m k f has less acts))
        (λ same.
        let who : m ≡ n = one_name old.roster m n count (has ∙ ap Some same) is in
        let what : f ≡ e = acts_is (sym acts ∙ ap (intent_in c) who ∙ intends) in
        among_last ss s (entry_of K c m f) (ap (λ k. entry_of K c k f) who ∙ ap (λ g. entry_of K c n g) what ∙ sym (same_entry h.at n e sends intends) ∙ entry))
        (less_or_same k count lt);
    left = λ m k f has le acts.
        let now = h.left m k f has (omega (arith, le)) acts in
        let apart : m ≢ n = λ p. not_less k count le (some_is (sym has ∙ ap (λ j. number_of j old.roster) p ∙ is)) in
        intends_stay program h.at (with_effect n e h.at) n m f
        (record { lists = None; reached = h.reached.reached; steps = intends_step program h.at n e h.reached.reached (h.left n count e is (omega arith) intends) })
        apart (λ poll. absurd (no_poll m f (all m f acts) acts poll)) now;
  }
    where
      not_less : (k count : ℕ) → count + 1 ≤ k → k ≡ count → ⊥
      not_less k count le e = omega (arith, le, e)

-- the one of a number is told to send, and does
pub probe_here : (old : Population) (program : Tree) (c : Configuration) (count : ℕ) (bs : List Bool) → IsReachedPopulation old program c → AreSenders old.roster c bs → count < length old.roster → slice_get bs count ≡ Some true
    → (n : Name) × (number_of n old.roster ≡ Some count) × ((e : Effect) × (intent_in c n ≡ Acts e) × Sends e)
probe_here old program c count bs h all within told =
    let known = known_at old.roster count h.population.roster within in
    let x = all known.0 count known.1 in
    let yes : x.0 ≡ true = some_is (sym x.1 ∙ told) in
    (known.0, known.1, sending_acts (intent_in c known.0) (subst (IsSendingIf (intent_in c known.0)) yes x.2))

-- it is not told so, and rests
pub probe_not : (old : Population) (c : Configuration) (count : ℕ) (bs : List Bool) → AreSenders old.roster c bs → (slice_get bs count ≡ Some true → ⊥) → (n : Name) (e : Effect) → number_of n old.roster ≡ Some count → intent_in c n ≡ Acts e → ⊥
probe_not old c count bs all untold n e is intends =
    let x = all n count is in
    untold (x.1 ∙ ap Some (sending_so (intent_in c n) x.0 e x.2 intends).0)

pub probe_sends : (old : Population) (c : Configuration) (bs : List Bool) → AreSenders old.roster c bs → (p : Population) (program : Tree) → IsReachedPopulation old program c → (n : Name) (e : Effect) → intent_in c n ≡ Acts e → Sends e
probe_sends old c bs all p program h n e intends =
    let there = acts_there c n e intends in
    let number = numbered old c n there.0 h.population there.1 in
    let x = all n number.0 number.1 in
    (sending_so (intent_in c n) x.0 e x.2 intends).1

-- all have sent
pub probed_all : (K : Text → ℕ) (old p : Population) (program : Tree) (c : Configuration) (count : ℕ) (ss : List Sending) → IsReachedPopulation old program c → length old.roster ≤ count → IsProbed K old program c count p ss → HasNexts K c ss
probed_all K old p program c count ss reached past h n e intends =
    let there = acts_there c n e intends in
    let number = numbered old c n there.0 reached.population there.1 in
    h.done n number.0 e number.1 (omega (arith, number.2, past)) intends
