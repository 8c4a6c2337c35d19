-- Where the same requests are pending, the same is intended.
use Rattle.std.specs.Prelude.{◌≡◌, ◌⊎◌, ℕ, suc, ◌++◌, List, [], ◌∷◌, Option, Some, None, is_some}
use Rattle.std.proofs.Common.{refl, sym, ap, subst, ◌∙◌, inl, inr}
use Rattle.std.specs.FinMap.{find}
use Rattle.asp_model.specs.Names.{Name, FutureShape, Text, name_cmp}
use Rattle.asp_model.specs.Term.{node, Call, loc, locs_then, none, more}
use Rattle.asp_model.specs.Split.{Context, Redex, Split, Stands, Splits, split}
use Rattle.asp_model.specs.Store.{Store, cell}
use Rattle.asp_model.specs.Parcel.{unpack, unpacked_roots}
use Rattle.asp_model.specs.Contraction.{Contraction, Becomes, Faults, Needs, Communicates, Breaks, Creates, Sends, Serves, Polls, contract}
use Rattle.asp_model.specs.Chase.{Chase, chase}
use Rattle.asp_model.specs.Configuration.{RequestShape, ServiceShape, Activity, Configuration, label_of, requests_of}
use Rattle.asp_model.specs.Intent.{Effect, Intent, Acts, Rests, Done, Awaits, Ready, Reads, Lacks, redex_ready, Numbered, oldest_match, labels_served, serves, polls, newest, ends_service, contracts, intent}
use Rattle.asp_model.specs.Step.{intent_in}
use Rattle.law_chases.proofs.FutureLemmas.{no_some, some_is, none_true}
use Rattle.law_services.specs.Correct.{bare, bare_of}
use Rattle.law_services.proofs.BareLemmas.{with_served, by_split}
use Rattle.law_frozen.specs.Pending.{waiting}
use Rattle.law_frozen.specs.Same.{served_by, queue_of}
use Rattle.law_frozen.proofs.PendingLemmas.{request_in, finds_same, leaves_same}

-- effects of activities that had served s and t of these requests: equal but for what was served
pub record SameEffects (s t : List ℕ) (rs qs : List RequestShape) (e x : Effect) : Type 0 where
  pub own : bare e.own ≡ bare x.own
  pub sent : e.sent ≡ x.sent
  pub logged : e.logged ≡ x.logged
  pub made : e.made ≡ x.made
  pub filled : e.filled ≡ x.filled
  pub waits : waiting e.own.served rs ≡ waiting x.own.served qs
  -- who sends serves nothing
  pub keeps : (e.sent ≡ None) ⊎ ((e.own.served ≡ s) × (x.own.served ≡ t))

abbrev pub SameIntents : (s t : List ℕ) (rs qs : List RequestShape) → Intent → Intent → Type 0
SameIntents s t rs qs (Acts e) (Acts x) = SameEffects s t rs qs e x
SameIntents s t rs qs (Rests a) (Rests b) = a ≡ b
SameIntents s t rs qs (Acts e) (Rests b) = ⊥
SameIntents s t rs qs (Rests a) (Acts x) = ⊥

found_same : (o p : Option Numbered) → request_in o ≡ request_in p → is_some o ≡ is_some p
found_same None None h = refl
found_same None (Some y) h = no_some h
found_same (Some x) None h = no_some (sym h)
found_same (Some x) (Some y) h = refl

module _ (n : Name) (a : Activity) (s t : List ℕ) (rs qs : List RequestShape) (same : waiting s rs ≡ waiting t qs) where
  abbrev AreSame : Intent → Intent → Type 0
  AreSame = SameIntents s t rs qs

  -- what a service leaves, but for its number
  abbrev serving : List Context → RequestShape → Activity
  serving contexts r = bare (record a {
    term = node (Call (label_of r)) (more (loc a.active) (locs_then (unpacked_roots a.store r.arguments) none));
    services = a.services ++ record { contexts = contexts; future = a.present } ∷ [];
    present = Some r.future;
    store = unpack a.store r.arguments;
    reductions = suc a.reductions;
  })

  serves_same : (contexts : List Context) (labels : List Text) (o p : Option Numbered) → oldest_match labels s 0 rs ≡ o → oldest_match labels t 0 qs ≡ p
      → AreSame (serves (with_served s a) contexts o) (serves (with_served t a) contexts p)
  serves_same contexts labels None None e f = refl
  serves_same contexts labels None (Some y) e f = no_some (ap request_in (sym e) ∙ finds_same labels s t rs qs same ∙ ap request_in f)
  serves_same contexts labels (Some x) None e f = no_some (ap request_in (sym f) ∙ sym (finds_same labels s t rs qs same) ∙ ap request_in e)
  serves_same contexts labels (Some x) (Some y) e f = record {
    own = ap (serving contexts) (some_is (ap request_in (sym e) ∙ finds_same labels s t rs qs same ∙ ap request_in f));
    sent = refl;
    logged = refl;
    made = refl;
    filled = refl;
    waits = leaves_same labels s t rs qs x.0 y.0 x.1 y.1 same e f;
    keeps = inl refl;
  }

  polls_same : (contexts : List Context) (store : Store) (o p : Option Numbered) → is_some o ≡ is_some p → AreSame (polls n (with_served s a) contexts store o) (polls n (with_served t a) contexts store p)
  polls_same contexts store None None h = record { own = refl; sent = refl; logged = refl; made = refl; filled = refl; waits = same; keeps = inl refl }
  polls_same contexts store None (Some y) h = none_true h
  polls_same contexts store (Some x) None h = none_true (sym h)
  polls_same contexts store (Some x) (Some y) h = record { own = refl; sent = refl; logged = refl; made = refl; filled = refl; waits = same; keeps = inl refl }

  contracts_same : (contexts : List Context) (store : Store) (r : Contraction) → AreSame (contracts rs n (with_served s a) contexts store r) (contracts qs n (with_served t a) contexts store r)
  contracts_same contexts store (Becomes u v lines) = record { own = refl; sent = refl; logged = refl; made = refl; filled = refl; waits = same; keeps = inl refl }
  contracts_same contexts store (Faults x) = refl
  contracts_same contexts store (Needs place) = refl
  contracts_same contexts store Breaks = refl
  contracts_same contexts store (Communicates (Creates object service)) = record { own = refl; sent = refl; logged = refl; made = refl; filled = refl; waits = same; keeps = inl refl }
  contracts_same contexts store (Communicates (Sends to label arguments)) = record { own = refl; sent = refl; logged = refl; made = refl; filled = refl; waits = same; keeps = inr (refl, refl) }
  contracts_same contexts store (Communicates (Serves labels)) =
      let asked : List Text = labels_served labels (cell store a.active) in
      serves_same contexts asked (oldest_match asked s 0 rs) (oldest_match asked t 0 qs) refl refl
  contracts_same contexts store (Communicates (Polls labels)) =
      let asked : List Text = labels_served labels (cell store a.active) in
      polls_same contexts store (oldest_match asked s 0 rs) (oldest_match asked t 0 qs) (found_same _ _ (finds_same asked s t rs qs same))

  ready_same : (contexts : List Context) (redex : Redex) (o : Ready)
      → AreSame (elim o [ Lacks f ↦ Rests (Awaits f) | Reads v ↦ contracts rs n (with_served s a) contexts v (contract v redex) ]) (elim o [ Lacks f ↦ Rests (Awaits f) | Reads v ↦ contracts qs n (with_served t a) contexts v (contract v redex) ])
  ready_same contexts redex (Lacks f) = refl
  ready_same contexts redex (Reads v) = contracts_same contexts v (contract v redex)

  ends_same : (place : ℕ) (o : Option ServiceShape) → AreSame (ends_service (with_served s a) place o) (ends_service (with_served t a) place o)
  ends_same place None = refl
  ends_same place (Some x) = record { own = refl; sent = refl; logged = refl; made = refl; filled = refl; waits = same; keeps = inl refl }

  split_same : (chases : FutureShape → Chase) (u : Split) → AreSame (by_split chases n (with_served s a) rs u) (by_split chases n (with_served t a) qs u)
  split_same chases (Stands place) = ends_same place (newest a.services)
  split_same chases (Splits contexts redex) = ready_same contexts redex (redex_ready chases a.store redex)

  intent_same : (chases : FutureShape → Chase) → AreSame (intent chases rs n (with_served s a)) (intent chases qs n (with_served t a))
  intent_same chases = split_same chases (split a.term)

-- so of two activities that are equal but for what they served
pub intents_same : (chases : FutureShape → Chase) (n : Name) (rs qs : List RequestShape) (a b : Activity) → bare a ≡ bare b → waiting a.served rs ≡ waiting b.served qs
    → SameIntents a.served b.served rs qs (intent chases rs n a) (intent chases qs n b)
intents_same chases n rs qs a b alike same =
    subst (λ z. SameIntents a.served b.served rs qs (intent chases rs n a) (intent chases qs n (with_served b.served z))) alike
    (intent_same n (bare a) a.served b.served rs qs same chases)

abbrev intended : Name → Configuration → Option Activity → Intent
intended n x o = elim o [ None ↦ Rests Done | Some a ↦ intent (chase x.futures) (requests_of x n) n a ]

-- and where both are in configurations with the same futures
pub intents_in_same : (c d : Configuration) (n : Name) → c.futures ≡ d.futures → bare_of (find name_cmp n c.activities) ≡ bare_of (find name_cmp n d.activities) → queue_of c n ≡ queue_of d n
    → SameIntents (served_by (find name_cmp n c.activities)) (served_by (find name_cmp n d.activities)) (requests_of c n) (requests_of d n) (intent_in c n) (intent_in d n)
intents_in_same c d n futures = by (find name_cmp n c.activities) (find name_cmp n d.activities)
  where
    by : (o p : Option Activity) → bare_of o ≡ bare_of p → waiting (served_by o) (requests_of c n) ≡ waiting (served_by p) (requests_of d n)
        → SameIntents (served_by o) (served_by p) (requests_of c n) (requests_of d n) (intended n c o) (intended n d p)
    by None None h q = refl
    by None (Some b) h q = no_some h
    by (Some a) None h q = no_some (sym h)
    by (Some a) (Some b) h q = subst (λ v. SameIntents a.served b.served (requests_of c n) (requests_of d n) (intent (chase c.futures) (requests_of c n) n a) (intent (chase v) (requests_of d n) n b)) futures
        (intents_same (chase c.futures) n (requests_of c n) (requests_of d n) a b (some_is h) q)
