-- What a step does beside its term, store and lines.
use Rattle.std.specs.Prelude.{◌≡◌, ℕ, suc, ◌+◌, ◌≤◌, ◌&&◌, not, Bool, true, false, T, List, [], ◌∷◌, ◌++◌, Option, Some, None, is_some, slice_get}
use Rattle.std.proofs.Common.{refl, ap, subst, arith, inl, inr, ◌⊎◌}
use Rattle.std.specs.FinMap.{find}
use Rattle.asp_model.specs.Names.{Name, FutureShape, Text, name_cmp, created_name}
use Rattle.asp_model.specs.Term.{has_text}
use Rattle.asp_model.specs.Split.{Context, Split, Stands, Splits, Redex, split}
use Rattle.asp_model.specs.Store.{Store, cell}
use Rattle.asp_model.specs.Parcel.{ParcelShape, parcel_of, has_place}
use Rattle.asp_model.specs.Contraction.{Contraction, Becomes, Faults, Needs, Communicates, Breaks, Creates, Sends, Serves, Polls, contract}
use Rattle.asp_model.specs.Chase.{Chase, chase}
use Rattle.asp_model.specs.Configuration.{RequestShape, ServiceShape, ReceptionShape, From, Poll, Activity, Configuration, requests_of}
use Rattle.asp_model.specs.Intent.{Intent, Acts, Rests, Done, Effect, StatusShape, Ready, Reads, Lacks, Awaits, redex_ready, Numbered, oldest_match, labels_served, serves, newest, but_newest, filling, ends_service, creates, sends, polls, contracts, intent}
use Rattle.asp_model.specs.Step.{intent_in}
use Rattle.law_steps.specs.Kept.{tally, tally_all}
use Rattle.law_chases.proofs.FutureLemmas.{no_some, some_is}

-- of an activity, what the order of steps keeps; an absent one has that of a new one
pub record Face : Type 0 where
  pub served : List ℕ
  pub present : Option FutureShape
  pub services : List ServiceShape
  pub sends : ℕ
  pub creations : ℕ
  pub reductions : ℕ

abbrev pub face_of : Activity → Face
face_of a = record { served = a.served; present = a.present; services = a.services; sends = a.sends; creations = a.creations; reductions = a.reductions }

abbrev pub face : Option Activity → Face
face None = record { served = []; present = None; services = []; sends = 0; creations = 0; reductions = 0 }
face (Some a) = face_of a

-- how often a future has to be answered, by a count of futures
abbrev pub holds : (FutureShape → ℕ) → Face → ℕ
holds w x = tally w x.present + tally_all w x.services

abbrev pub IsMade : Name → Face → Face → Option (Name × Activity) → Type 0
IsMade n x y None = y.creations ≡ x.creations
IsMade n x y (Some z) = (z.0 ≡ created_name n (suc x.creations)) × (y.creations ≡ suc x.creations) × (face (Some z.1) ≡ face None)

abbrev pub IsSent : Name → Face → Face → Option (Name × RequestShape) → Type 0
IsSent n x y None = y.sends ≡ x.sends
IsSent n x y (Some z) = (z.1.future ≡ record { by = n; index = suc x.sends }) × (y.sends ≡ suc x.sends) × (z.1.sender ≡ n)

-- a send is logged where it goes, a poll at home, and nothing else is logged
abbrev pub IsLogged : Name → Option (Name × RequestShape) → Option (Name × ReceptionShape) → Type 0
IsLogged n None l = (l ≡ None) ⊎ (l ≡ Some (n, Poll))
IsLogged n (Some z) l = l ≡ Some (z.0, From n)

-- which futures an activity has to answer after a step
pub data Holding (requests : List RequestShape) (x y : Face) (filled : Option (FutureShape × ParcelShape)) : Type 0 where
  as_before : filled ≡ None → y.served ≡ x.served → ((w : FutureShape → ℕ) → holds w y ≡ holds w x) → Holding requests x y filled
  serving : (k : ℕ) (r : RequestShape) → filled ≡ None → slice_get requests k ≡ Some r → has_place k x.served ≡ false → y.served ≡ k ∷ x.served → ((w : FutureShape → ℕ) → holds w y ≡ w r.future + holds w x) → Holding requests x y filled
  ending : (p : ParcelShape) → filled ≡ filling x.present p → y.served ≡ x.served → ((w : FutureShape → ℕ) → tally w x.present + holds w y ≡ holds w x) → Holding requests x y filled

pub record Facts (requests : List RequestShape) (n : Name) (x : Face) (e : Effect) : Type 0 where
  pub counted : e.own.reductions ≡ suc x.reductions
  pub more_made : x.creations ≤ e.own.creations
  pub more_sent : x.sends ≤ e.own.sends
  pub made : IsMade n x (face_of e.own) e.made
  pub sent : IsSent n x (face_of e.own) e.sent
  pub logged : IsLogged n e.sent e.logged
  pub holding : Holding requests x (face_of e.own) e.filled

-- Intents

abbrev is_acts : Intent → Bool
is_acts (Acts e) = true
is_acts (Rests status) = false

pub no_acts : {C : Type 0} {status : StatusShape} {e : Effect} → Rests status ≡ Acts e → C
no_acts h = absurd (subst (λ p. T (not (is_acts p))) h tt)

pub acts_is : {e d : Effect} → Acts e ≡ Acts d → e ≡ d
acts_is {e} {d} h = ap (λ p. elim p [ Acts x ↦ x | Rests status ↦ e ]) h

-- Services

tally_both : (w : FutureShape → ℕ) (vs ws : List ServiceShape) → tally_all w (vs ++ ws) ≡ tally_all w vs + tally_all w ws
tally_both w [] ws = omega arith
tally_both w (v ∷ vs) ws = omega (arith, tally_both w vs ws)

tally_newest : (w : FutureShape → ℕ) (vs : List ServiceShape) (v : ServiceShape) → newest vs ≡ Some v → tally_all w vs ≡ tally w v.future + tally_all w (but_newest vs)
tally_newest w [] v e = no_some e
tally_newest w (x ∷ []) v e = let h : tally w x.future ≡ tally w v.future = ap (λ z. tally w z.future) (some_is e) in omega (arith, h)
tally_newest w (x ∷ y ∷ xs) v e = omega (arith, tally_newest w (y ∷ xs) v e)

-- Requests

-- what was matched stands at its number, was not served, and has one of the labels
abbrev pub Matched : List Text → List ℕ → ℕ → List RequestShape → Numbered → Type 0
Matched labels served k rs x = (i : ℕ) × (x.0 ≡ i + k) × (slice_get rs i ≡ Some x.1) × (has_place x.0 served ≡ false)

later : (labels : List Text) (served : List ℕ) (k : ℕ) (r : RequestShape) (rs : List RequestShape) (x : Numbered) → Matched labels served (suc k) rs x → Matched labels served k (r ∷ rs) x
later labels served k r rs x y = (suc y.0, omega (arith, y.1), y.2, y.3)

pub match_is : (labels : List Text) (served : List ℕ) (k : ℕ) (rs : List RequestShape) (x : Numbered) → oldest_match labels served k rs ≡ Some x → Matched labels served k rs x
match_is labels served k [] x e = no_some e
match_is labels served k (r ∷ rs) x e =
    elim (has_place k served) as (λ b. has_place k served ≡ b → elim (not b && has_text r.label labels) [ true ↦ Some (k, r) | false ↦ oldest_match labels served (suc k) rs ] ≡ Some x → Matched labels served k (r ∷ rs) x) [
      | true ↦ λ h e. later labels served k r rs x (match_is labels served (suc k) rs x e)
      | false ↦ λ h e. elim (has_text r.label labels) as (λ b. elim b [ true ↦ Some (k, r) | false ↦ oldest_match labels served (suc k) rs ] ≡ Some x → Matched labels served k (r ∷ rs) x) [
        | true ↦ λ e. let s = some_is e in (0, subst (λ z. z.0 ≡ 0 + k) s (omega arith), ap (λ z. Some z.1) s, subst (λ z. has_place z.0 served ≡ false) s h)
        | false ↦ λ e. later labels served k r rs x (match_is labels served (suc k) rs x e)
      ] e
    ] refl e

module _ (requests : List RequestShape) (n : Name) (a : Activity) where
  quiet : (b : Activity) → face_of b ≡ record (face_of a) { reductions = suc a.reductions } → Facts requests n (face_of a) (record { own = b; sent = None; logged = None; made = None; filled = None })
  quiet b is = record {
    counted = ap (λ z. z.reductions) is;
    more_made = let h : b.creations ≡ a.creations = ap (λ z. z.creations) is in omega (arith, h);
    more_sent = let h : b.sends ≡ a.sends = ap (λ z. z.sends) is in omega (arith, h);
    made = ap (λ z. z.creations) is;
    sent = ap (λ z. z.sends) is;
    logged = inl refl;
    holding = as_before refl (ap (λ z. z.served) is) (λ w. ap (λ z. holds w z) is);
  }

  serve_facts : (contexts : List Context) (labels : List Text) (o : Option Numbered) → oldest_match labels a.served 0 requests ≡ o → (e : Effect) → serves a contexts o ≡ Acts e → Facts requests n (face_of a) e
  serve_facts contexts labels None is e h = no_acts h
  serve_facts contexts labels (Some x) is e h =
      let p = match_is labels a.served 0 requests x is in
      subst (Facts requests n (face_of a)) (acts_is h) (record {
        counted = refl;
        more_made = omega arith;
        more_sent = omega arith;
        made = refl;
        sent = refl;
        logged = inl refl;
        holding = serving x.0 x.1 refl (subst (λ i. slice_get requests i ≡ Some x.1) (omega (arith, p.1)) p.2) p.3 refl (λ w. omega (arith, tally_both w a.services (record { contexts = contexts; future = a.present } ∷ [])));
      })

  end_facts : (place : ℕ) (o : Option ServiceShape) → newest a.services ≡ o → (e : Effect) → ends_service a place o ≡ Acts e → Facts requests n (face_of a) e
  end_facts place None is e h = no_acts h
  end_facts place (Some v) is e h =
      subst (Facts requests n (face_of a)) (acts_is h) (record {
        counted = refl;
        more_made = omega arith;
        more_sent = omega arith;
        made = refl;
        sent = refl;
        logged = inl refl;
        holding = ending (parcel_of a.store (place ∷ [])) refl refl (λ w. omega (arith, tally_newest w a.services v is));
      })

  create_facts : (contexts : List Context) (s : Store) (object : ℕ) (service : Option Text) (e : Effect) → creates n a contexts s object service ≡ Acts e → Facts requests n (face_of a) e
  create_facts contexts s object service e h = subst (Facts requests n (face_of a)) (acts_is h) (record {
    counted = refl;
    more_made = omega arith;
    more_sent = omega arith;
    made = (refl, refl, refl);
    sent = refl;
    logged = inl refl;
    holding = as_before refl refl (λ w. refl);
  })

  send_facts : (contexts : List Context) (s : Store) (to : Name) (label : Text) (arguments : List ℕ) (e : Effect) → sends n a contexts s to label arguments ≡ Acts e → Facts requests n (face_of a) e
  send_facts contexts s to label arguments e h = subst (Facts requests n (face_of a)) (acts_is h) (record {
    counted = refl;
    more_made = omega arith;
    more_sent = omega arith;
    made = refl;
    sent = (refl, refl, refl);
    logged = refl;
    holding = as_before refl refl (λ w. refl);
  })

  poll_facts : (contexts : List Context) (s : Store) (o : Option Numbered) (e : Effect) → polls n a contexts s o ≡ Acts e → Facts requests n (face_of a) e
  poll_facts contexts s o e h = subst (Facts requests n (face_of a)) (acts_is h) (record {
    counted = refl;
    more_made = omega arith;
    more_sent = omega arith;
    made = refl;
    sent = refl;
    logged = inr refl;
    holding = as_before refl refl (λ w. refl);
  })

  contraction_facts : (contexts : List Context) (s : Store) (r : Contraction) (e : Effect) → contracts requests n a contexts s r ≡ Acts e → Facts requests n (face_of a) e
  contraction_facts contexts s (Becomes t store lines) e h = subst (Facts requests n (face_of a)) (acts_is h) (quiet _ refl)
  contraction_facts contexts s (Faults x) e h = no_acts h
  contraction_facts contexts s (Needs place) e h = no_acts h
  contraction_facts contexts s (Communicates (Creates object service)) e h = create_facts contexts s object service e h
  contraction_facts contexts s (Communicates (Sends to label arguments)) e h = send_facts contexts s to label arguments e h
  contraction_facts contexts s (Communicates (Serves labels)) e h = serve_facts contexts (labels_served labels (cell s a.active)) _ refl e h
  contraction_facts contexts s (Communicates (Polls labels)) e h = poll_facts contexts s (oldest_match (labels_served labels (cell s a.active)) a.served 0 requests) e h
  contraction_facts contexts s Breaks e h = no_acts h

  ready_facts : (contexts : List Context) (redex : Redex) (o : Ready) (e : Effect) → elim o [ Lacks f ↦ Rests (Awaits f) | Reads s ↦ contracts requests n a contexts s (contract s redex) ] ≡ Acts e → Facts requests n (face_of a) e
  ready_facts contexts redex (Lacks f) e h = no_acts h
  ready_facts contexts redex (Reads s) e h = contraction_facts contexts s (contract s redex) e h

  split_facts : (chases : FutureShape → Chase) (t : Split) (e : Effect) → elim t [
    | Stands place ↦ ends_service a place (newest a.services)
    | Splits contexts redex ↦ elim (redex_ready chases a.store redex) [ Lacks f ↦ Rests (Awaits f) | Reads s ↦ contracts requests n a contexts s (contract s redex) ]
  ] ≡ Acts e → Facts requests n (face_of a) e
  split_facts chases (Stands place) e h = end_facts place (newest a.services) refl e h
  split_facts chases (Splits contexts redex) e h = ready_facts contexts redex (redex_ready chases a.store redex) e h

  pub intent_facts : (chases : FutureShape → Chase) (e : Effect) → intent chases requests n a ≡ Acts e → Facts requests n (face_of a) e
  intent_facts chases e h = split_facts chases (split a.term) e h

intended : (c : Configuration) (n : Name) (o : Option Activity) (e : Effect) → elim o [ None ↦ Rests Done | Some a ↦ intent (chase c.futures) (requests_of c n) n a ] ≡ Acts e → (is_some o ≡ true) × Facts (requests_of c n) n (face o) e
intended c n None e h = no_acts h
intended c n (Some a) e h = (refl, intent_facts (requests_of c n) n a (chase c.futures) e h)

-- who acts is there, and has these facts
pub acts_facts : (c : Configuration) (n : Name) (e : Effect) → intent_in c n ≡ Acts e → (is_some (find name_cmp n c.activities) ≡ true) × Facts (requests_of c n) n (face (find name_cmp n c.activities)) e
acts_facts c n e h = intended c n (find name_cmp n c.activities) e h
