-- Each reference leads to an activity that is there, and each future in a cell was begun.
use Rattle.std.specs.Prelude.{◌≡◌, ℕ, suc, ◌≤◌, ◌&&◌, ◌||◌, Bool, true, false, List, [], ◌∷◌, Option, Some, None, is_some, map, slice_get, length}
use Rattle.std.specs.List.{list_any}
use Rattle.std.proofs.Common.{refl, sym, ap, subst, ◌∙◌, arith, inl, inr, ⊎_elim, ◌⊎◌}
use Rattle.std.proofs.lemmas.Bool.{or_right}
use Rattle.std.specs.FinMap.{find, put}
use Rattle.asp_model.specs.Names.{Name, FutureShape, name_cmp, future_cmp, main_name}
use Rattle.asp_model.specs.Term.{Tree}
use Rattle.asp_model.specs.Store.{CellShape, Number, Object, Reference, Future, Group, cell, Store, moved_cell}
use Rattle.asp_model.specs.Parcel.{ParcelShape, place_at, unpack_at}
use Rattle.asp_model.specs.Chase.{Lead, Ends, Goes, lead_of, lead_by, chase}
use Rattle.asp_model.specs.Configuration.{RequestShape, ReceptionShape, Activity, Configuration, requests_of, start}
use Rattle.asp_model.specs.Intent.{StatusShape, Awaits, Running, Done, Serving, Faulted, Intent, Acts, Rests, Effect, intent}
use Rattle.asp_model.specs.Step.{ListsShape, intent_in, put_some, with_effect, may_log, step}
use Rattle.asp_model.specs.Status.{status_of_intent, status_of, is_running, IsStuck}
use Rattle.law_steps.specs.Reached.{IsThere, Move, Steps, Makes, Edges, Needs}
use Rattle.law_steps.specs.Kept.{IsBegun, sends_of}
use Rattle.law_steps.specs.Linked.{Each, IsKnown, IsLinked, CellsAreLinked, TargetsAreThere, AwaitedAreBegun, IntentsStep, StuckIsStill, IsStill, AreKnown}
use Rattle.law_steps.specs.Systems.{Leads}
use Rattle.law_steps.proofs.NameLemmas.{name_total, name_same, name_case, is_there}
use Rattle.law_chases.proofs.FutureLemmas.{future_total, future_same, future_case, no_some, some_is, none_true}
use Rattle.law_chases.proofs.MapLemmas as Maps
use Rattle.law_steps.proofs.StepLemmas.{step_taken, takes_step}
use Rattle.law_steps.proofs.EachLemmas.{each_weaker}
use Rattle.law_steps.proofs.ContractionLemmas.{IsOfNames, of_cell, all_placed, all_moved}
use Rattle.law_chases.proofs.ChaseLemmas.{KeepsLeads, chase_finds, chase_awaits}
use Rattle.law_steps.proofs.FactLemmas.{IsLogged, acts_facts}
use Rattle.law_steps.proofs.SoundLemmas.{Took, at_name, came, own_after}
use Rattle.law_steps.proofs.KeptLemmas.{sends_grow, is_sent}
use Rattle.law_steps.proofs.ExactLemmas.{here_after}
use Rattle.law_steps.proofs.CommuteLemmas.{took, intended_is}
use Rattle.law_steps.proofs.ReachedLemmas.{Right, start_right, move_right, reached_right}
use Rattle.law_steps.proofs.WakeLemmas.{none_rests_running}
use Rattle.law_steps.proofs.NamesLaws.{sends_at, filled_begun}
use Rattle.law_steps.proofs.EntryLemmas.{In, found_entry}
use Rattle.law_steps.proofs.CleanLemmas.{AllRead, AllLacked, AllSent, Aims, intent_aims, NamesOf, Clean, intent_clean}
use Rattle.def_journals.specs.Deliveries.{with_store, holders_from, unpack_each}
use Rattle.law_steps.proofs.DeliveryLemmas.{same_there, same_face, found_delivered, edge_done, need_done}

knows_names : (c : Configuration) → IsOfNames (IsKnown c)
knows_names c = record { number = λ z. tt; object = λ fields methods. tt; group = λ ns. tt }

-- What is read and awaited

all_read : (P : CellShape → Type 0) (c : Configuration) → ((f : FutureShape) (p : ParcelShape) → find future_cmp f c.futures ≡ Some p → Each P p.cells) → AllRead P (chase c.futures)
all_read P c values f y p h = values y p (chase_finds c.futures f y p h).0

abbrev is_going : Lead → Bool
is_going (Goes g) = true
is_going l = false

not_goes : {C : Type 0} {p : ParcelShape} {g : FutureShape} → Ends p ≡ Goes g → C
not_goes h = none_true (ap is_going h)

abbrev next_or : FutureShape → Lead → FutureShape
next_or f (Goes g) = g
next_or f l = f

goes_at : {f g : FutureShape} → Goes f ≡ Goes g → f ≡ g
goes_at {f} h = ap (next_or f) h

root_leads : (P : CellShape → Type 0) (p : ParcelShape) (x : CellShape) (g : FutureShape) → P x → lead_by p x ≡ Goes g → P (Future g)
root_leads P p (Future f) g h e = subst (λ k. P (Future k)) (goes_at e) h
root_leads P p (Number z) g h e = not_goes e
root_leads P p (Object fields methods) g h e = not_goes e
root_leads P p (Reference n) g h e = not_goes e
root_leads P p (Group ns) g h e = not_goes e

value_leads : (P : CellShape → Type 0) → IsOfNames P → (o : Option ParcelShape) (g : FutureShape) → ((p : ParcelShape) → o ≡ Some p → Each P p.cells) → lead_of o ≡ Goes g → P (Future g)
value_leads P names None g all e = none_true (ap is_going e)
value_leads P names (Some p) g all e = root_leads P p (cell p.cells 0) g (of_cell P names p.cells (all p refl) 0) e

all_lead : (P : CellShape → Type 0) → IsOfNames P → (c : Configuration) → ((f : FutureShape) (p : ParcelShape) → find future_cmp f c.futures ≡ Some p → Each P p.cells) → KeepsLeads c.futures (λ f. P (Future f))
all_lead P names c values f g e = value_leads P names (find future_cmp f c.futures) g (values f) e

all_lacked : (P : CellShape → Type 0) → IsOfNames P → (c : Configuration) → ((f : FutureShape) (p : ParcelShape) → find future_cmp f c.futures ≡ Some p → Each P p.cells) → ((f : FutureShape) → is_some (find future_cmp f c.futures) ≡ true → P (Future f)) → AllLacked P (chase c.futures)
all_lacked P names c values filled f h a p = chase_awaits c.futures (λ f. P (Future f)) (all_lead P names c values) filled f h p a

all_sent : (P : CellShape → Type 0) (rs : List RequestShape) → ((k : ℕ) (r : RequestShape) → slice_get rs k ≡ Some r → Each P r.arguments.cells) → AllSent P rs
all_sent P [] h = tt
all_sent P (r ∷ rs) h = (h 0 r refl, all_sent P rs (λ k. h (suc k)))

-- What a step keeps known

knows_after : (c : Configuration) (n : Name) (e : Effect) → Took c n e → (x : CellShape) → IsKnown c x → IsKnown (with_effect n e c) x
knows_after c n e t (Number z) h = tt
knows_after c n e t (Object fields methods) h = tt
knows_after c n e t (Reference m) h = here_after c n e m h
knows_after c n e t (Future f) h = (h.0, omega (arith, h.1, sends_at c f.by, sends_at (with_effect n e c) f.by, sends_grow c n e t f.by))
knows_after c n e t (Group ns) h = tt

names_after : (c : Configuration) (n : Name) (e : Effect) → Took c n e → NamesOf (IsKnown (with_effect n e c)) e
names_after c n e t = record {
  made = λ z p. ap (λ o. is_some (find name_cmp z.0 (put_some name_cmp o (put name_cmp n e.own c.activities)))) p ∙ ap is_some (Maps.find_same name_cmp name_total name_same z.0 z.1 (put name_cmp n e.own c.activities));
  sent = λ z p.
      let x = is_sent c n e t z p in
      let own : e.own.sends ≡ (at_name (with_effect n e c) n).sends = ap (λ y. y.sends) (sym (own_after c n e t)) in
      let le : suc (at_name c n).sends ≤ sends_of (with_effect n e c) n = omega (arith, own, x.1, sends_at (with_effect n e c) n) in
      subst (IsBegun (with_effect n e c)) (sym x.0) (omega arith, le);
}

-- who is found after a step
found_own : (n : Name) (a : Activity) (es : List (Name × Activity)) (m : Name) (b : Activity) → find name_cmp m (put name_cmp n a es) ≡ Some b → (find name_cmp m es ≡ Some b) ⊎ (a ≡ b)
found_own n a es m b h = ⊎_elim
    (λ p. inr (some_is (sym (Maps.find_same name_cmp name_total name_same n a es) ∙ ap (λ k. find name_cmp k (put name_cmp n a es)) (sym p) ∙ h)))
    (λ d. inl (sym (Maps.find_other name_cmp name_total name_same m n a es d) ∙ h))
    (name_case m n)

pub found_after : (n : Name) (a : Activity) (o : Option (Name × Activity)) (es : List (Name × Activity)) (m : Name) (b : Activity) → find name_cmp m (put_some name_cmp o (put name_cmp n a es)) ≡ Some b → (find name_cmp m es ≡ Some b) ⊎ (a ≡ b) ⊎ ((z : Name × Activity) × (o ≡ Some z) × (z.1 ≡ b))
found_after n a None es m b h = ⊎_elim (λ x. inl x) (λ y. inr (inl y)) (found_own n a es m b h)
found_after n a (Some z) es m b h = ⊎_elim
    (λ p. inr (inr (z, refl, some_is (sym (Maps.find_same name_cmp name_total name_same z.0 z.1 (put name_cmp n a es)) ∙ ap (λ k. find name_cmp k (put name_cmp z.0 z.1 (put name_cmp n a es))) (sym p) ∙ h))))
    (λ d. ⊎_elim (λ x. inl x) (λ y. inr (inl y)) (found_own n a es m b (sym (Maps.find_other name_cmp name_total name_same m z.0 z.1 (put name_cmp n a es) d) ∙ h)))
    (name_case m z.0)

pub value_after : (o : Option (FutureShape × ParcelShape)) (vs : List (FutureShape × ParcelShape)) (f : FutureShape) (p : ParcelShape) → find future_cmp f (put_some future_cmp o vs) ≡ Some p → (find future_cmp f vs ≡ Some p) ⊎ ((z : FutureShape × ParcelShape) × (o ≡ Some z) × (z.1 ≡ p))
value_after None vs f p h = inl h
value_after (Some z) vs f p h = ⊎_elim
    (λ q. inr (z, refl, some_is (sym (Maps.find_same future_cmp future_total future_same z.0 z.1 vs) ∙ ap (λ k. find future_cmp k (put future_cmp z.0 z.1 vs)) (sym q) ∙ h)))
    (λ d. inl (sym (Maps.find_other future_cmp future_total future_same f z.0 z.1 vs d) ∙ h))
    (future_case f z.0)

-- who acts is found, and acts by its intent
pub acting : (c : Configuration) (n : Name) (e : Effect) → intent_in c n ≡ Acts e → (a : Activity) × (find name_cmp n c.activities ≡ Some a) × (intent (chase c.futures) (requests_of c n) n a ≡ Acts e)
acting c n e h = let a = is_there (find name_cmp n c.activities) (acts_facts c n e h).0 in (a.0, a.1, sym (intended_is c n a.0 a.1) ∙ h)

clean_after : (c : Configuration) (n : Name) (e : Effect) → Right c → Took c n e → IsLinked c → intent_in c n ≡ Acts e → Clean (IsKnown (with_effect n e c)) e
clean_after c n e r t l intends =
    let d = with_effect n e c in
    let to : (cs : List CellShape) → Each (IsKnown c) cs → Each (IsKnown d) cs = each_weaker (IsKnown c) (IsKnown d) (knows_after c n e t) in
    let values : (f : FutureShape) (p : ParcelShape) → find future_cmp f c.futures ≡ Some p → Each (IsKnown d) p.cells = λ f p h. to p.cells (l.values f p h) in
    let x = acting c n e intends in
    intent_clean (IsKnown d) (knows_names d) (requests_of c n) (all_sent (IsKnown d) (requests_of c n) (λ k r st. to r.arguments.cells (l.arguments n k r st))) n x.0 (to x.0.store (l.stores n x.0 x.1)) (chase c.futures)
    (all_read (IsKnown d) c values)
    (all_lacked (IsKnown d) (knows_names d) c values (λ f h. knows_after c n e t (Future f) (filled_begun c r f h)))
    e x.2 (names_after c n e t)

linked_after : (c : Configuration) (n : Name) (e : Effect) → Right c → Took c n e → IsLinked c → intent_in c n ≡ Acts e → IsLinked (with_effect n e c)
linked_after c n e r t l intends =
    let d = with_effect n e c in
    let to : (cs : List CellShape) → Each (IsKnown c) cs → Each (IsKnown d) cs = each_weaker (IsKnown c) (IsKnown d) (knows_after c n e t) in
    let clean = clean_after c n e r t l intends in
    record {
      stores = λ m a h. ⊎_elim
          (λ old. to a.store (l.stores m a old))
          (λ x. ⊎_elim (λ own. subst (λ b. Each (IsKnown d) b.store) own clean.own) (λ z. subst (λ b. Each (IsKnown d) b.store) z.2 (clean.made z.0 z.1)) x)
          (found_after n e.own e.made c.activities m a h);
      arguments = λ m k q st. ⊎_elim
          (λ old. to q.arguments.cells (l.arguments m k q old))
          (λ new. subst (λ u. Each (IsKnown d) u.arguments.cells) (sym new.request) (clean.sent new.sent new.is))
          (came c n e m k q st);
      values = λ f q h. ⊎_elim
          (λ old. to q.cells (l.values f q old))
          (λ z. subst (λ b. Each (IsKnown d) b.cells) z.2 (clean.filled z.0 z.1))
          (value_after e.filled c.futures f q h);
    }

pub linked_start : (program : Tree) → IsLinked (start program)
linked_start program = record {
  stores = λ m a h. ⊎_elim (λ old. no_some old) (λ x. ⊎_elim (λ own. subst (λ b. Each (IsKnown (start program)) b.store) own (tt, tt)) (λ z. no_some z.1) x) (found_after main_name _ None [] m a h);
  arguments = λ m k r st. no_some st;
  values = λ f p h. no_some h;
}

step_linked : (lists : Option ListsShape) (n : Name) (c d : Configuration) → step lists c n ≡ Some d → Right c → IsLinked c → IsLinked d
step_linked lists n c d h r l = let x = step_taken lists c n d h in subst IsLinked x.2 (linked_after c n x.0 r (took lists c n x.0 r.sound x.1) l x.1.intends)

-- an activity over another store, in which all that stands is known
store_linked : (c : Configuration) (n : Name) (a : Activity) (t : Store) (d : Configuration) → find name_cmp n c.activities ≡ Some a → d ≡ with_store c n a t → IsLinked c → AreKnown c t → IsLinked d
store_linked c n a t d at is l known = subst IsLinked (sym is) (
    let to : (cs : List CellShape) → AreKnown c cs → AreKnown (with_store c n a t) cs = each_weaker (IsKnown c) (IsKnown (with_store c n a t)) known_still in
    record {
      stores = λ m b h. to b.store (found_delivered c n a t at (λ x. AreKnown c x.store) known (λ k x is. l.stores k x is) m b h);
      arguments = λ m k r st. to r.arguments.cells (l.arguments m k r st);
      values = λ f p h. to p.cells (l.values f p h);
    })
  where
    known_still : (x : CellShape) → IsKnown c x → IsKnown (with_store c n a t) x
    known_still (Number z) h = tt
    known_still (Object fields methods) h = tt
    known_still (Reference m) h = same_there c n a t at m ∙ h
    known_still (Future f) h = (h.0, omega (arith, h.1, sends_at c f.by, sends_at (with_store c n a t) f.by, ap (λ x. x.sends) (same_face c n a t at f.by)))
    known_still (Group ns) h = tt

-- what holds of all cells holds of them after a value was unpacked at places
all_unpacked : (P : CellShape → Type 0) → IsOfNames P → (ns : List ℕ) (s : Store) (p : ParcelShape) → Each P s → Each P p.cells → Each P (unpack_each s ns p)
all_unpacked P o [] s p h k = h
all_unpacked P o (n ∷ ns) s p h k = all_unpacked P o ns (unpack_at s n p) p (all_placed P s n (map (moved_cell (place_at (length s) n)) p.cells) h (all_moved P o (place_at (length s) n) p.cells k)) k

pub move_linked : (move : Move) (c d : Configuration) → Makes move c d → Right c → IsLinked c → IsLinked d
move_linked (Steps lists n) c d h r l = step_linked lists n c d h r l
move_linked (Edges f to) c d e r l = let h = edge_done c f to d e in store_linked c to h.receiver _ d h.at h.result l (all_unpacked (IsKnown c) (knows_names c) (holders_from 0 f h.receiver.store) h.receiver.store h.value (l.stores to h.receiver h.at) (l.values f h.value h.filled))
move_linked (Needs f to place) c d e r l = let h = need_done c f to place d e in store_linked c to h.receiver _ d h.at h.result l (all_unpacked (IsKnown c) (knows_names c) (place ∷ []) h.receiver.store h.value (l.stores to h.receiver h.at) (l.values f h.value (chase_finds c.futures h.held f h.value h.chased).0))

moves_linked : (moves : List Move) (c d : Configuration) → Leads Makes c moves d → Right c → IsLinked c → IsLinked d
moves_linked [] c d h r l = subst IsLinked h l
moves_linked (m ∷ moves) c d h r l = moves_linked moves h.0 d h.2 (move_right m c h.0 h.1 r) (move_linked m c h.0 h.1 r l)

-- The laws

pub cells_are_linked : CellsAreLinked
cells_are_linked program c r = moves_linked r.moves (start program) c r.run (start_right program) (linked_start program)

aims_at : (c : Configuration) (n : Name) (a : Activity) → Right c → IsLinked c → find name_cmp n c.activities ≡ Some a → Aims (IsKnown c) (intent_in c n)
aims_at c n a r l is = subst (Aims (IsKnown c)) (sym (intended_is c n a is)) (intent_aims (IsKnown c) (knows_names c) (chase c.futures) (all_read (IsKnown c) c l.values) (all_lacked (IsKnown c) (knows_names c) c l.values (filled_begun c r)) (requests_of c n) n a (l.stores n a is))

pub targets_on : (c : Configuration) (n : Name) (e : Effect) (x : Name × RequestShape) → Right c → IsLinked c → intent_in c n ≡ Acts e → e.sent ≡ Some x → IsThere c x.0
targets_on c n e x r l intends sent =
    let a = acting c n e intends in
    subst (Aims (IsKnown c)) intends (aims_at c n a.0 r l a.1) x sent

pub targets_are_there : TargetsAreThere
targets_are_there program c n e x reached intends sent = targets_on c n e x (reached_right program c reached) (cells_are_linked program c reached) intends sent

abbrev is_await : StatusShape → Bool
is_await (Awaits f) = true
is_await s = false

abbrev awaited_or : FutureShape → StatusShape → FutureShape
awaited_or f (Awaits g) = g
awaited_or f s = f

awaits_at : {f g : FutureShape} → Awaits f ≡ Awaits g → f ≡ g
awaits_at {f} h = ap (awaited_or f) h

-- of an intent with this status
awaiting : (P : CellShape → Type 0) (p : Intent) (f : FutureShape) → Aims P p → status_of_intent p ≡ Awaits f → P (Future f)
awaiting P (Acts e) f aims h = none_true (ap is_await h)
awaiting P (Rests (Awaits g)) f aims h = subst (λ k. P (Future k)) (awaits_at h) aims
awaiting P (Rests Done) f aims h = none_true (ap is_await h)
awaiting P (Rests Serving) f aims h = none_true (ap is_await h)
awaiting P (Rests Running) f aims h = none_true (ap is_await h)
awaiting P (Rests (Faulted x)) f aims h = none_true (ap is_await h)

pub awaited_on : (c : Configuration) (n : Name) (f : FutureShape) → Right c → IsLinked c → status_of c n ≡ Awaits f → IsBegun c f
awaited_on c n f r l st = by_entry (find name_cmp n c.activities) refl
  where
    by_entry : (o : Option Activity) → find name_cmp n c.activities ≡ o → IsBegun c f
    by_entry None is = none_true (ap is_await (sym (ap (λ o. status_of_intent (elim o [ None ↦ Rests Done | Some a ↦ intent (chase c.futures) (requests_of c n) n a ])) is) ∙ st))
    by_entry (Some a) is = awaiting (IsKnown c) (intent_in c n) f (aims_at c n a r l is) st

pub awaited_are_begun : AwaitedAreBegun
awaited_are_begun program c n f reached st = awaited_on c n f (reached_right program c reached) (cells_are_linked program c reached) st

may_freely : (c : Configuration) (o : Option (Name × ReceptionShape)) → ((x : Name × ReceptionShape) → o ≡ Some x → IsThere c x.0) → may_log None c o ≡ true
may_freely c None there = refl
may_freely c (Some x) there = ap (λ b. b && true) (there x refl)

-- what is logged is logged at one that is there
logged_at : (c : Configuration) (n : Name) (o : Option (Name × RequestShape)) (l : Option (Name × ReceptionShape)) → IsLogged n o l → IsThere c n → ((x : Name × RequestShape) → o ≡ Some x → IsThere c x.0) → (x : Name × ReceptionShape) → l ≡ Some x → IsThere c x.0
logged_at c n None l (inl p) here there x is = no_some (sym p ∙ is)
logged_at c n None l (inr p) here there x is = subst (IsThere c) (ap (λ z. z.0) (some_is (sym p ∙ is))) here
logged_at c n (Some z) l p here there x is = subst (IsThere c) (ap (λ y. y.0) (some_is (sym p ∙ is))) (there z refl)

pub step_on : (c : Configuration) (n : Name) (e : Effect) → Right c → IsLinked c → intent_in c n ≡ Acts e → step None c n ≡ Some (with_effect n e c)
step_on c n e r l intends = takes_step None c n e (record { intends = intends; may = (let f = acts_facts c n e intends in may_freely c e.logged (logged_at c n e.sent e.logged f.1.logged f.0 (λ x sent. targets_on c n e x r l intends sent))) })

pub intends_step : IntentsStep
intends_step program c n e reached intends = step_on c n e (reached_right program c reached) (cells_are_linked program c reached) intends

-- Stuck configurations

any_in : (c : Configuration) (es : List (Name × Activity)) (x : Name × Activity) → In x es → is_running (status_of c x.0) ≡ true → list_any is_running (map (λ x. status_of c x.0) es) ≡ true
any_in c [] x i h = absurd i
any_in c (e ∷ es) x (inl p) h = ap (λ b. b || list_any is_running (map (λ x. status_of c x.0) es)) (ap (λ z. is_running (status_of c z.0)) (sym p) ∙ h)
any_in c (e ∷ es) x (inr i) h = or_right (is_running (status_of c e.0)) (list_any is_running (map (λ x. status_of c x.0) es)) (any_in c es x i h)

none_in : (c : Configuration) (es : List (Name × Activity)) → ((n : Name) → is_running (status_of c n) ≡ false) → list_any is_running (map (λ x. status_of c x.0) es) ≡ false
none_in c [] h = refl
none_in c (e ∷ es) h = ap (λ b. b || list_any is_running (map (λ x. status_of c x.0) es)) (h e.0) ∙ none_in c es h

still_where_stuck : (c : Configuration) → IsStuck c → (n : Name) → step None c n ≡ None
still_where_stuck c stuck n = by_step (step None c n) refl
  where
    by_step : (o : Option Configuration) → step None c n ≡ o → o ≡ None
    by_step None is = refl
    by_step (Some d) is =
        let x = step_taken None c n d is in
        let a = acting c n x.0 x.1.intends in
        let y = found_entry c.activities n a.0 a.1 in
        none_true (sym stuck ∙ any_in c c.activities y.0 y.1 (ap (λ k. is_running (status_of c k)) y.2 ∙ ap (λ p. is_running (status_of_intent p)) x.1.intends))

not_running : (c : Configuration) (n : Name) → Right c → IsLinked c → step None c n ≡ None → (p : Intent) → intent_in c n ≡ p → is_running (status_of_intent p) ≡ false
not_running c n r l none (Acts e) is = no_some (sym none ∙ step_on c n e r l is)
not_running c n r l none (Rests Running) is = absurd (none_rests_running c n is)
not_running c n r l none (Rests Done) is = refl
not_running c n r l none (Rests Serving) is = refl
not_running c n r l none (Rests (Awaits f)) is = refl
not_running c n r l none (Rests (Faulted x)) is = refl

pub stuck_on : (c : Configuration) → Right c → IsLinked c → (IsStuck c → IsStill c) × (IsStill c → IsStuck c)
stuck_on c r l = (still_where_stuck c, λ none. none_in c c.activities (λ n. not_running c n r l (none n) (intent_in c n) refl))

pub stuck_is_still : StuckIsStill
stuck_is_still program c reached = stuck_on c (reached_right program c reached) (cells_are_linked program c reached)
