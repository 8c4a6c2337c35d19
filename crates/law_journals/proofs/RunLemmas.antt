-- Holders are those of a run, entry by entry.
use Rattle.std.specs.Prelude.{◌≡◌, ◌≢◌, ℕ, zero, suc, ◌-◌, ◌≤◌, ◌||◌, Bool, true, false, List, [], ◌∷◌, ◌++◌, Option, Some, None, IsSome, is_some, length, map, cond, slice_get}
use Rattle.std.proofs.Common.{refl, sym, ap, subst, ◌∙◌, arith, append-nil, ◌⊎◌, inl, inr, ⊎_elim}
use Rattle.std.specs.FinMap.{find, put}
use Rattle.std.proofs.lemmas.List.Folds.{list_any-append}
use Rattle.asp_model.specs.Names.{Name, FutureShape, name_cmp, future_cmp, same_future}
use Rattle.asp_model.specs.Parcel.{ParcelShape}
use Rattle.asp_model.specs.Configuration.{RequestShape, Configuration, or_none, requests_of}
use Rattle.asp_model.specs.Intent.{Effect, Acts, Rests, filling}
use Rattle.asp_model.specs.Step.{put_some, step, with_effect, with_last}
use Rattle.asp_model.specs.History.{Edge, Need, EntryShape, Lent, Committed, Delivered}
use Rattle.def_journals.specs.Journals.{RunShape, first_in, first_run, reduced, all_entered}
use Rattle.def_journals.specs.Edges.{Event, HoldersShape, first_holders, homes_in, after_event, after_events, has_filled, home_of}
use Rattle.def_journals.specs.Passing.{effect_events, entry_events, events_from, named_events, read_in, received_events, receives, step_events, steps_events}
use Rattle.law_steps.specs.Reached.{Steps}
use Rattle.law_steps.specs.Kept.{IsBegun, Stands, answers_at, mark, tally}
use Rattle.law_steps.specs.Kept as kept
use Rattle.law_steps.specs.Steps.{IsNewTo}
use Rattle.law_steps.specs.Sound.{IsSound}
use Rattle.law_steps.proofs.NameLemmas.{is_there, name_total, name_same}
use Rattle.law_chases.proofs.FutureLemmas.{no_some, some_is, true_false, future_total, future_same, future_case, future_itself, futures_apart, futures_tied}
use Rattle.law_chases.proofs.MapLemmas as Maps
use Rattle.law_steps.proofs.StepLemmas.{step_taken}
use Rattle.law_steps.proofs.FactLemmas.{Face, acts_facts, face_of, holds, Holding, as_before, serving, ending}
use Rattle.law_steps.proofs.SoundLemmas.{at_name, came, mark_same}
use Rattle.law_steps.proofs.KeptLemmas.{placed_after}
use Rattle.law_steps.proofs.NamesLaws.{answers_by}
use Rattle.law_steps.proofs.DeliveryLemmas.{edge_done, need_done}
use Rattle.law_steps.proofs.WholeLemmas.{moves_keep_sound, sound_intents}
use Rattle.law_steps.proofs.EntryLemmas.{In}
use Rattle.law_journals.proofs.HomeLemmas.{home_received, received_home}
use Rattle.law_journals.proofs.JournalLemmas.{first_reduced, Done, entry_done, first_entered, entry_keeps}
use Rattle.law_journals.specs.Runs.{AreHoldersOf, EffectsAreFresh, FirstHoldersAre, HoldersAreOfRuns, HoldersStay, HomesAreOfBegun, IsHome}
use Rattle.law_journals.proofs.EventLemmas.{begun_by, effect_begins, effect_fills, filled_after, filled_by, filled_one, homes_after, sent_home}

-- Homes in lists

home_split : (f : FutureShape) (xs ys : List (FutureShape × Name)) (m : Name) → home_of f (xs ++ ys) ≡ Some m → (home_of f xs ≡ Some m) ⊎ (home_of f ys ≡ Some m)
home_split f [] ys m e = inr e
home_split f (x ∷ xs) ys m e = by (same_future f x.0) e (home_split f xs ys m)
  where
    by : (b : Bool) → elim b [ true ↦ Some x.1 | false ↦ home_of f (xs ++ ys) ] ≡ Some m → (home_of f (xs ++ ys) ≡ Some m → (home_of f xs ≡ Some m) ⊎ (home_of f ys ≡ Some m)) → (elim b [ true ↦ Some x.1 | false ↦ home_of f xs ] ≡ Some m) ⊎ (home_of f ys ≡ Some m)
    by true e rest = inl e
    by false e rest = rest e

home_kept : (f : FutureShape) (xs ys : List (FutureShape × Name)) (m : Name) → home_of f xs ≡ Some m → home_of f (xs ++ ys) ≡ Some m
home_kept f [] ys m e = no_some e
home_kept f (x ∷ xs) ys m e = by (same_future f x.0) e (home_kept f xs ys m)
  where
    by : (b : Bool) → elim b [ true ↦ Some x.1 | false ↦ home_of f xs ] ≡ Some m → (home_of f xs ≡ Some m → home_of f (xs ++ ys) ≡ Some m) → elim b [ true ↦ Some x.1 | false ↦ home_of f (xs ++ ys) ] ≡ Some m
    by true e rest = e
    by false e rest = rest e

home_added : (f : FutureShape) (xs ys : List (FutureShape × Name)) → home_of f xs ≡ None → home_of f (xs ++ ys) ≡ home_of f ys
home_added f [] ys e = refl
home_added f (x ∷ xs) ys e = by (same_future f x.0) e (home_added f xs ys)
  where
    by : (b : Bool) → ◌≡◌ {A = Option Name} (elim b [ true ↦ Some x.1 | false ↦ home_of f xs ]) None → (home_of f xs ≡ None → home_of f (xs ++ ys) ≡ home_of f ys) → elim b [ true ↦ Some x.1 | false ↦ home_of f (xs ++ ys) ] ≡ home_of f ys
    by true e rest = no_some (sym e)
    by false e rest = rest e

home_here : (f : FutureShape) (m : Name) → home_of f ((f, m) ∷ []) ≡ Some m
home_here f m = ap (λ b. elim b [ true ↦ Some m | false ↦ None ]) (future_itself f)

home_is : (f g : FutureShape) (m n : Name) → home_of f ((g, n) ∷ []) ≡ Some m → (f ≡ g) × (n ≡ m)
home_is f g m n e = by (same_future f g) refl e
  where
    by : (b : Bool) → same_future f g ≡ b → elim b [ true ↦ Some n | false ↦ None ] ≡ Some m → (f ≡ g) × (n ≡ m)
    by true is e = (futures_tied f g is, some_is e)
    by false is e = no_some e

-- One effect

last_one : (rs : List RequestShape) (q : RequestShape) → slice_get (rs ++ q ∷ []) (length rs) ≡ Some q
last_one [] q = refl
last_one (x ∷ rs) q = last_one rs q

-- a future that no request has has no home
none_home : (c : Configuration) (h : HoldersShape) (f : FutureShape) → AreHoldersOf c h → ((m : Name) (k : ℕ) (r : RequestShape) → Stands c m k r → r.future ≢ f) → home_of f h.homes ≡ None
none_home c h f are new = by (home_of f h.homes) refl
  where
    by : (o : Option Name) → home_of f h.homes ≡ o → o ≡ None
    by None e = refl
    by (Some m) e = let x = are.homes f m e in absurd (new m x.0 x.1 x.2 x.3)

module _ (c : Configuration) (n : Name) (e : Effect) (h : HoldersShape) (are : AreHoldersOf c h) (new : IsNewTo c e) where
  abbrev after : Configuration
  after = with_effect n e c

  stands_new : (z : Name × RequestShape) → e.sent ≡ Some z → Stands after z.0 (length (requests_of c z.0)) z.1
  stands_new z is =
      let requests : requests_of after z.0 ≡ requests_of c z.0 ++ z.1 ∷ [] = ap (λ o. or_none (find name_cmp z.0 (with_last o c.received))) is ∙ ap or_none (Maps.find_same name_cmp name_total name_same z.0 (requests_of c z.0 ++ z.1 ∷ []) c.received) in
      ap (λ b. slice_get b (length (requests_of c z.0))) requests ∙ last_one (requests_of c z.0) z.1

  sent_homes : (o : Option (Name × RequestShape)) → e.sent ≡ o → (f : FutureShape) (m : Name) → home_of f (sent_home o) ≡ Some m → IsHome after f m
  sent_homes None is f m e = no_some e
  sent_homes (Some z) is f m e =
      let x = home_is f z.1.future m z.0 e in
      subst (IsHome after f) x.1 (length (requests_of c z.0), z.1, stands_new z is, sym x.0)

  homes_then : (f : FutureShape) (m : Name) → home_of f (h.homes ++ sent_home e.sent) ≡ Some m → IsHome after f m
  homes_then f m at = ⊎_elim (λ x. placed_after c n e m f (are.homes f m x)) (sent_homes e.sent refl f m) (home_split f h.homes (sent_home e.sent) m at)

  requests_then : (m : Name) (k : ℕ) (r : RequestShape) → Stands after m k r → home_of r.future (h.homes ++ sent_home e.sent) ≡ Some m
  requests_then m k r st = ⊎_elim
      (λ old. home_kept r.future h.homes (sent_home e.sent) m (are.requests m k r old))
      (λ last.
      let z = last.sent in
      ap (λ q. home_of q.future (h.homes ++ sent_home e.sent)) last.request
      ∙ home_added z.1.future h.homes (sent_home e.sent) (none_home c h z.1.future are (new.sent z last.is))
      ∙ ap (λ o. home_of z.1.future (sent_home o)) last.is
      ∙ home_here z.1.future z.0
      ∙ ap Some last.to)
      (came c n e m k r st)

  or_nothing : (b : Bool) → (b || false) ≡ b
  or_nothing true = refl
  or_nothing false = refl

  or_true : (b c : Bool) → c ≡ true → (b || (c || false)) ≡ true
  or_true true c e = refl
  or_true false c e = ap (λ x. x || false) e

  or_false : (b c : Bool) → c ≡ false → (b || (c || false)) ≡ b
  or_false b c e = ap (λ x. b || (x || false)) e ∙ or_nothing b

  filled_then : (f : FutureShape) (o : Option (FutureShape × ParcelShape)) → has_filled f (h.filled ++ filled_one o) ≡ is_some (find future_cmp f (put_some future_cmp o c.futures))
  filled_then f None = ap (has_filled f) (append-nil h.filled) ∙ are.filled f
  filled_then f (Some z) = list_any-append (same_future f) h.filled (z.0 ∷ []) ∙ ⊎_elim
      (λ p. or_true (has_filled f h.filled) (same_future f z.0) (ap (same_future f) (sym p) ∙ future_itself f)
      ∙ sym (ap (λ g. is_some (find future_cmp g (put future_cmp z.0 z.1 c.futures))) p ∙ ap is_some (Maps.find_same future_cmp future_total future_same z.0 z.1 c.futures)))
      (λ a. or_false (has_filled f h.filled) (same_future f z.0) (futures_apart f z.0 a)
      ∙ are.filled f ∙ sym (ap is_some (Maps.find_other future_cmp future_total future_same f z.0 z.1 c.futures a)))
      (future_case f z.0)

  effect_then : (read : List (FutureShape × ParcelShape)) → AreHoldersOf after (after_events (effect_events n read e) h)
  effect_then read =
      let events = effect_events n read e in
      let homes : (after_events events h).homes ≡ h.homes ++ sent_home e.sent = homes_after events h ∙ ap (λ xs. h.homes ++ xs) (effect_begins n read e) in
      let filled : (after_events events h).filled ≡ h.filled ++ filled_one e.filled = filled_after events h ∙ ap (λ xs. h.filled ++ xs) (effect_fills n read e) in
      record {
        homes = λ f m at. homes_then f m (ap (home_of f) (sym homes) ∙ at);
        requests = λ m k r st. ap (home_of r.future) homes ∙ requests_then m k r st;
        filled = λ f. ap (has_filled f) filled ∙ filled_then f e.filled;
      }

-- Runs

pub holders_stay : HoldersStay
holders_stay c d h received futures are = record {
  homes = λ f m at. subst (λ (x : List (Name × List RequestShape)). IsHome (record d { received = x }) f m) (sym received) (are.homes f m at);
  requests = λ m k r st. are.requests m k r (subst (λ (x : List (Name × List RequestShape)). Stands (record d { received = x }) m k r) received st);
  filled = λ f. are.filled f ∙ ap (λ x. is_some (find future_cmp f x)) (sym futures);
}

-- events that begin and fill nothing
silent_then : (c : Configuration) (h : HoldersShape) (es : List Event) → begun_by es ≡ [] → filled_by es ≡ [] → AreHoldersOf c h → AreHoldersOf c (after_events es h)
silent_then c h es none nothing are =
    let homes : (after_events es h).homes ≡ h.homes = homes_after es h ∙ ap (λ xs. h.homes ++ xs) none ∙ append-nil h.homes in
    let filled : (after_events es h).filled ≡ h.filled = filled_after es h ∙ ap (λ xs. h.filled ++ xs) nothing ∙ append-nil h.filled in
    record {
      homes = λ f m at. are.homes f m (ap (home_of f) (sym homes) ∙ at);
      requests = λ m k r st. ap (home_of r.future) homes ∙ are.requests m k r st;
      filled = λ f. ap (has_filled f) filled ∙ are.filled f;
    }

step_then : (c d : Configuration) (n : Name) (h : HoldersShape) → IsSound c → step None c n ≡ Some d → AreHoldersOf c h → AreHoldersOf d (after_events (step_events c n) h)
step_then c d n h s e are =
    let x = step_taken None c n d e in
    subst (λ z. AreHoldersOf z (after_events (step_events c n) h)) x.2
    (subst (λ i. AreHoldersOf (with_effect n x.0 c) (after_events (elim i [ Rests status ↦ [] | Acts e ↦ effect_events n (read_in c n) e ]) h)) (sym x.1.intends)
    (effect_then c n x.0 h are ((sound_intents c s).effects n x.0 x.1.intends) (read_in c n)))

after_more : (es ds : List Event) (h : HoldersShape) → after_events (es ++ ds) h ≡ after_events ds (after_events es h)
after_more [] ds h = refl
after_more (e ∷ es) ds h = after_more es ds (after_event e h)

steps_then : (r : ℕ) (n : Name) (c d : Configuration) (h : HoldersShape) → IsSound c → reduced r n c ≡ Some d → AreHoldersOf c h → AreHoldersOf d (after_events (steps_events r c n) h)
steps_then zero n c d h s e are = subst (λ z. AreHoldersOf z h) (some_is e) are
steps_then (suc r) n c d h s e are =
    let x = first_reduced r n c d e in
    let h' = after_events (step_events c n) h in
    let rest = steps_then r n x.0 d h' (moves_keep_sound (Steps None n) c x.0 s x.1) x.2 (step_then c x.0 n h s x.1 are) in
    subst (AreHoldersOf d) (sym (after_more (step_events c n) _ h))
    (subst (λ o. AreHoldersOf d (after_events (elim o [ None ↦ [] | Some z ↦ steps_events r z n ]) h')) (sym x.1) rest)

received_begin : (c : Configuration) (f : FutureShape) (to : Name) → (begun_by (received_events c f to) ≡ []) × (filled_by (received_events c f to) ≡ [])
received_begin c f to = by (find future_cmp f c.futures)
  where
    by : (o : Option ParcelShape) → (begun_by (elim o [ None ↦ [] | Some p ↦ receives to (f, p) ∷ [] ]) ≡ []) × (filled_by (elim o [ None ↦ [] | Some p ↦ receives to (f, p) ∷ [] ]) ≡ [])
    by None = (refl, refl)
    by (Some p) = (refl, refl)

entry_then : (x : EntryShape) (s t : RunShape) (h : HoldersShape) → IsSound s.configuration → Done x s t → AreHoldersOf s.configuration h → AreHoldersOf t.configuration (after_events (entry_events x s) h)
entry_then (Lent k) s t h sound x are = subst (λ z. AreHoldersOf z.configuration h) (sym x.result) are
entry_then (Committed k r) s t h sound x are =
    let e : x.end ≡ t.configuration = ap (λ z. z.configuration) (some_is x.result) in
    subst (λ z. AreHoldersOf z (after_events (entry_events (Committed k r) s) h)) e
    (subst (λ o. AreHoldersOf x.end (after_events (named_events s r o) h)) (sym x.named) (steps_then r x.name s.configuration x.end h sound x.reduces are))
entry_then (Delivered (Edge f from to)) s t h sound x are =
    let e : x.end ≡ t.configuration = ap (λ z. z.configuration) (sym x.result) in
    let y = edge_done s.configuration f to x.end x.delivers in
    let none = received_begin s.configuration f to in
    subst (λ z. AreHoldersOf z (after_events (entry_events (Delivered (Edge f from to)) s) h)) e
    (silent_then x.end h (entry_events (Delivered (Edge f from to)) s) none.0 none.1 (holders_stay s.configuration x.end h (ap (λ z. z.received) y.result) (ap (λ z. z.futures) y.result) are))
entry_then (Delivered (Need f to place)) s t h sound x are =
    let e : x.end ≡ t.configuration = ap (λ z. z.configuration) (sym x.result) in
    let y = need_done s.configuration f to place x.end x.delivers in
    let none = received_begin s.configuration f to in
    subst (λ z. AreHoldersOf z (after_events (entry_events (Delivered (Need f to place)) s) h)) e
    (silent_then x.end h (entry_events (Delivered (Need f to place)) s) none.0 none.1 (holders_stay s.configuration x.end h (ap (λ z. z.received) y.result) (ap (λ z. z.futures) y.result) are))

-- from any run on
entries_then : (entries : List EntryShape) (s t : RunShape) (h : HoldersShape) → all_entered entries s ≡ Some t → IsSound s.configuration → AreHoldersOf s.configuration h → AreHoldersOf t.configuration (after_events (events_from entries s) h)
entries_then [] s t h e sound are = subst (λ z. AreHoldersOf z.configuration h) (some_is e) are
entries_then (x ∷ entries) s t h e sound are =
    let u = first_entered x entries s t e in
    let done = entry_done x s u.0 u.1 in
    let su = entry_keeps IsSound moves_keep_sound x s u.0 done sound in
    let h' = after_events (entry_events x s) h in
    subst (AreHoldersOf t.configuration) (sym (after_more (entry_events x s) _ h))
    (subst (λ o. AreHoldersOf t.configuration (after_events (elim o [ None ↦ [] | Some z ↦ events_from entries z ]) h')) (sym u.1)
    (entries_then entries u.0 t h' u.2 su (entry_then x s u.0 h sound done are)))

-- where a run begins

home_in : (f : FutureShape) (hs : List (FutureShape × Name)) (m : Name) → home_of f hs ≡ Some m → In (f, m) hs
home_in f [] m e = no_some e
home_in f (x ∷ xs) m e = by (same_future f x.0) refl e (home_in f xs m)
  where
    by : (b : Bool) → same_future f x.0 ≡ b → elim b [ true ↦ Some x.1 | false ↦ home_of f xs ] ≡ Some m → (home_of f xs ≡ Some m → In (f, m) xs) → In (f, m) (x ∷ xs)
    by true is e rest = inl (λ i. (futures_tied f x.0 is i, sym (some_is e) i))
    by false is e rest = inr (rest e)

home_told : (f : FutureShape) (hs : List (FutureShape × Name)) (m : Name) → In (f, m) hs → IsSome (home_of f hs)
home_told f [] m i = absurd i
home_told f (x ∷ xs) m i = by (same_future f x.0) refl i (home_told f xs m)
  where
    by : (b : Bool) → same_future f x.0 ≡ b → In (f, m) (x ∷ xs) → (In (f, m) xs → IsSome (home_of f xs)) → IsSome (elim b [ true ↦ Some x.1 | false ↦ home_of f xs ])
    by true is j rest = refl
    by false is (inl p) rest = absurd (true_false (same_future f f) (future_itself f) (ap (same_future f) (ap (λ z. z.0) p) ∙ is))
    by false is (inr j) rest = rest j

values_filled : (f : FutureShape) (vs : List (FutureShape × ParcelShape)) → has_filled f (map (λ v. v.0) vs) ≡ is_some (find future_cmp f vs)
values_filled f [] = refl
values_filled f (v ∷ vs) = by (same_future f v.0) (values_filled f vs)
  where
    by : (b : Bool) → has_filled f (map (λ v. v.0) vs) ≡ is_some (find future_cmp f vs) → (b || has_filled f (map (λ v. v.0) vs)) ≡ is_some (cond b (Some v.1) (find future_cmp f vs))
    by true e = refl
    by false e = e

pub first_holders_are : FirstHoldersAre
first_holders_are c s = record { homes = homes; requests = requests; filled = λ f. values_filled f c.futures }
  where
    homes : (f : FutureShape) (m : Name) → home_of f (homes_in c) ≡ Some m → IsHome c f m
    homes f m at = home_received c s (f, m) (home_in f (homes_in c) m at)

    -- each future has one home, since it stands once
    requests : (m : Name) (k : ℕ) (r : RequestShape) → Stands c m k r → home_of r.future (homes_in c) ≡ Some m
    requests m k r st =
        let there = is_there (home_of r.future (homes_in c)) (home_told r.future (homes_in c) m (received_home c m k r st)) in
        let x = homes r.future there.0 there.1 in
        let right = s.requests m k r st in
        let i = r.future.index - 1 in
        let at : suc i ≡ r.future.index = omega (arith, right.first) in
        let once = s.stand r.future.by i (subst (λ n. suc i ≤ kept.sends_of c n) right.by (omega (arith, right.last, right.first))) in
        let same : r.future ≡ record { by = r.future.by; index = suc i } = λ j. record { by = r.future.by; index = sym at j } in
        let here = once.alone m k r st same in
        let found = once.alone there.0 x.0 x.1 x.2 (x.3 ∙ same) in
        there.1 ∙ ap Some (found.0 ∙ sym here.0)

pub holders_are_of_runs : HoldersAreOfRuns
holders_are_of_runs h s sound e = entries_then h.entries (first_run h) s (first_holders (first_in h).configuration) e sound (first_holders_are (first_in h).configuration sound)

-- What was begun, and what is fresh

pub homes_are_of_begun : HomesAreOfBegun
homes_are_of_begun c h f s are = (there, begun_there)
  where
    there : IsBegun c f → IsSome (home_of f h.homes)
    there b =
        let i = f.index - 1 in
        let at : suc i ≡ f.index = omega (arith, b.0) in
        let x = s.stand f.by i (omega (arith, b.0, b.1)) in
        let same : x.request.future ≡ f = x.is ∙ (λ j. record f { index = at j }) in
        ap is_some (ap (λ g. home_of g h.homes) (sym same) ∙ are.requests x.target x.number x.request x.there)

    begun_there : IsSome (home_of f h.homes) → IsBegun c f
    begun_there some =
        let m = is_there (home_of f h.homes) some in
        let x = are.homes f m.0 m.1 in
        let r = s.requests m.0 x.0 x.1 x.2 in
        subst (IsBegun c) x.3 (r.first, subst (λ n. x.1.future.index ≤ kept.sends_of c n) r.by r.last)

-- what an effect fills has to be answered by its activity
fills_held : (c : Configuration) (n : Name) (y : Face) (o : Option (FutureShape × ParcelShape)) → Holding (requests_of c n) (at_name c n) y o → (z : FutureShape × ParcelShape) → o ≡ Some z → 1 ≤ holds (mark z.0) (at_name c n)
fills_held c n y o (as_before none same hold) z e = no_some (sym none ∙ e)
fills_held c n y o (serving k r none st new same hold) z e = no_some (sym none ∙ e)
fills_held c n y o (ending p is same hold) z e = omega (arith, hold (mark z.0), present_of (at_name c n).present p z (sym is ∙ e))
  where
    present_of : (v : Option FutureShape) (p : ParcelShape) (z : FutureShape × ParcelShape) → filling v p ≡ Some z → 1 ≤ tally (mark z.0) v
    present_of None p z e = no_some e
    present_of (Some f) p z e = omega (arith, mark_same z.0 f (ap (λ u. u.0) (sym (some_is e))))

pub effects_are_fresh : EffectsAreFresh
effects_are_fresh c h n e s are intends =
    let new = (sound_intents c s).effects n e intends in
    record {
      sent = λ z is. none_home c h z.1.future are (new.sent z is);
      begun = λ z is.
          let held = fills_held c n (face_of e.own) e.filled (acts_facts c n e intends).1.holding z is in
          let answers : 1 ≤ answers_at c n z.0 = subst (λ k. 1 ≤ k) (sym (answers_by z.0 (find name_cmp n c.activities))) held in
          (homes_are_of_begun c h z.0 s are).0 (s.begun z.0 (inr (n, answers)));
      filled = λ z is. are.filled z.0 ∙ ap is_some (new.filled z is);
    }
