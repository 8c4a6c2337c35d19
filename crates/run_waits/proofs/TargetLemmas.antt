-- The notes of a replay tell where each request went.
use Rattle.std.specs.Prelude.{◌≡◌, ◌≢◌, ◌≤◌, ◌⊎◌, ℕ, zero, suc, nat_lt, Bool, true, false, List, [], ◌∷◌, ◌++◌, Option, Some, None, is_some, length, drop, map, slice_get}
use Rattle.std.specs.FinMap.{find}
use Rattle.std.proofs.Common.{refl, sym, ap, subst, ◌∙◌, inl, inr, ⊎_elim}
use Rattle.asp_model.specs.Names.{Name, FutureShape, Text, name_cmp, same_future}
use Rattle.asp_model.specs.Term.{Tree}
use Rattle.asp_model.specs.Parcel.{ParcelShape}
use Rattle.asp_model.specs.Configuration.{Activity, Configuration, From, Poll, ReceptionShape, RequestShape, or_none, requests_of, start}
use Rattle.asp_model.specs.Contraction.{LineShape}
use Rattle.asp_model.specs.Intent as intents
use Rattle.asp_model.specs.Intent.{Effect, StatusShape}
use Rattle.asp_model.specs.Status.{status_of}
use Rattle.asp_model.specs.Step.{ListsShape, intent_in, step, with_effect, with_last}
use Rattle.asp_model.specs.Replay.{CountsShape, count_in, least_step, replay, steps_from, total}
use Rattle.law_chases.proofs.FutureLemmas.{no_some, some_is, none_true, futures_tied, future_itself}
use Rattle.law_chases.proofs.MapLemmas as Maps
use Rattle.law_steps.specs.Kept.{Stands, IsBegun, sends_of}
use Rattle.law_steps.specs.Reached.{Steps}
use Rattle.law_steps.specs.Sound.{IsSound}
use Rattle.law_steps.specs.Waking.{labels_wanted}
use Rattle.law_steps.proofs.NameLemmas.{name_case, name_same, name_total}
use Rattle.law_steps.proofs.StepLemmas.{step_taken}
use Rattle.law_steps.proofs.WholeLemmas.{moves_keep_sound, start_is_sound}
use Rattle.law_waits.proofs.HolderLemmas.{stands_once}
use Rattle.replay_parts.specs.Notes.{EventShape, NoteShape, Printed, answered_by, faulted_by, given_by, least_notes, made_by, noted_as, notes_from, notes_of, place_of, places_by, places_in, polled_by, printed_by, replay_notes, sent_by, served_by}
use Rattle.wait_circles.specs.Targets.{Place}
use Rattle.run_waits.specs.Targets.{place_after, place_from, place_in}

-- Places in lists of notes

place_append : (f : FutureShape) (o : Option Place) (xs ys : List NoteShape) → place_from f o (xs ++ ys) ≡ place_from f (place_from f o xs) ys
place_append f o [] ys = refl
place_append f o (x ∷ xs) ys = place_append f (place_after f o x.event) xs ys

-- what is told of one more
pub place_more : (f : FutureShape) (xs : List NoteShape) (x : NoteShape) → place_in (xs ++ x ∷ []) f ≡ place_after f (place_in xs f) x.event
place_more f xs x = place_append f None xs (x ∷ [])

abbrev events_from : FutureShape → Option Place → List EventShape → Option Place
events_from f o [] = o
events_from f o (x ∷ xs) = events_from f (place_after f o x) xs

noted_from : (f : FutureShape) (o : Option Place) (n : Name) (k : ℕ) (es : List EventShape) → place_from f o (map (noted_as n k) es) ≡ events_from f o es
noted_from f o n k [] = refl
noted_from f o n k (x ∷ es) = noted_from f (place_after f o x) n k es

events_append : (f : FutureShape) (o : Option Place) (es gs : List EventShape) → events_from f o (es ++ gs) ≡ events_from f (events_from f o es) gs
events_append f o [] gs = refl
events_append f o (x ∷ es) gs = events_append f (place_after f o x) es gs

-- by the request that is sent
abbrev sent_place : FutureShape → Option Place → Option (Name × RequestShape) → Option Place
sent_place f o None = o
sent_place f o (Some z) = elim (same_future z.1.future f) [ true ↦ Some (z.0, z.1.label) | false ↦ o ]

after_served : (f : FutureShape) (o : Option Place) (ls : List Text) (es : List EventShape) → events_from f o (served_by ls ++ es) ≡ events_from f o es
after_served f o [] es = refl
after_served f o (l ∷ ls) es = refl

after_made : (f : FutureShape) (o : Option Place) (m : Option (Name × Activity)) (es : List EventShape) → events_from f o (made_by m ++ es) ≡ events_from f o es
after_made f o None es = refl
after_made f o (Some x) es = refl

after_sent : (f : FutureShape) (o : Option Place) (s : Option (Name × RequestShape)) (es : List EventShape) → events_from f o (sent_by s ++ es) ≡ events_from f (sent_place f o s) es
after_sent f o None es = refl
after_sent f o (Some x) es = refl

after_answered : (f : FutureShape) (o : Option Place) (a : Option (FutureShape × ParcelShape)) (es : List EventShape) → events_from f o (answered_by a ++ es) ≡ events_from f o es
after_answered f o None es = refl
after_answered f o (Some x) es = refl

after_polled : (f : FutureShape) (o : Option Place) (l : Option (Name × ReceptionShape)) → events_from f o (polled_by l) ≡ o
after_polled f o None = refl
after_polled f o (Some (z, From q)) = refl
after_polled f o (Some (z, Poll)) = refl

after_printed : (f : FutureShape) (o : Option Place) (ls : List LineShape) → events_from f o (map Printed ls) ≡ o
after_printed f o [] = refl
after_printed f o (l ∷ ls) = after_printed f o ls

-- what a step tells is where its request goes
step_place : (f : FutureShape) (o : Option Place) (n : Name) (a : Activity) (ls : List Text) (e : Effect) → place_from f o (map (noted_as n a.reductions) (served_by ls ++ (given_by e ++ printed_by a e.own))) ≡ sent_place f o e.sent
step_place f o n a ls e =
    noted_from f o n a.reductions (served_by ls ++ (given_by e ++ printed_by a e.own))
    ∙ after_served f o ls (given_by e ++ printed_by a e.own)
    ∙ events_append f o (given_by e) (printed_by a e.own)
    ∙ after_printed f (events_from f o (given_by e)) (drop (length a.lines) e.own.lines)
    ∙ after_made f o e.made (sent_by e.sent ++ (answered_by e.filled ++ polled_by e.logged))
    ∙ after_sent f o e.sent (answered_by e.filled ++ polled_by e.logged)
    ∙ after_answered f (sent_place f o e.sent) e.filled (polled_by e.logged)
    ∙ after_polled f (sent_place f o e.sent) e.logged

-- where activities stand tells of no request

stood_from : (f : FutureShape) (o : Option Place) (n : Name) (a : Activity) (ls : List Text) → place_from f o (places_by n a ls) ≡ o
stood_from f o n a [] = refl
stood_from f o n a (l ∷ ls) = refl

faulted_from : (f : FutureShape) (o : Option Place) (n : Name) (a : Activity) (s : StatusShape) → place_from f o (faulted_by n a s) ≡ o
faulted_from f o n a (intents.Faulted g) = refl
faulted_from f o n a intents.Done = refl
faulted_from f o n a intents.Serving = refl
faulted_from f o n a intents.Running = refl
faulted_from f o n a (intents.Awaits g) = refl

stood_of : (f : FutureShape) (o : Option Place) (n : Name) (x : Option Activity) (of : Activity → List Text) (s : StatusShape) → place_from f o (elim x [ None ↦ [] | Some a ↦ places_by n a (of a) ++ faulted_by n a s ]) ≡ o
stood_of f o n None of s = refl
stood_of f o n (Some a) of s =
    place_append f o (places_by n a (of a)) (faulted_by n a s)
    ∙ faulted_from f (place_from f o (places_by n a (of a))) n a s
    ∙ stood_from f o n a (of a)

stood_in : (c : Configuration) (f : FutureShape) (o : Option Place) (ns : List Name) → place_from f o (places_in c ns) ≡ o
stood_in c f o [] = refl
stood_in c f o (n ∷ ns) =
    place_append f o (place_of c n) (places_in c ns)
    ∙ ap (λ p. place_from f p (places_in c ns)) (stood_of f o n (find name_cmp n c.activities) labels_wanted (status_of c n))
    ∙ stood_in c f o ns

-- Requests that stand

-- what is told stands, and what stands is told
record Agrees (c : Configuration) (told : FutureShape → Option Place) : Type 0 where
  so : (f : FutureShape) (p : Place) → told f ≡ Some p → (k : ℕ) × (q : RequestShape) × Stands c p.0 k q × (q.future ≡ f) × (q.label ≡ p.1)
  all : (m : Name) (k : ℕ) (q : RequestShape) → Stands c m k q → is_some (told q.future) ≡ true

start_agrees : (program : Tree) → Agrees (start program) (λ f. None)
start_agrees program = record { so = λ f p h. no_some h; all = λ m k q h. no_some h }

slice_left : {X : Type 0} (xs ys : List X) (k : ℕ) (x : X) → slice_get xs k ≡ Some x → slice_get (xs ++ ys) k ≡ Some x
slice_left [] ys k x h = no_some h
slice_left (w ∷ xs) ys zero x h = h
slice_left (w ∷ xs) ys (suc k) x h = slice_left xs ys k x h

slice_last : {X : Type 0} (xs : List X) (y : X) → slice_get (xs ++ y ∷ []) (length xs) ≡ Some y
slice_last [] y = refl
slice_last (w ∷ xs) y = slice_last xs y

slice_split : {X : Type 0} (xs : List X) (y : X) (k : ℕ) (x : X) → slice_get (xs ++ y ∷ []) k ≡ Some x → (slice_get xs k ≡ Some x) ⊎ (y ≡ x)
slice_split [] y zero x h = inr (some_is h)
slice_split [] y (suc k) x h = no_some h
slice_split (w ∷ xs) y zero x h = inl h
slice_split (w ∷ xs) y (suc k) x h = slice_split xs y k x h

-- the requests of one who is sent one more, and those of another
sent_here : (t : Name) (r : RequestShape) (bs : List (Name × List RequestShape)) → or_none (find name_cmp t (with_last (Some (t, r)) bs)) ≡ or_none (find name_cmp t bs) ++ r ∷ []
sent_here t r bs = ap or_none (Maps.find_same name_cmp name_total name_same t (or_none (find name_cmp t bs) ++ r ∷ []) bs)

sent_there : (m t : Name) (r : RequestShape) (bs : List (Name × List RequestShape)) → m ≢ t → or_none (find name_cmp m (with_last (Some (t, r)) bs)) ≡ or_none (find name_cmp m bs)
sent_there m t r bs apart = ap or_none (Maps.find_other name_cmp name_total name_same m t (or_none (find name_cmp t bs) ++ r ∷ []) bs apart)

module _ (c : Configuration) (n : Name) (e : Effect) (told : FutureShape → Option Place) (h : Agrees c told) where
  abbrev later : Configuration
  later = with_effect n e c

  abbrev boxes : Option (Name × RequestShape) → List (Name × List RequestShape)
  boxes s = with_last s c.received

  abbrev StandsIn : Option (Name × RequestShape) → Name → ℕ → RequestShape → Type 0
  StandsIn s m k q = slice_get (or_none (find name_cmp m (boxes s))) k ≡ Some q

  stays : (s : Option (Name × RequestShape)) (m : Name) (k : ℕ) (q : RequestShape) → Stands c m k q → StandsIn s m k q
  stays None m k q at = at
  stays (Some (t, r)) m k q at = ⊎_elim
      (λ same. subst (λ z. StandsIn (Some (t, r)) z k q) (sym same) (subst (λ (xs : List RequestShape). slice_get xs k ≡ Some q) (sym (sent_here t r c.received)) (slice_left (requests_of c t) (r ∷ []) k q (subst (λ z. Stands c z k q) same at))))
      (λ apart. subst (λ (xs : List RequestShape). slice_get xs k ≡ Some q) (sym (sent_there m t r c.received apart)) at)
      (name_case m t)

  came : (s : Option (Name × RequestShape)) (m : Name) (k : ℕ) (q : RequestShape) → StandsIn s m k q → Stands c m k q ⊎ (s ≡ Some (m, q))
  came None m k q at = inl at
  came (Some (t, r)) m k q at = ⊎_elim
      (λ same.
      let there = subst (λ (xs : List RequestShape). slice_get xs k ≡ Some q) (sent_here t r c.received) (subst (λ z. StandsIn (Some (t, r)) z k q) same at) in
      ⊎_elim
      (λ old. inl (subst (λ z. Stands c z k q) (sym same) old))
      (λ new. inr (λ i. Some (sym same i, new i)))
      (slice_split (requests_of c t) r k q there))
      (λ apart. inl (subst (λ (xs : List RequestShape). slice_get xs k ≡ Some q) (sent_there m t r c.received apart) at))
      (name_case m t)

  abbrev So : Option (Name × RequestShape) → FutureShape → Place → Type 0
  So s f p = (k : ℕ) × (q : RequestShape) × StandsIn s p.0 k q × (q.future ≡ f) × (q.label ≡ p.1)

  so_by : (s : Option (Name × RequestShape)) (f : FutureShape) (p : Place) → sent_place f (told f) s ≡ Some p → So s f p
  so_by None f p t = h.so f p t
  so_by (Some (t, r)) f p e = by_test (same_future r.future f) refl e
    where
      by_test : (b : Bool) → same_future r.future f ≡ b → (elim b [ true ↦ Some (t, r.label) | false ↦ told f ]) ≡ Some p → So (Some (t, r)) f p
      by_test true d x = subst (So (Some (t, r)) f) (some_is x) (length (requests_of c t), r, subst (λ (xs : List RequestShape). slice_get xs (length (requests_of c t)) ≡ Some r) (sym (sent_here t r c.received)) (slice_last (requests_of c t) r), futures_tied r.future f d, refl)
      by_test false d x = let y = h.so f p x in (y.0, y.1, stays (Some (t, r)) p.0 y.0 y.1 y.2, y.3, y.4)

  all_old : (s : Option (Name × RequestShape)) (f : FutureShape) → is_some (told f) ≡ true → is_some (sent_place f (told f) s) ≡ true
  all_old None f t = t
  all_old (Some (to, r)) f t = elim (same_future r.future f) as (λ b. is_some (elim b [ true ↦ Some (to, r.label) | false ↦ told f ]) ≡ true) [ true ↦ refl | false ↦ t ]

  all_new : (m : Name) (q : RequestShape) (o : Option Place) → is_some (elim (same_future q.future q.future) [ true ↦ Some (m, q.label) | false ↦ o ]) ≡ true
  all_new m q o = ap (λ b. is_some (elim b [ true ↦ Some (m, q.label) | false ↦ o ])) (future_itself q.future)

  steps_agree : Agrees later (λ f. sent_place f (told f) e.sent)
  steps_agree = record {
    so = λ f p t. so_by e.sent f p t;
    all = λ m k q at. ⊎_elim
        (λ old. all_old e.sent q.future (h.all m k q old))
        (λ new. subst (λ (s : Option (Name × RequestShape)). is_some (sent_place q.future (told q.future) s) ≡ true) (sym new) (all_new m q (told q.future)))
        (came e.sent m k q at);
  }

-- who steps, and what it notes
abbrev NotesOf : Option ListsShape → (c d : Configuration) → List NoteShape → Type 0
NotesOf lists c d l = (n : Name) × (a : Activity) × (step lists c n ≡ Some d) × (l ≡ notes_of n a (intent_in c n))

abbrev tried : {X : Type 0} → Option Configuration → X → X → X
tried o own later = elim o [ None ↦ later | Some d ↦ own ]

abbrev if_below : {X : Type 0} → Bool → Option Configuration → X → X → X
if_below b o own later = elim b [ false ↦ later | true ↦ tried o own later ]

least_noted : (lists : Option ListsShape) (count : Name → ℕ) (c d : Configuration) (xs : List (Name × Activity)) → least_step lists count c xs ≡ Some d → NotesOf lists c d (least_notes lists count c xs)
least_noted lists count c d [] h = no_some h
least_noted lists count c d (x ∷ xs) h =
    let own : List NoteShape = notes_of x.0 x.1 (intent_in c x.0) in
    let rest : List NoteShape = least_notes lists count c xs in
    elim (nat_lt x.1.reductions (count x.0)) as (λ b. elim b [ false ↦ least_step lists count c xs | true ↦ elim (step lists c x.0) [ None ↦ least_step lists count c xs | Some f ↦ Some f ] ] ≡ Some d → NotesOf lists c d (if_below b (step lists c x.0) own rest)) [
      | true ↦ λ h. elim (step lists c x.0) as (λ o. step lists c x.0 ≡ o → elim o [ None ↦ least_step lists count c xs | Some f ↦ Some f ] ≡ Some d → NotesOf lists c d (tried o own rest)) [
        | None ↦ λ q h. least_noted lists count c d xs h
        | Some f ↦ λ q h. (x.0, x.1, q ∙ h, refl)
      ] refl h
      | false ↦ λ h. least_noted lists count c d xs h
    ] h

-- sound, and told
record IsRun (c : Configuration) (told : FutureShape → Option Place) : Type 0 where
  sound : IsSound c
  agrees : Agrees c told

abbrev told_by : (FutureShape → Option Place) → List NoteShape → FutureShape → Option Place
told_by told xs f = place_from f (told f) xs

same_run : (c : Configuration) (t u : FutureShape → Option Place) → ((f : FutureShape) → t f ≡ u f) → IsRun c u → IsRun c t
same_run c t u e r = record {
  sound = r.sound;
  agrees = record {
    so = λ f p h. r.agrees.so f p (sym (e f) ∙ h);
    all = λ m k q at. ap is_some (e q.future) ∙ r.agrees.all m k q at;
  };
}

run_told : (lists : Option ListsShape) (count : Name → ℕ) (k : ℕ) (c : Configuration) (told : FutureShape → Option Place) → IsRun c told → IsRun (steps_from k lists count c) (told_by told (notes_from k lists count c))
run_told lists count zero c told r = r
run_told lists count (suc k) c told r = elim (least_step lists count c c.activities) as (λ o. least_step lists count c c.activities ≡ o → IsRun (elim o [ None ↦ c | Some d ↦ steps_from k lists count d ]) (told_by told (elim o [ None ↦ [] | Some d ↦ least_notes lists count c c.activities ++ notes_from k lists count d ]))) [
  | None ↦ λ e. r
  | Some d ↦ λ e.
      let x = least_noted lists count c d c.activities e in
      let s = step_taken lists c x.0 d x.2 in
      let sent : FutureShape → Option Place = λ f. sent_place f (told f) s.0.sent in
      let one : (f : FutureShape) → told_by told (least_notes lists count c c.activities) f ≡ sent f =
      λ f. ap (place_from f (told f)) (x.3 ∙ ap (notes_of x.0 x.1) s.1.intends) ∙ step_place f (told f) x.0 x.1 (labels_wanted x.1) s.0 in
      let now : IsRun d sent = record {
        sound = moves_keep_sound (Steps lists x.0) c d r.sound x.2;
        agrees = subst (λ z. Agrees z sent) s.2 (steps_agree c x.0 s.0 told r.agrees);
      } in
      same_run (steps_from k lists count d) _ (told_by (told_by told (least_notes lists count c c.activities)) (notes_from k lists count d))
      (λ f. place_append f (told f) (least_notes lists count c c.activities) (notes_from k lists count d))
      (run_told lists count k d (told_by told (least_notes lists count c c.activities)) (same_run d _ sent one now))
] refl

-- A replay

begun_of : (c : Configuration) → IsSound c → (m : Name) (k : ℕ) (q : RequestShape) → Stands c m k q → IsBegun c q.future
begun_of c s m k q at =
    let r = s.requests m k q at in
    (r.first, subst (λ z. q.future.index ≤ sends_of c z) r.by r.last)

-- two places of one future are one
one_place : (c : Configuration) → IsSound c → (m t : Name) (k j : ℕ) (q r : RequestShape) → Stands c m k q → Stands c t j r → r.future ≡ q.future → (m ≡ t) × (k ≡ j)
one_place c s m t k j q r at there same =
    let x = stands_once c s q.future (begun_of c s m k q at) in
    let a = x.alone m k q at refl in
    let b = x.alone t j r there same in
    (a.0 ∙ sym b.0, a.1 ∙ sym b.1)

pub replay_told : (program : Tree) (lists : ListsShape) (counts : CountsShape) (ns : List Name) → let c : Configuration = replay program lists counts in
    IsSound c × ((m : Name) (k : ℕ) (q : RequestShape) → Stands c m k q → place_in (replay_notes program lists counts ++ places_in c ns) q.future ≡ Some (m, q.label))
replay_told program lists counts ns =
    let c : Configuration = replay program lists counts in
    let r = run_told (Some lists) (count_in counts) (total counts) (start program) (λ f. None) (record { sound = start_is_sound program; agrees = start_agrees program }) in (
      r.sound,
      λ m k q at.
          let all : (o : Option Place) → place_in (replay_notes program lists counts) q.future ≡ o → is_some o ≡ true → o ≡ Some (m, q.label) = λ o e h. by_place c r m k q at o e h in
          place_append q.future None (replay_notes program lists counts) (places_in c ns)
          ∙ stood_in c q.future (place_in (replay_notes program lists counts) q.future) ns
          ∙ all (place_in (replay_notes program lists counts) q.future) refl (r.agrees.all m k q at),
    )
  where
    by_place : (c : Configuration) {told : FutureShape → Option Place} → IsRun c told → (m : Name) (k : ℕ) (q : RequestShape) → Stands c m k q → (o : Option Place) → told q.future ≡ o → is_some o ≡ true → o ≡ Some (m, q.label)
    by_place c r m k q at None e h = none_true h
    by_place c r m k q at (Some p) e h =
        let x = r.agrees.so q.future p e in
        let same = one_place c r.sound m p.0 k x.0 q x.1 at x.2 x.3 in
        let one : x.1 ≡ q = some_is (sym x.2 ∙ ap (λ z. slice_get (requests_of c z) x.0) (sym same.0) ∙ ap (slice_get (requests_of c m)) (sym same.1) ∙ at) in
        (λ i. Some (sym same.0 i, (sym x.4 ∙ ap (λ z. z.label) one) i))
