-- What the notes of a replay tell is what its services could take.
use Rattle.std.specs.Prelude.{◌≡◌, ◌≢◌, ◌&&◌, ◌||◌, ℕ, zero, suc, ◌+◌, ◌-◌, ◌≤◌, nat_le, Bool, true, false, cond, List, [], ◌∷◌, ◌++◌, Option, Some, None, map, drop, length, is_some, nat_lt, slice_get}
use Rattle.std.specs.List.{Contains, flat_map, list_any}
use Rattle.std.specs.FinMap.{find, put}
use Rattle.std.proofs.Common.{refl, sym, ap, subst, ◌∙◌, arith, inl, inr, ⊎_elim, ◌⊎◌}
use Rattle.std.proofs.lemmas.Bool.{leb-true, leb-false, ltb-true}
use Rattle.std.proofs.lemmas.List.{append-nil, append_assoc, map-append}
use Rattle.std.proofs.lemmas.List.Elements.{Contains-append_left, Contains-append_right, Contains-append_cases}
use Rattle.std.proofs.lemmas.List.Folds.{flat_map-map, list_any-append}
use Rattle.std.proofs.lemmas.Grind.{flat_map-append}
use Rattle.asp_model.specs.Names.{Name, FutureShape, Text, name_cmp, same_name}
use Rattle.asp_model.specs.Term.{Tree, Head, Serve}
use Rattle.asp_model.specs.Split.{Split, Stands, Splits, split}
use Rattle.asp_model.specs.Store.{CellShape, cell}
use Rattle.asp_model.specs.Parcel.{ParcelShape}
use Rattle.asp_model.specs.Configuration.{Activity, Configuration, From, Poll, ReceptionShape, RequestShape, label_of, log_of, or_none, requests_of, start}
use Rattle.asp_model.specs.Contraction.{FaultShape, LineShape}
use Rattle.asp_model.specs.Intent as intents
use Rattle.asp_model.specs.Intent.{Acts, Effect, StatusShape}
use Rattle.asp_model.specs.Status.{status_of}
use Rattle.asp_model.specs.Services.{ArrivalShape}
use Rattle.asp_model.specs.Step.{ListsShape, intent_in, step, with_effect, with_last}
use Rattle.asp_model.specs.Replay.{CountsShape, Fits, count_in, least_step, replay, steps_from, total}
use Rattle.law_chases.proofs.FutureLemmas.{no_some, some_is}
use Rattle.law_chases.proofs.MapLemmas as Maps
use Rattle.law_steps.specs.Reached.{IsAt}
use Rattle.law_steps.specs.Waking.{labels_at, labels_of_head, labels_wanted}
use Rattle.law_steps.proofs.CommuteLemmas.{took}
use Rattle.law_steps.proofs.EntryLemmas.{In, entry_found}
use Rattle.law_steps.proofs.FactLemmas.{IsLogged, IsSent, face, face_of}
use Rattle.law_steps.proofs.FrameLemmas.{others_on}
use Rattle.law_steps.proofs.ListLemmas.{count_own}
use Rattle.law_steps.proofs.NameLemmas.{name_case, name_itself, name_same, name_total, names_apart, names_tied}
use Rattle.law_steps.proofs.ReplayLemmas.{next_by}
use Rattle.law_steps.proofs.SoundLemmas.{Took, at_name}
use Rattle.law_steps.proofs.StepLemmas.{step_taken}
use Rattle.law_services.specs.Services.{StoodAt, arrival_of, has_poll, replayed_to, set_at, set_by, set_of_head}
use Rattle.law_services.proofs.EndLemmas.{more_steps, one_more, replay_run}
use Rattle.law_services.proofs.SameLemmas.{right_at}
use Rattle.replay_parts.specs.Notes.{EventShape, Faulted, HasNames, NoteShape, Printed, answered_by, faulted_by, given_by, least_notes, made_by, noted_as, notes_from, notes_of, place_of, places_by, places_in, polled_by, printed_by, sent_by, served_by, standing}
use Rattle.replay_services.specs.Heard.{came_as, asked_as, is_poll, came_in, asked_in, polled_in, came_to, asked_by, has_polled, TellsServices, NotesTell}

-- Notes of one step more

abbrev last_notes : Option ListsShape → (Name → ℕ) → Option Configuration → Configuration → List NoteShape
last_notes lists count o c = elim o [ None ↦ [] | Some d ↦ least_notes lists count c c.activities ]

pub more_notes : (lists : Option ListsShape) (count : Name → ℕ) (k : ℕ) (c : Configuration)
    → notes_from (suc k) lists count c ≡ notes_from k lists count c ++ last_notes lists count (next_by lists count (steps_from k lists count c)) (steps_from k lists count c)
more_notes lists count zero c = elim (next_by lists count c) as (λ o. elim o [ None ↦ [] | Some d ↦ least_notes lists count c c.activities ++ [] ] ≡ last_notes lists count o c) [
  | None ↦ refl
  | Some d ↦ append-nil (least_notes lists count c c.activities)
]
more_notes lists count (suc k) c = elim (next_by lists count c) as (λ o. next_by lists count c ≡ o
    → let d : Configuration = elim o [ None ↦ c | Some d ↦ steps_from k lists count d ] in
    elim o [ None ↦ [] | Some d ↦ least_notes lists count c c.activities ++ notes_from (suc k) lists count d ]
    ≡ elim o [ None ↦ [] | Some d ↦ least_notes lists count c c.activities ++ notes_from k lists count d ] ++ last_notes lists count (next_by lists count d) d) [
      | None ↦ λ e. sym (ap (λ o. last_notes lists count o c) e)
      | Some d ↦ λ e. ap (λ l. least_notes lists count c c.activities ++ l) (more_notes lists count k d) ∙ sym (append_assoc (least_notes lists count c c.activities) (notes_from k lists count d) _)
    ] refl

-- who steps, and what it notes
abbrev NotesOf : Option ListsShape → (c d : Configuration) → List (Name × Activity) → List NoteShape → Type 0
NotesOf lists c d xs l = (x : Name × Activity) × In x xs × (step lists c x.0 ≡ Some d) × (l ≡ notes_of x.0 x.1 (intent_in c x.0))

abbrev tried : {X : Type 0} → Option Configuration → X → X → X
tried o own later = elim o [ None ↦ later | Some d ↦ own ]

abbrev if_below : {X : Type 0} → Bool → Option Configuration → X → X → X
if_below b o own later = elim b [ false ↦ later | true ↦ tried o own later ]

least_noted : (lists : Option ListsShape) (count : Name → ℕ) (c d : Configuration) (xs : List (Name × Activity)) → least_step lists count c xs ≡ Some d → NotesOf lists c d xs (least_notes lists count c xs)
least_noted lists count c d [] h = no_some h
least_noted lists count c d (x ∷ xs) h =
    let own : List NoteShape = notes_of x.0 x.1 (intent_in c x.0) in
    let rest : List NoteShape = least_notes lists count c xs in
    let later : least_step lists count c xs ≡ Some d → NotesOf lists c d (x ∷ xs) rest = λ h. let r = least_noted lists count c d xs h in (r.0, inr r.1, r.2, r.3) in
    elim (nat_lt x.1.reductions (count x.0)) as (λ b. elim b [ false ↦ least_step lists count c xs | true ↦ elim (step lists c x.0) [ None ↦ least_step lists count c xs | Some f ↦ Some f ] ] ≡ Some d → NotesOf lists c d (x ∷ xs) (if_below b (step lists c x.0) own rest)) [
      | true ↦ λ h. elim (step lists c x.0) as (λ o. step lists c x.0 ≡ o → elim o [ None ↦ least_step lists count c xs | Some f ↦ Some f ] ≡ Some d → NotesOf lists c d (x ∷ xs) (tried o own rest)) [
        | None ↦ λ q h. later h
        | Some f ↦ λ q h. (x, inl refl, q ∙ h, refl)
      ] refl h
      | false ↦ λ h. later h
    ] h

-- What one step tells

-- what stands at a name, after something was put at the end there
abbrev there : {X : Type 0} → Name → Option (Name × X) → List X
there n None = []
there n (Some z) = cond (same_name n z.0) (z.1 ∷ []) []

boxed : {X : Type 0} (n : Name) (o : Option (Name × X)) (bs : List (Name × List X)) → or_none (find name_cmp n (with_last o bs)) ≡ or_none (find name_cmp n bs) ++ there n o
boxed n None bs = sym (append-nil _)
boxed {X} n (Some z) bs =
    let xs : List X = or_none (find name_cmp z.0 bs) ++ z.1 ∷ [] in
    ⊎_elim
    (λ e. ap (λ k. or_none (find name_cmp k (put name_cmp z.0 xs bs))) e ∙ ap or_none (Maps.find_same name_cmp name_total name_same z.0 xs bs)
    ∙ ap (λ k. or_none (find name_cmp k bs) ++ z.1 ∷ []) (sym e)
    ∙ ap (λ (b : Bool). or_none (find name_cmp n bs) ++ cond b (z.1 ∷ []) []) (sym (ap (same_name n) (sym e) ∙ name_itself n)))
    (λ apart. ap or_none (Maps.find_other name_cmp name_total name_same n z.0 xs bs apart) ∙ sym (append-nil _)
    ∙ ap (λ (b : Bool). or_none (find name_cmp n bs) ++ cond b (z.1 ∷ []) []) (sym (names_apart n z.0 apart)))
    (name_case n z.0)

-- requests

abbrev came_of : Name → Name → List EventShape → List ArrivalShape
came_of n m es = flat_map (came_as n m) es

came_served : (n m : Name) (ls : List Text) → came_of n m (served_by ls) ≡ []
came_served n m [] = refl
came_served n m (l ∷ ls) = refl

came_made : (n m : Name) (o : Option (Name × Activity)) → came_of n m (made_by o) ≡ []
came_made n m None = refl
came_made n m (Some x) = refl

came_answered : (n m : Name) (o : Option (FutureShape × ParcelShape)) → came_of n m (answered_by o) ≡ []
came_answered n m None = refl
came_answered n m (Some x) = refl

came_polled : (n m : Name) (o : Option (Name × ReceptionShape)) → came_of n m (polled_by o) ≡ []
came_polled n m None = refl
came_polled n m (Some (z, From q)) = refl
came_polled n m (Some (z, Poll)) = refl

came_printed : (n m : Name) (ls : List LineShape) → came_of n m (map Printed ls) ≡ []
came_printed n m [] = refl
came_printed n m (l ∷ ls) = came_printed n m ls

came_sent : (n m : Name) (o : Option (Name × RequestShape)) → ((z : Name × RequestShape) → o ≡ Some z → z.1.sender ≡ m) → came_of n m (sent_by o) ≡ map arrival_of (there n o)
came_sent n m None from = refl
came_sent n m (Some z) from =
    ap (λ q. cond (same_name n z.0) (record { sender = q; label = label_of z.1 } ∷ []) [] ++ []) (sym (from z refl))
    ∙ by (same_name n z.0)
  where
    by : (b : Bool) → cond b (arrival_of z.1 ∷ []) [] ++ [] ≡ map arrival_of (cond b (z.1 ∷ []) [])
    by true = refl
    by false = refl

-- what is found in all that a step tells
flat_step : {Y : Type 0} (g : EventShape → List Y) (ls : List Text) (e : Effect)
    → flat_map g (served_by ls ++ given_by e) ≡ flat_map g (served_by ls) ++ (flat_map g (made_by e.made) ++ (flat_map g (sent_by e.sent) ++ (flat_map g (answered_by e.filled) ++ flat_map g (polled_by e.logged))))
flat_step g ls e =
    flat_map-append g (served_by ls) (given_by e)
    ∙ ap (λ l. flat_map g (served_by ls) ++ l) (flat_map-append g (made_by e.made) (sent_by e.sent ++ (answered_by e.filled ++ polled_by e.logged))
    ∙ ap (λ l. flat_map g (made_by e.made) ++ l) (flat_map-append g (sent_by e.sent) (answered_by e.filled ++ polled_by e.logged)
    ∙ ap (λ l. flat_map g (sent_by e.sent) ++ l) (flat_map-append g (answered_by e.filled) (polled_by e.logged))))

-- of lines nothing is found
flat_lines : {Y : Type 0} (g : EventShape → List Y) (ls : List Text) (e : Effect) (ps : List EventShape) → flat_map g ps ≡ [] → flat_map g (served_by ls ++ (given_by e ++ ps)) ≡ flat_map g (served_by ls ++ given_by e)
flat_lines g ls e ps none =
    ap (flat_map g) (sym (append_assoc (served_by ls) (given_by e) ps))
    ∙ flat_map-append g (served_by ls ++ given_by e) ps
    ∙ ap (λ l. flat_map g (served_by ls ++ given_by e) ++ l) none
    ∙ append-nil (flat_map g (served_by ls ++ given_by e))

-- what a step tells
abbrev told_by : Activity → Effect → List EventShape
told_by a e = served_by (labels_wanted a) ++ (given_by e ++ printed_by a e.own)

came_step : (n m : Name) (a : Activity) (e : Effect) → ((z : Name × RequestShape) → e.sent ≡ Some z → z.1.sender ≡ m) → came_of n m (told_by a e) ≡ map arrival_of (there n e.sent)
came_step n m a e from =
    let ls = labels_wanted a in
    flat_lines (came_as n m) ls e (printed_by a e.own) (came_printed n m (drop (length a.lines) e.own.lines))
    ∙ flat_step (came_as n m) ls e
    ∙ (λ i. came_served n m ls i ++ (came_made n m e.made i ++ (came_of n m (sent_by e.sent) ++ (came_answered n m e.filled i ++ came_polled n m e.logged i))))
    ∙ append-nil (came_of n m (sent_by e.sent)) ∙ came_sent n m e.sent from

-- services

served_asked : List Text → List (List Text)
served_asked ls = flat_map asked_as (served_by ls)

asked_printed : (ls : List LineShape) → flat_map asked_as (map Printed ls) ≡ []
asked_printed [] = refl
asked_printed (l ∷ ls) = asked_printed ls

asked_step : (b : Bool) (a : Activity) (e : Effect) → flat_map (λ x. cond b (asked_as x) []) (told_by a e) ≡ cond b (flat_map asked_as (served_by (labels_wanted a))) []
asked_step false a e = none (told_by a e)
  where
    none : (es : List EventShape) → flat_map (λ (x : EventShape). cond false (asked_as x) []) es ≡ []
    none [] = refl
    none (x ∷ es) = none es
asked_step true a e = let ls = labels_wanted a in flat_lines asked_as ls e (printed_by a e.own) (asked_printed (drop (length a.lines) e.own.lines)) ∙ flat_step asked_as ls e ∙ (λ i. flat_map asked_as (served_by ls) ++ (of_made e.made i ++ (of_sent e.sent i ++ (of_answered e.filled i ++ of_polled e.logged i)))) ∙ append-nil (flat_map asked_as (served_by ls))
  where
    of_made : (o : Option (Name × Activity)) → flat_map asked_as (made_by o) ≡ []
    of_made None = refl
    of_made (Some x) = refl

    of_sent : (o : Option (Name × RequestShape)) → flat_map asked_as (sent_by o) ≡ []
    of_sent None = refl
    of_sent (Some x) = refl

    of_answered : (o : Option (FutureShape × ParcelShape)) → flat_map asked_as (answered_by o) ≡ []
    of_answered None = refl
    of_answered (Some x) = refl

    of_polled : (o : Option (Name × ReceptionShape)) → flat_map asked_as (polled_by o) ≡ []
    of_polled None = refl
    of_polled (Some (z, From q)) = refl
    of_polled (Some (z, Poll)) = refl

-- polls

abbrev any_poll : Bool → List EventShape → Bool
any_poll b es = list_any (λ x. b && is_poll x) es

no_poll : (b : Bool) → ((b && false) || false) ≡ false
no_poll true = refl
no_poll false = refl

a_poll : (b : Bool) → ((b && true) || false) ≡ has_poll (cond b (Poll ∷ []) [])
a_poll true = refl
a_poll false = refl

no_from : (b : Bool) (q : Name) → false ≡ has_poll (cond b (From q ∷ []) [])
no_from true q = refl
no_from false q = refl

any_served : (b : Bool) (ls : List Text) → any_poll b (served_by ls) ≡ false
any_served b [] = refl
any_served b (l ∷ ls) = no_poll b

any_made : (b : Bool) (o : Option (Name × Activity)) → any_poll b (made_by o) ≡ false
any_made b None = refl
any_made b (Some x) = no_poll b

any_sent : (b : Bool) (o : Option (Name × RequestShape)) → any_poll b (sent_by o) ≡ false
any_sent b None = refl
any_sent b (Some x) = no_poll b

any_answered : (b : Bool) (o : Option (FutureShape × ParcelShape)) → any_poll b (answered_by o) ≡ false
any_answered b None = refl
any_answered b (Some x) = no_poll b

any_printed : (b : Bool) (ls : List LineShape) → any_poll b (map Printed ls) ≡ false
any_printed b [] = refl
any_printed b (l ∷ ls) = ap (λ t. (b && false) || t) (any_printed b ls) ∙ no_poll b

any_logged : (n m : Name) (s : Option (Name × RequestShape)) (l : Option (Name × ReceptionShape)) → IsLogged m s l → any_poll (same_name n m) (polled_by l) ≡ has_poll (there n l)
any_logged n m None l (inl e) = subst (λ k. any_poll (same_name n m) (polled_by k) ≡ has_poll (there n k)) (sym e) refl
any_logged n m None l (inr e) = subst (λ k. any_poll (same_name n m) (polled_by k) ≡ has_poll (there n k)) (sym e) (a_poll (same_name n m))
any_logged n m (Some z) l e = subst (λ k. any_poll (same_name n m) (polled_by k) ≡ has_poll (there n k)) (sym e) (no_from (same_name n z.0) m)

or_no : (t : Bool) → (t || false) ≡ t
or_no true = refl
or_no false = refl

polled_step : (n m : Name) (a : Activity) (e : Effect) → IsLogged m e.sent e.logged → any_poll (same_name n m) (told_by a e) ≡ has_poll (there n e.logged)
polled_step n m a e logged =
    let b : Bool = same_name n m in
    let ls = labels_wanted a in
    let ps = printed_by a e.own in
    list_any-append (λ x. b && is_poll x) (served_by ls) (given_by e ++ ps)
    ∙ ap (λ t. t || any_poll b (given_by e ++ ps)) (any_served b ls)
    ∙ list_any-append (λ x. b && is_poll x) (given_by e) ps
    ∙ ap (λ t. any_poll b (given_by e) || t) (any_printed b (drop (length a.lines) e.own.lines))
    ∙ or_no (any_poll b (given_by e))
    ∙ list_any-append (λ x. b && is_poll x) (made_by e.made) (sent_by e.sent ++ (answered_by e.filled ++ polled_by e.logged))
    ∙ ap (λ t. t || any_poll b (sent_by e.sent ++ (answered_by e.filled ++ polled_by e.logged))) (any_made b e.made)
    ∙ list_any-append (λ x. b && is_poll x) (sent_by e.sent) (answered_by e.filled ++ polled_by e.logged)
    ∙ ap (λ t. t || any_poll b (answered_by e.filled ++ polled_by e.logged)) (any_sent b e.sent)
    ∙ list_any-append (λ x. b && is_poll x) (answered_by e.filled) (polled_by e.logged)
    ∙ ap (λ t. t || any_poll b (polled_by e.logged)) (any_answered b e.filled)
    ∙ any_logged n m e.sent e.logged logged

poll_either : (xs ys : List ReceptionShape) → has_poll (xs ++ ys) ≡ (has_poll xs || has_poll ys)
poll_either [] ys = refl
poll_either (Poll ∷ xs) ys = refl
poll_either (From n ∷ xs) ys = poll_either xs ys

-- What a run tells

abbrev stepped : Name → Activity → Effect → List NoteShape
stepped m a e = notes_of m a (Acts e)

came_noted : (n m : Name) (k : ℕ) (es : List EventShape) → came_to n (map (noted_as m k) es) ≡ came_of n m es
came_noted n m k es = flat_map-map (came_in n) (noted_as m k) es

asked_noted : (n m : Name) (k : ℕ) (es : List EventShape) → asked_by n (map (noted_as m k) es) ≡ flat_map (λ x. cond (same_name n m) (asked_as x) []) es
asked_noted n m k es = flat_map-map (asked_in n) (noted_as m k) es

polled_noted : (n m : Name) (k : ℕ) (es : List EventShape) → has_polled n (map (noted_as m k) es) ≡ any_poll (same_name n m) es
polled_noted n m k [] = refl
polled_noted n m k (x ∷ es) = ap (λ t. (same_name n m && is_poll x) || t) (polled_noted n m k es)

-- what came and who polled is as the notes tell
record Tells (c : Configuration) (xs : List NoteShape) : Type 0 where
  came : (n : Name) → came_to n xs ≡ map arrival_of (requests_of c n)
  polled : (n : Name) → has_polled n xs ≡ has_poll (log_of c n)

sender_of : (m : Name) (c : Configuration) (e : Effect) → IsSent m (at_name c m) (face_of e.own) e.sent → (z : Name × RequestShape) → e.sent ≡ Some z → z.1.sender ≡ m
sender_of m c e s z is = by e.sent s is
  where
    by : (o : Option (Name × RequestShape)) → IsSent m (at_name c m) (face_of e.own) o → o ≡ Some z → z.1.sender ≡ m
    by None s is = no_some is
    by (Some y) s is = ap (λ o. elim o [ None ↦ m | Some w ↦ w.1.sender ]) (sym is) ∙ s.2

tells_step : (c : Configuration) (m : Name) (a : Activity) (e : Effect) (xs : List NoteShape) → Took c m e → Tells c xs → Tells (with_effect m e c) (xs ++ stepped m a e)
tells_step c m a e xs t h = record {
  came = λ n.
      flat_map-append (came_in n) xs (stepped m a e)
      ∙ (λ i. h.came n i ++ (came_noted n m a.reductions (told_by a e) ∙ came_step n m a e (sender_of m c e t.facts.sent)) i)
      ∙ sym (map-append arrival_of (requests_of c n) (there n e.sent))
      ∙ ap (map arrival_of) (sym (boxed n e.sent c.received));
  polled = λ n.
      list_any-append (polled_in n) xs (stepped m a e)
      ∙ (λ i. h.polled n i || (polled_noted n m a.reductions (told_by a e) ∙ polled_step n m a e t.facts.logged) i)
      ∙ sym (poll_either (log_of c n) (there n e.logged))
      ∙ ap has_poll (sym (boxed n e.logged c.logs));
}

tells_start : (program : Tree) → Tells (start program) []
tells_start program = record { came = λ n. refl; polled = λ n. refl }

-- The labels of services

pub one_only : {X : Type 0} (x y : X) → Contains (x ∷ []) y → x ≡ y
one_only x y (zero, lt, e) = e
one_only x y (suc k, lt, e) = absurd (omega (arith, lt))

pub one_there : {X : Type 0} (x : X) → Contains (x ∷ []) x
one_there x = (0, omega arith, refl)

pub none_there : {X : Type 0} (y : X) → Contains [] y → ⊥
none_there y (k, lt, e) = omega (arith, lt)

asked_at : (n m : Name) (a : Activity) (e : Effect) → asked_by n (stepped m a e) ≡ cond (same_name n m) (flat_map asked_as (served_by (labels_wanted a))) []
asked_at n m a e = asked_noted n m a.reductions (told_by a e) ∙ asked_step (same_name n m) a e

-- a step asks for what its activity wants, and nothing else
asked_sound : (n m : Name) (a : Activity) (e : Effect) (ls : List Text) → Contains (asked_by n (stepped m a e)) ls → (n ≡ m) × (labels_wanted a ≡ ls) × (ls ≢ [])
asked_sound n m a e ls h = by (same_name n m) refl (subst (λ l. Contains l ls) (asked_at n m a e) h)
  where
    wants : (ws : List Text) → Contains (flat_map asked_as (served_by ws)) ls → (ws ≡ ls) × (ls ≢ [])
    wants [] h = absurd (none_there ls h)
    wants (w ∷ ws) h = let same = one_only (w ∷ ws) ls h in (same, λ none. let no : w ∷ ws ≡ [] = same ∙ none in absurd cc)

    by : (b : Bool) → same_name n m ≡ b → Contains (cond b (flat_map asked_as (served_by (labels_wanted a))) []) ls → (n ≡ m) × (labels_wanted a ≡ ls) × (ls ≢ [])
    by true e h = let w = wants (labels_wanted a) h in (names_tied n m e, w.0, w.1)
    by false e h = absurd (none_there ls h)

asked_whole : (m : Name) (a : Activity) (e : Effect) → labels_wanted a ≢ [] → Contains (asked_by m (stepped m a e)) (labels_wanted a)
asked_whole m a e some = subst (λ l. Contains l (labels_wanted a)) (sym (asked_at m m a e ∙ ap (λ b. cond b (flat_map asked_as (served_by (labels_wanted a))) []) (name_itself m))) (by (labels_wanted a) some)
  where
    by : (ws : List Text) → ws ≢ [] → Contains (flat_map asked_as (served_by ws)) ws
    by [] some = absurd (some refl)
    by (w ∷ ws) some = one_there (w ∷ ws)

-- Where an activity stands at a `serve`

wanted_head : (h : Head) (c : CellShape) → labels_of_head h c ≢ [] → set_of_head h c ≡ Some (labels_of_head h c)
wanted_head (Serve labels) c some = refl
wanted_head h c some = absurd (some refl)

wanted_split : (t : Split) (c : CellShape) → labels_at t c ≢ [] → set_by t c ≡ Some (labels_at t c)
wanted_split (Stands place) c some = absurd (some refl)
wanted_split (Splits contexts redex) c some = wanted_head redex.head c some

wanted_set : (a : Activity) → labels_wanted a ≢ [] → set_at a ≡ Some (labels_wanted a)
wanted_set a some = wanted_split (split a.term) (cell a.store a.active) some

set_head : (h : Head) (c : CellShape) (ls : List Text) → set_of_head h c ≡ Some ls → labels_of_head h c ≡ ls
set_head (Serve labels) c ls e = some_is e
set_head h c ls e = no_some e

set_split : (t : Split) (c : CellShape) (ls : List Text) → set_by t c ≡ Some ls → labels_at t c ≡ ls
set_split (Stands place) c ls e = no_some e
set_split (Splits contexts redex) c ls e = set_head redex.head c ls e

set_wanted : (a : Activity) (ls : List Text) → set_at a ≡ Some ls → labels_wanted a ≡ ls
set_wanted a ls e = set_split (split a.term) (cell a.store a.active) ls e

is_some_of : (a : Activity) (ls : List Text) → labels_wanted a ≡ ls → ls ≢ [] → set_at a ≡ Some ls
is_some_of a ls e some = wanted_set a (λ none. some (sym e ∙ none)) ∙ ap Some e

-- The steps of a replay

-- what the notes of k steps tell
record Noted (program : Tree) (lists : ListsShape) (counts : CountsShape) (k : ℕ) : Type 0 where
  tells : Tells (replayed_to program lists counts k) (notes_from k (Some lists) (count_in counts) (start program))
  stood : (n : Name) (ls : List Text) → Contains (asked_by n (notes_from k (Some lists) (count_in counts) (start program))) ls → StoodAt program lists counts n ls
  whole : (j : ℕ) (n : Name) (a : Activity) → j ≤ k → IsAt (replayed_to program lists counts j) n a → labels_wanted a ≢ []
      → Contains (asked_by n (notes_from k (Some lists) (count_in counts) (start program))) (labels_wanted a) ⊎ IsAt (replayed_to program lists counts k) n a

at_last : (j k : ℕ) → j ≤ suc k → (j ≤ k) ⊎ (j ≡ suc k)
at_last j k le = elim (nat_le j k) as (λ b. nat_le j k ≡ b → (j ≤ k) ⊎ (j ≡ suc k)) [
  | true ↦ λ e. inl (leb-true j k e)
  | false ↦ λ e. inr (let more = leb-false j k e in omega (arith, le, more))
] refl

module _ (program : Tree) (lists : ListsShape) (counts : CountsShape) where
  abbrev R : ℕ → Configuration
  R = replayed_to program lists counts

  abbrev N : ℕ → List NoteShape
  N k = notes_from k (Some lists) (count_in counts) (start program)

  abbrev next : ℕ → Option Configuration
  next k = next_by (Some lists) (count_in counts) (R k)

  then_run : (k : ℕ) (o : Option Configuration) → next k ≡ o → R (suc k) ≡ one_more o (R k)
  then_run k o e = more_steps (Some lists) (count_in counts) k (start program) ∙ ap (λ o. one_more o (R k)) e

  then_notes : (k : ℕ) (o : Option Configuration) → next k ≡ o → N (suc k) ≡ N k ++ last_notes (Some lists) (count_in counts) o (R k)
  then_notes k o e = more_notes (Some lists) (count_in counts) k (start program) ∙ ap (λ o. N k ++ last_notes (Some lists) (count_in counts) o (R k)) e

  rests_on : (k : ℕ) → Noted program lists counts k → next k ≡ None → Noted program lists counts (suc k)
  rests_on k h e =
      let same : R (suc k) ≡ R k = then_run k None e in
      let notes : N (suc k) ≡ N k = then_notes k None e ∙ append-nil (N k) in
      record {
        tells = subst (λ c. Tells c (N (suc k))) (sym same) (subst (Tells (R k)) (sym notes) h.tells);
        stood = λ n ls c. h.stood n ls (subst (λ xs. Contains (asked_by n xs) ls) notes c);
        whole = λ j n a le at some. ⊎_elim
            (λ before. ⊎_elim
            (λ c. inl (subst (λ xs. Contains (asked_by n xs) (labels_wanted a)) (sym notes) c))
            (λ is. inr (subst (λ c. IsAt c n a) (sym same) is))
            (h.whole j n a before at some))
            (λ last. inr (subst (λ i. IsAt (R i) n a) last at))
            (at_last j k le);
      }

  steps_on : (k : ℕ) (d : Configuration) → Noted program lists counts k → next k ≡ Some d → Noted program lists counts (suc k)
  steps_on k d h e =
      let x = least_noted (Some lists) (count_in counts) (R k) d (R k).activities e in
      let m : Name = x.0.0 in
      let a : Activity = x.0.1 in
      let right = right_at R (replay_run program lists counts) k in
      let is : IsAt (R k) m a = entry_found (R k).activities x.0 right.sound.ordered.activities x.1 in
      let s = step_taken (Some lists) (R k) m d x.2 in
      let t = took (Some lists) (R k) m s.0 right.sound s.1 in
      let to : R (suc k) ≡ d = then_run k (Some d) e in
      let notes : N (suc k) ≡ N k ++ stepped m a s.0 = then_notes k (Some d) e ∙ ap (λ l. N k ++ l) (x.3 ∙ ap (notes_of m a) s.1.intends) in
      let both : (n : Name) → asked_by n (N (suc k)) ≡ asked_by n (N k) ++ asked_by n (stepped m a s.0) = λ n. ap (asked_by n) notes ∙ flat_map-append (asked_in n) (N k) (stepped m a s.0) in
      record {
        tells = subst (λ c. Tells c (N (suc k))) (s.2 ∙ sym to) (subst (Tells (with_effect m s.0 (R k))) (sym notes) (tells_step (R k) m a s.0 (N k) t h.tells));
        stood = λ n ls c. ⊎_elim
            (λ before. h.stood n ls before)
            (λ now.
            let w = asked_sound n m a s.0 ls now in
            (k, a, subst (λ q. IsAt (R k) q a) (sym w.0) is, is_some_of a ls w.1 w.2))
            (Contains-append_cases (asked_by n (N k)) (asked_by n (stepped m a s.0)) ls (subst (λ l. Contains l ls) (both n) c));
        whole = λ j n b le at some. ⊎_elim
            (λ before. ⊎_elim
            (λ c. inl (subst (λ l. Contains l (labels_wanted b)) (sym (both n)) (Contains-append_left (asked_by n (N k)) (asked_by n (stepped m a s.0)) (labels_wanted b) c)))
            (λ stands. ⊎_elim
            (λ same.
            let one : b ≡ a = some_is (sym stands ∙ ap (λ q. find name_cmp q (R k).activities) same ∙ is) in
            let asks : Contains (asked_by n (stepped m a s.0)) (labels_wanted b) =
            subst (λ q. Contains (asked_by q (stepped m a s.0)) (labels_wanted b)) (sym same)
            (subst (λ z. Contains (asked_by m (stepped m a s.0)) (labels_wanted z)) (sym one) (asked_whole m a s.0 (subst (λ z. labels_wanted z ≢ []) one some))) in
            inl (subst (λ l. Contains l (labels_wanted b)) (sym (both n)) (Contains-append_right (asked_by n (N k)) (asked_by n (stepped m a s.0)) (labels_wanted b) asks)))
            (λ apart. inr (subst (λ c. IsAt c n b) (sym to) (others_on (Some lists) (R k) d m n b right.sound x.2 apart stands)))
            (name_case n m))
            (h.whole j n b before at some))
            (λ last. inr (subst (λ i. IsAt (R i) n b) last at))
            (at_last j k le);
      }

  noted_on : (k : ℕ) → Noted program lists counts k → (o : Option Configuration) → next k ≡ o → Noted program lists counts (suc k)
  noted_on k h None e = rests_on k h e
  noted_on k h (Some d) e = steps_on k d h e

  noted : (k : ℕ) → Noted program lists counts k
  noted zero = record {
    tells = tells_start program;
    stood = λ n ls c. absurd (none_there ls c);
    whole = λ j n a le at some. inr (subst (λ i. IsAt (R i) n a) (let none : j ≡ 0 = omega (arith, le) in none) at);
  }
  noted (suc k) = noted_on k (noted k) (next k) refl

-- The end of a replay

none_below : (c : Configuration) (count : Name → ℕ) (lists : Option ListsShape) (xs : List (Name × Activity)) → ((x : Name × Activity) → In x xs → nat_lt x.1.reductions (count x.0) ≡ false) → least_step lists count c xs ≡ None
none_below c count lists [] h = refl
none_below c count lists (x ∷ xs) h =
    ap (λ b. elim b [ false ↦ least_step lists count c xs | true ↦ elim (step lists c x.0) [ None ↦ least_step lists count c xs | Some d ↦ Some d ] ]) (h x (inl refl))
    ∙ none_below c count lists xs (λ y i. h y (inr i))

module _ (program : Tree) (lists : ListsShape) (counts : CountsShape) (fits : Fits program lists counts) where
  abbrev end : Configuration
  end = replay program lists counts

  over : next_by (Some lists) (count_in counts) end ≡ None
  over = none_below end (count_in counts) (Some lists) end.activities (λ x i.
      let right = right_at (replayed_to program lists counts) (replay_run program lists counts) (total counts) in
      let at : IsAt end x.0 x.1 = entry_found end.activities x right.sound.ordered.activities i in
      let count : count_in counts x.0 ≡ x.1.reductions = ap (λ k. count_in k x.0) (sym fits.reached) ∙ count_own end x.0 ∙ ap (λ o. (face o).reductions) at in
      ltb-refl_false x.1.reductions (count_in counts x.0) count)
    where
      ltb-refl_false : (n k : ℕ) → k ≡ n → nat_lt n k ≡ false
      ltb-refl_false n k e = elim (nat_lt n k) as (λ b. nat_lt n k ≡ b → b ≡ false) [ true ↦ λ p. let less = ltb-true n k p in absurd (omega (arith, e, less)) | false ↦ λ p. refl ] refl

  stays : (j : ℕ) → replayed_to program lists counts (j + total counts) ≡ end
  stays zero = let none : 0 + total counts ≡ total counts = omega arith in ap (replayed_to program lists counts) none
  stays (suc j) =
      let before = stays j in
      let one : suc j + total counts ≡ suc (j + total counts) = omega arith in
      ap (replayed_to program lists counts) one
      ∙ then_run program lists counts (j + total counts) None (ap (next_by (Some lists) (count_in counts)) before ∙ over) ∙ before

  -- an activity at some step is there at one before the end, or at it
  in_time : (k : ℕ) (n : Name) (a : Activity) → IsAt (replayed_to program lists counts k) n a → (j : ℕ) × (j ≤ total counts) × IsAt (replayed_to program lists counts j) n a
  in_time k n a at = elim (nat_le k (total counts)) as (λ b. nat_le k (total counts) ≡ b → (j : ℕ) × (j ≤ total counts) × IsAt (replayed_to program lists counts j) n a) [
    | true ↦ λ e. (k, leb-true k (total counts) e, at)
    | false ↦ λ e.
        let more = leb-false k (total counts) e in
        let sum : k ≡ (k - total counts) + total counts = omega (arith, more) in
        (total counts, omega arith, subst (λ c. IsAt c n a) (ap (replayed_to program lists counts) sum ∙ stays (k - total counts)) at)
  ] refl

-- What is told of where activities stand at the end

contains_cases : {X : Type 0} (z : X) (zs : List X) (y : X) → Contains (z ∷ zs) y → (z ≡ y) ⊎ Contains zs y
contains_cases z zs y (zero, lt, e) = inl e
contains_cases z zs y (suc k, lt, e) = inr (k, omega (arith, lt), e)

contains_first : {X : Type 0} (z : X) (zs : List X) → Contains (z ∷ zs) z
contains_first z zs = (0, omega arith, refl)

contains_later : {X : Type 0} (z : X) (zs : List X) (y : X) → Contains zs y → Contains (z ∷ zs) y
contains_later z zs y (k, lt, e) = (suc k, omega (arith, lt), e)

asked_among : (n : Name) (ys : List NoteShape) (y : NoteShape) (ls : List Text) → Contains ys y → Contains (asked_in n y) ls → Contains (asked_by n ys) ls
asked_among n [] y ls c h = absurd (none_there y c)
asked_among n (z ∷ zs) y ls c h = ⊎_elim
    (λ e. Contains-append_left (asked_in n z) (asked_by n zs) ls (subst (λ w. Contains (asked_in n w) ls) (sym e) h))
    (λ i. Contains-append_right (asked_in n z) (asked_by n zs) ls (asked_among n zs y ls i h))
    (contains_cases z zs y c)

who_asked : (n : Name) (ys : List NoteShape) (ls : List Text) → Contains (asked_by n ys) ls → (y : NoteShape) × Contains ys y × Contains (asked_in n y) ls
who_asked n [] ls c = absurd (none_there ls c)
who_asked n (z ∷ zs) ls c = ⊎_elim
    (λ h. (z, contains_first z zs, h))
    (λ i. let w = who_asked n zs ls i in (w.0, contains_later z zs w.0 w.1, w.2))
    (Contains-append_cases (asked_in n z) (asked_by n zs) ls c)

none_came : (n : Name) (ys : List NoteShape) → ((y : NoteShape) → Contains ys y → came_in n y ≡ []) → came_to n ys ≡ []
none_came n [] h = refl
none_came n (z ∷ zs) h = (λ i. h z (contains_first z zs) i ++ none_came n zs (λ y c. h y (contains_later z zs y c)) i)

none_polled : (n : Name) (ys : List NoteShape) → ((y : NoteShape) → Contains ys y → polled_in n y ≡ false) → has_polled n ys ≡ false
none_polled n [] h = refl
none_polled n (z ∷ zs) h = (λ i. h z (contains_first z zs) i || none_polled n zs (λ y c. h y (contains_later z zs y c)) i)

standing_polls : (n m : Name) (a : Activity) → polled_in n (standing m a) ≡ false
standing_polls n m a = by (same_name n m)
  where
    by : (b : Bool) → (b && false) ≡ false
    by true = refl
    by false = refl

standing_asks : (n m : Name) (a : Activity) (ls : List Text) → Contains (asked_in n (standing m a)) ls → (n ≡ m) × (labels_wanted a ≡ ls)
standing_asks n m a ls c = by (same_name n m) refl c
  where
    by : (b : Bool) → same_name n m ≡ b → Contains (cond b (labels_wanted a ∷ []) []) ls → (n ≡ m) × (labels_wanted a ≡ ls)
    by true e c = (names_tied n m e, one_only (labels_wanted a) ls c)
    by false e c = absurd (none_there ls c)

asks_own : (n : Name) (a : Activity) → Contains (asked_in n (standing n a)) (labels_wanted a)
asks_own n a = subst (λ b. Contains (cond b (labels_wanted a ∷ []) []) (labels_wanted a)) (sym (name_itself n)) (one_there (labels_wanted a))

-- a note that tells of no request and no poll, and only of labels that an activity asks for where it stands
record TellsPlace (c : Configuration) (y : NoteShape) : Type 0 where
  came : (n : Name) → came_in n y ≡ []
  polls : (n : Name) → polled_in n y ≡ false
  asks : (n : Name) (ls : List Text) → Contains (asked_in n y) ls → (a : Activity) × IsAt c n a × (labels_wanted a ≡ ls)

-- each of these notes does so, and where labels are asked for that is noted
record AreStanding (c : Configuration) (ys : List NoteShape) : Type 0 where
  sound : (y : NoteShape) → Contains ys y → TellsPlace c y
  whole : (n : Name) (a : Activity) → IsAt c n a → labels_wanted a ≢ [] → Contains ys (standing n a)

module _ (c : Configuration) where
  of_standing : (m : Name) (a : Activity) → IsAt c m a → TellsPlace c (standing m a)
  of_standing m a at = record {
    came = λ n. refl;
    polls = λ n. standing_polls n m a;
    asks = λ n ls h. let own = standing_asks n m a ls h in (a, subst (λ q. IsAt c q a) (sym own.0) at, own.1);
  }

  of_fault : (m : Name) (k : ℕ) (f : FaultShape) → TellsPlace c (noted_as m k (Faulted f))
  of_fault m k f = record {
    came = λ n. refl;
    polls = λ n. not_if (same_name n m);
    asks = λ n ls h. absurd (no_asks (same_name n m) ls h);
  }
    where
      not_if : (b : Bool) → (b && false) ≡ false
      not_if true = refl
      not_if false = refl

      no_asks : (b : Bool) (ls : List Text) → Contains (cond b [] []) ls → ⊥
      no_asks true ls h = none_there ls h
      no_asks false ls h = none_there ls h

  by_labels : (n : Name) (a : Activity) (ws : List Text) (y : NoteShape) → IsAt c n a → Contains (places_by n a ws) y → TellsPlace c y
  by_labels n a [] y at h = absurd (none_there y h)
  by_labels n a (w ∷ ws) y at h = subst (TellsPlace c) (one_only (standing n a) y h) (of_standing n a at)

  by_status : (n : Name) (a : Activity) (s : StatusShape) (y : NoteShape) → Contains (faulted_by n a s) y → TellsPlace c y
  by_status n a (intents.Faulted f) y h = subst (TellsPlace c) (one_only (noted_as n a.reductions (Faulted f)) y h) (of_fault n a.reductions f)
  by_status n a intents.Done y h = absurd (none_there y h)
  by_status n a intents.Serving y h = absurd (none_there y h)
  by_status n a intents.Running y h = absurd (none_there y h)
  by_status n a (intents.Awaits f) y h = absurd (none_there y h)

  by_place : (n : Name) (o : Option Activity) (y : NoteShape) → find name_cmp n c.activities ≡ o → Contains (elim o [ None ↦ [] | Some a ↦ places_by n a (labels_wanted a) ++ faulted_by n a (status_of c n) ]) y → TellsPlace c y
  by_place n None y at h = absurd (none_there y h)
  by_place n (Some a) y at h = ⊎_elim (λ p. by_labels n a (labels_wanted a) y at p) (λ f. by_status n a (status_of c n) y f) (Contains-append_cases (places_by n a (labels_wanted a)) (faulted_by n a (status_of c n)) y h)

  places_sound : (ns : List Name) (y : NoteShape) → Contains (places_in c ns) y → TellsPlace c y
  places_sound [] y h = absurd (none_there y h)
  places_sound (n ∷ ns) y h = ⊎_elim (λ here. by_place n (find name_cmp n c.activities) y refl here) (λ later. places_sound ns y later) (Contains-append_cases (place_of c n) (places_in c ns) y h)

  asks_there : (n : Name) (a : Activity) (ws : List Text) → ws ≢ [] → Contains (places_by n a ws) (standing n a)
  asks_there n a [] some = absurd (some refl)
  asks_there n a (w ∷ ws) some = one_there (standing n a)

  place_there : (n : Name) (a : Activity) → IsAt c n a → labels_wanted a ≢ [] → Contains (place_of c n) (standing n a)
  place_there n a at some = subst (λ (o : Option Activity). Contains (elim o [ None ↦ [] | Some b ↦ places_by n b (labels_wanted b) ++ faulted_by n b (status_of c n) ]) (standing n a)) (sym at)
      (Contains-append_left (places_by n a (labels_wanted a)) (faulted_by n a (status_of c n)) (standing n a) (asks_there n a (labels_wanted a) some))

  places_whole : (ns : List Name) (k : ℕ) (n : Name) (a : Activity) → slice_get ns k ≡ Some n → IsAt c n a → labels_wanted a ≢ [] → Contains (places_in c ns) (standing n a)
  places_whole [] k n a h at some = no_some h
  places_whole (m ∷ ns) zero n a h at some = Contains-append_left (place_of c m) (places_in c ns) (standing n a) (subst (λ q. Contains (place_of c q) (standing n a)) (sym (some_is h)) (place_there n a at some))
  places_whole (m ∷ ns) (suc k) n a h at some = Contains-append_right (place_of c m) (places_in c ns) (standing n a) (places_whole ns k n a h at some)

  places_stand : (ns : List Name) → HasNames c ns → AreStanding c (places_in c ns)
  places_stand ns has = record {
    sound = places_sound ns;
    whole = λ n a at some. let k = has n (ap is_some at) in places_whole ns k.0 n a k.1 at some;
  }

module _ (program : Tree) (lists : ListsShape) (counts : CountsShape) (ys : List NoteShape) (fits : Fits program lists counts) (st : AreStanding (replay program lists counts) ys) where
  abbrev c : Configuration
  c = replay program lists counts

  abbrev xs : List NoteShape
  xs = notes_from (total counts) (Some lists) (count_in counts) (start program)

  abbrev all : Noted program lists counts (total counts)
  all = noted program lists counts (total counts)

  at_end : (n : Name) (ls : List Text) (a : Activity) → IsAt c n a → labels_wanted a ≡ ls → (ls ≡ []) ⊎ StoodAt program lists counts n ls
  at_end n [] a at e = inl refl
  at_end n (l ∷ ls) a at e = inr (total counts, a, at, is_some_of a (l ∷ ls) e (λ no. cc))

  there_by : (n : Name) (a : Activity) → labels_wanted a ≢ [] → Contains (asked_by n xs) (labels_wanted a) ⊎ IsAt c n a → Contains (asked_by n (xs ++ ys)) (labels_wanted a)
  there_by n a some (inl before) = subst (λ l. Contains l (labels_wanted a)) (sym (flat_map-append (asked_in n) xs ys)) (Contains-append_left (asked_by n xs) (asked_by n ys) (labels_wanted a) before)
  there_by n a some (inr at) = subst (λ l. Contains l (labels_wanted a)) (sym (flat_map-append (asked_in n) xs ys))
      (Contains-append_right (asked_by n xs) (asked_by n ys) (labels_wanted a) (asked_among n ys (standing n a) (labels_wanted a) (st.whole n a at some) (asks_own n a)))

  kept : (n : Name) (ls : List Text) → StoodAt program lists counts n ls → (ls ≡ []) ⊎ Contains (asked_by n (xs ++ ys)) ls
  kept n [] h = inl refl
  kept n (l ∷ ls) h =
      let a : Activity = h.1 in
      let wants : labels_wanted a ≡ l ∷ ls = set_wanted a (l ∷ ls) h.3 in
      let some : labels_wanted a ≢ [] = λ none. let no : l ∷ ls ≡ [] = sym wants ∙ none in absurd cc in
      let early = in_time program lists counts fits h.0 n a h.2 in
      inr (subst (Contains (asked_by n (xs ++ ys))) wants (there_by n a some (all.whole early.0 n a early.1 early.2 some)))

  told : TellsServices program lists counts (notes_from (total counts) (Some lists) (count_in counts) (start program) ++ ys)
  told = record {
    came = λ n.
        flat_map-append (came_in n) xs ys
        ∙ (λ i. all.tells.came n i ++ none_came n ys (λ y c. (st.sound y c).came n) i)
        ∙ append-nil (map arrival_of (requests_of c n));
    polled = λ n.
        list_any-append (polled_in n) xs ys
        ∙ (λ i. all.tells.polled n i || none_polled n ys (λ y c. (st.sound y c).polls n) i)
        ∙ or_no (has_poll (log_of c n));
    stood = λ n ls h. ⊎_elim
        (λ before. inr (all.stood n ls before))
        (λ after.
        let w = who_asked n ys ls after in
        let s = (st.sound w.0 w.1).asks n ls w.2 in
        at_end n ls s.0 s.1 s.2)
        (Contains-append_cases (asked_by n xs) (asked_by n ys) ls (subst (λ l. Contains l ls) (flat_map-append (asked_in n) xs ys) h));
    sets = λ n ls h. kept n ls h;
  }

pub notes_tell : NotesTell
notes_tell program lists counts ns fits has =
    let c = replay program lists counts in
    told program lists counts (places_in c ns) fits (places_stand c ns has)
