-- What a listener keeps is what it was told.
use Rattle.std.specs.Prelude.{◌≡◌, ◌&&◌, ◌||◌, ℕ, Bool, true, false, cond, List, [], ◌∷◌, ◌++◌, Some, None, slice_get}
use Rattle.indexmap.specs.IndexMap.{IndexMap, IsUnique, Updates, get, get_key_by, values, with_value_at}
use Rattle.indexmap.proofs.CallerLemmas.{updates-with_value_at}
use Rattle.std.specs.Map.{lookup_key}
use Rattle.std.specs.Option.{option_map}
use Rattle.std.specs.Cmp.{eq_by_cmp_equiv}
use Rattle.std.specs.Cmp.Lexicographic.{nat_list_cmp_total}
use Rattle.std.proofs.lemmas.Option.{slice_get-map}
use Rattle.std.specs.List.{Contains}
use Rattle.std.proofs.Common.{Bor, ◌<◌, ◌+◌, get_or, length, take, refl, sym, ap, subst, ◌∙◌, inl, inr, ⊎_elim, ◌⊎◌}
use Rattle.std.proofs.lemmas.List.{append-nil, take_more}
use Rattle.std.proofs.lemmas.List.Elements.{Contains-append_left, Contains-append_right, Contains-append_cases}
use Rattle.std.proofs.lemmas.List.Folds.{list_any-append}
use Rattle.std.proofs.lemmas.Grind.{flat_map-append}
use Rattle.asp_model.specs.declared.name.FutureName.{FutureName}
use Rattle.asp_model.specs.declared.outcome.Fault.{Fault}
use Rattle.asp_model.specs.declared.outcome.Line.{Line}
use Rattle.asp_model.specs.Names.{FutureShape, Name, Text, same_name}
use Rattle.asp_model.specs.declared.word.Label.{Label}
use Rattle.law_steps.proofs.NameLemmas.{name_case, name_itself, names_apart, names_tied}
use Rattle.serve_rules.specs.Labels.{HaveSame}
use Rattle.serve_rules.specs.Wanted.{wanted_labels}
use Rattle.serve_rules.specs.declared.wanted.Wanted.{Wanted}
use Rattle.replay_parts.specs.Notes.{EventShape, NoteShape, Served, Made, Sent, Answered, Polled, Printed, Standing, Faulted}
use Rattle.replay_parts.specs.declared.notes.Event.TheVariants as event
use Rattle.replay_parts.specs.declared.notes.Note.{Note}
use Rattle.replay_parts.specs.Listening.{IsDeafToLines, IsEvent, IsNote}
use Rattle.replay_services.specs.Heard.{came_as, asked_as, is_poll, came_in, asked_in, polled_in, came_to, asked_by, has_polled}
use Rattle.replay_services.specs.declared.heard.Heard.{Heard}
use Rattle.replay_services.specs.declared.listener.Listener.{Listener}
use Rattle.replay_services.specs.Listeners.{ChangesAt, HeardShape, IsHeard, IsKeptAt, IsWithSet, arrived, heard_shape, kept_at, kept_in, nothing, shape_or_nothing, with_arrival, with_poll}
use Rattle.replay_services.proofs.HeardLemmas.{one_only, one_there, none_there}

-- What the map lends

name_turned : (n m : Name) → same_name n m ≡ false → same_name m n ≡ false
name_turned n m e = ⊎_elim
    (λ same. let no : true ≡ false = sym (name_itself m) ∙ ap (λ k. same_name k m) same ∙ e in absurd cc)
    (λ apart. names_apart m n apart)
    (name_case m n)

-- an entry that is new has nothing, as before
pub known_same : {S : Type 0} (k : Name) (old new : IndexMap Name Heard S) (h : Heard) → get same_name old k ≡ None → heard_shape h ≡ nothing
    → ((n : Name) → get same_name new n ≡ cond (same_name k n) (Some h) (get same_name old n)) → (n : Name) → kept_in new n ≡ kept_in old n
known_same k old new h none empty updates n = by (same_name k n) refl
  where
    by : (b : Bool) → same_name k n ≡ b → kept_in new n ≡ kept_in old n
    by true e = ap shape_or_nothing (updates n ∙ ap (λ b. cond b (Some h) (get same_name old n)) e) ∙ empty ∙ ap shape_or_nothing (sym none ∙ ap (get same_name old) (names_tied k n e))
    by false e = ap shape_or_nothing (updates n ∙ ap (λ b. cond b (Some h) (get same_name old n)) e)

-- lists that are alike so far, with one more in common
pub one_more_alike : (xs ys : List ℕ) (i : ℕ) → i < length xs → i < length ys → get_or xs i 0 ≡ get_or ys i 0 → take i xs ≡ take i ys → take (i + 1) xs ≡ take (i + 1) ys
one_more_alike xs ys i lx ly e h = take_more xs i 0 lx ∙ (λ j. h j ++ e j ∷ []) ∙ sym (take_more ys i 0 ly)

-- the key that is found is the name
pub key_found : {S : Type 0} (n k : Name) (m : IndexMap Name Heard S) → get_key_by (same_name n) m ≡ Some k → k ≡ n
key_found n k m e = among m.entries e
  where
    among : (es : List (Name × Heard)) → lookup_key (same_name n) es ≡ Some k → k ≡ n
    among [] e = absurd cc
    among (x ∷ es) e = elim (same_name n x.0) as (λ b. same_name n x.0 ≡ b → cond b (Some x.0) (lookup_key (same_name n) es) ≡ Some k → k ≡ n) [
      | true ↦ λ same at. let here : x.0 ≡ k = cc in sym here ∙ sym (names_tied n x.0 same)
      | false ↦ λ other at. among es at
    ] refl e

-- what was written at a place is a change of one activity
pub written : (m : Name) (k : ℕ) (Change : HeardShape → HeardShape → Type 0) (first old last : Listener) (was now : Heard)
    → ((n : Name) → kept_at old n ≡ kept_at first n) → IsKeptAt old m k → IsUnique same_name old.heard → Some was ≡ slice_get (values old.heard) k
    → last.heard ≡ with_value_at old.heard k now → Change (heard_shape was) (heard_shape now) → ChangesAt m Change first last
written m k Change first old last was now same at unique found writes change =
    let updates : Updates same_name old.heard (with_value_at old.heard k now) m (Some now) = updates-with_value_at old.heard k now (eq_by_cmp_equiv nat_list_cmp_total) unique m at.0 at.1 in
    let value : slice_get (values old.heard) k ≡ Some at.0 = slice_get-map (λ (x : Name × Heard). x.1) old.heard.entries k ∙ ap (option_map (λ (x : Name × Heard). x.1)) at.1 in
    let kept : Some was ≡ get same_name old.heard m = found ∙ value ∙ sym at.2 in
    let after : (n : Name) → kept_at last n ≡ shape_or_nothing (cond (same_name m n) (Some now) (get same_name old.heard n)) = λ n. ap (λ x. kept_in x n) writes ∙ ap shape_or_nothing (updates.0 n) in
    let here : kept_at last m ≡ heard_shape now = after m ∙ ap (λ b. shape_or_nothing (cond b (Some now) (get same_name old.heard m))) (name_itself m) in
    let before : heard_shape was ≡ kept_at first m = ap shape_or_nothing kept ∙ same m in (
      subst (λ h. Change h (kept_at last m)) before (subst (Change (heard_shape was)) (sym here) change),
      λ n apart. after n ∙ ap (λ b. shape_or_nothing (cond b (Some now) (get same_name old.heard n))) (name_turned n m apart) ∙ same n,
    )

-- One note more

abbrev pub Tells : Listener → List NoteShape → Type 0
Tells l xs = (n : Name) → IsHeard n xs (kept_at l n)

record SetsWith (asked old new : List (List Text)) : Type 0 where
  more : (ls : List Text) → Contains old ls → Contains new ls
  there : (os : List Text) → Contains asked os → (ls : List Text) × Contains new ls × HaveSame ls os
  only : (ls : List Text) → Contains new ls → Contains old ls ⊎ ((os : List Text) × Contains asked os × HaveSame ls os)

or_false : (b : Bool) → (b || false) ≡ b
or_false true = refl
or_false false = refl

or_true : (b : Bool) → (b || true) ≡ true
or_true true = refl
or_true false = refl

heard_more : (n : Name) (xs : List NoteShape) (x : NoteShape) (h g : HeardShape) → IsHeard n xs h → g.arrivals ≡ h.arrivals ++ came_in n x → g.polled ≡ (h.polled || polled_in n x) → SetsWith (asked_in n x) h.sets g.sets → IsHeard n (xs ++ x ∷ []) g
heard_more n xs x h g told came polled s =
    let both : asked_by n (xs ++ x ∷ []) ≡ asked_by n xs ++ asked_in n x = flat_map-append (asked_in n) xs (x ∷ []) ∙ ap (λ l. asked_by n xs ++ l) (append-nil (asked_in n x)) in
    record {
      arrivals = came ∙ ap (λ l. l ++ came_in n x) told.arrivals ∙ sym (flat_map-append (came_in n) xs (x ∷ []) ∙ ap (λ l. came_to n xs ++ l) (append-nil (came_in n x)));
      polled = polled ∙ ap (λ b. b || polled_in n x) told.polled ∙ sym (list_any-append (polled_in n) xs (x ∷ []) ∙ ap (λ b. has_polled n xs || b) (or_false (polled_in n x)));
      only = λ ls c. ⊎_elim
          (λ before. let o = told.only ls before in (o.0, subst (λ l. Contains l o.0) (sym both) (Contains-append_left (asked_by n xs) (asked_in n x) o.0 o.1), o.2))
          (λ now. (now.0, subst (λ l. Contains l now.0) (sym both) (Contains-append_right (asked_by n xs) (asked_in n x) now.0 now.1), now.2))
          (s.only ls c);
      sets = λ os c. ⊎_elim
          (λ before. let o = told.sets os before in (o.0, s.more o.0 o.1, o.2))
          (λ now. s.there os now)
          (Contains-append_cases (asked_by n xs) (asked_in n x) os (subst (λ l. Contains l os) both c));
    }

no_sets : (asked : List (List Text)) (old : List (List Text)) → asked ≡ [] → SetsWith asked old old
no_sets asked old e = record {
  more = λ ls c. c;
  there = λ os c. absurd (none_there os (subst (λ l. Contains l os) e c));
  only = λ ls c. inl c;
}

abbrev no_labels : List (List Text)
no_labels = []

none_if : (b : Bool) → cond b no_labels no_labels ≡ no_labels
none_if true = refl
none_if false = refl

not_if : (b : Bool) → (b && false) ≡ false
not_if true = refl
not_if false = refl

at_each : (m : Name) (P : Name → Type 0) → P m → ((n : Name) → same_name n m ≡ false → P n) → (n : Name) → P n
at_each m P at other n = elim (same_name n m) as (λ b. same_name n m ≡ b → P n) [ true ↦ λ e. subst P (sym (names_tied n m e)) at | false ↦ other n ] refl

-- what is noted is nothing of this activity
quiet : (n : Name) (xs : List NoteShape) (x : NoteShape) (h g : HeardShape) → g ≡ h → came_in n x ≡ [] → polled_in n x ≡ false → asked_in n x ≡ [] → IsHeard n xs h → IsHeard n (xs ++ x ∷ []) g
quiet n xs x h g same came polled asked told = subst (IsHeard n (xs ++ x ∷ [])) (sym same) (heard_more n xs x h h told
    (sym (ap (λ l. h.arrivals ++ l) came ∙ append-nil h.arrivals)) (sym (ap (λ b. h.polled || b) polled ∙ or_false h.polled)) (no_sets (asked_in n x) h.sets asked))

abbrev note : Name → ℕ → EventShape → NoteShape
note b k e = record { by = b; count = k; event = e }

sent_told : (old new : Listener) (xs : List NoteShape) (b : Name) (k : ℕ) (t : Name) (l : Text) (f : FutureShape) → ChangesAt t (λ h g. g ≡ with_arrival (arrived b l) h) old new → Tells old xs → Tells new (xs ++ note b k (Sent t l f) ∷ [])
sent_told old new xs b k t l f change told = at_each t (λ n. IsHeard n (xs ++ note b k (Sent t l f) ∷ []) (kept_at new n))
    (subst (IsHeard t (xs ++ note b k (Sent t l f) ∷ [])) (sym change.0) (heard_more t xs (note b k (Sent t l f)) (kept_at old t) (with_arrival (arrived b l) (kept_at old t)) (told t)
    (ap (λ c. (kept_at old t).arrivals ++ cond c (arrived b l ∷ []) []) (sym (name_itself t)))
    (sym (ap (λ c. (kept_at old t).polled || c) (not_if (same_name t b)) ∙ or_false (kept_at old t).polled))
    (no_sets (cond (same_name t b) [] []) (kept_at old t).sets (none_if (same_name t b)))))
    (λ n apart. quiet n xs (note b k (Sent t l f)) (kept_at old n) (kept_at new n) (change.1 n apart) (ap (λ c. cond c (arrived b l ∷ []) []) apart) (not_if (same_name n b)) (none_if (same_name n b)) (told n))

polled_told : (old new : Listener) (xs : List NoteShape) (b : Name) (k : ℕ) → ChangesAt b (λ h g. g ≡ with_poll h) old new → Tells old xs → Tells new (xs ++ note b k Polled ∷ [])
polled_told old new xs b k change told = at_each b (λ n. IsHeard n (xs ++ note b k Polled ∷ []) (kept_at new n))
    (subst (IsHeard b (xs ++ note b k Polled ∷ [])) (sym change.0) (heard_more b xs (note b k Polled) (kept_at old b) (with_poll (kept_at old b)) (told b)
    (sym (append-nil (kept_at old b).arrivals))
    (sym (ap (λ c. (kept_at old b).polled || (c && true)) (name_itself b) ∙ or_true (kept_at old b).polled))
    (no_sets (cond (same_name b b) [] []) (kept_at old b).sets (none_if (same_name b b)))))
    (λ n apart. quiet n xs (note b k Polled) (kept_at old n) (kept_at new n) (change.1 n apart) refl (ap (λ c. c && true) apart) (none_if (same_name n b)) (told n))

with_set : (labels ls : List Text) (asked : List (List Text)) (h g : HeardShape) → asked ≡ ls ∷ [] → HaveSame labels ls → IsWithSet labels h g → SetsWith asked h.sets g.sets
with_set labels ls asked h g e same w = record {
  more = w.more;
  there = λ os c. (labels, w.there, subst (HaveSame labels) (one_only ls os (subst (λ l. Contains l os) e c)) same);
  only = λ ms c. ⊎_elim
      (λ before. inl before)
      (λ is. inr (ls, subst (λ l. Contains l ls) (sym e) (one_there ls), subst (λ m. HaveSame m ls) (sym is) same))
      (w.only ms c);
}

-- a service, or a `serve` at which one stands
record IsAsking (b : Name) (e : EventShape) (ls : List Text) : Type 0 where
  asks : asked_as e ≡ ls ∷ []
  came : (n : Name) → came_as n b e ≡ []
  quiet : is_poll e ≡ false

asked_told : (old new : Listener) (xs : List NoteShape) (b : Name) (k : ℕ) (e : EventShape) (labels ls : List Text) → IsAsking b e ls → HaveSame labels ls → ChangesAt b (IsWithSet labels) old new → Tells old xs → Tells new (xs ++ note b k e ∷ [])
asked_told old new xs b k e labels ls is same change told = at_each b (λ n. IsHeard n (xs ++ note b k e ∷ []) (kept_at new n))
    (heard_more b xs (note b k e) (kept_at old b) (kept_at new b) (told b)
    (change.0.arrivals ∙ sym (ap (λ l. (kept_at old b).arrivals ++ l) (is.came b) ∙ append-nil (kept_at old b).arrivals))
    (change.0.polled ∙ sym (ap (λ c. (kept_at old b).polled || c) (no_poll_by (same_name b b)) ∙ or_false (kept_at old b).polled))
    (with_set labels ls (asked_in b (note b k e)) (kept_at old b) (kept_at new b) (ap (λ c. cond c (asked_as e) []) (name_itself b) ∙ is.asks) same change.0))
    (λ n apart. quiet n xs (note b k e) (kept_at old n) (kept_at new n) (change.1 n apart) (is.came n) (no_poll_by (same_name n b)) (ap (λ c. cond c (asked_as e) []) apart) (told n))
  where
    no_poll_by : (c : Bool) → (c && is_poll e) ≡ false
    no_poll_by c = ap (λ d. c && d) is.quiet ∙ not_if c

others_told : (l : Listener) (xs : List NoteShape) (b : Name) (k : ℕ) (e : EventShape) → asked_as e ≡ [] → ((n : Name) → came_as n b e ≡ []) → is_poll e ≡ false → Tells l xs → Tells l (xs ++ note b k e ∷ [])
others_told l xs b k e asks came poll told n = quiet n xs (note b k e) (kept_at l n) (kept_at l n) refl (came n)
    (ap (λ d. same_name n b && d) poll ∙ not_if (same_name n b)) (ap (λ d. cond (same_name n b) d []) asks ∙ none_if (same_name n b)) (told n)

-- From what a note says

module _ (old new : Listener) (xs : List NoteShape) (x : NoteShape) where
  -- where it is about this event
  about : (e : EventShape) → x.event ≡ e → Tells new (xs ++ note x.by x.count e ∷ []) → Tells new (xs ++ x ∷ [])
  about e at h = subst (λ e. Tells new (xs ++ note x.by x.count e ∷ [])) (sym at) h

  sent_as : (by : Name) (to : Bor Name) (label : Bor Label) (f : Bor FutureName) → by ≡ x.by → (e : EventShape) → x.event ≡ e → IsEvent (event.Sent to label f) e
      → ChangesAt to.now (λ h g. g ≡ with_arrival (arrived by label.now.text) h) old new → Tells old xs → Tells new (xs ++ x ∷ [])
  sent_as by to label f is (Sent t l g) at h change told = about (Sent t l g) at
      (sent_told old new xs x.by x.count t l g
      (subst (λ z. ChangesAt z (λ h g. g ≡ with_arrival (arrived x.by l) h) old new) h.0
      (subst (λ z. ChangesAt to.now (λ h g. g ≡ with_arrival (arrived x.by z) h) old new) h.1
      (subst (λ z. ChangesAt to.now (λ h g. g ≡ with_arrival (arrived z label.now.text) h) old new) is change))) told)
  sent_as by to label f is (Served ls) at h change told = absurd h
  sent_as by to label f is (Made n) at h change told = absurd h
  sent_as by to label f is (Answered g) at h change told = absurd h
  sent_as by to label f is Polled at h change told = absurd h
  sent_as by to label f is (Standing ls) at h change told = absurd h
  sent_as by to label f is (Printed z) at h change told = absurd h
  sent_as by to label f is (Faulted z) at h change told = absurd h

  served_as : (by : Name) (wanted : Wanted) → by ≡ x.by → (e : EventShape) → x.event ≡ e → IsEvent (event.Served wanted) e → ChangesAt by (IsWithSet (wanted_labels wanted)) old new → Tells old xs → Tells new (xs ++ x ∷ [])
  served_as by wanted is (Served ls) at h change told = about (Served ls) at
      (asked_told old new xs x.by x.count (Served ls) (wanted_labels wanted) ls (record { asks = refl; came = λ n. refl; quiet = refl }) h (subst (λ z. ChangesAt z (IsWithSet (wanted_labels wanted)) old new) is change) told)
  served_as by wanted is (Sent t l g) at h change told = absurd h
  served_as by wanted is (Made n) at h change told = absurd h
  served_as by wanted is (Answered g) at h change told = absurd h
  served_as by wanted is Polled at h change told = absurd h
  served_as by wanted is (Standing ls) at h change told = absurd h
  served_as by wanted is (Printed z) at h change told = absurd h
  served_as by wanted is (Faulted z) at h change told = absurd h

  standing_as : (by : Name) (wanted : Wanted) → by ≡ x.by → (e : EventShape) → x.event ≡ e → IsEvent (event.Standing wanted) e → ChangesAt by (IsWithSet (wanted_labels wanted)) old new → Tells old xs → Tells new (xs ++ x ∷ [])
  standing_as by wanted is (Standing ls) at h change told = about (Standing ls) at
      (asked_told old new xs x.by x.count (Standing ls) (wanted_labels wanted) ls (record { asks = refl; came = λ n. refl; quiet = refl }) h (subst (λ z. ChangesAt z (IsWithSet (wanted_labels wanted)) old new) is change) told)
  standing_as by wanted is (Sent t l g) at h change told = absurd h
  standing_as by wanted is (Made n) at h change told = absurd h
  standing_as by wanted is (Answered g) at h change told = absurd h
  standing_as by wanted is Polled at h change told = absurd h
  standing_as by wanted is (Served ls) at h change told = absurd h
  standing_as by wanted is (Printed z) at h change told = absurd h
  standing_as by wanted is (Faulted z) at h change told = absurd h

  polled_as : (by : Name) → by ≡ x.by → (e : EventShape) → x.event ≡ e → IsEvent event.Polled e → ChangesAt by (λ h g. g ≡ with_poll h) old new → Tells old xs → Tells new (xs ++ x ∷ [])
  polled_as by is Polled at h change told = about Polled at (polled_told old new xs x.by x.count (subst (λ z. ChangesAt z (λ h g. g ≡ with_poll h) old new) is change) told)
  polled_as by is (Sent t l g) at h change told = absurd h
  polled_as by is (Made n) at h change told = absurd h
  polled_as by is (Answered g) at h change told = absurd h
  polled_as by is (Served ls) at h change told = absurd h
  polled_as by is (Standing ls) at h change told = absurd h
  polled_as by is (Printed z) at h change told = absurd h
  polled_as by is (Faulted z) at h change told = absurd h

module _ (old new : Listener) (xs : List NoteShape) (x : NoteShape) (told : Note) (n : IsNote told x) where
  pub noted_sent : (to : Bor Name) (label : Bor Label) (f : Bor FutureName) → told.event ≡ event.Sent to label f
      → ChangesAt to.now (λ h g. g ≡ with_arrival (arrived told.by.now label.now.text) h) old new → Tells old xs → Tells new (xs ++ x ∷ [])
  noted_sent to label f is change tells = sent_as old new xs x told.by.now to label f n.by x.event refl (subst (λ e. IsEvent e x.event) is n.event) change tells

  pub noted_served : (wanted : Wanted) → told.event ≡ event.Served wanted → ChangesAt told.by.now (IsWithSet (wanted_labels wanted)) old new → Tells old xs → Tells new (xs ++ x ∷ [])
  noted_served wanted is change tells = served_as old new xs x told.by.now wanted n.by x.event refl (subst (λ e. IsEvent e x.event) is n.event) change tells

  pub noted_standing : (wanted : Wanted) → told.event ≡ event.Standing wanted → ChangesAt told.by.now (IsWithSet (wanted_labels wanted)) old new → Tells old xs → Tells new (xs ++ x ∷ [])
  noted_standing wanted is change tells = standing_as old new xs x told.by.now wanted n.by x.event refl (subst (λ e. IsEvent e x.event) is n.event) change tells

  pub noted_polled : told.event ≡ event.Polled → ChangesAt told.by.now (λ h g. g ≡ with_poll h) old new → Tells old xs → Tells new (xs ++ x ∷ [])
  noted_polled is change tells = polled_as old new xs x told.by.now n.by x.event refl (subst (λ e. IsEvent e x.event) is n.event) change tells

module _ (l : Listener) (xs : List NoteShape) (x : NoteShape) (told : Note) (n : IsNote told x) where
  made_as : (m : Bor Name) (e : EventShape) → x.event ≡ e → IsEvent (event.Made m) e → Tells l xs → Tells l (xs ++ x ∷ [])
  made_as m (Made k) at h tells = about l l xs x (Made k) at (others_told l xs x.by x.count (Made k) refl (λ n. refl) refl tells)
  made_as m (Sent t k g) at h tells = absurd h
  made_as m (Answered g) at h tells = absurd h
  made_as m Polled at h tells = absurd h
  made_as m (Served ls) at h tells = absurd h
  made_as m (Standing ls) at h tells = absurd h
  made_as m (Printed z) at h tells = absurd h
  made_as m (Faulted z) at h tells = absurd h

  answered_as : (f : Bor FutureName) (e : EventShape) → x.event ≡ e → IsEvent (event.Answered f) e → Tells l xs → Tells l (xs ++ x ∷ [])
  answered_as f (Answered g) at h tells = about l l xs x (Answered g) at (others_told l xs x.by x.count (Answered g) refl (λ n. refl) refl tells)
  answered_as f (Sent t k g) at h tells = absurd h
  answered_as f (Made m) at h tells = absurd h
  answered_as f Polled at h tells = absurd h
  answered_as f (Served ls) at h tells = absurd h
  answered_as f (Standing ls) at h tells = absurd h
  answered_as f (Printed z) at h tells = absurd h
  answered_as f (Faulted z) at h tells = absurd h

  printed_as : (l' : Bor Line) (e : EventShape) → x.event ≡ e → IsEvent (event.Printed l') e → Tells l xs → Tells l (xs ++ x ∷ [])
  printed_as l' (Printed z) at h tells = about l l xs x (Printed z) at (others_told l xs x.by x.count (Printed z) refl (λ n. refl) refl tells)
  printed_as l' (Sent t k g) at h tells = absurd h
  printed_as l' (Made m) at h tells = absurd h
  printed_as l' (Answered g) at h tells = absurd h
  printed_as l' Polled at h tells = absurd h
  printed_as l' (Served ls) at h tells = absurd h
  printed_as l' (Standing ls) at h tells = absurd h
  printed_as l' (Faulted z) at h tells = absurd h

  faulted_as : (f : Fault) (e : EventShape) → x.event ≡ e → IsEvent (event.Faulted f) e → Tells l xs → Tells l (xs ++ x ∷ [])
  faulted_as f (Faulted z) at h tells = about l l xs x (Faulted z) at (others_told l xs x.by x.count (Faulted z) refl (λ n. refl) refl tells)
  faulted_as f (Sent t k g) at h tells = absurd h
  faulted_as f (Made m) at h tells = absurd h
  faulted_as f (Answered g) at h tells = absurd h
  faulted_as f Polled at h tells = absurd h
  faulted_as f (Served ls) at h tells = absurd h
  faulted_as f (Standing ls) at h tells = absurd h
  faulted_as f (Printed z) at h tells = absurd h

  pub noted_made : (m : Bor Name) → told.event ≡ event.Made m → Tells l xs → Tells l (xs ++ x ∷ [])
  noted_made m is tells = made_as m x.event refl (subst (λ e. IsEvent e x.event) is n.event) tells

  pub noted_answered : (f : Bor FutureName) → told.event ≡ event.Answered f → Tells l xs → Tells l (xs ++ x ∷ [])
  noted_answered f is tells = answered_as f x.event refl (subst (λ e. IsEvent e x.event) is n.event) tells

  pub noted_printed : (line : Bor Line) → told.event ≡ event.Printed line → Tells l xs → Tells l (xs ++ x ∷ [])
  noted_printed line is tells = printed_as line x.event refl (subst (λ e. IsEvent e x.event) is n.event) tells

  pub noted_faulted : (f : Fault) → told.event ≡ event.Faulted f → Tells l xs → Tells l (xs ++ x ∷ [])
  noted_faulted f is tells = faulted_as f x.event refl (subst (λ e. IsEvent e x.event) is n.event) tells

-- lines tell nothing
pub deaf_to_lines : (l : Listener) → IsDeafToLines (Tells l)
deaf_to_lines l xs n k line tells = others_told l xs n k (Printed line) refl (λ m. refl) refl tells

-- A set more

pub added : (labels : List Text) (h g : HeardShape) → g.arrivals ≡ h.arrivals → g.polled ≡ h.polled → g.sets ≡ h.sets ++ labels ∷ [] → IsWithSet labels h g
added labels h g arrivals polled sets = record {
  arrivals = arrivals;
  polled = polled;
  there = subst (λ l. Contains l labels) (sym sets) (Contains-append_right h.sets (labels ∷ []) labels (one_there labels));
  more = λ ls c. subst (λ l. Contains l ls) (sym sets) (Contains-append_left h.sets (labels ∷ []) ls c);
  only = λ ls c. ⊎_elim (λ before. inl before) (λ now. inr (sym (one_only labels ls now))) (Contains-append_cases h.sets (labels ∷ []) ls (subst (λ l. Contains l ls) sets c));
}
