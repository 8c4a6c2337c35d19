-- A walk that shows one place more.
use Rattle.std.proofs.Common.{◌≡◌, ℕ, suc, ◌≤◌, Bool, true, false, cond, List, [], ◌∷◌, ◌++◌, Option, Some, None, length, map, refl, sym, ap, subst, ◌∙◌, arith, length-append}
use Rattle.std.specs.Prelude.{codes, reverse}
use Rattle.std.specs.List.{AllByRecursion}
use Rattle.std.specs.Map.{lookup}
use Rattle.std.proofs.lemmas.List.{map-append}
use Rattle.asp_model.specs.Intent.{StatusShape}
use Rattle.future_table.specs.Values.{values_of}
use Rattle.def_paths.specs.Places.{Place, side_of, found}
use Rattle.def_paths.specs.Snapshots.{SnapshotShape}
use Rattle.def_paths.specs.StateLines.{Path, Shown, same_place, is_compound, what_text, state_line, with_line, with_place, path_of, show_to, state_shown, state_lines}
use Rattle.law_paths.proofs.StateLemmas.{place_tied, place_itself}
use Rattle.state_lines.specs.declared.state.State.{State}
use Rattle.run_ends.specs.declared.entered.Spot.{Spot}
use Rattle.run_ends.specs.declared.entered.Entered.{Entered}
use Rattle.state_lines.specs.declared.below.Due.{Due}
use Rattle.state_lines.specs.declared.lines.Walk.{Walk}
use Rattle.state_lines.specs.States.{IsStateOf, side_in}
use Rattle.run_ends.specs.Spots.{is_spot, spot_place, places_of, places_in, place_of, size_of, IsSpot, IsNumbered, Grows}
use Rattle.state_lines.specs.Walks.{Pending, show_all, pending_below, pending_of, all_pending, result_due, root_due, roots_due, shown_in, shown_with, shown_after, state_seen, AreSpots, IsWalk, Shows, IsExpanded}
use Rattle.run_ends.proofs.SpotLemmas.{spot_stays}
use Rattle.run_ends.proofs.EnterLemmas.{one_spot, spot_itself, spot_tied, spot_wider}
use Rattle.state_lines.proofs.ShowLemmas.{new_shown, show_all-append, below_shown, more_comes}

-- Facts of each item

module _ {X : Type 0} (P : X → Type 0) where
  pub all_pushed : (xs : List X) (x : X) → AllByRecursion P xs → P x → AllByRecursion P (xs ++ x ∷ [])
  all_pushed [] x h k = (k, tt)
  all_pushed (y ∷ xs) x h k = (h.0, all_pushed xs x h.1 k)

  pub all_front : (xs : List X) (x : X) → AllByRecursion P (xs ++ x ∷ []) → AllByRecursion P xs
  all_front [] x h = tt
  all_front (y ∷ xs) x h = (h.0, all_front xs x h.1)

  pub all_last : (xs : List X) (x : X) → AllByRecursion P (xs ++ x ∷ []) → P x
  all_last [] x h = h.0
  all_last (y ∷ xs) x h = all_last xs x h.1

all_weaker : {X : Type 0} (P Q : X → Type 0) → ((x : X) → P x → Q x) → (xs : List X) → AllByRecursion P xs → AllByRecursion Q xs
all_weaker P Q to [] h = tt
all_weaker P Q to (x ∷ xs) h = (to x h.0, all_weaker P Q to xs h.1)

-- Growth

-- a place that was shown, with its path
abbrev entry_in : Entered → Spot × Path → Place × Path
entry_in e x = (place_of e x.0, x.1)

module _ (e f : Entered) (g : Grows e f) where
  pub size_grows : size_of e ≤ size_of f
  size_grows = omega (arith, ap length g.spots, length-append e.spots.keys g.more)

  pub place_stays : (s : Spot) → IsSpot (size_of e) s → place_of f s ≡ place_of e s
  place_stays s h = ap (λ ss. spot_place (places_of ss) s) g.spots ∙ spot_stays e.spots.keys g.more s h

  pending_stays : (ds : List Due) → AreSpots (size_of e) ds → all_pending f ds ≡ all_pending e ds
  pending_stays [] h = refl
  pending_stays (d ∷ ds) h = λ i. record { depth = d.depth; path = d.path; place = place_stays d.spot h.0 i } ∷ pending_stays ds h.1 i

  paths_stay : (es : List (Spot × Path)) → AllByRecursion (λ x. IsSpot (size_of e) x.0) es → map (entry_in f) es ≡ map (entry_in e) es
  paths_stay [] h = refl
  paths_stay (x ∷ xs) h = λ i. (place_stays x.0 h.0 i, x.1) ∷ paths_stay xs h.1 i

  pub paths_wider : (es : List (Spot × Path)) → AllByRecursion (λ x. IsSpot (size_of e) x.0) es → AllByRecursion (λ x. IsSpot (size_of f) x.0) es
  paths_wider = all_weaker (λ (x : Spot × Path). IsSpot (size_of e) x.0) (λ (x : Spot × Path). IsSpot (size_of f) x.0) (λ x. spot_wider (size_of e) (size_of f) x.0 size_grows)

  pub dues_wider : (ds : List Due) → AreSpots (size_of e) ds → AreSpots (size_of f) ds
  dues_wider = all_weaker (λ (d : Due). IsSpot (size_of e) d.spot) (λ (d : Due). IsSpot (size_of f) d.spot) (λ d. spot_wider (size_of e) (size_of f) d.spot size_grows)

-- Paths that were shown

same_bool : (a b : Bool) → (a ≡ true → b ≡ true) → (b ≡ true → a ≡ true) → a ≡ b
same_bool true b f g = sym (f refl)
same_bool false true f g = g refl
same_bool false false f g = refl

by_cond : {X : Type 0} (b : Bool) (x y : X) → elim b [ true ↦ x | false ↦ y ] ≡ cond b x y
by_cond true x y = refl
by_cond false x y = refl

module _ (e : Entered) (numbered : IsNumbered e) (s : Spot) (here : IsSpot (size_of e) s) where
  same_test : (t : Spot) → IsSpot (size_of e) t → same_place (place_of e s) (place_of e t) ≡ is_spot s t
  same_test t there = same_bool (same_place (place_of e s) (place_of e t)) (is_spot s t)
      (λ h. ap (is_spot s) (sym (one_spot e numbered s t here there (place_tied (place_of e s) (place_of e t) h))) ∙ spot_itself s)
      (λ h. ap (λ (t : Spot). same_place (place_of e s) (place_of e t)) (sym (spot_tied s t h)) ∙ place_itself (place_of e s))

  -- the path with which a place was shown
  pub path_found : (es : List (Spot × Path)) → AllByRecursion (λ x. IsSpot (size_of e) x.0) es → path_of (place_of e s) (map (entry_in e) es) ≡ lookup (is_spot s) es
  path_found [] h = refl
  path_found (x ∷ xs) h =
      (λ i. elim (same_test x.0 h.0 i) [ true ↦ Some x.1 | false ↦ path_found xs h.1 i ])
      ∙ by_cond (is_spot s x.0) (Some x.1) (lookup (is_spot s) xs)

-- A walk that begins

module _ (s : State) (d : ℕ) where
  root_spot : (n : ℕ) (path : Path) (place : ℕ) → IsSpot n (root_due path place d).spot
  root_spot n path place = record { within = omega arith; inside = λ lt. absurd (omega (arith, lt)) }

  roots_spots : (n : ℕ) → AreSpots n (roots_due s d)
  roots_spots n = by s.result
    where
      by : (o : Option ℕ) → AreSpots n (result_due o d ++ root_due (codes "self") s.active d ∷ [])
      by None = (root_spot n (codes "self") s.active, tt)
      by (Some place) = (root_spot n (codes "value") place, (root_spot n (codes "self") s.active, tt))

  pub begun_walk : (w : Walk) → IsNumbered w.entered → w.entered.spots.keys ≡ [] → w.paths.entries ≡ [] → w.due.items ≡ roots_due s d → IsWalk s w
  begun_walk w numbered none paths due = record {
    numbered = numbered;
    values = λ k lt. absurd (omega (arith, lt, ap (λ (xs : List Spot). length xs) none));
    paths = subst (AllByRecursion (λ (x : Spot × Path). IsSpot (size_of w.entered) x.0)) (sym paths) tt;
    due = subst (AreSpots (size_of w.entered)) (sym due) (roots_spots (size_of w.entered));
  }

  pub begun_shown : (w : Walk) → w.paths.entries ≡ [] → w.due.items ≡ roots_due s d → w.lines.items ≡ [] → shown_after s w w.due.items ≡ state_seen s d
  begun_shown w paths due lines = (λ i. show_all (side_in s) (all_pending w.entered (due i)) (shown_with (places_in w.entered) (paths i) (lines i))) ∙ by s.result
    where
      by : (o : Option ℕ) → show_all (side_in s) (all_pending w.entered (result_due o d ++ root_due (codes "self") s.active d ∷ [])) (record { places = []; lines = [] }) ≡ state_shown d (side_in s) s.active o
      by None = refl
      by (Some place) = refl

-- One place

module _ (s : State) (old : Walk) (d : Due) where
  due_next : (w : Shown) → show_all (side_in s) (all_pending old.entered (old.due.items ++ d ∷ [])) w ≡ show_all (side_in s) (all_pending old.entered old.due.items) (show_to d.depth (side_in s) d.path (place_of old.entered d.spot) w)
  due_next w =
      ap (λ (xs : List Pending). show_all (side_in s) xs w) (map-append (pending_of (places_in old.entered)) old.due.items (d ∷ []))
      ∙ show_all-append (side_in s) (all_pending old.entered old.due.items) (pending_of (places_in old.entered) d ∷ []) w

  one_longer : (new : Walk) (line : List ℕ) → (shown_in new).lines ≡ (shown_in old).lines ++ line ∷ [] → length new.lines.items ≡ suc (length old.lines.items)
  one_longer new line e = omega (arith, ap length e, length-append old.lines.items (line ∷ []))

  -- a place below which nothing is shown
  pub plain_done : (new : Walk) (what : List ℕ) → all_pending new.entered new.due.items ≡ all_pending old.entered old.due.items → shown_in new ≡ with_line d.path what (shown_in old)
      → show_to d.depth (side_in s) d.path (place_of old.entered d.spot) (shown_in old) ≡ with_line d.path what (shown_in old) → Shows s d old new
  plain_done new what same more is = record {
    shown = (λ i. show_all (side_in s) (same i) (more i))
        ∙ ap (show_all (side_in s) (all_pending old.entered old.due.items)) (sym is)
        ∙ sym (due_next (shown_in old));
    line = one_longer new (state_line d.path what) (ap (λ (w : Shown). w.lines) more);
  }

  -- an object or a group that was not shown before
  pub new_done : (new : Walk) → IsWalk s old → IsSpot (size_of old.entered) d.spot → Grows old.entered new.entered → IsExpanded (side_in s) d old.entered new.entered old.due.items new.due.items
      → new.paths.entries ≡ old.paths.entries ++ (d.spot, d.path) ∷ [] → new.lines.items ≡ old.lines.items ++ state_line d.path (what_text (found (side_in s) (place_of old.entered d.spot))) ∷ []
      → is_compound (found (side_in s) (place_of old.entered d.spot)) ≡ true → lookup (is_spot d.spot) old.paths.entries ≡ None → Shows s d old new
  new_done new walk here grows expanded entries lines compound absent =
      let a = side_in s in
      let e = old.entered in
      let f = new.entered in
      let p = place_of e d.spot in
      let ds = old.due.items in
      let what = what_text (found a p) in
      let none = path_found e walk.numbered d.spot here old.paths.entries walk.paths ∙ absent in
      let places : (shown_in new).places ≡ (shown_in old).places ++ (p, d.path) ∷ [] =
      ap (map (entry_in f)) entries
      ∙ map-append (entry_in f) old.paths.entries ((d.spot, d.path) ∷ [])
      ∙ (λ i. paths_stay e f grows old.paths.entries walk.paths i ++ (place_stays e f grows d.spot here i, d.path) ∷ []) in
      let shown : shown_in new ≡ with_place p d.path what (shown_in old) = λ i. record { places = places i; lines = lines i } in
      let below = reverse (pending_below d.depth a d.path p) in
      let pending : all_pending f new.due.items ≡ all_pending e ds ++ below =
      expanded ∙ ap (λ (xs : List Pending). xs ++ below) (pending_stays e f grows ds walk.due) in
      record {
        shown = (λ i. show_all a (pending i) (shown i))
            ∙ show_all-append a (all_pending e ds) below (with_place p d.path what (shown_in old))
            ∙ ap (show_all a (all_pending e ds)) (below_shown a d.depth d.path p (with_place p d.path what (shown_in old)) ∙ sym (new_shown a d.depth d.path p (shown_in old) compound none))
            ∙ sym (due_next (shown_in old));
        line = one_longer new (state_line d.path what) lines;
      }

-- something is left to show, so more lines come
pub still_more : (s : State) (w : Walk) (ds : List Due) (d : Due) (whole : Shown) → w.due.items ≡ ds ++ d ∷ [] → shown_after s w w.due.items ≡ whole → suc (length w.lines.items) ≤ length whole.lines
still_more s w ds d whole due shown =
    let pending : all_pending w.entered w.due.items ≡ all_pending w.entered ds ++ pending_of (places_in w.entered) d ∷ [] =
    ap (all_pending w.entered) due ∙ map-append (pending_of (places_in w.entered)) ds (d ∷ []) in
    subst (λ (v : Shown). suc (length w.lines.items) ≤ length v.lines) ((λ i. show_all (side_in s) (sym pending i) (shown_in w)) ∙ shown)
    (more_comes (side_in s) (all_pending w.entered ds) (pending_of (places_in w.entered) d) (shown_in w))

-- the lines are those of what the state stands for
pub lines_are : (s : State) (d : ℕ) (snapshot : SnapshotShape) (status : StatusShape) → IsStateOf s snapshot status → (state_seen s d).lines ≡ state_lines d (values_of s.futures.now) status snapshot
unfolding side_in
lines_are s d snapshot status is = λ i. (state_shown d (side_of (values_of s.futures.now) (is.store i)) (is.active i) (is.result i)).lines
