-- What is shown, place by place.
use Rattle.std.proofs.Common.{◌≡◌, ℕ, zero, suc, ◌≤◌, Bool, true, false, List, [], ◌∷◌, ◌++◌, Option, Some, None, length, map, refl, sym, ap, subst, ◌∙◌, arith, length-append}
use Rattle.std.specs.Prelude.{codes, reverse}
use Rattle.std.proofs.lemmas.List.{reverse-append}
use Rattle.def_paths.specs.Places.{Place, Side, found, children}
use Rattle.def_paths.specs.StateLines.{Path, Shown, is_compound, what_text, state_line, with_line, with_place, path_of, shown_below, show_each, show_place, show_to}
use Rattle.state_lines.specs.Walks.{Pending, show_all, pending_at, pending_below}

-- what is below a place, at a depth below it
abbrev pub show_next : ℕ → Side → List (Path × Place) → Shown → Shown
show_next zero a xs w = w
show_next (suc d) a xs w = show_each (show_to d a) xs w

module _ (a : Side) where
  to_next : (d : ℕ) (path : Path) (p : Place) (w : Shown) → show_to d a path p w ≡ show_place (show_next d a) a path p w
  to_next zero path p w = refl
  to_next (suc d) path p w = refl

  abbrev shown_by : (List (Path × Place) → Shown → Shown) → Path → Place → Shown → Bool → Option Path → Shown
  shown_by next path p w compound seen = elim compound [
    | false ↦ with_line path (what_text (found a p)) w
    | true ↦ elim seen [
      | Some first ↦ with_line path (codes "same " ++ first) w
      | None ↦ next (shown_below path (found a p) (children a p)) (with_place p path (what_text (found a p)) w)
    ]
  ]

  -- a place below which nothing is
  pub plain_shown : (d : ℕ) (path : Path) (p : Place) (w : Shown) → is_compound (found a p) ≡ false → show_to d a path p w ≡ with_line path (what_text (found a p)) w
  plain_shown d path p w plain = to_next d path p w ∙ ap (λ b. shown_by (show_next d a) path p w b (path_of p w.places)) plain

  -- a place that was shown before
  pub same_shown : (d : ℕ) (path : Path) (p : Place) (w : Shown) (first : Path) → is_compound (found a p) ≡ true → path_of p w.places ≡ Some first → show_to d a path p w ≡ with_line path (codes "same " ++ first) w
  same_shown d path p w first compound seen =
      to_next d path p w
      ∙ ap (λ b. shown_by (show_next d a) path p w b (path_of p w.places)) compound
      ∙ ap (shown_by (show_next d a) path p w true) seen

  -- a place that was not
  pub new_shown : (d : ℕ) (path : Path) (p : Place) (w : Shown) → is_compound (found a p) ≡ true → path_of p w.places ≡ None
      → show_to d a path p w ≡ show_next d a (shown_below path (found a p) (children a p)) (with_place p path (what_text (found a p)) w)
  new_shown d path p w compound seen =
      to_next d path p w
      ∙ ap (λ b. shown_by (show_next d a) path p w b (path_of p w.places)) compound
      ∙ ap (shown_by (show_next d a) path p w true) seen

  -- A stack of what is to be shown

  pub show_all-append : (xs ys : List Pending) (w : Shown) → show_all a (xs ++ ys) w ≡ show_all a xs (show_all a ys w)
  show_all-append [] ys w = refl
  show_all-append (x ∷ xs) ys w = ap (show_to x.depth a x.path x.place) (show_all-append xs ys w)

  show_all-reverse : (d : ℕ) (xs : List (Path × Place)) (w : Shown) → show_all a (reverse (map (pending_at d) xs)) w ≡ show_each (show_to d a) xs w
  show_all-reverse d [] w = refl
  show_all-reverse d (x ∷ xs) w =
      ap (λ (l : List Pending). show_all a l w) (reverse-append (pending_at d x ∷ []) (map (pending_at d) xs))
      ∙ show_all-append (reverse (map (pending_at d) xs)) (pending_at d x ∷ []) w
      ∙ show_all-reverse d xs (show_to d a x.0 x.1 w)

  pub below_shown : (d : ℕ) (path : Path) (p : Place) (w : Shown) → show_all a (reverse (pending_below d a path p)) w ≡ show_next d a (shown_below path (found a p) (children a p)) w
  below_shown zero path p w = refl
  below_shown (suc d) path p w = show_all-reverse d (shown_below path (found a p) (children a p)) w

  -- Each place gives a line

  line_grows : (w : Shown) (line : List ℕ) → suc (length w.lines) ≤ length (w.lines ++ line ∷ [])
  line_grows w line = omega (arith, length-append w.lines (line ∷ []))

  by_grows : (next : List (Path × Place) → Shown → Shown) → ((xs : List (Path × Place)) (w : Shown) → length w.lines ≤ length (next xs w).lines)
      → (path : Path) (p : Place) (w : Shown) (compound : Bool) (seen : Option Path) → suc (length w.lines) ≤ length (shown_by next path p w compound seen).lines
  by_grows next to path p w false seen = line_grows w (state_line path (what_text (found a p)))
  by_grows next to path p w true (Some first) = line_grows w (state_line path (codes "same " ++ first))
  by_grows next to path p w true None =
      let v = with_place p path (what_text (found a p)) w in
      omega (arith, line_grows w (state_line path (what_text (found a p))), to (shown_below path (found a p) (children a p)) v)

  each_grows : (show : Path → Place → Shown → Shown) → ((path : Path) (p : Place) (w : Shown) → suc (length w.lines) ≤ length (show path p w).lines)
      → (xs : List (Path × Place)) (w : Shown) → length w.lines ≤ length (show_each show xs w).lines
  each_grows show to [] w = omega arith
  each_grows show to (x ∷ xs) w = omega (arith, to x.0 x.1 w, each_grows show to xs (show x.0 x.1 w))

  pub to_grows : (d : ℕ) (path : Path) (p : Place) (w : Shown) → suc (length w.lines) ≤ length (show_to d a path p w).lines
  to_grows zero path p w = by_grows (λ xs v. v) (λ xs v. omega arith) path p w (is_compound (found a p)) (path_of p w.places)
  to_grows (suc d) path p w = by_grows (show_each (show_to d a)) (each_grows (show_to d a) (to_grows d)) path p w (is_compound (found a p)) (path_of p w.places)

  pub all_grows : (xs : List Pending) (w : Shown) → length w.lines ≤ length (show_all a xs w).lines
  all_grows [] w = omega arith
  all_grows (x ∷ xs) w = omega (arith, all_grows xs w, to_grows x.depth x.path x.place (show_all a xs w))

  -- more lines come while something is left
  pub more_comes : (xs : List Pending) (x : Pending) (w : Shown) → suc (length w.lines) ≤ length (show_all a (xs ++ x ∷ []) w).lines
  more_comes xs x w = subst (λ (v : Shown). suc (length w.lines) ≤ length v.lines) (sym (show_all-append xs (x ∷ []) w))
      (omega (arith, to_grows x.depth x.path x.place w, all_grows xs (show_to x.depth a x.path x.place w)))
