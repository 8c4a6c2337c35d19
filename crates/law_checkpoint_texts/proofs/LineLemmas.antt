-- The lines of a checkpoint, and the whole text.
use Rattle.std.proofs.Common.{◌≡◌, ◌≢◌, Bool, true, false, List, [], ◌∷◌, ◌++◌, map, Option, Some, None, refl, sym, ap, ◌∙◌}
use Rattle.std.specs.Prelude.{codes}
use Rattle.std.specs.List.{flat_map, list_all}
use Rattle.std.proofs.lemmas.Bool.{and_from, eq-eqb}
use Rattle.std.proofs.lemmas.List.{append-nil}
use Rattle.asp_model.specs.Names.{Name, FutureShape, Text, same_text}
use Rattle.asp_model.specs.Parcel.{ParcelShape}
use Rattle.law_frozen.specs.Frozen.{FrozenActivity, FrozenShape}
use Rattle.law_reports.proofs.PartsLemmas.{lacks, lacks-append, parts_one, parts_at, parts_lines}
use Rattle.asp_model.specs.ReportLines.{parts}
use Rattle.checkpoint_text.specs.Items.{Items, list_items, pair_items, name_items, future_items, parcel_items}
use Rattle.checkpoint_text.specs.Lines.{activity_items, line_of, checkpoint_lines, checkpoint_text}
use Rattle.checkpoint_text.specs.Reading.{Reader, list_of, both, name, future, parcel, activity, whole, line_by, line_read, with_activity, activities_read, CheckpointReading, Reads, OtherProgram, frozen_by, body_read, lines_read, read_checkpoint}
use Rattle.checkpoint_text.specs.Writable.{AreAll}
use Rattle.checkpoint_text.proofs.NumberLemmas.{some_same}
use Rattle.checkpoint_text.proofs.LineLemmas.{activity_line}
use Rattle.checkpoint_text.proofs.WordLemmas.{AreWords, activity_words, homes_words, filled_words}
use Rattle.law_checkpoint_texts.proofs.SureLemmas.{IsSureOf, IsAny}
use Rattle.law_checkpoint_texts.proofs.ValueLemmas.{IsShapedParcel, IsShapedActivity, activity_sure, homes_sure, filled_sure}

-- Texts cut at a byte

words_are_parts : (w : Text) (ws : Items) → lacks 32 w ≡ true → AreWords ws → parts 32 (line_of w ws) ≡ w ∷ ws
words_are_parts w [] h g = ap (parts 32) (append-nil w) ∙ parts_one 32 w h
words_are_parts w (v ∷ ws) h g =
    parts_at 32 w (line_of v ws) h ∙ ap (λ (us : Items). w ∷ us) (words_are_parts v ws g.0.1 g.1)

rest_lacks : (ws : Items) → AreWords ws → lacks 10 (flat_map (λ i. codes " " ++ i) ws) ≡ true
rest_lacks [] g = refl
rest_lacks (w ∷ ws) g =
    lacks-append 10 (32 ∷ w) (flat_map (λ i. codes " " ++ i) ws) (and_from _ _ refl g.0.0) (rest_lacks ws g.1)

line_lacks : (w : Text) (ws : Items) → lacks 10 w ≡ true → AreWords ws → lacks 10 (line_of w ws) ≡ true
line_lacks w ws h g = lacks-append 10 w (flat_map (λ i. codes " " ++ i) ws) h (rest_lacks ws g)

-- A line

whole_told : {X : Type 0} (o : Option (X × Items)) (x : X) → whole o ≡ Some x
    → (r : X × Items) × (o ≡ Some r) × (r.0 ≡ x)
whole_told None x e = absurd cc
whole_told {X} (Some r) x e = by r.1 refl e
  where
    by : (us : Items) → r.1 ≡ us → elim us [ [] ↦ Some r.0 | w ∷ ws ↦ None ] ≡ Some x
        → (v : X × Items) × (Some r ≡ Some v) × (v.0 ≡ x)
    by [] is h = (r, refl, some_same r.0 x h)
    by (u ∷ us) is h = absurd cc

line_sure : {X : Type 0} (w : Text) {p : Reader X} {f : X → Items} {S : X → Type 0} → IsSureOf p f S → (x : X) → S x
    → lacks 32 w ≡ true → same_text w w ≡ true → AreWords (f x)
    → (y : X) → line_read w p (line_of w (f x)) ≡ Some y → y ≡ x
line_sure {X} w {p} {f} s x good h same g y e =
    let cut : elim (same_text w w) [ true ↦ whole (p (f x)) | false ↦ None ] ≡ Some y = ap (line_by w p)
    (sym (words_are_parts w (f x) h g)) ∙ e in
    let all : whole (p (f x)) ≡ Some y = ap (λ (b : Bool). elim b [ true ↦ whole (p (f x)) | false ↦ None ]) (sym same)
    ∙ cut in
    let t = whole_told (p (f x)) y all in
    let a = s.sure x [] t.0 good (ap p (append-nil (f x)) ∙ t.1) in
    sym t.2 ∙ ap (λ (v : X × Items). v.0) a

-- Activities up to the end

abbrev to_end : List FrozenActivity → List Text
to_end xs = (map activity_line xs ++ codes "end" ∷ []) ++ [] ∷ []

was_one_more : (o : Option FrozenActivity) (os : Option (List FrozenActivity)) (xs : List FrozenActivity)
    → with_activity o os ≡ Some xs
    → (x : FrozenActivity) × (ys : List FrozenActivity) × (o ≡ Some x) × (os ≡ Some ys) × (x ∷ ys ≡ xs)
was_one_more None os xs e = absurd cc
was_one_more (Some x) None xs e = absurd cc
was_one_more (Some x) (Some ys) xs e = (x, ys, refl, refl, some_same (x ∷ ys) xs e)

activities_sure : (xs ys : List FrozenActivity) → AreAll IsShapedActivity xs → activities_read (to_end xs) ≡ Some ys
    → ys ≡ xs
activities_sure [] ys h e = sym (some_same [] ys e)
activities_sure (x ∷ xs) ys h e =
    let w = was_one_more (line_read (codes "activity") activity (activity_line x)) (activities_read (to_end xs)) ys e in
    let first = line_sure (codes "activity") activity_sure x h.0 refl refl (activity_words x) w.0 w.2 in
    let others = activities_sure xs w.1 h.1 w.3 in
    sym w.4 ∙ (λ i. first i ∷ others i)

-- The whole text

same_as_itself : (t : Text) → same_text t t ≡ true
same_as_itself [] = refl
same_as_itself (b ∷ bs) = and_from _ _ (eq-eqb b b refl) (same_as_itself bs)

abbrev homes_line : FrozenShape → Text
homes_line f = line_of (codes "homes") (list_items (pair_items future_items name_items) f.homes)

abbrev filled_line : FrozenShape → Text
filled_line f = line_of (codes "filled") (list_items (pair_items future_items parcel_items) f.filled)

activities_lack : (xs : List FrozenActivity) → list_all (lacks 10) (map activity_line xs ++ codes "end" ∷ []) ≡ true
activities_lack [] = refl
activities_lack (x ∷ xs) =
    and_from _ _ (line_lacks (codes "activity") (activity_items x) refl (activity_words x)) (activities_lack xs)

lines_lack : (program : Text) (f : FrozenShape) → lacks 10 program ≡ true
    → list_all (lacks 10) (checkpoint_lines program f) ≡ true
lines_lack program f h =
    and_from _ _ refl (and_from _ _ (lacks-append 10 (codes "program ") program refl h)
    (and_from _ _ (line_lacks (codes "homes") (list_items (pair_items future_items name_items) f.homes) refl
    (homes_words f.homes))
    (and_from _ _ (line_lacks (codes "filled") (list_items (pair_items future_items parcel_items) f.filled) refl
    (filled_words f.filled)) (activities_lack f.activities))))

by_program : List Text → Bool → CheckpointReading
by_program ls b = elim b [ true ↦ body_read ls | false ↦ OtherProgram ]

-- the text is that of the program, so its lines from the third on are read
pub body_of : (program : Text) (f : FrozenShape) → lacks 10 program ≡ true
    → read_checkpoint program (checkpoint_text program f) ≡ body_read
    (homes_line f ∷ filled_line f ∷ to_end f.activities)
unfolding by_program
body_of program f h =
    ap (lines_read program) (parts_lines (checkpoint_lines program f) (lines_lack program f h))
    ∙ ap (by_program (homes_line f ∷ filled_line f ∷ to_end f.activities))
    (same_as_itself (codes "program " ++ program))

frozen_same : (g f : FrozenShape) → Reads g ≡ Reads f → g ≡ f
frozen_same g f e = cc

was_frozen : (hs : Option (List (FutureShape × Name))) (vs : Option (List (FutureShape × ParcelShape)))
    (xs : Option (List FrozenActivity)) (f : FrozenShape) → frozen_by hs vs xs ≡ Reads f
    → (hs ≡ Some f.homes) × (vs ≡ Some f.filled) × (xs ≡ Some f.activities)
was_frozen (Some hs) (Some vs) (Some xs) f e =
    let same = frozen_same (record { homes = hs; filled = vs; activities = xs }) f e in (
      ap (λ (g : FrozenShape). Some g.homes) same,
      ap (λ (g : FrozenShape). Some g.filled) same,
      ap
          (λ (g : FrozenShape). Some g.activities) same,
    )
was_frozen hs vs xs f e = absurd cc

never_other : (hs : Option (List (FutureShape × Name))) (vs : Option (List (FutureShape × ParcelShape)))
    (xs : Option (List FrozenActivity)) → frozen_by hs vs xs ≢ OtherProgram
never_other (Some hs) (Some vs) (Some xs) e = cc
never_other hs vs xs e = cc

-- each value in it has the terms that its nodes ask for
pub record IsShaped (f : FrozenShape) : Type 0 where
  pub filled : AreAll (λ v. IsAny v.0 × IsShapedParcel v.1) f.filled
  pub activities : AreAll IsShapedActivity f.activities

pub text_sure : (program : Text) (f g : FrozenShape) → lacks 10 program ≡ true → IsShaped f
    → read_checkpoint program (checkpoint_text program f) ≡ Reads g → g ≡ f
text_sure program f g h s e =
    let w = was_frozen (line_read (codes "homes") (list_of (both future name)) (homes_line f))
    (line_read (codes "filled") (list_of (both future parcel)) (filled_line f))
    (activities_read (to_end f.activities)) g (sym (body_of program f h) ∙ e) in
    let homes = line_sure (codes "homes") homes_sure f.homes tt refl refl (homes_words f.homes) g.homes w.0 in
    let filled = line_sure (codes "filled") filled_sure f.filled s.filled refl refl
    (filled_words f.filled) g.filled w.1 in
    let activities = activities_sure f.activities g.activities s.activities w.2 in
    (λ i. record { homes = homes i; filled = filled i; activities = activities i })

pub text_own : (program : Text) (f : FrozenShape) → lacks 10 program ≡ true
    → read_checkpoint program (checkpoint_text program f) ≢ OtherProgram
text_own program f h e = never_other _ _ _ (sym (body_of program f h) ∙ e)
