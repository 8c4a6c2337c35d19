-- The lines of a checkpoint, and the whole text.
use Rattle.std.proofs.Common.{◌≡◌, ℕ, Bool, true, false, List, [], ◌∷◌, ◌++◌, map, Option, Some, None, refl, sym, ap, subst, ◌∙◌, append_assoc}
use Rattle.std.specs.Prelude.{◌==◌, codes}
use Rattle.std.specs.List.{flat_map, list_all, onto_first}
use Rattle.std.proofs.lemmas.Bool.{and_from, eq-eqb, eqb-true}
use Rattle.std.proofs.lemmas.List.{append-nil}
use Rattle.asp_model.specs.Names.{Name, FutureShape, Text, same_text}
use Rattle.asp_model.specs.Parcel.{ParcelShape}
use Rattle.asp_model.specs.Report.{text_of}
use Rattle.asp_model.specs.ReportLines.{parts}
use Rattle.code_laws.proofs.TwiceLemmas.{text_same}
use Rattle.law_frozen.specs.Frozen.{FrozenActivity, FrozenShape}
use Rattle.law_reports.proofs.PartsLemmas.{lacks, lacks-append, parts_one, parts_at, parts_lines}
use Rattle.checkpoint_text.specs.Items.{Items, list_items, pair_items, name_items, future_items, parcel_items}
use Rattle.checkpoint_text.specs.Lines.{activity_items, line_of, checkpoint_lines, checkpoint_text}
use Rattle.checkpoint_text.specs.Reading.{Reader, list_of, both, name, future, parcel, activity, whole, line_by, line_read, at_end, with_activity, activities_read, CheckpointReading, Reads, OtherProgram, Malformed, frozen_by, body_read, lines_read, read_checkpoint}
use Rattle.checkpoint_text.specs.Writable.{AreAll, IsActivity, IsWritable}
use Rattle.checkpoint_text.proofs.NumberLemmas.{some_same}
use Rattle.checkpoint_text.proofs.CodecLemmas.{IsCodec}
use Rattle.checkpoint_text.proofs.ValueLemmas.{activity_codec, homes_codec, filled_codec}
use Rattle.checkpoint_text.proofs.WordLemmas.{AreWords, activity_words, homes_words, filled_words}

-- Texts cut at a byte, and joined again

words_are_parts : (w : Text) (ws : Items) → lacks 32 w ≡ true → AreWords ws → parts 32 (line_of w ws) ≡ w ∷ ws
words_are_parts w [] h g = ap (parts 32) (append-nil w) ∙ parts_one 32 w h
words_are_parts w (v ∷ ws) h g = parts_at 32 w (line_of v ws) h ∙ ap (λ (us : Items). w ∷ us) (words_are_parts v ws g.0.1 g.1)

rest_lacks : (ws : Items) → AreWords ws → lacks 10 (flat_map (λ i. codes " " ++ i) ws) ≡ true
rest_lacks [] g = refl
rest_lacks (w ∷ ws) g = lacks-append 10 (32 ∷ w) (flat_map (λ i. codes " " ++ i) ws) (and_from _ _ refl g.0.0) (rest_lacks ws g.1)

line_lacks : (w : Text) (ws : Items) → lacks 10 w ≡ true → AreWords ws → lacks 10 (line_of w ws) ≡ true
line_lacks w ws h g = lacks-append 10 w (flat_map (λ i. codes " " ++ i) ws) h (rest_lacks ws g)

-- parts with the byte between
abbrev unparts : ℕ → List Text → Text
unparts c [] = []
unparts c (w ∷ ws) = w ++ flat_map (λ i. c ∷ i) ws

cut_by : ℕ → List Text → Bool → List Text
cut_by b ps t = elim t [ true ↦ [] ∷ ps | false ↦ onto_first b ps ]

some_cut : (b : ℕ) (v : Text) (vs : List Text) (t : Bool) → (w : Text) × (ws : List Text) × (cut_by b (v ∷ vs) t ≡ w ∷ ws)
unfolding cut_by
some_cut b v vs true = ([], v ∷ vs, refl)
some_cut b v vs false = (b ∷ v, vs, refl)

some_parts : (c : ℕ) (t : Text) → (w : Text) × (ws : List Text) × (parts c t ≡ w ∷ ws)
unfolding cut_by
some_parts c [] = ([], [], refl)
some_parts c (b ∷ bs) =
    let s = some_parts c bs in
    let r = some_cut b s.0 s.1 (b == c) in
    (r.0, r.1, ap (λ (ps : List Text). cut_by b ps (b == c)) s.2 ∙ r.2)

back_step : (c b : ℕ) (bs v : Text) (vs : List Text) (t : Bool) → (b == c) ≡ t → bs ≡ unparts c (v ∷ vs) → b ∷ bs ≡ unparts c (cut_by b (v ∷ vs) t)
unfolding cut_by
back_step c b bs v vs true h e = (λ i. eqb-true b c h i ∷ e i)
back_step c b bs v vs false h e = ap (λ (ds : Text). b ∷ ds) e

parts_back : (c : ℕ) (t : Text) → t ≡ unparts c (parts c t)
unfolding cut_by
parts_back c [] = refl
parts_back c (b ∷ bs) =
    let s = some_parts c bs in
    back_step c b bs s.0 s.1 (b == c) refl (parts_back c bs ∙ ap (unparts c) s.2)
    ∙ ap (λ (ps : List Text). unparts c (cut_by b ps (b == c))) (sym s.2)

one_feed : (ls : List Text) → flat_map (λ i. 10 ∷ i) (ls ++ [] ∷ []) ≡ 10 ∷ unparts 10 (ls ++ [] ∷ [])
one_feed [] = refl
one_feed (l ∷ ls) = refl

lines_joined : (ls : List Text) → unparts 10 (ls ++ [] ∷ []) ≡ text_of ls
lines_joined [] = refl
lines_joined (l ∷ ls) =
    ap (λ (t : Text). l ++ t) (one_feed ls) ∙ sym (append_assoc l (10 ∷ []) (unparts 10 (ls ++ [] ∷ [])))
    ∙ ap (λ (t : Text). (l ++ 10 ∷ []) ++ t) (lines_joined ls)

-- A line

line_gives : {X : Type 0} (w : Text) (p : Reader X) (f : X → Items) (P : X → Type 0) → IsCodec p f P → (x : X) → P x → lacks 32 w ≡ true → same_text w w ≡ true → AreWords (f x)
    → line_read w p (line_of w (f x)) ≡ Some x
line_gives {X} w p f P c x good h same g =
    ap (line_by w p) (words_are_parts w (f x) h g)
    ∙ ap (λ (b : Bool). elim b [ true ↦ whole (p (f x)) | false ↦ None ]) same
    ∙ ap (λ (items : Items). whole (p items)) (sym (append-nil (f x)))
    ∙ ap whole (c.gives x [] good)

whole_by : {X : Type 0} (y : X) (us : Items) (x : X) → whole (Some (y, us)) ≡ Some x → ◌≡◌ {A = Option (X × Items)} (Some (y, us)) (Some (x, []))
whole_by {X} y [] x e = ap {B = Option (X × Items)} (λ z. Some (z, [])) (some_same y x e)
whole_by y (u ∷ us) x e = absurd cc

whole_told : {X : Type 0} (o : Option (X × Items)) (x : X) → whole o ≡ Some x → o ≡ Some (x, [])
whole_told None x e = absurd cc
whole_told {X} (Some r) x e = whole_by r.0 r.1 x e

by_word : {X : Type 0} → Option X → Bool → Option X
by_word o b = elim b [ true ↦ o | false ↦ None ]

word_told : {X : Type 0} (o : Option X) (x : X) (b : Bool) → by_word o b ≡ Some x → (b ≡ true) × (o ≡ Some x)
unfolding by_word
word_told o x true e = (refl, e)
word_told o x false e = absurd cc

line_tells : {X : Type 0} (w : Text) (p : Reader X) (f : X → Items) (P : X → Type 0) → IsCodec p f P → (l : Text) (x : X) → line_read w p l ≡ Some x → (l ≡ line_of w (f x)) × P x
unfolding by_word
line_tells {X} w p f P c l x e =
    let s = some_parts 32 l in
    let t = word_told (whole (p s.1)) x (same_text s.0 w) (ap (line_by w p) (sym s.2) ∙ e) in
    let r = c.tells x s.1 [] (whole_told (p s.1) x t.1) in
    let first : s.0 ≡ w = text_same s.0 w t.0 in
    (parts_back 32 l ∙ ap (unparts 32) s.2 ∙ (λ i. line_of (first i) ((r.0 ∙ append-nil (f x)) i)), r.1)

-- Activities up to the end

abbrev pub activity_line : FrozenActivity → Text
activity_line x = line_of (codes "activity") (activity_items x)

abbrev to_end : List FrozenActivity → List Text
to_end xs = (map activity_line xs ++ codes "end" ∷ []) ++ [] ∷ []

activities_give : (xs : List FrozenActivity) → AreAll IsActivity xs → activities_read (to_end xs) ≡ Some xs
activities_give [] h = refl
activities_give (x ∷ xs) h =
    (λ i. with_activity (line_gives (codes "activity") activity activity_items IsActivity activity_codec x h.0 refl refl (activity_words x) i) (activities_give xs h.1 i))

end_told : (ls : List Text) (xs : List FrozenActivity) → at_end ls ≡ Some xs → (ls ≡ [] ∷ []) × (xs ≡ [])
end_told [] xs e = absurd cc
end_told ([] ∷ []) xs e = (refl, sym (some_same [] xs e))
end_told ([] ∷ l ∷ ls) xs e = absurd cc
end_told ((b ∷ bs) ∷ ls) xs e = absurd cc

was_one_more : (o : Option FrozenActivity) (os : Option (List FrozenActivity)) (xs : List FrozenActivity) → with_activity o os ≡ Some xs
    → (x : FrozenActivity) × (ys : List FrozenActivity) × (o ≡ Some x) × (os ≡ Some ys) × (x ∷ ys ≡ xs)
was_one_more None os xs e = absurd cc
was_one_more (Some x) None xs e = absurd cc
was_one_more (Some x) (Some ys) xs e = (x, ys, refl, refl, some_same (x ∷ ys) xs e)

by_end : Text → List Text → Option (List FrozenActivity) → Bool → Option (List FrozenActivity)
by_end l ls o b = elim b [ true ↦ at_end ls | false ↦ with_activity (line_read (codes "activity") activity l) o ]

IsToEnd : List Text → List FrozenActivity → Type 0
IsToEnd ls xs = (ls ≡ to_end xs) × AreAll IsActivity xs

end_or_more : (l : Text) (ls : List Text) (xs : List FrozenActivity) → ((ys : List FrozenActivity) → activities_read ls ≡ Some ys → IsToEnd ls ys)
    → (b : Bool) → same_text l (codes "end") ≡ b → by_end l ls (activities_read ls) b ≡ Some xs → IsToEnd (l ∷ ls) xs
unfolding by_end IsToEnd
end_or_more l ls xs again true h e =
    let t = end_told ls xs e in
    ((λ i. text_same l (codes "end") h i ∷ t.0 i) ∙ ap to_end (sym t.1), subst (AreAll IsActivity) (sym t.1) tt)
end_or_more l ls xs again false h e =
    let w = was_one_more (line_read (codes "activity") activity l) (activities_read ls) xs e in
    let first = line_tells (codes "activity") activity activity_items IsActivity activity_codec l w.0 w.2 in
    let others = again w.1 w.3 in
    ((λ i. first.0 i ∷ others.0 i) ∙ ap to_end w.4, subst (AreAll IsActivity) w.4 (first.1, others.1))

activities_tell : (ls : List Text) (xs : List FrozenActivity) → activities_read ls ≡ Some xs → IsToEnd ls xs
unfolding by_end IsToEnd
activities_tell [] xs e = absurd cc
activities_tell (l ∷ ls) xs e = end_or_more l ls xs (λ ys q. activities_tell ls ys q) (same_text l (codes "end")) refl e

-- The whole text

same_as_itself : (t : Text) → same_text t t ≡ true
same_as_itself [] = refl
same_as_itself (b ∷ bs) = and_from _ _ (eq-eqb b b refl) (same_as_itself bs)

abbrev homes_line : FrozenShape → Text
homes_line f = line_of (codes "homes") (list_items (pair_items future_items name_items) f.homes)

abbrev filled_line : FrozenShape → Text
filled_line f = line_of (codes "filled") (list_items (pair_items future_items parcel_items) f.filled)

activities_lack : (xs : List FrozenActivity) → list_all (lacks 10) (map activity_line xs ++ codes "end" ∷ []) ≡ true
activities_lack [] = refl
activities_lack (x ∷ xs) = and_from _ _ (line_lacks (codes "activity") (activity_items x) refl (activity_words x)) (activities_lack xs)

lines_lack : (program : Text) (f : FrozenShape) → lacks 10 program ≡ true → list_all (lacks 10) (checkpoint_lines program f) ≡ true
lines_lack program f h =
    and_from _ _ refl (and_from _ _ (lacks-append 10 (codes "program ") program refl h)
    (and_from _ _ (line_lacks (codes "homes") (list_items (pair_items future_items name_items) f.homes) refl (homes_words f.homes))
    (and_from _ _ (line_lacks (codes "filled") (list_items (pair_items future_items parcel_items) f.filled) refl (filled_words f.filled)) (activities_lack f.activities))))

body_gives : (f : FrozenShape) → IsWritable f → body_read (homes_line f ∷ filled_line f ∷ to_end f.activities) ≡ Reads f
body_gives f w = (λ i. frozen_by
    (line_gives (codes "homes") (list_of (both future name)) (list_items (pair_items future_items name_items)) _ homes_codec f.homes w.homes refl refl (homes_words f.homes) i)
    (line_gives (codes "filled") (list_of (both future parcel)) (list_items (pair_items future_items parcel_items)) _ filled_codec f.filled w.filled refl refl (filled_words f.filled) i)
    (activities_give f.activities w.activities i))

by_program : List Text → Bool → CheckpointReading
by_program ls b = elim b [ true ↦ body_read ls | false ↦ OtherProgram ]

by_title : Text → Text → List Text → Bool → CheckpointReading
by_title program p ls b = elim b [ false ↦ Malformed | true ↦ by_program ls (same_text p (codes "program " ++ program)) ]

pub checkpoint_is_read : (program : Text) (f : FrozenShape) → lacks 10 program ≡ true → IsWritable f → read_checkpoint program (checkpoint_text program f) ≡ Reads f
unfolding by_program
checkpoint_is_read program f h w =
    ap (lines_read program) (parts_lines (checkpoint_lines program f) (lines_lack program f h))
    ∙ ap (by_program (homes_line f ∷ filled_line f ∷ to_end f.activities)) (same_as_itself (codes "program " ++ program))
    ∙ body_gives f w

-- And back

frozen_same : (g f : FrozenShape) → Reads g ≡ Reads f → g ≡ f
frozen_same g f e = cc

was_frozen : (hs : Option (List (FutureShape × Name))) (vs : Option (List (FutureShape × ParcelShape))) (xs : Option (List FrozenActivity)) (f : FrozenShape) → frozen_by hs vs xs ≡ Reads f
    → (hs ≡ Some f.homes) × (vs ≡ Some f.filled) × (xs ≡ Some f.activities)
was_frozen (Some hs) (Some vs) (Some xs) f e =
    let same = frozen_same (record { homes = hs; filled = vs; activities = xs }) f e in
    (ap (λ (g : FrozenShape). Some g.homes) same, ap (λ (g : FrozenShape). Some g.filled) same, ap (λ (g : FrozenShape). Some g.activities) same)
was_frozen hs vs xs f e = absurd cc

IsBody : List Text → FrozenShape → Type 0
IsBody ls f = (ls ≡ homes_line f ∷ filled_line f ∷ to_end f.activities) × IsWritable f

body_tells : (ls : List Text) (f : FrozenShape) → body_read ls ≡ Reads f → IsBody ls f
unfolding IsBody IsToEnd
body_tells [] f e = absurd cc
body_tells (h ∷ []) f e = absurd cc
body_tells (h ∷ v ∷ ls) f e =
    let w = was_frozen (line_read (codes "homes") (list_of (both future name)) h) (line_read (codes "filled") (list_of (both future parcel)) v) (activities_read ls) f e in
    let homes = line_tells (codes "homes") (list_of (both future name)) (list_items (pair_items future_items name_items)) _ homes_codec h f.homes w.0 in
    let filled = line_tells (codes "filled") (list_of (both future parcel)) (list_items (pair_items future_items parcel_items)) _ filled_codec v f.filled w.1 in
    let activities = activities_tell ls f.activities w.2 in
    ((λ i. homes.0 i ∷ filled.0 i ∷ activities.0 i), record { homes = homes.1; filled = filled.1; activities = activities.1 })

title_told : (program p : Text) (ls : List Text) (f : FrozenShape) (b : Bool) → by_title program p ls b ≡ Reads f → (b ≡ true) × (by_program ls (same_text p (codes "program " ++ program)) ≡ Reads f)
unfolding by_title
title_told program p ls f true e = (refl, e)
title_told program p ls f false e = absurd cc

program_told : (ls : List Text) (f : FrozenShape) (b : Bool) → by_program ls b ≡ Reads f → (b ≡ true) × (body_read ls ≡ Reads f)
unfolding by_program
program_told ls f true e = (refl, e)
program_told ls f false e = absurd cc

lines_tell : (program : Text) (ls : List Text) (f : FrozenShape) → lines_read program ls ≡ Reads f → (ls ≡ checkpoint_lines program f ++ [] ∷ []) × IsWritable f
unfolding by_title by_program IsBody
lines_tell program [] f e = absurd cc
lines_tell program (t ∷ []) f e = absurd cc
lines_tell program (t ∷ p ∷ ls) f e =
    let a = title_told program p ls f (same_text t (codes "asp checkpoint 1")) e in
    let b = program_told ls f (same_text p (codes "program " ++ program)) a.1 in
    let body = body_tells ls f b.1 in
    ((λ i. text_same t (codes "asp checkpoint 1") a.0 i ∷ text_same p (codes "program " ++ program) b.0 i ∷ body.0 i), body.1)

pub what_is_read : (program t : Text) (f : FrozenShape) → read_checkpoint program t ≡ Reads f → (t ≡ checkpoint_text program f) × IsWritable f
what_is_read program t f e =
    let r = lines_tell program (parts 10 t) f e in
    (parts_back 10 t ∙ ap (unparts 10) r.0 ∙ lines_joined (checkpoint_lines program f), r.1)
