-- A term whose places were named, and none of whose names begins with a digit, was opened.
use Rattle.std.proofs.Common.{◌≡◌, ℕ, suc, ◌+◌, ◌<◌, ◌≤◌, ◌^◌, ◌==◌, ◌||◌, Bool, true, false, List, [], ◌∷◌, ◌++◌, Some, None, length, map, refl, sym, ap, subst, ◌∙◌, arith}
use Rattle.std.specs.Fmt.{decimal}
use Rattle.std.specs.Char.{is_ascii_digit}
use Rattle.std.specs.Str.{all_ascii_digits}
use Rattle.std.proofs.lemmas.Bool.{and_parts}
use Rattle.std.proofs.lemmas.Bool.Decides.{nat_tests}
use Rattle.std.proofs.lemmas.Fmt.{decimal_injective, decimal_nonempty}
use Rattle.std.proofs.lemmas.Slice.Eq.{bytes_eq-Decides}
use Rattle.asp_model.specs.Names.{Text, same_text}
use Rattle.asp_model.specs.Parcel.{has_place}
use Rattle.asp_model.specs.Readable.{HasArity}
use Rattle.asp_model.specs.Shapes.{tree_of}
use Rattle.asp_model.specs.Term.{Head, Loc, Var, Let, Make, MethodHead, Tree, Trees, node, none, more, Environment, binders, child_count, has_text, location_of, without}
use Rattle.law_programs.specs.Proper.{IsProper, AreProper}
use Rattle.law_reports.proofs.DigitLemmas.{decimal_digits}
use Rattle.frozen_code.specs.declared.held.Opened.{Opened}
use Rattle.frozen_code.specs.Held.{IsOpened}
use Rattle.frozen_code.specs.Named.{places_named, IsApart, AreApart, named, NonesIn, IsNameable, AreNameable}
use Rattle.term_opening.specs.Naming.{Seen, with_new, begins_with_digit, with_name, with_names, noted, noted_below}
use Rattle.term_opening.specs.Named.{AreSmall}

absurd_truth : {A : Type 0} → false ≡ true → A
absurd_truth e = cc

-- Names of places

number_begins : (n : ℕ) → n < 2 ^ 64 → begins_with_digit (decimal n) ≡ true
number_begins n small = by (decimal n) (decimal_nonempty n small) (decimal_digits n)
  where
    by : (ds : Text) → 0 < length ds → all_ascii_digits ds ≡ true → begins_with_digit ds ≡ true
    by [] some all = absurd (omega (arith, some))
    by (d ∷ ds) some all = (and_parts (is_ascii_digit d) (all_ascii_digits ds) all).0

-- texts of which one begins with a digit, and the other does not
two_texts : (x y : Text) → begins_with_digit x ≡ true → begins_with_digit y ≡ false → same_text x y ≡ false
two_texts x y p q = by (same_text x y) refl
  where
    by : (b : Bool) → same_text x y ≡ b → same_text x y ≡ false
    by false e = e
    by true e = let same : x ≡ y = (bytes_eq-Decides x y).0 e in absurd_truth (sym q ∙ ap begins_with_digit (sym same) ∙ p)

same_place : (n k : ℕ) → n < 2 ^ 64 → k < 2 ^ 64 → same_text (decimal n) (decimal k) ≡ true → n ≡ k
same_place n k a b e = decimal_injective n k a b ((bytes_eq-Decides (decimal n) (decimal k)).0 e)

same_itself : (x : Text) → same_text x x ≡ true
same_itself x = (bytes_eq-Decides x x).1 refl

-- Sets of places

abbrev Distinct : List ℕ → Type 0
Distinct [] = Unit {0}
Distinct (p ∷ ps) = (has_place p ps ≡ false) × Distinct ps

not_same : (n p : ℕ) → (n == p) ≡ false → (p == n) ≡ false
not_same n p e = grind (arith, nat_tests)

lacks_step : (p n q : ℕ) (ps : List ℕ) (b : Bool) → (p == q) ≡ b → elim b [ true ↦ true | false ↦ has_place p ps ] ≡ false → (has_place p ps ≡ false → has_place p (ps ++ n ∷ []) ≡ false)
    → has_place p (q ∷ ps ++ n ∷ []) ≡ false
lacks_step p n q ps true is k later = absurd_truth (sym k)
lacks_step p n q ps false is k later = ap (λ (c : Bool). elim c [ true ↦ true | false ↦ has_place p (ps ++ n ∷ []) ]) is ∙ later k

lacks_more : (p n : ℕ) (ps : List ℕ) → (p == n) ≡ false → has_place p ps ≡ false → has_place p (ps ++ n ∷ []) ≡ false
lacks_more p n [] e h = ap (λ (b : Bool). elim b [ true ↦ true | false ↦ false ]) e
lacks_more p n (q ∷ ps) e h = lacks_step p n q ps (p == q) refl h (lacks_more p n ps e)

-- a place that is not among these differs from the first, and is not among the others
abbrev Lacks : ℕ → ℕ → List ℕ → Type 0
Lacks n p ps = ((n == p) ≡ false) × (has_place n ps ≡ false)

lacks_parts : (n p : ℕ) (ps : List ℕ) → has_place n (p ∷ ps) ≡ false → Lacks n p ps
lacks_parts n p ps h = by (n == p) refl h
  where
    by : (b : Bool) → (n == p) ≡ b → elim b [ true ↦ true | false ↦ has_place n ps ] ≡ false → Lacks n p ps
    by true is k = absurd_truth (sym k)
    by false is k = (is, k)

distinct_more : (n : ℕ) (ps : List ℕ) → has_place n ps ≡ false → Distinct ps → Distinct (ps ++ n ∷ [])
distinct_more n [] h d = (refl, tt)
distinct_more n (p ∷ ps) h d =
    let l : Lacks n p ps = lacks_parts n p ps h in
    (lacks_more p n ps (not_same n p l.0) d.0, distinct_more n ps l.1 d.1)

distinct_with : (n : ℕ) (ps : List ℕ) → Distinct ps → Distinct (with_new n ps)
distinct_with n ps d = by (has_place n ps) refl
  where
    by : (b : Bool) → has_place n ps ≡ b → Distinct (elim b [ true ↦ ps | false ↦ ps ++ n ∷ [] ])
    by true e = d
    by false e = distinct_more n ps e d

names_keep : (xs : List Text) (s : Seen) → (with_names xs s).places ≡ s.places
names_keep [] s = refl
names_keep (x ∷ xs) s = names_keep xs (with_name x s)

mutual
  distinct_noted : (s : Seen) (t : Tree) → Distinct s.places → Distinct (noted s t).places
  distinct_noted s (node (Loc n) ts) d = distinct_with n s.places d
  distinct_noted s (node (Var x) ts) d = d
  distinct_noted s (node h ts) d = distinct_below s (binders h) ts d

  distinct_below : (s : Seen) (names : List (List Text)) (ts : Trees) → Distinct s.places → Distinct (noted_below s names ts).places
  distinct_below s names none d = d
  distinct_below s [] (more t ts) d = distinct_below (noted s t) [] ts (distinct_noted s t d)
  distinct_below s (xs ∷ names) (more t ts) d =
      distinct_below (noted (with_names xs s) t) names ts (distinct_noted (with_names xs s) t (subst Distinct (sym (names_keep xs s)) d))

-- Names of a set

small_step : (n p : ℕ) (ps : List ℕ) → p < 2 ^ 64 → (has_place n ps ≡ true → n < 2 ^ 64) → (b : Bool) → (n == p) ≡ b → elim b [ true ↦ true | false ↦ has_place n ps ] ≡ true → n < 2 ^ 64
small_step n p ps low later true e k = let is : n ≡ p = grind (arith, nat_tests, e) in subst (λ (m : ℕ). m < 2 ^ 64) (sym is) low
small_step n p ps low later false e k = later k

small_of : (n : ℕ) (ps : List ℕ) → AreSmall ps → has_place n ps ≡ true → n < 2 ^ 64
small_of n [] s h = absurd_truth h
small_of n (p ∷ ps) s h = small_step n p ps s.0 (small_of n ps s.1) (n == p) refl h

-- each of these places has its name
past : (n p : ℕ) (ps : List ℕ) (b : Bool) → (n == p) ≡ b → same_text (decimal n) (decimal p) ≡ false → elim b [ true ↦ true | false ↦ has_place n ps ] ≡ true → has_place n ps ≡ true
past n p ps true e other k =
    let is : n ≡ p = grind (arith, nat_tests, e) in
    absurd_truth (sym other ∙ ap (λ (m : ℕ). same_text (decimal n) (decimal m)) (sym is) ∙ same_itself (decimal n))
past n p ps false e other k = k

located_step : (n p : ℕ) (ps : List ℕ) → n < 2 ^ 64 → p < 2 ^ 64 → has_place n (p ∷ ps) ≡ true → (has_place n ps ≡ true → location_of (decimal n) (places_named (map decimal ps) ps) ≡ Some n)
    → (b : Bool) → same_text (decimal n) (decimal p) ≡ b → elim b [ true ↦ Some p | false ↦ location_of (decimal n) (places_named (map decimal ps) ps) ] ≡ Some n
located_step n p ps low small h later true e = ap Some (sym (same_place n p low small e))
located_step n p ps low small h later false e = later (past n p ps (n == p) refl e h)

located : (n : ℕ) (ps : List ℕ) → AreSmall ps → has_place n ps ≡ true → location_of (decimal n) (places_named (map decimal ps) ps) ≡ Some n
located n [] s h = absurd_truth h
located n (p ∷ ps) s h = located_step n p ps (small_of n (p ∷ ps) s h) s.0 h (located n ps s.1) (same_text (decimal n) (decimal p)) refl

apart_from : (p : ℕ) (ps : List ℕ) → p < 2 ^ 64 → AreSmall ps → has_place p ps ≡ false → IsApart (decimal p) (map decimal ps)
apart_from p [] low s h = tt
apart_from p (q ∷ ps) low s h = (by (same_text (decimal q) (decimal p)) refl, apart_from p ps low s.1 l.1)
  where
    l : Lacks p q ps
    l = lacks_parts p q ps h

    by : (b : Bool) → same_text (decimal q) (decimal p) ≡ b → same_text (decimal q) (decimal p) ≡ false
    by false e = e
    by true e =
        let is : q ≡ p = same_place q p s.0 low e in
        let differ : (p == q) ≡ true = grind (arith, nat_tests, is) in
        absurd_truth (sym l.0 ∙ differ)

names_apart : (ps : List ℕ) → AreSmall ps → Distinct ps → AreApart (map decimal ps)
names_apart [] s d = tt
names_apart (p ∷ ps) s d = (apart_from p ps s.0 s.1 d.0, names_apart ps s.1 d.1)

same_size : (ps : List ℕ) → length (map decimal ps) ≡ length ps
same_size [] = refl
same_size (p ∷ ps) = ap suc (same_size ps)

-- Other names

abbrev names : List ℕ → Environment
names qs = places_named (map decimal qs) qs

no_place : (qs : List ℕ) → AreSmall qs → (x : Text) → begins_with_digit x ≡ false → location_of x (names qs) ≡ None
no_place [] s x q = refl
no_place (p ∷ qs) s x q =
    let other : same_text x (decimal p) ≡ false = turned (two_texts (decimal p) x (number_begins p s.0) q) in
    ap (λ (b : Bool). elim b [ true ↦ Some p | false ↦ location_of x (names qs) ]) other ∙ no_place qs s.1 x q
  where
    turned : same_text (decimal p) x ≡ false → same_text x (decimal p) ≡ false
    turned e = by (same_text x (decimal p)) refl
      where
        by : (b : Bool) → same_text x (decimal p) ≡ b → same_text x (decimal p) ≡ false
        by false h = h
        by true h = let is : x ≡ decimal p = (bytes_eq-Decides x (decimal p)).0 h in
            absurd_truth (sym e ∙ ap (λ (y : Text). same_text (decimal p) y) is ∙ same_itself (decimal p))

-- none of these begins with a digit
abbrev ArePlain : List Text → Type 0
ArePlain [] = Unit {0}
ArePlain (x ∷ xs) = (begins_with_digit x ≡ false) × ArePlain xs

not_among : (p : ℕ) → p < 2 ^ 64 → (xs : List Text) → ArePlain xs → has_text (decimal p) xs ≡ false
not_among p low [] h = refl
not_among p low (x ∷ xs) h = ap (λ (b : Bool). b || has_text (decimal p) xs) (two_texts (decimal p) x (number_begins p low) h.0) ∙ not_among p low xs h.1

none_without : (qs : List ℕ) → AreSmall qs → (xs : List Text) → ArePlain xs → without xs (names qs) ≡ names qs
none_without [] s xs h = refl
none_without (p ∷ qs) s xs h =
    ap (λ (b : Bool). elim b [ true ↦ without xs (names qs) | false ↦ (decimal p, p) ∷ without xs (names qs) ]) (not_among p s.0 xs h)
    ∙ ap (λ (e : Environment). (decimal p, p) ∷ e) (none_without qs s.1 xs h)

-- What was noted is among these, and begins with no digit

pub record IsGood (ps : List ℕ) (s : Seen) : Type 0 where
  pub places : (n : ℕ) → has_place n s.places ≡ true → has_place n ps ≡ true
  pub clash : s.clash ≡ false

or_parts : (b c : Bool) → (b || c) ≡ false → (b ≡ false) × (c ≡ false)
or_parts false c e = (refl, e)
or_parts true c e = absurd_truth (sym e)

more_step : (n m q : ℕ) (qs : List ℕ) → (has_place n qs ≡ true → has_place n (qs ++ m ∷ []) ≡ true) → (b : Bool) → (n == q) ≡ b → elim b [ true ↦ true | false ↦ has_place n qs ] ≡ true
    → elim (n == q) [ true ↦ true | false ↦ has_place n (qs ++ m ∷ []) ] ≡ true
more_step n m q qs later true e k = ap (λ (b : Bool). elim b [ true ↦ true | false ↦ has_place n (qs ++ m ∷ []) ]) e
more_step n m q qs later false e k = ap (λ (b : Bool). elim b [ true ↦ true | false ↦ has_place n (qs ++ m ∷ []) ]) e ∙ later k

has_more : (n m : ℕ) (qs : List ℕ) → has_place n qs ≡ true → has_place n (qs ++ m ∷ []) ≡ true
has_more n m [] h = absurd_truth h
has_more n m (q ∷ qs) h = more_step n m q qs (has_more n m qs) (n == q) refl h

last_step : (n q : ℕ) (qs : List ℕ) → has_place n (qs ++ n ∷ []) ≡ true → (b : Bool) → (n == q) ≡ b → elim (n == q) [ true ↦ true | false ↦ has_place n (qs ++ n ∷ []) ] ≡ true
last_step n q qs later true e = ap (λ (b : Bool). elim b [ true ↦ true | false ↦ has_place n (qs ++ n ∷ []) ]) e
last_step n q qs later false e = ap (λ (b : Bool). elim b [ true ↦ true | false ↦ has_place n (qs ++ n ∷ []) ]) e ∙ later

itself : (n : ℕ) → (n == n) ≡ true
itself n = grind (arith, nat_tests)

has_last : (n : ℕ) (qs : List ℕ) → has_place n (qs ++ n ∷ []) ≡ true
has_last n [] = ap (λ (b : Bool). elim b [ true ↦ true | false ↦ false ]) (itself n)
has_last n (q ∷ qs) = last_step n q qs (has_last n qs) (n == q) refl

has_with : (n m : ℕ) (qs : List ℕ) → has_place n qs ≡ true → has_place n (with_new m qs) ≡ true
has_with n m qs h = by (has_place m qs)
  where
    by : (b : Bool) → has_place n (elim b [ true ↦ qs | false ↦ qs ++ m ∷ [] ]) ≡ true
    by true = h
    by false = has_more n m qs h

has_new : (n : ℕ) (qs : List ℕ) → has_place n (with_new n qs) ≡ true
has_new n qs = by (has_place n qs) refl
  where
    by : (b : Bool) → has_place n qs ≡ b → has_place n (elim b [ true ↦ qs | false ↦ qs ++ n ∷ [] ]) ≡ true
    by true e = e
    by false e = has_last n qs

name_back : (ps : List ℕ) (x : Text) (s : Seen) → IsGood ps (with_name x s) → IsGood ps s × (begins_with_digit x ≡ false)
name_back ps x s g = let two = or_parts s.clash (begins_with_digit x) g.clash in (record { places = g.places; clash = two.0 }, two.1)

names_back : (ps : List ℕ) (xs : List Text) (s : Seen) → IsGood ps (with_names xs s) → IsGood ps s × ArePlain xs
names_back ps [] s g = (g, tt)
names_back ps (x ∷ xs) s g =
    let rest = names_back ps xs (with_name x s) g in
    let here = name_back ps x s rest.0 in
    (here.0, (here.1, rest.1))

mutual
  noted_back : (ps : List ℕ) (s : Seen) (t : Tree) → IsGood ps (noted s t) → IsGood ps s
  noted_back ps s (node (Loc n) ts) g = record { places = λ m h. g.places m (has_with m n s.places h); clash = g.clash }
  noted_back ps s (node (Var x) ts) g = (name_back ps x s g).0
  noted_back ps s (node h ts) g = below_back ps s (binders h) ts g

  below_back : (ps : List ℕ) (s : Seen) (names : List (List Text)) (ts : Trees) → IsGood ps (noted_below s names ts) → IsGood ps s
  below_back ps s bs none g = g
  below_back ps s [] (more t ts) g = noted_back ps s t (below_back ps (noted s t) [] ts g)
  below_back ps s (xs ∷ bs) (more t ts) g = (names_back ps xs s (noted_back ps (with_names xs s) t (below_back ps (noted (with_names xs s) t) bs ts g))).0

-- So the term is nameable

childless : (ts : Trees) → child_count ts ≡ 0 → ts ≡ none
childless none e = refl
childless (more t ts) e = absurd (omega (arith, e))

count_binders : (h : Head) (n : ℕ) → HasArity h n → length (binders h) ≤ n
count_binders (Let x) n a = omega (arith, a)
count_binders (Make fields methods) n a = let long = both fields methods in omega (arith, a, long)
  where
    heads : (ms : List MethodHead) → length (map (λ (m : MethodHead). m.slf ∷ m.parameters) ms) ≡ length ms
    heads [] = refl
    heads (m ∷ ms) = ap suc (heads ms)

    both : (fs : List Text) (ms : List MethodHead) → length (map (λ (f : Text). let no_name : List Text = [] in no_name) fs ++ map (λ (m : MethodHead). m.slf ∷ m.parameters) ms) ≡ length fs + length ms
    both [] ms = let none : length ms ≡ 0 + length ms = omega arith in heads ms ∙ none
    both (f ∷ fs) ms = let one : suc (length fs + length ms) ≡ suc (length fs) + length ms = omega arith in ap suc (both fs ms) ∙ one
count_binders _ n a = omega arith

mutual
  nameable : (ps : List ℕ) → AreSmall ps → (bound : List Text) (s : Seen) (t : Tree) → IsProper bound t → IsGood ps (noted s t) → IsNameable decimal (names ps) t
  nameable ps small bound s (node (Loc n) ts) p g = ((located n ps small (g.places n (has_new n s.places)), childless ts p.1), tt, none_nameable ps ts (childless ts p.1))
  nameable ps small bound s (node (Var x) ts) p g = ((no_place ps small x (name_back ps x s g).1, childless ts p.1), tt, none_nameable ps ts (childless ts p.1))
  nameable ps small bound s (node h ts) p g = (tt, plain_names ps small s (binders h) ts (count_binders h (child_count ts) p.1) g, all_nameable ps small bound s (binders h) (binders h) ts p.2 g)

  none_nameable : (ps : List ℕ) (ts : Trees) → ts ≡ none → AreNameable decimal (names ps) ts
  none_nameable ps none e = tt
  none_nameable ps (more t ts) e = absurd (omega (arith, ap child_count e))

  plain_names : (ps : List ℕ) → AreSmall ps → (s : Seen) (bs : List (List Text)) (ts : Trees) → length bs ≤ child_count ts → IsGood ps (noted_below s bs ts) → NonesIn (names ps) bs
  plain_names ps small s [] ts long g = tt
  plain_names ps small s (xs ∷ bs) none long g = absurd (omega (arith, long))
  plain_names ps small s (xs ∷ bs) (more t ts) long g =
      let less : length bs ≤ child_count ts = omega (arith, long) in
      (none_without ps small xs (names_back ps xs s (noted_back ps (with_names xs s) t (below_back ps (noted (with_names xs s) t) bs ts g))).1, plain_names ps small (noted (with_names xs s) t) bs ts less g)

  all_nameable : (ps : List ℕ) → AreSmall ps → (bound : List Text) (s : Seen) (bs cs : List (List Text)) (ts : Trees) → AreProper bound cs ts → IsGood ps (noted_below s bs ts) → AreNameable decimal (names ps) ts
  all_nameable ps small bound s bs cs none p g = tt
  all_nameable ps small bound s [] [] (more t ts) p g = (nameable ps small bound s t p.0 (below_back ps (noted s t) [] ts g), all_nameable ps small bound (noted s t) [] [] ts p.1 g)
  all_nameable ps small bound s [] (ys ∷ cs) (more t ts) p g = (nameable ps small (ys ++ bound) s t p.0 (below_back ps (noted s t) [] ts g), all_nameable ps small bound (noted s t) [] cs ts p.1 g)
  all_nameable ps small bound s (xs ∷ bs) [] (more t ts) p g =
      (nameable ps small bound (with_names xs s) t p.0 (below_back ps (noted (with_names xs s) t) bs ts g), all_nameable ps small bound (noted (with_names xs s) t) bs [] ts p.1 g)
  all_nameable ps small bound s (xs ∷ bs) (ys ∷ cs) (more t ts) p g =
      (nameable ps small (ys ++ bound) (with_names xs s) t p.0 (below_back ps (noted (with_names xs s) t) bs ts g), all_nameable ps small bound (noted (with_names xs s) t) bs cs ts p.1 g)

abbrev pub nothing_seen : Seen
nothing_seen = record { places = []; clash = false }

pub is_opened : (t : Tree) (x : Opened) → IsProper [] t → (noted nothing_seen t).clash ≡ false → AreSmall (noted nothing_seen t).places
    → x.names.items ≡ map decimal (noted nothing_seen t).places → x.places.items ≡ (noted nothing_seen t).places → tree_of x.term ≡ named decimal t → IsOpened x t
is_opened t x proper clash small own held term =
    let ps : List ℕ = (noted nothing_seen t).places in
    record {
      name = decimal;
      apart = subst AreApart (sym own) (names_apart ps small (distinct_noted nothing_seen t tt));
      size = ap length own ∙ same_size ps ∙ ap length (sym held);
      nameable = subst (λ e. IsNameable decimal e t) (λ i. places_named (sym own i) (sym held i)) (nameable ps small [] nothing_seen t proper (record { places = λ n h. h; clash = clash }));
      term = term;
    }

pub opens : (t u : Tree) (first seen : Seen) (x : Opened) → IsProper [] t → first.places ≡ [] → first.clash ≡ false → u ≡ t → seen ≡ noted first u → seen.clash ≡ false → AreSmall seen.places
    → x.names.items ≡ map decimal seen.places → x.places.items ≡ seen.places → tree_of x.term ≡ named decimal u → IsOpened x t
opens t u first seen x proper blank clear same is clash small own held term =
    let start : first ≡ nothing_seen = λ i. record { places = blank i; clash = clear i } in
    let whole : seen ≡ noted nothing_seen t = is ∙ (λ i. noted (start i) (same i)) in
    is_opened t x proper (ap (λ (s : Seen). s.clash) (sym whole) ∙ clash) (subst (λ (s : Seen). AreSmall s.places) whole small)
    (own ∙ ap (λ (s : Seen). map decimal s.places) whole) (held ∙ ap (λ (s : Seen). s.places) whole) (term ∙ ap (named decimal) same)
