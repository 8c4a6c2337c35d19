-- Lists of terms that run or wait, against what the definition makes of them.
use Rattle.std.proofs.Common.{◌≡◌, ℕ, zero, suc, ◌+◌, ◌-◌, ◌<◌, Bool, true, false, List, [], ◌∷◌, ◌++◌, length, length-append, get_or, drop, map, Option, Some, None, refl, ap, sym, ◌∙◌, arith}
use Rattle.std.specs.Prelude.{◌&&◌, ◌==◌, nat_lt}
use Rattle.std.specs.List.{list_all}
use Rattle.std.proofs.lemmas.Bool.{false≢true}
use Rattle.std.proofs.lemmas.Bool.Decides.{nat_tests}
use Rattle.std.proofs.lemmas.List.{at_drop_more}
use Rattle.std.proofs.lemmas.List.Folds.{list_all-map}
use Rattle.asp_model.specs.declared.term.Term.{Term}
use Rattle.asp_model.specs.declared.word.Label.{Label}
use Rattle.asp_model.specs.Shapes.{tree_of}
use Rattle.asp_model.specs.Term.{Head, Loc, Hole, Tree, Trees, node, none, more, loc, locs_then, child_count, trees}
use Rattle.asp_model.specs.Split.{Context, Split, Stands, Splits, reduced_count, split, split_below}
use Rattle.code_table.specs.Parts.{field_label, field_tree}
use Rattle.code_laws.proofs.OpenLemmas.{count_locs, reduced_same}
use Rattle.checkpoint_text.specs.Items.{Items}
use Rattle.checkpoint_text.specs.Reading.{Reader, context_below, context_of, contexts_of, if_some, is_hole, plugged_by, running_of, some_of, told, waiting_of, with_context}
use Rattle.checkpoint_items.specs.declared.error.ReadError.{ReadError}
use Rattle.checkpoint_items.specs.Answers.{Refuses}
use Rattle.checkpoint_items.proofs.ListLemmas.{refused_by}
use Rattle.checkpoint_parts.specs.Shapes.{contexts_shape, or_hole, or_none, running_shape}
use Rattle.checkpoint_files.specs.declared.running.Inner.{Inner}
use Rattle.checkpoint_files.specs.declared.running.Inner.TheVariants as inner
use Rattle.checkpoint_files.specs.Running.{are_contexts, behind, child_of, first_of, first_open, inner_of, is_context, is_context_term, is_context_tree, is_running, is_waiting, open_by, runs_by}

abbrev pub found : {X : Type 0} → Option X → Bool
found None = false
found (Some x) = true

abbrev is_redex : Inner → Bool
is_redex inner.Redex = true
is_redex i = false

-- Contexts

only_is : (b : Bool) (c : Context) → found (elim b as (λ _. Option Context) [ true ↦ Some c | false ↦ None ]) ≡ b
only_is true c = refl
only_is false c = refl

none_at : (k : ℕ) → false ≡ is_context (first_open (first_of k none))
none_at zero = refl
none_at (suc k) = refl

place_at : (k m : ℕ) (us ts : Trees) → is_context (first_open (first_of (k - 1) ts))
    ≡ is_context (first_open (first_of k (more (node (Loc m) us) ts)))
place_at zero m us ts = refl
place_at (suc k) m us ts =
    let one : suc k - 1 ≡ k = omega arith in
    ap (λ (j : ℕ). is_context (first_open (first_of j ts))) one

-- a hole with m terms before it, of which the first n are reduced in place
hole_at : (m n : ℕ) (us ts : Trees) → nat_lt m n ≡ is_context (first_open (first_of (n - m) (more (node Hole us) ts)))
hole_at m n us ts = by (n - m) refl
  where
    by : (k : ℕ) → n - m ≡ k → nat_lt m n ≡ is_context (first_open (first_of (n - m) (more (node Hole us) ts)))
    by zero e =
        let no : nat_lt m n ≡ false = grind (arith, nat_tests) in
        no ∙ ap (λ (k : ℕ). is_context (first_open (first_of k (more (node Hole us) ts)))) (sym e)
    by (suc k) e =
        let yes : nat_lt m n ≡ true = grind (arith, nat_tests) in
        yes ∙ ap (λ (k : ℕ). is_context (first_open (first_of k (more (node Hole us) ts)))) (sym e)

other_at : (k : ℕ) (t : Tree) (ts : Trees) → child_of t ≡ inner.Open
    → false ≡ is_context (first_open (first_of k (more t ts)))
other_at zero t ts e = refl
other_at (suc k) t ts e = sym (ap (λ (i : Inner). is_context (behind i (first_open (first_of k ts)))) e)

context_is : (h : Head) (before : List ℕ) (ts : Trees) (n : ℕ) → n ≡ reduced_count h (locs_then before ts)
    → found (context_below h before ts) ≡ is_context (first_open (first_of (n - length before) ts))
context_is h before none n e = none_at (n - length before)
context_is h before (more (node (Loc m) us) ts) n e =
    let here : child_count (locs_then before (more (node (Loc m) us) ts)) ≡ length before + suc (child_count ts) =
    count_locs before (more (node (Loc m) us) ts) in
    let there : child_count (locs_then (before ++ m ∷ []) ts) ≡ length (before ++ m ∷ []) + child_count ts =
    count_locs (before ++ m ∷ []) ts in
    let long : length (before ++ m ∷ []) ≡ length before + 1 = length-append before (m ∷ []) in
    let counts : child_count (locs_then before (more (node (Loc m) us) ts))
    ≡ child_count (locs_then (before ++ m ∷ []) ts) = omega (arith, here, there, long) in
    let less : n - length (before ++ m ∷ []) ≡ (n - length before) - 1 = omega (arith, long) in
    context_is h (before ++ m ∷ []) ts n (e ∙ reduced_same h _ _ counts)
    ∙ ap (λ (k : ℕ). is_context (first_open (first_of k ts))) less
    ∙ place_at (n - length before) m us ts
context_is h before (more (node Hole us) ts) n e =
    let here : child_count (locs_then before (more (node Hole us) ts)) ≡ length before + suc (child_count ts) =
    count_locs before (more (node Hole us) ts) in
    let there : child_count (locs_then before (more (loc 0) ts)) ≡ length before + suc (child_count ts) =
    count_locs before (more (loc 0) ts) in
    only_is (nat_lt (length before) (reduced_count h (locs_then before (more (loc 0) ts)))) _
    ∙ ap (nat_lt (length before)) (sym (e ∙ reduced_same h _ _ (here ∙ sym there)))
    ∙ hole_at (length before) n us ts
context_is h before (more (node k us) ts) n e = other_at (n - length before) (node k us) ts refl

context_found : (t : Tree) → found (context_of t) ≡ is_context (inner_of t)
context_found (node (Loc n) ts) = context_is (Loc n) [] ts 0 refl
context_found (node h ts) =
    let all : reduced_count h ts - 0 ≡ reduced_count h ts = omega arith in
    context_is h [] ts (reduced_count h ts) refl ∙ ap (λ (k : ℕ). is_context (first_open (first_of k ts))) all

both_found : (c : Option Context) (cs : Option (List Context)) → found (with_context c cs) ≡ found c && found cs
both_found None cs = refl
both_found (Some c) None = refl
both_found (Some c) (Some cs) = refl

contexts_found : (ts : List Tree) → found (contexts_of ts) ≡ are_contexts ts
contexts_found [] = refl
contexts_found (t ∷ ts) = both_found (context_of t) (contexts_of ts) ∙ (λ i. context_found t i && contexts_found ts i)

-- Splits

abbrev found_whole : Split → Bool
found_whole (Stands n) = false
found_whole (Splits [] r) = true
found_whole (Splits (c ∷ cs) r) = false

abbrev NoPlace : Split → Type 0
NoPlace (Stands n) = ⊥
NoPlace (Splits cs r) = Unit {0}

splits_by : (h : Head) (n : ℕ) (places : List ℕ) (ts : Trees) (s : Split)
    → ((p : ℕ) → NoPlace (split_below h n (places ++ p ∷ []) ts))
    → NoPlace (elim s as (λ _. Split) [
      | Stands p ↦ split_below h n (places ++ p ∷ []) ts
      | Splits cs r ↦ Splits (cs ++ record { head = h; before = places; behind = ts } ∷ []) r
    ])
splits_by h n places ts (Stands p) ih = ih p
splits_by h n places ts (Splits cs r) ih = tt

splits_below : (h : Head) (n : ℕ) (places : List ℕ) (ts : Trees) → NoPlace (split_below h n places ts)
splits_below h n places none = tt
splits_below h zero places (more t ts) = tt
splits_below h (suc n) places (more t ts) = splits_by h n places ts (split t)
    (λ p. splits_below h n (places ++ p ∷ []) ts)

not_whole : (h : Head) (n : ℕ) (places : List ℕ) (ts : Trees) (s : Split) → NoPlace s
    → found_whole (elim s as (λ _. Split) [
      | Stands p ↦ split_below h n (places ++ p ∷ []) ts
      | Splits cs r ↦ Splits (cs ++ record { head = h; before = places; behind = ts } ∷ []) r
    ]) ≡ false
not_whole h n places ts (Stands p) b = absurd b
not_whole h n places ts (Splits [] r) b = refl
not_whole h n places ts (Splits (c ∷ cs) r) b = refl

whole_is : (h : Head) (n : ℕ) (places : List ℕ) (ts : Trees)
    → found_whole (split_below h n places ts) ≡ is_redex (first_open (first_of n ts))
whole_is h zero places none = refl
whole_is h (suc n) places none = refl
whole_is h zero places (more t ts) = refl
whole_is h (suc n) places (more (node (Loc m) us) ts) = whole_is h n (places ++ m ∷ []) ts
whole_is h (suc n) places (more (node k us) ts) = not_whole h n places ts (split_below k (reduced_count k us) [] us)
    (splits_below k (reduced_count k us) [] us)

-- Terms that run

abbrev NotPlace : Inner → Type 0
NotPlace inner.Place = ⊥
NotPlace i = Unit {0}

behind_none : (i rest : Inner) → NotPlace rest → NotPlace (behind i rest)
behind_none inner.Place rest b = b
behind_none inner.Redex rest b = tt
behind_none inner.Context rest b = tt
behind_none inner.Open rest b = tt

no_place : (ts : List Tree) → NotPlace (first_open ts)
no_place [] = tt
no_place (t ∷ ts) = behind_none (child_of t) (first_open ts) (no_place ts)

runs_as : (i : Inner) (ts : List Tree) → NotPlace i → runs_by i ts ≡ is_redex i && are_contexts ts
runs_as inner.Place ts b = absurd b
runs_as inner.Redex ts b = refl
runs_as inner.Context ts b = refl
runs_as inner.Open ts b = refl

plugged_is : (s : Split) (t : Tree) (cs : Option (List Context)) → found (plugged_by s t cs) ≡ found_whole s && found cs
plugged_is (Stands n) t cs = refl
plugged_is (Splits [] r) t None = refl
plugged_is (Splits [] r) t (Some cs) = refl
plugged_is (Splits (d ∷ ds) r) t cs = refl

by_redex : (h : Head) (us : Trees) (s : Split) (ts : List Tree)
    → found_whole s ≡ is_redex (first_open (first_of (reduced_count h us) us))
    → found (plugged_by s (node h us) (contexts_of ts)) ≡ runs_by (first_open (first_of (reduced_count h us) us)) ts
by_redex h us s ts e =
    plugged_is s (node h us) (contexts_of ts) ∙ (λ i. e i && contexts_found ts i)
    ∙ sym (runs_as (first_open (first_of (reduced_count h us) us)) ts (no_place (first_of (reduced_count h us) us)))

pub runs_is : (ts : List Tree) → found (running_of ts) ≡ is_running ts
runs_is [] = refl
runs_is (node (Loc n) us ∷ []) = refl
runs_is (node (Loc n) us ∷ t ∷ ts) = refl
runs_is (node h us ∷ ts) = by_redex h us (split_below h (reduced_count h us) [] us) ts
    (whole_is h (reduced_count h us) [] us)

-- Terms that wait

hole_is : (t : Tree) → is_hole t ≡ is_context (child_of t)
hole_is (node (Loc n) ts) = refl
hole_is (node Hole ts) = refl
hole_is (node h ts) = refl

behind_hole : (b : Bool) (o : Option (List Context)) → found
    (elim b as (λ _. Option (List Context)) [ true ↦ o | false ↦ None ]) ≡ b && found o
behind_hole true o = refl
behind_hole false o = refl

pub waits_is : (ts : List Tree) → found (waiting_of ts) ≡ is_waiting ts
waits_is [] = refl
waits_is (t ∷ ts) = behind_hole (is_hole t) (contexts_of ts) ∙ (λ i. hole_is t i && contexts_found ts i)

-- What is read of them

no_more : {X : Type 0} (o : Option X) → found o ≡ false → o ≡ None
no_more None e = refl
no_more (Some x) e = absurd (false≢true (sym e))

a_tree : (o : Option Tree) → found o ≡ true → o ≡ Some (or_hole o)
a_tree None e = absurd (false≢true e)
a_tree (Some t) e = refl

some_contexts : (o : Option (List Context)) → found o ≡ true → o ≡ Some (or_none o)
some_contexts None e = absurd (false≢true e)
some_contexts (Some cs) e = refl

pub some_refused : {X Y : Type 0} (p : Reader X) (f : X → Option Y) (ws : Items) (e : ReadError) → Refuses (p ws) e
    → Refuses (some_of p f ws) e
some_refused {X = X} p f ws e r = refused_by (λ (o : Option (X × Items)). if_some (told f o)) refl (p ws) e r

some_told : {X Y : Type 0} (p : Reader X) (f : X → Option Y) (ws us : Items) (x : X) (y : Y) → p ws ≡ Some (x, us)
    → f x ≡ Some y → some_of p f ws ≡ Some (y, us)
some_told {X = X} {Y = Y} p f ws us x y e d = ap (λ (o : Option (X × Items)). if_some (told f o)) e
    ∙ ap (λ (o : Option Y). if_some (Some (o, us))) d

some_none : {X Y : Type 0} (p : Reader X) (f : X → Option Y) (ws us : Items) (x : X) → p ws ≡ Some (x, us)
    → f x ≡ None → some_of p f ws ≡ None
some_none {X = X} {Y = Y} p f ws us x e d = ap (λ (o : Option (X × Items)). if_some (told f o)) e
    ∙ ap (λ (o : Option Y). if_some (Some (o, us))) d

pub running_told : (p : Reader (List Tree)) (ws us : Items) (ts : List Tree) → p ws ≡ Some (ts, us)
    → is_running ts ≡ true → some_of p running_of ws ≡ Some (running_shape ts, us)
running_told p ws us ts e r = some_told p running_of ws us ts (running_shape ts) e
    (a_tree (running_of ts) (runs_is ts ∙ r))

pub running_none : (p : Reader (List Tree)) (ws us : Items) (ts : List Tree) → p ws ≡ Some (ts, us)
    → is_running ts ≡ false → some_of p running_of ws ≡ None
running_none p ws us ts e r = some_none p running_of ws us ts e (no_more (running_of ts) (runs_is ts ∙ r))

pub waiting_told : (p : Reader (List Tree)) (ws us : Items) (ts : List Tree) → p ws ≡ Some (ts, us)
    → is_waiting ts ≡ true → some_of p waiting_of ws ≡ Some (contexts_shape ts, us)
waiting_told p ws us ts e r = some_told p waiting_of ws us ts (contexts_shape ts) e
    (some_contexts (waiting_of ts) (waits_is ts ∙ r))

pub waiting_none : (p : Reader (List Tree)) (ws us : Items) (ts : List Tree) → p ws ≡ Some (ts, us)
    → is_waiting ts ≡ false → some_of p waiting_of ws ≡ None
waiting_none p ws us ts e r = some_none p waiting_of ws us ts e (no_more (waiting_of ts) (waits_is ts ∙ r))

-- The terms of a node, one after the other

behind_behind : (a b c : Inner) → behind (behind a b) c ≡ behind a (behind b c)
behind_behind inner.Place b c = refl
behind_behind inner.Redex b c = refl
behind_behind inner.Context b c = refl
behind_behind inner.Open b c = refl

open_is : {X : Type 0} (f : X → Tree) (first : Inner) (xs : List X)
    → open_by f first xs ≡ behind first (first_open (map f xs))
open_is f first [] = refl
open_is f first (x ∷ xs) = open_is f (behind first (child_of (f x))) xs
    ∙ behind_behind first (child_of (f x)) (first_open (map f xs))

-- one more of them
pub open_more : {X : Type 0} (f : X → Tree) (first next : Inner) (xs : List X) (i : ℕ) (x : X) → i < length xs
    → next ≡ behind first (child_of (f (get_or xs i x)))
    → open_by f next (drop (i + 1) xs) ≡ open_by f first (drop i xs)
open_more f first next xs i x h e =
    ap (λ (o : Inner). open_by f o (drop (i + 1) xs)) e
    ∙ sym (at_drop_more (open_by f first) xs i x h)

all_below : (ts : List Term) → first_of (child_count (trees (map tree_of ts))) (trees (map tree_of ts)) ≡ map tree_of ts
all_below [] = refl
all_below (t ∷ ts) = ap (λ (us : List Tree). tree_of t ∷ us) (all_below ts)

fields_below : (fs : List (Label × Term)) (us : List Tree)
    → first_of (length (map field_label fs)) (trees (map field_tree fs ++ us)) ≡ map field_tree fs
fields_below [] us = refl
fields_below (f ∷ fs) us = ap (λ (ts : List Tree). field_tree f ∷ ts) (fields_below fs us)

pub all_open : (ts : List Term)
    → first_open (first_of (child_count (trees (map tree_of ts))) (trees (map tree_of ts)))
    ≡ open_by tree_of inner.Place ts
all_open ts = ap first_open (all_below ts) ∙ sym (open_is tree_of inner.Place ts)

pub fields_open : (fs : List (Label × Term)) (us : List Tree)
    → first_open (first_of (length (map field_label fs)) (trees (map field_tree fs ++ us)))
    ≡ open_by field_tree inner.Place fs
fields_open fs us = ap first_open (fields_below fs us) ∙ sym (open_is field_tree inner.Place fs)

pub ruleset opens = (all_open, fields_open)

-- Lists of contexts

pub all_contexts : (ts : List Term) → list_all is_context_term ts ≡ are_contexts (map tree_of ts)
all_contexts ts = sym (list_all-map is_context_tree tree_of ts)

pub place_alone : (ts : List Term) → (length ts == 0) ≡ runs_by inner.Place (map tree_of ts)
place_alone [] = refl
place_alone (t ∷ ts) = grind (arith, nat_tests)
