-- Terms that begin with a redex, or are a place, are what the whole term splits into.
use Rattle.std.proofs.Common.{◌≡◌, ◌⊎◌, inl, inr, ◌≤◌, ℕ, zero, suc, Bool, true, false, List, [], ◌∷◌, ◌++◌, ◌<◌, get_or, length, map, refl, sym, ap, subst, ◌∙◌, arith}
use Rattle.std.specs.Prelude.{◌&&◌, ◌||◌}
use Rattle.std.specs.List.{list_all}
use Rattle.std.proofs.lemmas.Bool.{false≢true}
use Rattle.asp_model.specs.declared.word.Label.{Label}
use Rattle.asp_model.specs.declared.term.Term.{Term}
use Rattle.asp_model.specs.Configuration.{ServiceShape}
use Rattle.asp_model.specs.Term.{Head, Loc, Tree, Trees, node, none, more, loc, locs_then, trees, child_count}
use Rattle.asp_model.specs.Shapes.{tree_of}
use Rattle.asp_model.specs.Split.{Context, Redex, Splits, reduced_count, split, plug}
use Rattle.code_table.specs.Parts.{field_label, field_tree}
use Rattle.code_laws.specs.Splitting.{redex_node, is_loc, IsRedex, AreContexts}
use Rattle.code_laws.proofs.SplitLemmas.{splits_one_way}
use Rattle.code_reading.specs.Shown.{IsShown, ServiceTerms, hole_tree}
use Rattle.checkpoint_text.specs.Items.{Items, list_items, running_items, split_items, term_items, terms_items}
use Rattle.checkpoint_text.proofs.WritingLemmas.{list_mapped}
use Rattle.frozen_runs.specs.Redexes.{are_places, is_bare, is_bare_field, is_bare_term, is_redex_tree, is_split}

-- Both of two tests

both_true : (a b : Bool) → a && b ≡ true → (a ≡ true) × (b ≡ true)
both_true true b e = (refl, e)
both_true false b e = absurd (false≢true e)

pub and_true : (b : Bool) → b && true ≡ b
and_true true = refl
and_true false = refl

-- Places

record IsPlace (t : Tree) : Type 0 where
  place : ℕ
  is : t ≡ loc place

bare_told : (t : Tree) → is_bare t ≡ true → IsPlace t
bare_told (node (Loc n) none) e = record { place = n; is = refl }
bare_told (node (Loc n) (more t ts)) e = absurd (false≢true e)
bare_told (node h ts) e = absurd (false≢true e)

-- the first n of these terms are places, as far as there are so many
record Begin (n : ℕ) (ts : Trees) : Type 0 where
  places : List ℕ
  behind : Trees
  are : ts ≡ locs_then places behind
  count : (n ≡ length places) ⊎ ((behind ≡ none) × (length places ≤ n))

one_more : (n : ℕ) (ts : Trees) (t : Tree) → IsPlace t → Begin n ts → Begin (suc n) (more t ts)
one_more n ts t p b = record {
  places = p.place ∷ b.places;
  behind = b.behind;
  are = λ i. more (p.is i) (b.are i);
  count = by b.count;
}
  where
    by : (n ≡ length b.places) ⊎ ((b.behind ≡ none) × (length b.places ≤ n)) → (suc n ≡ suc (length b.places)) ⊎ ((b.behind ≡ none) × (suc (length b.places) ≤ suc n))
    by (inl e) = inl (ap suc e)
    by (inr e) = inr (e.0, omega (arith, e.1))

begins : (n : ℕ) (ts : Trees) → are_places n ts ≡ true → Begin n ts
begins zero ts e = record { places = []; behind = ts; are = refl; count = inl refl }
begins (suc n) none e = record { places = []; behind = none; are = refl; count = inr (refl, omega arith) }
begins (suc n) (more t ts) e =
    let h = both_true (is_bare t) (are_places n ts) e in
    one_more n ts t (bare_told t h.0) (begins n ts h.1)

-- Redexes

record IsOne (t : Tree) : Type 0 where
  redex : Redex
  whole : IsRedex redex
  is : redex_node redex ≡ t

one_by : (h : Head) (ts : Trees) → is_loc h ≡ false → Begin (reduced_count h ts) ts → IsOne (node h ts)
one_by h ts other b = record {
  redex = record { head = h; places = b.places; behind = b.behind };
  whole = (other, subst (λ (us : Trees). (reduced_count h us ≡ length b.places) ⊎ ((b.behind ≡ none) × (length b.places ≤ reduced_count h us))) b.are b.count);
  is = ap (node h) (sym b.are);
}

redex_told : (t : Tree) → is_redex_tree t ≡ true → IsOne t
redex_told (node (Loc n) ts) e = absurd (false≢true e)
redex_told (node h ts) e = one_by h ts refl (begins (reduced_count h ts) ts e)

-- What a term splits into

all_items : (ts : List Tree) → terms_items (map term_items ts) ≡ list_items term_items ts
all_items ts = list_mapped (λ (t : Items). t) term_items ts

by_redex : (t inner : Tree) (cs : List Context) → t ≡ plug cs inner → AreContexts cs → is_redex_tree inner ≡ true → running_items t ≡ list_items term_items (inner ∷ map hole_tree cs)
by_redex t inner cs term holes e =
    let r = redex_told inner e in
    let whole : split t ≡ Splits cs r.redex = ap split (term ∙ ap (plug cs) (sym r.is)) ∙ splits_one_way cs r.redex holes r.whole in
    ap split_items whole ∙ all_items (redex_node r.redex ∷ map hole_tree cs) ∙ ap (λ (u : Tree). list_items term_items (u ∷ map hole_tree cs)) r.is

by_place : (t inner : Tree) → t ≡ inner → is_bare inner ≡ true → running_items t ≡ list_items term_items (inner ∷ [])
by_place t inner term e =
    let p = bare_told inner e in
    ap running_items (term ∙ p.is) ∙ all_items (loc p.place ∷ []) ∙ ap (λ (u : Tree). list_items term_items (u ∷ [])) (sym p.is)

alone : (t inner : Tree) (a b : Bool) → t ≡ inner → is_redex_tree inner ≡ a → is_bare inner ≡ b → a || b ≡ true → running_items t ≡ list_items term_items (inner ∷ [])
alone t inner true b term redex bare e = by_redex t inner [] term tt redex
alone t inner false true term redex bare e = by_place t inner term bare
alone t inner false false term redex bare e = absurd (false≢true e)

splits_into : (t inner : Tree) (cs : List Context) → t ≡ plug cs inner → AreContexts cs → is_split (inner ∷ map hole_tree cs) ≡ true → running_items t ≡ list_items term_items (inner ∷ map hole_tree cs)
splits_into t inner [] term holes e = alone t inner (is_redex_tree inner) (is_bare inner) term refl refl e
splits_into t inner (c ∷ cs) term holes e = by_redex t inner (c ∷ cs) term holes e

pub shown_split : (t : Tree) (vs : List ServiceShape) (terms : List Tree) (shown : List ServiceTerms) → IsShown t vs terms shown → is_split terms ≡ true → running_items t ≡ list_items term_items terms
shown_split t vs terms shown s e =
    splits_into t s.inner s.contexts s.term s.holes (ap is_split (sym s.are) ∙ e)
    ∙ ap (list_items term_items) (sym s.are)

-- The terms below a node

pub all_places : (ts : List Term) → are_places (child_count (trees (map tree_of ts))) (trees (map tree_of ts)) ≡ list_all is_bare_term ts
all_places [] = refl
all_places (t ∷ ts) = ap (λ (b : Bool). is_bare_term t && b) (all_places ts)

pub field_places : (fs : List (Label × Term)) (us : List Tree) → are_places (length (map field_label fs)) (trees (map field_tree fs ++ us)) ≡ list_all is_bare_field fs
field_places [] us = refl
field_places (f ∷ fs) us = ap (λ (b : Bool). is_bare_field f && b) (field_places fs us)

pub first_place : (ts : List Term) (t : Term) → 0 < length ts → t ≡ get_or ts 0 t → is_bare_term t ≡ are_places 1 (trees (map tree_of ts))
first_place [] t lt e = absurd (omega (arith, lt))
first_place (u ∷ ts) t lt e = ap is_bare_term e ∙ sym (and_true (is_bare_term u))

pub ruleset places = (and_true, all_places, field_places)
