-- Terms and cells that show the same, with related places, are alike; and the other way round for cells.
use Rattle.std.specs.Prelude.{◌≡◌, ℕ, ℤ, pos, Bool, true, false, List, [], ◌∷◌, ◌++◌, map}
use Rattle.std.specs.List.{flat_map}
use Rattle.std.proofs.Common.{refl, sym, ap, subst, ◌∙◌, inl, inr, ◌⊎◌, append_assoc}
use Rattle.std.proofs.lemmas.List.{append-nil}
use Rattle.asp_model.specs.Names.{Name}
use Rattle.asp_model.specs.Term.{Head, Loc, Tree, Trees, node, none, more, own_locations, locations, locations_below, moved_below, moved_head, blank}
use Rattle.asp_model.specs.Store.{MethodShape, Field, CellShape, Number, Object, Reference, Future, Group, moved_cell, reached}
use Rattle.asp_model.specs.Contraction.{is_future}
use Rattle.def_paths.specs.Agree.{Pairs, no_pair, pair}
use Rattle.law_paths.specs.Alike.{AreAlike, at_locs, at_node, AreAlikeBelow, no_more, one_more, AlikeFields, AlikeMethods, AlikeCells, numbers, objects, references, groups}
use Rattle.law_paths.proofs.AlikeLemmas.{alike_blank, alike_locations}
use Rattle.law_paths.proofs.PairLemmas.{pairs_more}
use Rattle.law_chases.proofs.FutureLemmas.{none_true, true_false}

abbrev head_of : Tree → Head
head_of (node h ts) = h

abbrev below_of : Tree → Trees
below_of (node h ts) = ts

abbrev first_or : Tree → Trees → Tree
first_or t none = t
first_or t (more u us) = u

abbrev others_of : Trees → Trees
others_of none = none
others_of (more u us) = us

abbrev is_none : Trees → Bool
is_none none = true
is_none (more t ts) = false

abbrev pub is_loc : Head → Bool
is_loc (Loc n) = true
is_loc h = false

abbrev pub is_nil : {A : Type 0} → List A → Bool
is_nil [] = true
is_nil (x ∷ xs) = false

pub loc_or_not : (h : Head) → ((i : ℕ) × (h ≡ Loc i)) ⊎ ((own_locations h ≡ []) × (moved_head (λ n. 0) h ≡ h) × (is_loc h ≡ false))
loc_or_not (Loc i) = inl (i, refl)
loc_or_not h = inr (refl, refl, refl)

module _ (L : ℕ → ℕ → Type 0) where
  abbrev Rest : {A : Type 0} → A → List ℕ → List ℕ → Type 0
  Rest a xs ys = Pairs L xs ys

  pub both_first : (i j : ℕ) (xs ys : List ℕ) → Pairs L (i ∷ xs) (j ∷ ys) → L i j × Pairs L xs ys
  both_first i j xs ys (pair l ls) = (l, ls)

  -- the pairs of no locations
  no_own : (h k : Head) (ts us : Trees) (xs ys : List ℕ) → own_locations h ≡ [] → own_locations k ≡ [] → Pairs L (locations (node h ts) ++ xs) (locations (node k us) ++ ys) → Pairs L (locations_below ts ++ xs) (locations_below us ++ ys)
  no_own h k ts us xs ys e d ps = subst (λ l. Pairs L (locations_below ts ++ xs) ((l ++ locations_below us) ++ ys)) d (subst (λ l. Pairs L ((l ++ locations_below ts) ++ xs) (locations (node k us) ++ ys)) e ps)

  by_heads : (h k : Head) (ts us : Trees) → moved_head (λ n. 0) h ≡ moved_head (λ n. 0) k
      → ((i : ℕ) × (h ≡ Loc i)) ⊎ ((own_locations h ≡ []) × (moved_head (λ n. 0) h ≡ h) × (is_loc h ≡ false)) → ((i : ℕ) × (k ≡ Loc i)) ⊎ ((own_locations k ≡ []) × (moved_head (λ n. 0) k ≡ k) × (is_loc k ≡ false))
      → (xs ys : List ℕ) → Pairs L (locations (node h ts) ++ xs) (locations (node k us) ++ ys) → (Pairs L (locations_below ts ++ xs) (locations_below us ++ ys) → AreAlikeBelow L ts us × Pairs L xs ys) → AreAlike L (node h ts) (node k us) × Pairs L xs ys
  by_heads h k ts us e (inl x) (inl y) xs ys ps to =
      let first : Pairs L (x.0 ∷ (locations_below ts ++ xs)) (y.0 ∷ (locations_below us ++ ys)) = subst (λ z. Pairs L (x.0 ∷ (locations_below ts ++ xs)) (locations (node z us) ++ ys)) y.1 (subst (λ z. Pairs L (locations (node z ts) ++ xs) (locations (node k us) ++ ys)) x.1 ps) in
      let both = both_first x.0 y.0 _ _ first in
      let rest = to both.1 in
      (subst (λ z. AreAlike L (node z ts) (node k us)) (sym x.1) (subst (λ z. AreAlike L (node (Loc x.0) ts) (node z us)) (sym y.1) (at_locs both.0 rest.0)), rest.1)
  by_heads h k ts us e (inl x) (inr y) xs ys ps to = none_true (sym (ap is_loc (ap (moved_head (λ n. 0)) (sym x.1) ∙ e ∙ y.1) ∙ y.2))
  by_heads h k ts us e (inr x) (inl y) xs ys ps to = none_true (sym (ap is_loc (ap (moved_head (λ n. 0)) (sym y.1) ∙ sym e ∙ x.1) ∙ x.2))
  by_heads h k ts us e (inr x) (inr y) xs ys ps to =
      let same : h ≡ k = sym x.1 ∙ e ∙ y.1 in
      let rest = to (no_own h k ts us xs ys x.0 y.0 ps) in
      (subst (λ z. AreAlike L (node h ts) (node z us)) same (at_node h x.0 rest.0), rest.1)

  mutual
    pub tree_from : (t u : Tree) → blank t ≡ blank u → (xs ys : List ℕ) → Pairs L (locations t ++ xs) (locations u ++ ys) → AreAlike L t u × Pairs L xs ys
    tree_from (node h ts) (node k us) e xs ys ps = by_heads h k ts us (ap head_of e) (loc_or_not h) (loc_or_not k) xs ys ps (λ qs. trees_from ts us (ap below_of e) xs ys qs)

    pub trees_from : (ts us : Trees) → moved_below (λ n. 0) ts ≡ moved_below (λ n. 0) us → (xs ys : List ℕ) → Pairs L (locations_below ts ++ xs) (locations_below us ++ ys) → AreAlikeBelow L ts us × Pairs L xs ys
    trees_from none none e xs ys ps = (no_more, ps)
    trees_from none (more u us) e xs ys ps = none_true (sym (ap is_none e))
    trees_from (more t ts) none e xs ys ps = none_true (ap is_none e)
    trees_from (more t ts) (more u us) e xs ys ps =
        let one = tree_from t u (ap (first_or (blank t)) e) (locations_below ts ++ xs) (locations_below us ++ ys) (subst (λ l. Pairs L (locations t ++ (locations_below ts ++ xs)) l) (append_assoc (locations u) (locations_below us) ys) (subst (λ l. Pairs L l ((locations u ++ locations_below us) ++ ys)) (append_assoc (locations t) (locations_below ts) xs) ps)) in
        let rest = trees_from ts us (ap others_of e) xs ys one.1 in
        (one_more one.0 rest.0, rest.1)

  -- terms that show the same, with related locations
  pub alike_from : (t u : Tree) → blank t ≡ blank u → Pairs L (locations t) (locations u) → AreAlike L t u
  alike_from t u e ps = (tree_from t u e [] [] (subst (λ l. Pairs L (locations t ++ []) l) (sym (append-nil (locations u))) (subst (λ l. Pairs L l (locations u)) (sym (append-nil (locations t))) ps))).0

-- Cells

abbrev fields_of : CellShape → List Field
fields_of (Object fs ms) = fs
fields_of c = []

abbrev methods_of : CellShape → List MethodShape
methods_of (Object fs ms) = ms
methods_of c = []

abbrev members_in : CellShape → List ℕ
members_in (Group ns) = ns
members_in c = []

abbrev number_in : CellShape → ℤ
number_in (Number z) = z
number_in c = pos 0

abbrev name_in : CellShape → Name
name_in (Reference n) = n
name_in c = []

pub data Kind : Type 0 where
  A_number : Kind
  An_object : Kind
  A_reference : Kind
  A_future : Kind
  A_group : Kind

abbrev kind : CellShape → Kind
kind (Number z) = A_number
kind (Object fs ms) = An_object
kind (Reference n) = A_reference
kind (Future f) = A_future
kind (Group ns) = A_group

abbrev is_number : Kind → Bool
is_number A_number = true
is_number k = false

abbrev is_object : Kind → Bool
is_object An_object = true
is_object k = false

abbrev is_reference : Kind → Bool
is_reference A_reference = true
is_reference k = false

abbrev is_group : Kind → Bool
is_group A_group = true
is_group k = false

abbrev blank_field : Field → Field
blank_field x = record { label = x.label; place = 0 }

abbrev blank_method : MethodShape → MethodShape
blank_method m = record { head = m.head; body = blank m.body }

abbrev blanks : CellShape → CellShape
blanks = moved_cell (λ n. 0)

abbrev first_field : Field → List Field → Field
first_field x [] = x
first_field x (y ∷ ys) = y

abbrev other_fields : List Field → List Field
other_fields [] = []
other_fields (y ∷ ys) = ys

abbrev first_method : MethodShape → List MethodShape → MethodShape
first_method x [] = x
first_method x (y ∷ ys) = y

abbrev other_methods : List MethodShape → List MethodShape
other_methods [] = []
other_methods (y ∷ ys) = ys

module _ (L : ℕ → ℕ → Type 0) where
  fields_from : (fs gs : List Field) → map blank_field fs ≡ map blank_field gs → (xs ys : List ℕ) → Pairs L (map (λ x. x.place) fs ++ xs) (map (λ x. x.place) gs ++ ys) → Pairs (AlikeFields L) fs gs × Pairs L xs ys
  fields_from [] [] e xs ys ps = (no_pair, ps)
  fields_from [] (g ∷ gs) e xs ys ps = none_true (sym (ap is_nil e))
  fields_from (f ∷ fs) [] e xs ys ps = none_true (ap is_nil e)
  fields_from (f ∷ fs) (g ∷ gs) e xs ys ps =
      let both = both_first L f.place g.place _ _ ps in
      let rest = fields_from fs gs (ap other_fields e) xs ys both.1 in
      (pair (record { label = ap (λ l. (first_field f l).label) e; place = both.0 }) rest.0, rest.1)

  methods_from : (ms ns : List MethodShape) → map blank_method ms ≡ map blank_method ns → Pairs L (flat_map (λ m. locations m.body) ms) (flat_map (λ m. locations m.body) ns) → Pairs (AlikeMethods L) ms ns
  methods_from [] [] e ps = no_pair
  methods_from [] (n ∷ ns) e ps = none_true (sym (ap is_nil e))
  methods_from (m ∷ ms) [] e ps = none_true (ap is_nil e)
  methods_from (m ∷ ms) (n ∷ ns) e ps =
      let one = tree_from L m.body n.body (ap (λ l. (first_method m l).body) e) _ _ ps in
      pair (record { head = ap (λ l. (first_method m l).head) e; body = one.0 }) (methods_from ms ns (ap other_methods e) one.1)

  no_kind : {A : Type 0} (test : Kind → Bool) (c d : CellShape) → blanks c ≡ blanks d → test (kind (blanks c)) ≡ true → test (kind (blanks d)) ≡ false → A
  no_kind test c d e t f = absurd (true_false (test (kind (blanks c))) t (ap (λ x. test (kind x)) e ∙ f))

  -- cells that show the same, with related places
  pub cell_from : (c d : CellShape) → is_future c ≡ false → blanks c ≡ blanks d → Pairs L (reached c) (reached d) → AlikeCells L c d
  cell_from (Future f) d h e ps = none_true (sym h)
  cell_from (Number z) (Number y) h e ps = subst (λ x. AlikeCells L (Number z) (Number x)) (ap number_in e) (numbers z)
  cell_from (Number z) d h e ps = no_kind is_number (Number z) d e refl refl
  cell_from (Reference n) (Reference m) h e ps = subst (λ x. AlikeCells L (Reference n) (Reference x)) (ap name_in e) (references n)
  cell_from (Reference n) d h e ps = no_kind is_reference (Reference n) d e refl refl
  cell_from (Group xs) (Group ys) h e ps = groups ps
  cell_from (Group xs) d h e ps = no_kind is_group (Group xs) d e refl refl
  cell_from (Object fs ms) (Object gs ns) h e ps =
      let one = fields_from fs gs (ap fields_of e) _ _ ps in
      objects one.0 (methods_from ms ns (ap methods_of e) one.1)
  cell_from (Object fs ms) d h e ps = no_kind is_object (Object fs ms) d e refl refl

  -- and back
  fields_show : (fs gs : List Field) → Pairs (AlikeFields L) fs gs → (map blank_field fs ≡ map blank_field gs) × Pairs L (map (λ x. x.place) fs) (map (λ x. x.place) gs)
  fields_show _ _ no_pair = (refl, no_pair)
  fields_show _ _ (pair r rs) = let k = fields_show _ _ rs in ((λ i. record { label = r.label i; place = 0 } ∷ k.0 i), pair r.place k.1)

  methods_show : (ms ns : List MethodShape) → Pairs (AlikeMethods L) ms ns → (map blank_method ms ≡ map blank_method ns) × Pairs L (flat_map (λ m. locations m.body) ms) (flat_map (λ m. locations m.body) ns)
  methods_show _ _ no_pair = (refl, no_pair)
  methods_show _ _ (pair {x = m} {y = n} r rs) = let k = methods_show _ _ rs in ((λ i. record { head = r.head i; body = alike_blank L m.body n.body r.body i } ∷ k.0 i), pairs_more L _ _ _ _ (alike_locations L m.body n.body r.body) k.1)

  pub zeros : (xs ys : List ℕ) → Pairs L xs ys → map {B = ℕ} (λ n. 0) xs ≡ map (λ n. 0) ys
  zeros _ _ no_pair = refl
  zeros _ _ (pair r rs) = ap (λ l. 0 ∷ l) (zeros _ _ rs)

  pub cells_show : (c d : CellShape) → AlikeCells L c d → (blanks c ≡ blanks d) × Pairs L (reached c) (reached d) × (is_future c ≡ false) × (is_future d ≡ false)
  cells_show _ _ (numbers z) = (refl, no_pair, refl, refl)
  cells_show _ _ (references n) = (refl, no_pair, refl, refl)
  cells_show _ _ (groups ps) = (ap Group (zeros _ _ ps), ps, refl, refl)
  cells_show _ _ (objects fs ms) = let f = fields_show _ _ fs in let m = methods_show _ _ ms in ((λ i. Object (f.0 i) (m.0 i)), pairs_more L _ _ _ _ f.1 m.1, refl, refl)
