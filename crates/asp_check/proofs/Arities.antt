-- The first arity of each label, from the front.
use Rattle.std.proofs.Common.{◌≡◌, ℕ, ◌+◌, ◌<◌, Bool, true, false, cond, List, Option, Some, None, refl, ap, sym, ◌∙◌, map, drop, get_or, length}
use Rattle.std.specs.Prelude.{is_some}
use Rattle.std.specs.Ordering.{nat_cmp}
use Rattle.std.specs.Cmp.Lexicographic.{slice_cmp}
use Rattle.std.specs.BTreeMap.{BTreeMap, UpdatesBy, IsEmpty, is_at}
use Rattle.std.specs.Map.{lookup}
use Rattle.std.proofs.lemmas.Map.Text.{btree_map_updates_str}
use denote.Ref.{Bor}
use Rattle.asp_model.specs.Names.{Text, same_text}
use Rattle.std.proofs.lemmas.List.{at_drop_more}
use Rattle.asp_check.specs.declared.arity.ArityPlace.{ArityPlace}
use Rattle.asp_check.specs.declared.fault.CheckFault.{CheckFault}
use Rattle.asp_check.specs.Least.{least_of}
use Rattle.asp_check.proofs.Joined.{least_of_joined}
use Rattle.asp_check.specs.ArityFaults.{LabelArity, first_arity, arity_faults_at, arity_faults}
use Rattle.asp_check.specs.Sets.{arity_in, known_or, HasFirst}
use Rattle.asp_check.specs.Walk.{arity_of}
use Rattle.asp_check.proofs.NameSets.{equal_texts}

pub arity_in-empty : (m : BTreeMap (Bor Text) ℕ) → IsEmpty m → (l : Text) → arity_in m l ≡ None
unfolding arity_in
arity_in-empty m e l = ap (lookup (is_at (λ (k : Bor Text). slice_cmp nat_cmp l k.now))) e

pub arity_in-insert : (m n : BTreeMap (Bor Text) ℕ) (x : Text) (w : Option ℕ) → UpdatesBy (λ k y. slice_cmp nat_cmp k.now y.now) (λ y. slice_cmp nat_cmp x y.now) m n w → (l : Text) → arity_in n l ≡ cond (same_text x l) w (arity_in m l)
unfolding arity_in
arity_in-insert m n x w u l = btree_map_updates_str x m n w u l

pub known_or-none : (o : Option ℕ) → known_or o None ≡ o
known_or-none None = refl
known_or-none (Some n) = refl

kept : (x : LabelArity) (b : Bool) (o : Option ℕ) → (b ≡ true → is_some o ≡ true) → o ≡ known_or o (elim b [ true ↦ Some x.arity | false ↦ None ])
kept x b (Some n) h = refl
kept x true None h = let e : false ≡ true = h refl in cc
kept x false None h = refl

-- a place whose label has an arity
pub first_known : (x : LabelArity) (m : BTreeMap (Bor Text) ℕ) → is_some (arity_in m x.label) ≡ true → HasFirst m x m
first_known x m e l = kept x (same_text x.label l) (arity_in m l) (λ d. ap (λ k. is_some (arity_in m k)) (sym (equal_texts x.label l d)) ∙ e)

pub none_if : (o : Option ℕ) → is_some o ≡ false → o ≡ None
none_if None e = refl
none_if (Some n) e = let d : true ≡ false = e in cc

added : (x : LabelArity) (b : Bool) (o : Option ℕ) → (b ≡ true → o ≡ None) → cond b (Some x.arity) o ≡ known_or o (elim b [ true ↦ Some x.arity | false ↦ None ])
added x true o h = sym (ap (λ p. known_or p (Some x.arity)) (h refl))
added x false o h = sym (known_or-none o)

-- a place whose label has none yet
pub first_added : (x : LabelArity) (m n : BTreeMap (Bor Text) ℕ) → arity_in m x.label ≡ None → ((l : Text) → arity_in n l ≡ cond (same_text x.label l) (Some x.arity) (arity_in m l)) → HasFirst m x n
first_added x m n e u l = u l ∙ added x (same_text x.label l) (arity_in m l) (λ d. ap (arity_in m) (sym (equal_texts x.label l d)) ∙ e)

found : (b : Bool) (o p q : Option ℕ) → known_or (known_or o (elim b [ true ↦ p | false ↦ None ])) q ≡ known_or o (elim b [ true ↦ known_or p q | false ↦ q ])
found true None p q = refl
found false None p q = refl
found b (Some n) p q = refl

-- one place, and then the others
pub first_more : (m n : BTreeMap (Bor Text) ℕ) (ps : List ArityPlace) (i : ℕ) (d : ArityPlace) → i < length ps → HasFirst m (arity_of (get_or ps i d)) n → (l : Text)
    → known_or (arity_in n l) (first_arity l (map arity_of (drop (i + 1) ps))) ≡ known_or (arity_in m l) (first_arity l (map arity_of (drop i ps)))
first_more m n ps i d h u l =
    ap (λ o. known_or o (first_arity l (map arity_of (drop (i + 1) ps)))) (u l)
    ∙ found (same_text (get_or ps i d).label.now l) (arity_in m l) (Some (get_or ps i d).arity) (first_arity l (map arity_of (drop (i + 1) ps)))
    ∙ sym (at_drop_more (λ ys. known_or (arity_in m l) (first_arity l (map arity_of ys))) ps i d h)

-- one place's faults, and then the others'
pub faults_more : (all : List LabelArity) (ps : List ArityPlace) (i : ℕ) (d : ArityPlace) (o r : Option CheckFault) (first : Option ℕ) → i < length ps → first ≡ first_arity (get_or ps i d).label.now all → r ≡ least_of o (arity_faults_at (arity_of (get_or ps i d)) first)
    → least_of r (arity_faults all (map arity_of (drop (i + 1) ps))) ≡ least_of o (arity_faults all (map arity_of (drop i ps)))
faults_more all ps i d o r first h e u =
    ap (λ p. least_of p (arity_faults all (map arity_of (drop (i + 1) ps)))) (u ∙ ap (λ f. least_of o (arity_faults_at (arity_of (get_or ps i d)) f)) e)
    ∙ sym (least_of_joined o (arity_faults_at (arity_of (get_or ps i d)) (first_arity (get_or ps i d).label.now all)) (arity_faults all (map arity_of (drop (i + 1) ps))))
    ∙ sym (at_drop_more (λ ys. least_of o (arity_faults all (map arity_of ys))) ps i d h)
