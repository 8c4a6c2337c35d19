-- Sets of texts as tests.
use Rattle.std.proofs.Common.{◌≡◌, Bool, true, false, cond, not, List, [], ◌∷◌, ◌++◌, refl, ap, sym, ◌∙◌, bytes_eq}
use Rattle.std.specs.Prelude.{◌||◌, ◌&&◌}
use Rattle.std.specs.Ordering.{nat_cmp}
use Rattle.std.specs.Cmp.Lexicographic.{slice_cmp}
use Rattle.std.specs.BTreeSet.{BTreeSet, UpdatesBy, IsEmpty}
use Rattle.std.specs.BTreeMap.{is_at}
use Rattle.std.specs.List.{list_any}
use Rattle.std.proofs.lemmas.Map.Text.{is_eq-slice_cmp}
use denote.Ref.{Bor}
use Rattle.asp_model.specs.Names.{Text, same_text}
use Rattle.asp_check.specs.NameFaults.{NameSet, no_names, with_name}
use Rattle.asp_check.specs.Sets.{names_in, without_name, without_names, texts}
use Rattle.std.proofs.lemmas.Slice.Eq.{bytes_eq-Decides}

or_cond : (b c : Bool) → cond b true c ≡ (b || c)
or_cond true c = refl
or_cond false c = refl

and_cond : (b c : Bool) → cond b false c ≡ (not b && c)
and_cond true c = refl
and_cond false c = refl

abbrev pub key : Text → Bor Text
key x = record { ref_ptr = (0, 0); now = x }

pub names_in-empty : (s : BTreeSet (Bor Text)) → IsEmpty s → names_in s ≡ no_names
unfolding names_in
names_in-empty s e = λ i x. list_any (is_at (λ (k : Bor Text). slice_cmp nat_cmp x k.now)) (e i)

pub names_in-insert : (s n : BTreeSet (Bor Text)) (x : Text) → UpdatesBy (λ k y. slice_cmp nat_cmp k.now y.now) (λ y. slice_cmp nat_cmp x y.now) s n true → names_in n ≡ with_name x (names_in s)
unfolding names_in
names_in-insert s n x u = λ i q. (u.0 (key q) ∙ ap (λ b. cond b true (names_in s q)) (is_eq-slice_cmp x q) ∙ or_cond (bytes_eq x q) (names_in s q)) i

pub names_in-remove : (s n : BTreeSet (Bor Text)) (x : Text) → UpdatesBy (λ k y. slice_cmp nat_cmp k.now y.now) (λ y. slice_cmp nat_cmp x y.now) s n false → names_in n ≡ without_name x (names_in s)
unfolding names_in
names_in-remove s n x u = λ i q. (u.0 (key q) ∙ ap (λ b. cond b false (names_in s q)) (is_eq-slice_cmp x q) ∙ and_cond (bytes_eq x q) (names_in s q)) i

not_in : List Text → Text → Bool
not_in [] y = true
not_in (x ∷ xs) y = not (same_text x y) && not_in xs y

without_is : (xs : List Text) (s : NameSet) (y : Text) → without_names xs s y ≡ (s y && not_in xs y)
unfolding not_in
without_is [] s y = elim (s y) as (λ b. b ≡ (b && true)) [ true ↦ refl | false ↦ refl ]
without_is (x ∷ xs) s y = without_is xs (without_name x s) y ∙ elim (same_text x y) as (λ b. ((not b && s y) && not_in xs y) ≡ (s y && (not b && not_in xs y))) [
  | true ↦ elim (s y) as (λ d. false ≡ (d && false)) [ true ↦ refl | false ↦ refl ]
  | false ↦ refl
]

not_in-push : (xs : List Text) (x y : Text) → not_in (xs ++ x ∷ []) y ≡ (not_in xs y && not (same_text x y))
unfolding not_in
not_in-push [] x y = elim (not (same_text x y)) as (λ b. (b && true) ≡ b) [ true ↦ refl | false ↦ refl ]
not_in-push (z ∷ xs) x y = ap (λ b. not (same_text z y) && b) (not_in-push xs x y) ∙ elim (not (same_text z y)) as (λ b. (b && (not_in xs y && not (same_text x y))) ≡ ((b && not_in xs y) && not (same_text x y))) [ true ↦ refl | false ↦ refl ]

pub equal_texts : (x y : Text) → same_text x y ≡ true → x ≡ y
equal_texts x y e = (bytes_eq-Decides x y).0 e

add_remove : (b n v : Bool) → (b ≡ true → v ≡ false) → ((b || v) && (n && not b)) ≡ (v && n)
add_remove true true v h = sym (ap (λ d. d && true) (h refl))
add_remove true false v h = sym (ap (λ d. d && false) (h refl))
add_remove false true true h = refl
add_remove false true false h = refl
add_remove false false true h = refl
add_remove false false false h = refl

-- a name that the set lacks, added to it and to what is removed later
pub without-push : (xs : List Text) (x : Text) (s : NameSet) → s x ≡ false → without_names (xs ++ x ∷ []) (with_name x s) ≡ without_names xs s
without-push xs x s e = λ i y. (without_is (xs ++ x ∷ []) (with_name x s) y ∙ ap (λ b. (same_text x y || s y) && b) (not_in-push xs x y) ∙ add_remove (same_text x y) (not_in xs y) (s y) (λ d. ap s (sym (equal_texts x y d)) ∙ e) ∙ sym (without_is xs s y)) i

or_again : (b v : Bool) → (b ≡ true → v ≡ true) → (b || v) ≡ v
or_again true v h = sym (h refl)
or_again false v h = refl

-- a name that the set has
pub with_name-again : (x : Text) (s : NameSet) → s x ≡ true → with_name x s ≡ s
with_name-again x s e = λ i y. or_again (same_text x y) (s y) (λ d. ap s (sym (equal_texts x y d)) ∙ e) i

pub not_true : (b : Bool) → not b ≡ true → b ≡ false
not_true true e = sym e
not_true false e = refl

pub texts-push : (xs : List (Bor Text)) (x : Bor Text) → texts (xs ++ x ∷ []) ≡ texts xs ++ x.now ∷ []
texts-push [] x = refl
texts-push (y ∷ xs) x = ap (λ zs. y.now ∷ zs) (texts-push xs x)
