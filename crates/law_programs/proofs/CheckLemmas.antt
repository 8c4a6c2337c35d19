-- A program that was read and checked is proper.
use Rattle.std.specs.Prelude.{◌≡◌, ℕ, ◌&&◌, not, Bool, true, false, List, [], ◌∷◌, ◌++◌, map, ◌⊎◌}
use Rattle.std.specs.List.{list_all}
use Rattle.std.proofs.Common.{refl, sym, ap, subst, ◌∙◌, inl, inr, ⊎_elim}
use Rattle.std.proofs.lemmas.Bool.{and_from}
use Rattle.std.proofs.lemmas.Slice.Eq.{bytes_eq-Decides}
use Rattle.asp_model.specs.Names.{Text, same_text}
use Rattle.asp_model.specs.Term.{Head, Hole, Var, Make, MethodHead, binders, has_text}
use Rattle.asp_model.specs.Marked.{MarkShape, Marked, MarkedList, marked, no_marked, and_marked, plain, plain_below}
use Rattle.asp_model.specs.Readable.{is_written, IsReadable, AreReadable}
use Rattle.asp_check.specs.declared.fault.CheckFault.{CheckFault}
use Rattle.asp_check.specs.declared.fault.CheckKind.{CheckKind}
use Rattle.asp_check.specs.declared.fault.CheckKind.TheVariants.{DoubleLabel, DoubleParameter}
use Rattle.asp_check.specs.Placed.{place_or, later, placed, behind}
use Rattle.asp_check.specs.NameFaults.{NameSet, no_names, with_name, with_names, fault_at, when, unless, repeats, method_faults, object_faults, faults_at, name_faults, name_faults_below}
use Rattle.asp_check.specs.Faults.{IsChecked}
use Rattle.law_chases.proofs.FutureLemmas.{none_true}
use Rattle.law_programs.specs.Proper.{are_distinct, names_bound, are_single, is_proper_node, IsProper, AreProper}
use Rattle.law_programs.proofs.ScopeLemmas.{equal_texts, or_cases, or_left, or_right, text_both}

-- Lists of faults

left_empty : {X : Type 0} (xs ys : List X) → xs ++ ys ≡ [] → xs ≡ []
left_empty [] ys e = refl
left_empty (x ∷ xs) ys e = cc

right_empty : {X : Type 0} (xs ys : List X) → xs ++ ys ≡ [] → ys ≡ []
right_empty [] ys e = e
right_empty (x ∷ xs) ys e = cc

none_when : (b : Bool) (f : CheckFault) → when b f ≡ [] → b ≡ false
none_when true f e = cc
none_when false f e = refl

none_unless : (b : Bool) (f : CheckFault) → unless b f ≡ [] → b ≡ true
none_unless true f e = refl
none_unless false f e = cc

-- Sets of names

same_itself : (x : Text) → same_text x x ≡ true
same_itself x = (bytes_eq-Decides x x).1 refl

same_swapped : (x y : Text) → same_text x y ≡ true → same_text y x ≡ true
same_swapped x y e = subst (λ z. same_text z x ≡ true) (equal_texts x y e) (same_itself x)

is_false : (b : Bool) → (b ≡ true → false ≡ true) → b ≡ false
is_false true h = sym (h refl)
is_false false h = refl

-- what is in the set, with these names
in_names : (ys : List Text) (set : NameSet) (x : Text) → with_names ys set x ≡ true → (has_text x ys ≡ true) ⊎ (set x ≡ true)
in_names [] set x e = inr e
in_names (y ∷ ys) set x e = ⊎_elim
    (λ h. inl (or_right (same_text x y) (has_text x ys) h))
    (λ h. ⊎_elim (λ s. inl (or_left (same_text x y) (has_text x ys) (same_swapped y x s))) (λ s. inr s) (or_cases (same_text y x) (set x) h))
    (in_names ys (with_name y set) x e)

old_name : (ys : List Text) (set : NameSet) (x : Text) → set x ≡ true → with_names ys set x ≡ true
old_name [] set x e = e
old_name (y ∷ ys) set x e = old_name ys (with_name y set) x (or_right (same_text y x) (set x) e)

new_name : (ys : List Text) (set : NameSet) (x : Text) → has_text x ys ≡ true → with_names ys set x ≡ true
new_name [] set x e = none_true e
new_name (y ∷ ys) set x e = ⊎_elim
    (λ s. old_name ys (with_name y set) x (or_left (same_text y x) (set x) (same_swapped x y s)))
    (λ h. new_name ys (with_name y set) x h)
    (or_cases (same_text x y) (has_text x ys) e)

-- Names that stand once

record Repeats (earlier : NameSet) (xs : List Text) : Type 0 where
  distinct : are_distinct xs ≡ true
  others : (y : Text) → has_text y xs ≡ true → earlier y ≡ false

one_more : (earlier : NameSet) (x : Text) (xs : List Text) → earlier x ≡ false → Repeats (with_name x earlier) xs → Repeats earlier (x ∷ xs)
one_more earlier x xs e r = record {
  distinct = and_from _ _ (ap not (is_false (has_text x xs) (λ h. sym (r.others x h) ∙ or_left (same_text x x) (earlier x) (same_itself x)))) r.distinct;
  others = λ y h. ⊎_elim
      (λ s. ap earlier (equal_texts y x s) ∙ e)
      (λ k. is_false (earlier y) (λ q. sym (r.others y k) ∙ or_right (same_text x y) (earlier y) q))
      (or_cases (same_text y x) (has_text y xs) h);
}

none_repeats : (kind : CheckKind) (earlier : NameSet) (at : ℕ) (xs : List Text) (ps : List ℕ) → repeats kind earlier (placed at xs ps) ≡ [] → Repeats earlier xs
none_repeats kind earlier at [] ps e = record { distinct = refl; others = λ y h. none_true h }
none_repeats kind earlier at (x ∷ xs) ps e = one_more earlier x xs
    (none_when (earlier x) _ (left_empty _ _ e))
    (none_repeats kind (with_name x earlier) at xs (later ps) (right_empty (when (earlier x) (fault_at (place_or at ps) kind)) _ e))

abbrev labels_of : List MethodHead → List Text
labels_of = map (λ m. m.label)

record MethodsRepeat (earlier : NameSet) (ms : List MethodHead) : Type 0 where
  labels : Repeats earlier (labels_of ms)
  heads : list_all (λ m. are_distinct (names_bound m)) ms ≡ true

none_methods : (at : ℕ) (labels : NameSet) (ms : List MethodHead) (ps : List ℕ) → method_faults at labels ms ps ≡ [] → MethodsRepeat labels ms
none_methods at labels [] ps e = record { labels = record { distinct = refl; others = λ y h. none_true h }; heads = refl }
none_methods at labels (m ∷ ms) ps e =
    let rest = right_empty (when (labels m.label) (fault_at (place_or at ps) DoubleLabel)) _ e in
    let head = none_repeats DoubleParameter no_names at (names_bound m) (later ps) (left_empty _ _ rest) in
    let others = none_methods at (with_name m.label labels) ms (behind (names_bound m) (later ps)) (right_empty (repeats DoubleParameter no_names (placed at (names_bound m) (later ps))) _ rest) in
    record {
      labels = one_more labels m.label (labels_of ms) (none_when (labels m.label) _ (left_empty _ _ e)) others.labels;
      heads = and_from _ _ head.distinct others.heads;
    }

not_true : (b : Bool) → not b ≡ true → b ≡ false
not_true true e = none_true e
not_true false e = refl

left_and : (b c : Bool) → (b && c) ≡ true → b ≡ true
left_and true c e = refl
left_and false c e = none_true e

right_and : (b c : Bool) → (b && c) ≡ true → c ≡ true
right_and true c e = e
right_and false c e = none_true e

distinct_both : (xs ys : List Text) → are_distinct xs ≡ true → are_distinct ys ≡ true → ((y : Text) → has_text y ys ≡ true → has_text y xs ≡ false) → are_distinct (xs ++ ys) ≡ true
distinct_both [] ys d e apart = e
distinct_both (x ∷ xs) ys d e apart =
    let other = not_true (has_text x xs) (left_and (not (has_text x xs)) _ d) in
    and_from _ _
    (ap not (is_false (has_text x (xs ++ ys)) (λ h. ⊎_elim
    (λ a. sym other ∙ a)
    (λ b. sym (apart x b) ∙ or_left (same_text x x) (has_text x xs) (same_itself x))
    (or_cases (has_text x xs) (has_text x ys) (sym (text_both x xs ys) ∙ h)))))
    (distinct_both xs ys (right_and (not (has_text x xs)) _ d) e (λ y h. is_false (has_text y xs) (λ k. sym (apart y h) ∙ or_right (same_text y x) (has_text y xs) k)))

none_doubled : (at : ℕ) (fields : List Text) (methods : List MethodHead) (ps : List ℕ) → object_faults at fields methods ps ≡ [] → are_single fields methods ≡ true
none_doubled at fields methods ps e =
    let f = none_repeats DoubleLabel no_names at fields ps (left_empty _ _ e) in
    let m = none_methods at (with_names fields no_names) methods (behind fields ps) (right_empty (repeats DoubleLabel no_names (placed at fields ps)) _ e) in
    and_from _ _ (distinct_both fields (labels_of methods) f.distinct m.labels.distinct (λ y h. is_false (has_text y fields) (λ k. sym (m.labels.others y h) ∙ new_name fields no_names y k))) m.heads

-- Terms

-- the names of the set are among those
abbrev Covers : NameSet → List Text → Type 0
Covers set xs = (x : Text) → set x ≡ true → has_text x xs ≡ true

more_covers : (ys : List Text) (set : NameSet) (xs : List Text) → Covers set xs → Covers (with_names ys set) (ys ++ xs)
more_covers ys set xs c x e = text_both x ys xs ∙ ⊎_elim (or_left (has_text x ys) (has_text x xs)) (λ s. or_right (has_text x ys) (has_text x xs) (c x s)) (in_names ys set x e)

node_proper : (set : NameSet) (xs : List Text) → Covers set xs → (h : Head) (m : MarkShape) → is_written h ≡ true → faults_at set h m ≡ [] → is_proper_node xs h ≡ true
node_proper set xs c Hole m w e = none_true w
node_proper set xs c (Var x) m w e = c x (none_unless (set x) _ e)
node_proper set xs c (Make fields methods) m w e = none_doubled m.at fields methods m.names e
node_proper set xs c h m w e = refl

mutual
  term_proper : (set : NameSet) (xs : List Text) → Covers set xs → (t : Marked) → IsReadable (plain t) → name_faults set t ≡ [] → IsProper xs (plain t)
  term_proper set xs c (marked h m ts) r e = (node_proper set xs c h m r.0 (left_empty _ _ e), r.1, below_proper set xs c (binders h) ts r.2 (right_empty (faults_at set h m) _ e))

  below_proper : (set : NameSet) (xs : List Text) → Covers set xs → (names : List (List Text)) (ts : MarkedList) → AreReadable (plain_below ts) → name_faults_below set names ts ≡ [] → AreProper xs names (plain_below ts)
  below_proper set xs c names no_marked r e = tt
  below_proper set xs c [] (and_marked t ts) r e = (term_proper set xs c t r.0 (left_empty _ _ e), below_proper set xs c [] ts r.1 (right_empty (name_faults set t) _ e))
  below_proper set xs c (ys ∷ names) (and_marked t ts) r e = (term_proper (with_names ys set) (ys ++ xs) (more_covers ys set xs c) t r.0 (left_empty _ _ e), below_proper set xs c names ts r.1 (right_empty (name_faults (with_names ys set) t) _ e))

pub program_proper : (program : Marked) → IsReadable (plain program) → IsChecked program → IsProper [] (plain program)
program_proper program r c = term_proper no_names [] (λ x e. e) program r (left_empty (name_faults no_names program) _ c)
