-- Changes of one label's numbers.
use Rattle.std.proofs.Common.{◌≡◌, ◌&&◌, ℕ, Bool, true, false, cond, List, [], Option, Some, None, IsSome, Result, Ok, Err, refl, sym, ap, subst, ◌∙◌}
use Rattle.std.specs.Prelude.{OnErr, OnOk}
use Rattle.std.specs.FinMap.{nat_cmp-IsAntisymmetric, slice_cmp-IsAntisymmetric}
use Rattle.std.specs.Ordering.{eq_by_cmp, nat_cmp}
use Rattle.std.specs.BTreeMap.{BTreeMap, WritesThrough, get, is_at}
use Rattle.asp_model.specs.declared.word.Label.{Label}
use Rattle.asp_model.specs.Order.{equal_order}
use Rattle.asp_model.specs.Names.{text_cmp}
use Rattle.request_queue.specs.Numbers.{Turns, has_number}
use Rattle.request_queue.specs.Notes.{is_that, label_order, or_none}

abbrev pub Held : Type 0
Held = Label → Option (List ℕ)

abbrev pub held_number : Held → Label → ℕ → Bool
held_number h l k = has_number k (or_none (h l))

pub label_same : (l m : Label) → eq_by_cmp label_order l m ≡ true → l ≡ m
label_same l m e =
    let text = slice_cmp-IsAntisymmetric nat_cmp-IsAntisymmetric l.text m.text (equal_order (text_cmp l.text m.text) e) in
    λ i. record { text = text i }

-- the numbers of one label are these, and those of the others stay
pub changed : (l : Label) (k : ℕ) (b : Bool) (old new : Held) (now : List ℕ) → Turns k b (or_none (old l)) now → ((m : Label) → new m ≡ cond (is_at (label_order l) m) (Some now) (old m))
    → (m : Label) (j : ℕ) → held_number new m j ≡ cond (is_that l k m j) b (held_number old m j)
changed l k b old new now turns updates m j = by (eq_by_cmp label_order l m) refl
  where
    by : (e : Bool) → eq_by_cmp label_order l m ≡ e → held_number new m j ≡ cond (e && eq_by_cmp nat_cmp k j) b (held_number old m j)
    by true e = ap (λ o. has_number j (or_none o)) (updates m ∙ ap (λ e. cond e (Some now) (old m)) e) ∙ turns j ∙ ap (λ x. cond (eq_by_cmp nat_cmp k j) b (held_number old x j)) (label_same l m e)
    by false e = ap (λ o. has_number j (or_none o)) (updates m ∙ ap (λ e. cond e (Some now) (old m)) e)

-- nothing changes where a label has no numbers
pub unchanged : (l : Label) (k : ℕ) (old new : Held) → old l ≡ None → ((m : Label) → new m ≡ old m) → (m : Label) (j : ℕ) → held_number new m j ≡ cond (is_that l k m j) false (held_number old m j)
unchanged l k old new none same m j = by (eq_by_cmp label_order l m) refl (eq_by_cmp nat_cmp k j)
  where
    absent : eq_by_cmp label_order l m ≡ true → held_number new m j ≡ false
    absent e = ap (λ o. has_number j (or_none o)) (same m ∙ ap old (sym (label_same l m e)) ∙ none)

    by : (e : Bool) → eq_by_cmp label_order l m ≡ e → (d : Bool) → held_number new m j ≡ cond (e && d) false (held_number old m j)
    by true e true = absent e
    by true e false = ap (λ o. has_number j (or_none o)) (same m)
    by false e d = ap (λ o. has_number j (or_none o)) (same m)

-- the numbers of one label were written through what the map lent
pub written : (l : Label) (k : ℕ) (b : Bool) (old new : BTreeMap Label (List ℕ)) (was now : List ℕ) → Some was ≡ get label_order old l → Turns k b was now → WritesThrough label_order (label_order l) old now new
    → (m : Label) (j : ℕ) → held_number (get label_order new) m j ≡ cond (is_that l k m j) b (held_number (get label_order old) m j)
written l k b old new was now found turns writes =
    let there : IsSome (get label_order old l) = subst (λ (o : Option (List ℕ)). IsSome o) found refl in
    changed l k b (get label_order old) (get label_order new) now (λ j. turns j ∙ ap (λ o. cond (eq_by_cmp nat_cmp k j) b (has_number j (or_none o))) found) (writes.3 there).0

-- what was written and is as it was changes nothing
pub rewritten : (l : Label) (old new : BTreeMap Label (List ℕ)) (was now : List ℕ) → Some was ≡ get label_order old l → now ≡ was → WritesThrough label_order (label_order l) old now new
    → (m : Label) (j : ℕ) → held_number (get label_order new) m j ≡ held_number (get label_order old) m j
rewritten l old new was now found same writes m j =
    let there : IsSome (get label_order old l) = subst (λ (o : Option (List ℕ)). IsSome o) found refl in
    let updates = (writes.3 there).0 m in
    by (eq_by_cmp label_order l m) refl updates
  where
    by : (e : Bool) → eq_by_cmp label_order l m ≡ e → get label_order new m ≡ cond (is_at (label_order l) m) (Some now) (get label_order old m) → held_number (get label_order new) m j ≡ held_number (get label_order old) m j
    by true e u = ap (λ o. has_number j (or_none o)) (u ∙ ap (λ e. cond e (Some now) (get label_order old m)) e) ∙ ap (has_number j) same ∙ ap (λ o. has_number j (or_none o)) (found ∙ ap (get label_order old) (label_same l m e))
    by false e u = ap (λ o. has_number j (or_none o)) (u ∙ ap (λ e. cond e (Some now) (get label_order old m)) e)

-- a label with no numbers is forgotten
pub forgotten : (l : Label) (old new : Held) → or_none (old l) ≡ [] → ((m : Label) → new m ≡ cond (is_at (label_order l) m) None (old m)) → (m : Label) (j : ℕ) → held_number new m j ≡ held_number old m j
forgotten l old new none updates m j = by (eq_by_cmp label_order l m) refl
  where
    by : (e : Bool) → eq_by_cmp label_order l m ≡ e → held_number new m j ≡ held_number old m j
    by true e = ap (λ o. has_number j (or_none o)) (updates m ∙ ap (λ e. cond e None (old m)) e) ∙ sym (ap (has_number j) (subst (λ x. or_none (old x) ≡ []) (label_same l m e) none))
    by false e = ap (λ o. has_number j (or_none o)) (updates m ∙ ap (λ e. cond e None (old m)) e)

-- What follows from a clause on one answer

pub on_ok : {A E P Q : Type 0} (r : Result A E) → (P → Q) → OnOk r P → OnOk r Q
on_ok (Ok v) f p = f p
on_ok (Err e) f p = tt

pub on_err : {A E P Q : Type 0} (r : Result A E) → (P → Q) → OnErr r P → OnErr r Q
on_err (Ok v) f p = tt
on_err (Err e) f p = f p
