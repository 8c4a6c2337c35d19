-- The least number, label by label.
use Rattle.std.proofs.Common.{◌≡◌, ◌≤◌, ◌<◌, ◌||◌, ℕ, Bool, true, false, cond, List, [], ◌∷◌, Option, Some, None, map, nat_lt, refl, sym, ap, subst, ◌∙◌, T, arith, inl, inr, ⊎_elim, ◌⊎◌}
use Rattle.std.proofs.lemmas.Bool.Decides.{nat_tests}
use Rattle.std.specs.Map.{keys_of, lookup}
use Rattle.std.specs.BTreeMap.{is_at}
use Rattle.std.specs.Ordering.{is_eq}
use Rattle.std.specs.Cmp.Lexicographic.{texts_ties}
use Rattle.asp_model.specs.declared.word.Label.{Label}
use Rattle.asp_model.specs.Names.{Text, same_text}
use Rattle.asp_model.specs.Term.{has_text}
use Rattle.request_queue.specs.declared.notes.Notes.{Notes}
use Rattle.code_table.specs.declared.code.MethodCode.{MethodCode}
use Rattle.serve_rules.specs.Labels.{label_text, method_text}
use Rattle.request_queue.specs.Numbers.{IsUpTo, has_number}
use Rattle.request_queue.specs.Notes.{IsAsked, IsOldest, IsOldestWith, earlier, is_noted, label_order, or_none}
use Rattle.request_queue.proofs.NoteLemmas.{label_same}

-- The lesser of two

earlier_first : (a b : Option ℕ) (k : ℕ) → IsUpTo k a → IsUpTo k (earlier a b)
earlier_first None b k u = absurd cc
earlier_first (Some n) None k u = u
earlier_first (Some n) (Some m) k u = by (nat_lt m n) refl
  where
    is : n ≡ u.0
    is = cc

    by : (t : Bool) → nat_lt m n ≡ t → IsUpTo k (Some (cond t m n))
    by true e = let lt : m < n = grind (arith, nat_tests) in (m, refl, omega (arith, lt, is, u.2))
    by false e = (n, refl, omega (arith, is, u.2))

earlier_second : (a b : Option ℕ) (k : ℕ) → IsUpTo k b → IsUpTo k (earlier a b)
earlier_second None b k u = u
earlier_second (Some n) None k u = absurd cc
earlier_second (Some n) (Some m) k u = by (nat_lt m n) refl
  where
    is : m ≡ u.0
    is = cc

    by : (t : Bool) → nat_lt m n ≡ t → IsUpTo k (Some (cond t m n))
    by true e = (m, refl, omega (arith, is, u.2))
    by false e = let le : n ≤ m = grind (arith, nat_tests) in (n, refl, omega (arith, le, is, u.2))

earlier_is : (a b : Option ℕ) (n : ℕ) → earlier a b ≡ Some n → (a ≡ Some n) ⊎ (b ≡ Some n)
earlier_is None b n e = inr e
earlier_is (Some m) None n e = inl e
earlier_is (Some m) (Some k) n e = by (nat_lt k m) e
  where
    by : (t : Bool) → Some (cond t k m) ≡ Some n → (Some m ≡ Some n) ⊎ (Some k ≡ Some n)
    by true e = inr e
    by false e = inl e

-- Labels

pub tied : (l m : Label) → is_eq (label_order l m) ≡ same_text l.text m.text
tied l m = sym (texts_ties l.text m.text)

pub text_same : (l m : Label) → same_text l.text m.text ≡ true → l ≡ m
text_same l m e = label_same l m (tied l m ∙ e)

contradiction : {A : Type 0} (b : Bool) → b ≡ true → b ≡ false → A
contradiction b p q = absurd (subst T (sym p ∙ q) tt)

-- Label by label

-- the least number under the labels that were looked at, where these are left
pub record SoFar (asked : List Text) (w : Notes) (rest : List Label) (best : Option ℕ) : Type 0 where
  pub found : (n : ℕ) → best ≡ Some n → (l : Label) × IsAsked asked w l n
  pub least : (l : Label) (k : ℕ) → IsAsked asked w l k → (has_text l.text (map label_text rest) ≡ true) ⊎ IsUpTo k best

module _ (asked : List Text) (w : Notes) (x : Label) (rest : List Label) (best : Option ℕ) (s : SoFar asked w (x ∷ rest) best) where
  -- a label that was asked for
  pub looked : (o : Option ℕ) → has_text x.text asked ≡ true → IsOldestWith w x o → SoFar asked w rest (earlier best o)
  looked o has old = record {
    found = λ n e. ⊎_elim {C = (l : Label) × IsAsked asked w l n} (λ d. s.found n d) (λ d. (x, (has, old.found n d))) (earlier_is best o n e);
    least = λ l k a. ⊎_elim (λ h. by l k a (same_text l.text x.text) refl h) (λ u. inr (earlier_first best o k u)) (s.least l k a);
  }
    where
      by : (l : Label) (k : ℕ) → IsAsked asked w l k → (b : Bool) → same_text l.text x.text ≡ b → (b || has_text l.text (map label_text rest)) ≡ true → (has_text l.text (map label_text rest) ≡ true) ⊎ IsUpTo k (earlier best o)
      by l k a true e h = inr (earlier_second best o k (old.least k (ap (λ m. is_noted w m k) (sym (text_same l x e)) ∙ a.1)))
      by l k a false e h = inl h

  -- and one that was not
  pub passed : has_text x.text asked ≡ false → SoFar asked w rest best
  passed has = record {
    found = s.found;
    least = λ l k a. ⊎_elim (λ h. by l k a (same_text l.text x.text) refl h) (λ u. inr u) (s.least l k a);
  }
    where
      by : (l : Label) (k : ℕ) → IsAsked asked w l k → (b : Bool) → same_text l.text x.text ≡ b → (b || has_text l.text (map label_text rest)) ≡ true → (has_text l.text (map label_text rest) ≡ true) ⊎ IsUpTo k best
      by l k a true e h = contradiction (has_text x.text asked) (ap (λ (m : Label). has_text m.text asked) (sym (text_same l x e)) ∙ a.0) has
      by l k a false e h = inl h

pub all_looked : (asked : List Text) (w : Notes) (best : Option ℕ) → SoFar asked w [] best → IsOldest asked w best
all_looked asked w best s = record { found = s.found; least = λ l k a. ⊎_elim (λ h. contradiction false h refl) (λ u. u) (s.least l k a) }

-- at the beginning all labels are left
pub none_looked : (asked : List Text) (w : Notes) (rest : List Label) → ((l : Label) (k : ℕ) → IsAsked asked w l k → has_text l.text (map label_text rest) ≡ true) → SoFar asked w rest None
none_looked asked w rest left = record { found = λ n e. absurd cc; least = λ l k a. inl (left l k a) }

-- a label with a number is pending
pub is_pending : (l : Label) (k : ℕ) (es : List (Label × List ℕ)) → has_number k (or_none (lookup (is_at (label_order l)) es)) ≡ true → has_text l.text (map label_text (keys_of es)) ≡ true
is_pending l k [] h = h
is_pending l k (e ∷ es) h = by (is_eq (label_order l e.0)) refl h (is_pending l k es)
  where
    by : (b : Bool) → is_eq (label_order l e.0) ≡ b → has_number k (or_none (cond b (Some e.1) (lookup (is_at (label_order l)) es))) ≡ true
        → (has_number k (or_none (lookup (is_at (label_order l)) es)) ≡ true → has_text l.text (map label_text (keys_of es)) ≡ true) → (same_text l.text e.0.text || has_text l.text (map label_text (keys_of es))) ≡ true
    by true d h next = ap (λ b. b || has_text l.text (map label_text (keys_of es))) (sym (tied l e.0) ∙ d)
    by false d h next = ap (λ b. b || has_text l.text (map label_text (keys_of es))) (sym (tied l e.0) ∙ d) ∙ next h

-- Lists that are looked at in order

abbrev pub method_label : MethodCode → Label
method_label m = m.label

pub method_texts : (ms : List MethodCode) → map label_text (map method_label ms) ≡ map method_text ms
method_texts [] = refl
method_texts (m ∷ ms) = ap (λ (ls : List Text). method_text m ∷ ls) (method_texts ms)
