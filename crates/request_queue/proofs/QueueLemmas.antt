-- What a queue keeps, when a request comes or leaves.
use Rattle.std.proofs.Common.{◌≡◌, ◌&&◌, ◌+◌, ◌<◌, ◌≤◌, ℕ, Bool, true, false, cond, List, [], ◌∷◌, ◌++◌, Option, Some, None, map, nat_lt, nat_eq, refl, sym, ap, subst, ◌∙◌, T, arith}
use Rattle.std.proofs.lemmas.Bool.Decides.{nat_tests}
use Rattle.std.specs.List.{AllByRecursion}
use Rattle.std.specs.List.Sorted.{IsStrictlySortedBy}
use Rattle.std.specs.Option.{option_map}
use Rattle.std.specs.Ordering.{eq_by_cmp, is_eq, nat_cmp}
use Rattle.std.specs.declared.cmp.Ordering.TheVariants.{Less, Equal, Greater}
use Rattle.std.specs.Cmp.Lexicographic.{nat_list_eq_equiv}
use Rattle.std.specs.Map.{keys_of, remove_entry}
use Rattle.asp_model.specs.declared.word.Label.{Label}
use Rattle.request_queue.specs.declared.request.Request.{Request}
use Rattle.asp_model.specs.Names.{Text, same_text}
use Rattle.asp_model.specs.Term.{has_text}
use Rattle.asp_model.specs.Intent.{Numbered}
use Rattle.request_queue.specs.Requests.{request_shape}
use Rattle.request_queue.specs.declared.notes.Notes.{Notes}
use Rattle.request_queue.specs.Pending.{but, oldest, request_at}
use Rattle.request_queue.specs.Numbers.{IsUpTo}
use Rattle.request_queue.specs.Notes.{IsAbove, IsOldest, is_noted, is_that, label_order}
use Rattle.request_queue.specs.Kept.{has_label, waits}
use Rattle.request_queue.proofs.OldestLemmas.{text_same, tied}
use Rattle.request_queue.proofs.NumberLemmas.{apart, flipped, is_less, itself, less, number_same}

abbrev Entries : Type 0
Entries = List (ℕ × Request)

-- Numbers below the next one

abbrev pub AreBelow : ℕ → Entries → Type 0
AreBelow n = AllByRecursion (λ e. e.0 < n)

greater : (n k : ℕ) → k < n → nat_cmp n k ≡ Greater
greater n k lt = by (nat_lt n k) refl (nat_eq n k) refl
  where
    by : (l : Bool) → nat_lt n k ≡ l → (e : Bool) → nat_eq n k ≡ e → cond l Less (cond e Equal Greater) ≡ Greater
    by true p e q = absurd (grind (arith, nat_tests))
    by false p true q = absurd (grind (arith, nat_tests))
    by false p false q = refl

pub below_more : (n : ℕ) (r : Request) (es : Entries) → AreBelow n es → AreBelow (n + 1) (es ++ (n, r) ∷ [])
below_more n r [] b = (omega arith, tt)
below_more n r (e ∷ es) b = (omega (arith, b.0), below_more n r es b.1)

pub below_less : (n : ℕ) (test : ℕ → Bool) (es : Entries) → AreBelow n es → AreBelow n (remove_entry test es)
below_less n test [] b = tt
below_less n test (e ∷ es) b = elim (test e.0) as (λ t. AreBelow n (cond t es (e ∷ remove_entry test es))) [ true ↦ b.1 | false ↦ (b.0, below_less n test es b.1) ]

pub not_there : (n : ℕ) (es : Entries) → AreBelow n es → request_at n es ≡ None
not_there n [] b = refl
not_there n (e ∷ es) b = ap (λ o. cond (is_eq o) (Some e.1) (request_at n es)) (greater n e.0 b.0) ∙ not_there n es b.1

-- Entries in order

abbrev pub Ascends : Entries → Type 0
Ascends es = IsStrictlySortedBy nat_cmp (keys_of es)

pub ascends_none : Ascends []
unfolding IsStrictlySortedBy
ascends_none = tt

-- all numbers are above this one
abbrev AreAbove : ℕ → Entries → Type 0
AreAbove k es = AllByRecursion (λ y. nat_cmp k y ≡ Less) (keys_of es)

above_more : (k n : ℕ) (r : Request) (es : Entries) → nat_cmp k n ≡ Less → AreAbove k es → AreAbove k (es ++ (n, r) ∷ [])
above_more k n r [] lt above = (lt, tt)
above_more k n r (e ∷ es) lt above = (above.0, above_more k n r es lt above.1)

pub ordered_more : (n : ℕ) (r : Request) (es : Entries) → AreBelow n es → Ascends es → Ascends (es ++ (n, r) ∷ [])
unfolding IsStrictlySortedBy
ordered_more n r [] below up = (tt, tt)
ordered_more n r (e ∷ es) below up = (above_more e.0 n r es (is_less e.0 n below.0) up.0, ordered_more n r es below.1 up.1)

above_less : (k : ℕ) (test : ℕ → Bool) (es : Entries) → AreAbove k es → AreAbove k (remove_entry test es)
above_less k test [] above = tt
above_less k test (e ∷ es) above = elim (test e.0) as (λ t. AreAbove k (cond t es (e ∷ remove_entry test es))) [ true ↦ above.1 | false ↦ (above.0, above_less k test es above.1) ]

pub ordered_less : (test : ℕ → Bool) (es : Entries) → Ascends es → Ascends (remove_entry test es)
unfolding IsStrictlySortedBy
ordered_less test [] up = tt
ordered_less test (e ∷ es) up = elim (test e.0) as (λ t. Ascends (cond t es (e ∷ remove_entry test es))) [ true ↦ up.1 | false ↦ (above_less e.0 test es up.0, ordered_less test es up.1) ]

-- the request of a number, where one came under the next
pub found_more : (n : ℕ) (r : Request) (es : Entries) → AreBelow n es → (k : ℕ) → request_at k (es ++ (n, r) ∷ []) ≡ cond (eq_by_cmp nat_cmp n k) (Some r) (request_at k es)
found_more n r [] below k = ap (λ t. cond t (Some r) None) (flipped k n)
found_more n r (e ∷ es) below k = by (is_eq (nat_cmp k e.0)) refl (found_more n r es below.1 k)
  where
    by : (t : Bool) → is_eq (nat_cmp k e.0) ≡ t → request_at k (es ++ (n, r) ∷ []) ≡ cond (eq_by_cmp nat_cmp n k) (Some r) (request_at k es)
        → cond t (Some e.1) (request_at k (es ++ (n, r) ∷ [])) ≡ cond (eq_by_cmp nat_cmp n k) (Some r) (cond t (Some e.1) (request_at k es))
    by true d next = let lt : e.0 < n = below.0 in let same : k ≡ e.0 = number_same k e.0 d in ap (λ t. cond t (Some r) (Some e.1)) (sym (apart n k (λ f. omega (arith, lt, same, f))))
    by false d next = next

absent_above : (k : ℕ) (es : Entries) → AreAbove k es → request_at k es ≡ None
absent_above k [] above = refl
absent_above k (e ∷ es) above = ap (λ o. cond (is_eq o) (Some e.1) (request_at k es)) above.0 ∙ absent_above k es above.1

-- and where one left
pub found_less : (n : ℕ) (es : Entries) → Ascends es → (k : ℕ) → request_at k (but n es) ≡ cond (eq_by_cmp nat_cmp n k) None (request_at k es)
unfolding IsStrictlySortedBy
found_less n [] up k = sym (neither (eq_by_cmp nat_cmp n k) None)
  where
    neither : (t : Bool) (o : Option Request) → cond t o o ≡ o
    neither true o = refl
    neither false o = refl
found_less n (e ∷ es) up k = first (is_eq (nat_cmp n e.0)) refl (eq_by_cmp nat_cmp n k) refl (is_eq (nat_cmp k e.0)) refl (found_less n es up.1 k)
  where
    first : (a : Bool) → is_eq (nat_cmp n e.0) ≡ a → (b : Bool) → eq_by_cmp nat_cmp n k ≡ b → (t : Bool) → is_eq (nat_cmp k e.0) ≡ t → request_at k (but n es) ≡ cond b None (request_at k es)
        → request_at k (cond a es (e ∷ but n es)) ≡ cond b None (cond t (Some e.1) (request_at k es))
    first true p true q t d next = let same : k ≡ e.0 = sym (number_same n k q) ∙ number_same n e.0 p in ap (λ m. request_at m es) same ∙ absent_above e.0 es up.0
    first true p false q true d next = let same : n ≡ k = number_same n e.0 p ∙ sym (number_same k e.0 d) in absurd (subst T (sym (subst (λ m. is_eq (nat_cmp m k) ≡ true) (sym same) (itself k)) ∙ q) tt)
    first true p false q false d next = refl
    first false p true q true d next = let same : n ≡ e.0 = number_same n k q ∙ number_same k e.0 d in absurd (subst T (sym (subst (λ m. is_eq (nat_cmp m e.0) ≡ true) (sym same) (itself e.0)) ∙ p) tt)
    first false p true q false d next = ap (λ t. cond t (Some e.1) (request_at k (but n es))) d ∙ next
    first false p false q true d next = ap (λ t. cond t (Some e.1) (request_at k (but n es))) d
    first false p false q false d next = ap (λ t. cond t (Some e.1) (request_at k (but n es))) d ∙ next

-- Notes

that_label : (l m : Label) (b : Bool) → (eq_by_cmp label_order l m && b) ≡ (same_text m.text l.text && b)
that_label l m b = ap (λ t. t && b) (tied l m ∙ nat_list_eq_equiv.symm l.text m.text)

-- a request comes under the next number
pub notes_more : (old new : Notes) (n : ℕ) (r : Request) (es after : Entries) → AreBelow n es → ((l : Label) (k : ℕ) → is_noted old l k ≡ waits es l k) → ((l : Label) (k : ℕ) → is_noted new l k ≡ cond (is_that r.label n l k) true (is_noted old l k))
    → ((k : ℕ) → request_at k after ≡ cond (eq_by_cmp nat_cmp n k) (Some r) (request_at k es)) → (l : Label) (k : ℕ) → is_noted new l k ≡ waits after l k
notes_more old new n r es after below kept changes updates l k = changes l k ∙ ap (λ b. cond b true (is_noted old l k)) (that_label r.label l (eq_by_cmp nat_cmp n k)) ∙ by (eq_by_cmp nat_cmp n k) refl ∙ ap (has_label l) (sym (updates k))
  where
    none : eq_by_cmp nat_cmp n k ≡ true → is_noted old l k ≡ false
    none e = kept l k ∙ ap (λ m. has_label l (request_at m es)) (sym (number_same n k e)) ∙ ap (has_label l) (not_there n es below)

    both : (b : Bool) → cond (b && true) true false ≡ b
    both true = refl
    both false = refl

    neither : (b c : Bool) → cond (b && false) true c ≡ c
    neither true c = refl
    neither false c = refl

    by : (b : Bool) → eq_by_cmp nat_cmp n k ≡ b → cond (same_text l.text r.label.text && b) true (is_noted old l k) ≡ has_label l (cond b (Some r) (request_at k es))
    by true e = ap (λ c. cond (same_text l.text r.label.text && true) true c) (none e) ∙ both (same_text l.text r.label.text)
    by false e = neither (same_text l.text r.label.text) (is_noted old l k) ∙ kept l k

waits_below : (n : ℕ) (es : Entries) (l : Label) (k : ℕ) → AreBelow n es → waits es l k ≡ true → k < n
waits_below n [] l k b h = absurd (subst T (sym h) tt)
waits_below n (e ∷ es) l k b h = by (is_eq (nat_cmp k e.0)) refl h (waits_below n es l k b.1)
  where
    by : (t : Bool) → is_eq (nat_cmp k e.0) ≡ t → has_label l (cond t (Some e.1) (request_at k es)) ≡ true → (waits es l k ≡ true → k < n) → k < n
    by true d h next = subst (λ m. m < n) (sym (number_same k e.0 d)) b.0
    by false d h next = next h

-- the next number is above all that are noted
pub notes_below : (w : Notes) (n : ℕ) (es : Entries) → AreBelow n es → ((l : Label) (k : ℕ) → is_noted w l k ≡ waits es l k) → IsAbove n w
notes_below w n es below kept l k noted = waits_below n es l k below (sym (kept l k) ∙ noted)

-- what was noted is forgotten
pub notes_back : (old new back : Notes) (n : ℕ) (r : Request) (es : Entries) → AreBelow n es → ((l : Label) (k : ℕ) → is_noted old l k ≡ waits es l k) → ((l : Label) (k : ℕ) → is_noted new l k ≡ cond (is_that r.label n l k) true (is_noted old l k))
    → ((l : Label) (k : ℕ) → is_noted back l k ≡ cond (is_that r.label n l k) false (is_noted new l k)) → (l : Label) (k : ℕ) → is_noted back l k ≡ waits es l k
notes_back old new back n r es below kept changes forgets l k = forgets l k ∙ by (eq_by_cmp label_order r.label l) (eq_by_cmp nat_cmp n k) refl refl
  where
    none : eq_by_cmp nat_cmp n k ≡ true → waits es l k ≡ false
    none e = ap (λ m. has_label l (request_at m es)) (sym (number_same n k e)) ∙ ap (has_label l) (not_there n es below)

    by : (a b : Bool) → eq_by_cmp label_order r.label l ≡ a → eq_by_cmp nat_cmp n k ≡ b → cond (a && b) false (is_noted new l k) ≡ waits es l k
    by true true p q = sym (none q)
    by true false p q = changes l k ∙ (λ i. cond (p i && q i) true (is_noted old l k)) ∙ kept l k
    by false b p q = changes l k ∙ (λ i. cond (p i && q i) true (is_noted old l k)) ∙ kept l k

-- a request leaves
pub notes_less : (old new : Notes) (n : ℕ) (r : Request) (es after : Entries) → request_at n es ≡ Some r → ((l : Label) (k : ℕ) → is_noted old l k ≡ waits es l k) → ((l : Label) (k : ℕ) → is_noted new l k ≡ cond (is_that r.label n l k) false (is_noted old l k))
    → ((k : ℕ) → request_at k after ≡ cond (eq_by_cmp nat_cmp n k) None (request_at k es)) → (l : Label) (k : ℕ) → is_noted new l k ≡ waits after l k
notes_less old new n r es after there kept changes updates l k = changes l k ∙ ap (λ b. cond b false (is_noted old l k)) (that_label r.label l (eq_by_cmp nat_cmp n k)) ∙ by (eq_by_cmp nat_cmp n k) refl ∙ ap (has_label l) (sym (updates k))
  where
    was : eq_by_cmp nat_cmp n k ≡ true → is_noted old l k ≡ same_text l.text r.label.text
    was e = kept l k ∙ ap (λ m. has_label l (request_at m es)) (sym (number_same n k e)) ∙ ap (has_label l) there

    gone : (b : Bool) → cond (b && true) false b ≡ false
    gone true = refl
    gone false = refl

    neither : (b c : Bool) → cond (b && false) false c ≡ c
    neither true c = refl
    neither false c = refl

    by : (b : Bool) → eq_by_cmp nat_cmp n k ≡ b → cond (same_text l.text r.label.text && b) false (is_noted old l k) ≡ has_label l (cond b None (request_at k es))
    by true e = ap (λ c. cond (same_text l.text r.label.text && true) false c) (was e) ∙ gone (same_text l.text r.label.text)
    by false e = neither (same_text l.text r.label.text) (is_noted old l k) ∙ kept l k

-- The oldest match

abbrev numbered : ℕ × Request → Numbered
numbered e = (e.0, request_shape e.1)

-- what is asked and pending among these entries
abbrev IsMatch : List Text → Entries → Label → ℕ → Type 0
IsMatch asked es l k = (has_text l.text asked ≡ true) × (waits es l k ≡ true)

record IsFirst (asked : List Text) (es : Entries) (o : Option ℕ) : Type 0 where
  pub found : (n : ℕ) → o ≡ Some n → (l : Label) × IsMatch asked es l n
  pub least : (l : Label) (k : ℕ) → IsMatch asked es l k → IsUpTo k o

contradiction : {A : Type 0} (b : Bool) → b ≡ true → b ≡ false → A
contradiction b p q = absurd (subst T (sym p ∙ q) tt)

-- a pending number is above what is below all numbers
waits_after : (k : ℕ) (es : Entries) (l : Label) (n : ℕ) → AllByRecursion (λ y. nat_cmp k y ≡ Less) (keys_of es) → waits es l n ≡ true → k < n
waits_after k [] l n above h = contradiction false h refl
waits_after k (e ∷ es) l n above h = by (is_eq (nat_cmp n e.0)) refl h (waits_after k es l n above.1)
  where
    by : (b : Bool) → is_eq (nat_cmp n e.0) ≡ b → has_label l (cond b (Some e.1) (request_at n es)) ≡ true → (waits es l n ≡ true → k < n) → k < n
    by true d h next = subst (λ m. k < m) (sym (number_same n e.0 d)) (less k e.0 above.0)
    by false d h next = next h

-- the least number that is asked for is that of the oldest match
first_is : (asked : List Text) (es : Entries) (o : Option ℕ) → Ascends es → IsFirst asked es o → o ≡ option_map (λ x. x.0) (oldest asked (map numbered es))
unfolding IsStrictlySortedBy
first_is asked [] None up f = refl
first_is asked [] (Some n) up f = contradiction false (f.found n refl).1.1 refl
first_is asked (e ∷ es) o up f = by (has_text e.1.label.text asked) refl (first_is asked es o up.1)
  where
    here : waits (e ∷ es) e.1.label e.0 ≡ true
    here = ap (λ b. has_label e.1.label (cond b (Some e.1) (request_at e.0 es))) (itself e.0) ∙ nat_list_eq_equiv.refl e.1.label.text

    at_least : (l : Label) (n : ℕ) → waits (e ∷ es) l n ≡ true → e.0 ≤ n
    at_least l n h = go (is_eq (nat_cmp n e.0)) refl h
      where
        go : (b : Bool) → is_eq (nat_cmp n e.0) ≡ b → has_label l (cond b (Some e.1) (request_at n es)) ≡ true → e.0 ≤ n
        go true d h = let same : n ≡ e.0 = number_same n e.0 d in omega (arith, same)
        go false d h = let lt : e.0 < n = waits_after e.0 es l n up.0 h in omega (arith, lt)

    others : has_text e.1.label.text asked ≡ false → IsFirst asked es o
    others apart = record { found = λ n d. found_there n (f.found n d); least = λ l k m. f.least l k (m.0, still l k m.1) }
      where
        found_there : (n : ℕ) → (l : Label) × IsMatch asked (e ∷ es) l n → (l : Label) × IsMatch asked es l n
        found_there n x = (x.0, (x.1.0, go (is_eq (nat_cmp n e.0)) refl x.1.1))
          where
            go : (b : Bool) → is_eq (nat_cmp n e.0) ≡ b → has_label x.0 (cond b (Some e.1) (request_at n es)) ≡ true → waits es x.0 n ≡ true
            go true d h = contradiction (has_text e.1.label.text asked) (ap (λ (m : Label). has_text m.text asked) (sym (text_same x.0 e.1.label h)) ∙ x.1.0) apart
            go false d h = h

        still : (l : Label) (k : ℕ) → waits es l k ≡ true → waits (e ∷ es) l k ≡ true
        still l k h = go (is_eq (nat_cmp k e.0)) refl
          where
            go : (b : Bool) → is_eq (nat_cmp k e.0) ≡ b → has_label l (cond b (Some e.1) (request_at k es)) ≡ true
            go true d = let lt : e.0 < k = waits_after e.0 es l k up.0 h in let same : k ≡ e.0 = number_same k e.0 d in absurd (omega (arith, lt, same))
            go false d = h

    by : (b : Bool) → has_text e.1.label.text asked ≡ b → (IsFirst asked es o → o ≡ option_map (λ x. x.0) (oldest asked (map numbered es))) → o ≡ option_map (λ x. x.0) (elim b [ true ↦ Some (numbered e) | false ↦ oldest asked (map numbered es) ])
    by true d next =
        let u = f.least e.1.label e.0 (d, here) in
        let le : e.0 ≤ u.0 = at_least (f.found u.0 u.1).0 u.0 (f.found u.0 u.1).1.1 in
        let same : u.0 ≡ e.0 = omega (arith, le, u.2) in
        u.1 ∙ ap Some same
    by false d next = next (others d)

-- a queue's notes tell the oldest match
pub oldest_is : (asked : List Text) (w : Notes) (es : Entries) (o : Option ℕ) → Ascends es → ((l : Label) (k : ℕ) → is_noted w l k ≡ waits es l k) → IsOldest asked w o → o ≡ option_map (λ x. x.0) (oldest asked (map numbered es))
oldest_is asked w es o up kept old = first_is asked es o up (record {
  found = λ n e. let x = old.found n e in (x.0, (x.1.0, sym (kept x.0 n) ∙ x.1.1));
  least = λ l k m. old.least l k (m.0, kept l k ∙ m.1);
})
