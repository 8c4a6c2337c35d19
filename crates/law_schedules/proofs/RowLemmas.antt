-- Rows in the order of their names, and the first at which two lists of them differ.
use Rattle.std.specs.Prelude.{◌≡◌, ◌≢◌, ◌&&◌, ℕ, nat_eq, Bool, true, false, cond, List, [], ◌∷◌, Option, Some, None, map}
use Rattle.std.proofs.Common.{refl, sym, ap, subst, ◌∙◌, ⊎_elim}
use Rattle.std.proofs.lemmas.Bool.{and_parts, and_from, eqb-true, eq-eqb}
use Rattle.std.proofs.lemmas.Option.{same_Some}
use Rattle.std.specs.declared.cmp.Ordering.{Ordering}
use Rattle.std.specs.declared.cmp.Ordering.TheVariants.{Less, Equal, Greater}
use Rattle.std.specs.Ordering.{is_lt, ordering_reverse}
use Rattle.std.specs.Cmp.{tied_itself}
use Rattle.std.specs.Cmp.Lexicographic.{pointwise}
use Rattle.asp_model.specs.Names.{Name, name_cmp, same_name}
use Rattle.asp_model.specs.Configuration.{ReceptionShape}
use Rattle.asp_model.specs.Step.{ListsShape, same_reception}
use Rattle.asp_model.specs.Replay.{CountsShape, entries_of}
use Rattle.law_schedules.specs.Divergence.{Row, same_row, lesser_name, first_difference}
use Rattle.law_steps.proofs.NameLemmas.{name_total, name_same, name_case, names_tied, name_itself, names_apart, reception_is, reception_itself}
use Rattle.law_chases.proofs.FutureLemmas.{no_some, none_true, true_false, some_is}

abbrev pub lists_by : List Row → ListsShape
lists_by rows = map (λ r. (r.name, r.senders)) rows

abbrev pub counts_by : List Row → CountsShape
counts_by rows = map (λ r. (r.name, r.count)) rows

abbrev Entry : Type 0
Entry = Option (List ReceptionShape) × Option ℕ

-- what rows have of an activity
abbrev pub in_rows : List Row → Name → Option (List ReceptionShape) × Option ℕ
in_rows rows n = entries_of (lists_by rows) (counts_by rows) n

-- the names of these rows are above it
abbrev pub AreAbove : Name → List Row → Type 0
AreAbove k [] = Unit {0}
AreAbove k (r ∷ rs) = (is_lt (name_cmp k r.name) ≡ true) × AreAbove k rs

abbrev pub Ascend : List Row → Type 0
Ascend [] = Unit {0}
Ascend (r ∷ rs) = AreAbove r.name rs × Ascend rs

-- Order

less : (r : Ordering) → is_lt r ≡ true → r ≡ Less
less Less h = refl
less Equal h = none_true h
less Greater h = none_true h

less_apart : (k n : Name) → is_lt (name_cmp k n) ≡ true → k ≢ n
less_apart k n h p = true_false (is_lt (name_cmp k n)) h (ap is_lt (ap (name_cmp k) (sym p) ∙ tied_itself name_total k))

pub less_both : (j k n : Name) → is_lt (name_cmp j k) ≡ true → is_lt (name_cmp k n) ≡ true → is_lt (name_cmp j n) ≡ true
less_both j k n h i = ap is_lt (name_total.trans j k n (less (name_cmp j k) h) (less (name_cmp k n) i))

less_by : (k n : Name) (r : Ordering) → name_cmp n k ≡ r → is_lt r ≡ false → k ≢ n → is_lt (name_cmp k n) ≡ true
less_by k n Less is not apart = none_true (sym not)
less_by k n Equal is not apart = absurd (apart (sym (name_same n k is)))
less_by k n Greater is not apart = ap is_lt (name_total.antisymm k n ∙ ap ordering_reverse is)

above_more : (j k : Name) (rs : List Row) → is_lt (name_cmp j k) ≡ true → AreAbove k rs → AreAbove j rs
above_more j k [] h a = tt
above_more j k (r ∷ rs) h a = (less_both j k r.name h a.0, above_more j k rs h a.1)

-- What is found

abbrev picked : Bool → Row → Entry → Entry
picked b r e = (cond b (Some r.senders) e.0, cond b (Some r.count) e.1)

abbrev nothing : Entry
nothing = (None, None)

abbrev entry : Row → Entry
entry r = (Some r.senders, Some r.count)

at_first : (r : Row) (rs : List Row) (k : Name) → k ≡ r.name → in_rows (r ∷ rs) k ≡ entry r
at_first r rs k p = ap (λ b. picked b r (in_rows rs k)) (ap (same_name k) (sym p) ∙ name_itself k)

at_later : (r : Row) (rs : List Row) (k : Name) → k ≢ r.name → in_rows (r ∷ rs) k ≡ in_rows rs k
at_later r rs k a = ap (λ b. picked b r (in_rows rs k)) (names_apart k r.name a)

absent : (k : Name) (rs : List Row) → AreAbove k rs → in_rows rs k ≡ nothing
absent k [] a = refl
absent k (r ∷ rs) a = at_later r rs k (less_apart k r.name a.0) ∙ absent k rs a.1

not_nothing : {C : Type 0} (r : Row) → nothing ≡ entry r → C
not_nothing r p = no_some (ap (λ e. e.1) p)

-- Rows that are the same

same_senders : (xs ys : List ReceptionShape) → pointwise same_reception xs ys ≡ true → xs ≡ ys
same_senders [] [] h = refl
same_senders [] (y ∷ ys) h = none_true h
same_senders (x ∷ xs) [] h = none_true h
same_senders (x ∷ xs) (y ∷ ys) h =
    let p = and_parts (same_reception x y) (pointwise same_reception xs ys) h in
    let q : x ≡ y = some_is (sym (reception_is x (Some y) p.0)) in
    let r = same_senders xs ys p.1 in
    λ i. q i ∷ r i

senders_themselves : (xs : List ReceptionShape) → pointwise same_reception xs xs ≡ true
senders_themselves [] = refl
senders_themselves (x ∷ xs) = and_from (same_reception x x) (pointwise same_reception xs xs) (reception_itself x) (senders_themselves xs)

rows_tied : (x y : Row) → same_row x y ≡ true → x ≡ y
rows_tied x y h =
    let p = and_parts (same_name x.name y.name) (nat_eq x.count y.count && pointwise same_reception x.senders y.senders) h in
    let q = and_parts (nat_eq x.count y.count) (pointwise same_reception x.senders y.senders) p.1 in
    let name = names_tied x.name y.name p.0 in
    let count = eqb-true x.count y.count q.0 in
    let senders = same_senders x.senders y.senders q.1 in
    λ i. record { name = name i; count = count i; senders = senders i }

entries_tied : (x y : Row) → x.name ≡ y.name → entry x ≡ entry y → same_row x y ≡ true
entries_tied x y p e =
    let count = same_Some x.count y.count (ap (λ z. z.1) e) in
    let senders = same_Some x.senders y.senders (ap (λ z. z.0) e) in
    and_from (same_name x.name y.name) (nat_eq x.count y.count && pointwise same_reception x.senders y.senders)
    (ap (same_name x.name) (sym p) ∙ name_itself x.name)
    (and_from (nat_eq x.count y.count) (pointwise same_reception x.senders y.senders)
    (eq-eqb x.count y.count count)
    (ap (pointwise same_reception x.senders) (sym senders) ∙ senders_themselves x.senders))

-- The first difference

-- rows differ at a name, and are the same below it
pub record DifferFirst (xs ys : List Row) (n : Name) : Type 0 where
  pub at : in_rows xs n ≢ in_rows ys n
  pub below : (m : Name) → is_lt (name_cmp m n) ≡ true → in_rows xs m ≡ in_rows ys m

other_way : (xs ys : List Row) (n : Name) → DifferFirst xs ys n → DifferFirst ys xs n
other_way xs ys n d = record { at = λ p. d.at (sym p); below = λ m h. sym (d.below m h) }

-- where the first row of the one is below all rows of the other
one_is_less : (x : Row) (xs ys : List Row) → AreAbove x.name xs → AreAbove x.name ys → DifferFirst (x ∷ xs) ys x.name
one_is_less x xs ys above others = record {
  at = λ p. not_nothing x (sym (absent x.name ys others) ∙ sym p ∙ at_first x xs x.name refl);
  below = λ m h. absent m (x ∷ xs) (h, above_more m x.name xs h above) ∙ sym (absent m ys (above_more m x.name ys h others));
}

-- where both have the name
both_have : (x y : Row) (xs ys : List Row) → AreAbove x.name xs → AreAbove y.name ys → same_row x y ≡ false → x.name ≡ y.name → DifferFirst (x ∷ xs) (y ∷ ys) x.name
both_have x y xs ys above others not p = record {
  at = λ e. true_false (same_row x y) (entries_tied x y p (sym (at_first x xs x.name refl) ∙ e ∙ at_first y ys x.name p)) not;
  below = λ m h.
      let k : is_lt (name_cmp m y.name) ≡ true = ap (λ z. is_lt (name_cmp m z)) (sym p) ∙ h in
      absent m (x ∷ xs) (h, above_more m x.name xs h above) ∙ sym (absent m (y ∷ ys) (k, above_more m y.name ys k others));
}

here : (x y : Row) (xs ys : List Row) → AreAbove x.name xs → AreAbove y.name ys → same_row x y ≡ false → DifferFirst (x ∷ xs) (y ∷ ys) (lesser_name x.name y.name)
here x y xs ys above others not = elim (is_lt (name_cmp y.name x.name)) as (λ b. is_lt (name_cmp y.name x.name) ≡ b → DifferFirst (x ∷ xs) (y ∷ ys) (elim b [ true ↦ y.name | false ↦ x.name ])) [
  | true ↦ λ h. other_way (y ∷ ys) (x ∷ xs) y.name (one_is_less y ys (x ∷ xs) others (h, above_more y.name x.name xs h above))
  | false ↦ λ h. ⊎_elim
      (both_have x y xs ys above others not)
      (λ apart. let k = less_by x.name y.name (name_cmp y.name x.name) refl h apart in one_is_less x xs (y ∷ ys) above (k, above_more x.name y.name ys k others))
      (name_case x.name y.name)
] refl

-- where the first rows are the same
later : (x y : Row) (xs ys : List Row) (n : Name) → AreAbove x.name xs → AreAbove y.name ys → x ≡ y → DifferFirst xs ys n → DifferFirst (x ∷ xs) (y ∷ ys) n
later x y xs ys n above others p d = record {
  at = λ e. d.at (⊎_elim
      (λ q.
      let r : n ≡ y.name = q ∙ ap (λ z. z.name) p in
      ap (in_rows xs) q ∙ absent x.name xs above ∙ sym (ap (in_rows ys) r ∙ absent y.name ys others))
      (λ a. sym (at_later x xs n a) ∙ e ∙ at_later y ys n (λ r. a (r ∙ ap (λ z. z.name) (sym p))))
      (name_case n x.name));
  below = λ m h. (λ i. picked (same_name m (p i).name) (p i) (d.below m h i));
}

abbrev or_here : Bool → Name → Option Name → Option Name
or_here s n later = elim s [ true ↦ later | false ↦ Some n ]

pub first_differs : (xs ys : List Row) → Ascend xs → Ascend ys → (n : Name) → first_difference xs ys ≡ Some n → DifferFirst xs ys n
first_differs [] [] a b n h = no_some h
first_differs [] (y ∷ ys) a b n h = subst (DifferFirst [] (y ∷ ys)) (same_Some y.name n h) (other_way (y ∷ ys) [] y.name (one_is_less y ys [] b.0 tt))
first_differs (x ∷ xs) [] a b n h = subst (DifferFirst (x ∷ xs) []) (same_Some x.name n h) (one_is_less x xs [] a.0 tt)
first_differs (x ∷ xs) (y ∷ ys) a b n h = elim (same_row x y) as (λ s. same_row x y ≡ s → or_here s (lesser_name x.name y.name) (first_difference xs ys) ≡ Some n → DifferFirst (x ∷ xs) (y ∷ ys) n) [
  | true ↦ λ is h. later x y xs ys n a.0 b.0 (rows_tied x y is) (first_differs xs ys a.1 b.1 n h)
  | false ↦ λ is h. subst (DifferFirst (x ∷ xs) (y ∷ ys)) (same_Some (lesser_name x.name y.name) n h) (here x y xs ys a.0 b.0 is)
] refl h

-- rows with no difference are the same
pub none_differs : (xs ys : List Row) → first_difference xs ys ≡ None → xs ≡ ys
none_differs [] [] h = refl
none_differs [] (y ∷ ys) h = no_some (sym h)
none_differs (x ∷ xs) [] h = no_some (sym h)
none_differs (x ∷ xs) (y ∷ ys) h = elim (same_row x y) as (λ s. same_row x y ≡ s → or_here s (lesser_name x.name y.name) (first_difference xs ys) ≡ None → (x ∷ xs) ≡ (y ∷ ys)) [
  | true ↦ λ is h. let p = rows_tied x y is in let q = none_differs xs ys h in (λ i. p i ∷ q i)
  | false ↦ λ is h. no_some (sym h)
] refl h
