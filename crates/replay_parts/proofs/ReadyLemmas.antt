-- Who is ready, and who of them is least.
use Rattle.std.proofs.Common.{◌≡◌, ◌≢◌, ◌⊎◌, ◌<◌, ◌≤◌, ◌&&◌, ◌||◌, ◌∷◌, [], nat_lt, ℕ, zero, suc, Bool, true, false, not, cond, T, map, List, Option, Some, None, get_or, length, slice_get, refl, sym, ap, subst, ◌∙◌, inl, inr, ⊎_elim, arith}
use Rattle.std.proofs.lemmas.Bool.{cases_lt, false≢true, false_from_ne_true, ltb-true, ltb-false}
use Rattle.std.proofs.lemmas.Cmp.{tied_itself}
use Rattle.std.specs.List.{list_any}
use Rattle.std.specs.BTreeMap.{is_at}
use Rattle.std.specs.BTreeSet as sets
use Rattle.std.specs.BTreeSet.{BTreeSet}
use Rattle.std.specs.FinMap.{is_sorted}
use Rattle.std.specs.FinMap.Entries.{below_all}
use Rattle.law_steps.proofs.EntryLemmas.{first_of_both, second_of_both}
use Rattle.law_schedules.proofs.LeastLemmas.{true_of}
use Rattle.std.specs.Ordering.{is_eq, is_lt, is_gt, ordering_reverse}
use Rattle.std.specs.declared.cmp.Ordering.{Ordering}
use Rattle.std.specs.declared.cmp.Ordering.TheVariants.{Less, Equal, Greater}
use Rattle.std.proofs.lemmas.Option.{slice_get-get_or, slice_get_within}
use Rattle.asp_model.specs.Names.{Name, main_name, name_cmp}
use Rattle.asp_model.specs.Order.{name_cmp_same, same_name_same}
use Rattle.def_journals.specs.Journals.{number_of}
use Rattle.law_chases.proofs.FutureLemmas.{no_some, some_is, true_false}
use Rattle.law_schedules.proofs.RowLemmas.{less_both}
use Rattle.law_steps.proofs.NameLemmas.{name_total}
use Rattle.replay_parts.specs.Roster.{IsRoster, Leads}
use Rattle.replay_parts.proofs.RosterLemmas.{number_named, one_name, other_number}
use Rattle.replay_parts.proofs.ColumnLemmas.{number_case}
use Rattle.replay_parts.specs.declared.ready.Ready.{Ready}
use Rattle.replay_parts.specs.declared.numbers.Numbers.{Numbers}
use Rattle.replay_parts.specs.Numbers.{IsLeastOf, IsLeastTaken, IsTooIn, holds}
use Rattle.replay_parts.specs.Ready.{Ascend, IsAdded, IsLeastLeft, IsLesser, IsNumberFirst, is_marked, is_named, is_ready}
use Rattle.replay_parts.proofs.NumberLemmas.{either, neither, or_left, or_right}

-- Tests

both : (a b : Bool) → a ≡ true → b ≡ true → (a && b) ≡ true
both a b e f = (λ i. e i && f i)

first_of : (a b : Bool) → (a && b) ≡ true → a ≡ true
first_of true b e = refl
first_of false b e = e

second_of : (a b : Bool) → (a && b) ≡ true → b ≡ true
second_of true b e = e
second_of false b e = absurd (false≢true e)

off_left : (a b : Bool) → a ≡ false → (a && b) ≡ false
off_left a b e = ap (λ c. c && b) e

-- Numbers

is_below : (k l : ℕ) → k < l → nat_lt k l ≡ true
is_below k l lt = elim (nat_lt k l) as (λ b. nat_lt k l ≡ b → b ≡ true) [
  | true ↦ λ h. refl
  | false ↦ λ h. absurd (omega (arith, lt, ltb-false k l h))
] refl

not_below : (k l : ℕ) → l ≤ k → nat_lt k l ≡ false
not_below k l le = false_from_ne_true (nat_lt k l) (λ h. absurd (omega (arith, le, ltb-true k l h)))

pub none_named : (n : Name) (ks : List Name) → (0 < length ks → ⊥) → list_any (is_at (name_cmp n)) ks ≡ false
none_named n [] h = refl
none_named n (k ∷ ks) h = absurd (h (omega arith))

-- who stands by its number has one below `ordered`
marked_number : (r : Ready) (o : Option ℕ) → is_marked r o ≡ true → (k : ℕ) × (o ≡ Some k) × (k < r.ordered) × (holds r.numbers k ≡ true)
marked_number r None e = absurd (false≢true e)
marked_number r (Some k) e = (k, refl, ltb-true k r.ordered (first_of (nat_lt k r.ordered) (holds r.numbers k) e), second_of (nat_lt k r.ordered) (holds r.numbers k) e)

marked_as : (r : Ready) (o : Option ℕ) (k : ℕ) → o ≡ Some k → k < r.ordered → holds r.numbers k ≡ true → is_marked r o ≡ true
marked_as r o k e lt has = ap (is_marked r) e ∙ both (nat_lt k r.ordered) (holds r.numbers k) (is_below k r.ordered lt) has

-- Names

rounded : (r : Ordering) → is_gt r ≡ false → is_lt (ordering_reverse r) ≡ false
rounded Less e = refl
rounded Equal e = refl
rounded Greater e = e

above : (m n : Name) → is_gt (name_cmp n m) ≡ false → is_lt (name_cmp m n) ≡ false
above m n e = ap is_lt (name_total.antisymm m n) ∙ rounded (name_cmp n m) e

turned : (r : Ordering) → is_lt r ≡ true → is_lt (ordering_reverse r) ≡ false
turned Less e = refl
turned Equal e = refl
turned Greater e = absurd (false≢true e)

-- a greater name is not less
pub not_less : (m n : Name) → is_lt (name_cmp n m) ≡ true → is_lt (name_cmp m n) ≡ false
not_less m n e = ap is_lt (name_total.antisymm m n) ∙ turned (name_cmp n m) e

not_itself : (n : Name) → is_lt (name_cmp n n) ≡ false
not_itself n = ap is_lt (tied_itself name_total n)

-- who is above one that is not less than the least is not less than it
beyond : (f m n : Name) → is_lt (name_cmp f m) ≡ true → is_lt (name_cmp f n) ≡ false → is_lt (name_cmp m n) ≡ false
beyond f m n less not = false_from_ne_true (is_lt (name_cmp m n)) (λ e. true_false (is_lt (name_cmp f n)) (less_both f m n less e) not)

name_itself : (n : Name) → is_at (name_cmp n) n ≡ true
name_itself n = ap is_eq (tied_itself name_total n)

tied : (n m : Name) → m ≢ n → is_at (name_cmp n) m ≡ false
tied n m h = elim (is_eq (name_cmp n m)) as (λ b. is_eq (name_cmp n m) ≡ b → b ≡ false) [ true ↦ λ e. absurd (h (sym (same_name_same n m e))) | false ↦ λ e. refl ] refl

-- More names have numbers

longer : (ns ms : List Name) → Leads ns ms → length ns ≤ length ms
longer ns ms leads = ⊎_elim
    (λ (less : length ms < length ns).
    let m : Name = get_or ns (length ms) main_name in
    let there = slice_get_within ms (length ms) m (leads (length ms) m (slice_get-get_or ns (length ms) main_name less)) in
    absurd (omega (arith, there)))
    (λ le. le)
    (cases_lt (length ms) (length ns))

pub ascend_on : (o p : ℕ) (ns ms : List Name) → IsRoster ns → Leads ns ms → p ≡ o → Ascend o ns → Ascend p ms
ascend_on o p ns ms sound leads same h = subst (λ q. Ascend q ms) (sym same) (record {
  within = let le = longer ns ms leads in omega (arith, h.within, le);
  rise = λ j k m n hm hn lt below. h.rise j k m n (back j m hm (omega (arith, lt, below, h.within))) (back k n hn (omega (arith, below, h.within))) lt below;
})
  where
    -- a number below the length of the shorter list
    back : (j : ℕ) (m : Name) → number_of m ms ≡ Some j → j < length ns → number_of m ns ≡ Some j
    back j m has lt =
        let is = slice_get-get_or ns j m lt in
        let same : get_or ns j m ≡ m = some_is (sym (leads j (get_or ns j m) is) ∙ number_named ms m j has) in
        sound.numbers j m (is ∙ ap Some same)

-- One is added

pub added_number : (ns : List Name) (k : ℕ) (old new : Ready) → new.ordered ≡ old.ordered → new.others ≡ old.others → k < old.ordered → IsTooIn old.numbers k new.numbers → IsAdded ns k old new
added_number ns k old new ordered others lt too = record {
  ordered = ordered;
  more = λ m ready. ⊎_elim
      (λ marked.
      let x = marked_number old (number_of m ns) marked in
      or_left (is_marked new (number_of m ns)) (is_named new m) (marked_as new (number_of m ns) x.0 x.1 (omega (arith, x.2, ordered)) (too.1 x.0 x.3)))
      (λ named. or_right (is_marked new (number_of m ns)) (is_named new m) (ap (λ (s : BTreeSet Name). list_any (is_at (name_cmp m)) s.keys) others ∙ named))
      (either (is_marked old (number_of m ns)) (is_named old m) ready);
  here = λ n has. or_left (is_marked new (number_of n ns)) (is_named new n) (marked_as new (number_of n ns) k has (omega (arith, lt, ordered)) too.0);
}

pub added_name : (ns : List Name) (k : ℕ) (q : Name) (old new : Ready) → new.ordered ≡ old.ordered → new.numbers ≡ old.numbers → slice_get ns k ≡ Some q → sets.Updates name_cmp old.others new.others q true → IsAdded ns k old new
added_name ns k q old new ordered numbers has u = record {
  ordered = ordered;
  more = λ m ready. ⊎_elim
      (λ marked.
      let x = marked_number old (number_of m ns) marked in
      or_left (is_marked new (number_of m ns)) (is_named new m) (marked_as new (number_of m ns) x.0 x.1 (omega (arith, x.2, ordered)) (ap (λ (s : Numbers). holds s x.0) numbers ∙ x.3)))
      (λ named. or_right (is_marked new (number_of m ns)) (is_named new m) (u.0 m ∙ kept (is_at (name_cmp q) m) (is_named old m) named))
      (either (is_marked old (number_of m ns)) (is_named old m) ready);
  here = λ n is. or_right (is_marked new (number_of n ns)) (is_named new n) (ap (is_named new) (some_is (sym (number_named ns n k is) ∙ has)) ∙ u.0 q ∙ ap (λ b. cond b true (is_named old q)) (name_itself q));
}
  where
    kept : (b c : Bool) → c ≡ true → cond b true c ≡ true
    kept true c e = refl
    kept false c e = e

-- The least leaves

-- the first number
pub number_taken : (ns : List Name) (old new : Ready) (k : ℕ) → IsRoster ns → Ascend old.ordered ns → IsNumberFirst ns old true → IsLeastTaken old.numbers k new.numbers → new ≡ record old { numbers = new.numbers } → k < old.ordered
    → (n : Name) × (number_of n ns ≡ Some k) × IsLeastLeft ns old n new
number_taken ns old new k sound ascend first taken same lt =
    let least : IsLeastOf old.numbers k = taken.0 in
    let above = least.1 first.0 first.1.0 in
    let below = first.1.1 k least.0 in
    let here : k ≡ first.0 = omega (arith, above, below) in
    let x = first.2 (omega (arith, lt, here)) in
    let q : Name = x.0 in
    let number : number_of q ns ≡ Some k = x.1 ∙ ap Some (sym here) in
    let ordered : new.ordered ≡ old.ordered = ap (λ (r : Ready). r.ordered) same in
    let named : (m : Name) → is_named new m ≡ is_named old m = λ m. ap (λ (r : Ready). is_named r m) same in (
      q,
      number,
      record {
        ready = or_left (is_marked old (number_of q ns)) (is_named old q) (marked_as old (number_of q ns) k number lt least.0);
        least = λ m ready. ⊎_elim
            (λ marked.
            let y = marked_number old (number_of m ns) marked in
            ⊎_elim
            (λ e. ap (λ (w : Name). is_lt (name_cmp w q)) (one_name ns m q k (y.1 ∙ ap Some e) number) ∙ not_itself q)
            (λ d. let from = least.1 y.0 y.3 in not_less m q (ascend.rise k y.0 q m number y.1 (omega (arith, from, d)) y.2))
            (number_case y.0 k))
            (λ is. x.2 m is)
            (either (is_marked old (number_of m ns)) (is_named old m) ready);
        others = λ m d. (λ i. marks m (number_of m ns) (λ j e. other_number ns q m j k d e number) refl ordered i || named m i);
      },
    )
  where
    marks : (m : Name) (o : Option ℕ) → ((j : ℕ) → number_of m ns ≡ Some j → j ≢ k) → number_of m ns ≡ o → new.ordered ≡ old.ordered → is_marked new o ≡ is_marked old o
    marks m None apart e ordered = refl
    marks m (Some j) apart e ordered = (λ i. nat_lt j (ordered i) && taken.1 j (apart j e) i)

-- a number that no name has that ascends
pub stale_taken : (ns : List Name) (old new : Ready) (k : ℕ) → IsLeastTaken old.numbers k new.numbers → new ≡ record old { numbers = new.numbers } → old.ordered ≤ k
    → (m : Name) (i : ℕ) → number_of m ns ≡ Some i → is_ready ns new m ≡ is_ready ns old m
stale_taken ns old new k taken same le m i has = (λ j. marks (number_of m ns) j || ap (λ (r : Ready). is_named r m) same j)
  where
    ordered : new.ordered ≡ old.ordered
    ordered = ap (λ (r : Ready). r.ordered) same

    marks : (o : Option ℕ) → is_marked new o ≡ is_marked old o
    marks None = refl
    marks (Some j) = ⊎_elim
        (λ e.
        let none : nat_lt j old.ordered ≡ false = not_below j old.ordered (omega (arith, le, e)) in
        off_left (nat_lt j new.ordered) (holds new.numbers j) (ap (nat_lt j) ordered ∙ none) ∙ sym (off_left (nat_lt j old.ordered) (holds old.numbers j) none))
        (λ d. (λ i. nat_lt j (ordered i) && taken.1 j d i))
        (number_case j k)

-- the first name
pub other_taken : (ns : List Name) (old new : Ready) (n : Name) → Ascend old.ordered ns → IsNumberFirst ns old false → is_named old n ≡ true → sets.IsLowerBound name_cmp old.others n → sets.Updates name_cmp old.others new.others n false → new ≡ record old { others = new.others } → IsLeastLeft ns old n new
other_taken ns old new n ascend first has low u same = record {
  ready = or_right (is_marked old (number_of n ns)) (is_named old n) has;
  least = λ m ready. ⊎_elim
      (λ marked. by m (marked_number old (number_of m ns) marked) first)
      (λ named. above m n (low m named))
      (either (is_marked old (number_of m ns)) (is_named old m) ready);
  others = λ m d. (λ i. ap (λ (r : Ready). is_marked r (number_of m ns)) same i || (u.0 m ∙ ap (λ b. cond b false (is_named old m)) (tied n m d)) i);
}
  where
    by : (m : Name) → (y : (k : ℕ) × (number_of m ns ≡ Some k) × (k < old.ordered) × (holds old.numbers k ≡ true)) → IsNumberFirst ns old false → is_lt (name_cmp m n) ≡ false
    by m y (inl none) = absurd (true_false (holds old.numbers y.0) y.3 (none y.0))
    by m y (inr x) =
        let f : Name = x.4.0 in
        let not = above f n (low f x.4.1) in
        ⊎_elim
        (λ e. beyond f m n (subst (λ (w : Name). is_lt (name_cmp f w) ≡ true) (one_name ns x.1 m x.0 x.2 (y.1 ∙ ap Some e)) x.4.2) not)
        (λ d.
        let least = x.3 y.0 y.3 in
        beyond f m n (less_both f x.1 m x.4.2 (ascend.rise x.0 y.0 x.1 m x.2 y.1 (omega (arith, least, d)) y.2)) not)
        (number_case y.0 x.0)

-- who has a number is not one who has none
pub unnamed_taken : (ns : List Name) (old new : Ready) (n : Name) → number_of n ns ≡ None → IsLeastLeft ns old n new → (m : Name) (i : ℕ) → number_of m ns ≡ Some i → is_ready ns new m ≡ is_ready ns old m
unnamed_taken ns old new n none h m i has = h.others m (λ e. no_some (sym none ∙ ap (λ (w : Name). number_of w ns) (sym e) ∙ has))

-- nobody is ready
pub nobody_left : (ns : List Name) (old : Ready) → IsNumberFirst ns old false → (0 < length old.others.keys → ⊥) → (m : Name) → is_ready ns old m ≡ false
nobody_left ns old first none m = neither (is_marked old (number_of m ns)) (is_named old m) (by first) (none_named m old.others.keys none)
  where
    by : IsNumberFirst ns old false → is_marked old (number_of m ns) ≡ false
    by (inl empty) = false_from_ne_true (is_marked old (number_of m ns)) (λ e. let y = marked_number old (number_of m ns) e in true_false (holds old.numbers y.0) y.3 (empty y.0))
    by (inr x) = absurd (true_false (is_named old x.4.0) x.4.1 (none_named x.4.0 old.others.keys none))

-- who is not less than one below is not less either
pub none_lesser : (f m q : Name) → is_lt (name_cmp f q) ≡ false → is_lt (name_cmp m f) ≡ false → is_lt (name_cmp m q) ≡ false
none_lesser f m q not low = false_from_ne_true (is_lt (name_cmp m q)) (λ less. by (name_cmp f m) refl less)
  where
    by : (r : Ordering) → name_cmp f m ≡ r → is_lt (name_cmp m q) ≡ true → ⊥
    by Less e less = true_false (is_lt (name_cmp f q)) (less_both f m q (ap is_lt e) less) not
    by Equal e less = true_false (is_lt (name_cmp f q)) (ap (λ (w : Name). is_lt (name_cmp w q)) (name_cmp_same f m e) ∙ less) not
    by Greater e less = true_false (is_lt (name_cmp m f)) (ap is_lt (name_total.antisymm m f ∙ ap ordering_reverse e)) low

pub lesser_by : (r : Ready) (f q : Name) (b : Bool) → b ≡ is_lt (name_cmp f q) → is_named r f ≡ true → sets.IsLowerBound name_cmp r.others f → IsLesser r q b
lesser_by r f q true e has low = (f, has, sym e)
lesser_by r f q false e has low = λ m named. none_lesser f m q (sym e) (above m f (low m named))

pub first_by : (ns : List Name) (r : Ready) (k : ℕ) (q : Name) (b : Bool) → IsLeastOf r.numbers k → number_of q ns ≡ Some k → IsLesser r q b → IsNumberFirst ns r (not b)
first_by ns r k q true least has lesser = inr (k, q, has, least.1, lesser)
first_by ns r k q false least has lesser = (k, least, λ lt. (q, has, lesser))

-- where nobody stands by a name

pub first_alone : (ns : List Name) (r : Ready) (k : ℕ) → IsRoster ns → Ascend r.ordered ns → ((m : Name) → is_named r m ≡ false) → IsLeastOf r.numbers k → IsNumberFirst ns r true
first_alone ns r k sound ascend none least = (
  k,
  least,
  λ lt.
      let q : Name = get_or ns k main_name in
      (q, sound.numbers k q (slice_get-get_or ns k main_name (omega (arith, lt, ascend.within))), λ m named. absurd (true_false (is_named r m) named (none m))),
)

pub nobody_alone : (ns : List Name) (r : Ready) → ((i : ℕ) → holds r.numbers i ≡ false) → ((m : Name) → is_named r m ≡ false) → (m : Name) → is_ready ns r m ≡ false
nobody_alone ns r empty none m = neither (is_marked r (number_of m ns)) (is_named r m) (false_from_ne_true (is_marked r (number_of m ns)) (λ e. let y = marked_number r (number_of m ns) e in true_false (holds r.numbers y.0) y.3 (empty y.0))) (none m)

-- where more names have numbers
pub ready_names : (ns ms : List Name) (r : Ready) (m : Name) → ((k : ℕ) → number_of m ns ≡ Some k → number_of m ms ≡ Some k) → is_ready ns r m ≡ true → is_ready ms r m ≡ true
ready_names ns ms r m stays ready = ⊎_elim
    (λ marked.
    let x = marked_number r (number_of m ns) marked in
    or_left (is_marked r (number_of m ms)) (is_named r m) (marked_as r (number_of m ms) x.0 (stays x.0 x.1) x.2 x.3))
    (λ named. or_right (is_marked r (number_of m ms)) (is_named r m) named)
    (either (is_marked r (number_of m ns)) (is_named r m) ready)

-- Names of entries

below_at : {X : Type 0} (q : Name) (es : List (Name × X)) (k : ℕ) (n : Name) → T (below_all name_cmp q es) → slice_get (map (λ (e : Name × X). e.0) es) k ≡ Some n → is_lt (name_cmp q n) ≡ true
below_at q [] k n h is = no_some is
below_at q (e ∷ es) zero n h is = ap (λ (w : Name). is_lt (name_cmp q w)) (sym (some_is is)) ∙ true_of (is_lt (name_cmp q e.0)) (first_of_both _ _ h)
below_at q (e ∷ es) (suc k) n h is = below_at q es k n (second_of_both _ _ h) is

rising : {X : Type 0} (es : List (Name × X)) → T (is_sorted name_cmp es) → (j k : ℕ) (m n : Name) → slice_get (map (λ (e : Name × X). e.0) es) j ≡ Some m → slice_get (map (λ (e : Name × X). e.0) es) k ≡ Some n → j < k → is_lt (name_cmp m n) ≡ true
rising [] s j k m n hm hn lt = no_some hm
rising (e ∷ es) s zero zero m n hm hn lt = absurd (omega (arith, lt))
rising (e ∷ es) s zero (suc k) m n hm hn lt = ap (λ (w : Name). is_lt (name_cmp w n)) (sym (some_is hm)) ∙ below_at e.0 es k n (first_of_both _ _ s) hn
rising (e ∷ es) s (suc j) zero m n hm hn lt = absurd (omega (arith, lt))
rising (e ∷ es) s (suc j) (suc k) m n hm hn lt = rising es (second_of_both _ _ s) j k m n hm hn (omega (arith, lt))

pub ascend_sorted : {X : Type 0} (es : List (Name × X)) (ns : List Name) → T (is_sorted name_cmp es) → ns ≡ map (λ (e : Name × X). e.0) es → Ascend (length ns) ns
ascend_sorted es ns s same = record {
  within = omega arith;
  rise = λ j k m n hm hn lt below. rising es s j k m n (ap (λ (xs : List Name). slice_get xs j) (sym same) ∙ number_named ns m j hm) (ap (λ (xs : List Name). slice_get xs k) (sym same) ∙ number_named ns n k hn) lt;
}

pub ascend_none : Ascend 0 []
ascend_none = record { within = omega arith; rise = λ j k m n hm hn lt below. no_some hm }
