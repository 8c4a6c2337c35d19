-- With which burst an activity is out.
use Rattle.std.proofs.Common.{◌≡◌, ◌+◌, ◌≤◌, ◌<◌, ◌==◌, ◌&&◌, ◌++◌, ◌∷◌, [], ℕ, suc, not, Bool, true, false, List, Option, Some, None, length, refl, sym, ap, subst, ◌∙◌, arith}
use Rattle.std.proofs.lemmas.List.{append_assoc}
use Rattle.asp_model.specs.History.{EntryShape, Lent, Committed, Delivered}
use Rattle.def_journals.specs.Journals.{run_of}
use Rattle.law_chases.proofs.FutureLemmas.{no_some, none_true, some_is}
use Rattle.law_journals.specs.Leases.{BurstsAreCounted, LeasesAreOne, LeasesBegin, LeasesGoOn, LeasesLast, burst_from, burst_out, bursts_in, lends_by, stays_out}

not_both : (a b : Bool) → (not a && b) ≡ true → (a ≡ false) × (b ≡ true)
not_both true b h = none_true h
not_both false b h = (refl, h)

itself : (k : ℕ) → (k == k) ≡ true
itself k = grind arith

module _ (k : ℕ) where
  -- while nothing concerns the number, the burst stays
  burst_stays : (count : ℕ) (burst : Option ℕ) (xs : List EntryShape) → stays_out k xs ≡ true → burst_from k count burst xs ≡ burst
  burst_stays count burst [] h = refl
  burst_stays count burst (Lent j ∷ xs) h =
      let b = not_both (k == j) (stays_out k xs) h in
      ap (λ b. burst_from k (suc count) (elim b [ true ↦ Some (suc count) | false ↦ burst ]) xs) b.0 ∙ burst_stays (suc count) burst xs b.1
  burst_stays count burst (Committed j r ∷ xs) h =
      let b = not_both (k == j) (stays_out k xs) h in
      ap (λ b. burst_from k count (elim b [ true ↦ None | false ↦ burst ]) xs) b.0 ∙ burst_stays count burst xs b.1
  burst_stays count burst (Delivered d ∷ xs) h = burst_stays count burst xs h

  -- behind a lease the burst is that lease
  burst_behind : (count : ℕ) (burst : Option ℕ) (before ys : List EntryShape) → burst_from k count burst (before ++ Lent k ∷ ys) ≡ burst_from k (suc (count + bursts_in before)) (Some (suc (count + bursts_in before))) ys
  burst_behind count burst [] ys =
      let none : count + 0 ≡ count = omega arith in
      ap (λ b. burst_from k (suc count) (elim b [ true ↦ Some (suc count) | false ↦ burst ]) ys) (itself k)
      ∙ ap (λ c. burst_from k (suc c) (Some (suc c)) ys) (sym none)
  burst_behind count burst (Lent j ∷ before) ys =
      let same : suc count + bursts_in before ≡ count + suc (bursts_in before) = omega arith in
      burst_behind (suc count) (elim (k == j) [ true ↦ Some (suc count) | false ↦ burst ]) before ys
      ∙ ap (λ c. burst_from k (suc c) (Some (suc c)) ys) same
  burst_behind count burst (Committed j r ∷ before) ys = burst_behind count (elim (k == j) [ true ↦ None | false ↦ burst ]) before ys
  burst_behind count burst (Delivered d ∷ before) ys = burst_behind count burst before ys

  -- a burst that is later than this one, if there is any
  abbrev IsBeyond : ℕ → Option ℕ → Type 0
  IsBeyond b None = Unit {0}
  IsBeyond b (Some x) = b < x

  beyond_if : (e : Bool) (b : ℕ) (o p : Option ℕ) → IsBeyond b o → IsBeyond b p → IsBeyond b (elim e [ true ↦ o | false ↦ p ])
  beyond_if true b o p h g = h
  beyond_if false b o p h g = g

  -- so it stays beyond
  never_again : (b count : ℕ) (burst : Option ℕ) (xs : List EntryShape) → b ≤ count → IsBeyond b burst → burst_from k count burst xs ≡ Some b → ⊥
  never_again b count None [] le h e = no_some e
  never_again b count (Some x) [] le h e = omega (arith, h, some_is e)
  never_again b count burst (Lent j ∷ xs) le h e = never_again b (suc count) (elim (k == j) [ true ↦ Some (suc count) | false ↦ burst ]) xs (omega (arith, le)) (beyond_if (k == j) b (Some (suc count)) burst (omega (arith, le)) h) e
  never_again b count burst (Committed j r ∷ xs) le h e = never_again b count (elim (k == j) [ true ↦ None | false ↦ burst ]) xs le (beyond_if (k == j) b None burst tt h) e
  never_again b count burst (Delivered d ∷ xs) le h e = never_again b count burst xs le h e

  -- where a burst is out still, nothing concerned its number
  still_out : (b count : ℕ) (xs : List EntryShape) → b ≤ count → burst_from k count (Some b) xs ≡ Some b → stays_out k xs ≡ true
  still_out b count [] le e = refl
  still_out b count (Lent j ∷ xs) le e = elim (k == j) as (λ t. burst_from k (suc count) (elim t [ true ↦ Some (suc count) | false ↦ Some b ]) xs ≡ Some b → (not t && stays_out k xs) ≡ true) [
    | true ↦ λ e. absurd (never_again b (suc count) (Some (suc count)) xs (omega (arith, le)) (omega (arith, le)) e)
    | false ↦ λ e. still_out b (suc count) xs (omega (arith, le)) e
  ] e
  still_out b count (Committed j r ∷ xs) le e = elim (k == j) as (λ t. burst_from k count (elim t [ true ↦ None | false ↦ Some b ]) xs ≡ Some b → (not t && stays_out k xs) ≡ true) [
    | true ↦ λ e. absurd (never_again b count None xs le tt e)
    | false ↦ λ e. still_out b count xs le e
  ] e
  still_out b count (Delivered d ∷ xs) le e = still_out b count xs le e

  pub lent_burst : (before after : List EntryShape) → stays_out k after ≡ true → burst_out k (before ++ Lent k ∷ after) ≡ Some (suc (bursts_in before))
  lent_burst before after stays =
      let none : 0 + bursts_in before ≡ bursts_in before = omega arith in
      burst_behind 0 None before after ∙ burst_stays (suc (0 + bursts_in before)) (Some (suc (0 + bursts_in before))) after stays ∙ ap (λ c. Some (suc c)) none

  -- the entries before a lease, by how many leases there were
  same_before : (xs ys us vs : List EntryShape) → xs ++ Lent k ∷ us ≡ ys ++ Lent k ∷ vs → bursts_in xs ≡ bursts_in ys → xs ≡ ys
  same_before [] [] us vs e h = refl
  same_before [] (y ∷ ys) us vs e h = absurd (subst (λ z. bursts_in [] ≡ bursts_in (z ∷ ys) → ⊥) (first_same e) (λ q. zero_apart (bursts_in ys) q) h)
    where
      first_same : Lent k ∷ us ≡ y ∷ (ys ++ Lent k ∷ vs) → Lent k ≡ y
      first_same e = ap (λ l. elim l [ [] ↦ y | z ∷ zs ↦ z ]) e

      zero_apart : (n : ℕ) → 0 ≡ suc n → ⊥
      zero_apart n e = cc
  same_before (x ∷ xs) [] us vs e h = absurd (subst (λ z. bursts_in (z ∷ xs) ≡ bursts_in [] → ⊥) (sym (ap (λ l. elim l [ [] ↦ x | z ∷ zs ↦ z ]) e)) (λ q. zero_apart (bursts_in xs) q) h)
    where
      zero_apart : (n : ℕ) → suc n ≡ 0 → ⊥
      zero_apart n e = cc
  same_before (x ∷ xs) (y ∷ ys) us vs e h =
      let first : x ≡ y = ap (λ l. elim l [ [] ↦ x | z ∷ zs ↦ z ]) e in
      let rest = same_before xs ys us vs (ap (λ l. elim l [ [] ↦ [] | z ∷ zs ↦ zs ]) e) (one_less x xs ys (h ∙ ap (λ z. bursts_in (z ∷ ys)) (sym first))) in
      (λ i. first i ∷ rest i)
    where
      one_less : (x : EntryShape) (xs ys : List EntryShape) → bursts_in (x ∷ xs) ≡ bursts_in (x ∷ ys) → bursts_in xs ≡ bursts_in ys
      one_less (Lent j) xs ys e = omega (arith, e)
      one_less (Committed j r) xs ys e = e
      one_less (Delivered d) xs ys e = e

pub leases_are_one : LeasesAreOne
leases_are_one h k number other s t x y =
    let here : burst_out k h.entries ≡ Some number = ap (burst_out k) x.is ∙ lent_burst k x.before x.after x.stays ∙ ap Some (sym x.burst) in
    let there : burst_out k h.entries ≡ Some other = ap (burst_out k) y.is ∙ lent_burst k y.before y.after y.stays ∙ ap Some (sym y.burst) in
    let same : number ≡ other = some_is (sym here ∙ there) in
    let sums : bursts_in x.before ≡ bursts_in y.before = omega (arith, sym x.burst ∙ same ∙ y.burst) in
    let before : x.before ≡ y.before = same_before k x.before y.before x.after y.after (sym x.is ∙ y.is) sums in
    (here, same, some_is (sym x.run ∙ ap (λ xs. run_of (record h { entries = xs })) before ∙ y.run))

pub leases_go_on : LeasesGoOn
leases_go_on h g k number s begins x e =
    let later : g.entries ≡ x.before ++ Lent k ∷ (x.after ++ begins.rest) = begins.entries ∙ ap (λ xs. xs ++ begins.rest) x.is ∙ append_assoc x.before (Lent k ∷ x.after) begins.rest in
    let count : ℕ = suc (0 + bursts_in x.before) in
    let same : number ≡ count = omega (arith, x.burst) in
    let still : burst_from k count (Some count) (x.after ++ begins.rest) ≡ Some count = sym (burst_behind k 0 None x.before (x.after ++ begins.rest)) ∙ ap (burst_out k) (sym later) ∙ e ∙ ap Some same in
    let start : run_of (record g { entries = x.before }) ≡ run_of (record h { entries = x.before }) = λ i. run_of (record { program = begins.program i; first = begins.first i; budget = begins.budget i; entries = x.before }) in
    record {
      before = x.before;
      after = x.after ++ begins.rest;
      is = later;
      stays = still_out k count count (x.after ++ begins.rest) (omega arith) still;
      burst = x.burst;
      run = start ∙ x.run;
    }

pub leases_begin : LeasesBegin
leases_begin h k s run = record { before = h.entries; after = []; is = refl; stays = refl; burst = refl; run = run }

stays_both : (k : ℕ) (xs ys : List EntryShape) → stays_out k xs ≡ true → stays_out k ys ≡ true → stays_out k (xs ++ ys) ≡ true
stays_both k [] ys h g = g
stays_both k (Lent j ∷ xs) ys h g = let b = not_both (k == j) (stays_out k xs) h in ap (λ t. not t && stays_out k (xs ++ ys)) b.0 ∙ stays_both k xs ys b.1 g
stays_both k (Committed j r ∷ xs) ys h g = let b = not_both (k == j) (stays_out k xs) h in ap (λ t. not t && stays_out k (xs ++ ys)) b.0 ∙ stays_both k xs ys b.1 g
stays_both k (Delivered d ∷ xs) ys h g = stays_both k xs ys h g

pub leases_last : LeasesLast
leases_last h x k number s last y = record {
  before = y.before;
  after = y.after ++ x ∷ [];
  is = ap (λ xs. xs ++ x ∷ []) y.is ∙ append_assoc y.before (Lent k ∷ y.after) (x ∷ []);
  stays = stays_both k y.after (x ∷ []) y.stays last;
  burst = y.burst;
  run = y.run;
}

one_more : (entries : List EntryShape) (x : EntryShape) → bursts_in (entries ++ x ∷ []) ≡ bursts_in entries + lends_by x
one_more [] (Lent k) = refl
one_more [] (Committed k r) = refl
one_more [] (Delivered d) = refl
one_more (Lent j ∷ xs) x = omega (arith, one_more xs x)
one_more (Committed j r ∷ xs) x = one_more xs x
one_more (Delivered d ∷ xs) x = one_more xs x

no_more_than : (entries : List EntryShape) → bursts_in entries ≤ length entries
no_more_than [] = omega arith
no_more_than (Lent j ∷ xs) = omega (arith, no_more_than xs)
no_more_than (Committed j r ∷ xs) = omega (arith, no_more_than xs)
no_more_than (Delivered d ∷ xs) = omega (arith, no_more_than xs)

pub bursts_are_counted : BurstsAreCounted
bursts_are_counted entries = (one_more entries, no_more_than entries)
