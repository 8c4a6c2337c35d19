-- The walk over both sides finds the least name at which a service could tell.
use Rattle.std.specs.Prelude.{◌≡◌, ◌⊎◌, ◌&&◌, not, Bool, true, false, cond, [], ◌∷◌, Option, Some, None, IfNone, IfSome, is_some}
use Rattle.std.proofs.Common.{Bor, refl, sym, ap, subst, ◌∙◌, inl, inr, ⊎_elim}
use Rattle.std.specs.FinMap.{find}
use Rattle.std.specs.List.{list_all}
use Rattle.std.specs.Option.{option_map}
use Rattle.std.specs.Ordering.{is_lt}
use Rattle.asp_model.specs.Names.{Name, name_cmp, same_name}
use Rattle.asp_model.specs.Services.{ServiceEntryShape, ServicesShape}
use Rattle.law_chases.proofs.FutureLemmas.{no_some, none_true}
use Rattle.law_schedules.proofs.RowLemmas.{less_both}
use Rattle.law_services.specs.Told.{AreSameServices, IsFirstDifference, NamesAscend, by_name, entry_at, entry_or_none, finds_same, is_same_at, no_services, same_to_services}
use Rattle.law_steps.proofs.EntryLemmas.{first_of_both, second_of_both}
use Rattle.law_steps.proofs.NameLemmas.{is_there, name_case, name_itself, names_apart}
use Rattle.determinacy.proofs.OrderLemmas.{before_both, found_above, later, none_before, none_found}
use Rattle.determinacy.specs.Walks.{first_polled, first_told, lesser_of, named, past}

-- Entries

entry_here : (x : ServiceEntryShape) (xs : ServicesShape) → entry_at (x ∷ xs) x.name ≡ x
entry_here x xs = ap (λ b. entry_or_none x.name (cond b (Some x) (find name_cmp x.name (by_name xs)))) (name_itself x.name)

entry_later : (x : ServiceEntryShape) (xs : ServicesShape) (m : Name) → is_lt (name_cmp x.name m) ≡ true → entry_at (x ∷ xs) m ≡ entry_at xs m
entry_later x xs m h = ap (λ b. entry_or_none m (cond b (Some x) (find name_cmp m (by_name xs)))) (later x.name m h)

find_past : (n m : Name) (ys : ServicesShape) → is_lt (name_cmp n m) ≡ true → find name_cmp m (by_name (past n ys)) ≡ find name_cmp m (by_name ys)
find_past n m [] h = refl
find_past n m (y ∷ ys) h = elim (is_lt (name_cmp y.name n)) as (λ b. is_lt (name_cmp y.name n) ≡ b → find name_cmp m (by_name (cond b (past n ys) (y ∷ ys))) ≡ find name_cmp m (by_name (y ∷ ys))) [
  | true ↦ λ below. find_past n m ys h ∙ sym (ap (λ b. cond b (Some y) (find name_cmp m (by_name ys))) (later y.name m (less_both y.name n m below h)))
  | false ↦ λ e. refl
] refl

past_ascends : (n : Name) (ys : ServicesShape) → NamesAscend ys → NamesAscend (past n ys)
past_ascends n [] h = h
past_ascends n (y ∷ ys) h = elim (is_lt (name_cmp y.name n)) as (λ b. NamesAscend (cond b (past n ys) (y ∷ ys))) [
  | true ↦ past_ascends n ys (second_of_both _ _ h)
  | false ↦ h
]

-- behind those of lesser names stands the entry of a name, if there is one
named_is : (n : Name) (ys : ServicesShape) → NamesAscend ys → named n (past n ys) ≡ entry_at ys n
named_is n [] h = refl
named_is n (y ∷ ys) h = elim (is_lt (name_cmp y.name n)) as (λ b. is_lt (name_cmp y.name n) ≡ b → named n (cond b (past n ys) (y ∷ ys)) ≡ entry_at (y ∷ ys) n) [
  | true ↦ λ below. named_is n ys (second_of_both _ _ h) ∙ sym (entry_later y ys n below)
  | false ↦ λ le. ⊎_elim
      (λ p. ap (λ b. cond b y (no_services n)) (ap (same_name y.name) p ∙ name_itself y.name)
      ∙ sym (ap (λ b. entry_or_none n (cond b (Some y) (find name_cmp n (by_name ys)))) (ap (same_name n) (sym p) ∙ name_itself n)))
      (λ apart. ap (λ b. cond b y (no_services n)) (names_apart y.name n (λ p. apart (sym p)))
      ∙ sym (ap (λ b. entry_or_none n (cond b (Some y) (find name_cmp n (by_name ys)))) (names_apart n y.name apart)
      ∙ ap (entry_or_none n) (none_found y.name n (by_name ys) (first_of_both _ _ h) le)))
      (name_case n y.name)
] refl

-- The first that is told

-- nobody has this name, or it is the same to services
abbrev Passed : ServicesShape → ServicesShape → Name → Type 0
Passed xs ys m = (find name_cmp m (by_name xs) ≡ None) ⊎ (is_same_at xs ys m ≡ true)

abbrev IsTold : ServicesShape → ServicesShape → Option Name → Type 0
IsTold xs ys None = (m : Name) → Passed xs ys m
IsTold xs ys (Some n) = (is_same_at xs ys n ≡ false) × (is_some (find name_cmp n (by_name xs)) ≡ true)
    × ((m : Name) → is_lt (name_cmp m n) ≡ true → Passed xs ys m)

module _ (x : ServiceEntryShape) (xs ys : ServicesShape) (h : NamesAscend (x ∷ xs)) (k : NamesAscend ys) where
  abbrev rest : ServicesShape
  rest = past x.name ys

  abbrev here : Bool
  here = same_to_services x (named x.name rest)

  at_first : is_same_at (x ∷ xs) ys x.name ≡ here
  at_first = λ i. same_to_services (entry_here x xs i) (sym (named_is x.name ys k) i)

  at_later : (m : Name) → is_lt (name_cmp x.name m) ≡ true → is_same_at (x ∷ xs) ys m ≡ is_same_at xs rest m
  at_later m lt =
      let other : entry_at ys m ≡ entry_at rest m = sym (ap (entry_or_none m) (find_past x.name m ys lt)) in
      λ i. same_to_services (entry_later x xs m lt i) (other i)

  above : (m : Name) (e : ServiceEntryShape) → find name_cmp m (by_name xs) ≡ Some e → is_lt (name_cmp x.name m) ≡ true
  above m e is = found_above x.name m (by_name xs) e (first_of_both _ _ h) is

  passed_on : here ≡ true → (m : Name) → Passed xs rest m → Passed (x ∷ xs) ys m
  passed_on same m p = ⊎_elim
      (λ e. inr (subst (λ z. is_same_at (x ∷ xs) ys z ≡ true) (sym e) (at_first ∙ same)))
      (λ apart. by_found apart (find name_cmp m (by_name xs)) refl)
      (name_case m x.name)
    where
      by_found : (m ≡ x.name → ⊥) → (o : Option ServiceEntryShape) → find name_cmp m (by_name xs) ≡ o → Passed (x ∷ xs) ys m
      by_found apart None is = inl (ap (λ b. cond b (Some x) (find name_cmp m (by_name xs))) (names_apart m x.name apart) ∙ is)
      by_found apart (Some e) is = ⊎_elim
          (λ none. no_some (sym none ∙ is))
          (λ q. inr (at_later m (above m e is) ∙ q))
          p

  told_on : here ≡ true → (o : Option Name) → IsTold xs rest o → IsTold (x ∷ xs) ys o
  told_on same None p = λ m. passed_on same m (p m)
  told_on same (Some n) p =
      let e = is_there (find name_cmp n (by_name xs)) p.1 in
      let lt = above n e.0 e.1 in (
        at_later n lt ∙ p.0,
        ap is_some (ap (λ b. cond b (Some x) (find name_cmp n (by_name xs))) (later x.name n lt) ∙ e.1),
        λ m less_than. passed_on same m (p.2 m less_than),
      )

  told_first : here ≡ false → IsTold (x ∷ xs) ys (Some x.name)
  told_first other = (
    at_first ∙ other,
    ap (λ b. is_some (cond b (Some x) (find name_cmp x.name (by_name xs)))) (name_itself x.name),
    λ m lt. inl (none_before m (x.name, x) (by_name xs) (first_of_both _ _ h) lt),
  )

told : (xs ys : ServicesShape) → NamesAscend xs → NamesAscend ys → IsTold xs ys (first_told xs ys)
told [] ys h k = λ m. inl refl
told (x ∷ xs) ys h k = elim (here x xs ys h k) as (λ b. here x xs ys h k ≡ b → IsTold (x ∷ xs) ys (cond b (first_told xs (past x.name ys)) (Some x.name))) [
  | true ↦ λ same. told_on x xs ys h k same (first_told xs (past x.name ys)) (told xs (past x.name ys) (second_of_both _ _ h) (past_ascends x.name ys k))
  | false ↦ λ other. told_first x xs ys h k other
] refl

-- The first that polled

abbrev IsPolled : ServicesShape → Option Name → Type 0
IsPolled ys None = (m : Name) → (entry_at ys m).polled ≡ false
IsPolled ys (Some n) = ((entry_at ys n).polled ≡ true) × ((m : Name) → is_lt (name_cmp m n) ≡ true → (entry_at ys m).polled ≡ false)

-- who polled is there
polled_there : (ys : ServicesShape) (n : Name) → (entry_at ys n).polled ≡ true → (e : ServiceEntryShape) × (find name_cmp n (by_name ys) ≡ Some e)
polled_there ys n h = by (find name_cmp n (by_name ys)) refl
  where
    by : (o : Option ServiceEntryShape) → find name_cmp n (by_name ys) ≡ o → (e : ServiceEntryShape) × (find name_cmp n (by_name ys) ≡ Some e)
    by None is = none_true (ap (λ o. (entry_or_none n o).polled) (sym is) ∙ h)
    by (Some e) is = (e, is)

module _ (y : ServiceEntryShape) (ys : ServicesShape) (h : NamesAscend (y ∷ ys)) where
  unpolled_on : y.polled ≡ false → (m : Name) → (entry_at ys m).polled ≡ false → (entry_at (y ∷ ys) m).polled ≡ false
  unpolled_on calm m rest = ⊎_elim
      (λ e. ap (λ z. (entry_at (y ∷ ys) z).polled) e ∙ ap (λ z. z.polled) (entry_here y ys) ∙ calm)
      (λ apart. ap (λ b. (entry_or_none m (cond b (Some y) (find name_cmp m (by_name ys)))).polled) (names_apart m y.name apart) ∙ rest)
      (name_case m y.name)

  polled_on : y.polled ≡ false → (o : Option Name) → IsPolled ys o → IsPolled (y ∷ ys) o
  polled_on calm None p = λ m. unpolled_on calm m (p m)
  polled_on calm (Some n) p =
      let e = polled_there ys n p.0 in
      let lt = found_above y.name n (by_name ys) e.0 (first_of_both _ _ h) e.1 in
      (ap (λ z. z.polled) (entry_later y ys n lt) ∙ p.0, λ m less_than. unpolled_on calm m (p.1 m less_than))

polled : (ys : ServicesShape) → NamesAscend ys → IsPolled ys (first_polled ys)
polled [] h = λ m. refl
polled (y ∷ ys) h = elim y.polled as (λ b. y.polled ≡ b → IsPolled (y ∷ ys) (cond b (Some y.name) (first_polled ys))) [
  | true ↦ λ asked. (ap (λ z. z.polled) (entry_here y ys) ∙ asked, λ m lt. ap (λ o. (entry_or_none m o).polled) (none_before m (y.name, y) (by_name ys) (first_of_both _ _ h) lt))
  | false ↦ λ calm. polled_on y ys h calm (first_polled ys) (polled ys (second_of_both _ _ h))
] refl

-- Both

module _ (a b : ServicesShape) where
  pass : (m : Name) → Passed a b m → (entry_at b m).polled ≡ false → is_same_at a b m ≡ true
  pass m (inl none) calm = ap (λ o. same_to_services (entry_or_none m o) (entry_at b m)) none ∙ ap (λ p. not p && true) calm
  pass m (inr same) calm = same

  asked : (n : Name) → (entry_at b n).polled ≡ true → is_same_at a b n ≡ false
  asked n h = ap (λ p. not (entry_at a n).polled && (not p && list_all (finds_same (entry_at a n).arrivals (entry_at b n).arrivals) (entry_at a n).sets)) h ∙ by (entry_at a n).polled
    where
      by : (p : Bool) → (not p && false) ≡ false
      by true = refl
      by false = refl

  -- what is answered
  abbrev pub IsDifference : Option Name → Type 0
  IsDifference None = AreSameServices a b
  IsDifference (Some n) = IsFirstDifference a b n

  answered : (t p : Option Name) → IsTold a b t → IsPolled b p → IsDifference (lesser_of t p)
  answered None None t p = λ m. pass m (t m) (p m)
  answered None (Some n) t p = record { differs = asked n p.0; least = λ m lt. pass m (t m) (p.1 m lt) }
  answered (Some n) None t p = record { differs = t.0; least = λ m lt. pass m (t.2 m lt) (p m) }
  answered (Some n) (Some k) t p = elim (is_lt (name_cmp k n)) as (λ b. is_lt (name_cmp k n) ≡ b → IsDifference (Some (cond b k n))) [
    | true ↦ λ before. record { differs = asked k p.0; least = λ m lt. pass m (t.2 m (less_both m k n lt before)) (p.1 m lt) }
    | false ↦ λ le. record { differs = t.0; least = λ m lt. pass m (t.2 m lt) (p.1 m (before_both m n k lt le)) }
  ] refl

  pub difference_is : NamesAscend a → NamesAscend b → IsDifference (lesser_of (first_told a b) (first_polled b))
  difference_is h k = answered (first_told a b) (first_polled b) (told a b h k) (polled b k)

  pub both_clauses : (o : Option (Bor Name)) (p : Option Name) → option_map (λ n. n.now) o ≡ p → IsDifference p → IfNone o (AreSameServices a b) × IfSome o (λ n. IsFirstDifference a b n.now)
  both_clauses None p e d = (subst IsDifference (sym e) d, tt)
  both_clauses (Some n) p e d = (tt, subst IsDifference (sym e) d)
