-- The oldest match among pending requests.
use Rattle.std.proofs.Common.{◌≡◌, ◌<◌, ◌≤◌, ◌+◌, ℕ, suc, Bool, true, false, cond, IsSome, is_some, List, [], ◌∷◌, ◌++◌, Option, Some, None, length, map, refl, sym, ap, ◌∙◌, subst, zero-add, length-append, arith}
use Rattle.std.proofs.lemmas.List.{map-append}
use Rattle.std.proofs.lemmas.Bool.Decides.{nat_tests}
use Rattle.std.specs.declared.cmp.Ordering.{Ordering}
use Rattle.std.specs.declared.cmp.Ordering.TheVariants.{Less, Equal, Greater}
use Rattle.std.specs.Cmp.{nat_cmp_is}
use Rattle.std.specs.Ordering.{nat_cmp, is_eq}
use Rattle.std.specs.List.{AllByRecursion}
use Rattle.std.specs.Option.{option_map}
use Rattle.std.specs.FinMap.{nat_cmp-IsAntisymmetric}
use Rattle.std.specs.Map.{lookup, remove_entry}
use Rattle.std.specs.BTreeMap.{is_at}
use Rattle.std.proofs.lemmas.Map.Made.{lookup-map_values}
use Rattle.asp_model.specs.Names.{Text}
use Rattle.asp_model.specs.Term.{has_text}
use Rattle.asp_model.specs.Parcel.{has_place}
use Rattle.asp_model.specs.Configuration as model
use Rattle.asp_model.specs.Configuration.{RequestShape, label_of}
use Rattle.asp_model.specs.Intent.{Numbered, oldest_match}
use Rattle.law_steps.specs.Closed.{AreBelow}
use Rattle.law_chases.proofs.FutureLemmas.{no_some, some_is}
use Rattle.request_queue.specs.declared.request.Request.{Request}
use Rattle.request_queue.specs.Pending.{but, oldest, pending_of, request_at}
use Rattle.request_queue.specs.Requests.{request_shape}
use Rattle.step_activity.specs.Found.{IsFound}
use Rattle.request_queue.proofs.PendingLemmas.{arrivals_wait, matches_are_pending, served_leave}

abbrev pub Entries : Type 0
Entries = List (ℕ × Request)

abbrev pub numbered : ℕ × Request → Numbered
numbered e = (e.0, request_shape e.1)

-- Numbers

abbrev AreBetween : ℕ → ℕ → List Numbered → Type 0
AreBetween k n = AllByRecursion (λ x. (k ≤ x.0) × (x.0 < n))

abbrev skip_or : Bool → Numbered → List Numbered → List Numbered
skip_or b x xs = elim b [ true ↦ xs | false ↦ x ∷ xs ]

between_weaker : (j k n : ℕ) (xs : List Numbered) → j ≤ k → AreBetween k n xs → AreBetween j n xs
between_weaker j k n [] h e = tt
between_weaker j k n (x ∷ xs) h e = ((omega (arith, h, e.0.0), e.0.1), between_weaker j k n xs h e.1)

between_step : (k n : ℕ) (b : Bool) (r : RequestShape) (xs : List Numbered) → k < n → AreBetween k n xs → AreBetween k n (skip_or b (k, r) xs)
between_step k n true r xs h e = e
between_step k n false r xs h e = ((omega arith, h), e)

pending_between : (served : List ℕ) (k : ℕ) (rs : List RequestShape) → AreBetween k (k + length rs) (pending_of served k rs)
pending_between served k [] = tt
pending_between served k (r ∷ rs) =
    let n : ℕ = k + length (r ∷ rs) in
    let same : suc k + length rs ≡ n = omega arith in
    let rest : AreBetween (suc k) n (pending_of served (suc k) rs) = subst (λ (m : ℕ). AreBetween (suc k) m (pending_of served (suc k) rs)) same (pending_between served (suc k) rs) in
    between_step k n (has_place k served) r (pending_of served (suc k) rs) (omega arith) (between_weaker k (suc k) n (pending_of served (suc k) rs) (omega arith) rest)

found_step : (n m : ℕ) (x : RequestShape) (y : Numbered) (ys : List Numbered) (o : Ordering) → nat_cmp n y.0 ≡ o → AreBetween 0 m (y ∷ ys) → cond (is_eq o) (Some y.1) (lookup (is_at (nat_cmp n)) ys) ≡ Some x
    → (lookup (is_at (nat_cmp n)) ys ≡ Some x → n < m) → n < m
found_step n m x y ys Less c h e again = again e
found_step n m x y ys Equal c h e again = let same : n ≡ y.0 = nat_cmp-IsAntisymmetric n y.0 c in omega (arith, same, h.0.1)
found_step n m x y ys Greater c h e again = again e

found_below : (n m : ℕ) (x : RequestShape) (xs : List Numbered) → AreBetween 0 m xs → lookup (is_at (nat_cmp n)) xs ≡ Some x → n < m
found_below n m x [] h e = no_some e
found_below n m x (y ∷ ys) h e = found_step n m x y ys (nat_cmp n y.0) refl h e (found_below n m x ys h.1)

-- what is pending was received
pub pending_below : (n : ℕ) (served : List ℕ) (rs : List RequestShape) (x : RequestShape) → lookup (is_at (nat_cmp n)) (pending_of served 0 rs) ≡ Some x → n < length rs
pending_below n served rs x e = found_below n (length rs) x (pending_of served 0 rs) (subst (λ (m : ℕ). AreBetween 0 m (pending_of served 0 rs)) (zero-add (length rs)) (pending_between served 0 rs)) e

-- The match

abbrev either : Bool → Option Numbered → Option Numbered → Option Numbered
either b x y = elim b [ true ↦ x | false ↦ y ]

record Found (k : ℕ) (x : Numbered) (xs : List Numbered) : Type 0 where
  at : lookup (is_at (nat_cmp x.0)) xs ≡ Some x.1
  above : k ≤ x.0

at_number : (n : ℕ) → nat_cmp n n ≡ Equal
at_number n = sym (nat_cmp_is n n Equal refl)

match_step : (labels : List Text) (k : ℕ) (r : RequestShape) (xs : List Numbered) (x : Numbered) (b h : Bool) → has_text (label_of r) labels ≡ h → oldest labels (skip_or b (k, r) xs) ≡ Some x → (oldest labels xs ≡ Some x → Found (suc k) x xs)
    → Found k x (skip_or b (k, r) xs)
match_step labels k r xs x true h t e again = let f = again e in record { at = f.at; above = omega (arith, f.above) }
match_step labels k r xs x false true t e again =
    let here : Some (k, r) ≡ Some x = sym (ap (λ (v : Bool). either v (Some (k, r)) (oldest labels xs)) t) ∙ e in
    let same : (k, r) ≡ x = some_is here in
    subst (λ (y : Numbered). Found k y ((k, r) ∷ xs)) same (record { at = ap (λ (o : Ordering). cond (is_eq o) (Some r) (lookup (is_at (nat_cmp k)) xs)) (at_number k); above = omega arith })
match_step labels k r xs x false false t e again =
    let there : oldest labels xs ≡ Some x = sym (ap (λ (v : Bool). either v (Some (k, r)) (oldest labels xs)) t) ∙ e in
    let f = again there in
    let greater : nat_cmp x.0 k ≡ Greater = sym (nat_cmp_is x.0 k Greater (omega (arith, f.above))) in
    record { at = ap (λ (o : Ordering). cond (is_eq o) (Some r) (lookup (is_at (nat_cmp x.0)) xs)) greater ∙ f.at; above = omega (arith, f.above) }

first_pending : (labels : List Text) (served : List ℕ) (k : ℕ) (rs : List RequestShape) (x : Numbered) → oldest labels (pending_of served k rs) ≡ Some x → Found k x (pending_of served k rs)
first_pending labels served k [] x e = no_some e
first_pending labels served k (r ∷ rs) x e = match_step labels k r (pending_of served (suc k) rs) x (has_place k served) (has_text (label_of r) labels) refl e (first_pending labels served (suc k) rs x)

-- the match is the pending request with its number
match_pending : (labels : List Text) (served : List ℕ) (rs : List RequestShape) (x : Numbered) → oldest_match labels served 0 rs ≡ Some x → lookup (is_at (nat_cmp x.0)) (pending_of served 0 rs) ≡ Some x.1
match_pending labels served rs x e = (first_pending labels served 0 rs x (sym (matches_are_pending labels served 0 rs) ∙ e)).at

-- Entries

entry_found : (es : Entries) (n : ℕ) (served : List ℕ) (rs : List RequestShape) → map numbered es ≡ pending_of served 0 rs → lookup (is_at (nat_cmp n)) (pending_of served 0 rs) ≡ option_map request_shape (request_at n es)
entry_found es n served rs e = ap (lookup (is_at (nat_cmp n))) (sym e) ∙ lookup-map_values request_shape (is_at (nat_cmp n)) es

-- what a number tells of the match
pub record IsMatched (es : Entries) (labels : List Text) (served : List ℕ) (rs : List RequestShape) (n : ℕ) : Type 0 where
  pub request : RequestShape
  pub match : oldest_match labels served 0 rs ≡ Some (n, request)
  pub there : option_map request_shape (request_at n es) ≡ Some request
  pub below : n < length rs

matched_by : (es : Entries) (labels : List Text) (served : List ℕ) (rs : List RequestShape) (n : ℕ) (o : Option Numbered) → map numbered es ≡ pending_of served 0 rs → oldest_match labels served 0 rs ≡ o → Some n ≡ option_map (λ x. x.0) o → IsMatched es labels served rs n
matched_by es labels served rs n None p e h = no_some (sym h)
matched_by es labels served rs n (Some x) p e h =
    let same : x.0 ≡ n = sym (some_is h) in
    let there : lookup (is_at (nat_cmp x.0)) (pending_of served 0 rs) ≡ Some x.1 = match_pending labels served rs x e in
    let at : lookup (is_at (nat_cmp n)) (pending_of served 0 rs) ≡ Some x.1 = ap (λ (k : ℕ). lookup (is_at (nat_cmp k)) (pending_of served 0 rs)) (sym same) ∙ there in
    record { request = x.1; match = e ∙ (λ i. Some (same i, x.1)); there = sym (entry_found es n served rs p) ∙ at; below = pending_below n served rs x.1 at }

pub matched : (es : Entries) (labels : List Text) (served : List ℕ) (rs : List RequestShape) (n : ℕ) → map numbered es ≡ pending_of served 0 rs → Some n ≡ option_map (λ x. x.0) (oldest_match labels served 0 rs) → IsMatched es labels served rs n
matched es labels served rs n p h = matched_by es labels served rs n (oldest_match labels served 0 rs) p refl h

pub is_there : {A B : Type 0} (f : A → B) (o : Option A) (y : B) → option_map f o ≡ Some y → IsSome o
is_there f None y e = no_some e
is_there f (Some x) y e = refl

-- One leaves

shaped_step : (b : Bool) (e : ℕ × Request) (es fs : Entries) (xs : List Numbered) → map numbered fs ≡ xs → map numbered (cond b es (e ∷ fs)) ≡ cond b (map numbered es) (numbered e ∷ xs)
shaped_step true e es fs xs h = refl
shaped_step false e es fs xs h = ap (λ (l : List Numbered). numbered e ∷ l) h

remove_shaped : (test : ℕ → Bool) (es : Entries) → map numbered (remove_entry test es) ≡ remove_entry test (map numbered es)
remove_shaped test [] = refl
remove_shaped test (e ∷ es) = shaped_step (test e.0) e es (remove_entry test es) (remove_entry test (map numbered es)) (remove_shaped test es)

pub entries_served : (es : Entries) (n : ℕ) (served : List ℕ) (rs : List RequestShape) → map numbered es ≡ pending_of served 0 rs → map numbered (but n es) ≡ pending_of (n ∷ served) 0 rs
entries_served es n served rs e = remove_shaped (is_at (nat_cmp n)) es ∙ ap (remove_entry (is_at (nat_cmp n))) e ∙ sym (served_leave served n 0 rs)

-- One comes

not_served : (n : ℕ) (served : List ℕ) → AreBelow n served → has_place n served ≡ false
not_served n [] h = refl
not_served n (k ∷ ks) h = grind (arith, nat_tests, h.0, not_served n ks h.1)

below_more : (n : ℕ) (served : List ℕ) → AreBelow n served → AreBelow (suc n) served
below_more n [] h = tt
below_more n (k ∷ ks) h = (omega (arith, h.0), below_more n ks h.1)

pub below_one_more : (served : List ℕ) (rs : List RequestShape) (r : RequestShape) → AreBelow (length rs) served → AreBelow (length (rs ++ r ∷ [])) served
below_one_more served rs r h =
    let size : suc (length rs) ≡ length (rs ++ r ∷ []) = omega (arith, length-append rs (r ∷ [])) in
    subst (λ (m : ℕ). AreBelow m served) size (below_more (length rs) served h)

pub entries_more : (es : Entries) (n : ℕ) (r : Request) (served : List ℕ) (rs : List RequestShape) → map numbered es ≡ pending_of served 0 rs → AreBelow (length rs) served → n ≡ length rs
    → map numbered (es ++ (n, r) ∷ []) ≡ pending_of served 0 (rs ++ request_shape r ∷ [])
entries_more es n r served rs e h is =
    let zero : length rs ≡ 0 + length rs = omega arith in
    let new : has_place (0 + length rs) served ≡ false = subst (λ (m : ℕ). has_place m served ≡ false) zero (not_served (length rs) served h) in
    map-append numbered es ((n, r) ∷ []) ∙ (λ i. e i ++ ((is ∙ zero) i, request_shape r) ∷ []) ∙ sym (arrivals_wait served 0 rs (request_shape r) new)

-- Facts of each

module _ (P : ℕ × Request → Type 0) where
  kept_step : (b : Bool) (e : ℕ × Request) (es fs : Entries) → P e → AllByRecursion P es → AllByRecursion P fs → AllByRecursion P (cond b es (e ∷ fs))
  kept_step true e es fs p h g = h
  kept_step false e es fs p h g = (p, g)

  pub all_kept : (test : ℕ → Bool) (es : Entries) → AllByRecursion P es → AllByRecursion P (remove_entry test es)
  all_kept test [] h = tt
  all_kept test (e ∷ es) h = kept_step (test e.0) e es (remove_entry test es) h.0 h.1 (all_kept test es h.1)

  pub all_more : (es : Entries) (e : ℕ × Request) → AllByRecursion P es → P e → AllByRecursion P (es ++ e ∷ [])
  all_more [] e h p = (p, tt)
  all_more (d ∷ es) e h p = (h.0, all_more es e h.1 p)

-- a fact of the requests alone
module _ (Q : Request → Type 0) where
  taken_step : (b : Bool) (e : ℕ × Request) (o : Option Request) (r : Request) → Q e.1 → (o ≡ Some r → Q r) → cond b (Some e.1) o ≡ Some r → Q r
  taken_step true e o r q next h = subst Q (some_is h) q
  taken_step false e o r q next h = next h

  pub taken_is : (n : ℕ) (es : Entries) (r : Request) → AllByRecursion (λ e. Q e.1) es → request_at n es ≡ Some r → Q r
  taken_is n [] r h e = no_some e
  taken_is n (d ∷ es) r h e = taken_step (is_eq (nat_cmp n d.0)) d (request_at n es) r h.0 (taken_is n es r h.1) e

-- Matches as they are told

abbrev number_of : Option Numbered → Option ℕ
number_of o = option_map (λ x. x.0) o

match_is : (es : Entries) (labels : List Text) (served : List ℕ) (rs : List RequestShape) → map numbered es ≡ pending_of served 0 rs → oldest labels (map numbered es) ≡ oldest_match labels served 0 rs
match_is es labels served rs p = ap (oldest labels) p ∙ sym (matches_are_pending labels served 0 rs)

-- where nothing is pending there is no match
pub no_match : (es : Entries) (labels : List Text) (served : List ℕ) (rs : List RequestShape) → length es ≡ 0 → map numbered es ≡ pending_of served 0 rs → None ≡ number_of (oldest_match labels served 0 rs)
no_match [] labels served rs e p = ap number_of (match_is [] labels served rs p)
no_match (x ∷ es) labels served rs e p = absurd (omega (arith, e))

pub match_told : (es : Entries) (labels : List Text) (served : List ℕ) (rs : List RequestShape) (o : Option ℕ) → map numbered es ≡ pending_of served 0 rs → o ≡ number_of (oldest labels (map numbered es)) → o ≡ number_of (oldest_match labels served 0 rs)
match_told es labels served rs o p e = e ∙ ap number_of (match_is es labels served rs p)

pub is_none : (o : Option Numbered) → None ≡ number_of o → o ≡ None
is_none None e = refl
is_none (Some x) e = no_some e

-- it is the one that is found
pub is_found : (wanted : List Text) (a : model.Activity) (rs : List RequestShape) (o : Option ℕ) → o ≡ number_of (oldest_match wanted a.served 0 rs) → IsFound wanted a rs o
is_found wanted a rs None e = tt
is_found wanted a rs (Some k) e = e

-- whether there is one

pub some_found : (n : ℕ) (o : Option Numbered) → Some n ≡ number_of o → true ≡ is_some o
some_found n None e = no_some (sym e)
some_found n (Some x) e = refl

pub none_found : (o : Option Numbered) → None ≡ number_of o → false ≡ is_some o
none_found None e = refl
none_found (Some x) e = no_some e
