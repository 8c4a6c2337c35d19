-- Logs by the numbers at which they stand.
use Rattle.std.specs.Prelude.{◌≡◌, ℕ, zero, suc, ◌+◌, Bool, true, false, cond, List, [], ◌∷◌, ◌++◌, Option, Some, None, is_some, length, map, option_map, slice_get, take}
use Rattle.std.specs.BTreeMap.{BTreeMap, get, is_at}
use Rattle.std.specs.FinMap.{find}
use Rattle.std.proofs.Common.{refl, sym, ap, subst, ◌∙◌, arith}
use Rattle.asp_model.specs.Names.{Name, name_cmp, same_name}
use Rattle.asp_model.specs.Configuration.{ReceptionShape}
use Rattle.asp_model.specs.Step.{ListsShape}
use Rattle.law_chases.proofs.FutureLemmas.{no_some, some_is}
use Rattle.law_steps.proofs.NameLemmas.{names_tied}
use Rattle.std.specs.Global.{Vec}
use Rattle.asp_model.specs.declared.outcome.Reception.{Reception}
use Rattle.asp_model.specs.Replay.{log_in}
use Rattle.asp_model.specs.Configuration.{or_none}
use Rattle.asp_model.specs.Shapes.{reception_shape}
use Rattle.asp_model.specs.Step.{reception_at}
use Rattle.explain.specs.declared.differences.logs.Numbers.{Numbers}
use Rattle.explain.specs.OrderKept.{AreNumbered, log_entry, log_numbered}

plus_one : (i : ℕ) → suc i ≡ i + 1
plus_one i = omega arith

abbrev Log : Type 0
Log = List ReceptionShape

-- the first of a list, or what comes behind it
abbrev first_or : Option Log → Option Log → Option Log
first_or None o = o
first_or (Some x) o = Some x

abbrev if_named : Name → Name × Log → Option Log
if_named n x = cond (same_name n x.0) (Some x.1) None

find_more : (n : Name) (xs : ListsShape) (x : Name × Log) → find name_cmp n (xs ++ x ∷ []) ≡ first_or (find name_cmp n xs) (if_named n x)
find_more n [] x = refl
find_more n (y ∷ xs) x = by (same_name n y.0) (find_more n xs x)
  where
    by : (b : Bool) → find name_cmp n (xs ++ x ∷ []) ≡ first_or (find name_cmp n xs) (if_named n x) → cond b (Some y.1) (find name_cmp n (xs ++ x ∷ [])) ≡ first_or (cond b (Some y.1) (find name_cmp n xs)) (if_named n x)
    by true h = refl
    by false h = h

take_at : {X : Type 0} (xs : List X) (k : ℕ) (x : X) → slice_get xs k ≡ Some x → take (suc k) xs ≡ take k xs ++ x ∷ []
take_at [] k x e = no_some e
take_at (y ∷ xs) zero x e = ap (λ z. z ∷ []) (some_is e)
take_at (y ∷ xs) (suc k) x e = ap (λ z. y ∷ z) (take_at xs k x e)

pub take_whole : {X : Type 0} (xs : List X) → take (length xs) xs ≡ xs
take_whole [] = refl
take_whole (x ∷ xs) = ap (λ z. x ∷ z) (take_whole xs)

module _ (lists : ListsShape) where
  -- the first logs, so many, stand at their numbers
  pub record AreNoted (m : BTreeMap Name ℕ) (i : ℕ) : Type 0 where
    pub logs : (n : Name) → log_numbered lists (get name_cmp m n) ≡ find name_cmp n (take i lists)
    pub some : (n : Name) → is_some (get name_cmp m n) ≡ is_some (find name_cmp n (take i lists))

  found_more : (i : ℕ) (x : Name × Log) → slice_get lists i ≡ Some x → (n : Name) → find name_cmp n (take (suc i) lists) ≡ first_or (find name_cmp n (take i lists)) (if_named n x)
  found_more i x at n = ap (find name_cmp n) (take_at lists i x at) ∙ find_more n (take i lists) x

  -- where the log has a number, one behind it changes nothing
  as_known : (o : Option Log) (b : Bool) (l : Log) → (b ≡ true → is_some o ≡ true) → first_or o (cond b (Some l) None) ≡ o
  as_known (Some k) b l h = refl
  as_known None true l h = let no : false ≡ true = h refl in absurd cc
  as_known None false l h = refl

  pub known_more : (m : BTreeMap Name ℕ) (i : ℕ) (x : Name × Log) → AreNoted m i → slice_get lists i ≡ Some x → is_some (get name_cmp m x.0) ≡ true → AreNoted m (i + 1)
  known_more m i x h at there =
      let same : (n : Name) → find name_cmp n (take (suc i) lists) ≡ find name_cmp n (take i lists) = λ n.
      found_more i x at n ∙ as_known (find name_cmp n (take i lists)) (same_name n x.0) x.1 (λ e. sym (h.some n) ∙ ap (λ k. is_some (get name_cmp m k)) (names_tied n x.0 e) ∙ there) in
      subst (AreNoted m) (plus_one i) (record {
        logs = λ n. h.logs n ∙ sym (same n);
        some = λ n. h.some n ∙ ap is_some (sym (same n));
      })

  as_new : (o : Option Log) (l : Log) → is_some o ≡ false → first_or o (Some l) ≡ Some l
  as_new None l h = refl
  as_new (Some k) l h = absurd cc

  as_other : (o : Option Log) → first_or o None ≡ o
  as_other None = refl
  as_other (Some k) = refl

  -- a new one
  module _ (m : BTreeMap Name ℕ) (i : ℕ) (x : Name × Log) (h : AreNoted m i) (at : slice_get lists i ≡ Some x) (none : is_some (get name_cmp m x.0) ≡ false) where
    log_new : (n : Name) (b c : Bool) → same_name n x.0 ≡ b → c ≡ b → log_numbered lists (cond c (Some i) (get name_cmp m n)) ≡ first_or (find name_cmp n (take i lists)) (cond b (Some x.1) None)
    log_new n true true e f =
        ap (option_map (λ y. y.1)) at
        ∙ sym (as_new (find name_cmp n (take i lists)) x.1 (sym (h.some n) ∙ ap (λ k. is_some (get name_cmp m k)) (names_tied n x.0 e) ∙ none))
    log_new n true false e f = absurd cc
    log_new n false true e f = absurd cc
    log_new n false false e f = h.logs n ∙ sym (as_other (find name_cmp n (take i lists)))

    some_new : (n : Name) (b c : Bool) → same_name n x.0 ≡ b → c ≡ b → is_some (cond c (Some i) (get name_cmp m n)) ≡ is_some (first_or (find name_cmp n (take i lists)) (cond b (Some x.1) None))
    some_new n true true e f =
        sym (ap is_some (as_new (find name_cmp n (take i lists)) x.1 (sym (h.some n) ∙ ap (λ k. is_some (get name_cmp m k)) (names_tied n x.0 e) ∙ none)))
    some_new n true false e f = absurd cc
    some_new n false true e f = absurd cc
    some_new n false false e f = h.some n ∙ ap is_some (sym (as_other (find name_cmp n (take i lists))))

    pub new_more : (m' : BTreeMap Name ℕ) → ((n : Name) → get name_cmp m' n ≡ cond (is_at (name_cmp x.0) n) (Some i) (get name_cmp m n)) → ((n : Name) → same_name x.0 n ≡ same_name n x.0) → AreNoted m' (i + 1)
    new_more m' updates turned = subst (AreNoted m') (plus_one i) (record {
      logs = λ n. ap (log_numbered lists) (updates n) ∙ log_new n (same_name n x.0) (same_name x.0 n) refl (turned n) ∙ sym (found_more i x at n);
      some = λ n. ap is_some (updates n) ∙ some_new n (same_name n x.0) (same_name x.0 n) refl (turned n) ∙ ap is_some (sym (found_more i x at n));
    })

-- What the log of a name notes at a place

reception_get : (xs : List Reception) (k : ℕ) → reception_at (map reception_shape xs) k ≡ option_map reception_shape (slice_get xs k)
reception_get [] k = refl
reception_get (x ∷ xs) zero = refl
reception_get (x ∷ xs) (suc k) = reception_get xs k

get_map : {X Y : Type 0} (f : X → Y) (xs : List X) (k : ℕ) → slice_get (map f xs) k ≡ option_map f (slice_get xs k)
get_map f [] k = refl
get_map f (x ∷ xs) zero = refl
get_map f (x ∷ xs) (suc k) = get_map f xs k

module _ (es : List (Name × Vec Reception)) (m : Numbers) (is : AreNumbered (map log_entry es) m) (n : Name) where
  -- it has a number, at which it stands
  pub entry_found : (k : ℕ) (x : Name × Vec Reception) → get name_cmp m.numbers n ≡ Some k → slice_get es k ≡ Some x
      → (place : ℕ) → option_map reception_shape (slice_get x.1.items place) ≡ reception_at (log_in (map log_entry es) n) place
  entry_found k x at there place =
      let found : find name_cmp n (map log_entry es) ≡ Some (map reception_shape x.1.items) =
      sym (is n) ∙ ap (log_numbered (map log_entry es)) at ∙ ap (option_map (λ y. y.1)) (get_map log_entry es k ∙ ap (option_map log_entry) there) in
      sym (ap (λ o. reception_at (or_none o) place) found ∙ reception_get x.1.items place)

  -- none stands at its number
  pub entry_past : (k : ℕ) → get name_cmp m.numbers n ≡ Some k → slice_get es k ≡ None
      → (place : ℕ) → None ≡ reception_at (log_in (map log_entry es) n) place
  entry_past k at there place =
      let found : find name_cmp n (map log_entry es) ≡ None =
      sym (is n) ∙ ap (log_numbered (map log_entry es)) at ∙ ap (option_map (λ y. y.1)) (get_map log_entry es k ∙ ap (option_map log_entry) there) in
      sym (ap (λ o. reception_at (or_none o) place) found)

  -- it has no number
  pub entry_none : get name_cmp m.numbers n ≡ None → (place : ℕ) → None ≡ reception_at (log_in (map log_entry es) n) place
  entry_none at place = sym (ap (λ o. reception_at (or_none o) place) (sym (is n) ∙ ap (log_numbered (map log_entry es)) at))
