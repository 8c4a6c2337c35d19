-- The logs by classes that sendings leave.
use Rattle.std.specs.Prelude.{◌≡◌, ◌⊎◌, ◌&&◌, ◌||◌, ◌==◌, ◌<◌, ◌+◌, cond, ℕ, zero, suc, Bool, true, false, List, [], ◌∷◌, ◌++◌, Option, Some, length, map, take}
use Rattle.std.proofs.Common.{refl, sym, ap, subst, ◌∙◌, arith, inl, inr, ⊎_elim, slice_index_or}
use Rattle.std.proofs.lemmas.Bool.{and_parts, eqb-true}
use Rattle.std.proofs.lemmas.List.{map-append, take_more}
use Rattle.asp_model.specs.declared.outcome.Reception.{Reception}
use Rattle.asp_model.specs.Names.{Name, same_name}
use Rattle.asp_model.specs.Configuration.{From, ReceptionShape}
use Rattle.asp_model.specs.Shapes.{reception_shape}
use Rattle.law_chases.proofs.FutureLemmas.{true_false, none_true}
use Rattle.law_steps.proofs.NameLemmas.{names_tied, name_itself}
use Rattle.law_classes.specs.Runs.{with_entry}
use Rattle.end_search.specs.Found.{AreAll}
use Rattle.class_search.specs.declared.ends.Sending.{Sending}
use Rattle.class_search.specs.declared.logs.ClassLog.{ClassLog}
use Rattle.class_search.specs.Logs.{is_log, logs_of}
use Rattle.replay_classes.specs.Sendings.{is_to, logs_from, entry_of, IsAmong, has_log}

-- One more

abbrev one_by : Bool → Sending → List ReceptionShape → List ReceptionShape
one_by b s xs = elim b [ true ↦ From s.by ∷ xs | false ↦ xs ]

one_last : (b c : Bool) (s t : Sending) (xs : List ReceptionShape) → one_by b s (cond c (xs ++ From t.by ∷ []) xs) ≡ cond c (one_by b s xs ++ From t.by ∷ []) (one_by b s xs)
one_last true true s t xs = refl
one_last true false s t xs = refl
one_last false true s t xs = refl
one_last false false s t xs = refl

none_last : (b : Bool) (t : Sending) → one_by b t [] ≡ cond b ([] ++ From t.by ∷ []) []
none_last true t = refl
none_last false t = refl

pub sent_last : (ss : List Sending) (t : Sending) (q : Name) (κ : ℕ) → logs_from (ss ++ t ∷ []) q κ ≡ with_entry (entry_of t) (logs_from ss) q κ
sent_last [] t q κ = none_last (is_to t q κ) t
sent_last (s ∷ ss) t q κ = ap (one_by (is_to s q κ) s) (sent_last ss t q κ) ∙ one_last (is_to s q κ) (is_to t q κ) s t (logs_from ss q κ)

-- those that are taken, and the next
pub take_last : {A : Type 0} (xs : List A) (k : ℕ) (x : A) → k < length xs → x ≡ slice_index_or xs k x → take (k + 1) xs ≡ take k xs ++ x ∷ []
take_last xs k x lt e = take_more xs k x lt ∙ ap (λ y. take k xs ++ y ∷ []) (sym e)

pub take_whole : {A : Type 0} (xs : List A) (k : ℕ) → (k < length xs → ⊥) → take k xs ≡ xs
take_whole [] zero h = refl
take_whole [] (suc k) h = refl
take_whole (x ∷ xs) zero h = absurd (h (omega arith))
take_whole (x ∷ xs) (suc k) h = ap (λ ys. x ∷ ys) (take_whole xs k (λ lt. h (omega (arith, lt))))

-- The log of a class, gathered

pub gathered : (ss : List Sending) (k : ℕ) (s : Sending) (q : Name) (κ : ℕ) → k < length ss → s ≡ slice_index_or ss k s → logs_from (take (k + 1) ss) q κ ≡ cond (is_to s q κ) (logs_from (take k ss) q κ ++ From s.by ∷ []) (logs_from (take k ss) q κ)
gathered ss k s q κ lt e = ap (λ ts. logs_from ts q κ) (take_last ss k s lt e) ∙ sent_last (take k ss) s q κ

-- a sender more, or none
pub gathered_then : (ss : List Sending) (k : ℕ) (s : Sending) (q : Name) (κ : ℕ) (xs new : List Reception) (x : Reception) → k < length ss → s ≡ slice_index_or ss k s → is_to s q κ ≡ true
    → new ≡ xs ++ x ∷ [] → reception_shape x ≡ From s.by → map reception_shape xs ≡ logs_from (take k ss) q κ → map reception_shape new ≡ logs_from (take (k + 1) ss) q κ
gathered_then ss k s q κ xs new x lt e here more by before =
    ap (map reception_shape) more ∙ map-append reception_shape xs (x ∷ []) ∙ ap (λ r. map reception_shape xs ++ r ∷ []) by ∙ ap (λ l. l ++ From s.by ∷ []) before
    ∙ sym (gathered ss k s q κ lt e ∙ ap (λ b. cond b (logs_from (take k ss) q κ ++ From s.by ∷ []) (logs_from (take k ss) q κ)) here)

pub gathered_else : (ss : List Sending) (k : ℕ) (s : Sending) (q : Name) (κ : ℕ) (xs new : List Reception) → k < length ss → s ≡ slice_index_or ss k s → is_to s q κ ≡ false
    → new ≡ xs → map reception_shape xs ≡ logs_from (take k ss) q κ → map reception_shape new ≡ logs_from (take (k + 1) ss) q κ
gathered_else ss k s q κ xs new lt e here same before =
    ap (map reception_shape) same ∙ before
    ∙ sym (gathered ss k s q κ lt e ∙ ap (λ b. cond b (logs_from (take k ss) q κ ++ From s.by ∷ []) (logs_from (take k ss) q κ)) here)

-- Rows

-- a row has the whole log of its class
abbrev pub IsRight : List Sending → ClassLog → Type 0
IsRight ss l = map reception_shape l.entries.items ≡ logs_from ss l.to l.class

-- each row does, and there is one for whatever these leave
pub record AreRows (ss ts : List Sending) (rows : List ClassLog) : Type 0 where
  pub right : AreAll (IsRight ss) rows
  pub has : (q : Name) (κ : ℕ) → (logs_from ts q κ ≡ []) ⊎ (has_log rows q κ ≡ true)

has_more : (rows : List ClassLog) (l : ClassLog) (q : Name) (κ : ℕ) → has_log (rows ++ l ∷ []) q κ ≡ (has_log rows q κ || is_log l q κ)
has_more [] l q κ = or_none (is_log l q κ)
  where
    or_none : (b : Bool) → (b || false) ≡ b
    or_none true = refl
    or_none false = refl
has_more (r ∷ rs) l q κ = ap (λ b. is_log r q κ || b) (has_more rs l q κ) ∙ or_or (is_log r q κ) (has_log rs q κ) (is_log l q κ)
  where
    or_or : (a b c : Bool) → (a || (b || c)) ≡ ((a || b) || c)
    or_or true b c = refl
    or_or false b c = refl

-- where one more goes to another log, nothing is left there that was not before
other_log : (b : Bool) (xs : List ReceptionShape) (s : Sending) → b ≡ false → xs ≡ [] → cond b (xs ++ From s.by ∷ []) xs ≡ []
other_log true xs s e none = none_true (sym e)
other_log false xs s e none = none

-- the log is there already
pub rows_stay : (ss ts : List Sending) (s : Sending) (rows : List ClassLog) → AreRows ss ts rows → has_log rows s.to s.class ≡ true → AreRows ss (ts ++ s ∷ []) rows
rows_stay ss ts s rows h there = record {
  right = h.right;
  has = λ q κ. elim (is_to s q κ) as (λ b. is_to s q κ ≡ b → (logs_from (ts ++ s ∷ []) q κ ≡ []) ⊎ (has_log rows q κ ≡ true)) [
    | true ↦ λ e.
        let p = and_parts (same_name q s.to) (κ == s.class) e in
        inr (subst (λ m. has_log rows m κ ≡ true) (sym (names_tied q s.to p.0)) (subst (λ μ. has_log rows s.to μ ≡ true) (sym (eqb-true κ s.class p.1)) there))
    | false ↦ λ e. ⊎_elim (λ none. inl (sent_last ts s q κ ∙ other_log (is_to s q κ) (logs_from ts q κ) s e none)) (λ g. inr g) (h.has q κ)
  ] refl;
}

-- it is a new row
pub rows_more : (ss ts : List Sending) (s : Sending) (rows : List ClassLog) (l : ClassLog) → AreRows ss ts rows → l.to ≡ s.to → l.class ≡ s.class → IsRight ss l → AreAll (IsRight ss) (rows ++ l ∷ []) → AreRows ss (ts ++ s ∷ []) (rows ++ l ∷ [])
rows_more ss ts s rows l h to class right all = record {
  right = all;
  has = λ q κ. elim (is_to s q κ) as (λ b. is_to s q κ ≡ b → (logs_from (ts ++ s ∷ []) q κ ≡ []) ⊎ (has_log (rows ++ l ∷ []) q κ ≡ true)) [
    | true ↦ λ e. inr (has_more rows l q κ ∙ ap (λ b. has_log rows q κ || b) (ap (λ m. same_name q m && (κ == l.class)) to ∙ ap (λ μ. same_name q s.to && (κ == μ)) class ∙ e) ∙ or_true (has_log rows q κ))
    | false ↦ λ e. ⊎_elim (λ none. inl (sent_last ts s q κ ∙ other_log (is_to s q κ) (logs_from ts q κ) s e none)) (λ g. inr (has_more rows l q κ ∙ ap (λ b. b || is_log l q κ) g)) (h.has q κ)
  ] refl;
}
  where
    or_true : (b : Bool) → (b || true) ≡ true
    or_true true = refl
    or_true false = refl

-- the first row of a class is right
found_right : (ss : List Sending) (rows : List ClassLog) (q : Name) (κ : ℕ) → AreAll (IsRight ss) rows → (logs_of rows q κ ≡ logs_from ss q κ) ⊎ ((has_log rows q κ ≡ false) × (logs_of rows q κ ≡ []))
found_right ss [] q κ h = inr (refl, refl)
found_right ss (l ∷ ls) q κ h = elim (is_log l q κ) as (λ b. is_log l q κ ≡ b → (elim b [ true ↦ map reception_shape l.entries.items | false ↦ logs_of ls q κ ] ≡ logs_from ss q κ) ⊎ (((b || has_log ls q κ) ≡ false) × (elim b [ true ↦ map reception_shape l.entries.items | false ↦ logs_of ls q κ ] ≡ []))) [
  | true ↦ λ e.
      let p = and_parts (same_name q l.to) (κ == l.class) e in
      inl (h.0 ∙ ap (λ m. logs_from ss m l.class) (sym (names_tied q l.to p.0)) ∙ ap (λ μ. logs_from ss q μ) (sym (eqb-true κ l.class p.1)))
  | false ↦ λ e. found_right ss ls q κ h.1
] refl

pub rows_show : (ss : List Sending) (rows : List ClassLog) → AreRows ss ss rows → (q : Name) (κ : ℕ) → logs_of rows q κ ≡ logs_from ss q κ
rows_show ss rows h q κ = ⊎_elim
    (λ p. p)
    (λ g. ⊎_elim (λ none. g.1 ∙ sym none) (λ there. absurd (true_false (has_log rows q κ) there g.0)) (h.has q κ))
    (found_right ss rows q κ h.right)
