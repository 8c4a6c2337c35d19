-- Logs by classes, and the logs that begin with others.
use Rattle.std.specs.Prelude.{◌≡◌, ◌==◌, ℕ, true, false, List, [], ◌∷◌, map}
use Rattle.std.proofs.Common.{refl, sym, ap, subst, ◌∙◌, inl, inr, ⊎_elim, ◌⊎◌}
use Rattle.std.proofs.lemmas.Bool.{and_parts, eqb-true}
use Rattle.std.specs.List.{starts_with}
use Rattle.asp_model.specs.Names.{Name, same_name}
use Rattle.asp_model.specs.Configuration.{ReceptionShape}
use Rattle.asp_model.specs.Shapes.{reception_shape}
use Rattle.asp_model.specs.Step.{same_reception}
use Rattle.law_steps.proofs.NameLemmas.{names_tied}
use Rattle.law_steps.proofs.MergeLemmas.{prefix_of_test, test_of_prefix}
use Rattle.law_classes.specs.Runs.{ClassLogs}
use Rattle.law_classes.specs.Families.{IsInside}
use Rattle.end_search.specs.Found.{AreAll}
use Rattle.class_search.specs.declared.logs.ClassLog.{ClassLog}
use Rattle.class_search.specs.Logs.{is_log, logs_of, HaveBegun}

-- the log of this class of this activity begins with the other one
abbrev pub BeginsAt : (logs lists : ClassLogs) → ClassLog → Type 0
BeginsAt logs lists l = starts_with same_reception (lists l.to l.class) (logs l.to l.class) ≡ true

none_begins : (xs : List ReceptionShape) → starts_with same_reception xs [] ≡ true
none_begins [] = refl
none_begins (x ∷ xs) = refl

begun_at : (logs lists : ClassLogs) (rows : List ClassLog) → AreAll (BeginsAt logs lists) rows → (q : Name) (κ : ℕ) → (starts_with same_reception (lists q κ) (logs q κ) ≡ true) ⊎ (logs_of rows q κ ≡ [])
begun_at logs lists [] h q κ = inr refl
begun_at logs lists (l ∷ ls) h q κ = elim (is_log l q κ) as (λ b. is_log l q κ ≡ b → (starts_with same_reception (lists q κ) (logs q κ) ≡ true) ⊎ (logs_of (l ∷ ls) q κ ≡ [])) [
  | true ↦ λ e.
      let p = and_parts (same_name q l.to) (κ == l.class) e in
      inl (subst (λ m. starts_with same_reception (lists m κ) (logs m κ) ≡ true) (sym (names_tied q l.to p.0)) (subst (λ μ. starts_with same_reception (lists l.to μ) (logs l.to μ) ≡ true) (sym (eqb-true κ l.class p.1)) h.0))
  | false ↦ λ e. ⊎_elim (λ x. inl x) (λ none. inr (ap (λ b. elim b [ true ↦ map reception_shape l.entries.items | false ↦ logs_of ls q κ ]) e ∙ none)) (begun_at logs lists ls h.1 q κ)
] refl

pub all_begun : (lists : ClassLogs) (rows : List ClassLog) → AreAll (BeginsAt (logs_of rows) lists) rows → HaveBegun (logs_of rows) lists
all_begun lists rows h q κ = ⊎_elim
    (λ x. x)
    (λ none. subst (λ l. starts_with same_reception (lists q κ) l ≡ true) (sym none) (none_begins (lists q κ)))
    (begun_at (logs_of rows) lists rows h q κ)

-- so they are inside, and the other way round

pub inside_begun : (logs lists : ClassLogs) → HaveBegun logs lists → IsInside logs lists
inside_begun logs lists h q κ = prefix_of_test (logs q κ) (lists q κ) (h q κ)

pub begun_inside : (logs lists : ClassLogs) → IsInside logs lists → HaveBegun logs lists
begun_inside logs lists h q κ = test_of_prefix (logs q κ) (lists q κ) (h q κ)
