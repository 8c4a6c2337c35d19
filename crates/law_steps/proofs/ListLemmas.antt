-- Lists and counts of a configuration, and prefixes.
use Rattle.std.specs.Prelude.{◌≡◌, cond, true, false, List, [], ◌∷◌, ◌++◌, Option, Some, None, length, map}
use Rattle.std.proofs.Common.{refl, sym, ap, ◌∙◌, ⊎_elim, ◌⊎◌, append_assoc}
use Rattle.std.proofs.lemmas.List.{append-nil}
use Rattle.std.specs.FinMap.{find}
use Rattle.std.specs.Ordering.{eq_by_cmp}
use Rattle.asp_model.specs.Names.{Name, name_cmp}
use Rattle.asp_model.specs.Configuration.{ReceptionShape, Activity, Configuration, or_none, log_of}
use Rattle.asp_model.specs.Step.{reception_at, with_last}
use Rattle.asp_model.specs.Replay.{lists_of, counts_of, log_in, count_in, zero_or}
use Rattle.law_steps.proofs.NameLemmas.{name_total, name_same, names_tied}
use Rattle.law_chases.proofs.MapLemmas as Maps
use Rattle.law_steps.proofs.FactLemmas.{face}
use Rattle.law_steps.proofs.SoundLemmas.{at_name, box_sent}
use Rattle.law_steps.proofs.TidyLemmas.{Tidy}

abbrev pub IsPrefix : List ReceptionShape → List ReceptionShape → Type 0
IsPrefix xs ys = (zs : List ReceptionShape) × (xs ++ zs ≡ ys)

pub prefix_both : (xs ys zs : List ReceptionShape) → IsPrefix xs ys → IsPrefix ys zs → IsPrefix xs zs
prefix_both xs ys zs p q = (p.0 ++ q.0, sym (append_assoc xs p.0 q.0) ∙ ap (λ l. l ++ q.0) p.1 ∙ q.1)

pub prefix_same : (xs ys : List ReceptionShape) → xs ≡ ys → IsPrefix xs ys
prefix_same xs ys p = ([], append-nil xs ∙ p)

pub reception_next : (xs : List ReceptionShape) (n : ReceptionShape) (zs : List ReceptionShape) → reception_at (xs ++ n ∷ zs) (length xs) ≡ Some n
reception_next [] n zs = refl
reception_next (x ∷ xs) n zs = reception_next xs n zs

-- Entries that are read of activities

abbrev pub with_name : {X : Type 0} → (Name × Activity → X) → Name → Option Activity → Option X
with_name g q None = None
with_name g q (Some a) = Some (g (q, a))

pub find_mapped : {X : Type 0} (g : Name × Activity → X) (q : Name) (es : List (Name × Activity)) → find name_cmp q (map (λ x. (x.0, g x)) es) ≡ with_name g q (find name_cmp q es)
find_mapped g q [] = refl
find_mapped {X} g q (e ∷ es) = elim (eq_by_cmp name_cmp q e.0) as (λ b. eq_by_cmp name_cmp q e.0 ≡ b → cond b (Some (g e)) (find name_cmp q (map (λ x. (x.0, g x)) es)) ≡ with_name g q (cond b (Some e.1) (find name_cmp q es))) [
  | true ↦ λ h. ap (λ k. Some (g (k, e.1))) (sym (names_tied q e.0 h))
  | false ↦ λ h. find_mapped g q es
] refl

-- a configuration's own lists have its logs
pub senders_own : (c : Configuration) → Tidy c → (m : Name) → log_in (lists_of c) m ≡ log_of c m
senders_own c y m = ap or_none (find_mapped (λ x. log_of c x.0) m c.activities) ∙ by_entry (find name_cmp m c.activities) refl
  where
    by_entry : (o : Option Activity) → find name_cmp m c.activities ≡ o → or_none (with_name (λ x. log_of c x.0) m o) ≡ log_of c m
    by_entry None is = sym (y.quiet m is)
    by_entry (Some a) is = refl

pub count_own : (c : Configuration) (q : Name) → count_in (counts_of c) q ≡ (at_name c q).reductions
count_own c q = ap zero_or (find_mapped (λ x. x.1.reductions) q c.activities) ∙ by_entry (find name_cmp q c.activities)
  where
    by_entry : (o : Option Activity) → zero_or (with_name (λ x. x.1.reductions) q o) ≡ (face o).reductions
    by_entry None = refl
    by_entry (Some a) = refl

-- What was logged

-- the log of m after something is logged is the log before, or that and the reception
pub logged_by : (z : Name × ReceptionShape) (c : Configuration) (m : Name) → ((z.0 ≡ m) × (or_none (find name_cmp m (with_last (Some z) c.logs)) ≡ log_of c m ++ z.1 ∷ [])) ⊎ (or_none (find name_cmp m (with_last (Some z) c.logs)) ≡ log_of c m)
logged_by z c m = box_sent z c.logs m

pub grown_by : (o : Option (Name × ReceptionShape)) (c : Configuration) (m : Name) → IsPrefix (log_of c m) (or_none (find name_cmp m (with_last o c.logs)))
grown_by None c m = ([], append-nil _)
grown_by (Some z) c m = ⊎_elim (λ x. (z.1 ∷ [], sym x.1)) (λ x. ([], append-nil _ ∙ sym x)) (logged_by z c m)

-- the log where something is logged
pub logged_list : (z : Name × ReceptionShape) (c : Configuration) → or_none (find name_cmp z.0 (with_last (Some z) c.logs)) ≡ log_of c z.0 ++ z.1 ∷ []
logged_list z c = ap or_none (Maps.find_same name_cmp name_total name_same z.0 (log_of c z.0 ++ z.1 ∷ []) c.logs)
