-- A replay takes as many steps as its counts allow, and so has ended.
use Rattle.std.specs.Prelude.{◌≡◌, ◌≢◌, ℕ, ◌≤◌, Bool, true, false, cond, List, [], ◌∷◌, Some}
use Rattle.std.proofs.Common.{refl, sym, ap, ◌∙◌, arith, ⊎_elim}
use Rattle.std.specs.FinMap.{find}
use Rattle.law_steps.specs.Systems.{Covers, count}
use Rattle.law_steps.specs.Systems as runs
use Rattle.law_steps.proofs.SystemCounts.{hit_same, hit_other}
use Rattle.law_steps.proofs.SystemRules.{rule_stops}
use Rattle.asp_model.specs.Names.{Name, name_cmp, same_name}
use Rattle.asp_model.specs.Configuration.{start}
use Rattle.asp_model.specs.Step.{ListsShape}
use Rattle.asp_model.specs.Replay.{CountsShape, total, count_in, zero_or}
use Rattle.law_steps.specs.Replays.{ReplaysRest}
use Rattle.law_steps.proofs.NameLemmas.{name_case, names_apart, name_itself}
use Rattle.law_steps.proofs.ReachedLemmas.{start_right}
use Rattle.law_steps.proofs.FlowLemmas.{machine}
use Rattle.law_steps.proofs.ReplayLemmas.{next_by, rule, repeats}

-- the names other than this one
abbrev strip : Name → List Name → List Name
strip n [] = []
strip n (k ∷ ks) = elim (same_name k n) [ true ↦ strip n ks | false ↦ k ∷ strip n ks ]

abbrev kept : Bool → Name → List Name → List Name
kept b k ks = elim b [ true ↦ ks | false ↦ k ∷ ks ]

count_first : (x : Name × ℕ) (xs : CountsShape) (q : Name) → q ≡ x.0 → count_in (x ∷ xs) q ≡ x.1
count_first x xs q p = ap (λ b. zero_or (cond b (Some x.1) (find name_cmp q xs))) (ap (same_name q) (sym p) ∙ name_itself q)

count_later : (x : Name × ℕ) (xs : CountsShape) (q : Name) → q ≢ x.0 → count_in (x ∷ xs) q ≡ count_in xs q
count_later x xs q a = ap (λ b. zero_or (cond b (Some x.1) (find name_cmp q xs))) (names_apart q x.0 a)

stripped_count : (lists : ListsShape) (n q : Name) (ks : List Name) → q ≢ n → count (machine lists) q (strip n ks) ≡ count (machine lists) q ks
stripped_count lists n q [] a = refl
stripped_count lists n q (k ∷ ks) a = ⊎_elim
    (λ p. let none = hit_other (machine lists) q k (λ e. a (e ∙ p)) in ap (λ b. count (machine lists) q (kept b k (strip n ks))) (ap (same_name k) (sym p) ∙ name_itself k) ∙ omega (arith, none, stripped_count lists n q ks a))
    (λ d. ap (λ b. count (machine lists) q (kept b k (strip n ks))) (names_apart k n d) ∙ omega (arith, stripped_count lists n q ks a))
    (name_case k n)

stripped_total : (x : Name × ℕ) (xs : CountsShape) (ks : List Name) → runs.total (count_in (x ∷ xs)) (strip x.0 ks) ≤ runs.total (count_in xs) ks
stripped_total x xs [] = omega arith
stripped_total x xs (k ∷ ks) = ⊎_elim
    (λ p. let e = ap (λ b. runs.total (count_in (x ∷ xs)) (kept b k (strip x.0 ks))) (ap (same_name k) (sym p) ∙ name_itself k) in omega (arith, e, stripped_total x xs ks))
    (λ d. let e = ap (λ b. runs.total (count_in (x ∷ xs)) (kept b k (strip x.0 ks))) (names_apart k x.0 d) in omega (arith, e, count_later x xs k d, stripped_total x xs ks))
    (name_case k x.0)

-- names that cover the counts, and whose counts sum to no more than the total
record Names (lists : ListsShape) (counts : CountsShape) : Type 0 where
  keys : List Name
  cover : Covers (machine lists) keys (count_in counts)
  within : runs.total (count_in counts) keys ≤ total counts

names_of : (lists : ListsShape) (counts : CountsShape) → Names lists counts
names_of lists [] = record { keys = []; cover = λ q h. absurd (omega (arith, h)); within = omega arith }
names_of lists (x ∷ xs) =
    let n = names_of lists xs in
    record {
      keys = x.0 ∷ strip x.0 n.keys;
      cover = λ q h. ⊎_elim
          (λ p. omega (arith, hit_same (machine lists) q x.0 p))
          (λ a. omega (arith, n.cover q (omega (arith, h, count_later x xs q a)), stripped_count lists x.0 q n.keys a))
          (name_case q x.0);
      within = omega (arith, count_first x xs x.0 refl, stripped_total x xs n.keys, n.within);
    }

pub replays_rest : ReplaysRest
replays_rest program lists counts =
    let n = names_of lists counts in
    let count = count_in counts in
    ap (next_by (Some lists) count) (repeats (Some lists) count (total counts) (start program))
    ∙ rule_stops (machine lists) (rule lists count) n.keys (total counts) count (start program) (start_right program) (λ q. omega arith) n.cover n.within
