-- Sequences: how many terms they have.
use Rattle.std.specs.Prelude.{◌≡◌, ℕ, suc, ◌<◌, ◌≤◌, nat_le, List, [], ◌∷◌, Option, None, length}
use Rattle.std.proofs.Common.{refl, ap, ◌∙◌, arith}
use Rattle.std.proofs.lemmas.Bool.{le-leb, lt-leb}
use Rattle.asp_model.specs.declared.term.Term.{Term}
use Rattle.asp_model.specs.Term.{child_count}
use Rattle.asp_check.specs.NameFaults.{NameSet}
use Rattle.proper_terms.specs.Fits.{left_below, terms_below, then_left, where_true}
use Rattle.proper_terms.specs.Walks.{steps_left}

count_all : (ts : List Term) → child_count (terms_below ts) ≡ length ts
count_all [] = refl
count_all (t ∷ ts) = ap (λ n. suc n) (count_all ts)

-- too few terms
pub few : (k : ℕ) (b : NameSet) (ts : List Term) (n : ℕ) → length ts < 2 → steps_left k b (terms_below ts) n ≡ None
few k b ts n h = ap (λ g. then_left (where_true g n) (left_below k b [] (terms_below ts))) (lt-leb 2 (child_count (terms_below ts)) (omega (arith, count_all ts, h)))

pub enough : (k : ℕ) (b : NameSet) (ts : List Term) (n : ℕ) → 2 ≤ length ts → steps_left k b (terms_below ts) n ≡ left_below k b [] (terms_below ts) n
enough k b ts n h = ap (λ g. then_left (where_true g n) (left_below k b [] (terms_below ts))) (le-leb 2 (child_count (terms_below ts)) (omega (arith, count_all ts, h)))
