-- How many entries of each log were met.
use Rattle.std.specs.Prelude.{◌≡◌, ℕ, ◌+◌, Bool, true, false, cond, Option, Some, None}
use Rattle.std.specs.BTreeMap.{BTreeMap, WritesThrough, get, is_at}
use Rattle.std.proofs.Common.{IsSome, refl, sym, ap, subst, ◌∙◌, ⊎_elim}
use Rattle.asp_model.specs.Names.{Name, name_cmp, same_name}
use Rattle.law_steps.proofs.NameLemmas.{name_case, names_apart, names_tied}
use Rattle.explain.specs.declared.differences.places.Places.{Places}
use Rattle.explain.specs.OrderKept.{count_at, or_zero}

pub name_turned : (n m : Name) → same_name n m ≡ same_name m n
name_turned n m = ⊎_elim
    (λ same. ap (same_name n) (sym same) ∙ ap (λ k. same_name k n) same)
    (λ apart. names_apart n m apart ∙ sym (names_apart m n (λ e. apart (sym e))))
    (name_case n m)

-- a number that is new is 0, as before
pub known_same : (k : Name) (old new : BTreeMap Name ℕ) → get name_cmp old k ≡ None → ((n : Name) → get name_cmp new n ≡ cond (is_at (name_cmp k) n) (Some 0) (get name_cmp old n))
    → (n : Name) → or_zero (get name_cmp new n) ≡ or_zero (get name_cmp old n)
known_same k old new none updates n = by (same_name k n) refl
  where
    by : (b : Bool) → same_name k n ≡ b → or_zero (get name_cmp new n) ≡ or_zero (get name_cmp old n)
    by true e = ap or_zero (updates n ∙ ap (λ b. cond b (Some 0) (get name_cmp old n)) e) ∙ ap or_zero (sym none ∙ ap (get name_cmp old) (names_tied k n e))
    by false e = ap or_zero (updates n ∙ ap (λ b. cond b (Some 0) (get name_cmp old n)) e)

-- one is written through the map
pub written : (m : Name) (first : Places) (old new : BTreeMap Name ℕ) (was now : ℕ) (last : Places)
    → ((n : Name) → or_zero (get name_cmp old n) ≡ count_at first n) → last.counts ≡ new
    → Some was ≡ get name_cmp old m → now ≡ was + 1 → WritesThrough name_cmp (name_cmp m) old now new
    → (n : Name) → count_at last n ≡ cond (same_name m n) (count_at first n + 1) (count_at first n)
written m first old new was now last same is found more writes n =
    let there : IsSome (get name_cmp old m) = subst (λ (o : Option ℕ). IsSome o) found refl in
    let updates = (writes.3 there).0 in
    let after : count_at last n ≡ or_zero (cond (same_name m n) (Some now) (get name_cmp old n)) = ap (λ x. or_zero (get name_cmp x n)) is ∙ ap or_zero (updates n) in
    after ∙ by (same_name m n) refl
  where
    by : (b : Bool) → same_name m n ≡ b → or_zero (cond b (Some now) (get name_cmp old n)) ≡ cond b (count_at first n + 1) (count_at first n)
    by true e = more ∙ ap (λ k. k + 1) (ap or_zero found ∙ same m ∙ ap (count_at first) (names_tied m n e))
    by false e = same n
