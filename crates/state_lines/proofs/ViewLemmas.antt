-- The states at the end of a run by their numbers.
use Rattle.std.proofs.Common.{◌≡◌, ℕ, zero, suc, T, true, false, List, [], ◌∷◌, map, Option, Some, None, refl, sym, ap, subst, ◌∙◌}
use Rattle.std.specs.Prelude.{slice_get}
use Rattle.asp_model.specs.declared.outcome.ActivityReport.{ActivityReport}
use Rattle.asp_model.specs.Shapes.{activity_shape}
use Rattle.code_table.specs.declared.code.Node.{Node}
use Rattle.def_paths.specs.Outcomes.{EndShape}
use Rattle.run_ends.specs.declared.ends.EndState.{EndState}
use Rattle.run_ends.specs.Ends.{AreSnapshotsOf, IsSnapshotOf}

-- Equal options and lists

pub none_some : {A C : Type 0} {x : A} → None ≡ Some x → C
none_some e = absurd (subst (λ o. T (elim o [ None ↦ true | Some y ↦ false ])) e tt)

pub some_is : {A : Type 0} {x y : A} → Some x ≡ Some y → x ≡ y
some_is {A} {x} e = ap (λ o. elim o [ None ↦ x | Some z ↦ z ]) e

pub no_first : {A C : Type 0} {x : A} {xs : List A} → [] ≡ x ∷ xs → C
no_first e = absurd (subst (λ l. T (elim l [ [] ↦ true | y ∷ ys ↦ false ])) e tt)

pub first_is : {A : Type 0} {x y : A} {xs ys : List A} → x ∷ xs ≡ y ∷ ys → x ≡ y
first_is {A} {x} e = ap (λ l. elim l [ [] ↦ x | z ∷ zs ↦ z ]) e

pub rest_is : {A : Type 0} {x y : A} {xs ys : List A} → x ∷ xs ≡ y ∷ ys → xs ≡ ys
rest_is {A} {x} {y} {xs} e = ap (λ l. elim l [ [] ↦ xs | z ∷ zs ↦ zs ]) e

-- what stands at a number is the state and the report of one end
pub record IsEndAt (k : List Node) (a : ActivityReport) (x : EndState) (o : Option EndShape) : Type 0 where
  pub end : EndShape
  pub is : o ≡ Some end
  pub report : activity_shape a ≡ end.report
  pub snapshot : IsSnapshotOf k x end.snapshot

pub end_at : (k : List Node) (rs : List ActivityReport) (xs : List EndState) (es : List EndShape) (n : ℕ) (a : ActivityReport) (x : EndState) → map activity_shape rs ≡ map (λ e. e.report) es → AreSnapshotsOf k xs es
    → slice_get rs n ≡ Some a → slice_get xs n ≡ Some x → IsEndAt k a x (slice_get es n)
end_at k [] xs es n a x same are at there = none_some at
end_at k (b ∷ rs) [] es n a x same are at there = none_some there
end_at k (b ∷ rs) (y ∷ xs) [] n a x same are at there = absurd are
end_at k (b ∷ rs) (y ∷ xs) (e ∷ es) zero a x same are at there =
    let first : b ≡ a = some_is at in
    let state : y ≡ x = some_is there in
    let report : activity_shape b ≡ e.report = first_is same in
    record { end = e; is = refl; report = ap activity_shape (sym first) ∙ report; snapshot = subst (λ (z : EndState). IsSnapshotOf k z e.snapshot) state are.0 }
end_at k (b ∷ rs) (y ∷ xs) (e ∷ es) (suc n) a x same are at there =
    let tails : map activity_shape rs ≡ map (λ (f : EndShape). f.report) es = rest_is same in
    end_at k rs xs es n a x tails are.1 at there

-- past the last
pub none_reported : (rs : List ActivityReport) (es : List EndShape) (n : ℕ) → map activity_shape rs ≡ map (λ e. e.report) es → slice_get rs n ≡ None → slice_get es n ≡ None
none_reported [] [] n same at = refl
none_reported [] (e ∷ es) n same at = no_first same
none_reported (b ∷ rs) [] n same at = refl
none_reported (b ∷ rs) (e ∷ es) zero same at = none_some (sym at)
none_reported (b ∷ rs) (e ∷ es) (suc n) same at =
    let tails : map activity_shape rs ≡ map (λ (f : EndShape). f.report) es = rest_is same in
    none_reported rs es n tails at

pub none_seen : (k : List Node) (xs : List EndState) (es : List EndShape) (n : ℕ) → AreSnapshotsOf k xs es → slice_get xs n ≡ None → slice_get es n ≡ None
none_seen k [] [] n are at = refl
none_seen k [] (e ∷ es) n are at = absurd are
none_seen k (x ∷ xs) [] n are at = refl
none_seen k (x ∷ xs) (e ∷ es) zero are at = none_some (sym at)
none_seen k (x ∷ xs) (e ∷ es) (suc n) are at = none_seen k xs es n are.1 at
