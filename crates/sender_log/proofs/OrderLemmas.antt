-- Entries in the order of their names, with one more behind them.
use Rattle.std.proofs.Common.{◌≡◌, ℕ, ◌+◌, true, [], ◌∷◌, ◌++◌, refl, ap, subst, sym, ◌∙◌, T, arith}
use Rattle.std.specs.declared.cmp.Ordering.{Ordering}
use Rattle.std.specs.declared.cmp.Ordering.TheVariants.{Less, Equal, Greater}
use Rattle.std.specs.Ordering.{is_lt}
use Rattle.std.specs.Cmp.Lexicographic.{nat_list_cmp_total}
use Rattle.std.specs.FinMap.{is_sorted}
use Rattle.std.specs.FinMap.Entries.{below_all}
use Rattle.std.proofs.lemmas.Bool.{and_parts, and_from}
use Rattle.asp_model.specs.Names.{Name, name_cmp}
use Rattle.asp_model.specs.Replay.{CountsShape, total}
use Rattle.asp_model.specs.ReadReport.{is_behind}

less_order : (r : Ordering) → is_lt r ≡ true → r ≡ Less
less_order Less e = refl
less_order Equal e = absurd (subst T (sym e) tt)
less_order Greater e = absurd (subst T (sym e) tt)

behind_both : (x n m : Name) → is_behind x n ≡ true → is_behind n m ≡ true → is_behind x m ≡ true
behind_both x n m h g = ap is_lt (nat_list_cmp_total.trans x n m (less_order (name_cmp x n) h) (less_order (name_cmp n m) g))

below_more : (x n m : Name) (k j : ℕ) (es : CountsShape) → below_all name_cmp x (es ++ (n, k) ∷ []) ≡ true → is_behind n m ≡ true → below_all name_cmp x ((es ++ (n, k) ∷ []) ++ (m, j) ∷ []) ≡ true
below_more x n m k j [] h g = and_from _ _ (and_parts (is_behind x n) true h).0 (and_from _ _ (behind_both x n m (and_parts (is_behind x n) true h).0 g) refl)
below_more x n m k j (e ∷ es) h g =
    let p = and_parts (is_behind x e.0) (below_all name_cmp x (es ++ (n, k) ∷ [])) h in
    and_from _ _ p.0 (below_more x n m k j es p.1 g)

pub sorted_more : (n m : Name) (k j : ℕ) (es : CountsShape) → is_sorted name_cmp (es ++ (n, k) ∷ []) ≡ true → is_behind n m ≡ true → is_sorted name_cmp ((es ++ (n, k) ∷ []) ++ (m, j) ∷ []) ≡ true
sorted_more n m k j [] h g = and_from _ _ (and_from _ _ g refl) refl
sorted_more n m k j (e ∷ es) h g =
    let p = and_parts (below_all name_cmp e.0 (es ++ (n, k) ∷ [])) (is_sorted name_cmp (es ++ (n, k) ∷ [])) h in
    and_from _ _ (below_more e.0 n m k j es p.0 g) (sorted_more n m k j es p.1 g)

pub total_more : (es : CountsShape) (n : Name) (k : ℕ) → total (es ++ (n, k) ∷ []) ≡ total es + k
total_more [] n k = omega arith
total_more (e ∷ es) n k = ap (λ t. e.1 + t) (total_more es n k) ∙ omega arith
