-- How often labels stand in runs, and the lists without one of them.
use Rattle.std.specs.Prelude.{◌≡◌, ◌≢◌, ℕ, suc, ◌+◌, ◌-◌, ◌≤◌, List, [], ◌∷◌, ◌++◌, length}
use Rattle.std.proofs.Common.{refl, sym, ap, subst, ◌∙◌, arith, inl, inr, ⊎_elim, ◌⊎◌}
use Rattle.law_steps.specs.Systems.{System, Run, one_where, hit, count, total, Covers}

abbrev pub either : {A B C : Type 0} → A ⊎ B → C → C → C
either (inl a) x z = x
either (inr b) x z = z

-- the list without the first n
abbrev pub without : (y : System) → y.Label → List y.Label → List y.Label
without y n [] = []
without y n (m ∷ ms) = either (y.alike n m) ms (m ∷ without y n ms)

one_of : {A B : Type 0} → (s : A ⊎ B) → (B → ⊥) → one_where s ≡ 1
one_of (inl a) f = refl
one_of (inr b) f = absurd (f b)

none_of : {A B : Type 0} → (s : A ⊎ B) → (A → ⊥) → one_where s ≡ 0
none_of (inl a) f = absurd (f a)
none_of (inr b) f = refl

pub hit_same : (y : System) (q n : y.Label) → q ≡ n → hit y q n ≡ 1
hit_same y q n p = one_of (y.alike q n) (λ a. a p)

pub hit_other : (y : System) (q n : y.Label) → q ≢ n → hit y q n ≡ 0
hit_other y q n p = none_of (y.alike q n) p

pub good_after : (y : System) (ns : List y.Label) (c d : y.State) → y.Good c → Run y c ns d → y.Good d
good_after y [] c d g r = subst y.Good r g
good_after y (n ∷ ns) c d g r = good_after y ns r.0 d (y.keeps n c r.0 g r.1) r.2

pub run_both : (y : System) (ns ms : List y.Label) (c d e : y.State) → Run y c ns d → Run y d ms e → Run y c (ns ++ ms) e
run_both y [] ms c d e r s = subst (λ x. Run y x ms e) (sym r) s
run_both y (n ∷ ns) ms c d e r s = (r.0, r.1, run_both y ns ms r.0 d e r.2 s)

pub count_both : (y : System) (q : y.Label) (ns ms : List y.Label) → count y q (ns ++ ms) ≡ count y q ns + count y q ms
count_both y q [] ms = omega arith
count_both y q (n ∷ ns) ms = omega (arith, count_both y q ns ms)

count_less : (y : System) (q n m : y.Label) (ms : List y.Label) (s : (n ≡ m) ⊎ (n ≢ m)) → count y q (without y n ms) ≡ count y q ms - hit y q n → count y q (either s ms (m ∷ without y n ms)) ≡ count y q (m ∷ ms) - hit y q n
count_less y q n m ms (inl e) less = let h : hit y q n ≡ hit y q m = ap (hit y q) e in omega (arith, h)
count_less y q n m ms (inr a) less = elim (y.alike q n) as (λ s. count y q (without y n ms) ≡ count y q ms - one_where s → count y q (m ∷ without y n ms) ≡ count y q (m ∷ ms) - one_where s) [
  | inl e ↦ λ less. let h : hit y q m ≡ 0 = hit_other y q m (λ p. a (sym e ∙ p)) in omega (arith, h, less)
  | inr b ↦ λ less. omega (arith, less)
] less

pub count_without : (y : System) (q n : y.Label) (ms : List y.Label) → count y q (without y n ms) ≡ count y q ms - hit y q n
count_without y q n [] = omega arith
count_without y q n (m ∷ ms) = count_less y q n m ms (y.alike n m) (count_without y q n ms)

-- How long a run is

total_less : (y : System) (f : y.Label → ℕ) (n : y.Label) (keys : List y.Label) → total (λ q. f q - hit y q n) keys ≤ total f keys
total_less y f n [] = omega arith
total_less y f n (q ∷ qs) = omega (arith, total_less y f n qs)

pub total_drops : (y : System) (f : y.Label → ℕ) (n : y.Label) (keys : List y.Label) → 1 ≤ count y n keys → 1 ≤ f n → suc (total (λ q. f q - hit y q n) keys) ≤ total f keys
total_drops y f n [] h one = absurd (omega (arith, h))
total_drops y f n (q ∷ qs) h one = ⊎_elim
    (λ p. let g : f q ≡ f n = ap f (sym p) in omega (arith, total_less y f n qs, one, g, hit_same y q n (sym p)))
    (λ a. omega (arith, total_drops y f n qs (omega (arith, h, hit_other y n q a)) one))
    (y.alike n q)

-- a run is no longer than the sum of its counts
pub run_length : (y : System) (ns keys : List y.Label) (f : y.Label → ℕ) → ((q : y.Label) → count y q ns ≤ f q) → Covers y keys f → length ns ≤ total f keys
run_length y [] keys f le covers = omega arith
run_length y (n ∷ ns) keys f le covers =
    let one : 1 ≤ f n = omega (arith, le n, hit_same y n n refl) in
    omega (arith, total_drops y f n keys (covers n one) one, run_length y ns keys (λ q. f q - hit y q n) (λ q. omega (arith, le q)) (λ q h. covers q (omega (arith, h))))

total_same : (y : System) (f : y.Label → ℕ) (n : y.Label) (keys : List y.Label) → count y n keys ≡ 0 → total (λ q. f q - hit y q n) keys ≡ total f keys
total_same y f n [] h = refl
total_same y f n (q ∷ qs) h = omega (arith, h, hit_other y q n (λ e. omega (arith, h, hit_same y n q (sym e))), total_same y f n qs (omega (arith, h)))

total_less_one : (y : System) (f : y.Label → ℕ) (n : y.Label) (keys : List y.Label) → count y n keys ≡ 1 → 1 ≤ f n → suc (total (λ q. f q - hit y q n) keys) ≡ total f keys
total_less_one y f n [] h one = absurd (omega (arith, h))
total_less_one y f n (q ∷ qs) h one = ⊎_elim
    (λ p. let g : f q ≡ f n = ap f (sym p) in omega (arith, g, one, hit_same y q n (sym p), total_same y f n qs (omega (arith, h, hit_same y n q p))))
    (λ a. omega (arith, hit_other y q n (λ e. a (sym e)), total_less_one y f n qs (omega (arith, h, hit_other y n q a)) one))
    (y.alike n q)

total_none : (y : System) (f : y.Label → ℕ) (keys : List y.Label) → ((q : y.Label) → 0 ≡ f q) → total f keys ≡ 0
total_none y f [] h = refl
total_none y f (q ∷ qs) h = omega (arith, h q, total_none y f qs h)

-- a run is as long as the sum of its counts, over labels that stand once each
pub run_sum : (y : System) (ns keys : List y.Label) (f : y.Label → ℕ) → ((q : y.Label) → count y q ns ≡ f q) → Covers y keys f → ((q : y.Label) → count y q keys ≤ 1) → total f keys ≡ length ns
run_sum y [] keys f same covers once = total_none y f keys same
run_sum y (n ∷ ns) keys f same covers once =
    let one : 1 ≤ f n = omega (arith, same n, hit_same y n n refl) in
    let rest = run_sum y ns keys (λ q. f q - hit y q n) (λ q. omega (arith, same q)) (λ q h. covers q (omega (arith, h))) once in
    omega (arith, rest, total_less_one y f n keys (omega (arith, covers n one, once n)) one)
