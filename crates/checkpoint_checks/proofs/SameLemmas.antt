-- Tests that hold exactly where something does.
use Rattle.std.specs.Prelude.{◌≡◌, ℕ, zero, suc, ◌<◌, ◌≤◌, ◌&&◌, nat_eq, nat_le, nat_lt, Bool, true, false, List, [], ◌∷◌}
use Rattle.std.specs.List.{list_all}
use Rattle.std.proofs.Common.{refl, sym, ap, ◌∙◌, arith, ⊎_elim}
use Rattle.std.proofs.lemmas.Bool.{cases_eq, and_parts, and_from, and_left, and_right, eqb-true, eq-eqb, leb-true, le-leb, ltb-true, lt-ltb}
use Rattle.law_steps.specs.Linked.{Each}
use Rattle.checkpoint_checks.specs.Names.{all_to}

-- the test holds exactly where the fact does
pub record Same (b : Bool) (P : Type 0) : Type 0 where
  pub to : b ≡ true → P
  pub of : P → b ≡ true

pub same_both : (b c : Bool) (P Q : Type 0) → Same b P → Same c Q → Same (b && c) (P × Q)
same_both b c P Q h g = record {
  to = λ e. let r = and_parts b c e in (h.to r.0, g.to r.1);
  of = λ p. and_from b c (h.of p.0) (g.of p.1);
}

pub same_as : (b : Bool) (P Q : Type 0) → Same b P → (P → Q) → (Q → P) → Same b Q
same_as b P Q h f g = record { to = λ e. f (h.to e); of = λ q. h.of (g q) }

pub same_each : {X : Type 0} (p : X → Bool) (P : X → Type 0) → ((x : X) → Same (p x) (P x)) → (xs : List X) → Same (list_all p xs) (Each P xs)
same_each p P h [] = record { to = λ e. tt; of = λ u. refl }
same_each p P h (x ∷ xs) = same_both (p x) (list_all p xs) (P x) (Each P xs) (h x) (same_each p P h xs)

pub same_lt : (i k : ℕ) → Same (nat_lt i k) (i < k)
same_lt i k = record { to = ltb-true i k; of = lt-ltb i k }

pub same_le : (i k : ℕ) → Same (nat_le i k) (i ≤ k)
same_le i k = record { to = leb-true i k; of = le-leb i k }

pub same_eq : (i k : ℕ) → Same (nat_eq i k) (i ≡ k)
same_eq i k = record { to = eqb-true i k; of = eq-eqb i k }

pub same_itself : (b : Bool) → Same b (b ≡ true)
same_itself b = record { to = λ e. e; of = λ e. e }

pub same_true : Same true (Unit {0})
same_true = record { to = λ e. tt; of = λ u. refl }

-- where tests have the same answer
pub same_at : (b c : Bool) (P : Type 0) → b ≡ c → Same c P → Same b P
same_at b c P e h = record { to = λ t. h.to (sym e ∙ t); of = λ p. e ∙ h.of p }

-- each number below k
pub same_to : (p : ℕ → Bool) (k : ℕ) → Same (all_to p k) ((i : ℕ) → i < k → p i ≡ true)
same_to p zero = record { to = λ e i h. absurd (omega (arith, h)); of = λ h. refl }
same_to p (suc k) = record {
  to = λ e i h. let r = and_parts (all_to p k) (p k) e in
      ⊎_elim (λ q. ap p q ∙ r.1) (λ a. (same_to p k).to r.0 i (less i a h)) (cases_eq i k);
  of = λ h. and_from (all_to p k) (p k) ((same_to p k).of (λ i g. h i (omega (arith, g)))) (h k (omega arith));
}
  where
    less : (i : ℕ) → (i ≡ k → ⊥) → i < suc k → i < k
    less i a h = omega (arith, a, h)

pub fails_to : (p : ℕ → Bool) (k i : ℕ) → i < k → p i ≡ false → all_to p k ≡ false
fails_to p zero i h e = absurd (omega (arith, h))
fails_to p (suc k) i h e = ⊎_elim
    (λ q. and_right (all_to p k) (p k) (ap p (sym q) ∙ e))
    (λ a. and_left (all_to p k) (p k) (fails_to p k i (omega (arith, a, h)) e))
    (cases_eq i k)
