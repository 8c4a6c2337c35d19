-- What the hashes of futures, edges and receipts are made of.
use Rattle.std.specs.Prelude.{◌≡◌, ℕ, Bool, ◌&&◌, true, nat_eq, ◌++◌, ◌+◌, ◌*◌}
use Rattle.std.proofs.Common.{eqb-true}
use Rattle.std.specs.Cmp.{first_so, second_so}
use Rattle.std.specs.Hash as fed

-- two numbers of 32 bits as one
abbrev pub pair_number : ℕ → ℕ → ℕ
pair_number high low = high * 4294967296 + low

abbrev pub future_fed : ℕ → ℕ → fed.HashWrites
future_fed by index = fed.u64 (pair_number by index)

abbrev pub edge_fed : ℕ → ℕ → ℕ → ℕ → fed.HashWrites
edge_fed by index from to = fed.u64 (pair_number by index) ++ fed.u64 (pair_number from to)

abbrev pub receipt_fed : ℕ → ℕ → ℕ → fed.HashWrites
receipt_fed by index to = fed.u64 (pair_number by index) ++ fed.u32 to

-- Equal ones are fed alike

same_pair : (a b i j : ℕ) → (nat_eq a b && nat_eq i j) ≡ true → pair_number a i ≡ pair_number b j
same_pair a b i j e =
    let first = eqb-true a b (first_so (nat_eq a b) (nat_eq i j) e) in
    let second = eqb-true i j (second_so (nat_eq a b) (nat_eq i j) e) in
    λ k. pair_number (first k) (second k)

pub same_future_fed : (a b i j : ℕ) → (nat_eq a b && nat_eq i j) ≡ true → future_fed a i ≡ future_fed b j
same_future_fed a b i j e = let same = same_pair a b i j e in λ k. fed.u64 (same k)

pub same_edge_fed : (a b i j f g t u : ℕ) → ((nat_eq a b && nat_eq i j) && (nat_eq f g && nat_eq t u)) ≡ true → edge_fed a i f t ≡ edge_fed b j g u
same_edge_fed a b i j f g t u e =
    let futures = same_pair a b i j (first_so (nat_eq a b && nat_eq i j) (nat_eq f g && nat_eq t u) e) in
    let ends = same_pair f g t u (second_so (nat_eq a b && nat_eq i j) (nat_eq f g && nat_eq t u) e) in
    λ k. fed.u64 (futures k) ++ fed.u64 (ends k)

pub same_receipt_fed : (a b i j f g : ℕ) → ((nat_eq a b && nat_eq i j) && nat_eq f g) ≡ true → receipt_fed a i f ≡ receipt_fed b j g
same_receipt_fed a b i j f g e =
    let futures = same_pair a b i j (first_so (nat_eq a b && nat_eq i j) (nat_eq f g) e) in
    let ends = eqb-true f g (second_so (nat_eq a b && nat_eq i j) (nat_eq f g) e) in
    λ k. fed.u64 (futures k) ++ fed.u32 (ends k)
