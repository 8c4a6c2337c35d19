-- Systems of labelled steps, and their runs.
use Rattle.std.specs.Prelude.{◌≡◌, ◌≢◌, ◌⊎◌, ℕ, ◌+◌, ◌≤◌, List, [], ◌∷◌}
use Rattle.std.proofs.Common.{inl, inr}

-- a system in which the steps of two labels commute; `Good` is what each of its runs keeps
pub record System : Type 1 where
  pub State : Type 0
  pub Label : Type 0
  pub Good : State → Type 0
  pub Step : Label → State → State → Type 0
  -- labels can be told apart
  pub alike : (n m : Label) → (n ≡ m) ⊎ (n ≢ m)
  pub keeps : (n : Label) (c d : State) → Good c → Step n c d → Good d
  -- a label has one step
  pub one : (n : Label) (c d e : State) → Step n c d → Step n c e → d ≡ e
  pub commutes : (n m : Label) (c d e : State)
      → Good c → n ≢ m → Step n c d → Step m c e → (f : State) × Step m d f × Step n e f

-- steps by these labels, in order, lead from the one state to the other
abbrev pub Leads : {S L : Type 0} → (L → S → S → Type 0) → S → List L → S → Type 0
Leads R c [] d = c ≡ d
Leads {S} R c (n ∷ ns) d = (e : S) × R n c e × Leads R e ns d

abbrev pub Run : (y : System) → y.State → List y.Label → y.State → Type 0
Run y = Leads y.Step

abbrev pub one_where : {A B : Type 0} → A ⊎ B → ℕ
one_where (inl a) = 1
one_where (inr b) = 0

-- 1 for the same label, else 0
abbrev pub hit : (y : System) → y.Label → y.Label → ℕ
hit y q n = one_where (y.alike q n)

-- how often a label stands in the list
abbrev pub count : (y : System) → y.Label → List y.Label → ℕ
count y q [] = 0
count y q (n ∷ ns) = hit y q n + count y q ns

-- the sum of f over these labels
abbrev pub total : {L : Type 0} → (L → ℕ) → List L → ℕ
total f [] = 0
total f (q ∷ qs) = f q + total f qs

-- each label at which f is positive stands in the list
abbrev pub Covers : (y : System) → List y.Label → (y.Label → ℕ) → Type 0
Covers y keys f = (q : y.Label) → 1 ≤ f q → 1 ≤ count y q keys
