-- Rules that pick which label steps next.
use Rattle.std.specs.Prelude.{◌≡◌, ℕ, zero, suc, ◌-◌, ◌≤◌, Option, Some, None}
use Rattle.law_steps.specs.Systems.{System, hit}

-- a rule picks a label that has room and can step; each step takes one of its label's room
pub record Rule (y : System) : Type 0 where
  pub room : y.State → y.Label → ℕ
  pub next : y.State → Option y.State
  pub picks : (c d : y.State) → y.Good c → next c ≡ Some d
      → (n : y.Label) × y.Step n c d × (1 ≤ room c n)
  pub rests : (c : y.State) → y.Good c → next c ≡ None
      → (n : y.Label) (d : y.State) → y.Step n c d → room c n ≡ 0
  pub spends : (n : y.Label) (c d : y.State) → y.Good c → y.Step n c d
      → (q : y.Label) → room d q ≡ room c q - hit y q n

-- at most n steps, until none is picked
abbrev pub repeated : {A : Type 0} → (A → Option A) → ℕ → A → A
repeated next zero c = c
repeated next (suc n) c = elim (next c) [ None ↦ c | Some d ↦ repeated next n d ]
