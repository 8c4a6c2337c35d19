-- Where a rule leads, and that it stops.
use Rattle.std.specs.Prelude.{◌≡◌, ℕ, zero, suc, ◌-◌, ◌≤◌, List, [], ◌∷◌, Some, None, length}
use Rattle.std.proofs.Common.{refl, sym, ◌∙◌, arith, inl, inr, ◌⊎◌}
use Rattle.law_steps.specs.Systems.{System, Run, hit, count, total, Covers}
use Rattle.law_steps.specs.SystemRules.{Rule, repeated}
use Rattle.law_steps.proofs.SystemCounts.{without, hit_same, count_without, total_drops}
use Rattle.law_steps.proofs.SystemJoins.{Beside, beside}

rested : (y : System) (u : Rule y) (ms : List y.Label) (c e : y.State) → y.Good c → u.next c ≡ None → Run y c ms e → ((q : y.Label) → u.room c q ≡ count y q ms) → c ≡ e
rested y u [] c e g none r room = r
rested y u (m ∷ ms) c e g none r room = absurd (omega (arith, room m, u.rests c g none m r.0 r.1, hit_same y m m refl))

stepped : (y : System) (u : Rule y) (n : y.Label) (d : y.State) (ms : List y.Label) (e : y.State) (k : ℕ) (b : Beside y n d ms e) → 1 ≤ count y n ms → length ms ≤ suc k
    → ((count y n ms ≡ 0) × y.Step n e b.end) ⊎ ((suc (length (without y n ms)) ≡ length ms) × (1 ≤ count y n ms) × (e ≡ b.end)) → (length (without y n ms) ≤ k) × (b.end ≡ e)
stepped y u n d ms e k b has le (inl x) = absurd (omega (arith, has, x.0))
stepped y u n d ms e k b has le (inr x) = (omega (arith, le, x.0), sym x.2)

-- a run that uses up the room shows where the rule leads
pub rule_reaches : (y : System) (u : Rule y) (k : ℕ) (ms : List y.Label) (c e : y.State) → y.Good c → Run y c ms e → length ms ≤ k → ((q : y.Label) → u.room c q ≡ count y q ms) → repeated u.next k c ≡ e
rule_reaches y u zero [] c e g r le room = r
rule_reaches y u zero (m ∷ ms) c e g r le room = absurd (omega (arith, le))
rule_reaches y u (suc k) ms c e g r le room = elim (u.next c) as (λ o. u.next c ≡ o → elim o [ None ↦ c | Some d ↦ repeated u.next k d ] ≡ e) [
  | None ↦ λ none. rested y u ms c e g none r room
  | Some d ↦ λ some.
      let p = u.picks c d g some in
      let b = beside y p.0 ms c d e g p.1 r in
      let x = stepped y u p.0 d ms e k b (omega (arith, p.2, room p.0)) le b.last in
      rule_reaches y u k (without y p.0 ms) d b.end (y.keeps p.0 c d g p.1) b.rest x.0 (λ q. omega (arith, u.spends p.0 c d g p.1 q, room q, count_without y q p.0 ms)) ∙ x.1
] refl

-- with as many steps as there is room, a rule comes to where it rests
pub rule_stops : (y : System) (u : Rule y) (keys : List y.Label) (k : ℕ) (f : y.Label → ℕ) (c : y.State) → y.Good c → ((q : y.Label) → u.room c q ≤ f q) → Covers y keys f → total f keys ≤ k → u.next (repeated u.next k c) ≡ None
rule_stops y u keys zero f c g room covers le = elim (u.next c) as (λ o. u.next c ≡ o → o ≡ None) [
  | None ↦ λ none. refl
  | Some d ↦ λ some.
      let p = u.picks c d g some in
      let one : 1 ≤ f p.0 = omega (arith, room p.0, p.2) in
      absurd (omega (arith, total_drops y f p.0 keys (covers p.0 one) one, le))
] refl
rule_stops y u keys (suc k) f c g room covers le = elim (u.next c) as (λ o. u.next c ≡ o → u.next (elim o [ None ↦ c | Some d ↦ repeated u.next k d ]) ≡ None) [
  | None ↦ λ none. none
  | Some d ↦ λ some.
      let p = u.picks c d g some in
      let one : 1 ≤ f p.0 = omega (arith, room p.0, p.2) in
      rule_stops y u keys k (λ q. f q - hit y q p.0) d (y.keeps p.0 c d g p.1) (λ q. omega (arith, u.spends p.0 c d g p.1 q, room q)) (λ q h. covers q (omega (arith, h))) (omega (arith, total_drops y f p.0 keys (covers p.0 one) one, le))
] refl
