-- The numbers in names are at most the reductions of a run.
use Rattle.std.specs.Prelude.{◌≡◌, ℕ, zero, suc, ◌≤◌, ◌<◌, ◌^◌, true, List, [], ◌∷◌, ◌++◌, Option, Some, None, length, is_some}
use Rattle.std.specs.List.{list_all}
use Rattle.std.proofs.Common.{refl, sym, ap, subst, ◌∙◌, arith, ⊎_elim, length-append}
use Rattle.std.proofs.lemmas.Bool.{and_parts, and_from, le-leb, lt-ltb}
use Rattle.std.proofs.lemmas.List.Folds.{list_all-append}
use Rattle.std.specs.FinMap.{find}
use Rattle.asp_model.specs.declared.limits.TheConstants.{MOST_REDUCTIONS}
use Rattle.law_steps.specs.Systems.{Leads}
use Rattle.asp_model.specs.Names.{Name, FutureShape, name_cmp}
use Rattle.asp_model.specs.Term.{Tree}
use Rattle.asp_model.specs.Configuration.{Activity, Configuration, start}
use Rattle.asp_model.specs.Intent.{Effect}
use Rattle.asp_model.specs.Step.{ListsShape, step, with_effect}
use Rattle.asp_model.specs.Replay.{total, counts_of}
use Rattle.asp_model.specs.WellFormed.{is_index, is_name, is_future_name}
use Rattle.law_steps.specs.Reached.{Move, Steps, Makes, IsReached, IsThere, Edges, Needs}
use Rattle.law_steps.specs.Kept.{sends_of, IsBegun}
use Rattle.law_chases.proofs.FutureLemmas.{none_true}
use Rattle.law_steps.proofs.StepLemmas.{step_taken}
use Rattle.law_steps.proofs.FactLemmas.{Face, face, face_of, IsMade, IsSent}
use Rattle.law_steps.proofs.SoundLemmas.{Took, at_name, by_face}
use Rattle.law_steps.proofs.StartLemmas.{start_face}
use Rattle.law_steps.proofs.ExactLemmas.{Child}
use Rattle.law_steps.proofs.CommuteLemmas.{took}
use Rattle.law_steps.proofs.ReachedLemmas.{Right, start_right, move_right, reached_right}
use Rattle.law_steps.proofs.NamesLaws.{creations_at, sends_at}
use Rattle.law_steps.proofs.EntryLemmas.{found_entry}
use Rattle.law_steps.proofs.SpendLemmas.{within_total}
use Rattle.law_outcomes.specs.Outcomes.{NumbersAreWithin}
use Rattle.def_journals.specs.Deliveries.{with_store}
use Rattle.law_steps.proofs.DeliveryLemmas.{same_face, edge_done, need_done}
use Rattle.asp_model.specs.Store.{Store}

-- each creation and each send was a reduction of its own
record Spent (c : Configuration) : Type 0 where
  creations : (n : Name) → (at_name c n).creations ≤ (at_name c n).reductions
  sends : (n : Name) → (at_name c n).sends ≤ (at_name c n).reductions

spent_start : (program : Tree) → Spent (start program)
spent_start program = record {
  creations = λ n. subst (λ x. x.creations ≤ x.reductions) (sym (start_face program n)) (omega arith);
  sends = λ n. subst (λ x. x.sends ≤ x.reductions) (sym (start_face program n)) (omega arith);
}

one_made : (n : Name) (x y : Face) (o : _) → IsMade n x y o → y.creations ≤ suc x.creations
one_made n x y None m = omega (arith, m)
one_made n x y (Some z) m = omega (arith, m.1)

one_sent : (n : Name) (x y : Face) (o : _) → IsSent n x y o → y.sends ≤ suc x.sends
one_sent n x y None m = omega (arith, m)
one_sent n x y (Some z) m = omega (arith, m.1)

spent_after : (c : Configuration) (n : Name) (e : Effect) → Took c n e → Spent c → Spent (with_effect n e c)
spent_after c n e t s = record {
  creations = λ m. by_face (λ q x. x.creations ≤ x.reductions) c n e t (omega (arith, one_made n (at_name c n) (face_of e.own) e.made t.facts.made, t.facts.counted, s.creations n)) m (s.creations m);
  sends = λ m. by_face (λ q x. x.sends ≤ x.reductions) c n e t (omega (arith, one_sent n (at_name c n) (face_of e.own) e.sent t.facts.sent, t.facts.counted, s.sends n)) m (s.sends m);
}

step_spent : (lists : Option ListsShape) (n : Name) (c d : Configuration) → step lists c n ≡ Some d → Right c → Spent c → Spent d
step_spent lists n c d h r s = let x = step_taken lists c n d h in subst Spent x.2 (spent_after c n x.0 (took lists c n x.0 r.sound x.1) s)

store_spent : (c : Configuration) (n : Name) (a : Activity) (t : Store) (d : Configuration) → find name_cmp n c.activities ≡ Some a → d ≡ with_store c n a t → Spent c → Spent d
store_spent c n a t d at is s = subst Spent (sym is) (record {
  creations = λ m. subst (λ x. x.creations ≤ x.reductions) (sym (same_face c n a t at m)) (s.creations m);
  sends = λ m. subst (λ x. x.sends ≤ x.reductions) (sym (same_face c n a t at m)) (s.sends m);
})

move_spent : (move : Move) (c d : Configuration) → Makes move c d → Right c → Spent c → Spent d
move_spent (Steps lists n) c d h r s = step_spent lists n c d h r s
move_spent (Edges f to) c d e r s = let h = edge_done c f to d e in store_spent c to h.receiver _ d h.at h.result s
move_spent (Needs f to place) c d e r s = let h = need_done c f to place d e in store_spent c to h.receiver _ d h.at h.result s

moves_spent : (moves : List Move) (c d : Configuration) → Leads Makes c moves d → Right c → Spent c → Spent d
moves_spent [] c d h r s = subst Spent h s
moves_spent (m ∷ moves) c d h r s = moves_spent moves h.0 d h.2 (move_right m c h.0 h.1 r) (move_spent m c h.0 h.1 r s)

reached_spent : (program : Tree) (c : Configuration) → IsReached program c → Spent c
reached_spent program c r = moves_spent r.moves (start program) c r.run (start_right program) (spent_start program)

reductions_within : (c : Configuration) (n : Name) (o : Option Activity) → find name_cmp n c.activities ≡ o → (face o).reductions ≤ total (counts_of c)
reductions_within c n None is = omega arith
reductions_within c n (Some a) is =
    let x = found_entry c.activities n a is in
    let same : x.0.1.reductions ≡ a.reductions = ap (λ b. b.reductions) x.3 in
    omega (arith, same, within_total c.activities x.0 x.1)

pub numbers_are_within : NumbersAreWithin
numbers_are_within program c n reached =
    let s = reached_spent program c reached in
    let w = reductions_within c n (find name_cmp n c.activities) refl in
    (omega (arith, creations_at c n, s.creations n, w), omega (arith, sends_at c n, s.sends n, w))

-- Names

there_by : (o : Option Activity) → 1 ≤ (face o).creations → is_some o ≡ true
there_by None h = absurd (omega (arith, h))
there_by (Some a) h = refl

there_if_sent : (o : Option Activity) → 1 ≤ (face o).sends → is_some o ≡ true
there_if_sent None h = absurd (omega (arith, h))
there_if_sent (Some a) h = refl

index_within : (k : ℕ) → 1 ≤ k → k ≤ MOST_REDUCTIONS → is_index k ≡ true
index_within k low high = and_from _ _ (le-leb 1 k low) (lt-ltb k (2 ^ 32) (omega (arith, high)))

longer_name : (n : Name) (k : ℕ) → is_name n ≡ true → is_index k ≡ true → is_name (n ++ k ∷ []) ≡ true
longer_name [] k h i = none_true h
longer_name (m ∷ ms) k h i =
    let p = and_parts _ (list_all is_index ms) h in
    and_from _ _ p.0 (list_all-append is_index ms (k ∷ []) ∙ and_from _ _ p.1 (and_from _ _ i refl))

module _ (program : Tree) (c : Configuration) (reached : IsReached program c) (within : total (counts_of c) ≤ MOST_REDUCTIONS) where
  -- one whose creator has a name
  child_named : (q : Name) → ((n : Name) → length n < length q → IsThere c n → is_name n ≡ true) → Child c q → is_name q ≡ true
  child_named q shorter x =
      let long : length q ≡ suc (length x.0) = ap length x.2 ∙ omega (arith, length-append x.0 (suc x.1 ∷ [])) in
      let there = there_by (find name_cmp x.0 c.activities) (omega (arith, x.3)) in
      let low : suc x.1 ≤ MOST_REDUCTIONS = omega (arith, x.3, within, creations_at c x.0, (numbers_are_within program c x.0 reached).0) in
      subst (λ n. is_name n ≡ true) (sym x.2) (longer_name x.0 (suc x.1) (shorter x.0 (omega (arith, long)) there) (index_within (suc x.1) (omega arith) low))

  named : (size : ℕ) (q : Name) → length q < size → IsThere c q → is_name q ≡ true
  named zero q lt there = absurd (omega (arith, lt))
  named (suc size) q lt there = ⊎_elim
      (λ p. subst (λ n. is_name n ≡ true) (sym p) refl)
      (child_named q (λ n less. named size n (omega (arith, lt, less))))
      ((reached_right program c reached).exact.known q there)

  -- who is there has a name of an activity
  pub there_is_named : (q : Name) → IsThere c q → is_name q ≡ true
  there_is_named q there = named (suc (length q)) q (omega arith) there

  -- who has sent
  pub sender_is_named : (n : Name) → 1 ≤ sends_of c n → is_name n ≡ true
  sender_is_named n h = there_is_named n (there_if_sent (find name_cmp n c.activities) (omega (arith, h, sends_at c n)))

  -- and what was begun has a name of a future
  pub begun_is_named : (f : FutureShape) → IsBegun c f → is_future_name f ≡ true
  begun_is_named f h = and_from _ _ (sender_is_named f.by (omega (arith, h.0, h.1))) (index_within f.index h.0 (omega (arith, h.1, within, (numbers_are_within program c f.by reached).1)))
