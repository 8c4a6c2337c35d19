-- Names and futures stand for exactly the creations and the sends.
use Rattle.std.specs.Prelude.{◌≡◌, ℕ, zero, suc, ◌≤◌, List, [], ◌∷◌, ◌++◌, Option, Some, None, length, is_some, slice_get}
use Rattle.std.proofs.Common.{refl, sym, ap, subst, ◌∙◌, arith, inl, inr, ⊎_elim, ◌⊎◌}
use Rattle.std.specs.FinMap.{find, put}
use Rattle.asp_model.specs.Names.{Name, name_cmp}
use Rattle.asp_model.specs.Term.{Tree}
use Rattle.asp_model.specs.Configuration.{RequestShape, Activity, Configuration, or_none, requests_of, start}
use Rattle.asp_model.specs.Intent.{Effect}
use Rattle.asp_model.specs.Step.{put_some, with_last, with_effect}
use Rattle.law_steps.specs.Reached.{IsThere}
use Rattle.law_steps.specs.Kept.{Stands}
use Rattle.law_steps.proofs.NameLemmas.{name_total, name_same, name_case}
use Rattle.law_chases.proofs.FutureLemmas.{no_some, none_true}
use Rattle.law_chases.proofs.MapLemmas as Maps
use Rattle.law_steps.proofs.OrderLemmas.{still_there}
use Rattle.law_steps.proofs.FactLemmas.{face_of, IsMade, IsSent}
use Rattle.law_steps.proofs.SoundLemmas.{Took, at_name, Placed, came, own_after, by_face}
use Rattle.law_steps.proofs.KeptLemmas.{creations_grow, there_by, placed_after}
use Rattle.law_steps.proofs.StartLemmas.{start_face}

abbrev pub Child : Configuration → Name → Type 0
Child c q = (n : Name) × (k : ℕ) × (q ≡ n ++ suc k ∷ []) × (suc k ≤ (at_name c n).creations)

pub record Exact (c : Configuration) : Type 0 where
  pub known : (q : Name) → IsThere c q → (q ≡ 0 ∷ []) ⊎ Child c q
  pub made : (n : Name) (k : ℕ) → suc k ≤ (at_name c n).creations → IsThere c (n ++ suc k ∷ [])
  pub sent : (n : Name) (k : ℕ) → suc k ≤ (at_name c n).sends → (m : Name) × Placed c m (record { by = n; index = suc k })
  pub positive : (m : Name) (k : ℕ) (r : RequestShape) → Stands c m k r → 1 ≤ r.future.index

pub exact_start : (t : Tree) → Exact (start t)
exact_start t = record {
  known = λ q h. ⊎_elim (λ p. inl p) (λ a. none_true (ap is_some (sym (Maps.find_other name_cmp name_total name_same q (0 ∷ []) _ [] a)) ∙ h)) (name_case q (0 ∷ []));
  made = λ n k h. absurd (omega (arith, h, ap (λ x. x.creations) (start_face t n)));
  sent = λ n k h. absurd (omega (arith, h, ap (λ x. x.sends) (start_face t n)));
  positive = λ m k r st. no_some st;
}

pub here_after : (c : Configuration) (n : Name) (e : Effect) (q : Name) → IsThere c q → IsThere (with_effect n e c) q
here_after c n e q h = still_there e.made (put name_cmp n e.own c.activities) q (Maps.stays_there name_cmp name_total name_same n e.own c.activities q h)

known_after : (c : Configuration) (n : Name) (e : Effect) → Took c n e → Exact c → (q : Name) → IsThere (with_effect n e c) q → (q ≡ 0 ∷ []) ⊎ Child (with_effect n e c) q
known_after c n e t x q h = ⊎_elim
    (λ old. ⊎_elim (λ p. inl p) (λ k. inr (k.0, k.1, k.2, omega (arith, k.3, creations_grow c n e t k.0))) (x.known q old))
    (λ new.
    let m : IsMade n (at_name c n) (face_of e.own) (Some new.0) = subst (IsMade n (at_name c n) (face_of e.own)) new.1 t.facts.made in
    let own : (at_name (with_effect n e c) n).creations ≡ e.own.creations = ap (λ u. u.creations) (own_after c n e t) in
    inr (n, (at_name c n).creations, sym new.2 ∙ m.0, omega (arith, own, m.1)))
    (there_by n e.own e.made c.activities q t.there h)

made_own : (c : Configuration) (n : Name) (e : Effect) (o : Option (Name × Activity)) → e.made ≡ o → IsMade n (at_name c n) (face_of e.own) o → Exact c → (k : ℕ) → suc k ≤ e.own.creations → IsThere (with_effect n e c) (n ++ suc k ∷ [])
made_own c n e None is m x k le = here_after c n e (n ++ suc k ∷ []) (x.made n k (omega (arith, le, m)))
made_own c n e (Some z) is m x k le = ⊎_elim
    (λ p. here_after c n e (n ++ suc k ∷ []) (x.made n k p))
    (λ p.
    let q : k ≡ (at_name c n).creations = omega (arith, p, le, m.1) in
    ap (λ o. is_some (find name_cmp (n ++ suc k ∷ []) (put_some name_cmp o (put name_cmp n e.own c.activities)))) is
    ∙ ap (λ y. is_some (find name_cmp y (put name_cmp z.0 z.1 (put name_cmp n e.own c.activities)))) (ap (λ j. n ++ suc j ∷ []) q ∙ sym m.0)
    ∙ ap is_some (Maps.find_same name_cmp name_total name_same z.0 z.1 (put name_cmp n e.own c.activities)))
    (le_or_more (suc k) (at_name c n).creations)
  where
    le_or_more : (a b : ℕ) → (a ≤ b) ⊎ (suc b ≤ a)
    le_or_more zero b = inl (omega arith)
    le_or_more (suc a) zero = inr (omega arith)
    le_or_more (suc a) (suc b) = ⊎_elim (λ p. inl (omega (arith, p))) (λ p. inr (omega (arith, p))) (le_or_more a b)

at_end : (rs : List RequestShape) (q : RequestShape) → slice_get (rs ++ q ∷ []) (length rs) ≡ Some q
at_end [] q = refl
at_end (x ∷ rs) q = at_end rs q

sent_own : (c : Configuration) (n : Name) (e : Effect) (o : Option (Name × RequestShape)) → e.sent ≡ o → IsSent n (at_name c n) (face_of e.own) o → Exact c → (k : ℕ) → suc k ≤ e.own.sends → (m : Name) × Placed (with_effect n e c) m (record { by = n; index = suc k })
sent_own c n e None is m x k le = let y = x.sent n k (omega (arith, le, m)) in (y.0, placed_after c n e y.0 (record { by = n; index = suc k }) y.1)
sent_own c n e (Some z) is m x k le = ⊎_elim
    (λ p. let y = x.sent n k p in (y.0, placed_after c n e y.0 (record { by = n; index = suc k }) y.1))
    (λ p.
    let q : (at_name c n).sends ≡ k = omega (arith, p, le, m.1) in
    let there : requests_of (with_effect n e c) z.0 ≡ requests_of c z.0 ++ z.1 ∷ [] = ap (λ o. or_none (find name_cmp z.0 (with_last o c.received))) is ∙ ap or_none (Maps.find_same name_cmp name_total name_same z.0 (requests_of c z.0 ++ z.1 ∷ []) c.received) in
    (z.0, (length (requests_of c z.0), z.1, ap (λ b. slice_get b (length (requests_of c z.0))) there ∙ at_end (requests_of c z.0) z.1, m.0 ∙ (λ i. record { by = n; index = suc (q i) }))))
    (le_or_more (suc k) (at_name c n).sends)
  where
    le_or_more : (a b : ℕ) → (a ≤ b) ⊎ (suc b ≤ a)
    le_or_more zero b = inl (omega arith)
    le_or_more (suc a) zero = inr (omega arith)
    le_or_more (suc a) (suc b) = ⊎_elim (λ p. inl (omega (arith, p))) (λ p. inr (omega (arith, p))) (le_or_more a b)

pub exact_after : (c : Configuration) (n : Name) (e : Effect) → Took c n e → Exact c → Exact (with_effect n e c)
exact_after c n e t x = record {
  known = known_after c n e t x;
  made = λ m k. by_face (λ q u. suc k ≤ u.creations → IsThere (with_effect n e c) (q ++ suc k ∷ [])) c n e t (made_own c n e e.made refl t.facts.made x k) m (λ h. here_after c n e (m ++ suc k ∷ []) (x.made m k h));
  sent = λ m k. by_face (λ q u. suc k ≤ u.sends → (l : Name) × Placed (with_effect n e c) l (record { by = q; index = suc k })) c n e t (sent_own c n e e.sent refl t.facts.sent x k) m (λ h. let y = x.sent m k h in (y.0, placed_after c n e y.0 (record { by = m; index = suc k }) y.1));
  positive = λ m k r st. ⊎_elim
      (x.positive m k r)
      (λ new.
      let s = subst (IsSent n (at_name c n) (face_of e.own)) new.is t.facts.sent in
      let p : r.future.index ≡ suc (at_name c n).sends = ap (λ f. f.index) (ap (λ q. q.future) new.request ∙ s.0) in
      omega (arith, p))
      (came c n e m k r st);
}
