-- Walks that meet, and chases along a walk.
use Rattle.std.specs.Prelude.{◌≡◌, ℕ, zero, suc, ◌+◌, Bool, true, false, T, Option, Some, None, length}
use Rattle.std.proofs.Common.{refl, sym, ap, subst, ◌∙◌, arith, ⊎_elim}
use Rattle.std.specs.FinMap.{is_sorted}
use Rattle.asp_model.specs.Names.{FutureShape, future_cmp}
use Rattle.asp_model.specs.Chase.{Values, Ends, Goes, Misses, lead, Chase, Cycle, walk_end, walked_to, chase}
use Rattle.law_chases.proofs.FutureLemmas.{no_some, some_is, true_false}
use Rattle.law_chases.proofs.ChaseLemmas.{walk_by, chase_by}
use Rattle.law_chases.proofs.EndLemmas.{never_ends, chases_end}
use Rattle.law_chases.proofs.CycleLemmas.{HasNoEnd, Meet, goes_to, stays_to, lead_case, walked_more, never_next, never_walked, less_total, IsNameOf, cycle_name, chase_never}

pub meet_back : (vs : Values) (f g : FutureShape) → Meet vs f g → Meet vs g f
meet_back vs f g m = record { steps = m.others; others = m.steps; same = sym m.same }

pub meet_then : (vs : Values) (f g h : FutureShape) → Meet vs f g → Meet vs g h → Meet vs f h
meet_then vs f g h m n = record {
  steps = m.steps + n.steps;
  others = n.others + m.others;
  same =
      let swap : m.others + n.steps ≡ n.steps + m.others = omega arith in
      walked_more vs m.steps n.steps f ∙ ap (walked_to n.steps vs) m.same ∙ sym (walked_more vs m.others n.steps g) ∙ ap (λ k. walked_to k vs g) swap
      ∙ walked_more vs n.steps m.others g ∙ ap (walked_to m.others vs) n.same ∙ sym (walked_more vs n.others m.others h);
}

-- it is where the walk comes
pub meet_walked : (vs : Values) (i : ℕ) (f g : FutureShape) → walked_to i vs f ≡ g → Meet vs f g
meet_walked vs i f g e = record { steps = i; others = 0; same = e }

never_before : (vs : Values) (f g : FutureShape) → lead vs f ≡ Goes g → HasNoEnd vs g → HasNoEnd vs f
never_before vs f g e h zero = refl
never_before vs f g e h (suc n) = ap (λ l. walk_by l (walk_end n vs) f) e ∙ h n

never_from : (vs : Values) (j : ℕ) (f : FutureShape) → HasNoEnd vs (walked_to j vs f) → HasNoEnd vs f
never_from vs zero f h = h
never_from vs (suc j) f h = ⊎_elim
    (λ x. never_before vs f x.0 x.1 (never_from vs j x.0 (subst (HasNoEnd vs) (goes_to vs j f x.0 x.1) h)))
    (λ k. subst (HasNoEnd vs) (stays_to vs (suc j) f k) h)
    (lead_case vs f)

-- who meets a walk that never ends never ends
pub never_meets : (vs : Values) (f g : FutureShape) → HasNoEnd vs f → Meet vs f g → HasNoEnd vs g
never_meets vs f g h m = never_from vs m.others g (subst (HasNoEnd vs) m.same (never_walked vs m.steps f h))

-- walks that meet come into a cycle of one name
pub one_name : (vs : Values) (f g n m : FutureShape) → IsNameOf vs f n → IsNameOf vs g m → Meet vs f g → n ≡ m
one_name vs f g n m a b meet = less_total n m
    (b.least n a.filled (meet_then vs g f n (meet_back vs f g meet) a.meets))
    (a.least m b.filled (meet_then vs f g m meet b.meets))

module _ (vs : Values) (sorted : T (is_sorted future_cmp vs)) where
  pub never_same : (f g : FutureShape) → HasNoEnd vs f → HasNoEnd vs g → Meet vs f g → chase vs f ≡ chase vs g
  never_same f g h k m = chase_never vs sorted f h ∙ ap Cycle (one_name vs f g _ _ (cycle_name vs sorted f h) (cycle_name vs sorted g k) m) ∙ sym (chase_never vs sorted g k)

  -- a chase is that of the next future of the walk
  pub chase_goes : (f g : FutureShape) → lead vs f ≡ Goes g → chase vs f ≡ chase vs g
  chase_goes f g e = by (walk_end (length vs) vs g) refl
    where
      next : walk_end (suc (length vs)) vs f ≡ walk_end (length vs) vs g
      next = ap (λ l. walk_by l (walk_end (length vs) vs) f) e

      by : (o : Option Chase) → walk_end (length vs) vs g ≡ o → chase vs f ≡ chase vs g
      by (Some y) d = ap (chase_by vs f) (next ∙ d) ∙ sym (chases_end vs (length vs) g y sorted d)
      by None d =
          let never = never_ends vs sorted f (next ∙ d) in
          let x = never_next vs f never in
          never_same f g never (never_meets vs f g never (meet_walked vs 1 f g (goes_to vs 0 f g e))) (meet_walked vs 1 f g (goes_to vs 0 f g e))

  pub chase_walked : (i : ℕ) (f : FutureShape) → chase vs f ≡ chase vs (walked_to i vs f)
  chase_walked zero f = refl
  chase_walked (suc i) f = ⊎_elim
      (λ x. chase_goes f x.0 x.1 ∙ chase_walked i x.0 ∙ ap (chase vs) (sym (goes_to vs i f x.0 x.1)))
      (λ h. ap (chase vs) (sym (stays_to vs (suc i) f h)))
      (lead_case vs f)

  -- walks that meet have one chase
  pub chase_meets : (f g : FutureShape) → Meet vs f g → chase vs f ≡ chase vs g
  chase_meets f g m = chase_walked m.steps f ∙ ap (chase vs) m.same ∙ sym (chase_walked m.others g)

  -- what a chase says of its walk

  abbrev is_cycle : Chase → Bool
  is_cycle (Cycle f) = true
  is_cycle c = false

  pub cycle_never : (f n : FutureShape) → chase vs f ≡ Cycle n → HasNoEnd vs f
  cycle_never f n e = by (walk_end (suc (length vs)) vs f) refl e
    where
      no_end : (m : ℕ) (g : FutureShape) (y : Chase) → walk_end m vs g ≡ Some y → is_cycle y ≡ false
      no_end zero g y d = no_some d
      no_end (suc m) g y d = elim (lead vs g) as (λ l. walk_by l (walk_end m vs) g ≡ Some y → is_cycle y ≡ false) [
        | Ends p ↦ λ d. ap is_cycle (sym (some_is d))
        | Goes h ↦ λ d. no_end m h y d
        | Misses ↦ λ d. ap is_cycle (sym (some_is d))
      ] d

      by : (o : Option Chase) → walk_end (suc (length vs)) vs f ≡ o → chase_by vs f o ≡ Cycle n → HasNoEnd vs f
      by (Some y) d e = absurd (true_false (is_cycle y) (ap is_cycle e) (no_end (suc (length vs)) f y d))
      by None d e = never_ends vs sorted f d

  -- the name of a cycle is that of the chase
  pub named_cycle : (f n : FutureShape) → chase vs f ≡ Cycle n → IsNameOf vs f n
  named_cycle f n e = let h = cycle_never f n e in subst (IsNameOf vs f) (name_is (sym (chase_never vs sorted f h) ∙ e)) (cycle_name vs sorted f h)
    where
      name_is : {x y : FutureShape} → Cycle x ≡ Cycle y → x ≡ y
      name_is {x = x} e = ap (λ c. elim c [ Cycle z ↦ z | _ ↦ x ]) e
