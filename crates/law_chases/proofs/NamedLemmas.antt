-- Walks of every length, and the names of cycles.
use Rattle.std.specs.Prelude.{◌≡◌, ◌+◌, ℕ, zero, suc, T, None, length}
use Rattle.std.proofs.Common.{refl, sym, ap, subst, ◌∙◌}
use Rattle.std.specs.FinMap.{is_sorted}
use Rattle.asp_model.specs.Names.{FutureShape, future_cmp}
use Rattle.asp_model.specs.Chase.{Values, Goes, lead, Cycle, walk_end, walked_to, cycle_of}
use Rattle.law_chases.specs.Walks.{Walk, Reaches, NeverEnds, ShareCycle, IsCycleName}
use Rattle.law_chases.specs.Chases.{CyclesAreNamed, CyclesAreTold}
use Rattle.law_chases.proofs.ChaseLemmas.{walk_by}
use Rattle.law_chases.proofs.CycleLemmas.{HasNoEnd, Meet, goes_to, walked_more, never_next, never_walked, in_cycle, comes_there, IsNameOf, cycle_name, chase_never}
use Rattle.law_chases.proofs.MeetLemmas.{meet_walked, never_meets, one_name, cycle_never, named_cycle}

module _ (vs : Values) where
  -- Walks

  pub walked : (n : ℕ) (f g : FutureShape) → Walk vs n f g → walked_to n vs f ≡ g
  walked zero f g w = w
  walked (suc n) f g w = goes_to vs n f w.0 w.1 ∙ walked n w.0 g w.2

  pub walk_of : (n : ℕ) (f : FutureShape) → HasNoEnd vs f → Walk vs n f (walked_to n vs f)
  walk_of zero f h = refl
  walk_of (suc n) f h = let x = never_next vs f h in (x.0, x.1, subst (Walk vs n x.0) (sym (goes_to vs n f x.0 x.1)) (walk_of n x.0 x.2))

  reaches : (n : ℕ) (f g : FutureShape) → HasNoEnd vs f → walked_to n vs f ≡ g → Reaches vs f g
  reaches n f g h e = (n, subst (Walk vs n f) e (walk_of n f h))

  -- No end, with and without a number of steps

  next_never : (f g : FutureShape) → lead vs f ≡ Goes g → NeverEnds vs f → NeverEnds vs g
  next_never f g e h k r = h k (suc r.0, (g, e, r.1))

  pub no_end : (n : ℕ) (f : FutureShape) → NeverEnds vs f → walk_end n vs f ≡ None
  no_end zero f h = refl
  no_end (suc n) f h = let x = h f (0, refl) in ap (λ l. walk_by l (walk_end n vs) f) x.1 ∙ no_end n x.0 (next_never f x.0 x.1 h)

  pub never : (f : FutureShape) → HasNoEnd vs f → NeverEnds vs f
  never f h g r = let x = never_next vs g (subst (HasNoEnd vs) (walked r.0 f g r.1) (never_walked vs r.0 f h)) in (x.0, x.1)

  pub meet_of : (f g : FutureShape) → ShareCycle vs f g → Meet vs f g
  meet_of f g s = record { steps = s.2.0; others = s.3.0; same = walked s.2.0 f s.0 s.2.1 ∙ sym (walked s.3.0 g s.0 s.3.1) }

module _ (vs : Values) (sorted : T (is_sorted future_cmp vs)) (f : FutureShape) (h : HasNoEnd vs f) where
  -- the walks that meet come into one cycle
  pub share_of : (g : FutureShape) → HasNoEnd vs g → Meet vs f g → ShareCycle vs f g
  share_of g k m =
      let z = walked_to (length vs) vs f in
      let round = in_cycle vs sorted f h in
      let there = comes_there vs sorted f h m.steps in
      let never_z = never_walked vs (length vs) f h in (
        z,
        (round.0, subst (Walk vs (suc round.0) z) round.1 (walk_of vs (suc round.0) z never_z)),
        reaches vs (length vs) f z h refl,
        reaches vs (m.others + there.0) g z k (walked_more vs m.others there.0 g ∙ ap (walked_to there.0 vs) (sym m.same) ∙ there.1),
      )

  -- the name told is filled, comes into the cycle, and is the least such
  pub name_of_cycle : (n : FutureShape) → IsNameOf vs f n → IsCycleName vs f n
  name_of_cycle n i = record {
    filled = i.filled;
    comes = share_of n (never_meets vs f n h i.meets) i.meets;
    least = λ g filled s. i.least g filled (meet_of vs f g s);
  }

  pub name_from : (n : FutureShape) → IsCycleName vs f n → IsNameOf vs f n
  name_from n i = record {
    filled = i.filled;
    meets = meet_of vs f n i.comes;
    least = λ g filled m. i.least g filled (share_of g (never_meets vs f g h m) m);
  }

pub cycles_are_named : CyclesAreNamed
cycles_are_named vs f n sorted = (
  (λ e. let h = cycle_never vs sorted f n e in (never vs f h, name_of_cycle vs sorted f h n (named_cycle vs sorted f n e))),
  (λ x.
      let h : HasNoEnd vs f = λ k. no_end vs k f x.0 in
      chase_never vs sorted f h ∙ ap Cycle (one_name vs f f (cycle_of vs f) n (cycle_name vs sorted f h) (name_from vs sorted f h n x.1) (meet_walked vs 0 f f refl))),
)

pub cycles_are_told : CyclesAreTold
cycles_are_told vs f sorted never = (cycle_of vs f, chase_never vs sorted f (λ n. no_end vs n f never))
