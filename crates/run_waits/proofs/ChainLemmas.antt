-- Those whom a search has come to are needed, no one twice, and so they are few.
use Rattle.std.proofs.Common.{◌≡◌, ◌≢◌, ◌≤◌, ◌+◌, ℕ, suc, List, [], ◌∷◌, ◌++◌, Some, None, length, map, refl, sym, ap, subst, ◌∙◌, arith, ⊎_elim, length-append, cond, true, false}
use Rattle.asp_model.specs.Names.{Name, main_name, same_name}
use Rattle.asp_model.specs.Term.{Tree}
use Rattle.asp_model.specs.Store.{Object}
use Rattle.asp_model.specs.Configuration.{Configuration, RequestShape, begun, start}
use Rattle.asp_model.specs.Step.{ListsShape, step}
use Rattle.asp_model.specs.Replay.{counts_of, total}
use Rattle.law_chases.proofs.FutureLemmas.{some_is}
use Rattle.law_steps.specs.Kept.{Stands}
use Rattle.law_steps.specs.Linked.{Each}
use Rattle.law_steps.specs.Reached.{IsReached, RunsTo}
use Rattle.law_steps.specs.Systems.{count, hit}
use Rattle.law_steps.proofs.EntryLemmas.{entry_found}
use Rattle.law_steps.proofs.FactLemmas.{face}
use Rattle.law_steps.proofs.FlowLemmas.{counts_run, counts_step, machine}
use Rattle.law_steps.proofs.ListLemmas.{count_own}
use Rattle.law_steps.proofs.NameLemmas.{name_case}
use Rattle.law_steps.proofs.ReachedLemmas.{Right, reached_right, runs_go_on, start_is_reached, start_right}
use Rattle.law_steps.proofs.ReplayLemmas.{names_cover, total_is}
use Rattle.law_steps.proofs.SoundLemmas.{at_name, stays}
use Rattle.law_steps.proofs.StepLemmas.{step_taken}
use Rattle.law_steps.proofs.SystemCounts.{count_both, hit_other, hit_same, run_length}
use Rattle.law_waits.specs.Courses.{GoesThrough}
use Rattle.law_cuts.specs.Searches.{ComesThere, Goal, IsNeeded, IsOnWay, made}
use Rattle.law_cuts.specs.Wants.{wanted}
use Rattle.law_cuts.proofs.CutLaws.{goal_is_needed, wanted_are_needed, wants_end}
use Rattle.law_cuts.proofs.DemandLemmas.{rest_after}
use Rattle.law_cuts.proofs.WantLemmas.{wants_stay}
use Rattle.run_waits.specs.Targets.{AreTold}
use Rattle.run_waits.specs.declared.receipts.Receipts.{Receipts}
use Rattle.run_waits.specs.Chains.{IsChain, IsChainUnder}

-- Reductions that were made

start_made : (program : Tree) (q : Name) → (at_name (start program) q).reductions ≡ 0
start_made program q = elim (same_name q main_name) as (λ b. (face (cond b (Some (begun program (Object [] [] ∷ []))) None)).reductions ≡ 0) [ true ↦ refl | false ↦ refl ]

module _ (g : Goal) where
  -- who steps in a run has as many reductions
  pub made_run : (ns : List Name) (c : Configuration) → RunsTo (Some g.lists) (start g.program) ns c → (q : Name) → made c q ≡ count (machine g.lists) q ns
  made_run ns c run q = omega (arith, count_own c q, counts_run g.lists ns (start g.program) c (start_right g.program) run q, start_made g.program q)

  pub reached_by : (ns : List Name) (c : Configuration) → RunsTo (Some g.lists) (start g.program) ns c → IsReached g.program c
  reached_by ns c run = runs_go_on g.program (Some g.lists) ns (start g.program) c (start_is_reached g.program) run

  -- one more of who steps
  made_step : (c d : Configuration) (x : Name) → IsReached g.program c → step (Some g.lists) c x ≡ Some d → (q : Name) → made d q ≡ made c q + hit (machine g.lists) q x
  made_step c d x r h q = omega (arith, count_own c q, count_own d q, counts_step g.lists x c d (reached_right g.program c r) h q)

  pub made_own : (c d : Configuration) (x : Name) → IsReached g.program c → step (Some g.lists) c x ≡ Some d → made d x ≡ suc (made c x)
  made_own c d x r h = omega (arith, made_step c d x r h x, hit_same (machine g.lists) x x refl)

  pub made_other : (c d : Configuration) (x : Name) → IsReached g.program c → step (Some g.lists) c x ≡ Some d → (q : Name) → q ≢ x → made d q ≡ made c q
  made_other c d x r h q a = omega (arith, made_step c d x r h q, hit_other (machine g.lists) q x a)

  none_among : (q : Name) (bs : List Name) → Each (λ b. b ≢ q) bs → count (machine g.lists) q bs ≡ 0
  none_among q [] e = refl
  none_among q (b ∷ bs) e = omega (arith, hit_other (machine g.lists) q b (λ p. e.0 (sym p)), none_among q bs e.1)

  -- Chains

  module _ (c d : Configuration) (x : Name) (reached : IsReached g.program c) (h : step (Some g.lists) c x ≡ Some d) where
    -- a step of another leaves a chain
    pub chain_stays : (z : Name) (zs : List Name) → IsChain g c z zs → Each (λ b. b ≢ x) (z ∷ zs) → IsChain g d z zs
    chain_stays z [] k apart = k
    chain_stays z (w ∷ ws) k apart =
        let s = wants_stay g.program g.lists c d w x reached k.0 h (λ e. apart.1.0 (sym e)) (λ e. apart.0 (some_is (sym k.1 ∙ e))) in
        (s.0, s.1 ∙ k.1, chain_stays w ws k.2 apart.1)

    last_of : (z : Name) (zs : List Name) → IsChain g c z zs → Each (λ b. b ≢ x) (z ∷ zs) → g.name ≢ x
    last_of z [] k apart = λ e. apart.0 (k ∙ e)
    last_of z (w ∷ ws) k apart = last_of w ws k.2 apart.1

    pub under_after : (below : List Name) → IsChain g c x below → Each (λ b. b ≢ x) below → suc (made c g.name) ≤ g.count → IsChainUnder g d x below
    under_after [] k apart less = k
    under_after (z ∷ zs) k apart less = (omega (arith, less, made_other c d x reached h g.name (last_of z zs k.2 apart)), chain_stays z zs k.2 apart)

  module _ (names : List Name) (end : Configuration) (there : ComesThere g names end) (c : Configuration) (way : IsOnWay g c) (less : suc (made c g.name) ≤ g.count) where
    -- who is on top is needed
    pub top_needed : (x : Name) (below : List Name) → IsChain g c x below → IsNeeded g c x
    top_needed x [] h = subst (IsNeeded g c) (sym h) (goal_is_needed g c less)
    top_needed x (z ∷ zs) h =
        let v = wanted_are_needed g c end z names way (top_needed z zs h.2) there h.0 in
        subst (IsNeeded g c) (some_is (sym v.1 ∙ h.1)) v.2

    -- from one below, through those above it
    apart_from : (x z : Name) (zs up : List Name) → IsChain g c z zs → step (Some g.lists) c z ≡ None → Each (λ q. step (Some g.lists) c q ≡ None) up → GoesThrough (wanted g.lists c) z up x → Each (λ b. b ≢ x) (z ∷ zs)
    apart_from x z [] up h rests ups goes = (λ e. wants_end g c end names z up way there (top_needed z [] h) (rests, ups) (subst (GoesThrough (wanted g.lists c) z up) (sym e) goes), tt)
    apart_from x z (w ∷ ws) up h rests ups goes = (
      λ e. wants_end g c end names z up way there (top_needed z (w ∷ ws) h) (rests, ups) (subst (GoesThrough (wanted g.lists c) z up) (sym e) goes),
      apart_from x w ws (z ∷ up) h.2 h.0 (rests, ups) (h.1, goes),
    )

    -- who is on top is none of those below
    pub top_apart : (x : Name) (below : List Name) → IsChain g c x below → Each (λ b. b ≢ x) below
    top_apart x [] h = tt
    top_apart x (z ∷ zs) h = apart_from x z zs [] h.2 h.0 tt h.1

    left_by : (x : Name) (below : List Name) → IsChain g c x below → (q : Name) → made c q + count (machine g.lists) q below ≤ made end q → made c q + count (machine g.lists) q (x ∷ below) ≤ made end q
    left_by x below h q rest = ⊎_elim {C = made c q + count (machine g.lists) q (x ∷ below) ≤ made end q}
        (λ e.
        let none : count (machine g.lists) q below ≡ 0 = none_among q below (subst (λ z. Each (λ b. b ≢ z) below) (sym e) (top_apart x below h)) in
        let more : suc (made c q) ≤ made end q = subst (λ z. suc (made c z) ≤ made end z) (sym e) (top_needed x below h names end there) in
        omega (arith, none, more, hit_same (machine g.lists) q x e))
        (λ a. omega (arith, hit_other (machine g.lists) q x a, rest))
        (name_case q x)

    -- each of them has a step to make
    stack_left : (x : Name) (below : List Name) → IsChain g c x below → (q : Name) → made c q + count (machine g.lists) q (x ∷ below) ≤ made end q
    stack_left x [] h q = left_by x [] h q (omega (arith, way.below names end there q))
    stack_left x (z ∷ zs) h q = left_by x (z ∷ zs) h q (stack_left z zs h.2 q)

    -- so steps that were made and those who are needed are no more than all steps
    pub stack_few : (x : Name) (below : List Name) → IsChain g c x below → length way.names + suc (length below) ≤ total (counts_of end)
    stack_few x below h =
        let all : List Name = way.names ++ x ∷ below in
        let r : Right end = reached_right g.program end (reached_by names end there.0) in
        let reductions : Name → ℕ = λ q. (at_name end q).reductions in
        let same = total_is reductions end.activities (λ y i. ap (λ o. (face o).reductions) (entry_found end.activities y r.sound.ordered.activities i)) in
        let short = run_length (machine g.lists) all (map (λ y. y.0) end.activities) reductions
        (λ q. omega (arith, count_both (machine g.lists) q way.names (x ∷ below), made_run way.names c way.run q, stack_left x below h q, count_own end q))
        (names_cover g.lists end) in
        omega (arith, same, short, length-append way.names (x ∷ below))

-- Requests that stand on

stands_on : (lists : ListsShape) (ns : List Name) (c d : Configuration) → RunsTo (Some lists) c ns d → (m : Name) (k : ℕ) (r : RequestShape) → Stands c m k r → Stands d m k r
stands_on lists [] c d run m k r at = subst (λ z. Stands z m k r) run at
stands_on lists (n ∷ ns) c d run m k r at =
    let x = step_taken (Some lists) c n run.0 run.1 in
    stands_on lists ns run.0 d run.2 m k r (subst (λ z. Stands z m k r) x.2 (stays c n x.0 m k r at))

-- what is told of the end is told of each point on the way
pub told_on_way : (g : Goal) (names : List Name) (end c : Configuration) (receipts : Receipts) → ComesThere g names end → IsOnWay g c → AreTold end receipts → AreTold c receipts
told_on_way g names end c receipts there way told f m k r at e =
    let y = machine g.lists in
    let left : (q : Name) → count y q way.names ≤ count y q names = λ q. omega (arith, made_run g way.names c way.run q, made_run g names end there.0 q, way.below names end there q) in
    let v = rest_after y way.names names (start g.program) c end (start_right g.program) way.run there.0 left in
    told f m k r (stands_on g.lists v.names c end v.run m k r at) e
