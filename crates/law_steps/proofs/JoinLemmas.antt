-- Runs with compatible lists go on to one end.
use Rattle.std.specs.Prelude.{◌≡◌, ℕ, zero, suc, ◌≤◌, true, max, List, [], ◌∷◌, ◌++◌, Option, Some, None, length, is_some}
use Rattle.std.proofs.Common.{refl, sym, ap, subst, ◌∙◌, arith, inl, inr, ⊎_elim, ◌⊎◌}
use Rattle.std.proofs.lemmas.Bool.{and_parts}
use Rattle.std.proofs.lemmas.List.{append-nil}
use Rattle.std.specs.FinMap.{find}
use Rattle.law_steps.specs.Systems.{count}
use Rattle.law_steps.proofs.SystemCounts.{run_both, count_both, hit_same}
use Rattle.law_steps.proofs.SystemJoins.{Joined, runs_join, stopped_end}
use Rattle.asp_model.specs.Names.{Name, name_cmp}
use Rattle.asp_model.specs.Term.{Tree}
use Rattle.asp_model.specs.Configuration.{ReceptionShape, Configuration, or_none, log_of, start}
use Rattle.asp_model.specs.Step.{ListsShape, with_last, reception_at, is_next, may_log, step}
use Rattle.asp_model.specs.Replay.{log_in}
use Rattle.law_steps.specs.Reached.{IsThere, RunsTo}
use Rattle.law_steps.proofs.NameLemmas.{reception_is}
use Rattle.law_chases.proofs.FutureLemmas.{no_some, some_is}
use Rattle.law_steps.proofs.StepLemmas.{step_taken, listed_is_free}
use Rattle.law_steps.proofs.SoundLemmas.{at_name, other_after}
use Rattle.law_steps.proofs.ExactLemmas.{Child, here_after}
use Rattle.law_steps.proofs.CommuteLemmas.{took}
use Rattle.law_steps.proofs.ReachedLemmas.{Right, start_right, step_right}
use Rattle.law_steps.proofs.ListLemmas.{IsPrefix, prefix_both, logged_by, grown_by}
use Rattle.law_steps.proofs.FlowLemmas.{StepOf, machine, Within, listed_run, right_run, counts_run}
use Rattle.law_steps.proofs.MergeLemmas.{IsJoin, prefix_anti}

prefix_next : (xs zs : List ReceptionShape) (n : ReceptionShape) → reception_at (xs ++ zs) (length xs) ≡ Some n → IsPrefix (xs ++ n ∷ []) (xs ++ zs)
prefix_next [] [] n h = no_some h
prefix_next [] (z ∷ zs) n h = (zs, ap (λ k. k ∷ zs) (sym (some_is h)))
prefix_next (x ∷ xs) zs n h = let p = prefix_next xs zs n h in (p.0, ap (λ l. x ∷ l) p.1)

-- Steps with lists stay within the lists, and each list grows

within_by : (lists : ListsShape) (c : Configuration) (o : Option (Name × ReceptionShape)) → may_log (Some lists) c o ≡ true → Within c lists → (m : Name) → IsPrefix (or_none (find name_cmp m (with_last o c.logs))) (log_in lists m)
within_by lists c None may w m = w m
within_by lists c (Some z) may w m = ⊎_elim
    (λ x.
    let p = w m in
    let expected : reception_at (log_in lists z.0) (length (log_of c z.0)) ≡ Some z.1 = reception_is z.1 (reception_at (log_in lists z.0) (length (log_of c z.0))) (and_parts (is_some (find name_cmp z.0 c.activities)) (is_next (Some lists) c z.0 z.1) may).1 in
    let next : reception_at (log_of c m ++ p.0) (length (log_of c m)) ≡ Some z.1 = ap (λ l. reception_at l (length (log_of c m))) p.1 ∙ ap (λ k. reception_at (log_in lists k) (length (log_of c k))) (sym x.0) ∙ expected in
    let q = prefix_next (log_of c m) p.0 z.1 next in
    (q.0, ap (λ l. l ++ q.0) x.1 ∙ q.1 ∙ p.1))
    (λ x. subst (λ l. IsPrefix l (log_in lists m)) (sym x) (w m))
    (logged_by z c m)

within_step : (lists : ListsShape) (n : Name) (c d : Configuration) → Right c → StepOf lists n c d → Within c lists → Within d lists
within_step lists n c d r h w =
    let x = step_taken (Some lists) c n d h in
    subst (λ z. Within z lists) x.2 (within_by lists c x.0.logged x.1.may w)

pub within_run : (lists : ListsShape) (ns : List Name) (c d : Configuration) → Right c → RunsTo (Some lists) c ns d → Within c lists → Within d lists
within_run lists [] c d r run w = subst (λ z. Within z lists) run w
within_run lists (n ∷ ns) c d r run w = within_run lists ns run.0 d (step_right (Some lists) n c run.0 run.1 r) run.2 (within_step lists n c run.0 r run.1 w)

grown_step : (lists : Option ListsShape) (n : Name) (c d : Configuration) → step lists c n ≡ Some d → (m : Name) → IsPrefix (log_of c m) (log_of d m)
grown_step lists n c d h m = let x = step_taken lists c n d h in subst (λ z. IsPrefix (log_of c m) (log_of z m)) x.2 (grown_by x.0.logged c m)

pub grown_run : (lists : Option ListsShape) (ns : List Name) (c d : Configuration) → RunsTo lists c ns d → (m : Name) → IsPrefix (log_of c m) (log_of d m)
grown_run lists [] c d run m = ([], append-nil _ ∙ ap (λ z. log_of z m) run)
grown_run lists (n ∷ ns) c d run m = prefix_both _ _ _ (grown_step lists n c run.0 run.1 m) (grown_run lists ns run.0 d run.2 m)

-- Joining

join_left : (xs ys zs : List ReceptionShape) → IsJoin xs ys zs → IsPrefix xs zs
join_left xs ys zs (inl p) = subst (IsPrefix xs) (sym p.1) p.0
join_left xs ys zs (inr p) = ([], append-nil xs ∙ sym p.1)

join_right : (xs ys zs : List ReceptionShape) → IsJoin xs ys zs → IsPrefix ys zs
join_right xs ys zs (inl p) = ([], append-nil ys ∙ sym p.1)
join_right xs ys zs (inr p) = subst (IsPrefix ys) (sym p.1) p.0

join_least : (xs ys zs ws : List ReceptionShape) → IsJoin xs ys zs → IsPrefix xs ws → IsPrefix ys ws → IsPrefix zs ws
join_least xs ys zs ws (inl p) a b = subst (λ l. IsPrefix l ws) (sym p.1) b
join_least xs ys zs ws (inr p) a b = subst (λ l. IsPrefix l ws) (sym p.1) a

-- a run under joined lists with the counts of both
pub record JoinedRun (program : Tree) (c d : Configuration) (lists : ListsShape) : Type 0 where
  pub end : Configuration
  pub names : List Name
  pub run : RunsTo (Some lists) (start program) names end
  pub met : (m : Name) → log_of end m ≡ log_in lists m
  pub counts : (q : Name) → (at_name end q).reductions ≡ max (at_name c q).reductions (at_name d q).reductions
  pub created : (q : Name) → IsThere end q → IsThere c q ⊎ IsThere d q
  pub kept : (q : Name) → IsThere c q ⊎ IsThere d q → IsThere end q

abbrev pub AreJoined : (c d : Configuration) → ListsShape → Type 0
AreJoined c d lists = (m : Name) → IsJoin (log_of c m) (log_of d m) (log_in lists m)

pub left_run : (program : Tree) (ns : List Name) (c d : Configuration) (lists : ListsShape) → RunsTo None (start program) ns c → AreJoined c d lists → RunsTo (Some lists) (start program) ns c
left_run program ns c d lists run j = (listed_run lists ns (start program) c (start_right program) run (λ m. join_left _ _ _ (j m))).0

pub right_side : (program : Tree) (ms : List Name) (c d : Configuration) (lists : ListsShape) → RunsTo None (start program) ms d → AreJoined c d lists → RunsTo (Some lists) (start program) ms d
right_side program ms c d lists run j = (listed_run lists ms (start program) d (start_right program) run (λ m. join_right _ _ _ (j m))).0

pub within_start : (program : Tree) (lists : ListsShape) → Within (start program) lists
within_start program lists m = (log_in lists m, refl)

-- an activity that takes no step of a run keeps its face
same_face : (lists : ListsShape) (ns : List Name) (c d : Configuration) (q : Name) → Right c → RunsTo (Some lists) c ns d → count (machine lists) q ns ≡ 0 → at_name d q ≡ at_name c q
same_face lists [] c d q r run none = ap (λ z. at_name z q) (sym run)
same_face lists (n ∷ ns) c d q r run none =
    let x = step_taken (Some lists) c n run.0 run.1 in
    same_face lists ns run.0 d q (step_right (Some lists) n c run.0 run.1 r) run.2 (omega (arith, none))
    ∙ ap (λ z. at_name z q) (sym x.2)
    ∙ other_after c n q x.0 (took (Some lists) c n x.0 r.sound x.1) (λ p. omega (arith, none, hit_same (machine lists) q n p))

there_run : (lists : Option ListsShape) (ns : List Name) (c d : Configuration) → RunsTo lists c ns d → (q : Name) → IsThere c q → IsThere d q
there_run lists [] c d run q h = subst (λ z. IsThere z q) run h
there_run lists (n ∷ ns) c d run q h = let x = step_taken lists c n run.0 run.1 in there_run lists ns run.0 d run.2 q (subst (λ z. IsThere z q) x.2 (here_after c n x.0 q h))

-- each activity of the joined end was created in one of the two runs
created_in : (program : Tree) (lists : ListsShape) (ns ms : List Name) (c d : Configuration) → Right c → Right d → (j : Joined (machine lists) ns c ms d) → Right j.end → (q : Name) → IsThere j.end q → IsThere c q ⊎ IsThere d q
created_in program lists ns ms c d rc rd j r q h = ⊎_elim
    (λ p. inl (subst (IsThere c) (sym p) rc.tidy.main))
    (λ k. by_side k (count (machine lists) k.0 j.left) refl)
    (r.exact.known q h)
  where
    by_side : (k : Child j.end q) → (i : ℕ) → count (machine lists) k.0 j.left ≡ i → IsThere c q ⊎ IsThere d q
    by_side k zero z = inl (subst (IsThere c) (sym k.2) (rc.exact.made k.0 k.1 (subst (λ u. suc k.1 ≤ u.creations) (same_face lists j.left c j.end k.0 rc j.on_left z) k.3)))
    by_side k (suc i) z = inr (subst (IsThere d) (sym k.2) (rd.exact.made k.0 k.1 (subst (λ u. suc k.1 ≤ u.creations) (same_face lists j.right d j.end k.0 rd j.on_right (omega (arith, z, j.counts_left k.0, j.counts_right k.0))) k.3)))

-- two runs with compatible lists go on to a run under the joined lists and counts
pub runs_joined : (program : Tree) (ns ms : List Name) (c d : Configuration) (lists : ListsShape) → RunsTo None (start program) ns c → RunsTo None (start program) ms d → AreJoined c d lists → JoinedRun program c d lists
runs_joined program ns ms c d lists run other joins =
    let r = start_right program in
    let a = left_run program ns c d lists run joins in
    let b = right_side program ms c d lists other joins in
    let rc = right_run (Some lists) ns (start program) c r a in
    let rd = right_run (Some lists) ms (start program) d r b in
    let j = runs_join (machine lists) ns ms (start program) c d r a b in
    let whole = run_both (machine lists) ns j.left (start program) c j.end a j.on_left in
    record {
      end = j.end;
      names = ns ++ j.left;
      run = whole;
      met = λ m. prefix_anti (log_of j.end m) (log_in lists m) (within_run lists (ns ++ j.left) (start program) j.end r whole (within_start program lists) m)
          (join_least _ _ _ _ (joins m) (grown_run (Some lists) j.left c j.end j.on_left m) (grown_run (Some lists) j.right d j.end j.on_right m));
      counts = λ q. omega (arith, j.counts_left q, count_both (machine lists) q ns j.left, counts_run lists (ns ++ j.left) (start program) j.end r whole q, counts_run lists ns (start program) c r a q, counts_run lists ms (start program) d r b q);
      created = created_in program lists ns ms c d rc rd j (right_run (Some lists) j.left c j.end rc j.on_left);
      kept = λ q h. ⊎_elim (there_run (Some lists) j.left c j.end j.on_left q) (there_run (Some lists) j.right d j.end j.on_right q) h;
    }

-- nobody steps without lists
abbrev pub NobodySteps : Configuration → Type 0
NobodySteps c = (n : Name) (d : Configuration) → step None c n ≡ Some d → ⊥

-- where the one is still, its lists and counts are the joined ones
pub still_joined : (program : Tree) (ns ms : List Name) (c d : Configuration) (lists : ListsShape) → RunsTo None (start program) ns c → RunsTo None (start program) ms d → AreJoined c d lists → NobodySteps c → ((m : Name) → log_of c m ≡ log_in lists m) × ((q : Name) → (at_name d q).reductions ≤ (at_name c q).reductions) × ((q : Name) → IsThere d q → IsThere c q)
still_joined program ns ms c d lists run other joins still =
    let r = start_right program in
    let a = left_run program ns c d lists run joins in
    let b = right_side program ms c d lists other joins in
    let x = stopped_end (machine lists) ns ms (start program) c d r a b (λ q e st. absurd (still q e (listed_is_free (Some lists) c q e st))) in (
      λ m. prefix_anti (log_of c m) (log_in lists m) (join_left _ _ _ (joins m)) (join_least _ _ _ _ (joins m) ([], append-nil _) (grown_run (Some lists) x.labels d c x.run m)),
      λ q. omega (arith, x.counts q, counts_run lists ns (start program) c r a q, counts_run lists ms (start program) d r b q),
      there_run (Some lists) x.labels d c x.run,
    )
