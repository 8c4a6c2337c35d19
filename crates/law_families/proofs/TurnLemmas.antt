-- Who waits for its turn in a log: it intends so still, and is next there, or comes behind another.
use Rattle.std.specs.Prelude.{◌≡◌, ◌≢◌, ℕ, zero, suc, ◌≤◌, ◌&&◌, true, false, List, [], ◌∷◌, Option, Some, None, length, is_some}
use Rattle.std.proofs.Common.{refl, sym, ap, subst, ◌∙◌, arith, inl, inr, ⊎_elim, ◌⊎◌}
use Rattle.std.proofs.lemmas.Bool.{and_parts}
use Rattle.std.proofs.lemmas.List.{append-nil}
use Rattle.std.specs.FinMap.{find}
use Rattle.asp_model.specs.Names.{Name, name_cmp}
use Rattle.asp_model.specs.Term.{Tree}
use Rattle.asp_model.specs.Configuration.{ReceptionShape, Configuration, log_of, start}
use Rattle.asp_model.specs.Intent.{Effect}
use Rattle.asp_model.specs.Step.{ListsShape, intent_in, with_effect, reception_at, same_reception, is_next, may_log}
use Rattle.asp_model.specs.Replay.{log_in, replay}
use Rattle.law_steps.specs.Reached.{RunsTo}
use Rattle.law_chases.proofs.FutureLemmas.{no_some, some_is, true_false}
use Rattle.law_steps.proofs.NameLemmas.{name_case, receptions_tied, reception_itself, reception_is}
use Rattle.law_steps.proofs.StepLemmas.{Takes, step_taken, takes_step}
use Rattle.law_steps.proofs.FactLemmas.{acts_is}
use Rattle.law_steps.proofs.SoundLemmas.{Took}
use Rattle.law_steps.proofs.ExactLemmas.{here_after}
use Rattle.law_steps.proofs.CommuteLemmas.{took, acts_after}
use Rattle.law_steps.proofs.ReachedLemmas.{Right, start_right, step_right}
use Rattle.law_steps.proofs.ListLemmas.{IsPrefix, prefix_both, grown_by}
use Rattle.law_steps.proofs.FlowLemmas.{Within, right_run}
use Rattle.law_steps.proofs.MergeLemmas.{prefix_length, prefix_anti}
use Rattle.law_steps.proofs.JoinLemmas.{within_run, grown_run}
use Rattle.law_families.specs.Families.{RunLogs, ComesBehind}
use Rattle.law_families.proofs.CutLemmas.{past, EndRun, to_end}

-- who can step can when another has stepped, and logs the same
pub still_logs : (c : Configuration) (n m : Name) (e d : Effect) → n ≢ m → Took c m d → Takes None c n e → (x : Effect) × Takes None (with_effect m d c) n x × (x.logged ≡ e.logged)
still_logs c n m e d apart t x = ⊎_elim
    (λ p. (e, record { intends = p; may = kept e.logged x.may }, refl))
    (λ y. (y.1, record { intends = y.2; may = ap (may_log None (with_effect m d c)) (y.3 ∙ sym y.0) ∙ kept e.logged x.may }, y.3 ∙ sym y.0))
    (acts_after c n m e d apart t x.intends)
  where
    kept : (o : Option (Name × ReceptionShape)) → may_log None c o ≡ true → may_log None (with_effect m d c) o ≡ true
    kept None h = refl
    kept (Some z) h = ap (λ b. b && true) (here_after c m d z.0 (and_parts (is_some (find name_cmp z.0 c.activities)) true h).0)

-- the entry that is next in the lists at a place of a log
next_is : (lists : ListsShape) (c : Configuration) (z : Name × ReceptionShape) → may_log (Some lists) c (Some z) ≡ true → reception_at (log_in lists z.0) (length (log_of c z.0)) ≡ Some z.1
next_is lists c z may = reception_is z.1 (reception_at (log_in lists z.0) (length (log_of c z.0))) (and_parts (is_some (find name_cmp z.0 c.activities)) (is_next (Some lists) c z.0 z.1) may).1

-- where a list is used up, nobody logs there
used_up : (lists : ListsShape) (c : Configuration) (z : Name × ReceptionShape) → log_of c z.0 ≡ log_in lists z.0 → may_log (Some lists) c (Some z) ≡ true → ⊥
used_up lists c z full may = no_some (sym (past (log_in lists z.0)) ∙ ap (reception_at (log_in lists z.0)) (ap length (sym full)) ∙ next_is lists c z may)

-- it can step, and logs this, and the list there is used up
pub record Held (lists : ListsShape) (d : Configuration) (n : Name) (z : Name × ReceptionShape) : Type 0 where
  pub effect : Effect
  pub takes : Takes None d n effect
  pub logs : effect.logged ≡ Some z
  pub full : log_of d z.0 ≡ log_in lists z.0

-- so who intends to log there does so at the end of a run under the lists
pub held_on : (lists : ListsShape) (ls : List Name) (c d : Configuration) (n : Name) (z : Name × ReceptionShape) → Right c → Within c lists → Held lists c n z → RunsTo (Some lists) c ls d → Held lists d n z
held_on lists [] c d n z r w held run = subst (λ y. Held lists y n z) run held
held_on lists (l ∷ ls) c d n z r w held run =
    let x = step_taken (Some lists) c l run.0 run.1 in
    let first : RunsTo (Some lists) c (l ∷ []) run.0 = (run.0, run.1, refl) in
    let w' = within_run lists (l ∷ []) c run.0 r first w in
    let full : log_of run.0 z.0 ≡ log_in lists z.0 = prefix_anti _ _ (w' z.0) (subst (λ k. IsPrefix k (log_of run.0 z.0)) held.full (grown_run (Some lists) (l ∷ []) c run.0 first z.0)) in
    ⊎_elim
    (λ p.
    let same : x.0 ≡ held.effect = acts_is (sym x.1.intends ∙ ap (intent_in c) (sym p) ∙ held.takes.intends) in
    let logs : x.0.logged ≡ Some z = ap (λ f. f.logged) same ∙ held.logs in
    absurd (used_up lists c z held.full (subst (λ o. may_log (Some lists) c o ≡ true) logs x.1.may)))
    (λ apart.
    let y = still_logs c n l held.effect x.0 apart (took (Some lists) c l x.0 r.sound x.1) held.takes in
    let after : Held lists run.0 n z = record { effect = y.0; takes = subst (λ u. Takes None u n y.0) x.2 y.1; logs = y.2 ∙ held.logs; full = full } in
    held_on lists ls run.0 d n z (step_right (Some lists) l c run.0 run.1 r) w' after run.2)
    (name_case n l)

-- n can step at the end of a run, or it is next on the run with this that is logged
abbrev Later : ListsShape → (c d : Configuration) → Name → Option (Name × ReceptionShape) → Type 0
Later lists c d n o = ((x : Effect) × Takes None d n x) ⊎ ((x : Configuration) × ((m : Name) → IsPrefix (log_of c m) (log_of x m)) × (may_log (Some lists) x o ≡ true))

steps_later : (lists : ListsShape) (ls : List Name) (c d : Configuration) (n : Name) (e : Effect) → Right c → Takes None c n e → RunsTo (Some lists) c ls d → Later lists c d n e.logged
steps_later lists [] c d n e r can run = inl (e, subst (λ z. Takes None z n e) run can)
steps_later lists (l ∷ ls) c d n e r can run =
    let x = step_taken (Some lists) c l run.0 run.1 in
    ⊎_elim
    (λ p.
    let same : x.0 ≡ e = acts_is (sym x.1.intends ∙ ap (intent_in c) (sym p) ∙ can.intends) in
    inr (c, λ m. ([], append-nil _), subst (λ f. may_log (Some lists) c f.logged ≡ true) same x.1.may))
    (λ apart.
    let y = still_logs c n l e x.0 apart (took (Some lists) c l x.0 r.sound x.1) can in
    let keeps : Takes None run.0 n y.0 = subst (λ z. Takes None z n y.0) x.2 y.1 in
    ⊎_elim
    (λ h. inl h)
    (λ h. inr (h.0, λ m. prefix_both _ _ _ (subst (λ z. IsPrefix (log_of c m) (log_of z m)) x.2 (grown_by x.0.logged c m)) (h.1 m), subst (λ o. may_log (Some lists) h.0 o ≡ true) y.2 h.2))
    (steps_later lists ls run.0 d n y.0 (step_right (Some lists) l c run.0 run.1 r) keeps run.2))
    (name_case n l)

-- Entries of a log

reception_case : (x y : ReceptionShape) → (x ≡ y) ⊎ (x ≢ y)
reception_case x y = elim (same_reception x y) as (λ b. same_reception x y ≡ b → (x ≡ y) ⊎ (x ≢ y)) [
  | true ↦ λ h. inl (receptions_tied x y h)
  | false ↦ λ h. inr (λ p. true_false (same_reception x y) (ap (same_reception x) (sym p) ∙ reception_itself x) h)
] refl

earlier : (xs : List ReceptionShape) (i j : ℕ) (y : ReceptionShape) → reception_at xs j ≡ Some y → i ≤ j → (z : ReceptionShape) × (reception_at xs i ≡ Some z)
earlier [] i j y at le = no_some at
earlier (x ∷ xs) zero j y at le = (x, refl)
earlier (x ∷ xs) (suc i) zero y at le = absurd (omega (arith, le))
earlier (x ∷ xs) (suc i) (suc j) y at le = earlier xs i j y at (omega (arith, le))

less_of : (a b : ℕ) → a ≤ b → a ≢ b → suc a ≤ b
less_of zero zero le apart = absurd (apart refl)
less_of zero (suc b) le apart = omega arith
less_of (suc a) zero le apart = absurd (omega (arith, le))
less_of (suc a) (suc b) le apart = let r = less_of a b (omega (arith, le)) (λ p. apart (ap suc p)) in omega (arith, r)

-- an entry is next in the lists, or comes behind another
abbrev pub Turn : ListsShape → Configuration → Name × ReceptionShape → Type 0
Turn lists c z = (reception_at (log_in lists z.0) (length (log_of c z.0)) ≡ Some z.1) ⊎ ComesBehind (log_in lists z.0) (length (log_of c z.0)) z.1

-- an entry of a log is at an earlier place, or comes behind another one there
pub behind : (xs : List ReceptionShape) (k j : ℕ) (y : ReceptionShape) → reception_at xs j ≡ Some y → k ≤ j → (reception_at xs k ≡ Some y) ⊎ ComesBehind xs k y
behind xs k j y at le =
    let z = earlier xs k j y at le in
    ⊎_elim
    (λ p. inl (z.1 ∙ ap Some (sym p)))
    (λ apart. inr (record {
      here = z.0;
      at = z.1;
      other = apart;
      place = j;
      behind = less_of k j le (λ p. apart (some_is (sym at ∙ ap (reception_at xs) (sym p) ∙ z.1)));
      comes = at;
    }))
    (reception_case y z.0)

-- so it is with whatever one who can step would log, within an end
pub turn_of : (program : Tree) (x : RunLogs) (ns : List Name) (c : Configuration) (n : Name) (e : Effect) (z : Name × ReceptionShape) → EndRun program x → RunsTo None (start program) ns c → Within c x.0 → Takes None c n e → e.logged ≡ Some z → Turn x.0 c z
turn_of program x ns c n e z end run w can is =
    let r = right_run None ns (start program) c (start_right program) run in
    let y = to_end program x ns c end run w in
    ⊎_elim
    (λ h. absurd (end.still n (with_effect n h.0 (replay program x.0 x.1)) (takes_step None (replay program x.0 x.1) n h.0 h.1)))
    (λ h. behind (log_in x.0 z.0) (length (log_of c z.0)) (length (log_of h.0 z.0)) z.1 (next_is x.0 h.0 z (subst (λ o. may_log (Some x.0) h.0 o ≡ true) is h.2)) (prefix_length _ _ (h.1 z.0)))
    (steps_later x.0 y.labels c (replay program x.0 x.1) n e r can y.run)
