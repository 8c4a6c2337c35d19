-- One sender in each log, without a poll, is enough.
use Rattle.std.specs.Prelude.{◌≡◌, ◌≢◌, ℕ, zero, suc, ◌≤◌, ◌&&◌, true, List, [], ◌∷◌, ◌++◌, Option, Some, None, length, is_some}
use Rattle.std.proofs.Common.{refl, sym, ap, subst, ◌∙◌, arith, inl, inr, ⊎_elim, ◌⊎◌, append_assoc}
use Rattle.std.proofs.lemmas.Bool.{and_parts}
use Rattle.std.proofs.lemmas.List.{append-nil}
use Rattle.std.specs.FinMap.{find}
use Rattle.law_steps.proofs.SystemCounts.{run_both}
use Rattle.law_steps.proofs.SystemJoins.{stopped_end, one_end}
use Rattle.asp_model.specs.Names.{Name, name_cmp}
use Rattle.asp_model.specs.Term.{Tree}
use Rattle.asp_model.specs.Configuration.{ReceptionShape, From, Poll, Configuration, log_of, start}
use Rattle.asp_model.specs.Intent.{Effect}
use Rattle.asp_model.specs.Step.{ListsShape, intent_in, with_effect, reception_at, same_reception, is_reception, is_next, may_log, step}
use Rattle.asp_model.specs.Replay.{lists_of, log_in}
use Rattle.std.specs.List.{list_all}
use Rattle.law_steps.specs.Steps.{IsPoll}
use Rattle.law_steps.specs.Reached.{IsThere, RunsTo}
use Rattle.law_steps.specs.Joins.{is_narrow, IsOneSenderEnd, OneSenderBounds, OneSenderEnds}
use Rattle.law_steps.proofs.NameLemmas.{name_case, receptions_tied, reception_is, reception_itself}
use Rattle.law_chases.proofs.FutureLemmas.{no_some, some_is, none_true}
use Rattle.law_steps.proofs.StepLemmas.{Takes, step_taken, takes_step, listed_is_free}
use Rattle.law_steps.proofs.FactLemmas.{acts_is}
use Rattle.law_steps.proofs.SoundLemmas.{Took}
use Rattle.law_steps.proofs.ExactLemmas.{here_after}
use Rattle.law_steps.proofs.TidyLemmas.{logged_there}
use Rattle.law_steps.proofs.CommuteLemmas.{took, acts_after}
use Rattle.law_steps.proofs.ReachedLemmas.{Right, start_right, step_right}
use Rattle.law_steps.proofs.ListLemmas.{IsPrefix, prefix_both, grown_by, senders_own}
use Rattle.law_steps.proofs.FlowLemmas.{machine, right_run, own_run}
use Rattle.law_steps.proofs.MergeLemmas.{prefix_length, test_of_prefix}
use Rattle.law_steps.proofs.JoinLemmas.{NobodySteps, within_run, within_start}
use Rattle.law_steps.proofs.JoinLaws.{still}

-- who can step without lists can when another has stepped, with the same effect or as a poll still
free_still : (c : Configuration) (n m : Name) (e d : Effect) → n ≢ m → Took c m d → Takes None c n e → (x : Effect) × Takes None (with_effect m d c) n x × ((x ≡ e) ⊎ (IsPoll n e × IsPoll n x))
free_still c n m e d apart t x = ⊎_elim
    (λ p. (e, record { intends = p; may = kept e.logged x.may }, inl refl))
    (λ y. (y.1, record { intends = y.2; may = ap (may_log None (with_effect m d c)) (y.3 ∙ sym y.0) ∙ kept e.logged x.may }, inr (y.0, y.3)))
    (acts_after c n m e d apart t x.intends)
  where
    kept : (o : Option (Name × ReceptionShape)) → may_log None c o ≡ true → may_log None (with_effect m d c) o ≡ true
    kept None h = refl
    kept (Some z) h = ap (λ b. b && true) (here_after c m d z.0 (and_parts (is_some (find name_cmp z.0 c.activities)) true h).0)

-- where n steps next on a run, or that it can step at its end, with this that is logged
abbrev Later : ListsShape → (c d : Configuration) → Name → Option (Name × ReceptionShape) → Type 0
Later lists c d n o = ((x : Effect) × Takes None d n x) ⊎ ((x : Configuration) × ((m : Name) → IsPrefix (log_of c m) (log_of x m)) × (may_log (Some lists) x o ≡ true))

steps_later : (lists : ListsShape) (ls : List Name) (c d : Configuration) (n : Name) (e : Effect) → Right c → Takes None c n e → RunsTo (Some lists) c ls d → Later lists c d n e.logged
steps_later lists [] c d n e r can run = inl (e, subst (λ z. Takes None z n e) run can)
steps_later lists (l ∷ ls) c d n e r can run =
    let x = step_taken (Some lists) c l run.0 run.1 in
    ⊎_elim
    (λ p.
    let same : x.0 ≡ e = acts_is (sym x.1.intends ∙ ap (intent_in c) (sym p) ∙ can.intends) in
    inr (c, λ m. ([], append-nil _), subst (λ f. may_log (Some lists) c f.logged ≡ true) same x.1.may))
    (λ apart.
    let y = free_still c n l e x.0 apart (took (Some lists) c l x.0 r.sound x.1) can in
    let keeps : Takes None run.0 n y.0 = subst (λ z. Takes None z n y.0) x.2 y.1 in
    let logs : y.0.logged ≡ e.logged = ⊎_elim (λ p. ap (λ z. z.logged) p) (λ p. p.1 ∙ sym p.0) y.2 in
    ⊎_elim
    (λ h. inl h)
    (λ h. inr (h.0, λ m. prefix_both _ _ _ (subst (λ z. IsPrefix (log_of c m) (log_of z m)) x.2 (grown_by x.0.logged c m)) (h.1 m), subst (λ o. may_log (Some lists) h.0 o ≡ true) logs h.2))
    (steps_later lists ls run.0 d n y.0 (step_right (Some lists) l c run.0 run.1 r) keeps run.2))
    (name_case n l)

-- the entries of a narrow log are one

all_same : (x : ReceptionShape) (xs : List ReceptionShape) (i : ℕ) (y : ReceptionShape) → list_all (same_reception x) xs ≡ true → reception_at xs i ≡ Some y → x ≡ y
all_same x [] i y h at = no_some at
all_same x (z ∷ xs) zero y h at = receptions_tied x z (and_parts (same_reception x z) (list_all (same_reception x) xs) h).0 ∙ some_is at
all_same x (z ∷ xs) (suc i) y h at = all_same x xs i y (and_parts (same_reception x z) (list_all (same_reception x) xs) h).1 at

earlier_same : (xs : List ReceptionShape) (i j : ℕ) (y : ReceptionShape) → is_narrow xs ≡ true → reception_at xs j ≡ Some y → i ≤ j → reception_at xs i ≡ Some y
earlier_same [] i j y h at le = no_some at
earlier_same (Poll ∷ xs) i j y h at le = none_true h
earlier_same (From n ∷ xs) zero zero y h at le = at
earlier_same (From n ∷ xs) zero (suc j) y h at le = ap Some (all_same (From n) xs j y h at)
earlier_same (From n ∷ xs) (suc i) zero y h at le = absurd (omega (arith, le))
earlier_same (From n ∷ xs) (suc i) (suc j) y h at le = let z = earlier_there xs i j y at (omega (arith, le)) in z.1 ∙ ap Some (sym (all_same (From n) xs i z.0 h z.1) ∙ all_same (From n) xs j y h at)
  where
    earlier_there : (xs : List ReceptionShape) (i j : ℕ) (y : ReceptionShape) → reception_at xs j ≡ Some y → i ≤ j → (z : ReceptionShape) × (reception_at xs i ≡ Some z)
    earlier_there [] i j y at le = no_some at
    earlier_there (x ∷ xs) zero j y at le = (x, refl)
    earlier_there (x ∷ xs) (suc i) zero y at le = absurd (omega (arith, le))
    earlier_there (x ∷ xs) (suc i) (suc j) y at le = earlier_there xs i j y at (omega (arith, le))

-- with narrow logs, what is next later is next
earlier_next : (lists : ListsShape) (c x : Configuration) (o : Option (Name × ReceptionShape)) → ((m : Name) → is_narrow (log_in lists m) ≡ true) → ((m : Name) → IsPrefix (log_of c m) (log_of x m)) → ((z : Name × ReceptionShape) → o ≡ Some z → IsThere c z.0) → may_log (Some lists) x o ≡ true → may_log (Some lists) c o ≡ true
earlier_next lists c x None one grown there may = refl
earlier_next lists c x (Some z) one grown there may =
    let at : reception_at (log_in lists z.0) (length (log_of x z.0)) ≡ Some z.1 = reception_is z.1 (reception_at (log_in lists z.0) (length (log_of x z.0))) (and_parts (is_some (find name_cmp z.0 x.activities)) (is_next (Some lists) x z.0 z.1) may).1 in
    let next = earlier_same (log_in lists z.0) (length (log_of c z.0)) (length (log_of x z.0)) z.1 (one z.0) at (prefix_length _ _ (grown z.0)) in
    ap (λ b. b && is_next (Some lists) c z.0 z.1) (there z refl) ∙ ap (is_reception z.1) next ∙ reception_itself z.1

-- a run beside one that is still, whose logs are narrow, is a run under its lists
beside_run : (program : Tree) (ns : List Name) (d : Configuration) → RunsTo None (start program) ns d → NobodySteps d → ((m : Name) → is_narrow (log_in (lists_of d) m) ≡ true) → (ms done : List Name) (c e : Configuration) → Right c → RunsTo (Some (lists_of d)) (start program) done c → RunsTo None c ms e → RunsTo (Some (lists_of d)) (start program) (done ++ ms) e
beside_run program ns d run stuck one [] done c e r before rest = subst (λ z. RunsTo (Some (lists_of d)) (start program) (done ++ []) z) rest (subst (λ l. RunsTo (Some (lists_of d)) (start program) l c) (sym (append-nil done)) before)
beside_run program ns d run stuck one (n ∷ ms) done c e r before rest =
    let lists = lists_of d in
    let x = step_taken None c n rest.0 rest.1 in
    let a = own_run program ns d run in
    let left = stopped_end (machine lists) ns done (start program) d c (start_right program) a before (λ q f st. absurd (stuck q f (listed_is_free (Some lists) d q f st))) in
    let may : may_log (Some lists) c x.0.logged ≡ true = ⊎_elim
    (λ h. absurd (stuck n (with_effect n h.0 d) (takes_step None d n h.0 h.1)))
    (λ h. earlier_next lists c h.0 x.0.logged one h.1 (logged_there None c n x.0 x.1) h.2)
    (steps_later lists left.labels c d n x.0 r x.1 left.run) in
    let st : step (Some lists) c n ≡ Some rest.0 = takes_step (Some lists) c n x.0 (record { intends = x.1.intends; may = may }) ∙ ap Some x.2 in
    subst (λ l. RunsTo (Some lists) (start program) l e) (append_assoc done (n ∷ []) ms)
    (beside_run program ns d run stuck one ms (done ++ n ∷ []) rest.0 e (step_right (Some lists) n c rest.0 st r) (run_both (machine lists) done (n ∷ []) (start program) c rest.0 before (rest.0, st, refl)) rest.2)

under_lists : (program : Tree) (c d : Configuration) (others : List Name) → IsOneSenderEnd program c → RunsTo None (start program) others d → RunsTo (Some (lists_of c)) (start program) others d
under_lists program c d others x other = beside_run program x.names c x.run (still program x.names c x.run x.stuck) x.one others [] (start program) d (start_right program) refl other

pub one_sender_bounds : OneSenderBounds
one_sender_bounds program c d others x other m =
    let w = within_run (lists_of c) others (start program) d (start_right program) (under_lists program c d others x other) (within_start program (lists_of c)) m in
    let rd = right_run None others (start program) d (start_right program) other in
    test_of_prefix (log_in (lists_of d) m) (log_in (lists_of c) m) (subst (λ l. IsPrefix l (log_in (lists_of c) m)) (sym (senders_own d rd.tidy m)) w)

pub one_sender_ends : OneSenderEnds
one_sender_ends program c d others x other stuck =
    let lists = lists_of c in
    let r = start_right program in
    let a = own_run program x.names c x.run in
    let b = under_lists program c d others x other in
    let is_still = still program x.names c x.run x.stuck in
    let other_still = still program others d other stuck in
    let y = stopped_end (machine lists) x.names others (start program) c d r a b (λ q f st. absurd (is_still q f (listed_is_free (Some lists) c q f st))) in
    let z = stopped_end (machine lists) others x.names (start program) d c r b a (λ q f st. absurd (other_still q f (listed_is_free (Some lists) d q f st))) in
    one_end (machine lists) others x.names (start program) d c r b a (λ q. omega (arith, y.counts q, z.counts q))
