-- Configurations as a system of labelled steps under lists, and runs without lists as runs of it.
use Rattle.std.specs.Prelude.{◌≡◌, suc, ◌+◌, true, List, [], ◌∷◌, ◌++◌, Option, Some, None, length, is_some}
use Rattle.std.proofs.Common.{refl, sym, ap, subst, ◌∙◌, arith, ⊎_elim, append_assoc}
use Rattle.std.proofs.lemmas.Bool.{and_from}
use Rattle.std.specs.FinMap.{find}
use Rattle.law_steps.specs.Systems.{System, hit, count}
use Rattle.law_steps.proofs.SystemCounts.{hit_same, hit_other}
use Rattle.law_steps.proofs.SystemJoins.{one_end}
use Rattle.asp_model.specs.Names.{Name, name_cmp}
use Rattle.asp_model.specs.Term.{Tree}
use Rattle.asp_model.specs.Configuration.{ReceptionShape, Configuration, or_none, log_of, start}
use Rattle.asp_model.specs.Intent.{Effect}
use Rattle.asp_model.specs.Step.{ListsShape, with_last, with_effect, reception_at, is_reception, is_next, may_log, step}
use Rattle.asp_model.specs.Replay.{log_in, lists_of, counts_of, count_in}
use Rattle.law_steps.specs.Reached.{RunsTo}
use Rattle.law_steps.proofs.NameLemmas.{name_case, reception_itself}
use Rattle.law_chases.proofs.FutureLemmas.{some_is}
use Rattle.law_steps.proofs.StepLemmas.{step_taken, takes_step}
use Rattle.law_steps.proofs.SoundLemmas.{Took, at_name, own_after, other_after}
use Rattle.law_steps.proofs.TidyLemmas.{logged_there}
use Rattle.law_steps.proofs.CommuteLemmas.{took}
use Rattle.law_steps.proofs.ReachedLemmas.{Right, step_right, start_right}
use Rattle.law_steps.proofs.DiamondLemmas.{listed_commute}
use Rattle.law_steps.proofs.ListLemmas.{IsPrefix, prefix_both, prefix_same, reception_next, senders_own, count_own, grown_by, logged_list}

-- the steps with these lists
abbrev pub StepOf : ListsShape → Name → Configuration → Configuration → Type 0
StepOf lists n c d = step (Some lists) c n ≡ Some d

abbrev pub machine : ListsShape → System
machine lists = record {
  State = Configuration;
  Label = Name;
  Good = Right;
  Step = StepOf lists;
  alike = name_case;
  keeps = λ n c d r h. step_right (Some lists) n c d h r;
  one = λ n c d e h k. some_is (sym h ∙ k);
  commutes = λ n m c d e r apart h k. listed_commute lists c d e n m r.sound apart h k;
}

-- Runs without lists

-- the lists begin with the logs
abbrev pub Within : Configuration → ListsShape → Type 0
Within c lists = (m : Name) → IsPrefix (log_of c m) (log_in lists m)

next_in : (lists : ListsShape) (c : Configuration) (z : Name × ReceptionShape) → IsPrefix (or_none (find name_cmp z.0 (with_last (Some z) c.logs))) (log_in lists z.0) → is_next (Some lists) c z.0 z.1 ≡ true
next_in lists c z p =
    let q : log_of c z.0 ++ z.1 ∷ p.0 ≡ log_in lists z.0 = sym (append_assoc (log_of c z.0) (z.1 ∷ []) p.0) ∙ ap (λ l. l ++ p.0) (sym (logged_list z c)) ∙ p.1 in
    let at : reception_at (log_in lists z.0) (length (log_of c z.0)) ≡ Some z.1 = ap (λ l. reception_at l (length (log_of c z.0))) (sym q) ∙ reception_next (log_of c z.0) z.1 p.0 in
    ap (is_reception z.1) at ∙ reception_itself z.1

may_in : (lists : ListsShape) (c : Configuration) (o : Option (Name × ReceptionShape)) → ((z : Name × ReceptionShape) → o ≡ Some z → is_some (find name_cmp z.0 c.activities) ≡ true) → ((m : Name) → IsPrefix (or_none (find name_cmp m (with_last o c.logs))) (log_in lists m)) → may_log (Some lists) c o ≡ true
may_in lists c None there within = refl
may_in lists c (Some z) there within = and_from (is_some (find name_cmp z.0 c.activities)) (is_next (Some lists) c z.0 z.1) (there z refl) (next_in lists c z (within z.0))

pub listed_step : (lists : ListsShape) (n : Name) (c d : Configuration) → Right c → step None c n ≡ Some d → Within d lists → StepOf lists n c d × Within c lists
listed_step lists n c d r h within =
    let x = step_taken None c n d h in
    let after : (m : Name) → IsPrefix (log_of (with_effect n x.0 c) m) (log_in lists m) = subst (λ z. Within z lists) (sym x.2) within in
    let may = may_in lists c x.0.logged (λ z p. logged_there None c n x.0 x.1 z p) after in (
      takes_step (Some lists) c n x.0 (record { intends = x.1.intends; may = may }) ∙ ap Some x.2,
      λ m. prefix_both _ _ _ (grown_by x.0.logged c m) (after m),
    )

pub listed_run : (lists : ListsShape) (ns : List Name) (c d : Configuration) → Right c → RunsTo None c ns d → Within d lists → RunsTo (Some lists) c ns d × Within c lists
listed_run lists [] c d r run within = (run, subst (λ z. Within z lists) (sym run) within)
listed_run lists (n ∷ ns) c d r run within =
    let more = listed_run lists ns run.0 d (step_right None n c run.0 run.1 r) run.2 within in
    let h = listed_step lists n c run.0 r run.1 more.1 in
    ((run.0, h.0, more.0), h.1)

pub right_run : (lists : Option ListsShape) (ns : List Name) (c d : Configuration) → Right c → RunsTo lists c ns d → Right d
right_run lists [] c d r run = subst Right run r
right_run lists (n ∷ ns) c d r run = right_run lists ns run.0 d (step_right lists n c run.0 run.1 r) run.2

pub within_own : (c : Configuration) → Right c → Within c (lists_of c)
within_own c r m = prefix_same (log_of c m) (log_in (lists_of c) m) (sym (senders_own c r.tidy m))

-- a run is one under the lists that it leaves
pub own_run : (program : Tree) (ns : List Name) (c : Configuration) → RunsTo None (start program) ns c → RunsTo (Some (lists_of c)) (start program) ns c
own_run program ns c run = (listed_run (lists_of c) ns (start program) c (start_right program) run (within_own c (right_run None ns (start program) c (start_right program) run))).0

-- Counts of reductions

counts_effect : (c : Configuration) (n : Name) (e : Effect) → Took c n e → (lists : ListsShape) (q : Name) → (at_name (with_effect n e c) q).reductions ≡ (at_name c q).reductions + hit (machine lists) q n
counts_effect c n e t lists q = ⊎_elim
    (λ p. let own : (at_name (with_effect n e c) q).reductions ≡ suc (at_name c n).reductions = ap (λ k. (at_name (with_effect n e c) k).reductions) p ∙ ap (λ x. x.reductions) (own_after c n e t) ∙ t.facts.counted in
    let was : (at_name c q).reductions ≡ (at_name c n).reductions = ap (λ k. (at_name c k).reductions) p in
    omega (arith, own, was, hit_same (machine lists) q n p))
    (λ a. let other : (at_name (with_effect n e c) q).reductions ≡ (at_name c q).reductions = ap (λ x. x.reductions) (other_after c n q e t a) in
    omega (arith, other, hit_other (machine lists) q n a))
    (name_case q n)

pub counts_step : (lists : ListsShape) (n : Name) (c d : Configuration) → Right c → StepOf lists n c d → (q : Name) → (at_name d q).reductions ≡ (at_name c q).reductions + hit (machine lists) q n
counts_step lists n c d r h q =
    let x = step_taken (Some lists) c n d h in
    subst (λ z. (at_name z q).reductions ≡ (at_name c q).reductions + hit (machine lists) q n) x.2 (counts_effect c n x.0 (took (Some lists) c n x.0 r.sound x.1) lists q)

pub counts_run : (lists : ListsShape) (ns : List Name) (c d : Configuration) → Right c → RunsTo (Some lists) c ns d → (q : Name) → (at_name d q).reductions ≡ (at_name c q).reductions + count (machine lists) q ns
counts_run lists [] c d r run q = let h : (at_name d q).reductions ≡ (at_name c q).reductions = ap (λ z. (at_name z q).reductions) (sym run) in omega (arith, h)
counts_run lists (n ∷ ns) c d r run q = omega (arith, counts_step lists n c run.0 r run.1 q, counts_run lists ns run.0 d (step_right (Some lists) n c run.0 run.1 r) run.2 q)

-- two runs from the start with equal lists and counts end alike
pub runs_agree : (program : Tree) (ns ms : List Name) (c d : Configuration) → RunsTo None (start program) ns c → RunsTo None (start program) ms d → lists_of c ≡ lists_of d → counts_of c ≡ counts_of d → c ≡ d
runs_agree program ns ms c d run other lists counts =
    let r = start_right program in
    let a = own_run program ns c run in
    let b = subst (λ l. RunsTo (Some l) (start program) ms d) (sym lists) (own_run program ms d other) in
    let same : (q : Name) → (at_name c q).reductions ≡ (at_name d q).reductions = λ q. sym (count_own c q) ∙ ap (λ k. count_in k q) counts ∙ count_own d q in
    one_end (machine (lists_of c)) ns ms (start program) c d r a b (λ q. omega (arith, same q, counts_run (lists_of c) ns (start program) c r a q, counts_run (lists_of c) ms (start program) d r b q))
