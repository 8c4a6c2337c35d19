-- Each point of each run is within one of the ends of a complete family.
use Rattle.std.specs.Prelude.{◌≡◌, ◌≢◌, ◌&&◌, true, List, [], ◌∷◌, ◌++◌, Option, Some, None, length, is_some}
use Rattle.std.proofs.Common.{refl, sym, ap, subst, ◌∙◌, ⊎_elim}
use Rattle.std.proofs.lemmas.Bool.{and_parts}
use Rattle.std.specs.FinMap.{find}
use Rattle.asp_model.specs.Names.{Name, name_cmp}
use Rattle.asp_model.specs.Term.{Tree}
use Rattle.asp_model.specs.Configuration.{ReceptionShape, Configuration, log_of, start}
use Rattle.asp_model.specs.Intent.{Effect}
use Rattle.asp_model.specs.Step.{with_effect, reception_at, is_reception, is_next, may_log, step}
use Rattle.asp_model.specs.Replay.{lists_of, log_in}
use Rattle.law_steps.specs.Reached.{RunsTo}
use Rattle.law_steps.proofs.NameLemmas.{name_case, reception_itself}
use Rattle.law_steps.proofs.StepLemmas.{Takes, step_taken, takes_step}
use Rattle.law_steps.proofs.ReachedLemmas.{Right, start_right, step_right, leads_on}
use Rattle.law_steps.proofs.ListLemmas.{IsPrefix, prefix_both, prefix_same, grown_by, logged_by, logged_list, senders_own}
use Rattle.law_steps.proofs.FlowLemmas.{Within, right_run}
use Rattle.law_steps.proofs.MergeLemmas.{prefix_of_test}
use Rattle.law_steps.proofs.JoinLemmas.{within_run, within_start, grown_run}
use Rattle.law_families.specs.Families.{RunLogs, Has, IsWithin, cut_lists, cut_run, ComesBehind, IsComplete}
use Rattle.law_families.proofs.CutLemmas.{cut_here, cut_within, end_run, to_cut}
use Rattle.law_families.proofs.TurnLemmas.{held_on, turn_of}
use Rattle.law_families.proofs.OfferLemmas.{log_with}

-- more was logged on one side, and where this is logged the same
logged_both : (z : Name × ReceptionShape) (c d : Configuration) → log_of c z.0 ≡ log_of d z.0 → ((m : Name) → IsPrefix (log_of c m) (log_of d m)) → (m : Name) → IsPrefix (log_with (Some z) c m) (log_with (Some z) d m)
logged_both z c d same grown m = ⊎_elim
    (λ p. subst (λ k. IsPrefix (log_with (Some z) c k) (log_with (Some z) d k)) (sym p) (prefix_same _ _ (logged_list z c ∙ ap (λ l. l ++ z.1 ∷ []) same ∙ sym (logged_list z d))))
    (λ apart. prefix_both _ _ _ (subst (λ l. IsPrefix l (log_of d m)) (sym (elsewhere apart)) (grown m)) (grown_by (Some z) d m))
    (name_case m z.0)
  where
    elsewhere : m ≢ z.0 → log_with (Some z) c m ≡ log_of c m
    elsewhere apart = ⊎_elim (λ x. absurd (apart (sym x.0))) (λ x. x) (logged_by z c m)

-- the logs of one of the ends begin with those of a configuration
pub record Inside (ends : List RunLogs) (c : Configuration) : Type 0 where
  pub end : RunLogs
  pub has : Has ends end
  pub within : Within c end.0

inside_of : (ends : List RunLogs) (c : Configuration) → Right c → IsWithin ends (lists_of c) → Inside ends c
inside_of ends c r x = record { end = x.0; has = x.1; within = λ m. subst (λ l. IsPrefix l (log_in x.0.0 m)) (senders_own c r.tidy m) (prefix_of_test (log_in (lists_of c) m) (log_in x.0.0 m) (x.2 m)) }

module _ (program : Tree) (ends : List RunLogs) (all : IsComplete program ends) (ns : List Name) (c : Configuration) (run : RunsTo None (start program) ns c) (inside : Inside ends c) (n : Name) (e : Effect) (can : Takes None c n e) where
  -- it is next there
  in_turn : (z : Name × ReceptionShape) → e.logged ≡ Some z → reception_at (log_in inside.end.0 z.0) (length (log_of c z.0)) ≡ Some z.1 → Inside ends (with_effect n e c)
  in_turn z is at =
      let lists = inside.end.0 in
      let there = (and_parts (is_some (find name_cmp z.0 c.activities)) true (subst (λ o. may_log None c o ≡ true) is can.may)).0 in
      let next : is_next (Some lists) c z.0 z.1 ≡ true = ap (is_reception z.1) at ∙ reception_itself z.1 in
      let may : may_log (Some lists) c (Some z) ≡ true = ap (λ b. b && is_next (Some lists) c z.0 z.1) there ∙ next in
      let st = takes_step (Some lists) c n e (record { intends = can.intends; may = subst (λ o. may_log (Some lists) c o ≡ true) (sym is) may }) in
      let r = right_run None ns (start program) c (start_right program) run in
      record { end = inside.end; has = inside.has; within = within_run lists (n ∷ []) c (with_effect n e c) r (with_effect n e c, st, refl) inside.within }

  -- or it comes behind another, and so is offered
  instead : (z : Name × ReceptionShape) → e.logged ≡ Some z → ComesBehind (log_in inside.end.0 z.0) (length (log_of c z.0)) z.1 → Inside ends (with_effect n e c)
  instead z is behind =
      let r = right_run None ns (start program) c (start_right program) run in
      let k = length (log_of c z.0) in
      let cut = cut_lists inside.end.0 z.0 k in
      let f = cut_run program inside.end z.0 k in
      let t = to_cut program inside.end ns c (end_run program ends all.ended inside.end inside.has) run inside.within z.0 in
      let full = sym (cut_here inside.end.0 c z.0 inside.within) in
      let h = held_on cut t.0 c f n z r (cut_within inside.end.0 c z.0 inside.within) (record { effect = e; takes = can; logs = is; full = full }) t.1 in
      let rf = right_run (Some cut) t.0 c f r t.1 in
      let g = with_effect n h.effect f in
      let st = takes_step None f n h.effect h.takes in
      let logs : log_of g z.0 ≡ log_of f z.0 ++ z.1 ∷ [] = ap (λ o. log_with o f z.0) h.logs ∙ logged_list z f in
      let y = inside_of ends g (step_right None n f g st rf) (all.closed inside.end z.0 k z.1 g inside.has behind (record { who = n; steps = st; logs = logs })) in
      let more = logged_both z c f (full ∙ sym h.full) (grown_run (Some cut) t.0 c f t.1) in
      record {
        end = y.end;
        has = y.has;
        within = λ m. prefix_both _ _ _ (subst (λ o. IsPrefix (log_with o c m) (log_with h.effect.logged f m)) (sym is) (subst (λ o. IsPrefix (log_with (Some z) c m) (log_with o f m)) (sym h.logs) (more m))) (y.within m);
      }

  inside_by : (o : Option (Name × ReceptionShape)) → e.logged ≡ o → Inside ends (with_effect n e c)
  inside_by None is = record { end = inside.end; has = inside.has; within = λ m. subst (λ o. IsPrefix (log_with o c m) (log_in inside.end.0 m)) (sym is) (inside.within m) }
  inside_by (Some z) is = ⊎_elim (in_turn z is) (instead z is) (turn_of program inside.end ns c n e z (end_run program ends all.ended inside.end inside.has) run inside.within can is)

one_more : (program : Tree) (ends : List RunLogs) → IsComplete program ends → (ns : List Name) (c d : Configuration) (n : Name) → RunsTo None (start program) ns c → Inside ends c → step None c n ≡ Some d → Inside ends d
one_more program ends all ns c d n run inside st =
    let x = step_taken None c n d st in
    subst (Inside ends) x.2 (inside_by program ends all ns c run inside n x.0 x.1 x.0.logged refl)

inside_run : (program : Tree) (ends : List RunLogs) → IsComplete program ends → (ms ns : List Name) (c d : Configuration) → RunsTo None (start program) ns c → Inside ends c → RunsTo None c ms d → Inside ends d
inside_run program ends all [] ns c d run inside rest = subst (Inside ends) rest inside
inside_run program ends all (n ∷ ms) ns c d run inside rest =
    inside_run program ends all ms (ns ++ n ∷ []) rest.0 d (leads_on (λ m a b. step None a m ≡ Some b) ns (n ∷ []) (start program) c rest.0 run (rest.0, rest.1, refl)) (one_more program ends all ns c rest.0 n run inside rest.1) rest.2

-- each point of each run
pub inside_end : (program : Tree) (ends : List RunLogs) (ns : List Name) (c : Configuration) → IsComplete program ends → RunsTo None (start program) ns c → Inside ends c
inside_end program ends ns c all run = inside_run program ends all ns [] (start program) c refl (record { end = all.one; has = all.has; within = within_start program all.one.0 }) run
