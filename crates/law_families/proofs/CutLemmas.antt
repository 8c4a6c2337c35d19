-- Logs that are cut, and runs within the logs of an end.
use Rattle.std.specs.Prelude.{◌≡◌, ◌≢◌, ℕ, ◌≤◌, List, [], ◌∷◌, ◌++◌, Some, None, length, take}
use Rattle.std.proofs.Common.{refl, sym, ap, subst, ◌∙◌, arith, ⊎_elim}
use Rattle.law_steps.proofs.SystemJoins.{Rest, stopped_end}
use Rattle.asp_model.specs.Names.{Name, name_cmp}
use Rattle.asp_model.specs.Term.{Tree}
use Rattle.asp_model.specs.Configuration.{ReceptionShape, Configuration, or_none, log_of, start}
use Rattle.asp_model.specs.Step.{ListsShape, reception_at}
use Rattle.asp_model.specs.Replay.{log_in, count_in, replay, Fits}
use Rattle.law_steps.specs.Reached.{RunsTo}
use Rattle.law_chases.proofs.MapLemmas as Maps
use Rattle.law_steps.proofs.NameLemmas.{name_total, name_same, name_case}
use Rattle.law_steps.proofs.StepLemmas.{listed_is_free}
use Rattle.law_steps.proofs.SoundLemmas.{at_name}
use Rattle.law_steps.proofs.ReachedLemmas.{start_right}
use Rattle.law_steps.proofs.ListLemmas.{IsPrefix, prefix_same, count_own}
use Rattle.law_steps.proofs.FlowLemmas.{machine, Within, listed_run, right_run, counts_run}
use Rattle.law_steps.proofs.ReplayLemmas.{rule_rests, replays_are_runs}
use Rattle.law_steps.proofs.RestLemmas.{replays_rest}
use Rattle.law_steps.proofs.JoinLemmas.{NobodySteps}
use Rattle.law_steps.proofs.JoinLaws.{still}
use Rattle.law_families.specs.Families.{RunLogs, Has, AreEnds, cut_lists, cut_run}

pub free_run : (lists : ListsShape) (ns : List Name) (c d : Configuration) → RunsTo (Some lists) c ns d → RunsTo None c ns d
free_run lists [] c d run = run
free_run lists (n ∷ ns) c d run = (run.0, listed_is_free (Some lists) c n run.0 run.1, free_run lists ns run.0 d run.2)

-- Logs

take_front : (xs zs : List ReceptionShape) → take (length xs) (xs ++ zs) ≡ xs
take_front [] [] = refl
take_front [] (z ∷ zs) = refl
take_front (x ∷ xs) zs = ap (λ l. x ∷ l) (take_front xs zs)

pub taken : (xs ys : List ReceptionShape) → IsPrefix xs ys → take (length xs) ys ≡ xs
taken xs ys p = ap (take (length xs)) (sym p.1) ∙ take_front xs p.0

pub past : (xs : List ReceptionShape) → reception_at xs (length xs) ≡ None
past [] = refl
past (x ∷ xs) = past xs

cut_at : (lists : ListsShape) (q : Name) (k : ℕ) → log_in (cut_lists lists q k) q ≡ take k (log_in lists q)
cut_at lists q k = ap or_none (Maps.find_same name_cmp name_total name_same q (take k (log_in lists q)) lists)

cut_apart : (lists : ListsShape) (q : Name) (k : ℕ) (m : Name) → m ≢ q → log_in (cut_lists lists q k) m ≡ log_in lists m
cut_apart lists q k m apart = ap or_none (Maps.find_other name_cmp name_total name_same m q (take k (log_in lists q)) lists apart)

-- where the lists begin with the logs of a configuration, so they do when one is cut behind its log
pub cut_here : (lists : ListsShape) (c : Configuration) (q : Name) → Within c lists → log_in (cut_lists lists q (length (log_of c q))) q ≡ log_of c q
cut_here lists c q w = cut_at lists q (length (log_of c q)) ∙ taken (log_of c q) (log_in lists q) (w q)

pub cut_within : (lists : ListsShape) (c : Configuration) (q : Name) → Within c lists → Within c (cut_lists lists q (length (log_of c q)))
cut_within lists c q w m = ⊎_elim
    (λ same. subst (λ k. IsPrefix (log_of c k) (log_in (cut_lists lists q (length (log_of c q))) k)) (sym same) (prefix_same _ _ (sym (cut_here lists c q w))))
    (λ apart. subst (IsPrefix (log_of c m)) (sym (cut_apart lists q (length (log_of c q)) m apart)) (w m))
    (name_case m q)

-- Runs within an end

-- the run of an end
pub record EndRun (program : Tree) (x : RunLogs) : Type 0 where
  pub names : List Name
  pub run : RunsTo (Some x.0) (start program) names (replay program x.0 x.1)
  pub still : NobodySteps (replay program x.0 x.1)
  pub fits : Fits program x.0 x.1

pub end_run : (program : Tree) (ends : List RunLogs) → AreEnds program ends → (x : RunLogs) → Has ends x → EndRun program x
end_run program ends are x has =
    let r = replays_are_runs program x.0 x.1 in
    let f = are x has in
    record { names = r.0; run = r.1; still = still program r.0 (replay program x.0 x.1) (free_run x.0 r.0 (start program) (replay program x.0 x.1) r.1) f.1; fits = f.0 }

-- what is within the logs of an end leads on to it
pub to_end : (program : Tree) (x : RunLogs) (ns : List Name) (c : Configuration) → (e : EndRun program x) → RunsTo None (start program) ns c → Within c x.0 → Rest (machine x.0) (e.names) (replay program x.0 x.1) ns c
to_end program x ns c e run w = stopped_end (machine x.0) e.names ns (start program) (replay program x.0 x.1) c (start_right program) e.run (listed_run x.0 ns (start program) c (start_right program) run w).0 (λ q f st. absurd (e.still q f (listed_is_free (Some x.0) (replay program x.0 x.1) q f st)))

-- so it has no more reductions than the end
counts_below : (program : Tree) (x : RunLogs) (ns : List Name) (c : Configuration) → EndRun program x → RunsTo None (start program) ns c → Within c x.0 → (q : Name) → (at_name c q).reductions ≤ count_in x.1 q
counts_below program x ns c e run w q =
    let r = start_right program in
    let a = (listed_run x.0 ns (start program) c r run w).0 in
    let y = to_end program x ns c e run w in
    let own : count_in x.1 q ≡ (at_name (replay program x.0 x.1) q).reductions = ap (λ k. count_in k q) (sym e.fits.reached) ∙ count_own (replay program x.0 x.1) q in
    omega (arith, own, y.counts q, counts_run x.0 e.names (start program) (replay program x.0 x.1) r e.run q, counts_run x.0 ns (start program) c r a q)

-- and leads on to the run of the end that is cut behind the log of an activity
pub to_cut : (program : Tree) (x : RunLogs) (ns : List Name) (c : Configuration) → EndRun program x → RunsTo None (start program) ns c → Within c x.0 → (q : Name)
    → (ls : List Name) × RunsTo (Some (cut_lists x.0 q (length (log_of c q)))) c ls (cut_run program x q (length (log_of c q)))
to_cut program x ns c e run w q =
    let cut = cut_lists x.0 q (length (log_of c q)) in
    let r = start_right program in
    let y = replays_are_runs program cut x.1 in
    let a = (listed_run cut ns (start program) c r run (cut_within x.0 c q w)).0 in
    let right = right_run (Some cut) y.0 (start program) (replay program cut x.1) r y.1 in
    let z = stopped_end (machine cut) y.0 ns (start program) (replay program cut x.1) c r y.1 a (λ p f st. omega (
      arith,
      rule_rests cut (count_in x.1) (replay program cut x.1) right (replays_rest program cut x.1) p f st,
      counts_run cut y.0 (start program) (replay program cut x.1) r y.1 p,
      counts_run cut ns (start program) c r a p,
      counts_below program x ns c e run w p,
    )) in
    (z.labels, z.run)
