-- The laws of complete families.
use Rattle.std.specs.Prelude.{◌≡◌, ℕ, zero, suc, ◌≤◌, true, List, [], ◌∷◌, ◌++◌, Some, None, length}
use Rattle.std.proofs.Common.{refl, sym, ap, subst, ◌∙◌, arith, inl, inr, length-append}
use Rattle.std.proofs.lemmas.Bool.{and_parts}
use Rattle.std.specs.List.{list_all}
use Rattle.asp_model.specs.Names.{Name}
use Rattle.asp_model.specs.Term.{Tree}
use Rattle.asp_model.specs.Configuration.{ReceptionShape, From, Poll, Configuration, start}
use Rattle.asp_model.specs.Step.{reception_at, same_reception, step}
use Rattle.asp_model.specs.Status.{IsStuck}
use Rattle.asp_model.specs.Replay.{lists_of, counts_of, log_in, total, replay}
use Rattle.law_steps.specs.Reached.{RunsTo}
use Rattle.law_steps.specs.Joins.{is_narrow}
use Rattle.law_chases.proofs.FutureLemmas.{no_some, some_is, none_true}
use Rattle.law_steps.proofs.NameLemmas.{receptions_tied}
use Rattle.law_steps.proofs.ReachedLemmas.{leads_on}
use Rattle.law_steps.proofs.ReplayLemmas.{replays_are_runs, runs_replay}
use Rattle.law_steps.proofs.SpendLemmas.{counts_sum}
use Rattle.law_steps.proofs.JoinLemmas.{NobodySteps}
use Rattle.law_steps.proofs.JoinLaws.{still}
use Rattle.law_families.specs.Families.{RunLogs, Has, IsEndedRun}
use Rattle.law_families.specs.Complete.{RunsLeadToEnds, StuckRunsAreEnds, RunsEnd, OneSenderIsComplete, FittingAreWithin}
use Rattle.law_families.proofs.CutLemmas.{free_run, end_run, to_end}
use Rattle.law_families.proofs.InsideLemmas.{inside_end}

pub runs_lead_to_ends : RunsLeadToEnds
runs_lead_to_ends program ends ns c all run =
    let i = inside_end program ends ns c all run in
    let z = to_end program i.end ns c (end_run program ends all.ended i.end i.has) run i.within in
    (i.end, i.has, (z.labels, free_run i.end.0 z.labels c (replay program i.end.0 i.end.1) z.run))

-- a run that leads on from where nobody steps has no steps
nothing_more : (c : Configuration) (ns : List Name) (d : Configuration) → NobodySteps c → RunsTo None c ns d → c ≡ d
nothing_more c [] d none run = run
nothing_more c (n ∷ ns) d none run = absurd (none n run.0 run.1)

pub stuck_runs_are_ends : StuckRunsAreEnds
stuck_runs_are_ends program ends ns c all run stuck =
    let x = runs_lead_to_ends program ends ns c all run in
    let same : c ≡ replay program x.0.0 x.0.1 = nothing_more c x.2.0 (replay program x.0.0 x.0.1) (still program ns c run stuck) x.2.1 in
    let f = (all.ended x.0 x.1).0 in
    subst (Has ends) (λ i. ((sym f.used_up ∙ ap lists_of (sym same)) i, (sym f.reached ∙ ap counts_of (sym same)) i)) x.1

-- Reductions

-- a run that leads on to an end has no more reductions, and fewer where it is not stuck
goes_on : (program : Tree) (x : RunLogs) (ns ms : List Name) (c : Configuration) → IsEndedRun program x → RunsTo None (start program) ns c → RunsTo None c ms (replay program x.0 x.1) → (total (counts_of c) ≤ total x.1) × ((IsStuck c → ⊥) → suc (total (counts_of c)) ≤ total x.1)
goes_on program x ns ms c ended run more =
    let a = counts_sum program None ns c run in
    let b = counts_sum program None (ns ++ ms) (replay program x.0 x.1) (leads_on (λ m a b. step None a m ≡ Some b) ns ms (start program) c (replay program x.0 x.1) run more) in
    let t : total (counts_of (replay program x.0 x.1)) ≡ total x.1 = ap total ended.0.reached in
    (omega (arith, a, b, t, length-append ns ms), λ free. by_more ms more a b t free)
  where
    by_more : (ms : List Name) → RunsTo None c ms (replay program x.0 x.1) → total (counts_of c) ≡ length ns → total (counts_of (replay program x.0 x.1)) ≡ length (ns ++ ms) → total (counts_of (replay program x.0 x.1)) ≡ total x.1 → (IsStuck c → ⊥) → suc (total (counts_of c)) ≤ total x.1
    by_more [] same a b t free = absurd (free (subst IsStuck (sym same) ended.1))
    by_more (m ∷ ms) more a b t free = omega (arith, a, b, t, length-append ns (m ∷ ms))

pub runs_end : RunsEnd
runs_end program ends ns c all run =
    let x = runs_lead_to_ends program ends ns c all run in
    (x.0, x.1, (goes_on program x.0 ns x.2.0 c (all.ended x.0 x.1) run x.2.1).0)

pub fitting_are_within : FittingAreWithin
fitting_are_within program ends lists counts all fits =
    let r = replays_are_runs program lists counts in
    let c = replay program lists counts in
    let run = free_run lists r.0 (start program) c r.1 in
    let x = runs_lead_to_ends program ends r.0 c all run in
    let y = goes_on program x.0 r.0 x.2.0 c (all.ended x.0 x.1) run x.2.1 in
    let t : total (counts_of c) ≡ total counts = ap total fits.reached in (
      (x.0, x.1, omega (arith, t, y.0), λ free. let z = y.1 free in omega (arith, t, z)),
      λ stuck. subst (Has ends) (λ i. (fits.used_up i, fits.reached i)) (stuck_runs_are_ends program ends r.0 c all run stuck),
    )

-- One sender is enough

only_one : (y x : RunLogs) → Has (y ∷ []) x → y ≡ x
only_one y x (inl p) = p
only_one y x (inr h) = absurd h

all_same : (x : ReceptionShape) (xs : List ReceptionShape) (i : ℕ) (y : ReceptionShape) → list_all (same_reception x) xs ≡ true → reception_at xs i ≡ Some y → x ≡ y
all_same x [] i y h at = no_some at
all_same x (z ∷ xs) zero y h at = receptions_tied x z (and_parts (same_reception x z) (list_all (same_reception x) xs) h).0 ∙ some_is at
all_same x (z ∷ xs) (suc i) y h at = all_same x xs i y (and_parts (same_reception x z) (list_all (same_reception x) xs) h).1 at

narrow_at : (n : Name) (xs : List ReceptionShape) (i : ℕ) (y : ReceptionShape) → list_all (same_reception (From n)) xs ≡ true → reception_at (From n ∷ xs) i ≡ Some y → From n ≡ y
narrow_at n xs zero y h at = some_is at
narrow_at n xs (suc i) y h at = all_same (From n) xs i y h at

-- the entries of a narrow log are one
narrow_same : (xs : List ReceptionShape) (i j : ℕ) (y z : ReceptionShape) → is_narrow xs ≡ true → reception_at xs i ≡ Some y → reception_at xs j ≡ Some z → y ≡ z
narrow_same [] i j y z h p q = no_some p
narrow_same (Poll ∷ xs) i j y z h p q = none_true h
narrow_same (From n ∷ xs) i j y z h p q = sym (narrow_at n xs i y h p) ∙ narrow_at n xs j z h q

pub one_sender_is_complete : OneSenderIsComplete
one_sender_is_complete program c h =
    let own = runs_replay program h.names c h.run in
    record {
      one = (lists_of c, counts_of c);
      has = inl refl;
      ended = λ x has. subst (IsEndedRun program) (only_one (lists_of c, counts_of c) x has) (own.0, subst IsStuck (sym own.1) h.stuck);
      closed = λ x q k entry d has behind offer.
          let same : log_in (lists_of c) q ≡ log_in x.0 q = ap (λ y. log_in y.0 q) (only_one (lists_of c, counts_of c) x has) in
          absurd (behind.other (narrow_same (log_in (lists_of c) q) behind.place k entry behind.here (h.one q) (ap (λ l. reception_at l behind.place) same ∙ behind.comes) (ap (λ l. reception_at l k) same ∙ behind.at)));
    }
