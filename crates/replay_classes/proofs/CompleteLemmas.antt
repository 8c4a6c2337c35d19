-- What a complete search by classes says of each run of the program.
use Rattle.std.specs.Prelude.{◌≡◌, ◌≤◌, ℕ, suc, List, [], ◌∷◌, length, map}
use Rattle.std.proofs.Common.{◌⊎◌, refl, sym, ap, subst, inl, inr}
use Rattle.asp_model.specs.Names.{Text}
use Rattle.asp_model.specs.Term.{Tree}
use Rattle.asp_model.specs.Configuration.{Configuration}
use Rattle.asp_model.specs.Replay.{CountsShape, Fits, counts_of, replay, total}
use Rattle.asp_model.specs.Status.{IsStuck}
use Rattle.asp_model.specs.Step.{ListsShape}
use Rattle.def_paths.specs.Outcomes.{whole_outcome_of}
use Rattle.law_families.specs.Families.{Has, RunLogs}
use Rattle.law_families.specs.Complete.{IsWithinLongest}
use Rattle.law_services.specs.Correct.{unlogged}
use Rattle.law_classes.specs.Families.{ClassEnd}
use Rattle.law_classes.specs.Families as class
use Rattle.law_classes.specs.Complete as alike
use Rattle.law_classes.proofs.ClassLaws.{fitting_are_within}
use Rattle.outcome_search.specs.Ends.{IsReplayableEnd, run_logs}
use Rattle.outcome_search.specs.Found.{AreFound}
use Rattle.end_search.specs.Found as search
use Rattle.end_search.specs.Found.{AreAll, AreClosed}
use Rattle.class_search.specs.declared.ends.FoundEnd.{FoundEnd}
use Rattle.class_search.specs.Found.{Begins, HasAllOffers, IsFoundEnd, end_in}
use Rattle.class_search.proofs.FoundLemmas.{closed_is_complete}
use Rattle.replay_classes.specs.Complete.{FittingAreAlike, IsCompleteByClasses}

-- Runs of ends

has_run : (K : Text → ℕ) (program : Tree) (es : List FoundEnd) (x : RunLogs) → AreAll (IsFoundEnd K program) es → Has (map (λ e. run_logs e.run) es) x → IsReplayableEnd program x
has_run K program [] x all h = absurd h
has_run K program (e ∷ es) x all (inl p) = subst (IsReplayableEnd program) p all.0.0
has_run K program (e ∷ es) x all (inr h) = has_run K program es x all.1 h

runs_long : (es : List FoundEnd) → length (map (λ (e : FoundEnd). run_logs e.run) es) ≡ length es
runs_long [] = refl
runs_long (e ∷ es) = ap suc (runs_long es)

pub found_runs : (K : Text → ℕ) (program : Tree) (most : ℕ) (es : List FoundEnd) → search.AreFound (IsFoundEnd K program) most es → AreFound program most (map (λ e. run_logs e.run) es)
found_runs K program most es h = record {
  ends = λ x has. has_run K program es x h.ends has;
  room = subst (λ k. k ≤ most) (sym (runs_long es)) h.room;
}

same_last : (program : Tree) (es : List FoundEnd) → map (λ (x : ClassEnd). x.0) (map (end_in program) es) ≡ map (λ (x : RunLogs). replay program x.0 x.1) (map (λ (e : FoundEnd). run_logs e.run) es)
same_last program [] = refl
same_last program (e ∷ es) = ap (λ cs. replay program (run_logs e.run).0 (run_logs e.run).1 ∷ cs) (same_last program es)

pub complete_runs : (K : Text → ℕ) (program : Tree) (es : List FoundEnd) → 1 ≤ length es → AreAll (IsFoundEnd K program) es → AreClosed Begins (HasAllOffers K program) es es → IsCompleteByClasses program (map (λ e. run_logs e.run) es)
complete_runs K program es some found closed = record {
  ended = λ x has. (has_run K program es x found has).0;
  classes = K;
  ends = map (end_in program) es;
  complete = closed_is_complete K program es some found closed;
  last = same_last program es;
}

-- The law

-- one of these is so
abbrev HasSome : (Configuration → Type 0) → List Configuration → Type 0
HasSome P [] = ⊥
HasSome P (c ∷ cs) = P c ⊎ HasSome P cs

has_last : (xs : List ClassEnd) (x : ClassEnd) → class.Has xs x → (P : Configuration → Type 0) → P x.0 → HasSome P (map (λ y. y.0) xs)
has_last [] x h P p = absurd h
has_last (y ∷ ys) x (inl e) P p = inl (subst (λ (z : ClassEnd). P z.0) (sym e) p)
has_last (y ∷ ys) x (inr h) P p = inr (has_last ys x h P p)

some_run : (program : Tree) (runs : List RunLogs) (P : Configuration → Type 0) → HasSome P (map (λ x. replay program x.0 x.1) runs) → (x : RunLogs) × Has runs x × P (replay program x.0 x.1)
some_run program [] P h = absurd h
some_run program (x ∷ xs) P (inl p) = (x, inl refl, p)
some_run program (x ∷ xs) P (inr h) = let y = some_run program xs P h in (y.0, inr y.1, y.2)

module _ (program : Tree) (runs : List RunLogs) (h : IsCompleteByClasses program runs) where
  -- what is so of the last configuration of an end is so of that of a run
  of_run : (P : Configuration → Type 0) (x : ClassEnd) → class.Has h.ends x → P x.0 → (y : RunLogs) × Has runs y × P (replay program y.0 y.1)
  of_run P x has p = some_run program runs P (subst (HasSome P) h.last (has_last h.ends x has P p))

  abbrev IsLong : Configuration → Configuration → Type 0
  IsLong c d = (total (counts_of c) ≤ total (counts_of d)) × ((IsStuck c → ⊥) → suc (total (counts_of c)) ≤ total (counts_of d))

  longest : (lists : ListsShape) (counts : CountsShape) → Fits program lists counts → alike.IsWithinLongest h.ends (replay program lists counts) → IsWithinLongest runs program lists counts
  longest lists counts fits w =
      let x = of_run (IsLong (replay program lists counts)) w.0 w.1 (w.2, w.3) in
      let one : total (counts_of (replay program lists counts)) ≡ total counts = ap total fits.reached in
      let other : total (counts_of (replay program x.0.0 x.0.1)) ≡ total x.0.1 = ap total (h.ended x.0 x.1).0.reached in (
        x.0,
        x.1,
        subst (λ k. k ≤ total x.0.1) one (subst (λ k. total (counts_of (replay program lists counts)) ≤ k) other x.2.0),
        (λ going. subst (λ k. suc k ≤ total x.0.1) one (subst (λ k. suc (total (counts_of (replay program lists counts))) ≤ k) other (x.2.1 going))),
      )

pub fitting_are_alike : FittingAreAlike
fitting_are_alike program runs lists counts h fits =
    let w = fitting_are_within h.classes program h.ends lists counts h.complete fits in (
      longest program runs h lists counts fits w.0,
      λ stuck.
          let a = w.1 stuck in
          of_run program runs h (λ d. unlogged (whole_outcome_of (replay program lists counts)) ≡ unlogged (whole_outcome_of d)) a.0 a.1 a.3,
    )
