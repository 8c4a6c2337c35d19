-- A whole configuration never breaks. Who rests as done in it has ended, and stands at no redex.
use Rattle.std.specs.Prelude.{◌≡◌, ℕ, List, [], ◌∷◌, Option, Some, None}
use Rattle.std.proofs.Common.{refl, sym, ap, ◌∙◌}
use Rattle.asp_model.specs.Names.{Name}
use Rattle.asp_model.specs.Split.{Context, Redex, Split, Stands, Splits, split}
use Rattle.asp_model.specs.Store.{Store, cell}
use Rattle.asp_model.specs.Contraction.{Contraction, Becomes, Faults, Needs, Communicates, Breaks, Creates, Sends, Serves, Polls, contract}
use Rattle.asp_model.specs.Chase.{chase}
use Rattle.asp_model.specs.Configuration.{RequestShape, ServiceShape, Activity, Configuration, requests_of}
use Rattle.asp_model.specs.Intent.{Rests, Done, Awaits, Ready, Reads, Lacks, Numbered, redex_ready, serves, oldest_match, labels_served, newest, ends_service, contracts}
use Rattle.asp_model.specs.Status.{status_of_intent, status_of}
use Rattle.law_steps.specs.Reached.{IsAt}
use Rattle.law_steps.proofs.CommuteLemmas.{intended_is}
use Rattle.law_programs.specs.Programs.{IsWhole, HasEnded, WholeNeverBreak, ReachedNeverBreak}
use Rattle.law_programs.proofs.RowLemmas.{Fits}
use Rattle.law_programs.proofs.WholeLaws.{reached_are_whole, not_broken, fits_read, asks_for_none}

newest_none : (vs : List ServiceShape) → newest vs ≡ None → vs ≡ []
newest_none [] e = refl
newest_none (x ∷ []) e = cc
newest_none (x ∷ y ∷ vs) e = let none : y ∷ vs ≡ [] = newest_none (y ∷ vs) e in cc

-- an activity of a whole configuration, with its requests
module _ (c : Configuration) (h : IsWhole c) (n : Name) (a : Activity) (at : IsAt c n a) (requests : List RequestShape) where
  serving : (contexts : List Context) (o : Option Numbered) → status_of_intent (serves a contexts o) ≡ Done → HasEnded a
  serving contexts None e = cc
  serving contexts (Some x) e = cc

  going_on : (contexts : List Context) (s : Store) (r : Contraction) → Fits s r → status_of_intent (contracts requests n a contexts s r) ≡ Done → HasEnded a
  going_on contexts s (Becomes t store lines) f e = cc
  going_on contexts s (Faults x) f e = cc
  going_on contexts s (Needs place) f e = absurd f
  going_on contexts s (Communicates (Creates object service)) f e = cc
  going_on contexts s (Communicates (Sends to label arguments)) f e = cc
  going_on contexts s (Communicates (Serves labels)) f e = serving contexts (oldest_match (labels_served labels (cell s a.active)) a.served 0 requests) e
  going_on contexts s (Communicates (Polls labels)) f e = cc
  going_on contexts s Breaks f e = absurd f

  reading : (contexts : List Context) (redex : Redex) → split a.term ≡ Splits contexts redex → (r : Ready) → redex_ready (chase c.futures) a.store redex ≡ r → status_of_intent (elim r [ Lacks f ↦ Rests (Awaits f) | Reads s ↦ contracts requests n a contexts s (contract s redex) ]) ≡ Done → HasEnded a
  reading contexts redex is (Lacks f) read e = cc
  reading contexts redex is (Reads s) read e = going_on contexts s (contract s redex) (fits_read c h n a at contexts redex is s read) e

  standing : (place : ℕ) → split a.term ≡ Stands place → (o : Option ServiceShape) → newest a.services ≡ o → status_of_intent (ends_service a place o) ≡ Done → HasEnded a
  standing place is None newest e = record { place = place; stands = is; services = newest_none a.services newest }
  standing place is (Some v) newest e = cc

  splitting : (t : Split) → split a.term ≡ t → status_of_intent (elim t [
    | Stands place ↦ ends_service a place (newest a.services)
    | Splits contexts redex ↦ elim (redex_ready (chase c.futures) a.store redex) [ Lacks f ↦ Rests (Awaits f) | Reads s ↦ contracts requests n a contexts s (contract s redex) ]
  ]) ≡ Done → HasEnded a
  splitting (Stands place) is e = standing place is (newest a.services) refl e
  splitting (Splits contexts redex) is e = reading contexts redex is (redex_ready (chase c.futures) a.store redex) refl e

done_has_ended : (c : Configuration) → IsWhole c → (n : Name) (a : Activity) → IsAt c n a → status_of c n ≡ Done → HasEnded a
done_has_ended c h n a at e = splitting c h n a at (requests_of c n) (split a.term) refl (ap status_of_intent (sym (intended_is c n a at)) ∙ e)

pub whole_never_break : WholeNeverBreak
whole_never_break c h = record {
  broken = λ n a contexts redex s at is. not_broken c h n a at contexts redex is s;
  asks = λ n a contexts redex s place at is read. asks_for_none c h n a at contexts redex is s place read;
  done = done_has_ended c h;
}

pub reached_never_break : ReachedNeverBreak
reached_never_break program c h reached = whole_never_break c (reached_are_whole program c h reached)
