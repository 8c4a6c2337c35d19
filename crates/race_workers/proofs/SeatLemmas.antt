-- What seats bring to their turns, and lists of seats.
use Rattle.std.proofs.Common.{◌≡◌, ◌<◌, ℕ, false, List, [], ◌∷◌, All, is_some, length, Option, Some, None, sym, ◌∙◌, subst, arith, ap, Result, Ok, Err, IfOk}
use Rattle.std.proofs.lemmas.Bool.{true≢false}
use Rattle.std.proofs.lemmas.List.Elements.{All-head}
use Rattle.asp_model.specs.History.{BeginsWith, HistoryShape}
use Rattle.asp_model.proofs.HistoryLemmas.{begins_with_earlier}
use Rattle.code_table.specs.declared.code.Node.{Node}
use Rattle.long_leases.specs.declared.long_lease.LongLease.{LongLease}
use Rattle.long_leases.specs.LongLeases.{IsLongLease}
use Rattle.core_edges.specs.Answers.{Answering, Counting}
use Rattle.asp_core.specs.declared.cores.Core.{Core}
use Rattle.turn_hub.specs.declared.hub.Hub.{Hub}
use Rattle.turn_hub.specs.declared.seat.Seat.{Seat}
use Rattle.turn_hub.specs.Seats.{IsSame, out_with, seen_by, taken_by}
use Rattle.race_desks.specs.declared.desk.SharedDesk.{SharedDesk}
use Rattle.race_desks.specs.Desks.{KeepsDesk, code_at, history_at, row_at}
use Rattle.race_desks.specs.Turns.{HasLease, IsFinished, desk_in, row_of}
use Rattle.race_desks.specs.Worked.{IsWorked}
use Rattle.race_workers.specs.Working.{HasOut, IsAtWork, opened_at}
use Rattle.race_desks.proofs.OutLemmas.{finished_goes_on}

-- some element of a list of which two things are true
pub some_of : {X : Type 0} (P Q : X → Type 0) (xs : List X) → 0 < length xs → All P xs → All Q xs → (x : X) × P x × Q x
some_of P Q [] some_element p q = absurd (omega arith)
some_of P Q (x ∷ xs) some_element p q = (x, All-head P x xs p, All-head Q x xs q)

module _ {P : Type 0} where
  -- what a seat has out it also has at the desk that it took, whatever happened since
  pub brought : (answers : Answering P) (counts : Counting P) (hub : Hub (SharedDesk P)) (seat : Seat (SharedDesk P)) (x : SharedDesk P) (n : ℕ) (held : Option LongLease) → HasOut IsFinished hub seat held → row_at (desk_in x) n ≡ out_with seat
      → BeginsWith (history_at (desk_in x)) (seen_by seat) → KeepsDesk answers counts (opened_at hub) (desk_in x) → HasLease IsFinished (desk_in x) n held
  brought answers counts hub seat x n None out row later keeps = row ∙ out
  brought answers counts hub seat x n (Some l) out row later keeps =
      let is : row_at (desk_in x) n ≡ row_of l = row ∙ out.0 in (
        is,
        finished_goes_on (seen_by seat) (history_at (desk_in x)) (code_at (desk_in x)) l later
            (subst (λ (k : List Node). IsFinished (seen_by seat) k l) (sym keeps.code) out.1) (keeps.orderly.out n (l.lease.number, l.lease.burst, l.rounds) is),
      )

module _ {P : Type 0} (hub : Hub (SharedDesk P)) where
  -- what a seat has at the desk that it gave back it has out
  pub taken_along : (seat : Seat (SharedDesk P)) (x : SharedDesk P) (n : ℕ) (got : Option LongLease) → HasLease IsLongLease (desk_in x) n got → out_with seat ≡ row_at (desk_in x) n
      → seen_by seat ≡ history_at (desk_in x) → code_at (desk_in x) ≡ code_at (opened_at hub) → HasOut IsLongLease hub seat got
  taken_along seat x n None has out seen code = out ∙ has
  taken_along seat x n (Some l) has out seen code = (
    out ∙ has.0,
    subst (λ (k : List Node). IsLongLease (seen_by seat) k l) code (subst (λ (h : HistoryShape). IsLongLease h (code_at (desk_in x)) l) (sym seen) has.1),
  )

  -- a seat that has taken a turn is at work with what it got
  pub turned : (before after : Seat (SharedDesk P)) (held got : Option LongLease) → IsAtWork IsFinished hub before held → IsSame before after → taken_by after ≡ None
      → BeginsWith (seen_by after) (seen_by before) → HasOut IsLongLease hub after got → IsAtWork IsLongLease hub after got
  turned before after held got at same idle later out = (
    (same.0 ∙ at.0.0, same.1 ∙ at.0.1, same.2 ∙ at.0.2),
    same.4 ∙ at.1,
    idle,
    out,
    begins_with_earlier (seen_by after) (seen_by before) (history_at (opened_at hub)) later at.4,
  )

  -- a seat that has nothing out
  pub idle_at : (seat : Seat (SharedDesk P)) (held : Option LongLease) → is_some held ≡ false → IsAtWork IsFinished hub seat held → IsAtWork IsLongLease hub seat held
  idle_at seat None idle at = at
  idle_at seat (Some l) idle at = absurd (true≢false idle)

  -- a seat whose lease was worked on is at work with it
  pub worked_at : (seat : Seat (SharedDesk P)) (held now : Option LongLease) → IsWorked held now → IsAtWork IsLongLease hub seat held → IsAtWork IsFinished hub seat now
  worked_at seat None None done at = at
  worked_at seat None (Some k) done at = absurd done
  worked_at seat (Some l) None done at = absurd done
  worked_at seat (Some l) (Some k) done at =
      (at.0, at.1, at.2, (at.3.0 ∙ sym done.0, done.1 (seen_by seat) (code_at (opened_at hub)) at.3.1), at.4)

-- what holds of a core that is not spent holds of the one that comes back
pub if_fresh : {P E : Type 0} (r : Result (Core P) E) (k : Core P) (Q : Core P → Type 0) → IfOk r (λ c. c ≡ k) → IfOk r (λ c. c.spent ≡ false) → (k.spent ≡ false → Q k) → IfOk r Q
if_fresh (Ok c) k Q same fresh h = subst Q (sym same) (h (ap (λ (x : Core _). x.spent) (sym same) ∙ fresh))
if_fresh (Err e) k Q same fresh h = tt
