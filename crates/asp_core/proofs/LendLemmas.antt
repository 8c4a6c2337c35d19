-- Who is lent.
use Rattle.std.proofs.Common.{◌≡◌, ◌∙◌, ◌<◌, ℕ, true, List, Option, Some, None, IfSome, length, sym, ap, subst}
use Rattle.std.proofs.lemmas.List.{length-map}
use Rattle.asp_model.specs.History.{HistoryShape}
use Rattle.asp_model.specs.Names.{Name}
use Rattle.asp_model.specs.Step.{name_at}
use Rattle.def_journals.specs.Journals.{RunShape}
use Rattle.law_core.specs.Runs.{is_ready}
use Rattle.code_table.specs.declared.code.Node.{Node}
use Rattle.core_seats.specs.Seats.{seats_in}
use Rattle.future_update.specs.Holders.{HoldersView}
use Rattle.core_state.specs.declared.state.CoreState.{CoreState}
use Rattle.core_state.specs.Lending.{IsNextReady}
use Rattle.core_state.proofs.LendLemmas.{readies}
use Rattle.core_state.proofs.ListLemmas.{within_name}
use Rattle.asp_core.specs.Runs.{Stand}

module _ (h : HistoryShape) (code : List Node) (s : RunShape) (x : CoreState) (v : HoldersView) (st : Stand h code s x v) where
  -- numbers of the run are those of seats, and of the activities that were met
  pub seated : (k : ℕ) → k < length s.names → k < length (seats_in x.seats)
  seated k within = subst (λ n. k < n) (sym (ap length st.core.populated.names) ∙ st.core.populated.kept.same) within

  pub met_within : (k : ℕ) → k < length s.names → k < length v.activities
  met_within k within = subst (λ n. k < n) (sym (ap length st.edges.names) ∙ length-map v.activities (λ x. x.0)) within

  pub named_seat : (k : ℕ) (n : Name) → name_at s.names k ≡ Some n → k < length (seats_in x.seats)
  named_seat k n named = seated k (within_name s.names k n named)

  pub ready_met : (k : ℕ) → is_ready s k ≡ true → k < length v.activities
  ready_met k ready = let r = readies s k ready in met_within k (within_name s.names k r.0 r.1.named)

  pub ready_seat : (k : ℕ) → is_ready s k ≡ true → k < length (seats_in x.seats)
  ready_seat k ready = let r = readies s k ready in named_seat k r.0 r.1.named

  pub next_seat : (o : Option ℕ) → IsNextReady s o → IfSome o (λ k. k < length (seats_in x.seats))
  next_seat None is = tt
  next_seat (Some k) is = ready_seat k is.0
