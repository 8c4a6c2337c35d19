-- A lease of a core that has edges.
use Rattle.std.proofs.Common.{◌≡◌, ◌∙◌, ◌<◌, ◌≤◌, ◌^◌, ℕ, suc, List, Option, Some, None, length, sym, ap, slice_get, arith}
use Rattle.std.proofs.lemmas.List.{length-append}
use Rattle.asp_model.specs.Configuration.{Activity}
use Rattle.asp_model.specs.History.{HistoryShape}
use Rattle.asp_model.specs.Intent.{Effect}
use Rattle.asp_model.specs.Names.{Name}
use Rattle.asp_model.specs.Step.{name_at}
use Rattle.def_journals.specs.Journals.{RunShape}
use Rattle.law_chases.proofs.FutureLemmas.{some_is}
use Rattle.law_journals.proofs.LeaseLemmas.{leases_stay}
use Rattle.code_table.specs.declared.code.Node.{Node}
use Rattle.core_seats.specs.Seats.{names_in}
use Rattle.step_activity.specs.declared.actor.Actor.{Actor}
use Rattle.future_update.specs.Holders.{HoldersView}
use Rattle.law_core.specs.Commits.{made_by}
use Rattle.core_state.specs.declared.lease.Lease.{Lease}
use Rattle.core_state.specs.declared.state.CoreState.{CoreState}
use Rattle.core_state.specs.Leases.{IsLease}
use Rattle.core_state.proofs.ListLemmas.{name_got, within_name}
use Rattle.core_state.specs.Returning.{IsSomeReturning}
use Rattle.core_state.specs.Arrivals.{IsArrived, act_at}
use Rattle.core_state.specs.Commits.{IsActing}
use Rattle.core_state.proofs.CommitLemmas.{come_acting, one_left}
use Rattle.core_edges.specs.declared.edges.Edges.{Edges}
use Rattle.asp_core.specs.Bringing.{IsCome, IsComeBy}
use Rattle.asp_core.specs.Runs.{Stand, as_met}
use Rattle.asp_core.proofs.LendLemmas.{met_within}

module _ (h : HistoryShape) (code : List Node) (s : RunShape) (x : CoreState) (v : HoldersView) (st : Stand h code s x v) (l : Lease) (is : IsLease h code l) where
  lease_named : name_at s.names l.number ≡ Some is.name
  lease_named = (leases_stay h l.number l.burst is.name is.run s st.core.first is.lent is.named st.core.run).named

  -- one that does a communication yet intends it
  abbrev pub lease_acting : (z : CoreState) (a : Actor) (reductions : ℕ) → (suc l.taken < 2 ^ 64 → reductions ≡ suc l.taken) → (r : IsArrived h code z s l.number is.name l.grant l.taken (Some a))
      → IsActing h code z s l.number is.name l.grant reductions a r.0
  lease_acting z a reductions entered r =
      let back : IsSomeReturning z l.number l.grant l.taken a = (h, code, s, is.name, r.1) in
      let few : l.grant ≤ 64 = omega (arith, is.grant) in
      let within : suc l.taken < 2 ^ 64 = omega (arith, few, one_left z l.number l.grant l.taken a back r.0 r.2) in
      come_acting z l.number l.grant l.taken a back r.0 r.2 reductions (entered within)

-- the name of one that acts
pub acting_name : (h : HistoryShape) (code : List Node) (s : RunShape) (z : CoreState) (k : ℕ) (n : Name) (grant reductions : ℕ) (a : Actor) (e : Effect) → IsActing h code z s k n grant reductions a e
    → (m : Name) → slice_get (names_in z.seats) k ≡ Some m → m ≡ n
acting_name h code s z k n grant reductions a e r m got =
    some_is (sym got ∙ ap (λ ns. slice_get ns k) r.returning.populated.names ∙ sym (name_got s.names k) ∙ r.returning.has_run.named)

module _ {P : Type 0} (h : HistoryShape) (code : List Node) (s : RunShape) (y : CoreState) (v w : Edges P) where
  still : (k : ℕ) (n : Name) (grant taken : ℕ) (end : Activity) (o : Option Effect) → IsComeBy h code s k n grant taken end o y v w → length v.holders.activities ≤ length w.holders.activities
  still k n grant taken end None r = omega (arith, ap (λ (q : Edges P). length q.holders.activities) r.1)
  still k n grant taken end (Some e) r = omega (arith, ap length r.1.told.activities ∙ length-append v.holders.activities (as_met (made_by e.made)))

  -- the lease's activity was met
  pub lease_met : (x : CoreState) (st : Stand h code s x v.holders) (l : Lease) (is : IsLease h code l) → IsCome h code s l.number is.name l.grant l.taken y v w → l.number < length w.holders.activities
  lease_met x st l is r =
      omega (
        arith,
        still l.number is.name l.grant l.taken r.end (act_at s is.name l.grant l.taken r.end) r.come,
        met_within h code s x v.holders st l.number (within_name s.names l.number is.name (lease_named h code s x v.holders st l is)),
      )
