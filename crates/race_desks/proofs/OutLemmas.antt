-- What becomes of who is out, and when its lease may come back.
use Rattle.std.proofs.Common.{◌≡◌, ◌≢◌, ◌⊎◌, ◌==◌, ◌∷◌, [], ℕ, Bool, true, false, List, Some, Result, Ok, Err, OnOk, OnErr, inl, inr, refl, sym, ◌∙◌, subst}
use Rattle.std.proofs.lemmas.Bool.{eqb-true, true≢false}
use Rattle.std.proofs.lemmas.Option.{none-some}
use Rattle.asp_model.specs.History.{BeginsWith, EntryShape, HistoryShape, with_entry}
use Rattle.law_journals.specs.Numbered.{IsFirst}
use Rattle.def_journals.specs.Journals.{RunShape, first_in, grant_of, granted, out_but, run_of}
use Rattle.law_journals.specs.Leases.{burst_out, stays_out}
use Rattle.law_journals.proofs.BurstLemmas.{leases_are_one, leases_go_on, leases_last}
use Rattle.law_journals.proofs.LeaseLemmas.{grant_but, leases_stay}
use Rattle.code_table.specs.declared.code.Node.{Node}
use Rattle.law_core.specs.Runs.{is_ready}
use Rattle.core_state.specs.declared.lease.Lease.{Lease}
use Rattle.core_state.specs.Leases.{IsLease}
use Rattle.core_state.proofs.LendLemmas.{readies}
use Rattle.core_state.proofs.ListLemmas.{numbers_apart}
use Rattle.core_state.proofs.PopulateLemmas.{grant_gone}
use Rattle.long_leases.specs.declared.long_lease.LongLease.{LongLease}
use Rattle.long_leases.specs.LongLeases.{HasEnded, IsLongLease}
use Rattle.race_desks.specs.Rows.{IsOut}
use Rattle.race_desks.specs.Turns.{IsFinished}

pub lease_is_out : (h : HistoryShape) (code : List Node) (l : Lease) → IsLease h code l → IsOut h l.number l.burst
lease_is_out h code l x = record { run = x.run; lent = x.lent; name = x.name; named = x.named }

-- it stays out by an entry that does not concern its number
pub out_lasts : (h : HistoryShape) (x : EntryShape) (k burst : ℕ) → stays_out k (x ∷ []) ≡ true → IsOut h k burst → IsOut (with_entry h x) k burst
out_lasts h x k burst stays o = record {
  run = o.run;
  lent = leases_last h x k burst o.run stays o.lent;
  name = o.name;
  named = o.named;
}

-- who is ready is not out
pub ready_is_in : (h : HistoryShape) (s : RunShape) (k burst : ℕ) → IsFirst (first_in h) → run_of h ≡ Some s → is_ready s k ≡ true → IsOut h k burst → ⊥
ready_is_in h s k burst first run ready o =
    let still = leases_stay h k burst o.name o.run s first o.lent o.named run in
    let free = (readies s k ready).1.free in
    none-some (granted o.run) (sym free ∙ still.out)

-- a lease is one of a longer history by which it is out still
lease_by : (h g : HistoryShape) (code : List Node) (l : LongLease) → BeginsWith g h → IsLongLease h code l → IsOut g l.lease.number l.lease.burst → IsLongLease g code l
lease_by h g code l begins x o =
    let now : burst_out l.lease.number g.entries ≡ Some l.lease.burst = (leases_are_one g l.lease.number l.lease.burst l.lease.burst o.run o.run o.lent o.lent).0 in record {
      run = x.run;
      lent = leases_go_on h g l.lease.number l.lease.burst x.run begins x.lent now;
      name = x.name;
      named = x.named;
      activity = x.activity;
      there = x.there;
      grant = x.grant;
      within = x.within;
      done = x.done;
    }

pub finished_goes_on : (h g : HistoryShape) (code : List Node) (l : LongLease) → BeginsWith g h → IsFinished h code l → IsOut g l.lease.number l.lease.burst → IsFinished g code l
unfolding lease_by
finished_goes_on h g code l begins x o = (
  lease_by h g code l begins x.0 o,
  λ fresh.
      let s = x.1 fresh in record { lease = lease_by h g code l begins s.lease o; fresh = s.fresh; advance = s.advance; stop = s.stop; used = s.used },
)

-- a lease that was run is finished
pub finished : {A E : Type 0} (r : Result A E) (h : HistoryShape) (code : List Node) (l : LongLease) → IsLongLease h code l → OnOk r (HasEnded h code l) → OnErr r (l.lease.spent ≡ true) → IsFinished h code l
finished (Ok x) h code l lease ends gives_up = (lease, λ fresh. ends)
finished (Err x) h code l lease ends gives_up = (lease, λ fresh. absurd (true≢false (sym gives_up ∙ fresh)))

-- who is out after a lend was out before, or it is that one
pub lent_or : (j k g grant : ℕ) (xs : List (ℕ × ℕ)) → grant_of j ((k, g) ∷ xs) ≡ Some grant → (j ≡ k) ⊎ (grant_of j xs ≡ Some grant)
lent_or j k g grant xs is = by (j == k) refl is
  where
    by : (b : Bool) → (j == k) ≡ b → elim b [ true ↦ Some g | false ↦ grant_of j xs ] ≡ Some grant → (j ≡ k) ⊎ (grant_of j xs ≡ Some grant)
    by true same e = inl (eqb-true j k same)
    by false same e = inr e

-- who is out after one came back is another, and was out before
pub back_or : (j k grant : ℕ) (xs : List (ℕ × ℕ)) → grant_of j (out_but k xs) ≡ Some grant → (j ≢ k) × (grant_of j xs ≡ Some grant)
back_or j k grant xs is =
    let other : j ≢ k = λ same. none-some grant (sym (grant_gone k xs) ∙ subst (λ (i : ℕ). grant_of i (out_but k xs) ≡ Some grant) same is) in
    (other, sym (grant_but j k xs (numbers_apart j k other)) ∙ is)
