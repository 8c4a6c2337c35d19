-- A core with no lease that is out, and what steps make of it.
use Rattle.std.proofs.Common.{◌≡◌, [], ℕ, List, None, sym, subst}
use Rattle.std.specs.BTreeMap.{is_at}
use Rattle.std.specs.Map.{lookup}
use Rattle.std.specs.Ordering.{nat_cmp}
use Rattle.asp_model.specs.Term.{Tree}
use Rattle.asp_model.specs.History.{program_history}
use Rattle.def_journals.specs.Journals.{begun}
use Rattle.law_chases.proofs.FutureLemmas.{none_true}
use Rattle.asp_core.specs.Cores.{IsRun, code_of, history_of}
use Rattle.core_drives.specs.declared.drivers.Driver.{Driver}
use Rattle.core_drives.specs.Driven.{IsDriven}
use Rattle.core_drives.specs.Driving.{HaveRun, IsDriving, IsHeldAt}
use Rattle.core_drives.specs.Steps.{Lead, StepShape, nobody}
use Rattle.core_drives.proofs.EndLemmas.{driven_so, lead_program}

module _ {P : Type 0} (program : Tree) (budget : ℕ) where
  pub driving_begun : (x : Driver P) → IsRun x.core (begun program budget) → x.leases.entries ≡ [] → IsDriving x
  driving_begun x is none = record {
    run = begun program budget;
    is = is;
    held = λ j. subst (λ es. IsHeldAt (history_of x.core) (code_of x.core) j None (lookup (is_at (nat_cmp j)) es)) (sym none) tt;
  }

  pub driven_by : (steps : List StepShape) (x y : Driver P) → history_of x.core ≡ program_history program budget [] → Lead steps nobody (history_of x.core) (history_of y.core) → IsDriving y → IsDriven program budget steps y.core
  driven_by steps x y begins leads d =
      let from = subst (λ h. Lead steps nobody h (history_of y.core)) begins leads in
      driven_so program budget steps y.core d.run from d.is (lead_program steps nobody (program_history program budget []) (history_of y.core) from)

  pub nobody_ran : (x : Driver P) → HaveRun nobody x
  nobody_ran x k l so got = none_true so
