-- What the laws want of a configuration.
use Rattle.std.specs.Prelude.{◌≡◌, ℕ, suc, false, Option, Some, None}
use Rattle.std.proofs.Common.{ap, arith, inl}
use Rattle.std.specs.FinMap.{find}
use Rattle.asp_model.specs.Names.{Name, FutureShape, future_cmp}
use Rattle.asp_model.specs.Store.{cell}
use Rattle.asp_model.specs.Parcel.{ParcelShape}
use Rattle.asp_model.specs.Contraction.{is_future}
use Rattle.asp_model.specs.Configuration.{Activity, Configuration}
use Rattle.asp_model.specs.Intent.{Effect, Acts}
use Rattle.asp_model.specs.Step.{ListsShape, intent_in, step}
use Rattle.asp_model.specs.Status.{status_of}
use Rattle.law_steps.specs.Reached.{IsAt, Edges, Needs, Makes}
use Rattle.law_steps.specs.Kept.{IsOrdered, number_of}
use Rattle.law_steps.specs.Closed.{IsClosed}
use Rattle.law_steps.proofs.NameLemmas.{not_some}
use Rattle.law_steps.proofs.WholeLemmas.{sound_intents}
use Rattle.def_paths.specs.Agree.{Agrees}
use Rattle.law_paths.specs.Whole.{IsWhole}

pub record IsFit (c : Configuration) : Type 0 where
  pub ordered : IsOrdered c
  pub closed : IsClosed c
  -- the active object is no future
  pub active : (n : Name) (a : Activity) → IsAt c n a → is_future (cell a.store a.active) ≡ false
  -- the next request's future is not filled, nor is one that a step fills
  pub unsent : (n : Name) (a : Activity) → IsAt c n a → find future_cmp (record { by = n; index = suc a.sends }) c.futures ≡ None
  pub unfilled : (n : Name) (e : Effect) (z : FutureShape × ParcelShape) → intent_in c n ≡ Acts e → e.filled ≡ Some z → find future_cmp z.0 c.futures ≡ None

pub whole_fit : (c : Configuration) → IsWhole c → IsFit c
whole_fit c w = record {
  ordered = w.sound.ordered;
  closed = w.closed;
  active = w.active;
  unsent = λ n a at. not_some _ (λ filled.
      let le = (w.sound.begun (record { by = n; index = suc a.sends }) (inl filled)).1 in
      let sends = ap (number_of (λ x. x.sends)) at in
      omega (arith, le, sends));
  unfilled = λ n e z intends is. ((sound_intents c w.sound).effects n e intends).filled z is;
}

-- The laws, of configurations that are fit

abbrev pub SecondFit : Type 0
SecondFit = (c d c' : Configuration) (lists : Option ListsShape) (n : Name) → IsFit c → IsFit d → Agrees c d
    → step lists c n ≡ Some c' → (d' : Configuration) × (step lists d n ≡ Some d') × Agrees c' d'

abbrev pub FirstFit : Type 0
FirstFit = (c d : Configuration) (f : FutureShape) (to : Name) → IsFit c
    → (Makes (Edges f to) c d → Agrees d c) × ((place : ℕ) → Makes (Needs f to place) c d → Agrees d c)

abbrev pub StatusesFit : Type 0
StatusesFit = (c d : Configuration) → IsFit c → IsFit d → Agrees c d → (n : Name) → status_of c n ≡ status_of d n
