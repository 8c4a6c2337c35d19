-- The values of strict operands leave an activity closed.
use Rattle.std.proofs.Common.{◌≡◌, ◌<◌, ℕ, Bool, true, false, List, length, refl, sym, subst, ◌∙◌, arith}
use Rattle.asp_model.specs.Names.{FutureShape}
use Rattle.asp_model.specs.Term.{locations, own_locations, locations_below}
use Rattle.asp_model.specs.Store.{Store}
use Rattle.asp_model.specs.Split as terms
use Rattle.asp_model.specs.Split.{Context, Redex, Split, Splits, split}
use Rattle.asp_model.specs.Chase.{Values, chase}
use Rattle.asp_model.specs.Configuration as model
use Rattle.asp_model.specs.Configuration.{RequestShape}
use Rattle.asp_model.specs.Intent.{Ready, Reads, Lacks, redex_ready}
use Rattle.law_chases.proofs.ChaseLemmas.{chase_finds}
use Rattle.law_steps.specs.Closed.{AreBelow, IsClosedActivity, SplitBelow}
use Rattle.law_steps.proofs.ClosedLemmas.{IsReadFrom, ReadsClosed, redex_closed, services_more}
use Rattle.law_steps.proofs.EachLemmas.{below_more}
use Rattle.law_steps.proofs.PlacesLemmas.{front, back, split_is_below}
use Rattle.activity_step.specs.declared.activity.Activity.{Activity}
use Rattle.activity_step.specs.Activities.{StandsFor}
use Rattle.step_reads.specs.Strict.{IsFetched}
use Rattle.step_reads.specs.Values.{AreClosedValues}

reads_closed : (values : Values) → AreClosedValues values → ReadsClosed (chase values)
reads_closed values h f y p e = (h y p (chase_finds values f y p e).0).closed

-- what a closed activity's redex holds is below its store's end
pub redex_below : (a : model.Activity) (cs : List Context) (r : Redex) → IsClosedActivity a → split a.term ≡ Splits cs r → AreBelow (length a.store) r.places
redex_below a cs r h e =
    let n : ℕ = length a.store in
    let below : SplitBelow n (Splits cs r) = subst (SplitBelow n) e (split_is_below n a.term h.term) in
    front n r.places (locations_below r.behind) (back n (own_locations r.head) _ below.1)

pub place_below : (a : model.Activity) (p : ℕ) → IsClosedActivity a → split a.term ≡ terms.Stands p → p < length a.store
place_below a p h e = subst (SplitBelow (length a.store)) e (split_is_below (length a.store) a.term h.term)

-- the activity over the store where its operands are read
pub closed_over : (values : Values) (a : model.Activity) (cs : List Context) (r : Redex) (t : Store) → AreClosedValues values → IsClosedActivity a → split a.term ≡ Splits cs r → redex_ready (chase values) a.store r ≡ Reads t → IsClosedActivity (record a { store = t })
closed_over values a cs r t h closed e reads =
    let from : IsReadFrom (length a.store) (Reads t) = subst (IsReadFrom (length a.store)) reads (redex_closed (chase values) (reads_closed values h) a.store r (redex_below a cs r closed e) closed.store) in
    record {
      term = below_more (length a.store) (length t) from.1 (locations a.term) closed.term;
      services = services_more (length a.store) (length t) from.1 a.services closed.services;
      store = from.0;
      active = omega (arith, closed.active, from.1);
    }

-- What was fetched

pub record Fetched (a : model.Activity) (x : Ready) (y : Activity) : Type 0 where
  pub store : Store
  pub reads : x ≡ Reads store
  pub stands : StandsFor y (record a { store = store })

pub fetched_reads : (a : model.Activity) (x : Ready) (y : Activity) (b : Bool) → b ≡ true → IsFetched a x y b → Fetched a x y
fetched_reads a (Reads s) y b e h = record { store = s; reads = refl; stands = h.1 }
fetched_reads a (Lacks f) y b e h = let no : false ≡ true = sym h ∙ e in absurd cc

pub fetched_lacks : (a : model.Activity) (x : Ready) (y : Activity) (b : Bool) → b ≡ false → IsFetched a x y b → (f : FutureShape) × (x ≡ Lacks f)
fetched_lacks a (Reads s) y b e h = let no : true ≡ false = sym h.0 ∙ e in absurd cc
fetched_lacks a (Lacks f) y b e h = (f, refl)
