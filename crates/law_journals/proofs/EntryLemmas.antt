-- Lends and deliveries are entries.
use Rattle.std.proofs.Common.{◌≡◌, ◌<◌, ◌&&◌, ℕ, Bool, true, false, Option, Some, None, is_none, is_some, nat_lt, ap, ◌∙◌, arith}
use Rattle.std.proofs.lemmas.Bool.{le-leb}
use Rattle.std.specs.FinMap.{find}
use Rattle.asp_model.specs.Names.{Name, name_cmp, future_cmp}
use Rattle.asp_model.specs.Parcel.{ParcelShape}
use Rattle.asp_model.specs.Chase.{chase}
use Rattle.asp_model.specs.Configuration.{Activity, Configuration}
use Rattle.asp_model.specs.Status.{is_running, status_of}
use Rattle.asp_model.specs.Store.{cell}
use Rattle.def_journals.specs.Deliveries.{at_holders, at_place, edge_delivered, need_delivered, value_needed}
use Rattle.def_journals.specs.Journals.{RunShape, grant_of, is_in, lent, may_lend, over}
use Rattle.law_journals.specs.Numbered.{AreNumbered}
use Rattle.law_journals.specs.Entered.{EdgesAreEntered, IsIn, LendsAreEntered, NeedsAreEntered, with_lease}
use Rattle.law_journals.proofs.NameListLemmas.{numbered_so}
use Rattle.law_journals.proofs.NumberLemmas.{named_by}

some_left : (left : ℕ) → 0 < left → nat_lt 0 left ≡ true
some_left left h = le-leb 1 left (omega (arith, h))

three_true : (a b c : Bool) → a ≡ true → b ≡ true → c ≡ true → (a && b && c) ≡ true
three_true a b c p q r i = p i && q i && r i

pub lends_are_entered : LendsAreEntered
lends_are_entered s k n a h runs some =
    let may : may_lend s k n ≡ true = three_true (is_none (grant_of k s.out)) (is_running (status_of s.configuration n)) (nat_lt 0 s.left) (ap is_none h.free) runs (some_left s.left some) in
    ap (lent k s) h.named
    ∙ ap (λ b. elim b [ true ↦ Some (with_lease s k) | false ↦ None ]) may

-- who is in is told so
pub told_in : (s : RunShape) (k : ℕ) (n : Name) (a : Activity) → AreNumbered s → IsIn s k n a → is_in s n ≡ true
told_in s k n a numbered h =
    ap (λ o. elim o [ None ↦ false | Some j ↦ is_none (grant_of j s.out) ]) (numbered_so s.names (named_by s numbered).apart k n h.named)
    ∙ ap is_none h.free

pub edges_are_entered : EdgesAreEntered
edges_are_entered s k f from to a p numbered h sender value =
    let c : Configuration = s.configuration in
    let may : (is_some (find name_cmp from c.activities) && is_in s to) ≡ true = λ i. sender i && told_in s k to a numbered h i in
    ap (λ b. elim b [ true ↦ over s (edge_delivered c f to) | false ↦ None ]) may
    ∙ ap (λ (o : Option Activity). over s (elim o [ None ↦ None | Some x ↦ at_holders c f to x (find future_cmp f c.futures) ])) h.there
    ∙ ap (λ (o : Option ParcelShape). over s (at_holders c f to a o)) value

pub needs_are_entered : NeedsAreEntered
needs_are_entered s k f to place a p numbered h value =
    let c : Configuration = s.configuration in
    ap (λ b. elim b [ true ↦ over s (need_delivered c f to place) | false ↦ None ]) (told_in s k to a numbered h)
    ∙ ap (λ (o : Option Activity). over s (elim o [ None ↦ None | Some x ↦ at_place c to place x (value_needed (chase c.futures) f (cell x.store place)) ])) h.there
    ∙ ap (λ (o : Option ParcelShape). over s (at_place c to place a o)) value
