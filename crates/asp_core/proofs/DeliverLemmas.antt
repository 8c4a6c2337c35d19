-- A value that is delivered, once the edges were told.
use Rattle.std.proofs.Common.{◌≡◌, ◌∙◌, ◌<◌, ◌&&◌, ℕ, Bool, true, false, List, Option, Some, None, Result, Ok, Err, IfOk, IfSome, OnOk, is_some, refl, sym, ap, arith}
use Rattle.std.specs.FinMap.{find}
use Rattle.std.specs.Option.{option_map}
use Rattle.asp_model.specs.Shapes.{delivery_shape}
use Rattle.asp_model.specs.declared.journal.Delivery.{Delivery}
use Rattle.asp_model.specs.Configuration.{Configuration}
use Rattle.asp_model.specs.History.{DeliveryShape, Edge, HistoryShape, Need}
use Rattle.asp_model.specs.Names.{FutureShape, Name, future_cmp, name_cmp}
use Rattle.def_journals.specs.Deliveries.{edge_delivered, need_delivered}
use Rattle.def_journals.specs.Edges.{HoldersShape}
use Rattle.def_journals.specs.Journals.{RunShape, is_in, over}
use Rattle.def_journals.specs.Owed.{next_owed}
use Rattle.law_chases.proofs.ChaseLemmas.{chase_finds}
use Rattle.law_steps.proofs.DeliveryLemmas.{edge_done, need_done}
use Rattle.law_chases.proofs.FutureLemmas.{none_true}
use Rattle.code_table.specs.declared.code.Node.{Node}
use Rattle.future_update.specs.declared.edge.EdgeNames.{EdgeNames}
use Rattle.future_update.specs.Holders.{HoldersView}
use Rattle.future_update.specs.Names.{delivery_along, edge_named}
use Rattle.law_core.specs.Owed.{IsNeed}
use Rattle.law_core.proofs.OwedLemmas.{edges_are_first, edges_are_next, needs_are_first}
use Rattle.law_core.specs.Runs.{rank_of_number}
use Rattle.core_ranks.specs.Numbers.{IsFirst, has_number}
use Rattle.core_ranks.specs.Ranks.{has_need}
use Rattle.core_state.specs.declared.state.CoreState.{CoreState}
use Rattle.core_state.specs.Due.{AreOfRun}
use Rattle.core_state.proofs.DueLemmas.{owed_may_be_delivered}
use Rattle.core_state.proofs.NextLemmas.{is_need, owing}
use Rattle.core_edges.specs.Deliveries.{future_of}
use Rattle.core_edges.specs.Due.{IsDue}
use Rattle.asp_core.specs.Calls.{MayDeliver}
use Rattle.asp_core.specs.Delivering.{IsDueDelivery}
use Rattle.asp_core.specs.Runs.{Stand}
use Rattle.asp_core.proofs.DueLemmas.{due_so}
use Rattle.asp_core.proofs.StandLemmas.{holders_are, known, numbered}

over_some : (s : RunShape) (o : Option Configuration) → is_some (over s o) ≡ true → (d : Configuration) × (o ≡ Some d)
over_some s None is = none_true is
over_some s (Some d) is = (d, refl)

when_so : (b : Bool) (s : RunShape) (o : Option Configuration) → is_some (elim b as (λ q. Option RunShape) [ true ↦ over s o | false ↦ None ]) ≡ true → (d : Configuration) × (o ≡ Some d)
when_so true s o is = over_some s o is
when_so false s o is = none_true is

-- the future of a delivery that may be entered has a value
pub delivered_filled : (s : RunShape) (d : DeliveryShape) → MayDeliver s d → is_some (find future_cmp (future_of d) s.configuration.futures) ≡ true
delivered_filled s (Edge f from to) may =
    let made = when_so (is_some (find name_cmp from s.configuration.activities) && is_in s to) s (edge_delivered s.configuration f to) may in
    ap is_some (edge_done s.configuration f to made.0 made.1).filled
delivered_filled s (Need f to place) may =
    let made = when_so (is_in s to) s (need_delivered s.configuration f to place) may in
    let done = need_done s.configuration f to place made.0 made.1 in
    ap is_some (chase_finds s.configuration.futures done.held f done.value done.chased).0

module _ (h : HistoryShape) (code : List Node) (s : RunShape) (x : CoreState) (v : HoldersView) (st : Stand h code s x v) where
  abbrev vh : HoldersShape
  vh = v.holders

  of_run : AreOfRun s vh
  of_run = record {
    numbered = numbered h code s x v st;
    edges = known h code s x v st;
    filled = λ f is. sym ((holders_are h code s x v st).filled f) ∙ is;
  }

  abbrev pub owed : Option DeliveryShape
  owed = next_owed s v.holders v.answers

  pub need_owed : (k : ℕ) (n : Name) (z : FutureShape × ℕ) → IsNeed s k n z → ((j : ℕ) → j < k → has_need (rank_of_number s j) ≡ false)
      → owed ≡ Some (Need z.0 n z.1)
  need_owed k n z is before = needs_are_first s v.holders v.answers k n z (numbered h code s x v st) is before

  -- Edges

  pub due_owed : (o : Option DeliveryShape) → ((k : ℕ) → has_need (rank_of_number s k) ≡ false) → IsDueDelivery v o → owed ≡ o
  due_owed None none due =
      edges_are_next s v.holders v.answers (numbered h code s x v st) none
      ∙ (edges_are_first s v.holders v.answers).none (λ place. sym (due_so s v (numbered h code s x v st) st.edges.out (known h code s x v st) place) ∙ due place)
  due_owed (Some d) none due =
      let so = due_so s v (numbered h code s x v st) st.edges.out (known h code s x v st) in
      edges_are_next s v.holders v.answers (numbered h code s x v st) none
      ∙ (edges_are_first s v.holders v.answers).found due.0 due.1 due.3 (sym (so due.0) ∙ due.2.1) (λ i lt. sym (so i) ∙ due.2.2 i (omega arith) lt)
      ∙ ap Some (sym due.4)

  -- Nothing owed

  -- who has a need is owed a value
  pub needy_owed : (k : ℕ) → IsFirst x.ranks.needy.keys (Some k) → is_some owed ≡ true
  needy_owed k first =
      let o = owing s k (sym (st.core.ranks k).needy ∙ first.0) in
      ap is_some (need_owed k o.name o.need (is_need s k o) (λ j lt. sym (st.core.ranks j).needy ∙ before j lt (has_number j x.ranks.needy.keys) refl))
    where
      before : (j : ℕ) → j < k → (b : Bool) → has_number j x.ranks.needy.keys ≡ b → b ≡ false
      before j lt true has = absurd (omega (arith, lt, first.1 j has))
      before j lt false has = refl

  -- where nobody has a need, the edge that is due tells it
  pub due_told : (o : Option EdgeNames) → ((k : ℕ) → has_need (rank_of_number s k) ≡ false) → IsDue v o → is_some owed ≡ is_some o
  due_told None none due = ap is_some (due_owed None none due)
  due_told (Some e) none due = ap is_some (due_owed (Some (delivery_along (edge_named e))) none (due.place, edge_named e, due.first, due.edge, refl))

  pub owed_may : (o : Option Delivery) → option_map delivery_shape o ≡ owed → IfSome o (λ d. MayDeliver s (delivery_shape d))
  owed_may None is = tt
  owed_may (Some d) is = owed_may_be_delivered s vh v.answers (delivery_shape d) of_run (sym is)

pub on_ok_is : {T E : Type 0} (r : Result T E) {Q : Type 0} → Q → OnOk r Q
on_ok_is (Ok x) q = q
on_ok_is (Err e) q = tt

pub if_ok : {T E : Type 0} (r : Result T E) (A B : T → Type 0) → ((x : T) → A x → B x) → IfOk r A → IfOk r B
if_ok (Ok x) A B f is = f x is
if_ok (Err e) A B f is = tt
