-- What is due and what is owed may be delivered.
use Rattle.std.proofs.Common.{◌≡◌, Bool, true, false, List, [], ◌∷◌, Option, Some, None, ℕ, zero, suc, is_none, is_some, refl, sym, ap, subst, ◌∙◌, inl, inr, ⊎_elim, ◌⊎◌}
use Rattle.std.proofs.lemmas.Bool.{and_parts}
use Rattle.std.specs.Prelude.{◌&&◌, not, slice_get}
use Rattle.std.specs.FinMap.{find}
use Rattle.asp_model.specs.Chase.{chase}
use Rattle.asp_model.specs.Configuration.{Activity}
use Rattle.asp_model.specs.History.{ChoiceShape, DeliveryShape, Edge, Need}
use Rattle.asp_model.specs.Names.{FutureShape, Name, future_cmp, name_cmp}
use Rattle.def_journals.specs.Edges.{EdgeShape, HoldersShape, has_edge, has_filled, is_chosen, is_owed, owed_at}
use Rattle.def_journals.specs.Journals.{RunShape, delivered, grant_of, is_in}
use Rattle.def_journals.specs.Owed.{first_edge, first_need, need_delivery, need_of, need_to, or_else}
use Rattle.law_journals.specs.EdgesKept.{IsKnownEdge}
use Rattle.law_steps.specs.Linked.{Each}
use Rattle.law_steps.proofs.NameLemmas.{is_there}
use Rattle.law_chases.proofs.FutureLemmas.{no_some, none_true, some_is}
use Rattle.law_core.specs.Owed.{is_in_to}
use Rattle.law_core.proofs.OwedLemmas.{in_named}
use Rattle.core_state.specs.Deliveries.{IsPassed}
use Rattle.core_state.specs.Due.{AreOfRun, DueEdgesArePassed, OwedMayBeDelivered}
use Rattle.core_state.proofs.NextLemmas.{Owing, is_needed, needed_name}
use Rattle.core_state.proofs.TargetLemmas.{edge_lawful, need_lawful}

each_got : {X : Type 0} (P : X → Type 0) (xs : List X) → Each P xs → (i : ℕ) (x : X) → slice_get xs i ≡ Some x → P x
each_got P [] h i x is = no_some is
each_got P (y ∷ ys) h zero x is = subst P (some_is is) h.0
each_got P (y ∷ ys) h (suc i) x is = each_got P ys h.1 i x is

none_is : (o : Option ℕ) → is_none o ≡ true → o ≡ None
none_is None h = refl
none_is (Some n) h = none_true h

-- what is owed has its future filled
owed_filled : (h : HoldersShape) (x : EdgeShape) (o : Option ChoiceShape) → owed_at h (Some x) o ≡ true → has_filled x.future h.filled ≡ true
owed_filled h x None is = none_true is
owed_filled h x (Some answer) is = (and_parts (has_filled x.future h.filled) (is_chosen answer h x) (and_parts (not (has_edge x h.delivered)) (has_filled x.future h.filled && is_chosen answer h x) is).1).0

module _ (s : RunShape) (h : HoldersShape) (of : AreOfRun s h) where
  is_passed : (x : EdgeShape) → IsKnownEdge s.configuration x → has_filled x.future h.filled ≡ true → is_in s x.to ≡ true → (k : ℕ) × (passed : IsPassed s k x.future x.from) × (passed.name ≡ x.to)
  is_passed x known filled free =
      let k = of.numbered.numbered x.to known.2 in
      let a = is_there (find name_cmp x.to s.configuration.activities) known.2 in
      let value = is_there (find future_cmp x.future s.configuration.futures) (of.filled x.future filled) in (
        k.0,
        record {
          name = x.to;
          activity = a.0;
          here = record { named = k.1; free = none_is (grant_of k.0 s.out) (sym (in_named s of.numbered k.0 x.to k.1) ∙ free); there = a.1 };
          sender = known.1;
          value = value.0;
          filled = value.1;
        },
        refl,
      )

  pub due_is_passed : (answers : List ChoiceShape) (place : ℕ) (x : EdgeShape) → slice_get h.edges place ≡ Some x → (owed_at h (slice_get h.edges place) (slice_get answers place) && is_in_to s (slice_get h.edges place)) ≡ true → (k : ℕ) × (passed : IsPassed s k x.future x.from) × (passed.name ≡ x.to)
  due_is_passed answers place x at due =
      let o : Option ChoiceShape = slice_get answers place in
      let parts = and_parts (owed_at h (Some x) o) (is_in s x.to) (ap (λ e. owed_at h e o && is_in_to s e) (sym at) ∙ due) in
      is_passed x (each_got (IsKnownEdge s.configuration) h.edges of.edges place x at) (owed_filled h x o parts.0) parts.1

  -- Needs

  need_may : (n : Name) → is_in s n ≡ true → (x : FutureShape × ℕ) → need_to s.configuration n ≡ Some x → is_some (delivered (Need x.0 n x.1) s) ≡ true
  need_may n free x need = by (find name_cmp n s.configuration.activities) refl need
    where
      by : (o : Option Activity) → find name_cmp n s.configuration.activities ≡ o → elim o [ None ↦ None | Some a ↦ need_of (chase s.configuration.futures) a ] ≡ Some x → is_some (delivered (Need x.0 n x.1) s) ≡ true
      by None at is = no_some is
      by (Some a) at is =
          let k = of.numbered.numbered n (ap is_some at) in
          let owing : Owing s k.0 = record {
            name = n;
            activity = a;
            here = record { named = k.1; free = none_is (grant_of k.0 s.out) (sym (in_named s of.numbered k.0 n k.1) ∙ free); there = at };
            need = x;
            is = is;
          } in
          need_lawful s of.numbered k.0 x.1 x.0 n (is_needed s k.0 owing) (needed_name s k.0 owing)

  or_case : (o p : Option DeliveryShape) (d : DeliveryShape) → or_else o p ≡ Some d → (o ≡ Some d) ⊎ (p ≡ Some d)
  or_case None p d e = inr e
  or_case (Some x) p d e = inl e

  need_first : (ns : List Name) (d : DeliveryShape) → first_need s ns ≡ Some d → is_some (delivered d s) ≡ true
  need_first [] d e = no_some e
  need_first (n ∷ ns) d e = by (is_in s n) refl (need_first ns d) e
    where
      one : is_in s n ≡ true → (o : Option (FutureShape × ℕ)) → need_to s.configuration n ≡ o → need_delivery n o ≡ Some d → is_some (delivered d s) ≡ true
      one free None need is = no_some is
      one free (Some x) need is = subst (λ z. is_some (delivered z s) ≡ true) (some_is is) (need_may n free x need)

      by : (b : Bool) → is_in s n ≡ b → (first_need s ns ≡ Some d → is_some (delivered d s) ≡ true) → elim b [ true ↦ or_else (need_delivery n (need_to s.configuration n)) (first_need s ns) | false ↦ first_need s ns ] ≡ Some d → is_some (delivered d s) ≡ true
      by true free later is = ⊎_elim
          (λ first. one free (need_to s.configuration n) refl first)
          later
          (or_case (need_delivery n (need_to s.configuration n)) (first_need s ns) d is)
      by false free later is = later is

  -- Edges

  edge_first : (xs : List EdgeShape) (answers : List ChoiceShape) → Each (IsKnownEdge s.configuration) xs → (d : DeliveryShape) → first_edge s h xs answers ≡ Some d → is_some (delivered d s) ≡ true
  edge_first [] answers known d e = no_some e
  edge_first (x ∷ xs) [] known d e = no_some e
  edge_first (x ∷ xs) (answer ∷ answers) known d e = by (is_owed h answer x && is_in s x.to) refl (edge_first xs answers known.1 d) e
    where
      by : (b : Bool) → (is_owed h answer x && is_in s x.to) ≡ b → (first_edge s h xs answers ≡ Some d → is_some (delivered d s) ≡ true) → elim b [ true ↦ Some (Edge x.future x.from x.to) | false ↦ first_edge s h xs answers ] ≡ Some d → is_some (delivered d s) ≡ true
      by true due later is =
          let parts = and_parts (is_owed h answer x) (is_in s x.to) due in
          let passed = is_passed x known.0 (owed_filled h x (Some answer) parts.0) parts.1 in
          subst (λ z. is_some (delivered z s) ≡ true) (some_is is) (edge_lawful s of.numbered passed.0 x.future x.from x.to passed.1 passed.2)
      by false due later is = later is

pub due_edges_are_passed : DueEdgesArePassed
due_edges_are_passed s h answers place x of at due = due_is_passed s h of answers place x at due

pub owed_may_be_delivered : OwedMayBeDelivered
owed_may_be_delivered s h answers d of owed = ⊎_elim
    (λ need. need_first s h of s.names d need)
    (λ edge. edge_first s h of h.edges answers of.edges d edge)
    (or_case s h of (first_need s s.names) (first_edge s h h.edges answers) d owed)
