-- A delivery changes one store: it keeps what reached configurations keep of names, requests and futures.
use Rattle.std.specs.Prelude.{◌≡◌, ℕ, suc, ◌+◌, ◌≤◌, true, false, [], ◌∷◌, ◌++◌, Option, Some, None, is_some}
use Rattle.std.proofs.Common.{refl, sym, ap, subst, ◌∙◌, inl, inr, ⊎_elim}
use Rattle.std.specs.FinMap.{find}
use Rattle.std.specs.FinMap.Entries.{is_sorted-put}
use Rattle.asp_model.specs.Names.{Name, FutureShape, name_cmp, future_cmp, same_future, main_name}
use Rattle.asp_model.specs.Store.{CellShape, Number, Object, Reference, Future, Group, Store, cell}
use Rattle.asp_model.specs.Chase.{Chase, Value, Unfilled, Cycle, chase}
use Rattle.asp_model.specs.Parcel.{ParcelShape, has_place, unpack_at}
use Rattle.asp_model.specs.Configuration.{Activity, Configuration}
use Rattle.def_journals.specs.Deliveries.{with_store, holders_from, unpack_each, at_holders, edge_delivered, value_of, value_needed, at_place, need_delivered}
use Rattle.law_steps.specs.Kept.{AreDistinct, mark, one_unless}
use Rattle.law_steps.proofs.NameLemmas.{name_total, name_same, name_case, not_some}
use Rattle.law_chases.proofs.FutureLemmas.{some_is, no_some, futures_tied, true_false}
use Rattle.law_chases.proofs.MapLemmas as Maps
use Rattle.law_steps.proofs.FactLemmas.{face, holds}
use Rattle.law_steps.proofs.SoundLemmas.{Sound, at_name, in_map}
use Rattle.law_steps.proofs.ExactLemmas.{Exact}
use Rattle.law_steps.proofs.TidyLemmas.{Tidy}

module _ (c : Configuration) (n : Name) (a : Activity) (t : Store) (at : find name_cmp n c.activities ≡ Some a) where
  abbrev after : Configuration
  after = with_store c n a t

  pub same_face : (m : Name) → at_name after m ≡ at_name c m
  same_face m = ⊎_elim
      (λ same. ap (at_name after) same ∙ ap face (Maps.find_same name_cmp name_total name_same n (record a { store = t }) c.activities) ∙ ap face (sym at) ∙ ap (at_name c) (sym same))
      (λ apart. ap face (Maps.find_other name_cmp name_total name_same m n (record a { store = t }) c.activities apart))
      (name_case m n)

  pub same_there : (m : Name) → is_some (find name_cmp m after.activities) ≡ is_some (find name_cmp m c.activities)
  same_there m = ⊎_elim
      (λ same. ap (λ k. is_some (find name_cmp k after.activities)) same ∙ ap is_some (Maps.find_same name_cmp name_total name_same n (record a { store = t }) c.activities) ∙ ap is_some (sym at) ∙ ap (λ k. is_some (find name_cmp k c.activities)) (sym same))
      (λ apart. ap is_some (Maps.find_other name_cmp name_total name_same m n (record a { store = t }) c.activities apart))
      (name_case m n)

  -- who is found is one that was, or the receiver over its new store
  pub found_delivered : (P : Activity → Type 0) → P (record a { store = t }) → ((m : Name) (b : Activity) → find name_cmp m c.activities ≡ Some b → P b) → (m : Name) (b : Activity) → find name_cmp m after.activities ≡ Some b → P b
  found_delivered P own others m b is = ⊎_elim
      (λ same. subst P (some_is (sym (Maps.find_same name_cmp name_total name_same n (record a { store = t }) c.activities) ∙ ap (λ k. find name_cmp k after.activities) (sym same) ∙ is)) own)
      (λ apart. others m b (sym (Maps.find_other name_cmp name_total name_same m n (record a { store = t }) c.activities apart) ∙ is))
      (name_case m n)

  pub sound_delivered : Sound c → Sound after
  sound_delivered h = record {
    ordered = record { activities = is_sorted-put name_cmp name_total n (record a { store = t }) c.activities h.ordered.activities; received = h.ordered.received; logs = h.ordered.logs; futures = h.ordered.futures };
    named = λ m k q. subst (λ f. k ≤ f.creations) (sym (same_face m)) (h.named m k (sym (same_there (m ++ k ∷ [])) ∙ q));
    begun = λ m k r st. subst (λ f. r.future.index ≤ f.sends) (sym (same_face r.future.by)) (h.begun m k r st);
    apart = h.apart;
    served = λ m k q. h.served m k (ap (λ f. has_place k f.served) (sym (same_face m)) ∙ q);
    balanced = λ m k r st. subst (λ f. one_unless (has_place k f.served) + holds (mark r.future) f + in_map r.future c.futures ≡ 1) (sym (same_face m)) (h.balanced m k r st);
    held = λ m f q. h.held m f (subst (λ g. 1 ≤ holds (mark f) g) (same_face m) q);
    filled = h.filled;
  }

  pub exact_delivered : Exact c → Exact after
  exact_delivered h = record {
    known = λ q p. ⊎_elim (λ x. inl x) (λ k. inr (k.0, k.1, k.2, subst (λ x. suc k.1 ≤ x.creations) (sym (same_face k.0)) k.3)) (h.known q (sym (same_there q) ∙ p));
    made = λ m k p. same_there (m ++ suc k ∷ []) ∙ h.made m k (subst (λ x. suc k ≤ x.creations) (same_face m) p);
    sent = λ m k p. h.sent m k (subst (λ x. suc k ≤ x.sends) (same_face m) p);
    positive = h.positive;
  }

  pub tidy_delivered : Tidy c → Tidy after
  tidy_delivered h = record {
    main = same_there main_name ∙ h.main;
    housed = λ m k r st. same_there m ∙ h.housed m k r st;
    by = h.by;
    distinct = λ m. subst (λ x. AreDistinct x.served) (sym (same_face m)) (h.distinct m);
    quiet = λ m none. h.quiet m (not_some (find name_cmp m c.activities) (λ there. true_false (is_some (find name_cmp m after.activities)) (same_there m ∙ there) (ap is_some none)));
  }

-- What a delivery finds

-- along an edge: the receiver, and the future's own value
pub record EdgeDone (c : Configuration) (f : FutureShape) (to : Name) (d : Configuration) : Type 0 where
  pub receiver : Activity
  pub value : ParcelShape
  pub at : find name_cmp to c.activities ≡ Some receiver
  pub filled : find future_cmp f c.futures ≡ Some value
  pub result : d ≡ with_store c to receiver (unpack_each receiver.store (holders_from 0 f receiver.store) value)

pub edge_done : (c : Configuration) (f : FutureShape) (to : Name) (d : Configuration) → edge_delivered c f to ≡ Some d → EdgeDone c f to d
edge_done c f to d e = by_receiver (find name_cmp to c.activities) refl e
  where
    by_value : (a : Activity) → find name_cmp to c.activities ≡ Some a → (o : Option ParcelShape) → find future_cmp f c.futures ≡ o → at_holders c f to a o ≡ Some d → EdgeDone c f to d
    by_value a at None is h = no_some h
    by_value a at (Some p) is h = record { receiver = a; value = p; at = at; filled = is; result = sym (some_is h) }

    by_receiver : (o : Option Activity) → find name_cmp to c.activities ≡ o → elim o [ None ↦ None | Some a ↦ at_holders c f to a (find future_cmp f c.futures) ] ≡ Some d → EdgeDone c f to d
    by_receiver None is h = no_some h
    by_receiver (Some a) is h = by_value a is (find future_cmp f c.futures) refl h

-- at a need: the receiver, the future that its place holds, and the value to which it leads
pub record NeedDone (c : Configuration) (f : FutureShape) (to : Name) (place : ℕ) (d : Configuration) : Type 0 where
  pub receiver : Activity
  pub held : FutureShape
  pub value : ParcelShape
  pub at : find name_cmp to c.activities ≡ Some receiver
  pub holds : cell receiver.store place ≡ Future held
  pub chased : chase c.futures held ≡ Value f value
  pub result : d ≡ with_store c to receiver (unpack_at receiver.store place value)

-- the value of f, where a chase ends there
value_is : (f : FutureShape) (x : Chase) (p : ParcelShape) → value_of f x ≡ Some p → x ≡ Value f p
value_is f (Unfilled g) p e = no_some e
value_is f (Cycle g) p e = no_some e
value_is f (Value g q) p e = elim (same_future f g) as (λ b. same_future f g ≡ b → elim b [ true ↦ Some q | false ↦ None ] ≡ Some p → Value g q ≡ Value f p) [
  | true ↦ λ same h. (λ i. Value (sym (futures_tied f g same) i) (some_is h i))
  | false ↦ λ same h. no_some h
] refl e

needed_is : (chases : FutureShape → Chase) (f : FutureShape) (c : CellShape) (p : ParcelShape) → value_needed chases f c ≡ Some p → (g : FutureShape) × (c ≡ Future g) × (chases g ≡ Value f p)
needed_is chases f (Future g) p e = (g, refl, value_is f (chases g) p e)
needed_is chases f (Number z) p e = no_some e
needed_is chases f (Object fields methods) p e = no_some e
needed_is chases f (Reference m) p e = no_some e
needed_is chases f (Group ns) p e = no_some e

pub need_done : (c : Configuration) (f : FutureShape) (to : Name) (place : ℕ) (d : Configuration) → need_delivered c f to place ≡ Some d → NeedDone c f to place d
need_done c f to place d e = by_receiver (find name_cmp to c.activities) refl e
  where
    by_value : (a : Activity) → find name_cmp to c.activities ≡ Some a → (o : Option ParcelShape) → value_needed (chase c.futures) f (cell a.store place) ≡ o → at_place c to place a o ≡ Some d → NeedDone c f to place d
    by_value a at None is h = no_some h
    by_value a at (Some p) is h =
        let x = needed_is (chase c.futures) f (cell a.store place) p is in
        record { receiver = a; held = x.0; value = p; at = at; holds = x.1; chased = x.2; result = sym (some_is h) }

    by_receiver : (o : Option Activity) → find name_cmp to c.activities ≡ o → elim o [ None ↦ None | Some a ↦ at_place c to place a (value_needed (chase c.futures) f (cell a.store place)) ] ≡ Some d → NeedDone c f to place d
    by_receiver None is h = no_some h
    by_receiver (Some a) is h = by_value a is (value_needed (chase c.futures) f (cell a.store place)) refl h
