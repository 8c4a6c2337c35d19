-- All that a program reaches is closed.
use Rattle.std.specs.Prelude.{◌≡◌, List, [], ◌∷◌, Option, Some, None, length, ℕ, zero, suc, ◌+◌, ◌<◌, ◌≤◌, true, false}
use Rattle.std.proofs.Common.{sym, subst, arith, ⊎_elim, ap}
use Rattle.law_steps.specs.Systems.{Leads}
use Rattle.asp_model.specs.Names.{Name, main_name, FutureShape, name_cmp}
use Rattle.asp_model.specs.Term.{Tree, locations}
use Rattle.asp_model.specs.Store.{Object, Store, cell, Future}
use Rattle.asp_model.specs.Chase.{chase}
use Rattle.asp_model.specs.Configuration.{Configuration, requests_of, begun, start, Activity}
use Rattle.asp_model.specs.Intent.{Acts, Effect}
use Rattle.asp_model.specs.Step.{ListsShape, intent_in, step, with_effect}
use Rattle.law_steps.specs.Reached.{Move, Steps, Edges, Needs, Makes}
use Rattle.law_steps.specs.Closed.{AreBelow, IsClosedActivity, IsClosedParcel, IsClosedValue, IsClosed, ReachedAreClosed, SplitsAreBelow, CopiesAreClosed, ValuesAreClosed, IsClosedStore}
use Rattle.law_chases.proofs.FutureLemmas.{no_some, none_true}
use Rattle.law_steps.proofs.StepLemmas.{step_taken}
use Rattle.law_chases.proofs.ChaseLemmas.{chase_finds}
use Rattle.law_steps.proofs.SoundLemmas.{came}
use Rattle.law_steps.proofs.LinkedLemmas.{acting, found_after, value_after}
use Rattle.law_steps.proofs.VisitLemmas.{packed_closed, value_closed}
use Rattle.law_steps.proofs.PlacesLemmas.{split_is_below}
use Rattle.law_steps.proofs.ClosedLemmas.{IsClosedEffect, ClosedIntent, intent_closed, services_more}
use Rattle.std.specs.FinMap.{find}
use Rattle.asp_model.specs.Parcel.{ParcelShape, unpack_at}
use Rattle.asp_model.specs.Contraction.{is_future}
use Rattle.def_journals.specs.Deliveries.{with_store, is_held, holders_from, unpack_each}
use Rattle.law_steps.proofs.DeliveryLemmas.{found_delivered, edge_done, need_done}
use Rattle.law_steps.proofs.EachLemmas.{below_more}
use Rattle.law_steps.proofs.MovedLemmas.{unpacked_at_closed}

pub effect_closed : (c : Configuration) (n : Name) (e : Effect) → IsClosed c → intent_in c n ≡ Acts e → IsClosedEffect e
effect_closed c n e h intends =
    let x = acting c n e intends in
    subst ClosedIntent x.2 (intent_closed (requests_of c n) (λ k r st. h.arguments n k r st) n x.0 (h.activities n x.0 x.1) (chase c.futures) (λ f y p is. (h.values y p (chase_finds c.futures f y p is).0).closed))

pub closed_after : (c : Configuration) (n : Name) (e : Effect) → IsClosed c → IsClosedEffect e → IsClosed (with_effect n e c)
closed_after c n e h x = record {
  activities = λ m a is. ⊎_elim
      (h.activities m a)
      (λ y. ⊎_elim (λ own. subst IsClosedActivity own x.own) (λ z. subst IsClosedActivity z.2 (x.made z.0 z.1)) y)
      (found_after n e.own e.made c.activities m a is);
  arguments = λ m k r st. ⊎_elim
      (h.arguments m k r)
      (λ new. subst (λ q. IsClosedParcel q.arguments) (sym new.request) (x.sent new.sent new.is))
      (came c n e m k r st);
  values = λ f p is. ⊎_elim
      (h.values f p)
      (λ z. subst IsClosedValue z.2 (x.filled z.0 z.1))
      (value_after e.filled c.futures f p is);
}

begun_closed : (program : Tree) → locations program ≡ [] → IsClosedActivity (begun program (Object [] [] ∷ []))
begun_closed program none = record { term = subst (AreBelow 1) (sym none) tt; services = tt; store = (tt, tt); active = omega arith }

pub closed_start : (program : Tree) → locations program ≡ [] → IsClosed (start program)
closed_start program none = record {
  activities = λ m a is. ⊎_elim
      (λ old. no_some old)
      (λ y. ⊎_elim (λ own. subst IsClosedActivity own (begun_closed program none)) (λ z. no_some z.1) y)
      (found_after main_name (begun program (Object [] [] ∷ [])) None [] m a is);
  arguments = λ m k r st. no_some st;
  values = λ f p is. no_some is;
}

step_closed : (lists : Option ListsShape) (n : Name) (c d : Configuration) → step lists c n ≡ Some d → IsClosed c → IsClosed d
step_closed lists n c d is h = let x = step_taken lists c n d is in subst IsClosed x.2 (closed_after c n x.0 h (effect_closed c n x.0 h x.1.intends))

-- values that are unpacked at places of the store
unpacked_each_closed : (ns : List ℕ) (s : Store) (p : ParcelShape) → IsClosedStore s → IsClosedStore p.cells → AreBelow (length s) ns → IsClosedStore (unpack_each s ns p) × (length s ≤ length (unpack_each s ns p))
unpacked_each_closed [] s p h k below = (h, omega arith)
unpacked_each_closed (n ∷ ns) s p h k below =
    let x = unpacked_at_closed s n p.cells p.roots below.0 h k in
    let y = unpacked_each_closed ns (unpack_at s n p) p x.0 k (below_more (length s) (length (unpack_at s n p)) x.1 ns below.1) in
    (y.0, omega (arith, x.1, y.1))

holders_below : (k : ℕ) (f : FutureShape) (s : Store) → AreBelow (k + length s) (holders_from k f s)
holders_below k f [] = tt
holders_below k f (c ∷ cs) =
    let e : suc k + length cs ≡ k + suc (length cs) = omega arith in
    let rest = subst (λ n. AreBelow n (holders_from (suc k) f cs)) e (holders_below (suc k) f cs) in
    elim (is_held f c) as (λ b. AreBelow (k + suc (length cs)) (elim b [ true ↦ k ∷ holders_from (suc k) f cs | false ↦ holders_from (suc k) f cs ])) [ true ↦ (omega arith, rest) | false ↦ rest ]

-- a cell that holds a future is in the store
pub in_store : (s : Store) (n : ℕ) (f : FutureShape) → cell s n ≡ Future f → n < length s
in_store [] n f e = none_true (ap is_future e)
in_store (c ∷ s) zero f e = omega arith
in_store (c ∷ s) (suc n) f e = omega (arith, in_store s n f e)

store_closed : (c : Configuration) (n : Name) (a : Activity) (t : Store) (d : Configuration) → find name_cmp n c.activities ≡ Some a → d ≡ with_store c n a t → IsClosed c → IsClosedStore t × (length a.store ≤ length t) → IsClosed d
store_closed c n a t d at is h k =
    let x = h.activities n a at in
    let own : IsClosedActivity (record a { store = t }) = record {
      term = below_more (length a.store) (length t) k.1 (locations a.term) x.term;
      services = services_more (length a.store) (length t) k.1 a.services x.services;
      store = k.0;
      active = omega (arith, x.active, k.1);
    } in
    subst IsClosed (sym is) (record { activities = found_delivered c n a t at IsClosedActivity own h.activities; arguments = h.arguments; values = h.values })

pub move_closed : (move : Move) (c d : Configuration) → Makes move c d → IsClosed c → IsClosed d
move_closed (Steps lists n) c d is h = step_closed lists n c d is h
move_closed (Edges f to) c d e h = let is = edge_done c f to d e in store_closed c to is.receiver _ d is.at is.result h (unpacked_each_closed (holders_from 0 f is.receiver.store) is.receiver.store is.value (h.activities to is.receiver is.at).store (h.values f is.value is.filled).closed.cells (let e : 0 + length is.receiver.store ≡ length is.receiver.store = omega arith in subst (λ n. AreBelow n (holders_from 0 f is.receiver.store)) e (holders_below 0 f is.receiver.store)))
move_closed (Needs f to place) c d e h = let is = need_done c f to place d e in store_closed c to is.receiver _ d is.at is.result h (unpacked_each_closed (place ∷ []) is.receiver.store is.value (h.activities to is.receiver is.at).store (h.values f is.value (chase_finds c.futures is.held f is.value is.chased).0).closed.cells (in_store is.receiver.store place is.held is.holds, tt))

moves_closed : (moves : List Move) (c d : Configuration) → Leads Makes c moves d → IsClosed c → IsClosed d
moves_closed [] c d r h = subst IsClosed r h
moves_closed (m ∷ moves) c d r h = moves_closed moves r.0 d r.2 (move_closed m c r.0 r.1 h)

pub reached_are_closed : ReachedAreClosed
reached_are_closed program c none reached = moves_closed reached.moves (start program) c reached.run (closed_start program none)

pub splits_are_below : SplitsAreBelow
splits_are_below a h = split_is_below (length a.store) a.term h.term

pub copies_are_closed : CopiesAreClosed
copies_are_closed s roots h below = packed_closed s roots h below

pub values_are_closed : ValuesAreClosed
values_are_closed s place h lt = value_closed s place h lt
