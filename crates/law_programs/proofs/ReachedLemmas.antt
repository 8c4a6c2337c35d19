-- Each move keeps that all is proper.
use Rattle.std.specs.Prelude.{◌≡◌, List, [], ◌∷◌, Option, Some, None, ℕ, map, length}
use Rattle.std.specs.FinMap.{find}
use Rattle.std.proofs.Common.{refl, sym, subst, ⊎_elim}
use Rattle.asp_model.specs.Names.{Name, main_name, name_cmp}
use Rattle.asp_model.specs.Term.{Tree}
use Rattle.asp_model.specs.Store.{Object, Store, moved_cell}
use Rattle.asp_model.specs.Parcel.{ParcelShape, place_at, unpack_at}
use Rattle.asp_model.specs.Chase.{chase}
use Rattle.asp_model.specs.Configuration.{Configuration, requests_of, begun, start, Activity}
use Rattle.asp_model.specs.Intent.{Acts, Effect}
use Rattle.asp_model.specs.Step.{ListsShape, intent_in, step, with_effect}
use Rattle.def_journals.specs.Deliveries.{with_store, holders_from, unpack_each}
use Rattle.law_steps.specs.Reached.{Move, Steps, Edges, Needs, Makes}
use Rattle.law_steps.specs.Linked.{Each}
use Rattle.law_chases.proofs.FutureLemmas.{no_some}
use Rattle.law_steps.proofs.StepLemmas.{step_taken}
use Rattle.law_chases.proofs.ChaseLemmas.{chase_finds}
use Rattle.law_steps.proofs.SoundLemmas.{came}
use Rattle.law_steps.proofs.LinkedLemmas.{acting, found_after, value_after}
use Rattle.law_steps.proofs.DeliveryLemmas.{found_delivered, edge_done, need_done}
use Rattle.law_steps.proofs.ContractionLemmas.{all_placed}
use Rattle.law_programs.specs.Proper.{IsProper, IsProperCell, IsProperParcel, IsProperActivity, IsProperThroughout}
use Rattle.law_programs.proofs.CellLemmas.{all_moved}
use Rattle.law_programs.proofs.IntentLemmas.{IsProperEffect, ProperIntent, intent_proper}

effect_proper : (c : Configuration) (n : Name) (e : Effect) → IsProperThroughout c → intent_in c n ≡ Acts e → IsProperEffect e
effect_proper c n e h intends =
    let x = acting c n e intends in
    subst ProperIntent x.2 (intent_proper (requests_of c n) (λ k r st. (h.arguments n k r st).cells) n x.0 (h.activities n x.0 x.1) (chase c.futures) (λ f y p is. (h.values y p (chase_finds c.futures f y p is).0).cells))

proper_after : (c : Configuration) (n : Name) (e : Effect) → IsProperThroughout c → IsProperEffect e → IsProperThroughout (with_effect n e c)
proper_after c n e h x = record {
  activities = λ m a is. ⊎_elim
      (h.activities m a)
      (λ y. ⊎_elim (λ own. subst IsProperActivity own x.own) (λ z. subst IsProperActivity z.2 (x.made z.0 z.1)) y)
      (found_after n e.own e.made c.activities m a is);
  arguments = λ m k r st. ⊎_elim
      (h.arguments m k r)
      (λ new. subst (λ q. IsProperParcel q.arguments) (sym new.request) (x.sent new.sent new.is))
      (came c n e m k r st);
  values = λ f p is. ⊎_elim
      (h.values f p)
      (λ z. subst IsProperParcel z.2 (x.filled z.0 z.1))
      (value_after e.filled c.futures f p is);
}

pub start_proper : (program : Tree) → IsProper [] program → IsProperThroughout (start program)
start_proper program h = record {
  activities = λ m a is. ⊎_elim
      (λ old. no_some old)
      (λ y. ⊎_elim (λ own. subst IsProperActivity own (record { term = h; services = tt; store = ((refl, tt), tt) })) (λ z. no_some z.1) y)
      (found_after main_name (begun program (Object [] [] ∷ [])) None [] m a is);
  arguments = λ m k r st. no_some st;
  values = λ f p is. no_some is;
}

step_proper : (lists : Option ListsShape) (n : Name) (c d : Configuration) → step lists c n ≡ Some d → IsProperThroughout c → IsProperThroughout d
step_proper lists n c d is h = let x = step_taken lists c n d is in subst IsProperThroughout x.2 (proper_after c n x.0 h (effect_proper c n x.0 h x.1.intends))

-- a value that is unpacked at places
unpacked_proper : (ns : List ℕ) (s : Store) (p : ParcelShape) → Each IsProperCell s → Each IsProperCell p.cells → Each IsProperCell (unpack_each s ns p)
unpacked_proper [] s p h k = h
unpacked_proper (n ∷ ns) s p h k = unpacked_proper ns (unpack_at s n p) p (all_placed IsProperCell s n (map (moved_cell (place_at (length s) n)) p.cells) h (all_moved (place_at (length s) n) p.cells k)) k

store_proper : (c : Configuration) (n : Name) (a : Activity) (t : Store) (d : Configuration) → find name_cmp n c.activities ≡ Some a → d ≡ with_store c n a t → IsProperThroughout c → Each IsProperCell t → IsProperThroughout d
store_proper c n a t d at is h k =
    let x = h.activities n a at in
    subst IsProperThroughout (sym is) (record { activities = found_delivered c n a t at IsProperActivity (record { term = x.term; services = x.services; store = k }) h.activities; arguments = h.arguments; values = h.values })

pub move_proper : (move : Move) (c d : Configuration) → Makes move c d → IsProperThroughout c → IsProperThroughout d
move_proper (Steps lists n) c d is h = step_proper lists n c d is h
move_proper (Edges f to) c d e h = let is = edge_done c f to d e in store_proper c to is.receiver _ d is.at is.result h (unpacked_proper (holders_from 0 f is.receiver.store) is.receiver.store is.value (h.activities to is.receiver is.at).store (h.values f is.value is.filled).cells)
move_proper (Needs f to place) c d e h = let is = need_done c f to place d e in store_proper c to is.receiver _ d is.at is.result h (unpacked_proper (place ∷ []) is.receiver.store is.value (h.activities to is.receiver is.at).store (h.values f is.value (chase_finds c.futures is.held f is.value is.chased).0).cells)
