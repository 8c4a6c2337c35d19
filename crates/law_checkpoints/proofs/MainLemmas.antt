-- Nobody ever has a reference to main, so no request comes to it.
use Rattle.std.specs.Prelude.{◌≡◌, ◌≢◌, ℕ, suc, List, [], ◌∷◌, Option, Some, None, map, slice_get, length}
use Rattle.std.proofs.Common.{refl, sym, ap, subst, ◌∙◌, arith, ⊎_elim}
use Rattle.std.specs.FinMap.{find}
use Rattle.asp_model.specs.Names.{Name, FutureShape, name_cmp, main_name, created_name}
use Rattle.asp_model.specs.Term.{Tree}
use Rattle.asp_model.specs.Store.{CellShape, Reference, Store, Object, moved_cell}
use Rattle.asp_model.specs.Parcel.{ParcelShape, place_at, unpack_at}
use Rattle.asp_model.specs.Chase.{chase}
use Rattle.asp_model.specs.Configuration.{RequestShape, Activity, Configuration, requests_of, begun, start}
use Rattle.asp_model.specs.Intent.{Acts, Effect}
use Rattle.asp_model.specs.Step.{ListsShape, intent_in, step, with_effect}
use Rattle.def_journals.specs.Deliveries.{with_store, holders_from, unpack_each}
use Rattle.law_chases.proofs.FutureLemmas.{no_some, some_is}
use Rattle.law_chases.proofs.ChaseLemmas.{chase_finds}
use Rattle.law_steps.specs.Reached.{Move, Steps, Edges, Needs, Makes, IsAt, HasValue}
use Rattle.law_steps.specs.Kept.{Stands}
use Rattle.law_steps.specs.Linked.{Each}
use Rattle.law_steps.proofs.CleanLemmas.{AllRead, AllLacked, AllSent, Aims, intent_aims, NamesOf, Clean, intent_clean}
use Rattle.law_steps.proofs.ContractionLemmas.{IsOfNames, all_placed, all_moved}
use Rattle.law_steps.proofs.DeliveryLemmas.{found_delivered, edge_done, need_done}
use Rattle.law_steps.proofs.FactLemmas.{IsMade, Face, face, face_of, acts_facts}
use Rattle.law_steps.proofs.LinkedLemmas.{acting, found_after, value_after}
use Rattle.law_steps.proofs.NameLemmas.{last_same}
use Rattle.law_steps.proofs.SoundLemmas.{came}
use Rattle.law_steps.proofs.StepLemmas.{step_taken}

pub not_main : (n : Name) (k : ℕ) → created_name n (suc k) ≢ main_name
not_main n k e = let h : suc k ≡ 0 = (last_same (suc k) 0 n [] e).1 in omega (arith, h)

-- no reference to main
abbrev pub IsOther : CellShape → Type 0
IsOther (Reference n) = n ≢ main_name
IsOther c = Unit {0}

pub record LeavesMain (c : Configuration) : Type 0 where
  pub stores : (n : Name) (a : Activity) → IsAt c n a → Each IsOther a.store
  pub arguments : (m : Name) (k : ℕ) (r : RequestShape) → Stands c m k r → Each IsOther r.arguments.cells
  pub values : (f : FutureShape) (p : ParcelShape) → HasValue c f p → Each IsOther p.cells
  pub received : (m : Name) (k : ℕ) (r : RequestShape) → Stands c m k r → m ≢ main_name

other_names : IsOfNames IsOther
other_names = record { number = λ z. tt; object = λ fields methods. tt; group = λ ns. tt }

all_sent : (rs : List RequestShape) → ((k : ℕ) (r : RequestShape) → slice_get rs k ≡ Some r → Each IsOther r.arguments.cells) → AllSent IsOther rs
all_sent [] h = tt
all_sent (r ∷ rs) h = (h 0 r refl, all_sent rs (λ k. h (suc k)))

made_other : (n : Name) (x y : Face) (o : Option (Name × Activity)) → IsMade n x y o → (z : Name × Activity) → o ≡ Some z → z.0 ≢ main_name
made_other n x y None h z e = no_some e
made_other n x y (Some w) h z e = λ p. not_main n x.creations (sym h.0 ∙ ap (λ u. u.0) (some_is e) ∙ p)

module _ (c : Configuration) (h : LeavesMain c) (n : Name) (e : Effect) (intends : intent_in c n ≡ Acts e) where
  read : AllRead IsOther (chase c.futures)
  read f y p is = h.values y p (chase_finds c.futures f y p is).0

  lacked : AllLacked IsOther (chase c.futures)
  lacked f g a k = tt

  names : NamesOf IsOther e
  names = record {
    made = made_other n (face (find name_cmp n c.activities)) (face_of e.own) e.made (acts_facts c n e intends).1.made;
    sent = λ z is. tt;
  }

  clean : Clean IsOther e
  clean = let a = acting c n e intends in
      intent_clean IsOther other_names (requests_of c n) (all_sent (requests_of c n) (λ k r st. h.arguments n k r st)) n a.0 (h.stores n a.0 a.1) (chase c.futures) read lacked e a.2 names

  aims : (z : Name × RequestShape) → e.sent ≡ Some z → z.0 ≢ main_name
  aims = let a = acting c n e intends in
      subst (Aims IsOther) a.2 (intent_aims IsOther other_names (chase c.futures) read lacked (requests_of c n) n a.0 (h.stores n a.0 a.1))

  after : LeavesMain (with_effect n e c)
  after = record {
    stores = λ m a is. ⊎_elim
        (h.stores m a)
        (λ x. ⊎_elim (λ own. subst (λ b. Each IsOther b.store) own clean.own) (λ z. subst (λ b. Each IsOther b.store) z.2 (clean.made z.0 z.1)) x)
        (found_after n e.own e.made c.activities m a is);
    arguments = λ m k q st. ⊎_elim
        (h.arguments m k q)
        (λ new. subst (λ u. Each IsOther u.arguments.cells) (sym new.request) (clean.sent new.sent new.is))
        (came c n e m k q st);
    values = λ f q is. ⊎_elim
        (h.values f q)
        (λ z. subst (λ b. Each IsOther b.cells) z.2 (clean.filled z.0 z.1))
        (value_after e.filled c.futures f q is);
    received = λ m k q st. ⊎_elim
        (h.received m k q)
        (λ new. λ p. aims new.sent new.is (new.to ∙ p))
        (came c n e m k q st);
  }

pub main_start : (program : Tree) → LeavesMain (start program)
main_start program = record {
  stores = λ m a is. ⊎_elim (λ old. no_some old) (λ x. ⊎_elim (λ own. subst (λ b. Each IsOther b.store) own (tt, tt)) (λ z. no_some z.1) x) (found_after main_name (begun program (Object [] [] ∷ [])) None [] m a is);
  arguments = λ m k r st. no_some st;
  values = λ f p is. no_some is;
  received = λ m k r st. no_some st;
}

step_leaves : (lists : Option ListsShape) (n : Name) (c d : Configuration) → step lists c n ≡ Some d → LeavesMain c → LeavesMain d
step_leaves lists n c d is h = let x = step_taken lists c n d is in subst LeavesMain x.2 (after c h n x.0 x.1.intends)

unpacked : (ns : List ℕ) (s : Store) (p : ParcelShape) → Each IsOther s → Each IsOther p.cells → Each IsOther (unpack_each s ns p)
unpacked [] s p h k = h
unpacked (n ∷ ns) s p h k = unpacked ns (unpack_at s n p) p (all_placed IsOther s n (map (moved_cell (place_at (length s) n)) p.cells) h (all_moved IsOther other_names (place_at (length s) n) p.cells k)) k

store_leaves : (c : Configuration) (n : Name) (a : Activity) (t : Store) (d : Configuration) → find name_cmp n c.activities ≡ Some a → d ≡ with_store c n a t → LeavesMain c → Each IsOther t → LeavesMain d
store_leaves c n a t d at is h k = subst LeavesMain (sym is) (record { stores = found_delivered c n a t at (λ x. Each IsOther x.store) k h.stores; arguments = h.arguments; values = h.values; received = h.received })

pub move_leaves : (move : Move) (c d : Configuration) → Makes move c d → LeavesMain c → LeavesMain d
move_leaves (Steps lists n) c d is h = step_leaves lists n c d is h
move_leaves (Edges f to) c d e h = let is = edge_done c f to d e in store_leaves c to is.receiver _ d is.at is.result h (unpacked (holders_from 0 f is.receiver.store) is.receiver.store is.value (h.stores to is.receiver is.at) (h.values f is.value is.filled))
move_leaves (Needs f to place) c d e h = let is = need_done c f to place d e in store_leaves c to is.receiver _ d is.at is.result h (unpacked (place ∷ []) is.receiver.store is.value (h.stores to is.receiver is.at) (h.values f is.value (chase_finds c.futures is.held f is.value is.chased).0))
