-- What holds of each head of a program holds of each head of what it reaches.
use Rattle.std.specs.Prelude.{◌≡◌, true, List, [], ◌∷◌, Option, Some, None, ℕ, map, length}
use Rattle.std.specs.List.{list_all}
use Rattle.std.proofs.Common.{refl, sym, subst, ⊎_elim}
use Rattle.std.proofs.lemmas.Bool.{and_parts, and_from}
use Rattle.law_steps.specs.Systems.{Leads}
use Rattle.asp_model.specs.Names.{Name, Text, main_name, name_cmp}
use Rattle.asp_model.specs.Term.{MethodHead, Head, Tree}
use Rattle.asp_model.specs.Store.{Object, Store, moved_cell}
use Rattle.asp_model.specs.Contraction.{LineShape, NumberLine, TextLine}
use Rattle.asp_model.specs.Chase.{chase}
use Rattle.asp_model.specs.Configuration.{Configuration, requests_of, begun, start, Activity}
use Rattle.asp_model.specs.WellFormed.{is_printable, is_printable_line}
use Rattle.asp_model.specs.Intent.{Acts, Effect}
use Rattle.asp_model.specs.Step.{ListsShape, intent_in, step, with_effect}
use Rattle.law_steps.specs.Reached.{Move, Steps, Makes, IsReached, Edges, Needs}
use Rattle.law_steps.specs.Linked.{Each}
use Rattle.law_chases.proofs.FutureLemmas.{no_some}
use Rattle.law_steps.proofs.StepLemmas.{step_taken}
use Rattle.law_chases.proofs.ChaseLemmas.{chase_finds}
use Rattle.law_steps.proofs.SoundLemmas.{came}
use Rattle.law_steps.proofs.LinkedLemmas.{acting, found_after, value_after}
use Rattle.law_outcomes.specs.Heads.{EachHead, LabelHas, MethodHas, HoldsOfWritten, CellHas, LineHas, ActivityHas, HasEverywhere, Passes, ReachedHave}
use Rattle.law_outcomes.specs.Texts.{has_printable_text, LinesArePrintable}
use Rattle.law_outcomes.proofs.HeadIntentLemmas.{EffectHas, IntentHas, intent_has}
use Rattle.def_journals.specs.Deliveries.{with_store, holders_from, unpack_each}
use Rattle.law_steps.proofs.DeliveryLemmas.{found_delivered, edge_done, need_done}
use Rattle.law_steps.proofs.ContractionLemmas.{all_placed}
use Rattle.law_outcomes.proofs.HeadLemmas.{all_moved}
use Rattle.asp_model.specs.Parcel.{ParcelShape, place_at, unpack_at}
use Rattle.std.specs.FinMap.{find}

module _ (P : Head → Type 0) (w : HoldsOfWritten P) where
  effect_has : (c : Configuration) (n : Name) (e : Effect) → HasEverywhere P c → intent_in c n ≡ Acts e → EffectHas P e
  effect_has c n e h intends =
      let x = acting c n e intends in
      subst (IntentHas P) x.2 (intent_has P w (requests_of c n) (λ k r st. h.arguments n k r st) n x.0 (h.activities n x.0 x.1) (chase c.futures) (λ f y p is. h.values y p (chase_finds c.futures f y p is).0))

  has_after : (c : Configuration) (n : Name) (e : Effect) → HasEverywhere P c → EffectHas P e → HasEverywhere P (with_effect n e c)
  has_after c n e h x = record {
    activities = λ m a is. ⊎_elim
        (h.activities m a)
        (λ y. ⊎_elim (λ own. subst (ActivityHas P) own x.own) (λ z. subst (ActivityHas P) z.2 (x.made z.0 z.1)) y)
        (found_after n e.own e.made c.activities m a is);
    arguments = λ m k r st. ⊎_elim
        (h.arguments m k r)
        (λ new. subst (λ q. Each (CellHas P) q.arguments.cells) (sym new.request) (x.sent new.sent new.is))
        (came c n e m k r st);
    values = λ f p is. ⊎_elim
        (h.values f p)
        (λ z. subst (λ q. Each (CellHas P) q.cells) z.2 (x.filled z.0 z.1))
        (value_after e.filled c.futures f p is);
  }

  start_has : (program : Tree) → EachHead P program → HasEverywhere P (start program)
  start_has program h = record {
    activities = λ m a is. ⊎_elim
        (λ old. no_some old)
        (λ y. ⊎_elim (λ own. subst (ActivityHas P) own (record { term = h; services = tt; store = ((tt, tt), tt); lines = tt })) (λ z. no_some z.1) y)
        (found_after main_name (begun program (Object [] [] ∷ [])) None [] m a is);
    arguments = λ m k r st. no_some st;
    values = λ f p is. no_some is;
  }

  step_has : (lists : Option ListsShape) (n : Name) (c d : Configuration) → step lists c n ≡ Some d → HasEverywhere P c → HasEverywhere P d
  step_has lists n c d is h = let x = step_taken lists c n d is in subst (HasEverywhere P) x.2 (has_after c n x.0 h (effect_has c n x.0 h x.1.intends))

  -- a value that is unpacked at places
  unpacked_has : (ns : List ℕ) (s : Store) (p : ParcelShape) → Each (CellHas P) s → Each (CellHas P) p.cells → Each (CellHas P) (unpack_each s ns p)
  unpacked_has [] s p h k = h
  unpacked_has (n ∷ ns) s p h k = unpacked_has ns (unpack_at s n p) p (all_placed (CellHas P) s n (map (moved_cell (place_at (length s) n)) p.cells) h (all_moved P w (place_at (length s) n) p.cells k)) k

  store_has : (c : Configuration) (n : Name) (a : Activity) (t : Store) (d : Configuration) → find name_cmp n c.activities ≡ Some a → d ≡ with_store c n a t → HasEverywhere P c → Each (CellHas P) t → HasEverywhere P d
  store_has c n a t d at is h k =
      let x = h.activities n a at in
      subst (HasEverywhere P) (sym is) (record { activities = found_delivered c n a t at (ActivityHas P) (record { term = x.term; services = x.services; store = k; lines = x.lines }) h.activities; arguments = h.arguments; values = h.values })

  move_has : (move : Move) (c d : Configuration) → Makes move c d → HasEverywhere P c → HasEverywhere P d
  move_has (Steps lists n) c d is h = step_has lists n c d is h
  move_has (Edges f to) c d e h = let is = edge_done c f to d e in store_has c to is.receiver _ d is.at is.result h (unpacked_has (holders_from 0 f is.receiver.store) is.receiver.store is.value (h.activities to is.receiver is.at).store (h.values f is.value is.filled))
  move_has (Needs f to place) c d e h = let is = need_done c f to place d e in store_has c to is.receiver _ d is.at is.result h (unpacked_has (place ∷ []) is.receiver.store is.value (h.activities to is.receiver is.at).store (h.values f is.value (chase_finds c.futures is.held f is.value is.chased).0))

  moves_have : (moves : List Move) (c d : Configuration) → Leads Makes c moves d → HasEverywhere P c → HasEverywhere P d
  moves_have [] c d r h = subst (HasEverywhere P) r h
  moves_have (m ∷ moves) c d r h = moves_have moves r.0 d r.2 (move_has m c r.0 r.1 h)

-- of whatever fact of heads
pub reached_with : (P : Head → Type 0) → HoldsOfWritten P → (program : Tree) (c : Configuration) → EachHead P program → IsReached program c → HasEverywhere P c
reached_with P w program c h reached = moves_have P w reached.moves (start program) c reached.run (start_has P w program h)

pub reached_have : ReachedHave
reached_have test program c w h reached = reached_with (Passes test) w program c h reached

-- Texts

fields_printable : (ls : List Text) → list_all (list_all is_printable) ls ≡ true → Each (LabelHas (Passes has_printable_text)) ls
fields_printable [] h = tt
fields_printable (l ∷ ls) h =
    let p = and_parts (list_all is_printable l) (list_all (list_all is_printable) ls) h in
    (and_from _ _ (and_from _ _ p.0 refl) refl, fields_printable ls p.1)

methods_printable : (ms : List MethodHead) → list_all (λ m. list_all is_printable m.label) ms ≡ true → Each (MethodHas (Passes has_printable_text)) ms
methods_printable [] h = tt
methods_printable (m ∷ ms) h =
    let p = and_parts (list_all is_printable m.label) (list_all (λ x. list_all is_printable x.label) ms) h in
    (and_from _ _ p.0 refl, methods_printable ms p.1)

pub printable_written : HoldsOfWritten (Passes has_printable_text)
printable_written = record {
  loc = λ n. refl;
  make = refl;
  call = λ l. refl;
  serve = refl;
  steps = refl;
  repeat = refl;
  group = refl;
  fields = λ ls ms h. fields_printable ls (and_parts (list_all (list_all is_printable) ls) (list_all (λ m. list_all is_printable m.label) ms) h).0;
  methods = λ ls ms h. methods_printable ms (and_parts (list_all (list_all is_printable) ls) (list_all (λ m. list_all is_printable m.label) ms) h).1;
}

lines_printable : (ls : List LineShape) → Each (LineHas (Passes has_printable_text)) ls → list_all is_printable_line ls ≡ true
lines_printable [] h = refl
lines_printable (NumberLine n ∷ ls) h = lines_printable ls h.1
lines_printable (TextLine text ∷ ls) h = and_from _ _ h.0 (lines_printable ls h.1)

pub lines_are_printable : LinesArePrintable
lines_are_printable program c n a h reached is = lines_printable a.lines ((reached_have has_printable_text program c printable_written h reached).activities n a is).lines
