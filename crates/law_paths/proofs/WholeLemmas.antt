-- What every reached configuration has: the start has it, and each move keeps it.
use Rattle.std.specs.Prelude.{◌≡◌, List, [], ◌∷◌, Option, Some}
use Rattle.std.proofs.Common.{refl, sym, ap, subst, ◌∙◌, ⊎_elim}
use Rattle.std.specs.FinMap.{find}
use Rattle.law_steps.specs.Systems.{Leads}
use Rattle.asp_model.specs.Names.{Name, name_cmp, main_name}
use Rattle.asp_model.specs.Term.{Tree}
use Rattle.asp_model.specs.Store.{Object, Store}
use Rattle.asp_model.specs.Contraction.{is_future}
use Rattle.asp_model.specs.Chase.{chase}
use Rattle.asp_model.specs.Configuration.{Activity, Configuration, start, begun, requests_of}
use Rattle.asp_model.specs.Intent.{Effect, Acts}
use Rattle.asp_model.specs.Step.{ListsShape, intent_in, step}
use Rattle.def_journals.specs.Deliveries.{with_store}
use Rattle.law_steps.specs.Reached.{IsAt, Move, Steps, Edges, Needs, Makes}
use Rattle.law_steps.proofs.NameLemmas.{name_total, name_same, name_case}
use Rattle.law_chases.proofs.FutureLemmas.{no_some, some_is}
use Rattle.law_chases.proofs.MapLemmas as Maps
use Rattle.law_steps.proofs.StepLemmas.{step_taken}
use Rattle.law_chases.proofs.ChaseLemmas.{chase_finds}
use Rattle.law_steps.proofs.LinkedLemmas.{acting, found_after}
use Rattle.law_steps.proofs.DeliveryLemmas.{found_delivered, edge_done, need_done}
use Rattle.law_steps.proofs.WholeLemmas.{start_is_sound, moves_keep_sound, start_is_closed, moves_keep_closed}
use Rattle.law_paths.specs.Whole.{IsWhole, StartIsWhole, MovesKeepWhole, ReachedAreWhole, EntriesKeepWhole}
use Rattle.law_journals.proofs.JournalLemmas.{entries_keep}
use Rattle.law_paths.proofs.FitLemmas.{whole_fit}
use Rattle.law_paths.proofs.ActiveLemmas.{ActivePlain, EffectPlain, acts_plain}
use Rattle.law_paths.proofs.FirstLemmas.{Unchanged, edge_unchanged, need_unchanged}

abbrev first : Tree → Activity
first program = begun program (Object [] [] ∷ [])

pub start_is_whole : StartIsWhole
start_is_whole program none = record {
  sound = start_is_sound program;
  closed = start_is_closed program none;
  active = λ n a at. ⊎_elim
      (λ same. subst ActivePlain (some_is (sym (Maps.find_same name_cmp name_total name_same main_name (first program) []) ∙ ap (λ m. find name_cmp m (start program).activities) (sym same) ∙ at)) refl)
      (λ apart. no_some (sym (Maps.find_other name_cmp name_total name_same n main_name (first program) [] apart) ∙ at))
      (name_case n main_name);
}

-- Active objects

abbrev AllActive : Configuration → Type 0
AllActive c = (n : Name) (a : Activity) → IsAt c n a → ActivePlain a

effect_plain : (c : Configuration) (n : Name) (e : Effect) → IsWhole c → intent_in c n ≡ Acts e → EffectPlain e
effect_plain c n e w intends =
    let a = acting c n e intends in
    acts_plain (requests_of c n) n a.0 (w.closed.activities n a.0 a.1) (w.active n a.0 a.1) (chase c.futures) (λ f y p is. (w.closed.values y p (chase_finds c.futures f y p is).0).closed) e a.2

step_active : (lists : Option ListsShape) (n : Name) (c d : Configuration) → IsWhole c → step lists c n ≡ Some d → AllActive d
step_active lists n c d w is =
    let x = step_taken lists c n d is in
    let e = x.0 in
    let plain = effect_plain c n e w x.1.intends in
    subst AllActive x.2 (λ m a at. ⊎_elim
    (w.active m a)
    (λ y. ⊎_elim (λ own. subst ActivePlain own plain.0) (λ z. subst ActivePlain z.2 (plain.1 z.0 z.1)) y)
    (found_after n e.own e.made c.activities m a at))

store_active : (c : Configuration) (n : Name) (a : Activity) (t : Store) (d : Configuration) → find name_cmp n c.activities ≡ Some a → d ≡ with_store c n a t → IsWhole c → Unchanged c.futures a.store t → AllActive d
store_active c n a t d at is w x = subst AllActive (sym is) (found_delivered c n a t at ActivePlain (ap is_future (x.stays a.active (w.closed.activities n a at).active (w.active n a at)) ∙ w.active n a at) w.active)

move_active : (move : Move) (c d : Configuration) → IsWhole c → Makes move c d → AllActive d
move_active (Steps lists n) c d w h = step_active lists n c d w h
move_active (Edges f to) c d w h = let x = edge_done c f to d h in store_active c to x.receiver _ d x.at x.result w (edge_unchanged c d f to (whole_fit c w) x)
move_active (Needs f to place) c d w h = let x = need_done c f to place d h in store_active c to x.receiver _ d x.at x.result w (need_unchanged c d f to place (whole_fit c w) x)

pub moves_keep_whole : MovesKeepWhole
moves_keep_whole move c d w h = record {
  sound = moves_keep_sound move c d w.sound h;
  closed = moves_keep_closed move c d w.closed h;
  active = move_active move c d w h;
}

all_keep_whole : (moves : List Move) (c d : Configuration) → IsWhole c → Leads Makes c moves d → IsWhole d
all_keep_whole [] c d w h = subst IsWhole h w
all_keep_whole (m ∷ moves) c d w h = all_keep_whole moves h.0 d (moves_keep_whole m c h.0 w h.1) h.2

pub reached_are_whole : ReachedAreWhole
reached_are_whole program c none r = all_keep_whole r.moves (start program) c (start_is_whole program none) r.run

pub entries_keep_whole : EntriesKeepWhole
entries_keep_whole entries s t e w = entries_keep IsWhole moves_keep_whole entries s t e w
