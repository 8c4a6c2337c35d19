-- What a sound checkpoint asks of activities is kept by each move from the start of a program on.
use Rattle.std.specs.Prelude.{◌≡◌, List, [], ◌∷◌, Option, Some, None}
use Rattle.std.proofs.Common.{refl, sym, subst, ⊎_elim}
use Rattle.std.specs.FinMap.{find}
use Rattle.asp_model.specs.Names.{Name, name_cmp, main_name}
use Rattle.asp_model.specs.Marked.{Marked, plain}
use Rattle.asp_model.specs.Store.{Object, Store, cell}
use Rattle.asp_model.specs.Chase.{chase}
use Rattle.asp_model.specs.Configuration.{Activity, Configuration, begun, requests_of, start}
use Rattle.asp_model.specs.Intent.{Acts, Effect}
use Rattle.asp_model.specs.Step.{ListsShape, intent_in, step, with_effect}
use Rattle.asp_check.proofs.PlaceLemmas.{readable_has_no_places}
use Rattle.def_journals.specs.Deliveries.{with_store}
use Rattle.law_chases.proofs.ChaseLemmas.{chase_finds}
use Rattle.law_chases.proofs.FutureLemmas.{no_some}
use Rattle.law_steps.specs.Reached.{Move, Steps, Edges, Needs, Makes, IsAt, IsReached}
use Rattle.law_steps.specs.Systems.{Leads}
use Rattle.law_steps.proofs.DeliveryLemmas.{found_delivered, edge_done, need_done}
use Rattle.law_steps.proofs.LinkedLemmas.{acting, found_after}
use Rattle.law_steps.proofs.StepLemmas.{step_taken}
use Rattle.law_paths.specs.Whole.{IsWhole}
use Rattle.law_paths.proofs.FirstLemmas.{Unchanged, edge_unchanged, need_unchanged}
use Rattle.law_paths.proofs.FitLemmas.{whole_fit}
use Rattle.law_paths.proofs.WholeLemmas as whole
use Rattle.law_programs.specs.Programs.{IsSoundProgram}
use Rattle.law_programs.specs.Proper.{IsProperThroughout}
use Rattle.law_programs.proofs.ReachedLemmas.{start_proper, move_proper}
use Rattle.law_programs.proofs.WholeLaws.{programs_are_proper}
use Rattle.law_checkpoints.specs.Sound.{IsObject}
use Rattle.law_checkpoints.proofs.LookLemmas.{no_future}
use Rattle.law_checkpoints.proofs.ServiceLemmas.{HasServices, EffectServes, intent_serves}
use Rattle.law_checkpoints.proofs.MainLemmas.{LeavesMain, main_start, move_leaves}
use Rattle.law_checkpoints.proofs.ObjectLemmas.{HasObject, EffectKeeps, intent_keeps}

-- what an activity has
pub record IsKept (a : Activity) : Type 0 where
  pub services : HasServices a
  pub object : HasObject a

pub record IsSavable (c : Configuration) : Type 0 where
  pub whole : IsWhole c
  pub proper : IsProperThroughout c
  pub main : LeavesMain c
  pub activities : (n : Name) (a : Activity) → IsAt c n a → IsKept a

abbrev AllKept : Configuration → Type 0
AllKept c = (n : Name) (a : Activity) → IsAt c n a → IsKept a

start_kept : (program : Marked) → AllKept (start (plain program))
start_kept program m a is = ⊎_elim
    (λ old. no_some old)
    (λ x. ⊎_elim (λ own. subst IsKept own (record { services = record { contexts = tt; answers = refl }; object = tt })) (λ z. no_some z.1) x)
    (found_after main_name (begun (plain program) (Object [] [] ∷ [])) None [] m a is)

-- Moves

module _ (c : Configuration) (h : IsSavable c) where
  module _ (n : Name) (e : Effect) (intends : intent_in c n ≡ Acts e) where
    serves : EffectServes e
    serves = let a = acting c n e intends in intent_serves (requests_of c n) n a.0 (h.activities n a.0 a.1).services (chase c.futures) e a.2

    keeps : EffectKeeps e
    keeps = let a = acting c n e intends in
        intent_keeps (requests_of c n) n a.0 (h.whole.closed.activities n a.0 a.1) (h.activities n a.0 a.1).object (chase c.futures) (λ f y p is. (h.whole.closed.values y p (chase_finds c.futures f y p is).0).closed) e a.2

    after_kept : AllKept (with_effect n e c)
    after_kept m a is = ⊎_elim
        (h.activities m a)
        (λ x. ⊎_elim
        (λ own. subst IsKept own (record { services = serves.0; object = keeps.0 }))
        (λ z. subst IsKept z.2 (record { services = serves.1 z.0 z.1; object = keeps.1 z.0 z.1 }))
        x)
        (found_after n e.own e.made c.activities m a is)

  step_kept : (lists : Option ListsShape) (n : Name) (d : Configuration) → step lists c n ≡ Some d → AllKept d
  step_kept lists n d is = let x = step_taken lists c n d is in subst AllKept x.2 (after_kept n x.0 x.1.intends)

  store_kept : (n : Name) (a : Activity) (t : Store) (d : Configuration) → find name_cmp n c.activities ≡ Some a → d ≡ with_store c n a t → Unchanged c.futures a.store t → AllKept d
  store_kept n a t d at is x = subst AllKept (sym is) (found_delivered c n a t at IsKept own h.activities)
    where
      old : IsKept a
      old = h.activities n a at

      own : IsKept (record a { store = t })
      own = record {
        services = record { contexts = old.services.contexts; answers = old.services.answers };
        object = subst IsObject (sym (x.stays a.active (h.whole.closed.activities n a at).active (no_future (cell a.store a.active) old.object))) old.object;
      }

  move_kept : (move : Move) (d : Configuration) → Makes move c d → AllKept d
  move_kept (Steps lists n) d is = step_kept lists n d is
  move_kept (Edges f to) d is = let x = edge_done c f to d is in store_kept to x.receiver _ d x.at x.result (edge_unchanged c d f to (whole_fit c h.whole) x)
  move_kept (Needs f to place) d is = let x = need_done c f to place d is in store_kept to x.receiver _ d x.at x.result (need_unchanged c d f to place (whole_fit c h.whole) x)

  move_savable : (move : Move) (d : Configuration) → Makes move c d → IsSavable d
  move_savable move d is = record {
    whole = whole.moves_keep_whole move c d h.whole is;
    proper = move_proper move c d is h.proper;
    main = move_leaves move c d is h.main;
    activities = move_kept move d is;
  }

start_savable : (program : Marked) → IsSoundProgram program → IsSavable (start (plain program))
start_savable program h = record {
  whole = whole.start_is_whole (plain program) (readable_has_no_places (plain program) h.readable);
  proper = start_proper (plain program) (programs_are_proper program h);
  main = main_start (plain program);
  activities = start_kept program;
}

all_savable : (moves : List Move) (c d : Configuration) → IsSavable c → Leads Makes c moves d → IsSavable d
all_savable [] c d h r = subst IsSavable r h
all_savable (m ∷ moves) c d h r = all_savable moves r.0 d (move_savable c h m r.0 r.1) r.2

pub reached_are_savable : (program : Marked) (c : Configuration) → IsSoundProgram program → IsReached (plain program) c → IsSavable c
reached_are_savable program c h r = all_savable r.moves (start (plain program)) c (start_savable program h) r.run
