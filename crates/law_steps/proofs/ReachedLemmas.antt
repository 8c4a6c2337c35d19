-- Reached configurations keep what a step keeps.
use Rattle.std.specs.Prelude.{◌≡◌, List, [], ◌∷◌, ◌++◌, Option, Some}
use Rattle.std.proofs.Common.{refl, sym, subst}
use Rattle.law_steps.specs.Systems.{Leads}
use Rattle.asp_model.specs.Names.{Name}
use Rattle.asp_model.specs.Term.{Tree}
use Rattle.asp_model.specs.Configuration.{Configuration, start}
use Rattle.asp_model.specs.Step.{ListsShape, step}
use Rattle.law_steps.specs.Reached.{Move, Steps, Edges, Needs, Makes, IsReached, RunsTo}
use Rattle.law_steps.proofs.StepLemmas.{step_taken}
use Rattle.law_steps.proofs.SoundLemmas.{Sound}
use Rattle.law_steps.proofs.KeptLemmas.{sound_after}
use Rattle.law_steps.proofs.StartLemmas.{sound_start}
use Rattle.law_steps.proofs.ExactLemmas.{Exact, exact_start, exact_after}
use Rattle.law_steps.proofs.TidyLemmas.{Tidy, tidy_start, tidy_after}
use Rattle.std.specs.FinMap.{find}
use Rattle.asp_model.specs.Names.{name_cmp}
use Rattle.asp_model.specs.Store.{Store}
use Rattle.asp_model.specs.Configuration.{Activity}
use Rattle.def_journals.specs.Deliveries.{with_store}
use Rattle.law_steps.proofs.DeliveryLemmas.{sound_delivered, exact_delivered, tidy_delivered, edge_done, need_done}
use Rattle.law_steps.proofs.CommuteLemmas.{took}

pub leads_on : {S L : Type 0} (R : L → S → S → Type 0) (ns ms : List L) (c d e : S) → Leads R c ns d → Leads R d ms e → Leads R c (ns ++ ms) e
leads_on R [] ms c d e r s = subst (λ x. Leads R x ms e) (sym r) s
leads_on R (n ∷ ns) ms c d e r s = (r.0, r.1, leads_on R ns ms r.0 d e r.2 s)

pub start_is_reached : (program : Tree) → IsReached program (start program)
start_is_reached program = record { moves = []; run = refl }

pub moves_go_on : (program : Tree) (c d : Configuration) (move : Move) → IsReached program c → Makes move c d → IsReached program d
moves_go_on program c d move r m = record { moves = r.moves ++ move ∷ []; run = leads_on Makes r.moves (move ∷ []) (start program) c d r.run (d, m, refl) }

pub runs_go_on : (program : Tree) (lists : Option ListsShape) (names : List Name) (c d : Configuration) → IsReached program c → RunsTo lists c names d → IsReached program d
runs_go_on program lists [] c d r s = subst (IsReached program) s r
runs_go_on program lists (n ∷ names) c d r s = runs_go_on program lists names s.0 d (moves_go_on program c s.0 (Steps lists n) r s.1) s.2

-- What is sound, exact and tidy

pub record Right (c : Configuration) : Type 0 where
  pub sound : Sound c
  pub exact : Exact c
  pub tidy : Tidy c

pub step_right : (lists : Option ListsShape) (n : Name) (c d : Configuration) → step lists c n ≡ Some d → Right c → Right d
step_right lists n c d h r =
    let x = step_taken lists c n d h in
    let t = took lists c n x.0 r.sound x.1 in
    subst Right x.2 (record { sound = sound_after c n x.0 t; exact = exact_after c n x.0 t r.exact; tidy = tidy_after lists c n x.0 t x.1 r.tidy })

store_right : (c : Configuration) (n : Name) (a : Activity) (t : Store) (d : Configuration) → find name_cmp n c.activities ≡ Some a → d ≡ with_store c n a t → Right c → Right d
store_right c n a t d at is r = subst Right (sym is) (record { sound = sound_delivered c n a t at r.sound; exact = exact_delivered c n a t at r.exact; tidy = tidy_delivered c n a t at r.tidy })

pub move_right : (move : Move) (c d : Configuration) → Makes move c d → Right c → Right d
move_right (Steps lists n) c d h r = step_right lists n c d h r
move_right (Edges f to) c d h r = let x = edge_done c f to d h in store_right c to x.receiver _ d x.at x.result r
move_right (Needs f to place) c d h r = let x = need_done c f to place d h in store_right c to x.receiver _ d x.at x.result r

moves_right : (moves : List Move) (c d : Configuration) → Leads Makes c moves d → Right c → Right d
moves_right [] c d r h = subst Right r h
moves_right (m ∷ moves) c d r h = moves_right moves r.0 d r.2 (move_right m c r.0 r.1 h)

pub start_right : (program : Tree) → Right (start program)
start_right program = record { sound = sound_start program; exact = exact_start program; tidy = tidy_start program }

pub reached_right : (program : Tree) (c : Configuration) → IsReached program c → Right c
reached_right program c r = moves_right r.moves (start program) c r.run (start_right program)

pub reached_sound : (program : Tree) (c : Configuration) → IsReached program c → Sound c
reached_sound program c r = (reached_right program c r).sound
