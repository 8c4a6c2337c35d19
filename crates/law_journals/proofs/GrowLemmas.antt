-- Who is there stays there, and what was begun stays begun.
use Rattle.std.specs.Prelude.{◌≡◌, Option, Some}
use Rattle.std.proofs.Common.{sym, ap, subst, ◌∙◌, arith}
use Rattle.std.specs.FinMap.{find}
use Rattle.asp_model.specs.Names.{Name, FutureShape, name_cmp}
use Rattle.asp_model.specs.Store.{Store}
use Rattle.asp_model.specs.Configuration.{Activity, Configuration}
use Rattle.asp_model.specs.Step.{ListsShape, step, with_effect}
use Rattle.def_journals.specs.Deliveries.{with_store}
use Rattle.law_steps.specs.Reached.{Move, Steps, Edges, Needs, Makes, IsThere}
use Rattle.law_steps.specs.Kept.{IsBegun}
use Rattle.law_steps.specs.Sound.{IsSound}
use Rattle.law_steps.proofs.StepLemmas.{step_taken}
use Rattle.law_steps.proofs.CommuteLemmas.{took}
use Rattle.law_steps.proofs.KeptLemmas.{sends_grow}
use Rattle.law_steps.proofs.ExactLemmas.{here_after}
use Rattle.law_steps.proofs.NamesLaws.{sends_at}
use Rattle.law_steps.proofs.DeliveryLemmas.{same_there, same_face, edge_done, need_done}
use Rattle.law_steps.proofs.WholeLemmas.{right_of}

pub record Grows (c d : Configuration) : Type 0 where
  pub there : (n : Name) → IsThere c n → IsThere d n
  pub begun : (f : FutureShape) → IsBegun c f → IsBegun d f

pub grows_itself : (c : Configuration) → Grows c c
grows_itself c = record { there = λ n h. h; begun = λ f h. h }

pub grows_then : (c d e : Configuration) → Grows c d → Grows d e → Grows c e
grows_then c d e x y = record { there = λ n h. y.there n (x.there n h); begun = λ f h. y.begun f (x.begun f h) }

pub step_grows : (lists : Option ListsShape) (n : Name) (c d : Configuration) → IsSound c → step lists c n ≡ Some d → Grows c d
step_grows lists n c d s h =
    let x = step_taken lists c n d h in
    let t = took lists c n x.0 (right_of c s).sound x.1 in
    subst (Grows c) x.2 (record {
      there = λ m there. here_after c n x.0 m there;
      begun = λ f b. (b.0, omega (arith, b.1, sends_at c f.by, sends_at (with_effect n x.0 c) f.by, sends_grow c n x.0 t f.by));
    })

store_grows : (c : Configuration) (n : Name) (a : Activity) (t : Store) (d : Configuration) → find name_cmp n c.activities ≡ Some a → d ≡ with_store c n a t → Grows c d
store_grows c n a t d at is = subst (Grows c) (sym is) (record {
  there = λ m h. same_there c n a t at m ∙ h;
  begun = λ f b. (b.0, omega (arith, b.1, sends_at c f.by, sends_at (with_store c n a t) f.by, ap (λ x. x.sends) (same_face c n a t at f.by)));
})

pub move_grows : (move : Move) (c d : Configuration) → IsSound c → Makes move c d → Grows c d
move_grows (Steps lists n) c d s h = step_grows lists n c d s h
move_grows (Edges f to) c d s h = let x = edge_done c f to d h in store_grows c to x.receiver _ d x.at x.result
move_grows (Needs f to place) c d s h = let x = need_done c f to place d h in store_grows c to x.receiver _ d x.at x.result
