-- A state from its machine, its store and its output.
use Rattle.std.proofs.Common.{◌≡◌, List, ◌++◌, map, reverse, ap, subst, ◌∙◌}
use Rattle.std.proofs.lemmas.List.{append_assoc}
use Rattle.asp_model.specs.Configuration.{ServiceShape}
use Rattle.asp_model.specs.Contraction.{LineShape}
use Rattle.asp_model.specs.Shapes.{line_shape}
use Rattle.asp_model.specs.Split.{Context, plug}
use Rattle.asp_model.specs.Store.{CellShape}
use Rattle.asp_model.specs.Term.{Tree}
use Rattle.code_table.specs.Cells.{CodedStore}
use Rattle.code_table.specs.declared.code.Node.{Node}
use Rattle.code_table.specs.Shapes.{store_of}
use Rattle.step_machine.specs.Standing.{Standing, View, view_of}
use Rattle.frozen_code.specs.Restoring.{HoldAll, HoldServices, HoldsInnermost}
use Rattle.frozen_code.specs.declared.held.Held.{Held}
use Rattle.frozen_code.specs.declared.machines.Innermost.{Innermost}
use Rattle.frozen_code.specs.declared.machines.Suspended.{Suspended}
use Rattle.activity_step.specs.declared.state.State.{State}
use Rattle.checkpoint_makes.specs.declared.terms.MadeTerm.{MadeTerm}
use Rattle.checkpoint_makes.specs.Later.{AreMadeFrom}
use Rattle.checkpoint_makes.specs.Terms.{AreMadeServices, IsMadeTerm}
use Rattle.checkpoint_makes.proofs.HeldLemmas.{hold_stay, inner_stays, services_stay}
use Rattle.checkpoint_makes.proofs.MadeLemmas.{grows_on}
use Rattle.checkpoint_states.specs.States.{IsMadeState}

-- what a machine stands for that was restored from these
abbrev pub Restored : List Suspended → List Held → Innermost → View → Type 0
Restored suspended contexts inner v = (k : List Node) (vs : List ServiceShape) (cs : List Context) (t : Tree) → HoldServices k suspended vs → HoldAll k contexts (reverse cs) → HoldsInnermost k inner t → Standing k v (plug cs t) (reverse vs)

pub state_made : (n0 n1 n2 n3 : List Node) (xs : List Suspended) (vs : List ServiceShape) (term : MadeTerm) (t : Tree) (ds : CodedStore) (cs : List CellShape) (ls : List LineShape) (x : State)
    → AreMadeServices n0 n1 xs vs → IsMadeTerm n1 n2 term t → AreMadeFrom n2 n3 ds cs → Restored xs term.contexts.items term.innermost (view_of x.machine) → x.store.cells ≡ ds → map line_shape x.lines.items ≡ ls
    → IsMadeState n0 n3 x t vs cs ls
state_made n0 n1 n2 n3 xs vs term t ds cs ls x services made cells restored store lines = record {
  grows = grows_on n0 n1 n3 services.grows (grows_on n1 n2 n3 made.grows cells.grows);
  made = λ added sound.
      let k : List Node = n3 ++ added in
      let last : List Node = cells.grows.added ++ added in
      let from2 : k ≡ n2 ++ last = ap (λ ns. ns ++ added) cells.grows.grown ∙ append_assoc n2 cells.grows.added added in
      let from1 : k ≡ n1 ++ (made.grows.added ++ last) = from2 ∙ ap (λ ns. ns ++ last) made.grows.grown ∙ append_assoc n1 made.grows.added last in
      let waiting : HoldServices k xs vs = services_stay n1 k xs vs (made.grows.added ++ last) from1 services.holds in
      let round : HoldAll k term.contexts.items (reverse made.holds.contexts) = hold_stay n2 k term.contexts.items (reverse made.holds.contexts) last from2 made.holds.round in
      let inner : HoldsInnermost k term.innermost made.holds.inner = inner_stays n2 k term.innermost made.holds.inner last from2 made.holds.innermost in
      record {
        machine = subst (λ u. Standing k (view_of x.machine) u (reverse vs)) made.holds.term (restored k vs made.holds.contexts made.holds.inner waiting round inner);
        store = ap (store_of k) store ∙ cells.made added sound;
        lines = lines;
      };
}
