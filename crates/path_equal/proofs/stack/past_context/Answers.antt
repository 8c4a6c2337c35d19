use Rattle.std.proofs.Common.{◌≡◌, List, ℕ, ap, drop, subst, sym, take, ◌∙◌}
use Rattle.step_machine.specs.Items.{Waits}
use Rattle.step_machine.specs.Stacks.{IsItem, last}
use Rattle.path_equal.specs.declared.stack.Part.{Part}
use Rattle.path_equal.specs.Contexts.{part_places}
use Rattle.path_equal.specs.Searches.{searched}
use Rattle.path_equal.proofs.StackLemmas.{item_own, round_found}
use Rattle.path_equal.proofs.stack.past_context.Goals as goal

pub returns-in-Whole : goal.returns-in-Whole
returns-in-Whole c = record {
  searched = λ x item.
      let k = c.args.code.now in
      let f = c.args.frame in
      let ns : List ℕ = drop f.base (take f.height c.args.cursor.now.env.now) in
      let own : List ℕ = last f.done c.args.cursor.now.operands.now in
      let ns_are : c.behind-places.result.now ≡ ns = c.behind-places.ensures.places ∙ ap (drop f.base) c.up_to.ensures.places in
      let own_is : c.last_of-own.result.now ≡ own = c.last_of-own.ensures.places in
      let here : IsItem k c.behind-places.result.now c.last_of-own.result.now f.form f.node f.from (Waits x) =
      subst (λ (l : List ℕ). IsItem k l c.last_of-own.result.now f.form f.node f.from (Waits x)) (sym ns_are) (subst (λ (l : List ℕ). IsItem k ns l f.form f.node f.from (Waits x)) (sym own_is) item) in
      round_found x c.args.search c.past_before-search.result c.past_after-in-Whole.result (item_own k ns own f.form f.node f.from x item) (c.past_before-search.ensures.searched c.behind-places.result.now x here) (c.past_after-in-Whole.ensures.searched x here)
      ∙ sym (ap (λ (p : Part). searched (part_places p x) c.args.search) c.in-Whole.is);
}
