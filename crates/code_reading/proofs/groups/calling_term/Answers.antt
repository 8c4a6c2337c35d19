use Rattle.std.proofs.Common.{◌≡◌, ◌++◌, ◌∷◌, [], List, ℕ, suc, drop, length, map, sym, ap, ◌∙◌, arith}
use Rattle.std.proofs.lemmas.List.{map-append}
use Rattle.asp_model.specs.declared.term.Term.{Term}
use Rattle.asp_model.specs.declared.term.Term.TheVariants as shown
use Rattle.asp_model.specs.Names.{Text}
use Rattle.asp_model.specs.Shapes.{tree_of}
use Rattle.asp_model.specs.Term.{Hole, leaf, loc}
use Rattle.code_table.proofs.TermTrees.{group_is, hole_is}
use Rattle.step_machine.specs.Calls.{rounds}
use Rattle.code_reading.specs.Groups.{call_trees}
use Rattle.code_reading.proofs.GroupLemmas.{calling_is}
use Rattle.code_reading.proofs.groups.calling_term.Goals as goal

pub returns : goal.returns
returns c = record {
  context = λ context d.
      let label : Text = c.in-Some.found.label.now.text in
      let found : List ℕ = c.in-Some.found.results.now in
      let all : List (List ℕ) = rounds c.args.spread d.laid.given d.laid.receivers d.laid.beside in
      let given : length d.laid.given ≡ c.in-Some.found.given = d.laid.given_size ∙ sym c.in-Some.ensures.given in
      let next : c.in-Some-checked_add.first ≡ suc (length found) = omega (arith, c.in-Some-checked_add.ensures) in
      let hole : Term = shown.Hole c.blank.result in
      let before : map tree_of c.push.new.self.items ≡ map loc found ++ leaf Hole ∷ [] =
      ap (map tree_of) c.in_ok-push.ensures.items ∙ map-append tree_of c.in_ok-results.results.items (hole ∷ [])
      ∙ (λ i. c.in_ok-results.ensures.locations i ++ hole_is c.blank.result i ∷ []) in
      let are : map tree_of c.in_ok-terms.terms.items ≡ (map loc d.laid.results ++ leaf Hole ∷ []) ++ call_trees label (drop (suc (length d.laid.results)) all) =
      c.in_ok-terms.ensures.calls c.args.code.now c.args.number d.laid given
      ∙ (λ i. before i ++ call_trees label (drop (next i) all))
      ∙ ap (λ (ns : List ℕ). (map loc ns ++ leaf Hole ∷ []) ++ call_trees label (drop (suc (length ns)) all)) (c.in-Some.ensures.results d.laid) in
      group_is c.in_ok-terms.terms c.blank-2.result
      ∙ calling_is c.args.code.now c.args.spread c.args.own.now c.args.number c.args.members context label (map tree_of c.in_ok-terms.terms.items) d c.in-Some.ensures.label are;
}
