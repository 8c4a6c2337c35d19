use Rattle.std.proofs.Common.{◌≡◌, ◌++◌, List, ℕ, drop, length, map, sym, ap, ◌∙◌}
use Rattle.asp_model.specs.Names.{Text}
use Rattle.asp_model.specs.Shapes.{tree_of}
use Rattle.asp_model.specs.Term.{Tree, loc}
use Rattle.code_table.proofs.TermTrees.{group_is}
use Rattle.step_machine.specs.Calls.{rounds}
use Rattle.code_reading.specs.Groups.{call_trees}
use Rattle.code_reading.proofs.GroupLemmas.{dealt_is}
use Rattle.code_reading.proofs.groups.dealt_term.Goals as goal

pub returns : goal.returns
returns c = record {
  term = λ t d.
      let label : Text = c.in-Some.found.label.now.text in
      let all : List (List ℕ) = rounds c.args.spread d.laid.given d.laid.receivers d.laid.beside in
      let given : length d.laid.given ≡ c.in-Some.found.given = d.laid.given_size ∙ sym c.in-Some.ensures.given in
      let are : map tree_of c.in_ok-terms.terms.items ≡ map loc d.laid.results ++ call_trees label (drop (length d.laid.results) all) =
      c.in_ok-terms.ensures.calls c.args.code.now c.args.number d.laid given
      ∙ ap (λ (ts : List Tree). ts ++ call_trees label (drop (length c.in-Some.found.results.now) all)) c.in_ok-results.ensures.locations
      ∙ ap (λ (ns : List ℕ). map loc ns ++ call_trees label (drop (length ns) all)) (c.in-Some.ensures.results d.laid) in
      group_is c.in_ok-terms.terms c.blank.result
      ∙ dealt_is c.args.code.now c.args.spread c.args.own.now c.args.number c.args.members t label (map tree_of c.in_ok-terms.terms.items) d c.in-Some.ensures.label are;
}
