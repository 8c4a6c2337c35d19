use Rattle.std.proofs.Common.{◌≡◌, ℕ, suc, List, [], ◌∷◌, ◌++◌, drop, map, add-one, append_assoc, sym, ap, ◌∙◌}
use Rattle.std.proofs.lemmas.List.{append-nil, map-append}
use Rattle.asp_model.specs.declared.term.Term.{Term}
use Rattle.asp_model.specs.Names.{Text}
use Rattle.asp_model.specs.Shapes.{tree_of}
use Rattle.asp_model.specs.Term.{Call, Tree, loc, node, trees}
use Rattle.step_machine.specs.declared.frames.Spread.{Spread}
use Rattle.step_machine.specs.Calls.{rounds}
use Rattle.code_reading.specs.Groups.{call_trees}
use Rattle.code_reading.proofs.GroupLemmas.{call_is, calls_over}
use Rattle.code_reading.proofs.groups.with_calls.Goals as goal

pub loop-i-preserved : goal.loop-i-preserved
loop-i-preserved c = λ k number x given.
    let s : Spread = c.args.spread in
    let label : Text = c.args.found.label.now.text in
    let i : ℕ = c.loop-i.i in
    let all : List (List ℕ) = rounds s x.given x.receivers x.beside in
    let old : List Term = c.loop-i.terms.items in
    let t : Term = c.in_ok-call_of.field-0 in
    let here : call_trees label (drop i all) ≡ node (Call label) (trees (map loc c.in_ok-places.places.items)) ∷ call_trees label (drop (suc i) all) =
    call_is k s number c.args.members c.args.own.now x i c.in-Some.round c.args.found.given label c.in_ok-places.places.items given c.loop-i-test.true c.in-Some.ensures.round c.in_ok-places.ensures.places in
    let tree : tree_of t ≡ node (Call label) (trees (map loc c.in_ok-places.places.items)) = c.in_ok-call_of.ensures.call ∙ ap (λ (ns : List ℕ). node (Call label) (trees (map loc ns))) c.deref.ensures.value in
    let grown : map tree_of c.push.new.self.items ≡ map tree_of old ++ tree_of t ∷ [] = ap (map tree_of) c.in_ok-push.ensures.items ∙ map-append tree_of old (t ∷ []) in
    (λ j. grown j ++ call_trees label (drop (add-one i j) all))
    ∙ append_assoc (map tree_of old) (tree_of t ∷ []) (call_trees label (drop (suc i) all))
    ∙ ap (λ (u : Tree). map tree_of old ++ (u ∷ call_trees label (drop (suc i) all))) tree
    ∙ ap (λ (us : List Tree). map tree_of old ++ us) (sym here)
    ∙ c.loop-i.invariant k number x given

pub returns : goal.returns
returns c = record {
  calls = λ k number x given.
      let s : Spread = c.args.spread in
      let label : Text = c.args.found.label.now.text in
      let over : call_trees label (drop c.loop-i.i (rounds s x.given x.receivers x.beside)) ≡ [] = calls_over k s number c.args.members c.args.own.now x c.loop-i.i label c.loop-i-test.false in
      sym (append-nil (map tree_of c.loop-i.terms.items)) ∙ ap (λ (us : List Tree). map tree_of c.loop-i.terms.items ++ us) (sym over) ∙ c.loop-i.invariant k number x given;
}
