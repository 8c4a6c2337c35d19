use Rattle.std.proofs.Common.{◌∙◌, sym}
use Rattle.asp_model.specs.Shapes.{tree_of}
use Rattle.term_opening.specs.Opening.{emptied_node}
use Rattle.term_opening.proofs.NameableLemmas.{opens}
use Rattle.term_opening.proofs.opened.open.Goals as goal

pub returns-clause-opened : goal.returns-clause-opened
returns-clause-opened c =
    opens (emptied_node (tree_of c.args.term)) _ _ _ _ c.requires.proper c.new-naming.ensures.places c.new-naming.ensures.clash
    c.in_ok-left.ensures.emptied c.in_ok-named.ensures.noted (sym c.clash.ensures.clash ∙ c.if-clash.false)
    c.in_ok-names.ensures.small c.in_ok-names.ensures.names c.in_ok-names.ensures.places c.in_ok-named.ensures.named
