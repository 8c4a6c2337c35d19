use Rattle.std.proofs.Common.{◌≡◌, ◌∙◌, ap, sym, None}
use Rattle.std.specs.Prelude.{is_some}
use Rattle.asp_check.specs.Sets.{arity_in}
use Rattle.asp_check.specs.Walk.{arity_of}
use Rattle.asp_check.proofs.Arities.{first_known, first_added, arity_in-insert, none_if}
use Rattle.asp_check.proofs.arity.add_first.Goals as goal

pub returns-in_ok-insert : goal.returns-in_ok-insert
returns-in_ok-insert c =
    let lacked : arity_in c.args.arities.now c.args.place.label.now ≡ None = sym c.known_arity.ensures ∙ none_if c.known_arity.result c.if-is_none.ensures in
    first_added (arity_of c.args.place) c.args.arities.now c.insert.new.self lacked (arity_in-insert c.args.arities.now c.insert.new.self c.args.place.label.now _ c.in_ok-insert.ensures.updates)

pub returns-else-is_none : goal.returns-else-is_none
returns-else-is_none c = first_known (arity_of c.args.place) c.args.arities.now (sym (ap is_some c.known_arity.ensures) ∙ c.if-is_none.ensures)
