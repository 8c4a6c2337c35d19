use Rattle.std.proofs.Common.{◌≡◌, List, sym, subst}
use Rattle.code_table.specs.declared.code.Node.{Node}
use Rattle.code_table.specs.Tables.{node_piece, piece_at, pieces}
use Rattle.code_laws.proofs.NodeLemmas.{is_term}
use Rattle.step_machine.specs.Standing.{View, Standing, view_of}
use Rattle.step_machine.proofs.MoveLemmas.{entered}
use Rattle.step_machine.proofs.SiteLemmas.{nested_gives}
use Rattle.step_machine.proofs.machine.Machine.meet.Goals as goal

pub returns-in-Some-nested-clause-site : goal.returns-in-Some-nested-clause-site
returns-in-Some-nested-clause-site c = λ t vs h at lt part.
    let k : List Node = c.args.nodes.now in
    let v : View = view_of c.args.self.now in
    let is : piece_at (pieces k) c.args.inner ≡ node_piece (pieces k) c.in-Some.node.now = c.in-Some.ensures.piece c.requires.sound in (
      h,
      nested_gives k v c.args.number c.args.from c.args.done c.args.inner c.in-Some.node.now c.in-Some-nested.redex t vs h at lt part is c.in-Some-nested.ensures.redex,
    )

pub returns-in_ok-enter-in-None-clause-site : goal.returns-in_ok-enter-in-None-clause-site
returns-in_ok-enter-in-None-clause-site c = λ t vs h at lt part.
    let k : List Node = c.args.nodes.now in
    let v : View = view_of c.args.self.now in
    subst (λ (w : View). Standing k w t vs) (sym c.in_ok-enter-in-None.ensures.view)
    (entered k v c.args.number c.args.from c.args.done c.args.inner t vs h at lt part (is_term k c.args.inner))
