use Rattle.std.proofs.Common.{◌<◌, ◌≤◌, ◌-◌, length, length-append, refl, sym, ap, ◌∙◌, arith}
use Rattle.code_table.specs.Cells.{cell_at}
use Rattle.object_store.specs.declared.parts.Part.{Part}
use Rattle.object_store.proofs.PartLemmas.{cell_behind, cell_left}
use Rattle.object_store.proofs.parts.Part.view.Goals as goal

pub returns-then-at-len : goal.returns-then-at-len
returns-then-at-len c =
    let p : Part = c.args.self.now in
    let lt : c.args.at < length p.own.items = omega (arith, c.if-at-len.true, c.len.ensures) in
    record { view = c.view.ensures.view ∙ sym (cell_left p.own.items p.attached.items c.args.at lt) }

pub view-requires-2 : goal.view-requires-2
view-requires-2 c =
    let p : Part = c.args.self.now in
    let both = length-append p.own.items p.attached.items in
    record { within = omega (arith, c.requires.within, both, c.len.ensures, c.len-2.ensures, c.if-at-len.false) }

pub returns : goal.returns
returns c =
    let p : Part = c.args.self.now in
    let le : length p.own.items ≤ c.args.at = omega (arith, c.if-at-len.false, c.len.ensures) in
    record {
      view = c.view-2.ensures.view ∙ ap (λ n. cell_at p.attached.items (c.args.at - n)) c.len-2.ensures
          ∙ sym (cell_behind p.own.items p.attached.items (length p.own.items) c.args.at refl le);
    }
