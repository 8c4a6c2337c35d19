use Rattle.std.proofs.Common.{◌∙◌, Some, ap, refl, sym}
use Rattle.replay_parts.specs.declared.ready.Ready.{Ready}
use Rattle.replay_parts.proofs.ReadyLemmas.{added_name}
use Rattle.replay_parts.proofs.ready.Ready.add.Goals as goal

pub returns : goal.returns
returns c =
    let old : Ready = c.args.self.now in
    let new : Ready = record old { others = c.insert.new.self } in
    record { added = added_name c.args.roster.now c.args.number c.in_ok-copy.field-0 old new refl refl (c.name.ensures.name ∙ ap Some (sym c.in_ok-copy.ensures.name)) c.in_ok-insert.ensures.updates }
