use Rattle.std.proofs.Common.{◌≡◌, List, true, false, sym, ap, ◌∙◌}
use Rattle.std.specs.Prelude.{reverse}
use Rattle.step_machine.specs.declared.frames.Frame.{Frame}
use Rattle.step_machine.specs.declared.frames.Focus.TheVariants as focus
use Rattle.step_machine.specs.Standing.{view_of}
use Rattle.run_ends.specs.Ends.{none_waits}
use Rattle.run_ends.proofs.PlaceLemmas.{at_place, behind_frames, elsewhere}
use Rattle.run_ends.proofs.ends.place_in.Goals as goal

pub returns-then-none_waits_in : goal.returns-then-none_waits_in
returns-then-none_waits_in c = record {
  place = λ k t vs h.
      let none : none_waits (reverse c.args.machine.now.frames.items) ≡ true = ap (λ (fs : List Frame). none_waits (reverse fs)) (sym c.deref.ensures.value) ∙ sym c.none_waits_in.ensures ∙ c.if-none_waits_in.true in
      at_place k (view_of c.args.machine.now) t vs c.in-Place.place h c.in-Place.is none;
}

pub returns-else-none_waits_in : goal.returns-else-none_waits_in
returns-else-none_waits_in c = record {
  place = λ k t vs h.
      let some : none_waits (reverse c.args.machine.now.frames.items) ≡ false = ap (λ (fs : List Frame). none_waits (reverse fs)) (sym c.deref.ensures.value) ∙ sym c.none_waits_in.ensures ∙ c.if-none_waits_in.false in
      behind_frames k (view_of c.args.machine.now) t vs h some;
}

pub returns-in-Node : goal.returns-in-Node
returns-in-Node c = record { place = λ k t vs h. elsewhere k (view_of c.args.machine.now) t vs (focus.Node c.in-Node.number c.in-Node.from c.in-Node.done) h c.in-Node.is tt }

pub returns-in-Asked : goal.returns-in-Asked
returns-in-Asked c = record { place = λ k t vs h. elsewhere k (view_of c.args.machine.now) t vs (focus.Asked c.in-Asked.field-0) h c.in-Asked.is tt }

pub returns-in-Calls : goal.returns-in-Calls
returns-in-Calls c = record { place = λ k t vs h. elsewhere k (view_of c.args.machine.now) t vs (focus.Calls c.in-Calls.spread c.in-Calls.number c.in-Calls.members c.in-Calls.done) h c.in-Calls.is tt }

pub returns-in-Called : goal.returns-in-Called
returns-in-Called c = record { place = λ k t vs h. elsewhere k (view_of c.args.machine.now) t vs (focus.Called c.in-Called.number c.in-Called.count) h c.in-Called.is tt }
