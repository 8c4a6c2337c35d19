use Rattle.std.proofs.Common.{◌∙◌, sym, subst, arith}
use Rattle.std.specs.Prelude.{IsSome}
use Rattle.asp_model.specs.Shapes.{future_shape}
use Rattle.def_journals.specs.Edges.{home_of}
use Rattle.future_update.specs.Holders.{HoldersView}
use Rattle.future_update.specs.Names.{future_of}
use Rattle.future_update.specs.Records.{answers_of, names_of, shape_of}
use Rattle.future_update.proofs.LanedLemmas.{keeps_same}
use Rattle.future_update.proofs.HolderLemmas.{fill_left, fill_sound, filled_before, first_filled, kept, no_home, passings_kept, settled}
use Rattle.future_update.proofs.SettlingLemmas.{passing_bounds}
use Rattle.future_update.proofs.PlaceLemmas.{home_nowhere}
use Rattle.future_update.proofs.holders.Holders.filled.Goals as goal

pub settle-requires-clause-sound : goal.settle-requires-clause-sound
settle-requires-clause-sound c =
    let s = c.self.inside in
    let f = future_of (names_of s.records) c.in-Some.future in
    let shape = c.fill.ensures.shape ∙ first_filled f (shape_of s.records) (sym c.if-fill.true ∙ c.fill.ensures.first) in
    λ p e. fill_sound s.records c.fill.new.self f shape c.fill.ensures.answers p (sym (c.self.invariant.owed p) ∙ e)

pub settle-requires-clause-left : goal.settle-requires-clause-left
settle-requires-clause-left c =
    let s = c.self.inside in
    let f = future_of (names_of s.records) c.in-Some.future in
    let shape = c.fill.ensures.shape ∙ first_filled f (shape_of s.records) (sym c.if-fill.true ∙ c.fill.ensures.first) in
    λ p e u. record {
      future = fill_left s.records c.fill.new.self c.self.invariant.records c.in-Some.future c.in-Some.ensures.found.0 c.fill.ensures.edges shape c.fill.ensures.answers p e (sym (c.self.invariant.owed p) ∙ u);
      least = omega arith;
      most = (passing_bounds c.fill.new.self c.fill.ensures.records p e).1;
    }

pub settle-requires-clause-passings : goal.settle-requires-clause-passings
settle-requires-clause-passings c =
    let r = c.self.inside.records in
    let s = c.fill.new.self in
    passings_kept c.self.inside.passings r.edges.keys s.edges.keys (answers_of r) (answers_of s) c.self.invariant.passings c.fill.ensures.edges c.fill.ensures.answers

pub invariant_of-self : goal.invariant_of-self
invariant_of-self c = settled c.self.inside c.fill.new.self c.settle.new.owed c.self.invariant c.fill.ensures.records c.fill.ensures.edges c.fill.ensures.answers (keeps_same (names_of c.self.inside.records) (names_of c.fill.new.self) c.fill.ensures.names) c.settle.ensures.lanes c.settle.ensures.marked

pub invariant_of-self-else-fill : goal.invariant_of-self-else-fill
invariant_of-self-else-fill c =
    let s = c.self.inside in
    let f = future_of (names_of s.records) c.in-Some.future in
    kept s c.fill.new.self c.self.invariant c.fill.ensures.records c.fill.ensures.edges (c.fill.ensures.shape ∙ filled_before f (shape_of s.records) (sym c.if-fill.false ∙ c.fill.ensures.first)) c.fill.ensures.answers (keeps_same (names_of s.records) (names_of c.fill.new.self) c.fill.ensures.names)

pub unreachable-requires : goal.unreachable-requires
unreachable-requires c =
    let r = c.self.inside.records in
    let f = future_shape c.args.future.now in
    let told : IsSome (home_of f (shape_of r).homes) = subst (λ (v : HoldersView). IsSome (home_of f v.holders.homes)) (sym c.self.view_is) c.requires.told in
    absurd (no_home (home_of f (shape_of r).homes) told (home_nowhere (names_of r) f r.homes.entries c.self.invariant.records.homes c.in-None.ensures.found))
