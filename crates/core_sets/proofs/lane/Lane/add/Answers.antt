use Rattle.std.proofs.Common.{◌≡◌, ◌∙◌, ◌++◌, ◌∷◌, ℕ, [], arith, refl}
use Rattle.std.proofs.lemmas.Result.{IfOk-from_err}
use Rattle.core_sets.specs.Lanes.{size_of}
use Rattle.core_sets.proofs.LaneLemmas.{as_many, longer, roomier}
use Rattle.core_sets.proofs.LanesLemmas.{on_err}
use Rattle.core_sets.proofs.lane.Lane.add.Goals as goal

pub make_room-requires-clause-low : goal.make_room-requires-clause-low
make_room-requires-clause-low c =
    let many = as_many c.args.self.now c.args.place c.requires.lane c.requires.last in
    omega (arith, many, c.len-ordinal.ensures, c.ranges.place.fits)

pub overflow_cast-result : goal.overflow_cast-result
overflow_cast-result c =
    let many = as_many c.args.self.now c.args.place c.requires.lane c.requires.last in
    omega (arith, many, c.len-ordinal.ensures, c.ranges.place.fits)

pub returns-in_err-make_room : goal.returns-in_err-make_room
returns-in_err-make_room c =
    let l = c.args.self.now in
    let w = c.make_room.ensures in
    let r = c.from_residual.result in
    record {
      lane = roomier l (record l { marks = c.make_room.new.self }) c.requires.lane w.tree w.same w.kept refl;
      closed = refl;
      marks = w.same;
      places = IfOk-from_err r (λ (n : ℕ). l.places.items ≡ l.places.items ++ c.args.place ∷ []) c.from_residual.ensures.0;
      ordinal = IfOk-from_err r (λ (n : ℕ). n ≡ size_of l) c.from_residual.ensures.0;
      err = on_err r (l.places.items ≡ l.places.items) refl;
    }

pub returns-in_err-push : goal.returns-in_err-push
returns-in_err-push c =
    let l = c.args.self.now in
    let w = c.make_room.ensures in
    let r = c.from_residual-in_err-push.result in
    let places = c.in_err-push.ensures.items in
    record {
      lane = roomier l (record l { places = c.push.new.self; marks = c.make_room.new.self }) c.requires.lane w.tree w.same w.kept places;
      closed = refl;
      marks = w.same;
      places = IfOk-from_err r (λ (n : ℕ). c.push.new.self.items ≡ l.places.items ++ c.args.place ∷ []) c.from_residual-in_err-push.ensures.0;
      ordinal = IfOk-from_err r (λ (n : ℕ). n ≡ size_of l) c.from_residual-in_err-push.ensures.0;
      err = on_err r (c.push.new.self.items ≡ l.places.items) places;
    }

pub returns : goal.returns
returns c =
    let l = c.args.self.now in
    let w = c.make_room.ensures in
    let count : c.len-ordinal.result ≡ size_of l = c.len-ordinal.ensures ∙ l.places.ok.0 in
    record {
      lane = longer l (record l { places = c.push.new.self; marks = c.make_room.new.self }) c.args.place c.requires.lane w.tree w.same (omega (arith, c.in_ok-make_room.ensures.room, count)) c.requires.last c.in_ok-push.ensures.items;
      closed = refl;
      marks = w.same;
      places = c.in_ok-push.ensures.items;
      ordinal = count;
      err = tt;
    }
