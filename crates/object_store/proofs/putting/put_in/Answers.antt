use Rattle.std.proofs.Common.{◌≡◌, ◌+◌, length, ap, subst, ◌∙◌, arith}
use Rattle.code_table.specs.Cells.{CodedCell, CodedStore, cell_at, coded, moved_coded}
use Rattle.code_table.specs.Moves.{move_of}
use Rattle.code_table.proofs.ColumnLemmas.{on_error}
use Rattle.object_store.specs.Finder.{Follows, but_last}
use Rattle.object_store.specs.Index.{ChangesWhere, is_given_up}
use Rattle.object_store.specs.Places.{without_place}
use Rattle.object_store.proofs.CellLemmas.{before_last, but_one, one_longer}
use Rattle.object_store.proofs.StoredLemmas.{follows_itself, put_cells}
use Rattle.object_store.proofs.putting.put_in.Goals as goal

pub returns-in_err-push_moved-clause-kept : goal.returns-in_err-push_moved-clause-kept
returns-in_err-push_moved-clause-kept c = on_error c.from_residual.result (follows_itself c.args.finder.now)

pub pop-requires : goal.pop-requires
pop-requires c =
    let s : CodedStore = c.args.columns.now.items in
    let x : CodedCell = moved_coded (move_of c.args.moves.now) (coded c.args.cell) in
    let n : length c.push_moved.new.self.items ≡ length s + 1 = one_longer s c.push_moved.new.self.items x c.in_ok-push_moved.ensures.items in
    record { some = omega (arith, n) }

pub returns-in-Err-clause-err : goal.returns-in-Err-clause-err
returns-in-Err-clause-err c =
    let s : CodedStore = c.args.columns.now.items in
    let x : CodedCell = moved_coded (move_of c.args.moves.now) (coded c.args.cell) in
    c.pop.ensures.items ∙ ap but_last c.in_ok-push_moved.ensures.items ∙ but_one s x

pub returns-in-Err-clause-free : goal.returns-in-Err-clause-free
returns-in-Err-clause-free c = omega (arith, c.push_moved.ensures.free, c.pop.ensures.free)

pub view-requires : goal.view-requires
view-requires c =
    let s : CodedStore = c.args.columns.now.items in
    let x : CodedCell = moved_coded (move_of c.args.moves.now) (coded c.args.cell) in
    let n : length c.push_moved.new.self.items ≡ length s + 1 = one_longer s c.push_moved.new.self.items x c.in_ok-push_moved.ensures.items in
    record { within = omega (arith, n, c.requires.within) }

pub move_last_to-requires : goal.move_last_to-requires
move_last_to-requires c =
    let s : CodedStore = c.args.columns.now.items in
    let x : CodedCell = moved_coded (move_of c.args.moves.now) (coded c.args.cell) in
    let n : length c.push_moved.new.self.items ≡ length s + 1 = one_longer s c.push_moved.new.self.items x c.in_ok-push_moved.ensures.items in
    record { within = omega (arith, n, c.requires.within) }

pub returns-clause-items : goal.returns-clause-items
returns-clause-items c =
    let s : CodedStore = c.args.columns.now.items in
    let x : CodedCell = moved_coded (move_of c.args.moves.now) (coded c.args.cell) in
    c.move_last_to.ensures.items ∙ put_cells s c.push_moved.new.self.items c.args.at x c.in_ok-push_moved.ensures.items

pub returns-clause-noted : goal.returns-clause-noted
returns-clause-noted c =
    let s : CodedStore = c.args.columns.now.items in
    let x : CodedCell = moved_coded (move_of c.args.moves.now) (coded c.args.cell) in
    let p = c.args.at in
    let here : coded c.view.result ≡ cell_at s p =
    c.view.ensures.view ∙ ap (λ (u : CodedStore). cell_at u p) c.in_ok-push_moved.ensures.items ∙ before_last s x p c.requires.within in
    record {
      between = c.hold.new.self;
      noted = c.in_default.ensures.places;
      forgotten = subst (λ (y : CodedCell). Follows (ChangesWhere (is_given_up y (coded c.args.cell)) (without_place c.args.loc)) c.hold.new.self c.give_up.new.self) here c.give_up.ensures.places;
    }

pub returns-clause-free : goal.returns-clause-free
returns-clause-free c = omega (arith, c.push_moved.ensures.free, c.move_last_to.ensures.free)
