use Rattle.std.proofs.Common.{◌∙◌, ◌∷◌, ◌++◌, [], sym, ap, subst}
use Rattle.std.specs.List.{AllByRecursion}
use Rattle.asp_model.specs.Store.{CellShape}
use Rattle.indexmap.proofs.CallerLemmas.{insert_entry-new}
use Rattle.def_paths.specs.StateLines.{Path, state_line, what_text}
use Rattle.run_ends.specs.declared.entered.Spot.{Spot}
use Rattle.run_ends.specs.Spots.{IsSpot, is_spot, place_of, size_of}
use Rattle.state_lines.specs.States.{side_in}
use Rattle.run_ends.proofs.EnterLemmas.{spot_wider}
use Rattle.state_lines.proofs.SightLemmas.{found_compound, found_seen}
use Rattle.state_lines.proofs.WalkLemmas.{all_pushed, new_done, paths_wider, size_grows}
use Rattle.state_lines.proofs.lines.show_new.Goals as goal

pub returns-clause-walk : goal.returns-clause-walk
returns-clause-walk c =
    let s = c.args.state.now in
    let old = c.args.walk.now in
    let due = c.args.due in
    let new = c.expand.new.entered in
    let grows = c.in_ok-expand.ensures.grows in
    let entries = c.in_ok-insert.ensures.entries ∙ insert_entry-new is_spot old.paths due.spot due.path c.requires.new in
    record {
      numbered = c.in_ok-expand.ensures.numbered;
      values = (c.in_ok-expand.ensures.below (side_in s) c.requires.walk.values c.requires.sees).0;
      paths = subst (AllByRecursion (λ (x : Spot × Path). IsSpot (size_of new) x.0)) (sym entries)
          (all_pushed (λ (x : Spot × Path). IsSpot (size_of new) x.0) old.paths.entries (due.spot, due.path)
          (paths_wider old.entered new grows old.paths.entries c.requires.walk.paths)
          (spot_wider (size_of old.entered) (size_of new) due.spot (size_grows old.entered new grows) c.requires.spot));
      due = c.in_ok-expand.ensures.spots c.requires.walk.due;
    }

pub returns-clause-shown : goal.returns-clause-shown
returns-clause-shown c =
    let s = c.args.state.now in
    let old = c.args.walk.now in
    let due = c.args.due in
    let p = place_of old.entered due.spot in
    let seen = c.args.sight.seen in
    let entries = c.in_ok-insert.ensures.entries ∙ insert_entry-new is_spot old.paths due.spot due.path c.requires.new in
    let lines = c.in_ok-push_line.ensures ∙ ap (λ (x : CellShape). old.lines.items ++ state_line due.path (what_text x) ∷ []) (found_seen s p seen c.requires.sees.read) in
    new_done s old due (record { entered = c.expand.new.entered; paths = c.insert.new.self; due = c.expand.new.all; lines = c.push_line.new.lines })
    c.requires.walk c.requires.spot c.in_ok-expand.ensures.grows
    (c.in_ok-expand.ensures.below (side_in s) c.requires.walk.values c.requires.sees).1
    entries lines
    (found_compound s p seen c.requires.sees.read ∙ c.requires.compound)
    c.requires.new
