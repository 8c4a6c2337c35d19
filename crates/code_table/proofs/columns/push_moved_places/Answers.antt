use Rattle.std.proofs.Common.{◌++◌, ℕ, List, map, ap, ◌∙◌, arith}
use Rattle.std.proofs.lemmas.List.{take_all}
use Rattle.code_table.specs.Moves.{move_of}
use Rattle.code_table.specs.Places.{shift_in}
use Rattle.code_table.proofs.PlacesLemmas.{moved_on}
use Rattle.code_table.proofs.columns.push_moved_places.Goals as goal

pub returns-clause-places : goal.returns-clause-places
returns-clause-places c =
    let f : ℕ → ℕ = move_of c.args.moves.now in
    let p = c.args.places.now in
    let old : List ℕ = c.args.words.now.items in
    let g : ℕ → ℕ = λ n. f (shift_in p.shift n) in
    c.loop-word.invariant.so_far
    ∙ ap (λ (l : List ℕ). old ++ map g l) (take_all c.loop-word.word-index p.words.now (omega arith))
    ∙ ap (λ (l : List ℕ). old ++ l) (moved_on f p.shift p.words.now)
