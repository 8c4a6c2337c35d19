-- A text has at least one part.
use Rattle.std.proofs.Common.{◌≡◌, ℕ, ◌<◌, Bool, true, false, List, [], ◌∷◌, map, length, Bor, ap, arith}
use Rattle.std.specs.Prelude.{◌==◌}
use Rattle.std.specs.List.{onto_first}
use Rattle.std.proofs.lemmas.List.{length-map}
use Rattle.asp_model.specs.Names.{Text}
use Rattle.asp_model.specs.ReportLines.{parts}

abbrev text_in : Bor (List ℕ) → Text
text_in l = l.now

first_some : (b : ℕ) (ps : List Text) → 0 < length (onto_first b ps)
first_some b [] = omega arith
first_some b (p ∷ ps) = omega arith

some_part : (b : ℕ) (t : Bool) (ps : List Text) → 0 < length {A = Text} (elim t [ true ↦ [] ∷ ps | false ↦ onto_first b ps ])
some_part b true ps = omega arith
some_part b false ps = first_some b ps

parts_some : (c : ℕ) (bs : Text) → 0 < length (parts c bs)
parts_some c [] = omega arith
parts_some c (b ∷ bs) = some_part b (b == c) (parts c bs)

pub lines_some : (lines : List (Bor (List ℕ))) (bs : Text) → map (λ l. l.now) lines ≡ parts 10 bs → 0 < length lines
lines_some lines bs e = omega (arith, parts_some 10 bs, ap length e, length-map lines text_in)
