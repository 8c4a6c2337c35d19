-- Notes of a service, of a place and of lines.
use Rattle.std.proofs.Common.{◌≡◌, ◌<◌, ◌+◌, ◌++◌, ◌∷◌, [], ℕ, true, false, List, map, length, slice_index_or, take, refl, sym, ap, subst, ◌∙◌}
use Rattle.std.proofs.lemmas.List.{append_assoc, take_more}
use Rattle.asp_model.specs.Names.{Name, Text}
use Rattle.asp_model.specs.Configuration.{Activity}
use Rattle.asp_model.specs.declared.outcome.Line.{Line}
use Rattle.asp_model.specs.Shapes.{line_shape}
use Rattle.serve_rules.specs.Labels.{has_some}
use Rattle.replay_parts.specs.Notes.{NoteShape, Printed, Served, noted_as, places_by, served_by, standing}

-- no service
pub none_served : (ls : List Text) → has_some ls ≡ false → served_by ls ≡ []
none_served [] e = refl
none_served (l ∷ ls) e = absurd cc

-- a service
pub some_served : (ls : List Text) → has_some ls ≡ true → served_by ls ≡ Served ls ∷ []
some_served [] e = absurd cc
some_served (l ∷ ls) e = refl

pub none_placed : (n : Name) (a : Activity) (ls : List Text) → has_some ls ≡ false → places_by n a ls ≡ []
none_placed n a [] e = refl
none_placed n a (l ∷ ls) e = absurd cc

pub some_placed : (n : Name) (a : Activity) (ls : List Text) → has_some ls ≡ true → places_by n a ls ≡ standing n a ∷ []
some_placed n a [] e = absurd cc
some_placed n a (l ∷ ls) e = refl

-- one line more is told
abbrev pub lines_told : Name → ℕ → List Line → List NoteShape
lines_told n k ls = map (noted_as n k) (map Printed (map line_shape ls))

one_told : (n : Name) (k : ℕ) (ls : List Line) (l : Line) → lines_told n k (ls ++ l ∷ []) ≡ lines_told n k ls ++ noted_as n k (Printed (line_shape l)) ∷ []
one_told n k [] l = refl
one_told n k (x ∷ ls) l = ap (λ ys. noted_as n k (Printed (line_shape x)) ∷ ys) (one_told n k ls l)

pub lines_more : (tells : List NoteShape → Type 0) (xs : List NoteShape) (n : Name) (k : ℕ) (ls : List Line) (i : ℕ) (x : Line) → i < length ls → x ≡ slice_index_or ls i x
    → tells ((xs ++ lines_told n k (take i ls)) ++ noted_as n k (Printed (line_shape x)) ∷ []) → tells (xs ++ lines_told n k (take (i + 1) ls))
lines_more tells xs n k ls i x lt is t =
    let more : take (i + 1) ls ≡ take i ls ++ x ∷ [] = take_more ls i x lt ∙ ap (λ l. take i ls ++ l ∷ []) (sym is) in
    subst tells (append_assoc xs (lines_told n k (take i ls)) (noted_as n k (Printed (line_shape x)) ∷ []) ∙ ap (λ ys. xs ++ ys) (sym (ap (lines_told n k) more ∙ one_told n k (take i ls) x))) t
