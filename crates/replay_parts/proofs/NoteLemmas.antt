-- What a listener was told, by what is noted of lines.
use Rattle.std.proofs.Common.{◌≡◌, ◌+◌, ◌++◌, ◌∷◌, [], ℕ, List, map, refl, sym, ap, subst, ◌∙◌}
use Rattle.std.proofs.lemmas.List.{append_assoc, append-nil}
use Rattle.asp_model.specs.Names.{Name}
use Rattle.asp_model.specs.Contraction.{LineShape}
use Rattle.replay_parts.specs.Listening.{IsDeafToLines}
use Rattle.replay_parts.specs.Notes.{NoteShape, Printed, noted_as}

-- each of these notes is of a line
pub record IsLine (x : NoteShape) : Type 0 where
  pub by : Name
  pub count : ℕ
  pub line : LineShape
  pub is : x ≡ noted_as by count (Printed line)

abbrev pub AreLines : List NoteShape → Type 0
AreLines [] = Unit {0}
AreLines (x ∷ xs) = IsLine x × AreLines xs

pub lines_noted : (n : Name) (k : ℕ) (ls : List LineShape) → AreLines (map (noted_as n k) (map Printed ls))
lines_noted n k [] = tt
lines_noted n k (l ∷ ls) = (record { by = n; count = k; line = l; is = refl }, lines_noted n k ls)

pub told_quiet : (tells : List NoteShape → Type 0) (xs ns : List NoteShape) → ns ≡ [] → tells xs → tells (xs ++ ns)
told_quiet tells xs ns quiet t = subst tells (sym (ap (λ ys. xs ++ ys) quiet ∙ append-nil xs)) t

-- lines are told to who does not hear them
pub told_lines : (tells : List NoteShape → Type 0) → IsDeafToLines tells → (xs ns : List NoteShape) → AreLines ns → tells xs → tells (xs ++ ns)
told_lines tells deaf xs [] h t = subst tells (sym (append-nil xs)) t
told_lines tells deaf xs (n ∷ ns) h t =
    subst tells (append_assoc xs (n ∷ []) ns)
    (told_lines tells deaf (xs ++ n ∷ []) ns h.1 (subst (λ y. tells (xs ++ y ∷ [])) (sym h.0.is) (deaf xs h.0.by h.0.count h.0.line t)))

pub told_same : (tells : List NoteShape → Type 0) (xs ns ms : List NoteShape) → ns ≡ ms → tells (xs ++ ns) → tells (xs ++ ms)
told_same tells xs ns ms same t = subst (λ ys. tells (xs ++ ys)) same t
