-- A whole trace, written and read.
use Rattle.std.proofs.Common.{◌≡◌, ℕ, suc, true, false, List, [], ◌∷◌, ◌++◌, map, Option, Some, None, refl, ap, sym, ◌∙◌, append_assoc}
use Rattle.std.specs.Prelude.{codes}
use Rattle.std.specs.List.{list_all}
use Rattle.std.proofs.lemmas.Bool.{and_parts, and_from}
use Rattle.std.proofs.lemmas.List.{append-nil}
use Rattle.asp_model.specs.Names.{Text}
use Rattle.asp_model.specs.History.{EntryShape}
use Rattle.law_reports.proofs.PartsLemmas.{lacks, parts_lines}
use Rattle.trace_text.specs.Traces.{entry_line, trace_lines, has_line, Entries, Over, Progress, before_lines, with_read, behind, TraceReading, Reads, BadLine, read_on, entry_of}
use Rattle.trace_text.specs.Laws.{TracesAreRead}
use Rattle.trace_text.proofs.WriteLemmas.{entry_is_read, entry_lacks, not_the_end}

-- no line has a line feed
entries_lack : (xs : List EntryShape) → list_all (lacks 10) (map entry_line xs ++ codes "end" ∷ []) ≡ true
entries_lack [] = refl
entries_lack (x ∷ xs) = and_from _ _ (entry_lacks x) (entries_lack xs)

-- these lines and the end of the text give a result, whatever the number of the first
abbrev Gives : Progress → List Text → TraceReading → Type 0
Gives p ts r = (number : ℕ) → read_on p number (ts ++ [] ∷ []) ≡ r

going : ℕ → List Text → Option Progress → TraceReading
going number ts o = elim o [ None ↦ BadLine number | Some q ↦ read_on q (suc number) ts ]

one_more : (p q : Progress) (t : Text) (ts : List Text) (r : TraceReading) → behind p.next p t ≡ Some q → Gives q ts r → Gives p (t ∷ ts) r
unfolding going
one_more p q t [] r e h number = ap (going number ([] ∷ [])) e ∙ h (suc number)
one_more p q t (u ∷ ts) r e h number = ap (going number ((u ∷ ts) ++ [] ∷ [])) e ∙ h (suc number)

abbrev among : List EntryShape → Progress
among xs = record { next = Entries; entries = xs }

entry_behind : (xs : List EntryShape) (x : EntryShape) → has_line x ≡ true → behind Entries (among xs) (entry_line x) ≡ Some (among (xs ++ x ∷ []))
entry_behind xs x h =
    ap (λ b. elim b [ true ↦ Some (record { next = Over; entries = xs }) | false ↦ with_read (among xs) (entry_of (entry_line x)) ]) (not_the_end x)
    ∙ ap (with_read (among xs)) (entry_is_read x h)

entries_give : (xs ys : List EntryShape) → list_all has_line ys ≡ true → Gives (among xs) (map entry_line ys ++ codes "end" ∷ []) (Reads (xs ++ ys))
entries_give xs [] h = λ number. ap Reads (sym (append-nil xs))
entries_give xs (y ∷ ys) h =
    let p = and_parts (has_line y) (list_all has_line ys) h in
    λ number. one_more (among xs) (among (xs ++ y ∷ [])) (entry_line y) (map entry_line ys ++ codes "end" ∷ []) (Reads ((xs ++ y ∷ []) ++ ys)) (entry_behind xs y p.0) (entries_give (xs ++ y ∷ []) ys p.1) number
    ∙ ap Reads (append_assoc xs (y ∷ []) ys)

pub trace_is_read : TracesAreRead
unfolding trace_lines
trace_is_read entries h =
    ap (read_on before_lines 1) (parts_lines (trace_lines entries) (and_from _ _ refl (entries_lack entries)))
    ∙ one_more before_lines (among []) (codes "asp trace 1") (map entry_line entries ++ codes "end" ∷ []) (Reads entries) refl (entries_give [] entries h) 1
