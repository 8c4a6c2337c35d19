-- A trace line by line, by the places of its lines.
use Rattle.std.proofs.Common.{◌≡◌, ℕ, suc, ◌+◌, ◌<◌, List, [], ◌∷◌, map, length, drop, get_or, Option, Some, None, Bor, refl, ap, sym, ◌∙◌, arith, length-drop}
use Rattle.std.proofs.lemmas.List.{at_drop_more, length-map}
use Rattle.asp_model.specs.Names.{Text}
use Rattle.trace_text.specs.Traces.{Progress, behind, TraceReading, BadLine, read_on}
use Rattle.trace_text.specs.declared.error.TraceError.{TraceError}
use Rattle.trace_text.specs.declared.error.TraceError.TheVariants as errors
use Rattle.trace_text.specs.Progress.{TellsOf, IsRefusedAt}

abbrev text_in : Bor (List ℕ) → Text
text_in l = l.now

read_next : ℕ → List Text → Option Progress → TraceReading
read_next number ts o = elim o [ None ↦ BadLine number | Some q ↦ read_on q (suc number) ts ]

with_rest : (p : Progress) (number : ℕ) (t : Text) (ts : List Text) → 0 < length ts → read_on p number (t ∷ ts) ≡ read_next number ts (behind p.next p t)
unfolding read_next
with_rest p number t [] h = absurd (omega arith)
with_rest p number t (u ∷ ts) h = refl

texts : List (Bor (List ℕ)) → ℕ → List Text
texts lines i = map (λ l. l.now) (drop i lines)

texts_some : (lines : List (Bor (List ℕ))) (i : ℕ) → i < length lines → 0 < length (texts lines i)
unfolding texts
texts_some lines i h = omega (arith, length-map (drop i lines) text_in, length-drop i lines)

at_line : (p : Progress) (number i : ℕ) (lines : List (Bor (List ℕ))) (d : Bor (List ℕ)) → i + 1 < length lines → read_on p number (map (λ l. l.now) (drop i lines)) ≡ read_next number (map (λ l. l.now) (drop (i + 1) lines)) (behind p.next p (get_or lines i d).now)
unfolding texts
at_line p number i lines d h =
    at_drop_more (λ (ls : List (Bor (List ℕ))). read_on p number (map (λ l. l.now) ls)) lines i d (omega arith)
    ∙ with_rest p number (get_or lines i d).now (map (λ l. l.now) (drop (i + 1) lines)) (texts_some lines (i + 1) h)

pub line_read : (p q : Progress) (number following i : ℕ) (lines : List (Bor (List ℕ))) (d : Bor (List ℕ)) → following ≡ suc number → i + 1 < length lines → behind p.next p (get_or lines i d).now ≡ Some q → read_on p number (map (λ l. l.now) (drop i lines)) ≡ read_on q following (map (λ l. l.now) (drop (i + 1) lines))
unfolding read_next
line_read p q number following i lines d e h b =
    at_line p number i lines d h
    ∙ ap (read_next number (map (λ l. l.now) (drop (i + 1) lines))) b
    ∙ ap (λ (k : ℕ). read_on q k (map (λ l. l.now) (drop (i + 1) lines))) (sym e)

pub line_refused : (p : Progress) (number i : ℕ) (lines : List (Bor (List ℕ))) (d : Bor (List ℕ)) → i + 1 < length lines → behind p.next p (get_or lines i d).now ≡ None → read_on p number (map (λ l. l.now) (drop i lines)) ≡ BadLine number
unfolding read_next
line_refused p number i lines d h b = at_line p number i lines d h ∙ ap (read_next number (map (λ l. l.now) (drop (i + 1) lines))) b

-- an error of one line, where the reading stops at it
pub tells_refused : (r : TraceReading) (number : ℕ) (o : Option Progress) (e : TraceError) → (o ≡ None → r ≡ BadLine number) → IsRefusedAt number o e → TellsOf r e
tells_refused r number o (errors.BadLine line) f h = f h.1 ∙ ap BadLine (sym h.0)
tells_refused r number o errors.Memory f h = tt
