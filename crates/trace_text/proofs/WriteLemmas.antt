-- What is written of an entry is read again.
use Rattle.std.proofs.Common.{◌≡◌, ◌≤◌, ◌<◌, ◌^◌, ◌%◌, ◌+◌, ℕ, zero, suc, get_or, length, length-append, true, false, not, List, [], ◌∷◌, ◌++◌, Some, None, refl, ap, ◌∙◌, arith, append_assoc}
use Rattle.std.specs.Prelude.{◌&&◌, nat_lt, codes}
use Rattle.std.specs.Fmt.{decimal}
use Rattle.std.specs.Str.{all_ascii_digits}
use Rattle.std.proofs.lemmas.List.{get_or_append_left}
use Rattle.std.specs.Str.Parse.{digits_value}
use Rattle.std.proofs.lemmas.Bool.{and_parts, and_from, leb-true, ne_eqb}
use Rattle.std.proofs.lemmas.Fmt.{decimal_is_IsNumeral_wide, decimal_digit, decimal_by_steps_wide}
use Rattle.asp_model.specs.Names.{Name, FutureShape, Text, same_text}
use Rattle.asp_model.specs.WellFormed.{is_name, is_future_name}
use Rattle.asp_model.specs.Report.{name_text, future_text}
use Rattle.asp_model.specs.ReportLines.{is_numeral, parts}
use Rattle.asp_model.specs.History.{EntryShape, Lent, Committed, Delivered, Edge, Need}
use Rattle.law_reports.proofs.PartsLemmas.{lacks, lacks-append, parts_one, parts_at}
use Rattle.law_reports.proofs.DigitLemmas.{decimal_lacks, decimal_digits}
use Rattle.law_reports.proofs.NameLemmas.{name_lacks, future_lacks, name_is_read, future_is_read}
use Rattle.text_lines.specs.Numbers.{only_below, number_below}
use Rattle.trace_text.specs.Traces.{entry_line, has_line, lent_by, committed_by, edge_by, need_by, entry_of_words, entry_of}

-- Numbers

first_digit : (n : ℕ) → 0 < n → n < 10 ^ 64 → 48 < get_or (decimal n) 0 0
first_digit n some small = (decimal_by_steps_wide (λ m ds. (0 < length ds) × (0 < m → 48 < get_or ds 0 0)) (λ m l. (omega arith, λ a. omega arith))
    (λ m ds l h. (omega (arith, length-append ds ((48 + m % 10) ∷ [])), λ a. omega (arith, get_or_append_left ds ((48 + m % 10) ∷ []) 0 0 h.0, h.1 (omega arith)))) n small).1 some

numeral_from : (ds : Text) → all_ascii_digits ds ≡ true → 0 < length ds → 48 < get_or ds 0 0 → is_numeral ds ≡ true
numeral_from [] h some first = absurd (omega arith)
numeral_from (d ∷ []) h some first = h
numeral_from (d ∷ e ∷ ds) h some first = and_from _ _ (ap not (ne_eqb d 48 (λ i. omega (arith, i)))) h

is_numeral_of : (n : ℕ) → n < 10 ^ 64 → is_numeral (decimal n) ≡ true
is_numeral_of zero small = ap is_numeral (decimal_digit 0 (omega arith))
is_numeral_of (suc n) small = numeral_from (decimal (suc n)) (decimal_digits (suc n)) (decimal_is_IsNumeral_wide (suc n) small).0.0 (first_digit (suc n) (omega arith) small)

below_is_read : (bound n : ℕ) → bound ≤ 10 ^ 64 → nat_lt n bound ≡ true → number_below bound (decimal n) ≡ Some n
below_is_read bound n small h =
    let less : n < bound = leb-true (suc n) bound h in
    ap (λ b. only_below bound (elim b [ true ↦ Some (digits_value 10 (decimal n)) | false ↦ None ])) (is_numeral_of n (omega arith))
    ∙ ap (λ m. only_below bound (Some m)) (decimal_is_IsNumeral_wide n (omega arith)).1
    ∙ ap (λ b. elim b [ true ↦ Some n | false ↦ None ]) h

-- Lines of entries

lent_is_read : (k : ℕ) → has_line (Lent k) ≡ true → entry_of (entry_line (Lent k)) ≡ Some (Lent k)
lent_is_read k h =
    ap (λ (ts : List Text). entry_of_words (codes "lent" ∷ ts)) (parts_one 32 (decimal k) (decimal_lacks 32 k (omega arith)))
    ∙ ap lent_by (below_is_read (2 ^ 32) k (omega arith) h)

committed_whole : (k r : ℕ) → entry_line (Committed k r) ≡ codes "committed " ++ (decimal k ++ (32 ∷ decimal r))
committed_whole k r = simp append_assoc refl

committed_is_read : (k r : ℕ) → has_line (Committed k r) ≡ true → entry_of (entry_line (Committed k r)) ≡ Some (Committed k r)
committed_is_read k r h =
    let p = and_parts (nat_lt k (2 ^ 32)) (nat_lt r (2 ^ 32)) h in
    ap entry_of (committed_whole k r)
    ∙ ap (λ (ts : List Text). entry_of_words (codes "committed" ∷ ts)) (parts_at 32 (decimal k) (decimal r) (decimal_lacks 32 k (omega arith)) ∙ ap (λ (ts : List Text). decimal k ∷ ts) (parts_one 32 (decimal r) (decimal_lacks 32 r (omega arith))))
    ∙ (λ i. committed_by (below_is_read (2 ^ 32) k (omega arith) p.0 i) (below_is_read (2 ^ 32) r (omega arith) p.1 i))

edge_whole : (f : FutureShape) (m n : Name) → entry_line (Delivered (Edge f m n)) ≡ codes "edge " ++ (future_text f ++ (32 ∷ (name_text m ++ (32 ∷ name_text n))))
edge_whole f m n = simp append_assoc refl

need_whole : (f : FutureShape) (n : Name) (k : ℕ) → entry_line (Delivered (Need f n k)) ≡ codes "need " ++ (future_text f ++ (32 ∷ (name_text n ++ (32 ∷ decimal k))))
need_whole f n k = simp append_assoc refl

three_parts : (f : FutureShape) (n : Name) (last : Text) → lacks 32 last ≡ true → parts 32 (future_text f ++ (32 ∷ (name_text n ++ (32 ∷ last)))) ≡ future_text f ∷ name_text n ∷ last ∷ []
three_parts f n last h =
    parts_at 32 (future_text f) (name_text n ++ (32 ∷ last)) (future_lacks 32 (omega arith) f)
    ∙ ap (λ (ts : List Text). future_text f ∷ ts) (parts_at 32 (name_text n) last (name_lacks 32 (omega arith) n) ∙ ap (λ (ts : List Text). name_text n ∷ ts) (parts_one 32 last h))

edge_is_read : (f : FutureShape) (m n : Name) → has_line (Delivered (Edge f m n)) ≡ true → entry_of (entry_line (Delivered (Edge f m n))) ≡ Some (Delivered (Edge f m n))
edge_is_read f m n h =
    let p = and_parts (is_future_name f) (is_name m && is_name n) h in
    let q = and_parts (is_name m) (is_name n) p.1 in
    ap entry_of (edge_whole f m n)
    ∙ ap (λ (ts : List Text). entry_of_words (codes "edge" ∷ ts)) (three_parts f m (name_text n) (name_lacks 32 (omega arith) n))
    ∙ (λ i. edge_by (future_is_read f p.0 i) (name_is_read m q.0 i) (name_is_read n q.1 i))

need_is_read : (f : FutureShape) (n : Name) (k : ℕ) → has_line (Delivered (Need f n k)) ≡ true → entry_of (entry_line (Delivered (Need f n k))) ≡ Some (Delivered (Need f n k))
need_is_read f n k h =
    let p = and_parts (is_future_name f) (is_name n && nat_lt k (2 ^ 128)) h in
    let q = and_parts (is_name n) (nat_lt k (2 ^ 128)) p.1 in
    ap entry_of (need_whole f n k)
    ∙ ap (λ (ts : List Text). entry_of_words (codes "need" ∷ ts)) (three_parts f n (decimal k) (decimal_lacks 32 k (omega arith)))
    ∙ (λ i. need_by (future_is_read f p.0 i) (name_is_read n q.0 i) (below_is_read (2 ^ 128) k (omega arith) q.1 i))

pub entry_is_read : (x : EntryShape) → has_line x ≡ true → entry_of (entry_line x) ≡ Some x
entry_is_read (Lent k) h = lent_is_read k h
entry_is_read (Committed k r) h = committed_is_read k r h
entry_is_read (Delivered (Edge f m n)) h = edge_is_read f m n h
entry_is_read (Delivered (Need f n k)) h = need_is_read f n k h

-- it is not the last line
pub not_the_end : (x : EntryShape) → same_text (entry_line x) (codes "end") ≡ false
not_the_end (Lent k) = refl
not_the_end (Committed k r) = refl
not_the_end (Delivered (Edge f m n)) = refl
not_the_end (Delivered (Need f n k)) = refl

-- no line feeds
pub entry_lacks : (x : EntryShape) → lacks 10 (entry_line x) ≡ true
entry_lacks (Lent k) = lacks-append 10 (codes "lent ") (decimal k) refl (decimal_lacks 10 k (omega arith))
entry_lacks (Committed k r) =
    ap (lacks 10) (committed_whole k r) ∙ lacks-append 10 (codes "committed ") (decimal k ++ (32 ∷ decimal r)) refl
    (lacks-append 10 (decimal k) (32 ∷ decimal r) (decimal_lacks 10 k (omega arith)) (decimal_lacks 10 r (omega arith)))
entry_lacks (Delivered (Edge f m n)) =
    ap (lacks 10) (edge_whole f m n) ∙ lacks-append 10 (codes "edge ") (future_text f ++ (32 ∷ (name_text m ++ (32 ∷ name_text n)))) refl
    (lacks-append 10 (future_text f) (32 ∷ (name_text m ++ (32 ∷ name_text n))) (future_lacks 10 (omega arith) f)
    (lacks-append 10 (name_text m) (32 ∷ name_text n) (name_lacks 10 (omega arith) m) (name_lacks 10 (omega arith) n)))
entry_lacks (Delivered (Need f n k)) =
    ap (lacks 10) (need_whole f n k) ∙ lacks-append 10 (codes "need ") (future_text f ++ (32 ∷ (name_text n ++ (32 ∷ decimal k)))) refl
    (lacks-append 10 (future_text f) (32 ∷ (name_text n ++ (32 ∷ decimal k))) (future_lacks 10 (omega arith) f)
    (lacks-append 10 (name_text n) (32 ∷ decimal k) (name_lacks 10 (omega arith) n) (decimal_lacks 10 k (omega arith))))
