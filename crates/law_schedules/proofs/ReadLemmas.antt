-- What is read of a report is in order: lists and counts grow by the same names, each above those before.
use Rattle.std.specs.Prelude.{◌≡◌, ℕ, suc, nat_le, ◌&&◌, Bool, true, false, T, List, [], ◌∷◌, ◌++◌, Option, Some, None, map, codes}
use Rattle.std.proofs.Common.{refl, sym, ap, subst, ◌∙◌}
use Rattle.std.proofs.lemmas.Bool.{and_parts}
use Rattle.std.proofs.lemmas.List.{map-append}
use Rattle.std.specs.FinMap.{is_sorted}
use Rattle.std.specs.FinMap.Entries.{below_all}
use Rattle.std.specs.Ordering.{is_lt}
use Rattle.asp_model.specs.declared.limits.TheConstants.{MOST_REDUCTIONS}
use Rattle.asp_model.specs.Names.{Name, Text, main_name, name_cmp, same_name, same_text}
use Rattle.asp_model.specs.Term.{has_text}
use Rattle.asp_model.specs.Configuration.{ReceptionShape}
use Rattle.asp_model.specs.Step.{ListsShape}
use Rattle.asp_model.specs.Replay.{CountsShape, total}
use Rattle.asp_model.specs.ReportLines.{parts, verdict_lines, activity_in, senders_of, is_output}
use Rattle.asp_model.specs.ReadReport.{Next, Title, Verdict, Main, Senders, Later, Progress, goes_on, with_activity, with_senders, is_behind, behind, Reading, Reads, BadLine, ended, read_on}
use Rattle.law_chases.proofs.FutureLemmas.{no_some, some_is, none_true}
use Rattle.law_schedules.specs.Divergence.{AreInOrder, ReportsAreInOrder}
use Rattle.law_schedules.proofs.LeastLemmas.{true_of}
use Rattle.law_schedules.proofs.RowLemmas.{less_both}

-- Names that ascend

abbrev names : {X : Type 0} → List (Name × X) → List Name
names es = map (λ x. x.0) es

abbrev AreAbove : Name → List Name → Type 0
AreAbove k [] = Unit {0}
AreAbove k (n ∷ ns) = (is_lt (name_cmp k n) ≡ true) × AreAbove k ns

abbrev AreBelow : Name → List Name → Type 0
AreBelow m [] = Unit {0}
AreBelow m (n ∷ ns) = (is_lt (name_cmp n m) ≡ true) × AreBelow m ns

abbrev Ascend : List Name → Type 0
Ascend [] = Unit {0}
Ascend (n ∷ ns) = AreAbove n ns × Ascend ns

above_all : (k m : Name) (ns : List Name) → AreAbove k ns → is_lt (name_cmp k m) ≡ true → AreAbove k (ns ++ m ∷ [])
above_all k m [] a h = (h, tt)
above_all k m (n ∷ ns) a h = (a.0, above_all k m ns a.1 h)

ascend_more : (m : Name) (ns : List Name) → Ascend ns → AreBelow m ns → Ascend (ns ++ m ∷ [])
ascend_more m [] a b = (tt, tt)
ascend_more m (n ∷ ns) a b = (above_all n m ns a.0 b.0, ascend_more m ns a.1 b.1)

-- those below one, and that one, are below each above it
below_more : (n m : Name) (ns : List Name) → AreBelow n ns → is_lt (name_cmp n m) ≡ true → AreBelow m (ns ++ n ∷ [])
below_more n m [] b h = (h, tt)
below_more n m (k ∷ ns) b h = (less_both k n m b.0 h, below_more n m ns b.1 h)

both_of : (a b : Bool) → a ≡ true → T b → T (a && b)
both_of true b p q = q
both_of false b p q = none_true p

sorted_above : {X : Type 0} (k : Name) (es : List (Name × X)) → AreAbove k (names es) → T (below_all name_cmp k es)
sorted_above k [] a = tt
sorted_above k (e ∷ es) a = both_of _ _ a.0 (sorted_above k es a.1)

sorted_by : {X : Type 0} (es : List (Name × X)) → Ascend (names es) → T (is_sorted name_cmp es)
sorted_by [] a = tt
sorted_by (e ∷ es) a = both_of _ _ (true_of _ (sorted_above e.0 es a.0)) (sorted_by es a.1)

-- What has been read

-- what is known of the names before the next line
abbrev Bounds : Next → List Name → Type 0
Bounds Title ns = (m : Name) → AreBelow m ns
Bounds Verdict ns = (m : Name) → AreBelow m ns
Bounds Main ns = (m : Name) → AreBelow m ns
Bounds (Senders n) ns = AreBelow n ns
Bounds (Later n) ns = (m : Name) → is_lt (name_cmp n m) ≡ true → AreBelow m ns

-- the names of the counts, where those of the lists are these
abbrev counted : Next → List Name → List Name
counted (Senders n) ns = ns ++ n ∷ []
counted next ns = ns

record IsRead (next : Next) (p : Progress) : Type 0 where
  same : names p.counts ≡ counted next (names p.lists)
  ascend : Ascend (names p.lists)
  bounds : Bounds next (names p.lists)

went_on : (next : Next) (p q : Progress) (b : Bool) → IsRead next (record p { next = next }) → goes_on next p b ≡ Some q → IsRead q.next q
went_on next p q true r h = subst (λ z. IsRead z.next z) (some_is h) r
went_on next p q false r h = no_some h

abbrev if_fits : Bool → Progress → Option Progress
if_fits b p = elim b [ true ↦ Some p | false ↦ None ]

activity_read : (fits : Name → Bool) (p q : Progress) (o : Option (Name × ℕ)) → names p.counts ≡ names p.lists → Ascend (names p.lists) → ((m : Name) → fits m ≡ true → AreBelow m (names p.lists)) → with_activity fits p o ≡ Some q → IsRead q.next q
activity_read fits p q None same ascend bounds h = no_some h
activity_read fits p q (Some a) same ascend bounds h = by_test (fits a.0 && nat_le (total (p.counts ++ a ∷ [])) MOST_REDUCTIONS) refl h
  where
    by_test : (b : Bool) → (fits a.0 && nat_le (total (p.counts ++ a ∷ [])) MOST_REDUCTIONS) ≡ b → if_fits b (record { next = Senders a.0; polls = p.polls; lists = p.lists; counts = p.counts ++ a ∷ [] }) ≡ Some q → IsRead q.next q
    by_test false is h = no_some h
    by_test true is h = subst (λ z. IsRead z.next z) (some_is h) (record {
      same = map-append (λ x. x.0) p.counts (a ∷ []) ∙ ap (λ ns. ns ++ a.0 ∷ []) same;
      ascend = ascend;
      bounds = bounds a.0 (and_parts (fits a.0) (nat_le (total (p.counts ++ a ∷ [])) MOST_REDUCTIONS) is).0;
    })

senders_read : (n : Name) (p q : Progress) (o : Option (List ReceptionShape)) → IsRead (Senders n) p → with_senders n p o ≡ Some q → IsRead q.next q
senders_read n p q None r h = no_some h
senders_read n p q (Some ns) r h =
    let grown : names (p.lists ++ (n, ns) ∷ []) ≡ names p.lists ++ n ∷ [] = map-append (λ x. x.0) p.lists ((n, ns) ∷ []) in
    subst (λ z. IsRead z.next z) (some_is h) (record {
      same = r.same ∙ sym grown;
      ascend = subst Ascend (sym grown) (ascend_more n (names p.lists) r.ascend r.bounds);
      bounds = λ m less. subst (AreBelow m) (sym grown) (below_more n m (names p.lists) r.bounds less);
    })

later_read : (n : Name) (p q : Progress) (line : Text) (b : Bool) → p.next ≡ Later n → IsRead (Later n) p → elim b [ true ↦ Some p | false ↦ with_activity (is_behind n) p (activity_in (parts 32 line)) ] ≡ Some q → IsRead q.next q
later_read n p q line true is r h = subst (λ z. IsRead z.next z) (some_is h) (subst (λ k. IsRead k p) (sym is) r)
later_read n p q line false is r h = activity_read (is_behind n) p q (activity_in (parts 32 line)) r.same r.ascend r.bounds h

title_read : (new old : Bool) (p q : Progress) → IsRead Title p
    → elim new [ true ↦ goes_on Verdict (record p { polls = true }) true | false ↦ goes_on Verdict p old ] ≡ Some q → IsRead q.next q
title_read true old p q r h = went_on Verdict (record p { polls = true }) q true (record { same = r.same; ascend = r.ascend; bounds = r.bounds }) h
title_read false old p q r h = went_on Verdict p q old (record { same = r.same; ascend = r.ascend; bounds = r.bounds }) h

line_read : (next : Next) (p q : Progress) (line : Text) → p.next ≡ next → IsRead next p → behind next p line ≡ Some q → IsRead q.next q
line_read Title p q line is r h = title_read (same_text line (codes "asp report 2")) (same_text line (codes "asp report 1")) p q r h
line_read Verdict p q line is r h = went_on Main p q (has_text line verdict_lines) (record { same = r.same; ascend = r.ascend; bounds = r.bounds }) h
line_read Main p q line is r h = activity_read (same_name main_name) p q (activity_in (parts 32 line)) r.same r.ascend (λ m e. r.bounds m) h
line_read (Senders n) p q line is r h = senders_read n p q (senders_of p.polls (parts 32 line)) r h
line_read (Later n) p q line is r h = later_read n p q line (is_output line) is r h

-- The end

abbrev is_reads : Reading → Bool
is_reads (Reads lists counts) = true
is_reads (BadLine line) = false

abbrev lists_read : ListsShape → Reading → ListsShape
lists_read lists (Reads ls cs) = ls
lists_read lists (BadLine line) = lists

abbrev counts_read : CountsShape → Reading → CountsShape
counts_read counts (Reads ls cs) = cs
counts_read counts (BadLine line) = counts

no_line : {C : Type 0} (line : ℕ) (lists : ListsShape) (counts : CountsShape) → BadLine line ≡ Reads lists counts → C
no_line line lists counts h = none_true (ap is_reads h)

in_order : (p : Progress) (lists : ListsShape) (counts : CountsShape) → names p.counts ≡ names p.lists → Ascend (names p.lists) → Reads p.lists p.counts ≡ Reads lists counts → AreInOrder lists counts
in_order p lists counts same ascend h =
    let ls : p.lists ≡ lists = ap (lists_read lists) h in
    let cs : p.counts ≡ counts = ap (counts_read counts) h in
    record {
      names = ap names (sym ls) ∙ sym same ∙ ap names cs;
      ascending = subst (λ l. T (is_sorted name_cmp l)) ls (sorted_by p.lists ascend);
    }

end_read : (next : Next) (p : Progress) (number : ℕ) (t : Text) (lists : ListsShape) (counts : CountsShape) → IsRead next p → ended next p number t ≡ Reads lists counts → AreInOrder lists counts
end_read Title p number t lists counts r h = no_line number lists counts h
end_read Verdict p number t lists counts r h = no_line number lists counts h
end_read Main p number t lists counts r h = no_line number lists counts h
end_read (Senders n) p number t lists counts r h = no_line number lists counts h
end_read (Later n) p number [] lists counts r h = in_order p lists counts r.same r.ascend h
end_read (Later n) p number (b ∷ t) lists counts r h = no_line number lists counts h

abbrev on_from : ℕ → List Text → Option Progress → Reading
on_from number ts o = elim o [ None ↦ BadLine number | Some q ↦ read_on q (suc number) ts ]

lines_read : (p : Progress) (number : ℕ) (ts : List Text) (lists : ListsShape) (counts : CountsShape) → IsRead p.next p → read_on p number ts ≡ Reads lists counts → AreInOrder lists counts
lines_read p number [] lists counts r h = no_line number lists counts h
lines_read p number (t ∷ []) lists counts r h = end_read p.next p number t lists counts r h
lines_read p number (t ∷ u ∷ ts) lists counts r h = elim (behind p.next p t) as (λ o. behind p.next p t ≡ o → on_from number (u ∷ ts) o ≡ Reads lists counts → AreInOrder lists counts) [
  | None ↦ λ is h. no_line number lists counts h
  | Some q ↦ λ is h. lines_read q (suc number) (u ∷ ts) lists counts (line_read p.next p q t refl r is) h
] refl h

pub reports_are_in_order : ReportsAreInOrder
reports_are_in_order bytes lists counts h = lines_read (record { next = Title; polls = false; lists = []; counts = [] }) 1 (parts 10 bytes) lists counts (record { same = refl; ascend = tt; bounds = λ m. tt }) h
