-- Lines of a report, written and read.
use Rattle.std.proofs.Common.{◌≡◌, ◌≤◌, ◌<◌, ℕ, sym, subst, Bool, true, false, not, List, [], ◌∷◌, ◌++◌, map, Some, None, refl, ap, ◌∙◌, arith, append_assoc}
use Rattle.std.specs.Prelude.{◌||◌, ◌&&◌, nat_le, codes}
use Rattle.std.specs.List.{list_all, flat_map}
use Rattle.std.specs.Fmt.{decimal, signed_decimal}
use Rattle.std.proofs.lemmas.Bool.{and_parts, and_from, ne_eqb, leb-true}
use Rattle.std.proofs.lemmas.List.{append-nil}
use Rattle.std.proofs.lemmas.Slice.Eq.{bytes_eq-Decides}
use Rattle.asp_model.specs.declared.limits.TheConstants.{MOST_REDUCTIONS}
use Rattle.asp_model.specs.Names.{Name, Text, same_text}
use Rattle.asp_model.specs.Configuration.{ReceptionShape, From, Poll}
use Rattle.asp_model.specs.Contraction.{FaultShape, NoField, NoMethod, NotObject, NotNumber, NotGroup, BadMember, ActiveField, Overflow, ZeroDivisor, LineShape, NumberLine, TextLine}
use Rattle.asp_model.specs.Intent.{StatusShape, Done, Serving, Running, Awaits, Faulted}
use Rattle.asp_model.specs.Status.{VerdictShape, End, Blocked, Budget}
use Rattle.asp_model.specs.Outcome.{ActivityReportShape}
use Rattle.asp_model.specs.WellFormed.{is_named_reception, is_name, is_named_status, is_printable, is_printable_line}
use Rattle.asp_model.specs.Report.{reception_text, name_text, future_text, fault_text, status_text, verdict_line, activity_line, senders_line, output_line}
use Rattle.asp_model.specs.ReportLines.{all_found, is_found, from_name, reception_in, parts, name_of, count_of, are_status_words, counted, activity_in, senders_of, is_output}
use Rattle.law_reports.proofs.PartsLemmas.{lacks, lacks-append, parts_one, parts_at}
use Rattle.law_reports.proofs.DigitLemmas.{decimal_lacks, signed_lacks_feed, count_is_read}
use Rattle.law_reports.proofs.NameLemmas.{name_lacks, future_lacks, name_is_read, all_found-cons, future_is_read}

-- Statuses

faulted_is_read : (f : FaultShape) → are_status_words (parts 32 (status_text (Faulted f))) ≡ true
faulted_is_read NoField = refl
faulted_is_read NoMethod = refl
faulted_is_read NotObject = refl
faulted_is_read NotNumber = refl
faulted_is_read NotGroup = refl
faulted_is_read BadMember = refl
faulted_is_read ActiveField = refl
faulted_is_read Overflow = refl
faulted_is_read ZeroDivisor = refl

or_true : (b c : Bool) → b ≡ true → (b || c) ≡ true
or_true b c e = ap (λ x. x || c) e

status_is_read : (s : StatusShape) → is_named_status s ≡ true → are_status_words (parts 32 (status_text s)) ≡ true
status_is_read Done h = refl
status_is_read Serving h = refl
status_is_read Running h = refl
status_is_read (Awaits f) h =
    ap (λ (ts : List Text). are_status_words (codes "awaits" ∷ ts)) (parts_one 32 (future_text f) (future_lacks 32 (omega arith) f))
    ∙ or_true _ _ (ap is_found (future_is_read f h))
status_is_read (Faulted f) h = faulted_is_read f

faulted_lacks : (f : FaultShape) → lacks 10 (fault_text f) ≡ true
faulted_lacks NoField = refl
faulted_lacks NoMethod = refl
faulted_lacks NotObject = refl
faulted_lacks NotNumber = refl
faulted_lacks NotGroup = refl
faulted_lacks BadMember = refl
faulted_lacks ActiveField = refl
faulted_lacks Overflow = refl
faulted_lacks ZeroDivisor = refl

status_lacks : (s : StatusShape) → lacks 10 (status_text s) ≡ true
status_lacks Done = refl
status_lacks Serving = refl
status_lacks Running = refl
status_lacks (Awaits f) = lacks-append 10 (codes "awaits ") (future_text f) refl (future_lacks 10 (omega arith) f)
status_lacks (Faulted f) = lacks-append 10 (codes "fault ") (fault_text f) refl (faulted_lacks f)

-- Activity lines

activity_whole : (a : ActivityReportShape) → activity_line a ≡ codes "activity " ++ (name_text a.name ++ (32 ∷ (decimal a.count ++ (32 ∷ status_text a.status))))
activity_whole a = simp append_assoc refl

activity_parts : (a : ActivityReportShape) → parts 32 (activity_line a) ≡ codes "activity" ∷ name_text a.name ∷ decimal a.count ∷ parts 32 (status_text a.status)
activity_parts a =
    ap (parts 32) (activity_whole a)
    ∙ ap (λ (ts : List Text). codes "activity" ∷ ts) (parts_at 32 (name_text a.name) (decimal a.count ++ 32 ∷ status_text a.status) (name_lacks 32 (omega arith) a.name)
    ∙ ap (λ (ts : List Text). name_text a.name ∷ ts) (parts_at 32 (decimal a.count) (status_text a.status) (decimal_lacks 32 a.count (omega arith))))

pub activity_is_read : (a : ActivityReportShape) → is_name a.name ≡ true → is_named_status a.status ≡ true → a.count ≤ MOST_REDUCTIONS → activity_in (parts 32 (activity_line a)) ≡ Some (a.name, a.count)
activity_is_read a named status small =
    ap activity_in (activity_parts a)
    ∙ ap (λ b. elim b [ true ↦ counted (name_of (name_text a.name)) (count_of (decimal a.count)) | false ↦ None ]) (status_is_read a.status status)
    ∙ (λ i. counted (name_is_read a.name named i) (count_is_read a.count small i))

pub activity_lacks : (a : ActivityReportShape) → lacks 10 (activity_line a) ≡ true
activity_lacks a =
    let status : Text = 32 ∷ status_text a.status in
    let count : Text = 32 ∷ (decimal a.count ++ status) in
    ap (lacks 10) (activity_whole a)
    ∙ lacks-append 10 (codes "activity ") (name_text a.name ++ count) refl
    (lacks-append 10 (name_text a.name) count (name_lacks 10 (omega arith) a.name)
    (lacks-append 10 (decimal a.count) status (decimal_lacks 10 a.count (omega arith)) (status_lacks a.status)))

-- Senders lines

reception_lacks : (c : ℕ) → c < 46 → (x : ReceptionShape) → lacks c (reception_text x) ≡ true
reception_lacks c small (From n) = name_lacks c small n
reception_lacks c small Poll = and_from _ _ (ap not (ne_eqb 63 c (λ e. omega (arith, e, small)))) refl

sender_parts : (t : Text) (ns : List ReceptionShape) → lacks 32 t ≡ true → parts 32 (t ++ flat_map (λ n. codes " " ++ reception_text n) ns) ≡ t ∷ map reception_text ns
sender_parts t [] h = ap (parts 32) (append-nil t) ∙ parts_one 32 t h
sender_parts t (n ∷ ns) h = parts_at 32 t _ h ∙ ap (λ (ts : List Text). t ∷ ts) (sender_parts (reception_text n) ns (reception_lacks 32 (omega arith) n))

abbrev only_true : Bool → Type 0
only_true true = Unit {0}
only_true false = ⊥

no_question : {C : Type 0} (n : Name) → is_name n ≡ true → name_text n ≡ codes "?" → C
no_question n named is = absurd (subst only_true (sym (ap is_found (ap name_of (sym is) ∙ name_is_read n named))) tt)

reception_is_read : (x : ReceptionShape) → is_named_reception x ≡ true → reception_in true (reception_text x) ≡ Some x
reception_is_read Poll h = refl
reception_is_read (From n) h = elim (same_text (name_text n) (codes "?")) as (λ b. same_text (name_text n) (codes "?") ≡ b → elim b [ true ↦ Some Poll | false ↦ from_name (name_of (name_text n)) ] ≡ Some (From n)) [
  | true ↦ λ is. no_question n h ((bytes_eq-Decides (name_text n) (codes "?")).0 is)
  | false ↦ λ is. ap from_name (name_is_read n h)
] refl

receptions_are_read : (xs : List ReceptionShape) → list_all is_named_reception xs ≡ true → all_found (reception_in true) (map reception_text xs) ≡ Some xs
receptions_are_read [] h = refl
receptions_are_read (x ∷ xs) h =
    let p = and_parts (is_named_reception x) (list_all is_named_reception xs) h in
    all_found-cons (reception_in true) (reception_text x) (map reception_text xs) x xs (reception_is_read x p.0) (receptions_are_read xs p.1)

pub senders_are_read : (xs : List ReceptionShape) → list_all is_named_reception xs ≡ true → senders_of true (parts 32 (senders_line xs)) ≡ Some xs
senders_are_read xs h = ap (senders_of true) (sender_parts (codes "senders") xs refl) ∙ receptions_are_read xs h

names_lack : (ns : List ReceptionShape) → lacks 10 (flat_map (λ n. codes " " ++ reception_text n) ns) ≡ true
names_lack [] = refl
names_lack (n ∷ ns) = lacks-append 10 (codes " " ++ reception_text n) (flat_map (λ m. codes " " ++ reception_text m) ns) (lacks-append 10 (codes " ") (reception_text n) refl (reception_lacks 10 (omega arith) n)) (names_lack ns)

pub senders_lack : (ns : List ReceptionShape) → lacks 10 (senders_line ns) ≡ true
senders_lack ns = lacks-append 10 (codes "senders") (flat_map (λ n. codes " " ++ reception_text n) ns) refl (names_lack ns)

-- Other lines

-- it may stand where outputs do, and has no line feed
abbrev pub is_plain : Text → Bool
is_plain t = is_output t && lacks 10 t

pub output_is_read : (l : LineShape) → is_output (output_line l) ≡ true
output_is_read (NumberLine n) = refl
output_is_read (TextLine t) = refl

pub printable_lack : (t : Text) → list_all is_printable t ≡ true → lacks 10 t ≡ true
printable_lack [] h = refl
printable_lack (b ∷ t) h =
    let p = and_parts (is_printable b) (list_all is_printable t) h in
    let above : 32 ≤ b = leb-true 32 b (and_parts (nat_le 32 b) (nat_le b 126) p.0).0 in
    and_from _ _ (ap not (ne_eqb b 10 (λ e. omega (arith, e)))) (printable_lack t p.1)

pub output_lacks : (l : LineShape) → is_printable_line l ≡ true → lacks 10 (output_line l) ≡ true
output_lacks (NumberLine n) h = lacks-append 10 (codes "> ") (signed_decimal n) refl (signed_lacks_feed n)
output_lacks (TextLine t) h = lacks-append 10 (codes "| ") t refl (printable_lack t h)

pub verdict_lacks : (v : VerdictShape) → lacks 10 (verdict_line v) ≡ true
verdict_lacks End = refl
verdict_lacks Blocked = refl
verdict_lacks Budget = refl
