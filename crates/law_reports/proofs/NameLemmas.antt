-- Names of activities and of futures, written and read.
use Rattle.std.proofs.Common.{◌≡◌, ℕ, ◌<◌, true, false, not, List, [], ◌∷◌, ◌++◌, map, Option, Some, None, refl, ap, sym, subst, ◌∙◌, arith, append_assoc}
use Rattle.std.specs.Prelude.{◌==◌, codes}
use Rattle.std.specs.List.{list_all, join_with_byte}
use Rattle.std.specs.Fmt.{decimal}
use Rattle.std.proofs.lemmas.Bool.{and_parts, and_from, ne_eqb, eqb-true}
use Rattle.std.proofs.lemmas.Fmt.{decimal_digit}
use Rattle.asp_model.specs.Names.{Name, Text, FutureShape, same_text}
use Rattle.asp_model.specs.WellFormed.{is_index, is_name, is_future_name}
use Rattle.asp_model.specs.Report.{name_text, future_text}
use Rattle.asp_model.specs.ReportLines.{parts, all_found, index_of, under_main, name_of_parts, name_of, asked_under, future_of, future_of_parts}
use Rattle.law_reports.proofs.PartsLemmas.{lacks, lacks-append, parts_one, parts_at, parts_joined}
use Rattle.law_reports.proofs.DigitLemmas.{decimal_lacks, index_is_read}

decimals_lack : (c : ℕ) → c < 48 → (ns : List ℕ) → list_all (lacks c) (map decimal ns) ≡ true
decimals_lack c small [] = refl
decimals_lack c small (n ∷ ns) = and_from _ _ (decimal_lacks c n small) (decimals_lack c small ns)

joined_lacks : (c : ℕ) → c < 46 → (ts : List Text) → list_all (lacks c) ts ≡ true → lacks c (join_with_byte 46 ts) ≡ true
joined_lacks c small [] h = refl
joined_lacks c small (t ∷ []) h = (and_parts (lacks c t) true h).0
joined_lacks c small (t ∷ u ∷ ts) h =
    let p = and_parts (lacks c t) (list_all (lacks c) (u ∷ ts)) h in
    lacks-append c t (46 ∷ join_with_byte 46 (u ∷ ts)) p.0 (and_from _ _ (ap not (ne_eqb 46 c (λ e. omega (arith, e)))) (joined_lacks c small (u ∷ ts) p.1))

pub name_lacks : (c : ℕ) → c < 46 → (n : Name) → lacks c (name_text n) ≡ true
name_lacks c small n = joined_lacks c small (map decimal n) (decimals_lack c (omega arith) n)

future_whole : (f : FutureShape) → future_text f ≡ name_text f.by ++ 35 ∷ decimal f.index
future_whole f = append_assoc (name_text f.by) (codes "#") (decimal f.index)

pub future_lacks : (c : ℕ) → c < 35 → (f : FutureShape) → lacks c (future_text f) ≡ true
future_lacks c small f =
    ap (lacks c) (future_whole f)
    ∙ lacks-append c (name_text f.by) (35 ∷ decimal f.index) (name_lacks c (omega arith) f.by)
    (and_from _ _ (ap not (ne_eqb 35 c (λ e. omega (arith, e)))) (decimal_lacks c f.index (omega arith)))

-- Reading

more_found : {X : Type 0} (x : X) → Option (List X) → Option (List X)
more_found x o = elim o [ None ↦ None | Some xs ↦ Some (x ∷ xs) ]

pub all_found-cons : {X : Type 0} (f : Text → Option X) (t : Text) (ts : List Text) (x : X) (xs : List X) → f t ≡ Some x → all_found f ts ≡ Some xs → all_found f (t ∷ ts) ≡ Some (x ∷ xs)
unfolding more_found
all_found-cons f t ts x xs e h = ap (λ o. elim o [ None ↦ None | Some y ↦ more_found y (all_found f ts) ]) e ∙ ap (more_found x) h

indexes_are_read : (ns : List ℕ) → list_all is_index ns ≡ true → all_found index_of (map decimal ns) ≡ Some ns
indexes_are_read [] h = refl
indexes_are_read (n ∷ ns) h =
    let p = and_parts (is_index n) (list_all is_index ns) h in
    all_found-cons index_of (decimal n) (map decimal ns) n ns (index_is_read n p.0) (indexes_are_read ns p.1)

under_zero : (ns : List ℕ) → list_all is_index ns ≡ true → name_of (name_text (0 ∷ ns)) ≡ Some (0 ∷ ns)
under_zero ns h =
    ap name_of_parts (parts_joined 46 (decimal 0) (map decimal ns) (decimals_lack 46 (omega arith) (0 ∷ ns)))
    ∙ ap (λ t. elim (same_text t (codes "0")) [ true ↦ under_main (all_found index_of (map decimal ns)) | false ↦ None ]) (decimal_digit 0 (omega arith))
    ∙ ap under_main (indexes_are_read ns h)

pub name_is_read : (n : Name) → is_name n ≡ true → name_of (name_text n) ≡ Some n
name_is_read [] h = absurd cc
name_is_read (m ∷ ns) h =
    let p = and_parts (m == 0) (list_all is_index ns) h in
    subst (λ k. name_of (name_text (k ∷ ns)) ≡ Some (k ∷ ns)) (sym (eqb-true m 0 p.0)) (under_zero ns p.1)

pub future_is_read : (f : FutureShape) → is_future_name f ≡ true → future_of (future_text f) ≡ Some f
future_is_read f h =
    let p = and_parts (is_name f.by) (is_index f.index) h in
    ap future_of_parts (ap (parts 35) (future_whole f) ∙ parts_at 35 (name_text f.by) (decimal f.index) (name_lacks 35 (omega arith) f.by) ∙ ap (λ (ts : List Text). name_text f.by ∷ ts) (parts_one 35 (decimal f.index) (decimal_lacks 35 f.index (omega arith))))
    ∙ (λ i. asked_under (name_is_read f.by p.0 i) (index_is_read f.index p.1 i))
