-- Programs in bytes are readable, so they have no places, and printable texts.
use Rattle.std.specs.Prelude.{◌≡◌, ◌⊎◌, ◌≤◌, ◌==◌, ◌&&◌, ◌||◌, not, nat_le, ℕ, Bool, true, false, List, [], ◌∷◌, ◌++◌}
use Rattle.std.specs.List.{list_all, flat_map}
use Rattle.std.proofs.Common.{refl, sym, ◌∙◌, arith, inl, inr, ⊎_elim}
use Rattle.std.proofs.lemmas.Bool.{and_parts, and_from, leb-true, le-leb, eqb-true}
use Rattle.std.proofs.lemmas.List.Folds.{list_all-append}
use Rattle.asp_model.specs.Names.{Text}
use Rattle.asp_model.specs.Term.{MethodHead, Head, Loc, Make, Echo, Tree, Trees, node, none, more, locations, locations_below, has_text}
use Rattle.asp_model.specs.Marked.{plain}
use Rattle.asp_model.specs.Readable.{is_letter, is_digit, is_inner, reserved_words, is_identifier, names_of_method, is_written, IsReadable, AreReadable}
use Rattle.asp_model.specs.WellFormed.{is_printable}
use Rattle.syntax_tokens.specs.Tokens.{lexemes_of}
use Rattle.law_chases.proofs.FutureLemmas.{none_true}
use Rattle.law_outcomes.specs.Heads.{EachHead, EachBelow, Passes}
use Rattle.law_outcomes.specs.Texts.{has_printable_text}
use Rattle.law_outcomes.specs.Programs.{ProgramsAreReadable, ProgramsHaveNoPlaces, ProgramTextsArePrintable}
use Rattle.law_outcomes.proofs.TokenLemmas.{lexemes_sound}
use Rattle.law_outcomes.proofs.GrammarLemmas.{program_read}

pub programs_are_readable : ProgramsAreReadable
programs_are_readable bytes program p = program_read (lexemes_of bytes) program p.is (lexemes_sound bytes)

mutual
  no_places : (t : Tree) → IsReadable t → locations t ≡ []
  no_places (node (Loc n) ts) r = none_true r.0
  no_places (node h ts) r = none_below ts r.2

  none_below : (ts : Trees) → AreReadable ts → locations_below ts ≡ []
  none_below none r = refl
  none_below (more t ts) r = λ i. no_places t r.0 i ++ none_below ts r.1 i

pub programs_have_no_places : ProgramsHaveNoPlaces
programs_have_no_places bytes program p = no_places (plain program) (programs_are_readable bytes program p)

-- Names

or_parts : (a b : Bool) → (a || b) ≡ true → (a ≡ true) ⊎ (b ≡ true)
or_parts true b h = inl refl
or_parts false b h = inr h

between : (low high b : ℕ) → 32 ≤ low → high ≤ 126 → (nat_le low b && nat_le b high) ≡ true → is_printable b ≡ true
between low high b least most h =
    let p = and_parts (nat_le low b) (nat_le b high) h in
    let above : low ≤ b = leb-true low b p.0 in
    let below : b ≤ high = leb-true b high p.1 in
    and_from _ _ (le-leb 32 b (omega arith)) (le-leb b 126 (omega arith))

letter_printable : (b : ℕ) → is_letter b ≡ true → is_printable b ≡ true
letter_printable b h = ⊎_elim
    (λ l. ⊎_elim (λ upper. between 65 90 b (omega arith) (omega arith) upper) (λ lower. between 97 122 b (omega arith) (omega arith) lower) (or_parts (nat_le 65 b && nat_le b 90) (nat_le 97 b && nat_le b 122) l))
    (λ u. let is : b ≡ 95 = eqb-true b 95 u in and_from _ _ (le-leb 32 b (omega arith)) (le-leb b 126 (omega arith)))
    (or_parts ((nat_le 65 b && nat_le b 90) || (nat_le 97 b && nat_le b 122)) (b == 95) h)

inner_printable : (b : ℕ) → is_inner b ≡ true → is_printable b ≡ true
inner_printable b h = ⊎_elim (λ l. letter_printable b l) (λ d. between 48 57 b (omega arith) (omega arith) d) (or_parts (is_letter b) (is_digit b) h)

all_inner_printable : (bs : Text) → list_all is_inner bs ≡ true → list_all is_printable bs ≡ true
all_inner_printable [] h = refl
all_inner_printable (b ∷ bs) h = let p = and_parts (is_inner b) (list_all is_inner bs) h in and_from _ _ (inner_printable b p.0) (all_inner_printable bs p.1)

name_printable : (x : Text) → is_identifier x ≡ true → list_all is_printable x ≡ true
unfolding is_identifier
name_printable [] h = refl
name_printable (b ∷ bs) h =
    let p = and_parts (is_letter b) (list_all is_inner bs) (and_parts (is_letter b && list_all is_inner bs) (not (has_text (b ∷ bs) reserved_words)) h).0 in
    and_from _ _ (letter_printable b p.0) (all_inner_printable bs p.1)

labels_printable : (xs : List Text) → list_all is_identifier xs ≡ true → list_all (list_all is_printable) xs ≡ true
labels_printable [] h = refl
labels_printable (x ∷ xs) h = let p = and_parts (is_identifier x) (list_all is_identifier xs) h in and_from _ _ (name_printable x p.0) (labels_printable xs p.1)

heads_printable : (ms : List MethodHead) → list_all is_identifier (flat_map names_of_method ms) ≡ true → list_all (λ m. list_all is_printable m.label) ms ≡ true
heads_printable [] h = refl
heads_printable (m ∷ ms) h =
    let p = and_parts (list_all is_identifier (names_of_method m)) (list_all is_identifier (flat_map names_of_method ms)) (sym (list_all-append is_identifier (names_of_method m) (flat_map names_of_method ms)) ∙ h) in
    let q = and_parts (is_identifier m.label) (list_all is_identifier (m.slf ∷ m.parameters)) p.0 in
    and_from _ _ (name_printable m.label q.0) (heads_printable ms p.1)

-- Nodes

text_printable : (h : Head) → is_written h ≡ true → has_printable_text h ≡ true
text_printable (Echo text) w = w
text_printable (Make fields methods) w =
    let p = and_parts (list_all is_identifier fields) (list_all is_identifier (flat_map names_of_method methods)) (sym (list_all-append is_identifier fields (flat_map names_of_method methods)) ∙ w) in
    and_from _ _ (labels_printable fields p.0) (heads_printable methods p.1)
text_printable h w = refl

mutual
  texts_printable : (t : Tree) → IsReadable t → EachHead (Passes has_printable_text) t
  texts_printable (node h ts) r = (text_printable h r.0, below_printable ts r.2)

  below_printable : (ts : Trees) → AreReadable ts → EachBelow (Passes has_printable_text) ts
  below_printable none r = tt
  below_printable (more t ts) r = (texts_printable t r.0, below_printable ts r.1)

pub program_texts_are_printable : ProgramTextsArePrintable
program_texts_are_printable bytes program p = texts_printable (plain program) (programs_are_readable bytes program p)
