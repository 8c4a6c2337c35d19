-- A log with one entry more.
use Rattle.std.proofs.Common.{◌≡◌, ℕ, ◌+◌, ◌-◌, ◌<◌, List, [], ◌∷◌, ◌++◌, length, map, drop, get_or, Option, Some, None, Bor, refl, ap, sym, ◌∙◌, arith, length-append}
use Rattle.std.specs.Option.{option_map}
use Rattle.std.proofs.lemmas.List.{append_assoc, at_drop_more, get_or_push, map-append}
use Rattle.std.proofs.lemmas.Option.{slice_get_read}
use Rattle.asp_model.specs.declared.outcome.Reception.{Reception}
use Rattle.asp_model.specs.Configuration.{ReceptionShape}
use Rattle.asp_model.specs.Names.{Text}
use Rattle.asp_model.specs.ReportLines.{all_found}
use Rattle.asp_model.specs.Shapes.{reception_shape}
use Rattle.text_lines.proofs.FoundLemmas.{with_front, found_from}
use Rattle.sender_log.specs.Last.{last_read}

-- its last entry is that one
pub last_pushed : (log more : List Reception) (r : Reception) → more ≡ log ++ r ∷ [] → last_read more ≡ Some (reception_shape r)
last_pushed log more r e =
    let count : length more ≡ length log + 1 = ap length e ∙ length-append log (r ∷ []) in
    let place : r ≡ get_or more (length more - 1) r = sym (ap (λ (xs : List Reception). get_or xs (length more - 1) r) e ∙ get_or_push log r r (length more - 1) (omega (arith, count))) in
    ap (option_map reception_shape) (slice_get_read more (length more) (length more - 1) r refl (omega (arith, count)) place)

-- it is what was found before one more word

-- what is found in a word and behind it
abbrev found_behind : Option ReceptionShape → Option (List ReceptionShape) → Option (List ReceptionShape)
found_behind o rest = elim o [
  | None ↦ None
  | Some x ↦ elim rest [ None ↦ None | Some xs ↦ Some (x ∷ xs) ]
]

one_to_front : (front : List ReceptionShape) (x : ReceptionShape) (rest : Option (List ReceptionShape)) → with_front front (found_behind (Some x) rest) ≡ with_front (front ++ x ∷ []) rest
one_to_front front x None = refl
one_to_front front x (Some xs) = ap (λ (ys : List ReceptionShape). Some ys) (sym (append_assoc front (x ∷ []) xs))

pub found_more : (f : Text → Option ReceptionShape) (words : List (Bor (List ℕ))) (i : ℕ) (d : Bor (List ℕ)) (log more : List Reception) (r : Reception) → i < length words → f (get_or words i d).now ≡ Some (reception_shape r) → more ≡ log ++ r ∷ [] → found_from f (map reception_shape log) words i ≡ found_from f (map reception_shape more) words (i + 1)
found_more f words i d log more r h read e =
    let front = map reception_shape log in
    let rest = all_found f (map (λ w. w.now) (drop (i + 1) words)) in
    let grown : map reception_shape more ≡ front ++ reception_shape r ∷ [] = ap (map reception_shape) e ∙ map-append reception_shape log (r ∷ []) in
    at_drop_more (λ (ws : List (Bor (List ℕ))). with_front front (all_found f (map (λ w. w.now) ws))) words i d h
    ∙ ap (λ (o : Option ReceptionShape). with_front front (found_behind o rest)) read
    ∙ one_to_front front (reception_shape r) rest
    ∙ ap (λ (xs : List ReceptionShape). with_front xs rest) (sym grown)
