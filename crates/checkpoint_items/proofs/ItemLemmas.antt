-- The first item of a line.
use Rattle.std.proofs.Common.{◌≡◌, ℕ, ◌+◌, ◌<◌, ◌≤◌, Bool, true, false, List, [], ◌∷◌, ◌++◌, length, take, drop, get_or, refl, ap, sym, ◌∙◌, arith, append_assoc}
use Rattle.std.specs.Prelude.{◌==◌}
use Rattle.std.specs.List.{onto_first}
use Rattle.std.proofs.lemmas.Bool.Decides.{nat_tests}
use Rattle.std.proofs.lemmas.List.{append-nil, at_drop_more, at_drop_all, take_more, take_all}
use Rattle.asp_model.specs.Names.{Text}
use Rattle.asp_model.specs.ReportLines.{parts}

-- a text in front of the first of these
abbrev pub onto : Text → List Text → List Text
onto front [] = front ∷ []
onto front (p ∷ ps) = (front ++ p) ∷ ps

abbrev cut_by : ℕ → Bool → List Text → List Text
cut_by b true ps = [] ∷ ps
cut_by b false ps = onto_first b ps

nothing_first : (b : ℕ) (ps : List Text) → onto_first b ps ≡ onto [] (onto_first b ps)
nothing_first b [] = refl
nothing_first b (p ∷ ps) = refl

nothing_onto : (b : ℕ) (t : Bool) (ps : List Text) → cut_by b t ps ≡ onto [] (cut_by b t ps)
nothing_onto b true ps = refl
nothing_onto b false ps = nothing_first b ps

parts_by : (c b : ℕ) (bs : Text) → parts c (b ∷ bs) ≡ cut_by b (b == c) (parts c bs)
parts_by c b bs = by (b == c) (parts c bs)
  where
    by : (t : Bool) (ps : List Text) → elim t [ true ↦ [] ∷ ps | false ↦ onto_first b ps ] ≡ cut_by b t ps
    by true ps = refl
    by false ps = refl

-- before the first byte
pub begun : (c : ℕ) (bs : Text) → parts c bs ≡ onto [] (parts c bs)
begun c [] = refl
begun c (b ∷ bs) = parts_by c b bs ∙ nothing_onto b (b == c) (parts c bs) ∙ ap (onto []) (sym (parts_by c b bs))

one_first : (front : Text) (b : ℕ) (ps : List Text) → onto front (onto_first b ps) ≡ onto (front ++ b ∷ []) ps
one_first front b [] = refl
one_first front b (p ∷ ps) = ap (λ (t : Text). t ∷ ps) (sym (append_assoc front (b ∷ []) p))

not_cut : (c b : ℕ) → (b ≡ c → ⊥) → (b == c) ≡ false
not_cut c b h = grind (arith, nat_tests)

is_cut : (c b : ℕ) → b ≡ c → (b == c) ≡ true
is_cut c b h = grind (arith, nat_tests)

-- behind a byte that is none of those
pub byte_passed : (c : ℕ) (bs : Text) (i : ℕ) → i < length bs → (get_or bs i 0 ≡ c → ⊥) → parts c bs ≡ onto (take i bs) (parts c (drop i bs))
    → parts c bs ≡ onto (take (i + 1) bs) (parts c (drop (i + 1) bs))
byte_passed c bs i h other e =
    let b = get_or bs i 0 in
    e ∙ at_drop_more (λ (cs : Text). onto (take i bs) (parts c cs)) bs i 0 h
    ∙ ap (onto (take i bs)) (parts_by c b (drop (i + 1) bs) ∙ ap (λ t. cut_by b t (parts c (drop (i + 1) bs))) (not_cut c b other))
    ∙ one_first (take i bs) b (parts c (drop (i + 1) bs))
    ∙ ap (λ (t : Text). onto t (parts c (drop (i + 1) bs))) (sym (take_more bs i 0 h))

-- at the first of them
pub cut_there : (c : ℕ) (bs : Text) (i : ℕ) → i < length bs → get_or bs i 0 ≡ c → parts c bs ≡ onto (take i bs) (parts c (drop i bs))
    → parts c bs ≡ take i bs ∷ parts c (drop (i + 1) bs)
cut_there c bs i h same e =
    let b = get_or bs i 0 in
    e ∙ at_drop_more (λ (cs : Text). onto (take i bs) (parts c cs)) bs i 0 h
    ∙ ap (onto (take i bs)) (parts_by c b (drop (i + 1) bs) ∙ ap (λ t. cut_by b t (parts c (drop (i + 1) bs))) (is_cut c b same))
    ∙ ap (λ (t : Text). t ∷ parts c (drop (i + 1) bs)) (append-nil (take i bs))

-- and where there is none
pub never_cut : (c : ℕ) (bs : Text) (i : ℕ) → length bs ≤ i → parts c bs ≡ onto (take i bs) (parts c (drop i bs)) → parts c bs ≡ bs ∷ []
never_cut c bs i h e =
    e ∙ at_drop_all (λ (cs : Text). onto (take i bs) (parts c cs)) bs i h
    ∙ ap (λ (t : Text). t ∷ []) (append-nil (take i bs) ∙ take_all i bs h)
