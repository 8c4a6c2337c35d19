-- Pieces of tokens, and the tokens of nodes.
use Rattle.std.proofs.Common.{◌≡◌, ℕ, Bool, true, false, List, [], ◌∷◌, ◌++◌, map, refl, sym, ap, ◌∙◌, append_assoc, add-one}
use Rattle.std.proofs.lemmas.List.{append-nil, map-append}
use Rattle.asp_model.specs.Names.{Text}
use Rattle.asp_model.specs.Term as term
use Rattle.asp_model.specs.Term.{Head, SignShape}
use Rattle.asp_model.specs.Marked.{MarkShape, Marked, marked, no_marked, and_marked, all_marked}
use Rattle.asp_model.specs.Shapes.{MarkedMethod, make_shape}
use Rattle.syntax_tokens.specs.declared.token.Token.{Token}
use Rattle.syntax_tokens.specs.declared.token.Token.TheVariants as tokens
use Rattle.syntax_tokens.specs.Tokens.{Lexeme, lexeme, tokens_in}
use Rattle.syntax_grammar.specs.Nodes.{labelled, put_to, is_get, terms_at, in_parentheses}
use Rattle.syntax_grammar.specs.Signs.{IsProductSign, multiplies, divides, leaves, IsSumSign, adds, subtracts, IsTestSign, is_less, is_same, IsWord, clones, repeats, prints, sizes, awaits, IsLabelWord, is_serve, is_pending}
use Rattle.syntax_grammar.specs.Grammar.{may_put}
use Rattle.asp_print.specs.Tokens.{enclosed, behind_each, between, first, sign_of, name_pieces, field_pieces, behind_fields, method_pieces, method_part, word_tokens, laid, tokens_of, pieces_of, node_tokens}
use Rattle.asp_print.specs.Parts.{field_tokens, method_tokens, object_tokens}

-- Lists of lexemes

pub both : (ls us : List Lexeme) {xs ys : List Token} → tokens_in ls ≡ xs → tokens_in us ≡ ys → tokens_in (ls ++ us) ≡ xs ++ ys
both ls us e d = map-append (λ l. l.token) ls us ∙ (λ i. e i ++ d i)

pub behind_more : {A : Type 0} (sign : Token) (f : A → List Token) (xs : List A) (y : A) → behind_each sign (map f xs) ++ sign ∷ f y ≡ behind_each sign (map f (xs ++ y ∷ []))
behind_more sign f [] y = ap (λ (ts : List Token). sign ∷ ts) (sym (append-nil (f y)))
behind_more sign f (x ∷ xs) y =
    ap (λ (ts : List Token). sign ∷ ts) (append_assoc (f x) (behind_each sign (map f xs)) (sign ∷ f y))
    ∙ ap (λ (ts : List Token). sign ∷ (f x ++ ts)) (behind_more sign f xs y)

-- one more piece
pub grown : {A : Type 0} (sign : Token) (f : A → List Token) (xs : List A) (y : A) (ls us : List Lexeme) (at : ℕ)
    → sign ∷ tokens_in ls ≡ behind_each sign (map f xs) → tokens_in us ≡ f y
    → sign ∷ tokens_in (ls ++ lexeme sign at ∷ us) ≡ behind_each sign (map f (xs ++ y ∷ []))
grown sign f xs y ls us at e d =
    ap (λ (ts : List Token). sign ∷ ts) (both ls (lexeme sign at ∷ us) refl (ap (λ (ts : List Token). sign ∷ ts) d))
    ∙ ap (λ (ts : List Token). ts ++ sign ∷ f y) e
    ∙ behind_more sign f xs y

pub between_is : (sign : Token) (ts : List Token) (ps : List (List Token)) → sign ∷ ts ≡ behind_each sign ps → ts ≡ between sign ps
between_is sign ts [] e = cc
between_is sign ts (p ∷ ps) e = cc

pub method_part_is : (ts : List Token) (ps : List (List Token)) → tokens.Comma ∷ ts ≡ behind_each tokens.Comma ps → tokens.Semicolon ∷ ts ≡ method_part ps
method_part_is ts [] e = cc
method_part_is ts (p ∷ ps) e = ap (λ (ts : List Token). tokens.Semicolon ∷ ts) (between_is tokens.Comma ts (p ∷ ps) e)

-- Nodes

pub pieces_all : (ts : List Marked) → pieces_of (all_marked ts) ≡ map tokens_of ts
pieces_all [] = refl
pieces_all (t ∷ ts) = ap (λ (ps : List (List Token)). tokens_of t ∷ ps) (pieces_all ts)

pub terms_tokens : (at : ℕ) (ts : List Marked) → tokens_of (terms_at at ts) ≡ between tokens.Semicolon (map tokens_of ts)
terms_tokens at [] = refl
terms_tokens at (t ∷ []) = sym (append-nil (tokens_of t))
terms_tokens at (t ∷ u ∷ ts) = ap (between tokens.Semicolon) (pieces_all (t ∷ u ∷ ts))

pub steps_are : (at : ℕ) (ts : List Token) (us : List Marked) → tokens.Semicolon ∷ ts ≡ behind_each tokens.Semicolon (map tokens_of us) → ts ≡ tokens_of (terms_at at us)
steps_are at ts us e = between_is tokens.Semicolon ts (map tokens_of us) e ∙ sym (terms_tokens at us)

pub parentheses_tokens : (t : Marked) → tokens_of (in_parentheses t) ≡ tokens.Open ∷ (tokens_of t ++ tokens.Close ∷ [])
parentheses_tokens (marked h m ts) = ap (λ (n : ℕ). enclosed n (laid h m.left (pieces_of ts))) (add-one m.parentheses)

pub put_tokens : (at : ℕ) (t u : Marked) → is_get t ≡ true → tokens_of (put_to at t u) ≡ tokens_of t ++ tokens.Assign ∷ tokens_of u
put_tokens at (marked (term.Get label) m (and_marked t no_marked)) u e = refl
put_tokens at t u e = cc

pub put_is_get : (s : Bool) (t : Marked) → s ≡ true → may_put s t ≡ true → is_get t ≡ true
put_is_get true t e h = h
put_is_get false t e h = cc

pub word_laid : {word : Token} {head : Head} → IsWord word head → (ps : List (List Token)) → laid head 0 ps ≡ word_tokens word (first ps)
word_laid clones ps = refl
word_laid repeats ps = refl
word_laid prints ps = refl
word_laid sizes ps = refl
word_laid awaits ps = refl

pub label_word_laid : {word : Token} {polls : Bool} → IsLabelWord word polls → (xs : List Text) → laid (labelled polls xs) 0 [] ≡ word_tokens word (between tokens.Comma (name_pieces xs))
label_word_laid is_serve xs = refl
label_word_laid is_pending xs = refl

pub product_sign : {token : Token} {sign : SignShape} → IsProductSign token sign → token ≡ sign_of sign
product_sign multiplies = refl
product_sign divides = refl
product_sign leaves = refl

pub sum_sign : {token : Token} {sign : SignShape} → IsSumSign token sign → token ≡ sign_of sign
sum_sign adds = refl
sum_sign subtracts = refl

pub test_sign : {token : Token} {sign : SignShape} → IsTestSign token sign → token ≡ sign_of sign
test_sign is_less = refl
test_sign is_same = refl

-- Objects

fields_laid : (fs : List (Text × Marked)) (us : List Marked) → field_pieces (map (λ f. f.0) fs) (pieces_of (all_marked (map (λ f. f.1) fs ++ us))) ≡ map field_tokens fs
fields_laid [] us = refl
fields_laid (f ∷ fs) us = ap (λ (ps : List (List Token)). field_tokens f ∷ ps) (fields_laid fs us)

fields_left : (fs : List (Text × Marked)) (us : List Marked) → behind_fields (map (λ f. f.0) fs) (pieces_of (all_marked (map (λ f. f.1) fs ++ us))) ≡ pieces_of (all_marked us)
fields_left [] us = refl
fields_left (f ∷ fs) us = fields_left fs us

methods_laid : (ms : List MarkedMethod) → method_pieces (map (λ m. m.head) ms) (pieces_of (all_marked (map (λ m. m.body) ms))) ≡ map method_tokens ms
methods_laid [] = refl
methods_laid (m ∷ ms) = ap (λ (ps : List (List Token)). method_tokens m ∷ ps) (methods_laid ms)

-- an object without the parentheses round it
pub make_node : (m : MarkShape) (fs : List (Text × Marked)) (ms : List MarkedMethod) → node_tokens (make_shape m fs ms) ≡ object_tokens fs ms
make_node m fs ms =
    let bodies : List Marked = map (λ m. m.body) ms in
    let methods : method_pieces (map (λ m. m.head) ms) (behind_fields (map (λ f. f.0) fs) (pieces_of (all_marked (map (λ f. f.1) fs ++ bodies)))) ≡ map method_tokens ms =
    ap (method_pieces (map (λ m. m.head) ms)) (fields_left fs bodies) ∙ methods_laid ms in
    λ i. tokens.SquareOpen ∷ (between tokens.Comma (fields_laid fs bodies i) ++ (method_part (methods i) ++ tokens.SquareClose ∷ []))

pub make_tokens : (m : MarkShape) (fs : List (Text × Marked)) (ms : List MarkedMethod) → tokens_of (make_shape m fs ms) ≡ enclosed m.parentheses (object_tokens fs ms)
make_tokens m fs ms = ap (enclosed m.parentheses) (make_node m fs ms)
