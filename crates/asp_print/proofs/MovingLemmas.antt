-- A program of the grammar stays one where its lexemes get other places.
use Rattle.std.proofs.Common.{◌≡◌, ℕ, Bool, true, false, List, [], ◌∷◌, ◌++◌, map, refl, sym, ap, ◌∙◌, subst}
use Rattle.std.proofs.lemmas.List.{map-append}
use Rattle.asp_model.specs.Names.{Text}
use Rattle.asp_model.specs.Term as term
use Rattle.asp_model.specs.Term.{MethodHead}
use Rattle.asp_model.specs.Marked.{Marked, MarkedList, marked, no_marked, and_marked, all_marked}
use Rattle.asp_model.specs.Shapes.{MarkedMethod, make_shape}
use Rattle.syntax_tokens.specs.declared.token.Token.{Token}
use Rattle.syntax_tokens.specs.Tokens.{Lexeme, lexeme}
use Rattle.syntax_grammar.specs.Nodes.{PartShape, part, put_to, is_get, terms_at, in_parentheses, named_mark, mark_at, method}
use Rattle.syntax_grammar.specs.Grammar.{may_put}
use Rattle.asp_print.specs.Tokens.{enclosed, laid, tokens_of, pieces_of}
use Rattle.asp_print.specs.Places.{moved, moved_below}

abbrev pub moved_lexeme : (ℕ → ℕ) → Lexeme → Lexeme
moved_lexeme f l = lexeme l.token (f l.at)

abbrev pub moved_all : (ℕ → ℕ) → List Lexeme → List Lexeme
moved_all f ls = map (moved_lexeme f) ls

abbrev pub moved_part : (ℕ → ℕ) → PartShape → PartShape
moved_part f p = part (f p.start) (moved f p.term)

abbrev pub moved_field : (ℕ → ℕ) → Text × Marked → Text × Marked
moved_field f x = (x.0, moved f x.1)

abbrev pub moved_method : (ℕ → ℕ) → MarkedMethod → MarkedMethod
moved_method f m = method m.head (moved f m.body)

-- a fact of lexemes and of what they are, along two equations
pub along : {A : Type 0} (R : List Lexeme → A → Type 0) {ls us : List Lexeme} {x y : A} → R ls x → ls ≡ us → x ≡ y → R us y
along R {us = us} {x = x} h e d = let P : List Lexeme → Type 0 = λ l. R l x in subst (R us) d (subst P e h)

pub split : (f : ℕ → ℕ) (ls us : List Lexeme) → moved_all f ls ++ moved_all f us ≡ moved_all f (ls ++ us)
split f ls us = sym (map-append (moved_lexeme f) ls us)

-- Nodes

pub all_moved : (f : ℕ → ℕ) (ts : List Marked) → moved_below f (all_marked ts) ≡ all_marked (map (moved f) ts)
all_moved f [] = refl
all_moved f (t ∷ ts) = ap (and_marked (moved f t)) (all_moved f ts)

pub terms_moved : (f : ℕ → ℕ) (at : ℕ) (ts : List Marked) → terms_at (f at) (map (moved f) ts) ≡ moved f (terms_at at ts)
terms_moved f at [] = refl
terms_moved f at (t ∷ []) = refl
terms_moved f at (t ∷ u ∷ ts) = ap (marked term.Steps (mark_at (f at))) (sym (all_moved f (t ∷ u ∷ ts)))

pub parentheses_moved : (f : ℕ → ℕ) (t : Marked) → in_parentheses (moved f t) ≡ moved f (in_parentheses t)
parentheses_moved f (marked h m ts) = refl

pub put_moved : (f : ℕ → ℕ) (at : ℕ) (t u : Marked) → put_to (f at) (moved f t) (moved f u) ≡ moved f (put_to at t u)
put_moved f at (marked (term.Get label) m (and_marked t no_marked)) u = refl
put_moved f at (marked (term.Get label) m no_marked) u = refl
put_moved f at (marked (term.Get label) m (and_marked t (and_marked v ts))) u = refl
put_moved f at (marked h m ts) u = refl

get_moved : (f : ℕ → ℕ) (t : Marked) → is_get (moved f t) ≡ is_get t
get_moved f (marked (term.Get label) m (and_marked t no_marked)) = refl
get_moved f (marked (term.Get label) m no_marked) = refl
get_moved f (marked (term.Get label) m (and_marked t (and_marked v ts))) = refl
get_moved f (marked h m ts) = refl

pub may_put_moved : (f : ℕ → ℕ) (s : Bool) (t : Marked) → may_put s t ≡ true → may_put s (moved f t) ≡ true
may_put_moved f true t h = get_moved f t ∙ h
may_put_moved f false t h = refl

-- Objects

field_names : (f : ℕ → ℕ) (fs : List (Text × Marked)) → map (λ x. x.0) (map (moved_field f) fs) ≡ map (λ x. x.0) fs
field_names f [] = refl
field_names f (x ∷ fs) = ap (λ (ns : List Text). x.0 ∷ ns) (field_names f fs)

method_heads : (f : ℕ → ℕ) (ms : List MarkedMethod) → map (λ m. m.head) (map (moved_method f) ms) ≡ map (λ m. m.head) ms
method_heads f [] = refl
method_heads f (m ∷ ms) = ap (λ (hs : List MethodHead). m.head ∷ hs) (method_heads f ms)

bodies_moved : (f : ℕ → ℕ) (ms : List MarkedMethod) → all_marked (map (λ m. m.body) (map (moved_method f) ms)) ≡ moved_below f (all_marked (map (λ m. m.body) ms))
bodies_moved f [] = refl
bodies_moved f (m ∷ ms) = ap (and_marked (moved f m.body)) (bodies_moved f ms)

below_moved : (f : ℕ → ℕ) (fs : List (Text × Marked)) (ms : List MarkedMethod)
    → all_marked (map (λ x. x.1) (map (moved_field f) fs) ++ map (λ m. m.body) (map (moved_method f) ms)) ≡ moved_below f (all_marked (map (λ x. x.1) fs ++ map (λ m. m.body) ms))
below_moved f [] ms = bodies_moved f ms
below_moved f (x ∷ fs) ms = ap (and_marked (moved f x.1)) (below_moved f fs ms)

pub object_moved : (f : ℕ → ℕ) (at : ℕ) (ns ms : List ℕ) (fs : List (Text × Marked)) (xs : List MarkedMethod)
    → make_shape (named_mark (f at) (map f ns ++ map f ms)) (map (moved_field f) fs) (map (moved_method f) xs) ≡ moved f (make_shape (named_mark at (ns ++ ms)) fs xs)
object_moved f at ns ms fs xs = λ i. marked (term.Make (field_names f fs i) (method_heads f xs i)) (named_mark (f at) (sym (map-append f ns ms) i)) (below_moved f fs xs i)

-- Other places, and the same program

names_again : (f g : ℕ → ℕ) (ns : List ℕ) → ((n : ℕ) → g (f n) ≡ g n) → map g (map f ns) ≡ map g ns
names_again f g [] e = refl
names_again f g (n ∷ ns) e = λ i. e n i ∷ names_again f g ns e i

mutual
  again : (f g : ℕ → ℕ) (t : Marked) → ((n : ℕ) → g (f n) ≡ g n) → moved g (moved f t) ≡ moved g t
  again f g (marked h m ts) e = λ i. marked h (record { at = e m.at i; parentheses = m.parentheses; left = m.left; names = names_again f g m.names e i }) (again_below f g ts e i)

  again_below : (f g : ℕ → ℕ) (ts : MarkedList) → ((n : ℕ) → g (f n) ≡ g n) → moved_below g (moved_below f ts) ≡ moved_below g ts
  again_below f g no_marked e = refl
  again_below f g (and_marked t ts) e = λ i. and_marked (again f g t e i) (again_below f g ts e i)

pub unplaced_again : (f : ℕ → ℕ) (t : Marked) → moved (λ n. 0) (moved f t) ≡ moved (λ n. 0) t
unplaced_again f t = again f (λ n. 0) t (λ n. refl)

mutual
  -- places play no part in the tokens
  pub tokens_moved : (f : ℕ → ℕ) (t : Marked) → tokens_of (moved f t) ≡ tokens_of t
  tokens_moved f (marked h m ts) = ap (λ (ps : List (List Token)). enclosed m.parentheses (laid h m.left ps)) (pieces_moved f ts)

  pieces_moved : (f : ℕ → ℕ) (ts : MarkedList) → pieces_of (moved_below f ts) ≡ pieces_of ts
  pieces_moved f no_marked = refl
  pieces_moved f (and_marked t ts) = λ i. tokens_moved f t i ∷ pieces_moved f ts i
