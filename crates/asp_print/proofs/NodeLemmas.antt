-- The tokens of terms as they are in code, variant by variant.
use Rattle.std.proofs.Common.{◌≡◌, List, [], ◌∷◌, ◌++◌, map, refl, sym, ap, ◌∙◌, append_assoc}
use Rattle.std.specs.Global.{Box, Vec}
use Rattle.std.proofs.lemmas.List.{append-nil}
use Rattle.asp_model.specs.declared.word.Label.{Label}
use Rattle.asp_model.specs.declared.term.Mark.{Mark}
use Rattle.asp_model.specs.declared.term.Sign.{Sign}
use Rattle.asp_model.specs.declared.term.Term.{Term}
use Rattle.asp_model.specs.declared.term.Method.{Method}
use Rattle.asp_model.specs.declared.term.Term.TheOpen as layer
use Rattle.asp_model.specs.declared.term.Term.TheVariants.{Make, Get, Put, Call, Serve, Let, Steps, If, Operate, Group, Scatter, Member, Pending, rolls-Pending, rolls-Group, rolls-Scatter, rolls-Member, rolls-Put, rolls-Let, rolls-If, rolls-Make, rolls-Get, rolls-Call, rolls-Serve, rolls-Steps, rolls-Operate}
use Rattle.asp_model.specs.declared.term.Term.TheFolds.{the_lemmas, fold-roll-Term, fold_out-Method}
use Rattle.asp_model.specs.Names.{Text}
use Rattle.asp_model.specs.Marked.{Marked, all_marked}
use Rattle.asp_model.specs.Shapes.{MarkedMethod, marked_of, method_of, mark_shape, field_of, make_shape, sign_shape, term_step, method_step}
use Rattle.syntax_tokens.specs.declared.token.Token.{Token}
use Rattle.syntax_tokens.specs.declared.token.Token.TheVariants as tokens
use Rattle.asp_print.specs.Tokens.{access_tokens, between, call_tokens, choice_tokens, enclosed, let_tokens, method_part, name_pieces, node_tokens, pieces_of, scatter_tokens, sign_of, word_tokens}
use Rattle.asp_print.specs.Parts.{field_tokens, method_tokens, term_tokens, label_piece, field_piece, method_piece, object_pieces}
use Rattle.asp_print.proofs.PieceLemmas.{make_node}

map_map : {A B C : Type 0} (f : A → B) (g : B → C) (h : A → C) → ((x : A) → g (f x) ≡ h x) → (xs : List A) → map g (map f xs) ≡ map h xs
map_map f g h e [] = refl
map_map f g h e (x ∷ xs) = λ i. e x i ∷ map_map f g h e xs i

labels_laid : (ls : List Label) → name_pieces (map (λ l. l.text) ls) ≡ map label_piece ls
labels_laid ls = map_map (λ (l : Label). l.text) (λ (x : Text). tokens.Name x ∷ []) label_piece (λ l. refl) ls

pieces_terms : (ts : List Term) → pieces_of (all_marked (map marked_of ts)) ≡ map term_tokens ts
pieces_terms [] = refl
pieces_terms (t ∷ ts) = ap (λ (ps : List (List Token)). term_tokens t ∷ ps) (pieces_terms ts)

pub get_is : (a : Box Term) (l : Label) (m : Mark) → node_tokens (marked_of (Get a l m)) ≡ access_tokens l.text (term_tokens a.value)
get_is a l m = ap (λ (t : Term). node_tokens (marked_of t)) (sym (rolls-Get a l m)) ∙ ap node_tokens (fold-roll-Term Marked MarkedMethod term_step method_step (layer.Get a l m))

pub operate_is : (s : Sign) (a b : Box Term) (m : Mark) → node_tokens (marked_of (Operate s a b m)) ≡ term_tokens a.value ++ sign_of (sign_shape s) ∷ term_tokens b.value
operate_is s a b m = ap (λ (t : Term). node_tokens (marked_of t)) (sym (rolls-Operate s a b m)) ∙ ap node_tokens (fold-roll-Term Marked MarkedMethod term_step method_step (layer.Operate s a b m))

pub put_is : (a : Box Term) (l : Label) (b : Box Term) (m : Mark) → node_tokens (marked_of (Put a l b m)) ≡ enclosed m.left (access_tokens l.text (term_tokens a.value)) ++ tokens.Assign ∷ term_tokens b.value
put_is a l b m = ap (λ (t : Term). node_tokens (marked_of t)) (sym (rolls-Put a l b m)) ∙ ap node_tokens (fold-roll-Term Marked MarkedMethod term_step method_step (layer.Put a l b m))

pub let_is : (x : Text) (a b : Box Term) (m : Mark) → node_tokens (marked_of (Let x a b m)) ≡ let_tokens x (term_tokens a.value) (term_tokens b.value)
let_is x a b m = ap (λ (t : Term). node_tokens (marked_of t)) (sym (rolls-Let x a b m)) ∙ ap node_tokens (fold-roll-Term Marked MarkedMethod term_step method_step (layer.Let x a b m))

pub if_is : (a b c : Box Term) (m : Mark) → node_tokens (marked_of (If a b c m)) ≡ choice_tokens (term_tokens a.value) (term_tokens b.value) (term_tokens c.value)
if_is a b c m = ap (λ (t : Term). node_tokens (marked_of t)) (sym (rolls-If a b c m)) ∙ ap node_tokens (fold-roll-Term Marked MarkedMethod term_step method_step (layer.If a b c m))

pub call_is : (a : Box Term) (l : Label) (ts : Vec Term) (m : Mark) → node_tokens (marked_of (Call a l ts m)) ≡ call_tokens l.text (term_tokens a.value) (between tokens.Comma (map term_tokens ts.items))
call_is a l ts m =
    ap (λ (t : Term). node_tokens (marked_of t)) (sym (rolls-Call a l ts m)) ∙ ap node_tokens (fold-roll-Term Marked MarkedMethod term_step method_step (layer.Call a l ts m))
    ∙ ap (λ (ps : List (List Token)). call_tokens l.text (term_tokens a.value) (between tokens.Comma ps)) (pieces_terms ts.items)

pub steps_is : (ts : Vec Term) (m : Mark) → node_tokens (marked_of (Steps ts m)) ≡ between tokens.Semicolon (map term_tokens ts.items)
steps_is ts m =
    ap (λ (t : Term). node_tokens (marked_of t)) (sym (rolls-Steps ts m)) ∙ ap node_tokens (fold-roll-Term Marked MarkedMethod term_step method_step (layer.Steps ts m))
    ∙ ap (between tokens.Semicolon) (pieces_terms ts.items)

pub group_is : (ts : Vec Term) (m : Mark) → node_tokens (marked_of (Group ts m)) ≡ word_tokens tokens.Group (between tokens.Comma (map term_tokens ts.items))
group_is ts m =
    ap (λ (t : Term). node_tokens (marked_of t)) (sym (rolls-Group ts m)) ∙ ap node_tokens (fold-roll-Term Marked MarkedMethod term_step method_step (layer.Group ts m))
    ∙ ap (λ (ps : List (List Token)). word_tokens tokens.Group (between tokens.Comma ps)) (pieces_terms ts.items)

pub scatter_is : (a : Box Term) (l : Label) (b : Box Term) (m : Mark) → node_tokens (marked_of (Scatter a l b m)) ≡ scatter_tokens (term_tokens a.value) l.text (term_tokens b.value)
scatter_is a l b m = ap (λ (t : Term). node_tokens (marked_of t)) (sym (rolls-Scatter a l b m)) ∙ ap node_tokens (fold-roll-Term Marked MarkedMethod term_step method_step (layer.Scatter a l b m))

pub member_is : (a b : Box Term) (m : Mark) → node_tokens (marked_of (Member a b m)) ≡ word_tokens tokens.Member (term_tokens a.value ++ tokens.Comma ∷ term_tokens b.value)
member_is a b m = ap (λ (t : Term). node_tokens (marked_of t)) (sym (rolls-Member a b m)) ∙ ap node_tokens (fold-roll-Term Marked MarkedMethod term_step method_step (layer.Member a b m))

pub serve_is : (ls : Vec Label) (m : Mark) → node_tokens (marked_of (Serve ls m)) ≡ word_tokens tokens.Serve (between tokens.Comma (map label_piece ls.items))
serve_is ls m =
    ap (λ (t : Term). node_tokens (marked_of t)) (sym (rolls-Serve ls m)) ∙ ap node_tokens (fold-roll-Term Marked MarkedMethod term_step method_step (layer.Serve ls m))
    ∙ ap (λ (ps : List (List Token)). word_tokens tokens.Serve (between tokens.Comma ps)) (labels_laid ls.items)

pub pending_is : (ls : Vec Label) (m : Mark) → node_tokens (marked_of (Pending ls m)) ≡ word_tokens tokens.Pending (between tokens.Comma (map label_piece ls.items))
pending_is ls m =
    ap (λ (t : Term). node_tokens (marked_of t)) (sym (rolls-Pending ls m)) ∙ ap node_tokens (fold-roll-Term Marked MarkedMethod term_step method_step (layer.Pending ls m))
    ∙ ap (λ (ps : List (List Token)). word_tokens tokens.Pending (between tokens.Comma ps)) (labels_laid ls.items)

method_is : (m : Method) → method_tokens (method_of m) ≡ method_piece m
method_is m = ap method_tokens (fold_out-Method Marked MarkedMethod term_step method_step m)

pub make_is : (fs : Vec (Label × Term)) (ms : Vec Method) (m : Mark) → node_tokens (marked_of (Make fs ms m)) ≡ object_pieces fs.items ms.items
make_is fs ms m =
    let fields : map field_tokens (map field_of fs.items) ≡ map field_piece fs.items = map_map field_of field_tokens field_piece (λ f. refl) fs.items in
    let methods : map method_tokens (map method_of ms.items) ≡ map method_piece ms.items = map_map method_of method_tokens method_piece method_is ms.items in
    ap (λ (t : Term). node_tokens (marked_of t)) (sym (rolls-Make fs ms m)) ∙ ap node_tokens (fold-roll-Term Marked MarkedMethod term_step method_step (layer.Make fs ms m))
    ∙ ap (λ (xs : List (Text × Marked)). node_tokens (make_shape (mark_shape m) xs (map method_of ms.items))) (map_map _ (λ f. (f.0.text, f.1)) field_of (λ x. refl) fs.items)
    ∙ make_node (mark_shape m) (map field_of fs.items) (map method_of ms.items)
    ∙ (λ i. tokens.SquareOpen ∷ (between tokens.Comma (fields i) ++ (method_part (methods i) ++ tokens.SquareClose ∷ [])))

pub ruleset nodes_are = (append-nil, append_assoc, get_is, operate_is, call_is, steps_is, group_is, scatter_is, member_is, serve_is, pending_is, make_is, the_lemmas)
