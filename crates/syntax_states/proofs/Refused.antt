-- What the machine does with the tokens that a mode does not ask for.
use Rattle.std.proofs.Common.{◌≡◌, ◌≢◌, ℕ, List, [], ◌∷◌, Some, None, Bool, refl}
use Rattle.asp_model.specs.Names.{Text}
use Rattle.asp_model.specs.Term.{MethodHead}
use Rattle.asp_model.specs.Marked.{Marked}
use Rattle.asp_model.specs.declared.word.Label.{Label}
use Rattle.syntax_terms.specs.declared.open.Kind.{Kind}
use Rattle.syntax_terms.specs.declared.open.Kind.TheVariants as K
use Rattle.syntax_terms.specs.declared.open.Object.{Object}
use Rattle.syntax_terms.specs.Shapes.{kind_shape}
use Rattle.syntax_tokens.specs.declared.token.Token.{Token}
use Rattle.syntax_tokens.specs.declared.token.Token.TheVariants as tokens
use Rattle.syntax_grammar.specs.Nodes.{PartShape, ObjectShape, LabelsShape}
use Rattle.syntax_grammar.specs.States.{TargetShape, KindShape, InList, OpenShape, OperandShape, ByRound, ByBrace, ByEquals, ByComma, At, Begin, fresh, operand_part, with_next, without_puts}
use Rattle.syntax_grammar.specs.Changes.{changed, operand, begin, opening, dotted, let_named, else_came, echo_opened, echo_read, echo_closed, field_named, object_begun, method_named, method_opened, self_named, head_goes_on, parameter_named, service_named, service_closed, group_opened, scatter_named, serve_opened, serve_begun, label_named, labels_go_on}
use Rattle.syntax_grammar.specs.Machine.{next_term, behind, have, listing}

pub have_other : (rule : Bool) (x : OperandShape) (s : OpenShape) (o : List OpenShape) (t : Token) → t ≢ tokens.Open → have rule x s o t ≡ behind rule (operand_part x) s o t
have_other rule x s o tokens.Open h = absurd (h refl)
have_other rule x s o _ h = refl

pub begin_other : (t : Token) (at : ℕ) → t ≢ tokens.Let → begin t at ≡ operand t at
begin_other tokens.Let at h = absurd (h refl)
begin_other _ at h = refl

pub list_other : (target : TargetShape) (s : OpenShape) (o : List OpenShape) (t : Token) (at : ℕ) → t ≢ tokens.Close
    → listing target s o t at ≡ changed (begin t at) (fresh (InList target [])) (s ∷ o)
list_other target s o tokens.Close at h = absurd (h refl)
list_other target s o _ at h = refl

pub object_other : (x : ObjectShape) (t : Token) (at : ℕ) → t ≢ tokens.Semicolon → t ≢ tokens.SquareClose → object_begun x t at ≡ field_named x t at
object_other x tokens.Semicolon at g h = absurd (g refl)
object_other x tokens.SquareClose at g h = absurd (h refl)
object_other x _ at g h = refl

pub round_other : (k : KindShape) (t : Token) → t ≢ tokens.Open → opening ByRound k t ≡ None
round_other k tokens.Open h = absurd (h refl)
round_other k _ h = refl

pub brace_other : (k : KindShape) (t : Token) → t ≢ tokens.BraceOpen → opening ByBrace k t ≡ None
brace_other k tokens.BraceOpen h = absurd (h refl)
brace_other k _ h = refl

pub equals_other : (k : KindShape) (t : Token) → t ≢ tokens.Equals → opening ByEquals k t ≡ None
equals_other k tokens.Equals h = absurd (h refl)
equals_other k _ h = refl

pub comma_other : (k : KindShape) (t : Token) → t ≢ tokens.Comma → opening ByComma k t ≡ None
comma_other k tokens.Comma h = absurd (h refl)
comma_other k _ h = refl

pub dotted_other : (p : PartShape) (t : Token) (at : ℕ) → ((w : Text) → t ≢ tokens.Name w) → dotted p t at ≡ None
dotted_other p (tokens.Name w) at h = absurd (h w refl)
dotted_other p _ at h = refl

pub let_other : (let_at : ℕ) (t : Token) (at : ℕ) → ((w : Text) → t ≢ tokens.Name w) → let_named let_at t at ≡ None
let_other let_at (tokens.Name w) at h = absurd (h w refl)
let_other let_at _ at h = refl

pub service_other : (at : ℕ) (u : Marked) (t : Token) (name_at : ℕ) → ((w : Text) → t ≢ tokens.Name w) → service_named at u t name_at ≡ None
service_other at u (tokens.Name w) name_at h = absurd (h w refl)
service_other at u _ name_at h = refl

pub service_close_other : (at : ℕ) (u : Marked) (label_at : ℕ) (label : Text) (t : Token) → t ≢ tokens.Close → service_closed at u label_at label t ≡ None
service_close_other at u label_at label tokens.Close h = absurd (h refl)
service_close_other at u label_at label _ h = refl

pub group_other : (at : ℕ) (t : Token) → t ≢ tokens.Open → group_opened at t ≡ None
group_other at tokens.Open h = absurd (h refl)
group_other at _ h = refl

pub scatter_other : (at : ℕ) (u : Marked) (t : Token) (name_at : ℕ) → ((w : Text) → t ≢ tokens.Name w) → scatter_named at u t name_at ≡ None
scatter_other at u (tokens.Name w) name_at h = absurd (h w refl)
scatter_other at u _ name_at h = refl

pub serve_other : (polls : Bool) (at : ℕ) (t : Token) → t ≢ tokens.Open → serve_opened polls at t ≡ None
serve_other polls at tokens.Open h = absurd (h refl)
serve_other polls at _ h = refl

pub label_other : (x : LabelsShape) (t : Token) (at : ℕ) → ((w : Text) → t ≢ tokens.Name w) → label_named x t at ≡ None
label_other x (tokens.Name w) at h = absurd (h w refl)
label_other x _ at h = refl

pub serve_begun_other : (x : LabelsShape) (t : Token) (at : ℕ) → t ≢ tokens.Close → serve_begun x t at ≡ label_named x t at
serve_begun_other x tokens.Close at h = absurd (h refl)
serve_begun_other x _ at h = refl

pub labels_other : (x : LabelsShape) (t : Token) → t ≢ tokens.Comma → t ≢ tokens.Close → labels_go_on x t ≡ None
labels_other x tokens.Comma g h = absurd (g refl)
labels_other x tokens.Close g h = absurd (h refl)
labels_other x _ g h = refl

pub else_other : (at : ℕ) (c t : Marked) (token : Token) → token ≢ tokens.Else → else_came at c t token ≡ None
else_other at c t tokens.Else h = absurd (h refl)
else_other at c t _ h = refl

pub echo_open_other : (at : ℕ) (t : Token) → t ≢ tokens.Open → echo_opened at t ≡ None
echo_open_other at tokens.Open h = absurd (h refl)
echo_open_other at _ h = refl

pub echo_read_other : (at : ℕ) (t : Token) → ((w : Text) → t ≢ tokens.Text w) → echo_read at t ≡ None
echo_read_other at (tokens.Text w) h = absurd (h w refl)
echo_read_other at _ h = refl

pub echo_close_other : (at : ℕ) (text : Text) (t : Token) → t ≢ tokens.Close → echo_closed at text t ≡ None
echo_close_other at text tokens.Close h = absurd (h refl)
echo_close_other at text _ h = refl

pub field_other : (x : ObjectShape) (t : Token) (at : ℕ) → ((w : Text) → t ≢ tokens.Name w) → field_named x t at ≡ None
field_other x (tokens.Name w) at h = absurd (h w refl)
field_other x _ at h = refl

pub method_other : (x : ObjectShape) (t : Token) (at : ℕ) → ((w : Text) → t ≢ tokens.Name w) → method_named x t at ≡ None
method_other x (tokens.Name w) at h = absurd (h w refl)
method_other x _ at h = refl

pub opened_other : (x : ObjectShape) (label : Text) (t : Token) → t ≢ tokens.Open → method_opened x label t ≡ None
opened_other x label tokens.Open h = absurd (h refl)
opened_other x label _ h = refl

pub self_other : (x : ObjectShape) (label : Text) (t : Token) (at : ℕ) → ((w : Text) → t ≢ tokens.Name w) → self_named x label t at ≡ None
self_other x label (tokens.Name w) at h = absurd (h w refl)
self_other x label _ at h = refl

pub head_other : (x : ObjectShape) (top : MethodHead) (t : Token) → t ≢ tokens.Comma → t ≢ tokens.Close → head_goes_on x top t ≡ None
head_other x top tokens.Comma g h = absurd (g refl)
head_other x top tokens.Close g h = absurd (h refl)
head_other x top _ g h = refl

pub parameter_other : (x : ObjectShape) (top : MethodHead) (t : Token) (at : ℕ) → ((w : Text) → t ≢ tokens.Name w) → parameter_named x top t at ≡ None
parameter_other x top (tokens.Name w) at h = absurd (h w refl)
parameter_other x top _ at h = refl

pub term_other : (k : Kind) (e : PartShape) (s : OpenShape) (o : List OpenShape) → ((x : Object) (l : Label) → k ≢ K.InField x l) → s.kind ≡ kind_shape k
    → next_term s.kind e s o ≡ Some (At Begin (with_next e (without_puts s)) o)
term_other (K.InField x l) e s o h g = absurd (h x l refl)
term_other _ e s o h g = rw g refl
