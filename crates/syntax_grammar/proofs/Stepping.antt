-- What a step can leave.
use Rattle.std.proofs.Common.{◌≡◌, ℕ, Bool, true, false, List, [], ◌∷◌, Option, Some, None, refl, sym, ap, ◌∙◌, inl, inr, ◌⊎◌}
use Rattle.asp_model.specs.Marked.{Marked}
use Rattle.syntax_tokens.specs.declared.token.Token.{Token}
use Rattle.syntax_tokens.specs.declared.token.Token.TheVariants as tokens
use Rattle.syntax_tokens.specs.Tokens.{Lexeme}
use Rattle.syntax_grammar.specs.Nodes.{PartShape}
use Rattle.syntax_grammar.specs.Grammar.{may_put}
use Rattle.syntax_grammar.specs.States.{KindShape, Top, InList, InField, OperatorShape, OpenShape, OperandShape, ByRound, ByBrace, ByEquals, ByComma, ModeShape, Begin, Want, Have, Dotted, ListBegun, Opening, LetNaming, ElseComing, EchoOpening, EchoText, EchoClosing, ObjectBegun, FieldNaming, MethodNaming, MethodNamed, SelfNaming, HeadNamed, ParameterNaming, StateShape, At, Done, fresh, operand_part, test_in, term_in, ServiceNaming, ServiceNamed, GroupOpening, ScatterNaming, ServeOpening, ServeBegun, LabelNaming, LabelNamed}
use Rattle.syntax_grammar.specs.Changes as changes
use Rattle.syntax_grammar.specs.Machine as machine
use Rattle.syntax_grammar.specs.Closings.{FinishedShape, finished, finish, ClosingShape, Back, Again, closed, concluded, back, close, close_brace, close_square, comma, bound, ended}
use Rattle.syntax_grammar.specs.Changes.{ChangeShape, Goes, Opens, changed, operand, begin, opening}
use Rattle.syntax_grammar.specs.Machine.{next_term, have, stepped, step}

put_freely : (p : PartShape) (d : Bool) (s : OpenShape) (o : List OpenShape) (y : StateShape) → machine.assign p d s o ≡ Some y → machine.assign p true s o ≡ Some y
put_freely p true s o y e = e
put_freely p false s o y e = absurd cc

strict_have : (x : OperandShape) (s : OpenShape) (o : List OpenShape) (t : Token) (y : StateShape) → have true x s o t ≡ Some y → have false x s o t ≡ Some y
strict_have x s o tokens.Assign y e = put_freely (test_in s (operand_part x)) (may_put true (test_in s (operand_part x)).term) s o y e
strict_have x s o _ y e = e

strict_mode : (m : ModeShape) (s : OpenShape) (o : List OpenShape) (t : Token) (at : ℕ) (y : StateShape) → stepped true m s o t at ≡ Some y → stepped false m s o t at ≡ Some y
strict_mode (Have x) s o t at y e = strict_have x s o t y e
strict_mode _ s o t at y e = e

-- what is read under the rule on `:=` is read without it
pub strict_step : (x : StateShape) (l : Lexeme) (y : StateShape) → step true x l ≡ Some y → step false x l ≡ Some y
strict_step (At m s o) l y e = strict_mode m s o l.token l.at y e
strict_step (Done t) l y e = e

have_differs : (x : OperandShape) (s : OpenShape) (o : List OpenShape) (t : Token) → (have true x s o t ≡ have false x s o t) ⊎ (t ≡ tokens.Assign)
have_differs x s o tokens.Assign = inr refl
have_differs x s o _ = inl refl

mode_differs : (m : ModeShape) (s : OpenShape) (o : List OpenShape) (t : Token) (at : ℕ) → (stepped true m s o t at ≡ stepped false m s o t at) ⊎ (t ≡ tokens.Assign)
mode_differs (Have x) s o t at = have_differs x s o t
mode_differs _ s o t at = inl refl

-- the rule is asked for at `:=` alone
pub differs : (x : StateShape) (l : Lexeme) → (step true x l ≡ step false x l) ⊎ (l.token ≡ tokens.Assign)
differs (At m s o) l = mode_differs m s o l.token l.at
differs (Done t) l = inl refl

-- no program goes on with such a token
abbrev pub IsNone : Token → Type 0
IsNone tokens.BadByte = Unit {0}
IsNone tokens.BadNumber = Unit {0}
IsNone t = ⊥

none_mode : (rule : Bool) (m : ModeShape) (s : OpenShape) (o : List OpenShape) (at : ℕ)
    → (stepped rule m s o tokens.BadByte at ≡ None)
    × (stepped rule m s o tokens.BadNumber at ≡ None)
none_mode rule (Opening ByRound k) s o at = (refl, refl)
none_mode rule (Opening ByBrace k) s o at = (refl, refl)
none_mode rule (Opening ByEquals k) s o at = (refl, refl)
none_mode rule (Opening ByComma k) s o at = (refl, refl)
none_mode rule _ s o at = (refl, refl)

none_stepped : (rule : Bool) (m : ModeShape) (s : OpenShape) (o : List OpenShape) (t : Token) (at : ℕ) → IsNone t → stepped rule m s o t at ≡ None
none_stepped rule m s o tokens.BadByte at h = (none_mode rule m s o at).0
none_stepped rule m s o tokens.BadNumber at h = (none_mode rule m s o at).1
none_stepped rule m s o _ at h = absurd h

pub none_steps : (rule : Bool) (x : StateShape) (l : Lexeme) → IsNone l.token → step rule x l ≡ None
none_steps rule (At m s o) l h = none_stepped rule m s o l.token l.at h
none_steps rule (Done t) l h = refl

-- the end leaves no state to go on from
ended_not : (f : FinishedShape) (m : ModeShape) (s : OpenShape) (p : List OpenShape) → ended f ≡ Some (At m s p) → ⊥
ended_not (finished Top v []) m s p e = absurd cc
ended_not (finished Top v (r ∷ o)) m s p e = absurd cc
ended_not (finished _ v o) m s p e = absurd cc

mode_not : (n : ModeShape) (r : OpenShape) (o : List OpenShape) (at : ℕ) (m : ModeShape) (s : OpenShape) (p : List OpenShape) → stepped true n r o tokens.End at ≡ Some (At m s p) → ⊥
mode_not (Have x) r o at m s p e = ended_not (finish (operand_part x) r o) m s p e
mode_not (Opening ByRound k) r o at m s p e = absurd cc
mode_not (Opening ByBrace k) r o at m s p e = absurd cc
mode_not (Opening ByEquals k) r o at m s p e = absurd cc
mode_not (Opening ByComma k) r o at m s p e = absurd cc
mode_not _ r o at m s p e = absurd cc

pub end_not : (x : StateShape) (l : Lexeme) (m : ModeShape) (s : OpenShape) (p : List OpenShape) → step true x l ≡ Some (At m s p) → l.token ≡ tokens.End → ⊥
end_not (At n r o) l m s p e h = mode_not n r o l.at m s p (sym (ap (λ (t : Token). stepped true n r o t l.at) h) ∙ e)
end_not (Done t) l m s p e h = absurd cc

-- a state that is not the last
abbrev IsOn : Option StateShape → Type 0
IsOn (Some (Done t)) = ⊥
IsOn _ = Unit {0}

back_on : (m : ModeShape) (o : List OpenShape) → IsOn (back m o)
back_on m [] = tt
back_on m (s ∷ o) = tt

changed_on : (c : Option ChangeShape) (s : OpenShape) (o : List OpenShape) → IsOn (changed c s o)
changed_on None s o = tt
changed_on (Some (Goes m)) s o = tt
changed_on (Some (Opens k)) s o = tt

closed_on : (c : Option ClosingShape) (o : List OpenShape) → IsOn (closed c o)
closed_on None o = tt
closed_on (Some (Back m)) o = back_on m o
closed_on (Some (Again k)) o = tt

over_on : (closing : KindShape → PartShape → Option ClosingShape) (f : FinishedShape) → IsOn (concluded closing f)
over_on closing (finished k v o) = closed_on (closing k v) o

term_on : (k : KindShape) (e : PartShape) (s : OpenShape) (o : List OpenShape) → IsOn (next_term k e s o)
term_on (InField x label) e s o = back_on _ o
term_on _ e s o = tt

test_on : (a : Option OperatorShape) (sign : _) (p : PartShape) (s : OpenShape) (o : List OpenShape) → IsOn (machine.test_behind a sign p s o)
test_on None sign p s o = tt
test_on (Some a) sign p s o = tt

assign_on : (p : PartShape) (d : Bool) (s : OpenShape) (o : List OpenShape) → IsOn (machine.assign p d s o)
assign_on p true s o = tt
assign_on p false s o = tt

-- only the end leaves the last state
have_on : (x : OperandShape) (s : OpenShape) (o : List OpenShape) (t : Token) → IsOn (have true x s o t) ⊎ (t ≡ tokens.End)
have_on x s o tokens.Open = inl (changed_on (changes.call_begun x) s o)
have_on x s o tokens.Less = inl (test_on s.test _ (operand_part x) s o)
have_on x s o tokens.Same = inl (test_on s.test _ (operand_part x) s o)
have_on x s o tokens.Assign = inl (assign_on (test_in s (operand_part x)) (may_put true (test_in s (operand_part x)).term) s o)
have_on x s o tokens.Semicolon = inl (term_on s.kind (term_in s (operand_part x)) s o)
have_on x s o tokens.In = inl (over_on bound (finish (operand_part x) s o))
have_on x s o tokens.Close = inl (over_on close (finish (operand_part x) s o))
have_on x s o tokens.BraceClose = inl (over_on close_brace (finish (operand_part x) s o))
have_on x s o tokens.SquareClose = inl (over_on close_square (finish (operand_part x) s o))
have_on x s o tokens.Comma = inl (over_on comma (finish (operand_part x) s o))
have_on x s o tokens.End = inr refl
have_on x s o _ = inl tt

mode_on : (m : ModeShape) (s : OpenShape) (o : List OpenShape) (t : Token) (at : ℕ) → IsOn (stepped true m s o t at) ⊎ (t ≡ tokens.End)
mode_on (Have x) s o t at = have_on x s o t
mode_on (ListBegun target) s o tokens.Close at = inl tt
mode_on (ListBegun target) s o t at = inl (changed_on (begin t at) (fresh (InList target [])) (s ∷ o))
mode_on Begin s o t at = inl (changed_on (begin t at) s o)
mode_on Want s o t at = inl (changed_on (operand t at) s o)
mode_on (Dotted p) s o t at = inl (changed_on (changes.dotted p t at) s o)
mode_on (Opening x k) s o t at = inl (changed_on (opening x k t) s o)
mode_on (LetNaming i) s o t at = inl (changed_on (changes.let_named i t at) s o)
mode_on (ServiceNaming i u) s o t at = inl (changed_on (changes.service_named i u t at) s o)
mode_on (ServiceNamed i u j label) s o t at = inl (changed_on (changes.service_closed i u j label t) s o)
mode_on (GroupOpening i) s o t at = inl (changed_on (changes.group_opened i t) s o)
mode_on (ScatterNaming i u) s o t at = inl (changed_on (changes.scatter_named i u t at) s o)
mode_on (ServeOpening polls i) s o t at = inl (changed_on (changes.serve_opened polls i t) s o)
mode_on (ServeBegun x) s o t at = inl (changed_on (changes.serve_begun x t at) s o)
mode_on (LabelNaming x) s o t at = inl (changed_on (changes.label_named x t at) s o)
mode_on (LabelNamed x) s o t at = inl (changed_on (changes.labels_go_on x t) s o)
mode_on (ElseComing i c u) s o t at = inl (changed_on (changes.else_came i c u t) s o)
mode_on (EchoOpening i) s o t at = inl (changed_on (changes.echo_opened i t) s o)
mode_on (EchoText i) s o t at = inl (changed_on (changes.echo_read i t) s o)
mode_on (EchoClosing i w) s o t at = inl (changed_on (changes.echo_closed i w t) s o)
mode_on (ObjectBegun x) s o t at = inl (changed_on (changes.object_begun x t at) s o)
mode_on (FieldNaming x) s o t at = inl (changed_on (changes.field_named x t at) s o)
mode_on (MethodNaming x) s o t at = inl (changed_on (changes.method_named x t at) s o)
mode_on (MethodNamed x label) s o t at = inl (changed_on (changes.method_opened x label t) s o)
mode_on (SelfNaming x label) s o t at = inl (changed_on (changes.self_named x label t at) s o)
mode_on (HeadNamed x h) s o t at = inl (changed_on (changes.head_goes_on x h t) s o)
mode_on (ParameterNaming x h) s o t at = inl (changed_on (changes.parameter_named x h t at) s o)

on_not : (z : Option StateShape) (u : Marked) → IsOn z → z ≡ Some (Done u) → ⊥
on_not None u h e = absurd cc
on_not (Some (Done t)) u h e = h
on_not (Some (At m s o)) u h e = absurd cc

pub done_end : (x : StateShape) (l : Lexeme) (u : Marked) → step true x l ≡ Some (Done u) → l.token ≡ tokens.End
done_end (At m s o) l u e = elim (mode_on m s o l.token l.at) [ inl h ↦ absurd (on_not (stepped true m s o l.token l.at) u h e) | inr h ↦ h ]
done_end (Done t) l u e = absurd cc
