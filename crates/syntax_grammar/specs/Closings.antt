-- What ends a sequence, and what that leaves.
use Rattle.std.specs.Prelude.{Bool, true, false, List, [], ◌∷◌, ◌++◌, Option, Some, None}
use Rattle.syntax_grammar.specs.Nodes.{PartShape, part, word_at, active_at, if_at, let_at, scatter_at, member_at, in_parentheses, made}
use Rattle.syntax_grammar.specs.States.{KindShape, Top, InParentheses, InWord, InActive, InCondition, InThen, InElse, InList, InScatter, InArguments, InMember, InIndex, InBinding, InBody, InField, InMethod, OpenShape, Plain, ByBrace, ModeShape, Begin, Want, Have, Opening, ServiceNaming, ScatterNaming, ElseComing, FieldNaming, MethodNaming, StateShape, At, Done, has_terms, fresh, with_field, with_method, listed, value}

infixl 10 ◌>>=◌
abbrev pub ◌>>=◌ : {A B : Type 0} → Option A → (A → Option B) → Option B
(Some x) >>= f = f x
None >>= f = None

-- a sequence that is over, what it stands in, and what was open before it
pub data FinishedShape : Type 0 where
  finished : (kind : KindShape) (value : PartShape) (outer : List OpenShape) → FinishedShape

-- with it the body of each `let` whose end it is
abbrev pub over : KindShape → PartShape → List OpenShape → FinishedShape
over (InBody at name_at name bound) v (s ∷ outer) = over s.kind (value s (part at (let_at at name_at name bound v.term))) outer
over kind v outer = finished kind v outer

abbrev pub finish : PartShape → OpenShape → List OpenShape → FinishedShape
finish p s outer = over s.kind (value s p) outer

-- what goes on in the sequence around
abbrev pub back : ModeShape → List OpenShape → Option StateShape
back mode [] = None
back mode (s ∷ outer) = Some (At mode s outer)

abbrev pub first_mode : Bool → ModeShape
first_mode true = Begin
first_mode false = Want

-- a sequence, or a field's term, begins inside another
abbrev pub opened : KindShape → OpenShape → List OpenShape → Option StateShape
opened kind s outer = Some (At (first_mode (has_terms kind)) (fresh kind) (s ∷ outer))

-- what a sequence that is over leaves: a mode of the sequence around, or a new sequence in its place
pub data ClosingShape : Type 0 where
  Back : (mode : ModeShape) → ClosingShape
  Again : (kind : KindShape) → ClosingShape

abbrev pub closed : Option ClosingShape → List OpenShape → Option StateShape
closed None outer = None
closed (Some (Back mode)) outer = back mode outer
closed (Some (Again kind)) outer = Some (At Begin (fresh kind) outer)

abbrev pub concluded : (KindShape → PartShape → Option ClosingShape) → FinishedShape → Option StateShape
concluded closing (finished kind v outer) = closed (closing kind v) outer

abbrev pub resumed : PartShape → Option ClosingShape
resumed p = Some (Back (Have (Plain p)))

abbrev pub close : KindShape → PartShape → Option ClosingShape
close (InParentheses at) v = resumed (part at (in_parentheses v.term))
close (InWord head at) v = resumed (part at (word_at head at v.term))
close (InActive at) v = resumed (part at (active_at at [] None v.term))
close (InCondition at) v = Some (Back (Opening ByBrace (InThen at v.term)))
close (InList target before) v = resumed (listed target (before ++ v.term ∷ []))
close (InArguments at t label_at label) v = resumed (part at (scatter_at at label_at label t v.term))
close (InIndex at t) v = resumed (part at (member_at at t v.term))
close kind v = None

abbrev pub close_brace : KindShape → PartShape → Option ClosingShape
close_brace (InThen at c) v = Some (Back (ElseComing at c v.term))
close_brace (InElse at c t) v = resumed (part at (if_at at c t v.term))
close_brace kind v = None

abbrev pub close_square : KindShape → PartShape → Option ClosingShape
close_square (InField object label) v = resumed (made (with_field object label v.term))
close_square (InMethod object head) v = resumed (made (with_method object head v.term))
close_square kind v = None

abbrev pub comma : KindShape → PartShape → Option ClosingShape
comma (InList target before) v = Some (Again (InList target (before ++ v.term ∷ [])))
comma (InActive at) v = Some (Back (ServiceNaming at v.term))
comma (InScatter at) v = Some (Back (ScatterNaming at v.term))
comma (InMember at) v = Some (Again (InIndex at v.term))
comma (InField object label) v = Some (Back (FieldNaming (with_field object label v.term)))
comma (InMethod object head) v = Some (Back (MethodNaming (with_method object head v.term)))
comma kind v = None

abbrev pub bound : KindShape → PartShape → Option ClosingShape
bound (InBinding at name_at name) v = Some (Again (InBody at name_at name v.term))
bound kind v = None

abbrev pub ended : FinishedShape → Option StateShape
ended (finished Top v []) = Some (Done v.term)
ended (finished kind v outer) = None
