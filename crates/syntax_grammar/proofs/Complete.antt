-- What is in the grammar is read.
use Rattle.std.proofs.Common.{◌≡◌, ℕ, Bool, true, false, List, [], ◌∷◌, ◌++◌, Option, Some, None, refl, sym, ap, ◌∙◌, append_assoc}
use Rattle.asp_model.specs.Names.{Text}
use Rattle.asp_model.specs.Marked.{Marked}
use Rattle.asp_model.specs.Shapes.{MarkedMethod}
use Rattle.syntax_tokens.specs.declared.token.Token.TheVariants as tokens
use Rattle.syntax_tokens.specs.Tokens.{Lexeme, lexeme}
use Rattle.syntax_grammar.specs.Nodes.{PartShape, part, served, word_at, if_at, scatter_at, member_at, operated, called, put, terms_at, in_parentheses, ObjectShape, method, active_at}
use Rattle.syntax_grammar.specs.Signs.{no_service, service}
use Rattle.syntax_grammar.specs.Grammar.{may_put, IsPrim, number, variable, parentheses, object, word, choice, echo, IsPost, prim, get, call_none, call, IsArgs, argument, and_argument, IsFields, field, and_field, IsMethods, first_method, and_method, IsFieldPart, no_fields, fields, IsMethodPart, no_methods, methods, IsProd, post, times, IsSum, prod, plus, IsTest, sum, test, IsExpr, tested, assign, IsSeq, last, then, bind, IsProgram, active, serve, group_none, group, scatter, member}
use Rattle.syntax_grammar.specs.States.{Top, InParentheses, InWord, InCondition, InThen, InElse, OfCall, OfGroup, InList, InScatter, InArguments, InMember, InIndex, InBinding, InBody, InField, OpenShape, Plain, Access, ByRound, Begin, Want, Have, ListBegun, Opening, ObjectBegun, FieldNaming, MethodNaming, ServeOpening, StateShape, At, Done, operator, opened_with, fresh, new_object, operand_part, joined, put_all, first_start, sequence_part, InActive}
use Rattle.syntax_grammar.specs.Machine as machine
use Rattle.syntax_grammar.specs.Closings.{◌>>=◌, FinishedShape, over, concluded, first_mode, close, close_brace, comma, bound, ended}
use Rattle.syntax_grammar.specs.Changes.{ChangeShape, changed, operand}
use Rattle.syntax_grammar.specs.Machine.{next_term, have, run, start}
use Rattle.syntax_grammar.proofs.Running.{goes_on, steps, label_word_goes, word_goes, times_goes, plus_goes, test_goes, begun_prim, listed_runs, PostRuns, ProdRuns, SumRuns, TestRuns, ExprRuns, SeqRuns, ArgsRuns, object_of, FieldsRun, MethodsRun, method_runs, next_goes, later_start, FieldPartRun, no_field_run, fields_run, MethodPartRun, no_method_run, methods_run, object_runs, labels_run}

mutual
  prim_wanted : {s : Bool} {ls : List Lexeme} {p : PartShape} → IsPrim s ls p → (r : OpenShape) (o : List OpenShape) → run s (At Want r o) ls ≡ Some (At (Have (Plain p)) r o)
  prim_wanted (number s at n) r o = refl
  prim_wanted (variable s at x) r o = refl
  prim_wanted (parentheses s at close_at ls n ts h) r o =
      let y = seq_complete h (InParentheses at) 0 [] (r ∷ o) refl in
      goes_on s (At Begin (fresh (InParentheses at)) (r ∷ o)) (At (Have y.0) y.1 y.2) ls (lexeme tokens.Close close_at ∷ []) (Some (At (Have (Plain (part at (in_parentheses (terms_at n ts))))) r o)) y.3
      (ap (λ (f : FinishedShape). concluded close f >>= λ v. run s v []) y.4)
  prim_wanted (object s at close_at ls us ns ms fs xs f g) r o = object_runs s at close_at ls us ns ms fs xs (field_part_complete f) (method_part_complete g) r o
  prim_wanted (word s token top at open_at close_at ls n ts w h) r o =
      let y = seq_complete h (InWord top at) 0 [] (r ∷ o) refl in
      let z : Option StateShape = Some (At (Have (Plain (part at (word_at top at (terms_at n ts))))) r o) in
      steps s (changed (operand token at) r o) (Some (At (Opening ByRound (InWord top at)) r o)) (lexeme tokens.Open open_at ∷ (ls ++ lexeme tokens.Close close_at ∷ [])) z (ap (λ (c : Option ChangeShape). changed c r o) (word_goes w at))
      (goes_on s (At Begin (fresh (InWord top at)) (r ∷ o)) (At (Have y.0) y.1 y.2) ls (lexeme tokens.Close close_at ∷ []) z y.3 (ap (λ (f : FinishedShape). concluded close f >>= λ v. run s v []) y.4))
  prim_wanted (active s at open_at close_at ls us n ts ns label h no_service) r o =
      let y = seq_complete h (InActive at) 0 [] (r ∷ o) refl in
      let z : Option StateShape = Some (At (Have (Plain (part at (active_at at [] None (terms_at n ts))))) r o) in
      goes_on s (At Begin (fresh (InActive at)) (r ∷ o)) (At (Have y.0) y.1 y.2) ls (lexeme tokens.Close close_at ∷ []) z y.3 (ap (λ (f : FinishedShape). concluded close f >>= λ v. run s v []) y.4)
  prim_wanted (active s at open_at close_at ls us n ts ns label h (service comma_at label_at name)) r o =
      let y = seq_complete h (InActive at) 0 [] (r ∷ o) refl in
      let z : Option StateShape = Some (At (Have (Plain (part at (active_at at (label_at ∷ []) (Some name) (terms_at n ts))))) r o) in
      let lasts : List Lexeme = lexeme (tokens.Name name) label_at ∷ lexeme tokens.Close close_at ∷ [] in
      goes_on s (At Begin (fresh (InActive at)) (r ∷ o)) (At (Have y.0) y.1 y.2) ls (lexeme tokens.Comma comma_at ∷ lasts) z y.3 (ap (λ (f : FinishedShape). concluded comma f >>= λ v. run s v lasts) y.4)
  prim_wanted (serve s token polls at open_at close_at ls ns xs w h) r o =
      let z : Option StateShape = Some (At (Have (Plain (served (record { at = at; polls = polls; names = ns; labels = xs })))) r o) in
      steps s (changed (operand token at) r o) (Some (At (ServeOpening polls at) r o)) (lexeme tokens.Open open_at ∷ (ls ++ lexeme tokens.Close close_at ∷ [])) z (ap (λ (c : Option ChangeShape). changed c r o) (label_word_goes w at))
      (labels_run h s polls at close_at r o)
  prim_wanted (choice s at open_at close_at then_open then_close else_at else_open else_close ls us vs n m k cs ts es f g h) r o =
      let c : Marked = terms_at n cs in
      let t : Marked = terms_at m ts in
      let z : Option StateShape = Some (At (Have (Plain (part at (if_at at c t (terms_at k es))))) r o) in
      let x = seq_complete f (InCondition at) 0 [] (r ∷ o) refl in
      let y = seq_complete g (InThen at c) 0 [] (r ∷ o) refl in
      let w = seq_complete h (InElse at c t) 0 [] (r ∷ o) refl in
      let lasts : List Lexeme = lexeme tokens.BraceClose else_close ∷ [] in
      let elses : List Lexeme = lexeme tokens.BraceClose then_close ∷ lexeme tokens.Else else_at ∷ lexeme tokens.BraceOpen else_open ∷ (vs ++ lasts) in
      let thens : List Lexeme = lexeme tokens.Close close_at ∷ lexeme tokens.BraceOpen then_open ∷ (us ++ elses) in
      let third : run s (At Begin (fresh (InElse at c t)) (r ∷ o)) (vs ++ lasts) ≡ z =
      goes_on s (At Begin (fresh (InElse at c t)) (r ∷ o)) (At (Have w.0) w.1 w.2) vs lasts z w.3 (ap (λ (f : FinishedShape). concluded close_brace f >>= λ v. run s v []) w.4) in
      let second : run s (At Begin (fresh (InThen at c)) (r ∷ o)) (us ++ elses) ≡ z =
      goes_on s (At Begin (fresh (InThen at c)) (r ∷ o)) (At (Have y.0) y.1 y.2) us elses z y.3
      (ap (λ (f : FinishedShape). concluded close_brace f >>= λ v. run s v (lexeme tokens.Else else_at ∷ lexeme tokens.BraceOpen else_open ∷ (vs ++ lasts))) y.4 ∙ third) in
      goes_on s (At Begin (fresh (InCondition at)) (r ∷ o)) (At (Have x.0) x.1 x.2) ls thens z x.3
      (ap (λ (f : FinishedShape). concluded close f >>= λ v. run s v (lexeme tokens.BraceOpen then_open ∷ (us ++ elses))) x.4 ∙ second)
  prim_wanted (echo s at open_at text_at close_at text) r o = refl
  prim_wanted (group_none s at open_at close_at) r o = refl
  prim_wanted (group s at open_at close_at ls ts h) r o = listed_runs s ls ts (args_complete h) (OfGroup at) close_at r o
  prim_wanted (scatter s at open_at comma_at label_at second_at close_at label ls us n m ts xs f g) r o =
      let t : Marked = terms_at n ts in
      let z : Option StateShape = Some (At (Have (Plain (part at (scatter_at at label_at label t (terms_at m xs))))) r o) in
      let y = seq_complete f (InScatter at) 0 [] (r ∷ o) refl in
      let w = seq_complete g (InArguments at t label_at label) 0 [] (r ∷ o) refl in
      let lasts : List Lexeme = lexeme tokens.Close close_at ∷ [] in
      let seconds : List Lexeme = lexeme (tokens.Name label) label_at ∷ lexeme tokens.Comma second_at ∷ (us ++ lasts) in
      let second : run s (At Begin (fresh (InArguments at t label_at label)) (r ∷ o)) (us ++ lasts) ≡ z =
      goes_on s (At Begin (fresh (InArguments at t label_at label)) (r ∷ o)) (At (Have w.0) w.1 w.2) us lasts z w.3 (ap (λ (f : FinishedShape). concluded close f >>= λ v. run s v []) w.4) in
      goes_on s (At Begin (fresh (InScatter at)) (r ∷ o)) (At (Have y.0) y.1 y.2) ls (lexeme tokens.Comma comma_at ∷ seconds) z y.3 (ap (λ (f : FinishedShape). concluded comma f >>= λ v. run s v seconds) y.4 ∙ second)
  prim_wanted (member s at open_at comma_at close_at ls us n m ts xs f g) r o =
      let t : Marked = terms_at n ts in
      let z : Option StateShape = Some (At (Have (Plain (part at (member_at at t (terms_at m xs))))) r o) in
      let y = seq_complete f (InMember at) 0 [] (r ∷ o) refl in
      let w = seq_complete g (InIndex at t) 0 [] (r ∷ o) refl in
      let lasts : List Lexeme = lexeme tokens.Close close_at ∷ [] in
      let second : run s (At Begin (fresh (InIndex at t)) (r ∷ o)) (us ++ lasts) ≡ z =
      goes_on s (At Begin (fresh (InIndex at t)) (r ∷ o)) (At (Have w.0) w.1 w.2) us lasts z w.3 (ap (λ (f : FinishedShape). concluded close f >>= λ v. run s v []) w.4) in
      goes_on s (At Begin (fresh (InMember at)) (r ∷ o)) (At (Have y.0) y.1 y.2) ls (lexeme tokens.Comma comma_at ∷ (us ++ lasts)) z y.3 (ap (λ (f : FinishedShape). concluded comma f >>= λ v. run s v (us ++ lasts)) y.4 ∙ second)

  field_part_complete : {s : Bool} {ls : List Lexeme} {ns : List ℕ} {fs : List (Text × Marked)} → IsFieldPart s ls ns fs → FieldPartRun s ls ns fs
  field_part_complete (no_fields s) = no_field_run s
  field_part_complete (fields s ls ns fs h) = fields_run s ls ns fs (fields_complete h)

  method_part_complete : {s : Bool} {ls : List Lexeme} {ns : List ℕ} {xs : List MarkedMethod} → IsMethodPart s ls ns xs → MethodPartRun s ls ns xs
  method_part_complete (no_methods s) = no_method_run s
  method_part_complete (methods s ls ns xs at h) = methods_run s ls ns xs at (methods_complete h)

  fields_complete : {s : Bool} {ls : List Lexeme} {ns : List ℕ} {fs : List (Text × Marked)} → IsFields s ls ns fs → FieldsRun s ls ns fs
  fields_complete (field s ls at equals_at label p h) i r o =
      let y = expr_complete h false (InField (object_of i (at ∷ []) [] []) label) 0 [] [] (r ∷ o) in
      record {
        x = y.4;
        puts = y.0;
        t = y.1;
        m = y.2;
        p = y.3;
        object = object_of i (at ∷ []) [] [];
        label = label;
        ran = y.5;
        is = ap (λ (e : PartShape). object_of i (at ∷ []) ((label, e.term) ∷ []) []) y.6;
      }
  fields_complete (and_field s ls us ns fs comma_at at equals_at label p f h) i r o =
      let x : ObjectShape = object_of i (ns ++ at ∷ []) fs [] in
      let w = fields_complete f i r o in
      let y = expr_complete h false (InField x label) 0 [] [] (r ∷ o) in
      let z : Option StateShape = Some (At (Have y.4) (opened_with (InField x label) 0 [] y.0 y.1 y.2 y.3) (r ∷ o)) in
      record {
        x = y.4;
        puts = y.0;
        t = y.1;
        m = y.2;
        p = y.3;
        object = x;
        label = label;
        ran = goes_on s (At (ObjectBegun (new_object i)) r o) (At (Have w.x) (opened_with (InField w.object w.label) 0 [] w.puts w.t w.m w.p) (r ∷ o)) ls
            (lexeme tokens.Comma comma_at ∷ lexeme (tokens.Name label) at ∷ lexeme tokens.Equals equals_at ∷ us) z w.ran
            (ap (λ (x : ObjectShape). run s (At (FieldNaming x) r o) (lexeme (tokens.Name label) at ∷ lexeme tokens.Equals equals_at ∷ us)) w.is ∙ y.5);
        is = ap (λ (e : PartShape). object_of i (ns ++ at ∷ []) (fs ++ (label, e.term) ∷ []) []) y.6;
      }

  methods_complete : {s : Bool} {ls : List Lexeme} {ns : List ℕ} {xs : List MarkedMethod} → IsMethods s ls ns xs → MethodsRun s ls ns xs
  methods_complete (first_method s ls us ns h close_at equals_at n ts f g) at ms fs r o =
      method_runs s us n ts f (seq_complete g) close_at equals_at (object_of at ms fs []) (object_of at (ms ++ ns) fs (method h (terms_at n ts) ∷ [])) r o refl
  methods_complete (and_method s ws ls us ks ns xs h comma_at close_at equals_at n ts e f g) at ms fs r o =
      let w = methods_complete e at ms fs r o in
      let x : ObjectShape = object_of at (ms ++ ks) fs xs in
      let to : ObjectShape = object_of at (ms ++ (ks ++ ns)) fs (xs ++ method h (terms_at n ts) ∷ []) in
      let y = method_runs s us n ts f (seq_complete g) close_at equals_at x to r o (ap (λ (js : List ℕ). object_of at js fs (xs ++ method h (terms_at n ts) ∷ [])) (append_assoc ms ks ns)) in
      let rest : List Lexeme = ls ++ lexeme tokens.Close close_at ∷ lexeme tokens.Equals equals_at ∷ us in
      let comes : run s (At (Have w.x) w.m w.q) (lexeme tokens.Comma comma_at ∷ rest) ≡ Some (At (Have y.x) y.m y.q) =
      ap (λ (f : FinishedShape). concluded comma f >>= λ v. run s v rest) w.is ∙ ap (λ (x : ObjectShape). run s (At (MethodNaming x) r o) rest) w.to_is ∙ y.ran in
      record {
        x = y.x;
        m = y.m;
        q = y.q;
        object = y.object;
        head = y.head;
        v = y.v;
        ran = goes_on s (At (MethodNaming (object_of at ms fs [])) r o) (At (Have w.x) w.m w.q) ws (lexeme tokens.Comma comma_at ∷ rest) (Some (At (Have y.x) y.m y.q)) w.ran comes;
        is = y.is;
        to_is = y.to_is;
      }

  pub post_complete : {s : Bool} {ls : List Lexeme} {p : PartShape} → IsPost s ls p → PostRuns s ls p
  post_complete (prim s ls p h) b r o = (Plain p, begun_prim h b r o ∙ prim_wanted h r o, refl)
  post_complete (get s ls p dot_at at label h) b r o =
      let y = post_complete h b r o in (
        Access p at label,
        goes_on s (At (first_mode b) r o) (At (Have y.0) r o) ls (lexeme tokens.Dot dot_at ∷ lexeme (tokens.Name label) at ∷ []) (Some (At (Have (Access p at label)) r o)) y.1
            (ap (λ (q : PartShape). Some (At (Have (Access q at label)) r o)) y.2),
        refl,
      )
  post_complete (call_none s ls p dot_at at open_at close_at label h) b r o =
      let y = post_complete h b r o in (
        Plain (called p at label []),
        goes_on s (At (first_mode b) r o) (At (Have y.0) r o) ls (lexeme tokens.Dot dot_at ∷ lexeme (tokens.Name label) at ∷ lexeme tokens.Open open_at ∷ lexeme tokens.Close close_at ∷ [])
            (Some (At (Have (Plain (called p at label []))) r o)) y.1 (ap (λ (q : PartShape). Some (At (Have (Plain (called q at label []))) r o)) y.2),
        refl,
      )
  post_complete (call s ls us p dot_at at open_at close_at label ts h g) b r o =
      let y = post_complete h b r o in
      let z : Option StateShape = Some (At (Have (Plain (called p at label ts))) r o) in
      let lasts : List Lexeme = us ++ lexeme tokens.Close close_at ∷ [] in
      let inner : run s (At (ListBegun (OfCall p at label)) r o) lasts ≡ z = listed_runs s us ts (args_complete g) (OfCall p at label) close_at r o in (
        Plain (called p at label ts),
        goes_on s (At (first_mode b) r o) (At (Have y.0) r o) ls (lexeme tokens.Dot dot_at ∷ lexeme (tokens.Name label) at ∷ lexeme tokens.Open open_at ∷ lasts) z y.1
            (ap (λ (q : PartShape). run s (At (ListBegun (OfCall q at label)) r o) lasts) y.2 ∙ inner),
        refl,
      )

  pub args_complete : {s : Bool} {ls : List Lexeme} {ts : List Marked} → IsArgs s ls ts → ArgsRuns s ls ts
  args_complete (argument s ls n ts h) target o =
      let y = seq_complete h (InList target []) 0 [] o refl in
      (y.0, y.1, y.2, [], sequence_part n ts, y.3, y.4, refl)
  args_complete (and_argument s ls us comma_at xs n ts h g) target o =
      let w = args_complete h target o in
      let y = seq_complete g (InList target xs) 0 [] o refl in
      let comes : run s (At (Have w.0) w.1 w.2) (lexeme tokens.Comma comma_at ∷ us) ≡ Some (At (Have y.0) y.1 y.2) =
      ap (λ (f : FinishedShape). concluded comma f >>= λ v. run s v us) w.6 ∙ ap (λ (zs : List Marked). run s (At Begin (fresh (InList target zs)) o) us) w.7 ∙ y.3 in
      (y.0, y.1, y.2, xs, sequence_part n ts, goes_on s (At Begin (fresh (InList target [])) o) (At (Have w.0) w.1 w.2) ls (lexeme tokens.Comma comma_at ∷ us) (Some (At (Have y.0) y.1 y.2)) w.5 comes, y.4, refl)

  pub prod_complete : {s : Bool} {ls : List Lexeme} {e : PartShape} → IsProd s ls e → ProdRuns s ls e
  prod_complete (post s ls p h) b k n before puts t m o =
      let y = post_complete h b (opened_with k n before puts t m None) o in
      (None, y.0, y.1, y.2)
  prod_complete (times s token sign at ls us p q i h g) b k n before puts t m o =
      let y = prod_complete h b k n before puts t m o in
      let a : PartShape = joined y.0 (operand_part y.1) in
      let w = post_complete g false (opened_with k n before puts t m (Some (operator sign a))) o in
      let z : Option StateShape = Some (At (Have w.0) (opened_with k n before puts t m (Some (operator sign a))) o) in
      let from : OpenShape = opened_with k n before puts t m y.0 in (
        Some (operator sign a),
        w.0,
        goes_on s (At (first_mode b) (opened_with k n before puts t m None) o) (At (Have y.1) from o) ls (lexeme token at ∷ us) z y.2
            (steps s (have s y.1 from o token) (machine.times sign (operand_part y.1) from o) us z (times_goes i s y.1 from o) w.1),
        ap (λ (c : PartShape). operated sign a c) w.2 ∙ ap (λ (c : PartShape). operated sign c q) y.3,
      )

  pub sum_complete : {s : Bool} {ls : List Lexeme} {e : PartShape} → IsSum s ls e → SumRuns s ls e
  sum_complete (prod s ls p h) b k n before puts t o =
      let y = prod_complete h b k n before puts t None o in
      (None, y.0, y.1, y.2, y.3)
  sum_complete (plus s token sign at ls us p q i h g) b k n before puts t o =
      let y = sum_complete h b k n before puts t o in
      let a : PartShape = joined y.0 (joined y.1 (operand_part y.2)) in
      let w = prod_complete g false k n before puts t (Some (operator sign a)) o in
      let z : Option StateShape = Some (At (Have w.1) (opened_with k n before puts t (Some (operator sign a)) w.0) o) in
      let from : OpenShape = opened_with k n before puts t y.0 y.1 in (
        Some (operator sign a),
        w.0,
        w.1,
        goes_on s (At (first_mode b) (opened_with k n before puts t None None) o) (At (Have y.2) from o) ls (lexeme token at ∷ us) z y.3
            (steps s (have s y.2 from o token) (machine.plus sign (operand_part y.2) from o) us z (plus_goes i s y.2 from o) w.2),
        ap (λ (c : PartShape). operated sign a c) w.3 ∙ ap (λ (c : PartShape). operated sign c q) y.4,
      )

  pub test_complete : {s : Bool} {ls : List Lexeme} {e : PartShape} → IsTest s ls e → TestRuns s ls e
  test_complete (sum s ls p h) b k n before puts o =
      let y = sum_complete h b k n before puts None o in
      (None, y.0, y.1, y.2, y.3, y.4)
  test_complete (test s token sign at ls us p q i h g) b k n before puts o =
      let y = sum_complete h b k n before puts None o in
      let a : PartShape = joined y.0 (joined y.1 (operand_part y.2)) in
      let w = sum_complete g false k n before puts (Some (operator sign a)) o in
      let z : Option StateShape = Some (At (Have w.2) (opened_with k n before puts (Some (operator sign a)) w.0 w.1) o) in
      let from : OpenShape = opened_with k n before puts None y.0 y.1 in (
        Some (operator sign a),
        w.0,
        w.1,
        w.2,
        goes_on s (At (first_mode b) (opened_with k n before puts None None None) o) (At (Have y.2) from o) ls (lexeme token at ∷ us) z y.3
            (steps s (have s y.2 from o token) (machine.test_behind None sign (operand_part y.2) from o) us z (test_goes i s y.2 from o) w.3),
        ap (λ (c : PartShape). operated sign a c) w.4 ∙ ap (λ (c : PartShape). operated sign c q) y.4,
      )

  pub expr_complete : {s : Bool} {ls : List Lexeme} {e : PartShape} → IsExpr s ls e → ExprRuns s ls e
  expr_complete (tested s ls p h) b k n before puts o =
      let y = test_complete h b k n before puts o in
      (puts, y.0, y.1, y.2, y.3, y.4, ap (λ (c : PartShape). put_all puts c) y.5)
  expr_complete (assign s at ls us p q h may g) b k n before puts o =
      let y = test_complete h b k n before puts o in
      let a : PartShape = joined y.0 (joined y.1 (joined y.2 (operand_part y.3))) in
      let w = expr_complete g false k n before (a ∷ puts) o in
      let z : Option StateShape = Some (At (Have w.4) (opened_with k n before w.0 w.1 w.2 w.3) o) in
      let from : OpenShape = opened_with k n before puts y.0 y.1 y.2 in
      let may_be : may_put s a.term ≡ true = ap (λ (c : PartShape). may_put s c.term) y.5 ∙ may in (
        w.0,
        w.1,
        w.2,
        w.3,
        w.4,
        goes_on s (At (first_mode b) (opened_with k n before puts None None None) o) (At (Have y.3) from o) ls (lexeme tokens.Assign at ∷ us) z y.4
            (ap (λ (d : Bool). machine.assign a d from o >>= λ v. run s v us) may_be ∙ w.5),
        w.6 ∙ ap (λ (c : PartShape). put_all puts (put c q)) y.5,
      )

  pub seq_complete : {s : Bool} {ls : List Lexeme} {n : ℕ} {ts : List Marked} → IsSeq s ls n ts → SeqRuns s ls n ts
  seq_complete (last s ls p h) k i before o are =
      let y = expr_complete h true k i before [] o in
      (y.4, opened_with k i before y.0 y.1 y.2 y.3, o, y.5, ap (λ (e : PartShape). over k (sequence_part (first_start before i e.start) (before ++ e.term ∷ [])) o) y.6)
  seq_complete (then s at ls us p n ts h g) k i before o are =
      let y = expr_complete h true k i before [] o in
      let from : OpenShape = opened_with k i before y.0 y.1 y.2 y.3 in
      let e : PartShape = put_all y.0 (joined y.1 (joined y.2 (joined y.3 (operand_part y.4)))) in
      let j : ℕ = first_start before i e.start in
      let w = seq_complete g k j (before ++ e.term ∷ []) o are in
      let z : Option StateShape = Some (At (Have w.0) w.1 w.2) in (
        w.0,
        w.1,
        w.2,
        goes_on s (At Begin (opened_with k i before [] None None None) o) (At (Have y.4) from o) ls (lexeme tokens.Semicolon at ∷ us) z y.5
            (steps s (next_term k e from o) (Some (At Begin (opened_with k j (before ++ e.term ∷ []) [] None None None) o)) us z (next_goes k e from o are) w.3),
        w.4 ∙ ap (λ (c : ℕ). over k (sequence_part c ((before ++ e.term ∷ []) ++ ts)) o) (later_start before e.term j n)
            ∙ ap (λ (xs : List Marked). over k (sequence_part j xs) o) (append_assoc before (e.term ∷ []) ts)
            ∙ ap (λ (c : PartShape). over k (sequence_part (first_start before i c.start) (before ++ c.term ∷ ts)) o) y.6,
      )
  seq_complete (bind s at name_at equals_at in_at x ls us n m ts xs h g) k i before o are =
      let r : OpenShape = opened_with k i before [] None None None in
      let y = seq_complete h (InBinding at name_at x) 0 [] (r ∷ o) refl in
      let w = seq_complete g (InBody at name_at x (terms_at n ts)) 0 [] (r ∷ o) refl in
      let z : Option StateShape = Some (At (Have w.0) w.1 w.2) in
      let comes : run s (At (Have y.0) y.1 y.2) (lexeme tokens.In in_at ∷ us) ≡ z = ap (λ (f : FinishedShape). concluded bound f >>= λ v. run s v us) y.4 ∙ w.3 in
      (w.0, w.1, w.2, goes_on s (At Begin (fresh (InBinding at name_at x)) (r ∷ o)) (At (Have y.0) y.1 y.2) ls (lexeme tokens.In in_at ∷ us) z y.3 comes, w.4)

-- each program is read to its end
pub complete : (s : Bool) (ls : List Lexeme) (t : Marked) → IsProgram s ls t → run s start ls ≡ Some (Done t)
complete s ls t p =
    let y = seq_complete p.is Top 0 [] [] refl in
    ap (run s start) p.whole
    ∙ goes_on s start (At (Have y.0) y.1 y.2) p.sequence (lexeme tokens.End p.end ∷ []) (Some (Done t)) y.3 (ap (λ (f : FinishedShape). ended f >>= λ v. run s v []) y.4 ∙ ap (λ (u : Marked). Some (Done u)) (sym p.term))
