-- What is proper may be compiled.
use Rattle.std.proofs.Common.{◌≡◌, true, false, ℕ, suc, ◌+◌, ◌<◌, List, [], ◌∷◌, ◌++◌, length, refl, sym, ap, subst, ◌∙◌, arith}
use Rattle.asp_model.specs.Names.{Text}
use Rattle.asp_model.specs.Readable.{HasArity}
use Rattle.asp_model.specs.Shapes.{tree_of}
use Rattle.asp_model.specs.Split.{Context, Redex, reduced_count}
use Rattle.asp_model.specs.Term.{Head, Loc, Var, Tree, Trees, node, none, more, loc, locs_then, binders, child_count}
use Rattle.law_programs.specs.Proper.{is_proper_node, IsProper, AreProper, IsProperContext}
use Rattle.code_laws.specs.Splitting.{redex_node, is_loc, IsContext, IsRedex}
use Rattle.code_laws.proofs.OpenLemmas.{count_locs}
use Rattle.code_compiler.specs.Closed.{IsClosed}
use Rattle.frozen_code.specs.declared.held.Opened.{Opened}
use Rattle.frozen_code.specs.Named.{named}
use Rattle.frozen_code.specs.Held.{filler, filled, context_left, redex_left, is_variable, IsOpened, ContextsMayCome, RedexesMayCome}
use Rattle.frozen_code.proofs.NamedLemmas.{named_are_closed}
use Rattle.frozen_code.proofs.HeldLemmas.{count_filled}

-- With `[]` in place of locations a term stays proper

filler_proper : (bound : List Text) → IsProper bound filler
filler_proper bound = (refl, refl, tt)

redex_proper : (bound : List Text) (names : List (List Text)) (ns : List ℕ) (us : Trees) → AreProper bound names (locs_then ns us) → AreProper bound names (filled (length ns) us)
redex_proper bound names [] us p = p
redex_proper bound [] (n ∷ ns) us p = (filler_proper bound, redex_proper bound [] ns us p.1)
redex_proper bound (ys ∷ names) (n ∷ ns) us p = (filler_proper (ys ++ bound), redex_proper bound names ns us p.1)

context_proper : (bound : List Text) (names : List (List Text)) (ns : List ℕ) (us : Trees) → AreProper bound names (locs_then ns (more (loc 0) us)) → AreProper bound names (filled (suc (length ns)) us)
context_proper bound [] [] us p = (filler_proper bound, p.1)
context_proper bound (ys ∷ names) [] us p = (filler_proper (ys ++ bound), p.1)
context_proper bound [] (n ∷ ns) us p = (filler_proper bound, context_proper bound [] ns us p.1)
context_proper bound (ys ∷ names) (n ∷ ns) us p = (filler_proper (ys ++ bound), context_proper bound names ns us p.1)

pub left_context : (c : Context) → IsProperContext c → IsProper [] (context_left c)
left_context c p =
    let whole : Trees = locs_then c.before (more (loc 0) c.behind) in
    let counted : child_count whole ≡ length c.before + suc (child_count c.behind) = count_locs c.before (more (loc 0) c.behind) in
    let left : child_count (filled (suc (length c.before)) c.behind) ≡ suc (length c.before) + child_count c.behind = count_filled (suc (length c.before)) c.behind in
    let same : child_count whole ≡ child_count (filled (suc (length c.before)) c.behind) = omega (arith, counted, left) in
    (p.0, subst (HasArity c.head) same p.1, context_proper [] (binders c.head) c.before c.behind p.2)

pub left_redex : (r : Redex) → IsProper [] (redex_node r) → IsProper [] (redex_left r)
left_redex r p =
    let whole : Trees = locs_then r.places r.behind in
    let same : child_count whole ≡ child_count (filled (length r.places) r.behind) = count_locs r.places r.behind ∙ sym (count_filled (length r.places) r.behind) in
    (p.0, subst (HasArity r.head) same p.1, redex_proper [] (binders r.head) r.places r.behind p.2)

-- It is no variable

context_node : (f : ℕ → Text) (h : Head) (ts us : Trees) → 0 < reduced_count h us → is_variable (named f (node h ts)) ≡ false
context_node f (Loc n) ts us l = let none_is : 0 < 0 = l in absurd (omega (arith, none_is))
context_node f (Var x) ts us l = let none_is : 0 < 0 = l in absurd (omega (arith, none_is))
context_node f _ ts us l = refl

redex_is_node : (f : ℕ → Text) (h : Head) (ts : Trees) → is_loc h ≡ false → is_proper_node [] h ≡ true → is_variable (named f (node h ts)) ≡ false
redex_is_node f (Loc n) ts l p = cc
redex_is_node f (Var x) ts l p = cc
redex_is_node f _ ts l p = refl

pub contexts_may_come : ContextsMayCome
contexts_may_come x c p is o =
    let t : Tree = context_left c in
    let us : Trees = locs_then c.before (more (loc 0) c.behind) in
    let hole : length c.before < reduced_count c.head us = is in
    let some : 0 < reduced_count c.head us = omega (arith, hole) in
    let closed : IsClosed x.names.items (named o.name t) = named_are_closed o.name x.names.items x.places.items t (left_context c p) o.nameable in
    (subst (IsClosed x.names.items) (sym o.term) closed, ap is_variable o.term ∙ context_node o.name c.head (filled (suc (length c.before)) c.behind) us some)

pub redexes_may_come : RedexesMayCome
redexes_may_come x r p is o =
    let t : Tree = redex_left r in
    let closed : IsClosed x.names.items (named o.name t) = named_are_closed o.name x.names.items x.places.items t (left_redex r p) o.nameable in
    (subst (IsClosed x.names.items) (sym o.term) closed, ap is_variable o.term ∙ redex_is_node o.name r.head (filled (length r.places) r.behind) is.0 p.0)
