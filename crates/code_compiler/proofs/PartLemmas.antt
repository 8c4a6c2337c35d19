-- The trees below the node of a term, as the code has them.
use Rattle.std.proofs.Common.{◌≡◌, ◌<◌, List, [], ◌∷◌, ◌⊎◌, inl, inr, map, sym, ap, ◌∙◌}
use denote.Param.Weighed.{most}
use Rattle.std.specs.Global.{Box, Vec}
use Rattle.asp_model.specs.declared.word.Label.{Label}
use Rattle.asp_model.specs.declared.term.Sign.{Sign}
use Rattle.asp_model.specs.declared.term.Mark.{Mark}
use Rattle.asp_model.specs.declared.term.Term.{Term}
use Rattle.asp_model.specs.declared.term.Term.TheVariants.{Put, Call, Steps, If, Operate, Group, Scatter, Member}
use Rattle.asp_model.specs.Names.{Text}
use Rattle.asp_model.specs.Term.{Tree}
use Rattle.asp_model.specs.Marked.{MarkedList, and_marked, two_marked}
use Rattle.asp_model.specs.Shapes.{marked_of, tree_of}
use Rattle.asp_model.proofs.term.Term.TheLaws.{the_size}
use Rattle.code_compiler.specs.Closed.{IsClosed, AreClosed}
use Rattle.code_compiler.specs.Parts.{marked_below, parts_of, terms_below, terms_marked}
use Rattle.code_compiler.proofs.ClosedLaws.{steps_closed, group_closed}
use Rattle.code_compiler.proofs.NodeLemmas.{parts_trees}
use Rattle.code_compiler.proofs.SizeLemmas.{steps_size, group_size}
use Rattle.code_table.proofs.TermTrees.{put_is, call_is, steps_is, operate_is, group_is, scatter_is, member_is, put_marked, call_marked, steps_marked, if_marked, operate_marked, group_marked, scatter_marked, member_marked}

abbrev parts : Term → List Tree
parts t = parts_of (tree_of t)

abbrev with_marks : Term → MarkedList
with_marks t = marked_below (marked_of t)

-- Nodes over a row of terms

abbrev pub IsRow : Term → Vec Term → Type 0
IsRow t ts = ((m : Mark) × t ≡ Steps ts m) ⊎ ((m : Mark) × t ≡ Group ts m)

pub row_parts : (t : Term) (xs : List Term) (ts : Vec Term) → xs ≡ ts.items → IsRow t ts → map tree_of xs ≡ parts t
row_parts t xs ts e (inl p) = ap (map tree_of) e ∙ sym (ap parts p.1 ∙ ap parts_of (steps_is ts p.0) ∙ parts_trees (map tree_of ts.items))
row_parts t xs ts e (inr p) = ap (map tree_of) e ∙ sym (ap parts p.1 ∙ ap parts_of (group_is ts p.0) ∙ parts_trees (map tree_of ts.items))

pub row_size : (t : Term) (xs : List Term) (ts : Vec Term) → xs ≡ ts.items → IsRow t ts → most the_size xs < the_size t
row_size t xs ts e (inl p) = steps_size t xs ts p.0 e p.1
row_size t xs ts e (inr p) = group_size t xs ts p.0 e p.1

pub row_closed : (ns : List Text) (t : Term) (xs : List Term) (ts : Vec Term) → xs ≡ ts.items → IsRow t ts → IsClosed ns (tree_of t) → AreClosed ns [] (terms_below xs)
row_closed ns t xs ts e (inl p) c = (steps_closed ns t xs ts p.0 e p.1 c).1
row_closed ns t xs ts e (inr p) c = group_closed ns t xs ts p.0 e p.1 c

pub row_marked : (t : Term) (xs : List Term) (ts : Vec Term) → xs ≡ ts.items → IsRow t ts → terms_marked xs ≡ with_marks t
row_marked t xs ts e (inl p) = ap terms_marked e ∙ sym (ap with_marks p.1 ∙ ap marked_below (steps_marked ts p.0))
row_marked t xs ts e (inr p) = ap terms_marked e ∙ sym (ap with_marks p.1 ∙ ap marked_below (group_marked ts p.0))

-- Nodes over two terms

abbrev pub IsTwo : Term → Box Term → Box Term → Type 0
IsTwo t a b = ((l : Label) × (m : Mark) × t ≡ Put a l b m) ⊎ (((s : Sign) × (m : Mark) × t ≡ Operate s a b m) ⊎ (((l : Label) × (m : Mark) × t ≡ Scatter a l b m) ⊎ ((m : Mark) × t ≡ Member a b m)))

pub two_parts : (t : Term) (a b : Box Term) → IsTwo t a b → tree_of a.value ∷ tree_of b.value ∷ [] ≡ parts t
two_parts t a b (inl p) = sym (ap parts p.2 ∙ ap parts_of (put_is a p.0 b p.1))
two_parts t a b (inr (inl p)) = sym (ap parts p.2 ∙ ap parts_of (operate_is p.0 a b p.1))
two_parts t a b (inr (inr (inl p))) = sym (ap parts p.2 ∙ ap parts_of (scatter_is a p.0 b p.1))
two_parts t a b (inr (inr (inr p))) = sym (ap parts p.1 ∙ ap parts_of (member_is a b p.0))

pub pair_marked : (t : Term) (a b : Box Term) → IsTwo t a b → two_marked (marked_of a.value) (marked_of b.value) ≡ with_marks t
pair_marked t a b (inl p) = sym (ap with_marks p.2 ∙ ap marked_below (put_marked a p.0 b p.1))
pair_marked t a b (inr (inl p)) = sym (ap with_marks p.2 ∙ ap marked_below (operate_marked p.0 a b p.1))
pair_marked t a b (inr (inr (inl p))) = sym (ap with_marks p.2 ∙ ap marked_below (scatter_marked a p.0 b p.1))
pair_marked t a b (inr (inr (inr p))) = sym (ap with_marks p.1 ∙ ap marked_below (member_marked a b p.0))

-- Choices

pub choice_marked : (t : Term) (a b c : Box Term) (m : Mark) → t ≡ If a b c m → and_marked (marked_of a.value) (two_marked (marked_of b.value) (marked_of c.value)) ≡ with_marks t
choice_marked t a b c m e = sym (ap with_marks e ∙ ap marked_below (if_marked a b c m))

-- Calls

pub call_parts : (t : Term) (a : Box Term) (l : Label) (ts : Vec Term) (m : Mark) → t ≡ Call a l ts m → tree_of a.value ∷ map tree_of ts.items ≡ parts t
call_parts t a l ts m e = sym (ap parts e ∙ ap parts_of (call_is a l ts m) ∙ ap (λ (us : List Tree). tree_of a.value ∷ us) (parts_trees (map tree_of ts.items)))

pub operands_marked : (t : Term) (a : Box Term) (l : Label) (ts : Vec Term) (m : Mark) → t ≡ Call a l ts m → and_marked (marked_of a.value) (terms_marked ts.items) ≡ with_marks t
operands_marked t a l ts m e = sym (ap with_marks e ∙ ap marked_below (call_marked a l ts m))
