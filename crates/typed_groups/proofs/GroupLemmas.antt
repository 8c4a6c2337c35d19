-- Trees of the terms that groups expand to.
use Rattle.std.proofs.Common.{◌≡◌, ◌<◌, ℕ, zero, suc, List, [], ◌∷◌, ◌++◌, Some, None, length, map, take, get_or, refl, sym, ap, ◌∙◌, arith}
use Rattle.std.specs.Prelude.{slice_get}
use Rattle.std.specs.Global.{Box, Vec}
use Rattle.asp_model.specs.declared.word.Label.{Label}
use Rattle.asp_model.specs.declared.term.Mark.{Mark}
use Rattle.asp_model.specs.declared.term.Term.{Term}
use Rattle.asp_model.specs.declared.term.Term.TheOpen as layer
use Rattle.asp_model.specs.declared.term.Term.TheVariants.{Loc, Call, Group, rolls-Loc, rolls-Call, rolls-Group}
use Rattle.asp_model.specs.declared.term.Term.TheFolds.{fold-roll-Term}
use Rattle.asp_model.specs.Names.{Text}
use Rattle.asp_model.specs.Term as term
use Rattle.asp_model.specs.Term.{Tree, Trees, node, none, more, trees, loc, locs_then}
use Rattle.asp_model.specs.Contraction.{broadcast, scattered, member_at}
use Rattle.asp_model.specs.Marked.{Marked, all_marked, plain, plain_below}
use Rattle.asp_model.specs.Shapes.{MarkedMethod, term_step, method_step, marked_of, tree_of}
use Rattle.typed_groups.specs.Calls.{call_to}

plain_terms : (ts : List Term) → plain_below (all_marked (map marked_of ts)) ≡ trees (map tree_of ts)
plain_terms [] = refl
plain_terms (t ∷ ts) = ap (more (tree_of t)) (plain_terms ts)

pub loc_is : (n : ℕ) (m : Mark) → tree_of (Loc n m) ≡ loc n
loc_is n m = ap tree_of (sym (rolls-Loc n m)) ∙ ap plain (fold-roll-Term Marked MarkedMethod term_step method_step (layer.Loc n m))

pub call_is : (a : Box Term) (l : Label) (ts : Vec Term) (m : Mark) → tree_of (Call a l ts m) ≡ node (term.Call l.text) (more (tree_of a.value) (trees (map tree_of ts.items)))
call_is a l ts m =
    ap tree_of (sym (rolls-Call a l ts m)) ∙ ap plain (fold-roll-Term Marked MarkedMethod term_step method_step (layer.Call a l ts m))
    ∙ ap (λ (us : Trees). node (term.Call l.text) (more (tree_of a.value) us)) (plain_terms ts.items)

pub group_is : (ts : Vec Term) (m : Mark) → tree_of (Group ts m) ≡ node term.Group (trees (map tree_of ts.items))
group_is ts m =
    ap tree_of (sym (rolls-Group ts m)) ∙ ap plain (fold-roll-Term Marked MarkedMethod term_step method_step (layer.Group ts m))
    ∙ ap (node term.Group) (plain_terms ts.items)

-- Expansions as lists of calls

pub locs_are : (ns : List ℕ) → trees (map loc ns) ≡ locs_then ns none
locs_are [] = refl
locs_are (n ∷ ns) = ap (more (loc n)) (locs_are ns)

pub broadcast_is : (l : Text) (ks ns : List ℕ) → trees (map (λ n. call_to l n ks) ns) ≡ broadcast l ns ks
broadcast_is l ks [] = refl
broadcast_is l ks (n ∷ ns) = ap (more (call_to l n ks)) (broadcast_is l ks ns)

-- a call to each with an argument of its own
abbrev pub pair_calls : Text → List ℕ → List ℕ → List Tree
pair_calls l [] ks = []
pair_calls l (n ∷ ns) [] = []
pair_calls l (n ∷ ns) (k ∷ ks) = call_to l n (k ∷ []) ∷ pair_calls l ns ks

pub scattered_is : (l : Text) (ns ks : List ℕ) → length ns ≡ length ks → scattered l ns ks ≡ Some (trees (pair_calls l ns ks))
scattered_is l [] [] e = refl
scattered_is l [] (k ∷ ks) e = absurd (omega (arith, e))
scattered_is l (n ∷ ns) [] e = absurd (omega (arith, e))
scattered_is l (n ∷ ns) (k ∷ ks) e = ap (λ o. elim o [ None ↦ None | Some ts ↦ Some (more (call_to l n (k ∷ [])) ts) ]) (scattered_is l ns ks (omega (arith, e)))

pub not_scattered : (l : Text) (ns ks : List ℕ) → (length ns ≡ length ks → ⊥) → scattered l ns ks ≡ None
not_scattered l [] [] h = absurd (h refl)
not_scattered l [] (k ∷ ks) h = refl
not_scattered l (n ∷ ns) [] h = refl
not_scattered l (n ∷ ns) (k ∷ ks) h = ap (λ o. elim o [ None ↦ None | Some ts ↦ Some (more (call_to l n (k ∷ [])) ts) ]) (not_scattered l ns ks (λ e. h (omega (arith, e))))

pub pair_more : (l : Text) (ns ks : List ℕ) (i d e : ℕ) → i < length ns → i < length ks → pair_calls l (take (suc i) ns) (take (suc i) ks) ≡ pair_calls l (take i ns) (take i ks) ++ call_to l (get_or ns i d) (get_or ks i e ∷ []) ∷ []
pair_more l [] ks i d e lt lt' = absurd (omega (arith, lt))
pair_more l (n ∷ ns) [] i d e lt lt' = absurd (omega (arith, lt'))
pair_more l (n ∷ ns) (k ∷ ks) zero d e lt lt' = refl
pair_more l (n ∷ ns) (k ∷ ks) (suc i) d e lt lt' = ap (λ ts. call_to l n (k ∷ []) ∷ ts) (pair_more l ns ks i d e (omega (arith, lt)) (omega (arith, lt')))

pub member_is : (ns : List ℕ) (k : ℕ) → member_at ns k ≡ slice_get ns k
member_is [] k = refl
member_is (n ∷ ns) zero = refl
member_is (n ∷ ns) (suc k) = member_is ns k

pub trees_more : (ts : List Term) (t : Term) → map tree_of (ts ++ t ∷ []) ≡ map tree_of ts ++ tree_of t ∷ []
trees_more [] t = refl
trees_more (u ∷ ts) t = ap (λ us. tree_of u ∷ us) (trees_more ts t)
