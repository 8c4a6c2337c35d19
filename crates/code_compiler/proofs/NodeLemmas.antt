-- A tree by its node and the trees below it.
use Rattle.std.proofs.Common.{◌≡◌, ℕ, suc, true, T, List, [], ◌∷◌, length, refl, sym, ap, subst, Result, Ok, Err, OnOk}
use Rattle.asp_model.specs.Names.{Text}
use Rattle.asp_model.specs.Term.{Head, Tree, Trees, node, none, more, trees, child_count}
use Rattle.asp_model.specs.Readable.{HasArity}
use Rattle.code_table.specs.declared.code.Kind.{Kind}
use Rattle.code_table.specs.declared.code.Kind.TheVariants as kind
use Rattle.code_table.specs.Tables.{kind_head}
use Rattle.code_compiler.specs.Closed.{IsClosed}
use Rattle.code_compiler.specs.Compiled.{IsPlain, is_plain}
use Rattle.code_compiler.specs.Parts.{head_at, list_of, parts_of}

trees_parts : (ts : Trees) → trees (list_of ts) ≡ ts
trees_parts none = refl
trees_parts (more t ts) = ap (more t) (trees_parts ts)

pub parts_trees : (ts : List Tree) → list_of (trees ts) ≡ ts
parts_trees [] = refl
parts_trees (t ∷ ts) = ap (λ (us : List Tree). t ∷ us) (parts_trees ts)

count_parts : (ts : Trees) → length (list_of ts) ≡ child_count ts
count_parts none = refl
count_parts (more t ts) = ap suc (count_parts ts)

pub whole : (t : Tree) (h : Head) → h ≡ head_at t → node h (trees (parts_of t)) ≡ t
whole (node g ts) h e = λ i. node (e i) (trees_parts ts i)

has_plain : (k : Kind) (n : ℕ) → is_plain k ≡ true → HasArity (kind_head k) n → IsPlain k n
has_plain (kind.Make k) n e h = subst T (sym e) tt
has_plain (kind.Let x) n e h = subst T (sym e) tt
has_plain k n e h = h

pub plain_node : (bound : List Text) (t : Tree) (k : Kind) → is_plain k ≡ true → kind_head k ≡ head_at t → IsClosed bound t → IsPlain k (length (parts_of t))
plain_node bound (node h ts) k e f c = subst (IsPlain k) (sym (count_parts ts)) (has_plain k (child_count ts) e (subst (λ (g : Head). HasArity g (child_count ts)) (sym f) c.1))

pub then_ok : {A E : Type 0} (r : Result A E) (P Q : Type 0) → OnOk r P → (P → Q) → OnOk r Q
then_ok (Ok a) P Q p f = f p
then_ok (Err e) P Q p f = tt
