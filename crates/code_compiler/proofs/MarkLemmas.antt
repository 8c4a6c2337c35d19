-- Where the nodes of a table stood, as the table grows.
use Rattle.std.proofs.Common.{◌≡◌, ℕ, zero, suc, ◌+◌, ◌<◌, true, List, [], ◌∷◌, ◌++◌, Some, length, map, take, get_or, refl, sym, ap, subst, ◌∙◌}
use Rattle.std.proofs.lemmas.List.{append-nil}
use Rattle.std.specs.Global.{Box, Vec}
use Rattle.std.specs.List.{slice_get}
use Rattle.asp_model.specs.Names.{Text}
use Rattle.asp_model.specs.Marked.{Marked, MarkedList, marked, no_marked, and_marked, all_marked, one_marked, two_marked}
use Rattle.code_table.specs.declared.class.Class.{Class}
use Rattle.code_table.specs.declared.code.Child.{Child}
use Rattle.code_table.specs.declared.code.Child.TheVariants as child
use Rattle.code_table.specs.declared.code.Kind.{Kind}
use Rattle.code_table.specs.declared.code.Kind.TheVariants as kind
use Rattle.code_table.specs.declared.code.MethodCode.{MethodCode}
use Rattle.code_table.specs.declared.code.Node.{Node}
use Rattle.code_table.specs.Marks.{method_bodies, bodies_in, all_below, HasMarks, HaveMarks}
use Rattle.code_compiler.specs.Compiled.{Grows, IsPut, AddsMarks, is_plain}
use Rattle.code_compiler.specs.Parts.{mark_in, marked_below}
use Rattle.code_compiler.proofs.AddLemmas.{map_step}

-- What a table has stays in it

get_kept : (ns added : List Node) (i : ℕ) (n : Node) → slice_get ns i ≡ Some n → slice_get (ns ++ added) i ≡ Some n
get_kept [] added i n e = cc
get_kept (x ∷ ns) added zero n e = e
get_kept (x ∷ ns) added (suc i) n e = get_kept ns added i n e

get_last : (ns : List Node) (n : Node) → slice_get (ns ++ n ∷ []) (length ns) ≡ Some n
get_last [] n = refl
get_last (x ∷ ns) n = get_last ns n

mutual
  has_kept : (ns added : List Node) (c : Child) (t : Marked) → HasMarks ns c t → HasMarks (ns ++ added) c t
  has_kept ns added (child.Leaf l) t h = tt
  has_kept ns added (child.Node i) (marked g m ts) h = (h.0, get_kept ns added i h.0 h.1, h.2, have_kept ns added (all_below h.0) ts h.3)

  have_kept : (ns added : List Node) (cs : List Child) (ts : MarkedList) → HaveMarks ns cs ts → HaveMarks (ns ++ added) cs ts
  have_kept ns added [] no_marked h = tt
  have_kept ns added [] (and_marked t ts) h = absurd h
  have_kept ns added (c ∷ cs) no_marked h = absurd h
  have_kept ns added (c ∷ cs) (and_marked t ts) h = (has_kept ns added c t h.0, have_kept ns added cs ts h.1)

have_grown : (ns ms : List Node) (cs : List Child) (ts : MarkedList) → Grows ns ms → HaveMarks ns cs ts → HaveMarks ms cs ts
have_grown ns ms cs ts g h = subst (λ (l : List Node). HaveMarks l cs ts) (sym g.grown) (have_kept ns g.added cs ts h)

-- Terms one after the other

abbrev pub then_marked : MarkedList → MarkedList → MarkedList
then_marked no_marked us = us
then_marked (and_marked t ts) us = and_marked t (then_marked ts us)

all_then : (xs ys : List Marked) → then_marked (all_marked xs) (all_marked ys) ≡ all_marked (xs ++ ys)
all_then [] ys = refl
all_then (x ∷ xs) ys = ap (and_marked x) (all_then xs ys)

have_append : (ns : List Node) (cs ds : List Child) (ts us : MarkedList) → HaveMarks ns cs ts → HaveMarks ns ds us → HaveMarks ns (cs ++ ds) (then_marked ts us)
have_append ns [] ds no_marked us h g = g
have_append ns [] ds (and_marked t ts) us h g = absurd h
have_append ns (c ∷ cs) ds no_marked us h g = absurd h
have_append ns (c ∷ cs) ds (and_marked t ts) us h g = (h.0, have_append ns cs ds ts us h.1 g)

pub marks_none : (ns : List Node) (cs : List Child) → AddsMarks ns cs cs no_marked
marks_none ns cs = record { new = []; children = sym (append-nil cs); marks = tt }

pub marks_more : (ms ls : List Node) (cs ds es : List Child) (ts us : MarkedList) → Grows ms ls → AddsMarks ms cs ds ts → AddsMarks ls ds es us → AddsMarks ls cs es (then_marked ts us)
marks_more ms ls cs ds es ts us g x y = record {
  new = x.new ++ y.new;
  children = y.children ∙ ap (λ (l : List Child). l ++ y.new) x.children ∙ assoc cs x.new y.new;
  marks = have_append ls x.new y.new ts us (have_grown ms ls x.new ts g x.marks) y.marks;
}
  where
    assoc : (xs ys zs : List Child) → (xs ++ ys) ++ zs ≡ xs ++ (ys ++ zs)
    assoc [] ys zs = refl
    assoc (x ∷ xs) ys zs = ap (λ (l : List Child). x ∷ l) (assoc xs ys zs)

-- one more of the terms of a row
pub marks_step : {A : Type 0} (f : A → Marked) (xs : List A) (i : ℕ) (x : A) (ms ls : List Node) (cs ds es : List Child) → i < length xs → x ≡ get_or xs i x → Grows ms ls
    → AddsMarks ms cs ds (all_marked (map f (take i xs))) → AddsMarks ls ds es (one_marked (f x)) → AddsMarks ls cs es (all_marked (map f (take (i + 1) xs)))
marks_step f xs i x ms ls cs ds es h e g p q =
    let old : List Marked = map f (take i xs) in
    subst (λ (us : List Marked). AddsMarks ls cs es (all_marked us)) (map_step f xs i x h e)
    (subst (AddsMarks ls cs es) (all_then old (f x ∷ [])) (marks_more ms ls cs ds es (all_marked old) (one_marked (f x)) g p q))

-- one more of the methods of an object
pub bodies_step : {A : Type 0} (f : A → Marked) (xs : List A) (i : ℕ) (x : A) (ms ls : List Node) (codes : List MethodCode) (code : MethodCode) → i < length xs → x ≡ get_or xs i x → Grows ms ls
    → HaveMarks ms (method_bodies codes) (all_marked (map f (take i xs))) → HasMarks ls code.body (f x) → HaveMarks ls (method_bodies (codes ++ code ∷ [])) (all_marked (map f (take (i + 1) xs)))
bodies_step f xs i x ms ls codes code h e g p q =
    let old : List Marked = map f (take i xs) in
    subst (λ (us : List Marked). HaveMarks ls (method_bodies (codes ++ code ∷ [])) (all_marked us)) (map_step f xs i x h e)
    (subst (HaveMarks ls (method_bodies (codes ++ code ∷ []))) (all_then old (f x ∷ []))
    (subst (λ (l : List Child). HaveMarks ls l (then_marked (all_marked old) (one_marked (f x)))) (bodies_append codes)
    (have_append ls (method_bodies codes) (code.body ∷ []) (all_marked old) (one_marked (f x)) (have_grown ms ls (method_bodies codes) (all_marked old) g p) (q, tt))))
  where
    bodies_append : (ms : List MethodCode) → method_bodies ms ++ code.body ∷ [] ≡ method_bodies (ms ++ code ∷ [])
    bodies_append [] = refl
    bodies_append (m ∷ ms) = ap (λ (l : List Child). m.body ∷ l) (bodies_append ms)

-- Rows

-- a row behind no child
pub marks_row : (ms : List Node) (cs ds : List Child) (ts : MarkedList) → cs ≡ [] → AddsMarks ms cs ds ts → AddsMarks ms [] ds ts
marks_row ms cs ds ts e x = subst (λ (l : List Child). AddsMarks ms l ds ts) e x

have_row : (ms : List Node) (row : List Child) (ts : MarkedList) → AddsMarks ms [] row ts → HaveMarks ms row ts
have_row ms row ts x = subst (λ (l : List Child). HaveMarks ms l ts) (sym x.children) x.marks

pub only_marks : (ms : List Node) (cs ds : List Child) (c : Child) (t : Marked) → cs ≡ [] → ds ≡ c ∷ [] → AddsMarks ms cs ds (one_marked t) → HasMarks ms c t
only_marks ms cs ds c t none only x = (subst (λ (l : List Child). HaveMarks ms l (one_marked t)) only (have_row ms ds (one_marked t) (marks_row ms cs ds (one_marked t) none x))).0

-- Nodes

marks_put : {k : Kind} {row : Vec Child} {at : ℕ} (ms ks : List Node) (cs es : List Child) (t : Marked) → IsPut ms ks k row at → HaveMarks ms (row.items ++ bodies_in k) (marked_below t)
    → at ≡ (mark_in t).at → es ≡ cs ++ child.Node (length ms) ∷ [] → AddsMarks ks cs es (one_marked t)
marks_put ms ks cs es (marked h m ts) put have is child_is =
    let same : _ ≡ all_below put.node = λ i. (sym put.below_is i).items ++ bodies_in (sym put.kind_is i) in
    let inner : HaveMarks (ms ++ put.node ∷ []) (all_below put.node) ts = have_kept ms (put.node ∷ []) (all_below put.node) ts (subst (λ (l : List Child). HaveMarks ms l ts) same have) in
    record {
      new = child.Node (length ms) ∷ [];
      children = child_is;
      marks = subst (λ (l : List Node). HaveMarks l (child.Node (length ms) ∷ []) (one_marked (marked h m ts))) (sym put.pushed) ((put.node, get_last ms put.node, put.mark_is ∙ is, inner), tt);
    }

plain_bodies : (k : Kind) → is_plain k ≡ true → bodies_in k ≡ []
plain_bodies (kind.Make k) e = cc
plain_bodies _ e = refl

without_bodies : (ms : List Node) (k : Kind) (row : List Child) (ts : MarkedList) → bodies_in k ≡ [] → AddsMarks ms [] row ts → HaveMarks ms (row ++ bodies_in k) ts
without_bodies ms k row ts none x = subst (λ (l : List Child). HaveMarks ms l ts) (sym (append-nil row) ∙ ap (λ (l : List Child). row ++ l) (sym none)) (have_row ms row ts x)

pub node_marks : {k : Kind} {row : Vec Child} {at : ℕ} (ms ks : List Node) (cs es : List Child) (t : Marked) → IsPut ms ks k row at → is_plain k ≡ true → AddsMarks ms [] row.items (marked_below t)
    → at ≡ (mark_in t).at → es ≡ cs ++ child.Node (length ms) ∷ [] → AddsMarks ks cs es (one_marked t)
node_marks {k} {row} ms ks cs es t put plain x is child_is = marks_put ms ks cs es t put (without_bodies ms k row.items (marked_below t) (plain_bodies k plain) x) is child_is

pub let_marks : {x : Text} {row : Vec Child} {at : ℕ} (ms ls ks : List Node) (cs es ds : List Child) (t u v : Marked) → Grows ms ls → AddsMarks ms [] ds (one_marked u) → AddsMarks ls ds row.items (one_marked v)
    → IsPut ls ks (kind.Let x) row at → marked_below t ≡ two_marked u v → at ≡ (mark_in t).at → es ≡ cs ++ child.Node (length ls) ∷ [] → AddsMarks ks cs es (one_marked t)
let_marks {x} {row} ms ls ks cs es ds t u v g first second put both is child_is =
    let all : AddsMarks ls [] row.items (marked_below t) = subst (AddsMarks ls [] row.items) (sym both) (marks_more ms ls [] ds row.items (one_marked u) (one_marked v) g first second) in
    marks_put ls ks cs es t put (without_bodies ls (kind.Let x) row.items (marked_below t) refl all) is child_is

pub object_marks : {k : Box Class} {row : Vec Child} {at : ℕ} (ms ls ks : List Node) (cs es : List Child) (t : Marked) (ts us : List Marked) → Grows ms ls → AddsMarks ms [] row.items (all_marked ts)
    → HaveMarks ls (method_bodies k.value.methods.items) (all_marked us) → IsPut ls ks (kind.Make k) row at → marked_below t ≡ all_marked (ts ++ us) → at ≡ (mark_in t).at
    → es ≡ cs ++ child.Node (length ls) ∷ [] → AddsMarks ks cs es (one_marked t)
object_marks {k} {row} ms ls ks cs es t ts us g first second put both is child_is =
    let fields : HaveMarks ls row.items (all_marked ts) = have_grown ms ls row.items (all_marked ts) g (have_row ms row.items (all_marked ts) first) in
    let all : HaveMarks ls (row.items ++ method_bodies k.value.methods.items) (then_marked (all_marked ts) (all_marked us)) =
    have_append ls row.items (method_bodies k.value.methods.items) (all_marked ts) (all_marked us) fields second in
    marks_put ls ks cs es t put (subst (HaveMarks ls (row.items ++ method_bodies k.value.methods.items)) (all_then ts us ∙ sym both) all) is child_is
