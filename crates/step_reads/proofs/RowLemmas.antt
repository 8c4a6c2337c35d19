-- What a redex comes to in a store is told by the faces of its operands.
use Rattle.std.proofs.Common.{◌≡◌, ◌==◌, ℕ, ℤ, suc, Bool, true, false, List, [], ◌∷◌, Option, Some, None, Ok, Err, length, map, refl, sym, ap, subst, ◌∙◌, ◌++◌, arith}
use Rattle.std.specs.Prelude.{◌<◌, ◌≤◌, nat_lt, pos, negsuc, zero, is_some}
use Rattle.std.proofs.lemmas.Option.{slice_get-get_or, slice_get_past}
use Rattle.std.specs.Option.{option_map}
use Rattle.std.proofs.lemmas.Bool.Decides.{nat_tests}
use Rattle.asp_model.specs.Names.{Text}
use Rattle.asp_model.specs.Term as term
use Rattle.asp_model.specs.Term.{Tree, Trees, SignShape, Environment, has_text, none, more}
use Rattle.asp_model.specs.Store.{CellShape, Number, Object, Reference, Future, Group, Field, MethodShape, Store, cell}
use Rattle.asp_model.specs.Split as split
use Rattle.asp_model.specs.Contraction as contraction
use Rattle.asp_model.specs.Contraction.{Contraction, Needs, bindings, call_row, contract, field_found, field_place, field_set, first_future, get_row, if_row, invoked, method_at, method_found, operate, operate_row, print_row, put_row, strict_operands, strict_members, active_row, member_at, member_found, member_row, row, scatter_row, scattered, size_row, sizes_compared, wait_row, with_field}
use Rattle.asp_model.specs.Shapes.{sign_shape}
use Rattle.code_laws.proofs.BodyLemmas.{bound_from, unbound}
use Rattle.step_rows.specs.declared.redex.Redex.{Redex}
use Rattle.step_rows.specs.declared.redex.Redex.TheVariants as redex
use Rattle.step_rows.specs.Decisions.{value_redex}
use Rattle.step_rows.specs.Redexes.{IsRedex}
use Rattle.step_rows.specs.Numbers.{Answer, answer, answered}
use Rattle.step_rows.proofs.NumberLemmas.{operate_answers}
use Rattle.step_rows.proofs.GroupLemmas.{differ, member_is}
use Rattle.step_machine.proofs.RoundLemmas.{scattered_calls}
use Rattle.step_reads.specs.Prospects.{prospect_by}
use Rattle.step_reads.specs.Faces.{Face, face, at_answer, at_call, at_field, at_group, at_member, at_number, at_object, at_scatter, at_sign, goes_if, has_count, prospect_at}
use Rattle.step_reads.proofs.LabelLemmas.{head_at_map, labelled}

-- Fields

found_by : (s : Store) (o : Option ℕ) → prospect_by (field_found s o) ≡ goes_if (is_some o) contraction.NoField
found_by s None = refl
found_by s (Some n) = refl

found_in : (s : Store) (l : Text) (fs : List Field) → prospect_by (field_found s (field_place l fs)) ≡ goes_if (has_text l (map (λ (x : Field). x.label) fs)) contraction.NoField
found_in s l fs = found_by s (field_place l fs) ∙ ap (λ (b : Bool). goes_if b contraction.NoField) (sym (labelled l fs))

get_by : (s : Store) (l : Text) (c : CellShape) → prospect_by (get_row s l c) ≡ at_field l (face c)
get_by s l (Number z) = refl
get_by s l (Object fields methods) = found_in s l fields
get_by s l (Reference n) = refl
get_by s l (Future f) = refl
get_by s l (Group ns) = refl

set_same : (s : Store) (i : ℕ) (c : CellShape) (o : Option ℕ) → prospect_by (field_set s i c o) ≡ prospect_by (field_found s o)
set_same s i c None = refl
set_same s i c (Some n) = refl

put_by : (s : Store) (l : Text) (i k : ℕ) (c : CellShape) → prospect_by (put_row s l i k c) ≡ at_field l (face c)
put_by s l i k (Number z) = refl
put_by s l i k (Object fields methods) = set_same s i (Object (with_field l k fields) methods) (field_place l fields) ∙ found_in s l fields
put_by s l i k (Reference n) = refl
put_by s l i k (Future f) = refl
put_by s l i k (Group ns) = refl

-- Calls

invoked_by : (s : Store) (body : Tree) (slf : Text) (xs : List Text) (i : ℕ) (ks : List ℕ) (b : Bool) → length xs == length ks ≡ b → prospect_by (invoked s body (bindings (slf ∷ xs) (i ∷ ks))) ≡ goes_if b contraction.NoMethod
invoked_by s body slf xs i ks true e =
    let same : length xs ≡ length ks = grind (arith, nat_tests, e) in
    ap (λ (o : Option Environment). prospect_by (invoked s body o)) (bound_from (slf ∷ xs) (i ∷ ks) (i ∷ ks) 0 (ap suc same) refl)
invoked_by s body slf xs i ks false e = ap (λ (o : Option Environment). prospect_by (invoked s body o)) (unbound (slf ∷ xs) (i ∷ ks) (λ h. grind (arith, nat_tests, e, h)))

method_by : (s : Store) (i : ℕ) (ks : List ℕ) (o : Option MethodShape) → prospect_by (method_found s i ks o) ≡ goes_if (has_count (length ks) (option_map (λ x. x.head) o)) contraction.NoMethod
method_by s i ks None = refl
method_by s i ks (Some m) = invoked_by s m.body m.head.slf m.head.parameters i ks (length m.head.parameters == length ks) refl

call_by : (s : Store) (l : Text) (i : ℕ) (ks : List ℕ) (c : CellShape) → prospect_by (call_row s l i ks c) ≡ at_call l (length ks) (face c)
call_by s l i ks (Number z) = refl
call_by s l i ks (Object fields methods) = method_by s i ks (method_at l methods) ∙ ap (λ o. goes_if (has_count (length ks) o) contraction.NoMethod) (sym (head_at_map l methods))
call_by s l i ks (Reference n) = refl
call_by s l i ks (Future f) = refl
call_by s l i ks (Group ns) = refl

-- Others

active_by : (i : ℕ) (service : Option Text) (c : CellShape) → prospect_by (active_row i service c) ≡ at_object (face c)
active_by i service (Number z) = refl
active_by i service (Object fields methods) = refl
active_by i service (Reference n) = refl
active_by i service (Future f) = refl
active_by i service (Group ns) = refl

print_by : (s : Store) (i : ℕ) (c : CellShape) → prospect_by (print_row s i c) ≡ at_number (face c)
print_by s i (Number z) = refl
print_by s i (Object fields methods) = refl
print_by s i (Reference n) = refl
print_by s i (Future f) = refl
print_by s i (Group ns) = refl

if_by : (s : Store) (a b : Tree) (c : CellShape) → prospect_by (if_row s a b c) ≡ at_number (face c)
if_by s a b (Number (pos zero)) = refl
if_by s a b (Number (pos (suc n))) = refl
if_by s a b (Number (negsuc n)) = refl
if_by s a b (Object fields methods) = refl
if_by s a b (Reference n) = refl
if_by s a b (Future f) = refl
if_by s a b (Group ns) = refl

answered_by : (s : Store) (a : Answer) → prospect_by (answered s a) ≡ at_answer a
answered_by s (Ok z) = refl
answered_by s (Err fault) = refl

numbers_by : (s : Store) (sign : SignShape) (x y : ℤ) → prospect_by (operate s sign x y) ≡ at_answer (answer sign x y)
numbers_by s sign x y = ap prospect_by (sym (operate_answers s sign x y)) ∙ answered_by s (answer sign x y)

sign_with : (s : Store) (sign : SignShape) (x : ℤ) (d : CellShape) → prospect_by (operate_row s sign (Number x) d) ≡ at_sign sign (face (Number x)) (face d)
sign_with s sign x (Number y) = numbers_by s sign x y
sign_with s sign x (Object fields methods) = refl
sign_with s sign x (Reference n) = refl
sign_with s sign x (Future f) = refl
sign_with s sign x (Group ns) = refl

operate_by : (s : Store) (sign : SignShape) (c d : CellShape) → prospect_by (operate_row s sign c d) ≡ at_sign sign (face c) (face d)
operate_by s sign (Number x) d = sign_with s sign x d
operate_by s sign (Object fields methods) d = refl
operate_by s sign (Reference n) d = refl
operate_by s sign (Future f) d = refl
operate_by s sign (Group ns) d = refl

-- Groups

size_by : (s : Store) (c : CellShape) → prospect_by (size_row s c) ≡ at_group (face c)
size_by s (Number z) = refl
size_by s (Object fields methods) = refl
size_by s (Reference n) = refl
size_by s (Future f) = refl
size_by s (Group ns) = refl

pub wait_by : (s : Store) (i : ℕ) (c : CellShape) → prospect_by (wait_row s i c) ≡ at_group (face c)
wait_by s i (Number z) = refl
wait_by s i (Object fields methods) = refl
wait_by s i (Reference n) = refl
wait_by s i (Future f) = refl
wait_by s i (Group ns) = refl

sizes_by : (s : Store) (l : Text) (ns ks : List ℕ) (b : Bool) → length ns == length ks ≡ b → prospect_by (sizes_compared s (scattered l ns ks)) ≡ goes_if b contraction.BadMember
sizes_by s l ns ks true e =
    let same : length ns ≡ length ks = grind (arith, nat_tests, e) in
    ap (λ (o : Option Trees). prospect_by (sizes_compared s o)) (scattered_calls l ns ks same)
sizes_by s l ns ks false e = ap (λ (o : Option Trees). prospect_by (sizes_compared s o)) (differ l ns ks (λ h. grind (arith, nat_tests, e, h)))

scatter_with : (s : Store) (l : Text) (ns : List ℕ) (d : CellShape) → prospect_by (scatter_row s l (Group ns) d) ≡ at_scatter (face (Group ns)) (face d)
scatter_with s l ns (Number z) = refl
scatter_with s l ns (Object fields methods) = refl
scatter_with s l ns (Reference n) = refl
scatter_with s l ns (Future f) = refl
scatter_with s l ns (Group ks) = sizes_by s l ns ks (length ns == length ks) refl

scatter_by : (s : Store) (l : Text) (c d : CellShape) → prospect_by (scatter_row s l c d) ≡ at_scatter (face c) (face d)
scatter_by s l (Group ns) d = scatter_with s l ns d
scatter_by s l (Number z) d = refl
scatter_by s l (Object fields methods) d = refl
scatter_by s l (Reference n) d = refl
scatter_by s l (Future f) d = refl

place_by : (s : Store) (ns : List ℕ) (k : ℕ) (b : Bool) → nat_lt k (length ns) ≡ b → prospect_by (member_found s (member_at ns k)) ≡ goes_if b contraction.BadMember
place_by s ns k true e =
    let lt : k < length ns = grind (arith, nat_tests, e) in
    ap (λ (o : Option ℕ). prospect_by (member_found s o)) (member_is ns k ∙ slice_get-get_or ns k 0 lt)
place_by s ns k false e =
    let le : length ns ≤ k = grind (arith, nat_tests, e) in
    ap (λ (o : Option ℕ). prospect_by (member_found s o)) (member_is ns k ∙ slice_get_past ns k le)

member_with : (s : Store) (ns : List ℕ) (d : CellShape) → prospect_by (member_row s (Group ns) d) ≡ at_member (face (Group ns)) (face d)
member_with s ns (Number (pos k)) = place_by s ns k (nat_lt k (length ns)) refl
member_with s ns (Number (negsuc k)) = refl
member_with s ns (Object fields methods) = refl
member_with s ns (Reference n) = refl
member_with s ns (Future f) = refl
member_with s ns (Group ks) = refl

member_by : (s : Store) (c d : CellShape) → prospect_by (member_row s c d) ≡ at_member (face c) (face d)
member_by s (Group ns) d = member_with s ns d
member_by s (Number z) d = refl
member_by s (Object fields methods) d = refl
member_by s (Reference n) d = refl
member_by s (Future f) d = refl

-- Redexes

-- the faces of a redex's strict operands
abbrev pub AreFaces : Store → List ℕ → Face → Face → Type 0
AreFaces s [] f g = Unit {0}
AreFaces s (i ∷ []) f g = face (cell s i) ≡ f
AreFaces s (i ∷ k ∷ ns) f g = (face (cell s i) ≡ f) × (face (cell s k) ≡ g)

abbrev pub strict_of : split.Redex → List ℕ
strict_of r = strict_operands r.head r.places

-- no future stands among the strict operands
abbrev pub Stand : Store → split.Redex → Type 0
Stand s r = first_future s (strict_of r ++ strict_members s r.head r.places) ≡ None

-- what a redex of this shape comes to is told by the faces of its operands
abbrev pub IsBy : Store → Redex → Face → Face → split.Redex → Type 0
IsBy s x f g r = Stand s r → AreFaces s (strict_of r) f g → prospect_by (contract s r) ≡ prospect_at x f g

by_row : (s : Store) (r : split.Redex) → first_future s (strict_of r ++ strict_members s r.head r.places) ≡ None → contract s r ≡ row s r.head r.places r.behind
by_row s r e = ap (λ (o : Option ℕ). elim o [ Some n ↦ Needs n | None ↦ row s r.head r.places r.behind ]) e

-- what a redex comes to is told by the faces of its operands
pub told_by : (s : Store) (x : Redex) (f g : Face) (r : split.Redex) → IsRedex r x → IsBy s x f g r
told_by s redex.Goes f g r e = λ stand faces. ap prospect_by (e.goes s).3
told_by s (redex.Get i l) f g r e =
    let q : split.Redex = value_redex (term.Get l.now.text) (i ∷ []) in
    let is : IsBy s (redex.Get i l) f g q = λ stand faces. ap prospect_by (by_row s q stand) ∙ get_by s l.now.text (cell s i) ∙ ap (at_field l.now.text) faces in
    subst (IsBy s (redex.Get i l) f g) (sym e) is
told_by s (redex.Put i l k) f g r e =
    let q : split.Redex = value_redex (term.Put l.now.text) (i ∷ k ∷ []) in
    let is : IsBy s (redex.Put i l k) f g q = λ stand faces. ap prospect_by (by_row s q stand) ∙ put_by s l.now.text i k (cell s i) ∙ ap (at_field l.now.text) faces in
    subst (IsBy s (redex.Put i l k) f g) (sym e) is
told_by s (redex.Call i l ks) f g r e =
    let q : split.Redex = value_redex (term.Call l.now.text) (i ∷ ks.now) in
    let is : IsBy s (redex.Call i l ks) f g q = λ stand faces. ap prospect_by (by_row s q stand) ∙ call_by s l.now.text i ks.now (cell s i) ∙ ap (at_call l.now.text (length ks.now)) faces in
    subst (IsBy s (redex.Call i l ks) f g) (sym e) is
told_by s (redex.Clone i) f g r e =
    let q : split.Redex = value_redex term.Clone (i ∷ []) in
    let is : IsBy s (redex.Clone i) f g q = λ stand faces. ap prospect_by (by_row s q stand) in
    subst (IsBy s (redex.Clone i) f g) (sym e) is
told_by s (redex.Active i l) f g r e =
    let service : Option Text = option_map (λ x. x.now.text) l in
    let q : split.Redex = value_redex (term.Active service) (i ∷ []) in
    let is : IsBy s (redex.Active i l) f g q = λ stand faces. ap prospect_by (by_row s q stand) ∙ active_by i service (cell s i) ∙ ap at_object faces in
    subst (IsBy s (redex.Active i l) f g) (sym e) is
told_by s (redex.Serve ls) f g r e =
    let q : split.Redex = value_redex (term.Serve (map (λ x. x.text) ls.now)) [] in
    let is : IsBy s (redex.Serve ls) f g q = λ stand faces. refl in
    subst (IsBy s (redex.Serve ls) f g) (sym e) is
told_by s (redex.Pending ls) f g r e =
    let q : split.Redex = value_redex (term.Pending (map (λ x. x.text) ls.now)) [] in
    let is : IsBy s (redex.Pending ls) f g q = λ stand faces. refl in
    subst (IsBy s (redex.Pending ls) f g) (sym e) is
told_by s (redex.If i) f g r e =
    let q : split.Redex = record { head = term.If; places = i ∷ []; behind = more e.0 (more e.1 none) } in
    let is : IsBy s (redex.If i) f g q = λ stand faces. ap prospect_by (by_row s q stand) ∙ if_by s e.0 e.1 (cell s i) ∙ ap at_number faces in
    subst (IsBy s (redex.If i) f g) (sym e.2) is
told_by s (redex.Operate sign i k) f g r e =
    let q : split.Redex = value_redex (term.Operate (sign_shape sign)) (i ∷ k ∷ []) in
    let is : IsBy s (redex.Operate sign i k) f g q = λ stand faces. ap prospect_by (by_row s q stand) ∙ operate_by s (sign_shape sign) (cell s i) (cell s k) ∙ (λ j. at_sign (sign_shape sign) (faces.0 j) (faces.1 j)) in
    subst (IsBy s (redex.Operate sign i k) f g) (sym e) is
told_by s (redex.Print i) f g r e =
    let q : split.Redex = value_redex term.Print (i ∷ []) in
    let is : IsBy s (redex.Print i) f g q = λ stand faces. ap prospect_by (by_row s q stand) ∙ print_by s i (cell s i) ∙ ap at_number faces in
    subst (IsBy s (redex.Print i) f g) (sym e) is
told_by s (redex.Scatter i l k) f g r e =
    let q : split.Redex = value_redex (term.Scatter l.now.text) (i ∷ k ∷ []) in
    let is : IsBy s (redex.Scatter i l k) f g q = λ stand faces. ap prospect_by (by_row s q stand) ∙ scatter_by s l.now.text (cell s i) (cell s k) ∙ (λ j. at_scatter (faces.0 j) (faces.1 j)) in
    subst (IsBy s (redex.Scatter i l k) f g) (sym e) is
told_by s (redex.Size i) f g r e =
    let q : split.Redex = value_redex term.Size (i ∷ []) in
    let is : IsBy s (redex.Size i) f g q = λ stand faces. ap prospect_by (by_row s q stand) ∙ size_by s (cell s i) ∙ ap at_group faces in
    subst (IsBy s (redex.Size i) f g) (sym e) is
told_by s (redex.Member i k) f g r e =
    let q : split.Redex = value_redex term.Member (i ∷ k ∷ []) in
    let is : IsBy s (redex.Member i k) f g q = λ stand faces. ap prospect_by (by_row s q stand) ∙ member_by s (cell s i) (cell s k) ∙ (λ j. at_member (faces.0 j) (faces.1 j)) in
    subst (IsBy s (redex.Member i k) f g) (sym e) is
told_by s (redex.WaitAll i) f g r e =
    let q : split.Redex = value_redex term.WaitAll (i ∷ []) in
    let is : IsBy s (redex.WaitAll i) f g q = λ stand faces. ap prospect_by (by_row s q stand) ∙ wait_by s i (cell s i) ∙ ap at_group faces in
    subst (IsBy s (redex.WaitAll i) f g) (sym e) is
