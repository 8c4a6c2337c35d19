-- Fields and methods of objects by their labels.
use Rattle.std.proofs.Common.{◌≡◌, ◌||◌, ℕ, zero, suc, Bool, true, false, List, [], ◌∷◌, Option, Some, None, length, map, drop, get_or, nat_lt, refl, sym, ap, ◌∙◌, arith}
use Rattle.std.specs.Prelude.{is_some, slice_get}
use Rattle.std.specs.Option.{option_map}
use Rattle.std.proofs.lemmas.Bool.Decides.{nat_tests}
use Rattle.asp_model.specs.Names.{Text, same_text}
use Rattle.asp_model.specs.Term.{MethodHead, has_text}
use Rattle.asp_model.specs.Store.{Field, MethodShape}
use Rattle.asp_model.specs.Contraction.{field_place, fields_at, method_at}
use Rattle.code_table.specs.declared.class.Class.{Class}
use Rattle.code_table.specs.declared.code.MethodCode.{MethodCode}
use Rattle.code_table.specs.declared.code.Node.{Node}
use Rattle.code_table.specs.Classes.{field_number, method_number}
use Rattle.code_table.specs.Sound.{StartFrom}
use Rattle.code_table.specs.Tables.{head_of, labels_of, pieces, seen_methods}
use Rattle.code_table.proofs.LookupLemmas as lookup
use Rattle.code_table.specs.Shapes.{class_object}
use Rattle.step_reads.specs.Faces.{face, field_labels, head_at, method_heads}

-- Fields

found_step : (b : Bool) (n : ℕ) (o : Option ℕ) (c : Bool) → c ≡ is_some o → b || c ≡ is_some (elim b [ true ↦ Some n | false ↦ o ])
found_step true n o c e = refl
found_step false n o c e = e

-- a label is among those of fields where it has a place
pub labelled : (l : Text) (fs : List Field) → has_text l (map (λ (x : Field). x.label) fs) ≡ is_some (field_place l fs)
labelled l [] = refl
labelled l (f ∷ fs) = found_step (same_text l f.label) f.place (field_place l fs) (has_text l (map (λ (x : Field). x.label) fs)) (labelled l fs)

got : (ns : List ℕ) (i : ℕ) → is_some (slice_get ns i) ≡ nat_lt i (length ns)
got [] i = grind (arith, nat_tests)
got (n ∷ ns) zero = grind (arith, nat_tests)
got (n ∷ ns) (suc i) = let less : is_some (slice_get ns i) ≡ nat_lt i (length ns) = got ns i in grind (arith, nat_tests, less)

module _ (k : List Node) (ns : List ℕ) (o : Option Class) (x : Class) (is : o ≡ Some x) (l : Text) where
  pub has_no_field : field_number l x ≡ None → false ≡ has_text l (field_labels (face (class_object k ns o)))
  has_no_field none =
      sym (ap (λ (c : Option Class). has_text l (field_labels (face (class_object k ns c)))) is
      ∙ labelled l (fields_at (labels_of x) ns) ∙ ap is_some (lookup.field_missing l x ns none))

  pub has_field_at : (i : ℕ) → field_number l x ≡ Some i → nat_lt i (length ns) ≡ has_text l (field_labels (face (class_object k ns o)))
  has_field_at i e =
      sym (ap (λ (c : Option Class). has_text l (field_labels (face (class_object k ns c)))) is
      ∙ labelled l (fields_at (labels_of x) ns) ∙ ap is_some (lookup.field_by_number l x ns ∙ ap (lookup.place_at ns) e) ∙ got ns i)

-- Methods

head_step : (b : Bool) (m : MethodShape) (o : Option MethodShape) (p : Option MethodHead) → p ≡ option_map (λ x. x.head) o → elim b [ true ↦ Some m.head | false ↦ p ] ≡ option_map (λ x. x.head) (elim b [ true ↦ Some m | false ↦ o ])
head_step true m o p e = refl
head_step false m o p e = e

-- the head of the method with a label
pub head_at_map : (l : Text) (ms : List MethodShape) → head_at l (map (λ (m : MethodShape). m.head) ms) ≡ option_map (λ x. x.head) (method_at l ms)
head_at_map l [] = refl
head_at_map l (m ∷ ms) = head_step (same_text l m.head.label) m (method_at l ms) (head_at l (map (λ (m : MethodShape). m.head) ms)) (head_at_map l ms)

module _ (k : List Node) (ns : List ℕ) (o : Option Class) (x : Class) (is : o ≡ Some x) (l : Text) where
  heads_at : head_at l (method_heads (face (class_object k ns o))) ≡ option_map (λ y. y.head) (method_at l (seen_methods (pieces k) x.methods.items (drop (length x.fields.items) ns)))
  heads_at =
      ap (λ (c : Option Class). head_at l (method_heads (face (class_object k ns c)))) is
      ∙ head_at_map l (seen_methods (pieces k) x.methods.items (drop (length x.fields.items) ns))

  pub no_head : method_number l x ≡ None → head_at l (method_heads (face (class_object k ns o))) ≡ None
  no_head none = heads_at ∙ ap (option_map (λ y. y.head)) (lookup.method_missing l (pieces k) x (drop (length x.fields.items) ns) none)

  pub head_is : (i : ℕ) (m : MethodCode) → method_number l x ≡ Some i → StartFrom (length x.fields.items) x.methods.items → m ≡ get_or x.methods.items i m
      → head_at l (method_heads (face (class_object k ns o))) ≡ Some (head_of m)
  head_is i m e starts at =
      heads_at ∙ ap (option_map (λ y. y.head)) (lookup.method_found l (pieces k) x m ns i starts e)
      ∙ ap (λ (y : MethodCode). Some (head_of y)) (sym at)
