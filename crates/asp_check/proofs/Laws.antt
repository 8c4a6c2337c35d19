-- What the nodes of a term have, by what the terms below have.
use Rattle.std.proofs.Common.{◌≡◌, ℕ, suc, ◌+◌, ◌<◌, List, [], ◌∷◌, ◌++◌, Option, refl, ap, sym, ◌∙◌, map, drop, get_or, length, append_assoc}
use Rattle.std.specs.declared.vec.Vec.{Vec}
use Rattle.std.specs.declared.boxed.Box.{Box}
use Rattle.std.specs.declared.alloc.Global.{Global}
use Rattle.std.proofs.lemmas.List.{at_drop_more}
use Rattle.asp_model.specs.declared.term.Term.{Term}
use Rattle.asp_model.specs.declared.term.Method.{Method}
use Rattle.asp_model.specs.declared.term.Mark.{Mark}
use Rattle.asp_model.specs.declared.word.Label.{Label}
use Rattle.asp_model.specs.declared.term.Term.TheVariants.{Make, Call, Active, rolls-Make, rolls-Call, rolls-Active}
use Rattle.asp_model.specs.declared.term.Term.TheOpen as open_term
use Rattle.asp_model.specs.declared.term.Term.TheFolds.{the_lemmas, fold-roll-Term}
use Rattle.asp_model.specs.Names.{Text}
use Rattle.asp_model.specs.Marked.{Marked, MarkedList, no_marked, and_marked, all_marked}
use Rattle.asp_model.specs.Shapes.{MarkedMethod, marked_of, mark_shape, make_shape, field_of, method_of, term_step, method_step}
use Rattle.asp_check.specs.declared.fault.CheckFault.{CheckFault}
use Rattle.asp_check.specs.declared.fault.CheckKind.TheVariants.{Arity}
use Rattle.asp_check.specs.Placed.{place_or, later, behind}
use Rattle.asp_check.specs.Least.{least_of}
use Rattle.asp_check.specs.NameFaults.{NameSet, with_names, object_faults, name_faults, name_faults_below}
use Rattle.asp_check.specs.ArityFaults.{LabelArity, label_arity, service_arities, marked_count, method_arities, arities_in, arities_among}
use Rattle.asp_check.specs.Walk.{service_text, field_label, field_term, head_of, body_of, names_of}
use Rattle.asp_check.proofs.Joined.{least_of_joined}
use Rattle.asp_check.proofs.Methods.{method_head, method_body}

pub append-nil : {X : Type 0} (xs : List X) → xs ++ [] ≡ xs
append-nil [] = refl
append-nil (x ∷ xs) = ap (λ ys. x ∷ ys) (append-nil xs)

map_map : {A B C : Type 0} (f : A → B) (g : B → C) (h : A → C) → ((x : A) → g (f x) ≡ h x) → (xs : List A) → map g (map f xs) ≡ map h xs
map_map f g h e [] = refl
map_map f g h e (x ∷ xs) = λ i. e x i ∷ map_map f g h e xs i

pub marked_count_all : (ts : List Term) → marked_count (all_marked (map marked_of ts)) ≡ length ts
marked_count_all [] = refl
marked_count_all (t ∷ ts) = ap suc (marked_count_all ts)

make_is : (fs : Vec (Label × Term) Global) (ms : Vec Method Global) (m : Mark) → marked_of (Make fs ms m) ≡ make_shape (mark_shape m) (map field_of fs.items) (map method_of ms.items)
make_is fs ms m = ap marked_of (sym (rolls-Make fs ms m)) ∙ fold-roll-Term Marked MarkedMethod term_step method_step (open_term.Make fs ms m) ∙ ap (λ xs. make_shape (mark_shape m) xs (map method_of ms.items)) (map_map _ (λ f. (f.0.text, f.1)) field_of (λ x. refl) fs.items)

among_fields : (fs : List (Text × Marked)) (own : List (List LabelArity)) (us : List Marked) → arities_among (map (λ l. []) (map (λ f. f.0) fs) ++ own) (all_marked (map (λ f. f.1) fs ++ us)) ≡ arities_among [] (all_marked (map (λ f. f.1) fs)) ++ arities_among own (all_marked us)
among_fields [] own us = refl
among_fields (f ∷ fs) own us = ap (λ xs. arities_in f.1 ++ xs) (among_fields fs own us) ∙ sym (append_assoc (arities_in f.1) (arities_among [] (all_marked (map (λ f. f.1) fs))) (arities_among own (all_marked us)))

faults_fields : (bound : NameSet) (fs : List (Text × Marked)) (names : List (List Text)) (us : List Marked) → name_faults_below bound (map (λ l. []) (map (λ f. f.0) fs) ++ names) (all_marked (map (λ f. f.1) fs ++ us)) ≡ name_faults_below bound [] (all_marked (map (λ f. f.1) fs)) ++ name_faults_below bound names (all_marked us)
faults_fields bound [] names us = refl
faults_fields bound (f ∷ fs) names us = ap (λ xs. name_faults bound f.1 ++ xs) (faults_fields bound fs names us) ∙ sym (append_assoc (name_faults bound f.1) (name_faults_below bound [] (all_marked (map (λ f. f.1) fs))) (name_faults_below bound names (all_marked us)))

module _ (fs : Vec (Label × Term) Global) (ms : Vec Method Global) (m : Mark) where
  labels : map (λ f. f.0) (map field_of fs.items) ≡ map field_label fs.items
  labels = map_map field_of (λ f. f.0) field_label (λ x. refl) fs.items

  terms : map (λ f. f.1) (map field_of fs.items) ≡ map field_term fs.items
  terms = map_map field_of (λ f. f.1) field_term (λ x. refl) fs.items

  heads : map (λ x. x.head) (map method_of ms.items) ≡ map head_of ms.items
  heads = map_map method_of (λ x. x.head) head_of method_head ms.items

  bodies : map (λ x. x.body) (map method_of ms.items) ≡ map body_of ms.items
  bodies = map_map method_of (λ x. x.body) body_of method_body ms.items

  pub arities_make : arities_in (marked_of (Make fs ms m)) ≡ arities_among [] (all_marked (map field_term fs.items)) ++ arities_among (method_arities m.at (map head_of ms.items) (behind (map field_label fs.items) m.names.items)) (all_marked (map body_of ms.items))
  arities_make = ap arities_in (make_is fs ms m) ∙ among_fields (map field_of fs.items) _ _ ∙ (λ i. arities_among [] (all_marked (terms i)) ++ arities_among (method_arities m.at (heads i) (behind (labels i) m.names.items)) (all_marked (bodies i)))

  pub faults_make : (bound : NameSet) → name_faults bound (marked_of (Make fs ms m)) ≡ object_faults m.at (map field_label fs.items) (map head_of ms.items) m.names.items ++ (name_faults_below bound [] (all_marked (map field_term fs.items)) ++ name_faults_below bound (map names_of ms.items) (all_marked (map body_of ms.items)))
  faults_make bound = ap (name_faults bound) (make_is fs ms m)
      ∙ ap (λ xs. object_faults m.at (map (λ f. f.0) (map field_of fs.items)) (map (λ x. x.head) (map method_of ms.items)) m.names.items ++ xs) (faults_fields bound (map field_of fs.items) _ _)
      ∙ (λ i. object_faults m.at (labels i) (heads i) m.names.items ++ (name_faults_below bound [] (all_marked (terms i)) ++ name_faults_below bound (map (λ h. h.slf ∷ h.parameters) (heads i)) (all_marked (bodies i))))
      ∙ ap (λ xs. object_faults m.at (map field_label fs.items) (map head_of ms.items) m.names.items ++ (name_faults_below bound [] (all_marked (map field_term fs.items)) ++ name_faults_below bound xs (all_marked (map body_of ms.items)))) (map_map head_of (λ h. h.slf ∷ h.parameters) names_of (λ x. refl) ms.items)

among_call : (x : LabelArity) (us : MarkedList) → arities_among ((x ∷ []) ∷ []) us ≡ x ∷ arities_among [] us
among_call x no_marked = refl
among_call x (and_marked t us) = refl

pub arities_call : (a : Box Term Global) (l : Label) (ts : Vec Term Global) (m : Mark) → arities_in (marked_of (Call a l ts m)) ≡ arities_in (marked_of a.value) ++ (label_arity Arity l.text (length ts.items) (place_or m.at m.names.items) ∷ arities_among [] (all_marked (map marked_of ts.items)))
arities_call a l ts m = ap (λ t. arities_in (marked_of t)) (sym (rolls-Call a l ts m)) ∙ ap arities_in (fold-roll-Term Marked MarkedMethod term_step method_step (open_term.Call a l ts m))
    ∙ ap (λ xs. arities_in (marked_of a.value) ++ xs) (among_call _ (all_marked (map marked_of ts.items)))
    ∙ ap (λ n. arities_in (marked_of a.value) ++ (label_arity Arity l.text n (place_or m.at m.names.items) ∷ arities_among [] (all_marked (map marked_of ts.items)))) (marked_count_all ts.items)

pub arities_active : (a : Box Term Global) (l : Option Label) (m : Mark) → arities_in (marked_of (Active a l m)) ≡ arities_in (marked_of a.value) ++ service_arities (service_text l) (place_or m.at m.names.items)
arities_active a l m = ap (λ t. arities_in (marked_of t)) (sym (rolls-Active a l m)) ∙ ap arities_in (fold-roll-Term Marked MarkedMethod term_step method_step (open_term.Active a l m))
    ∙ ap (λ xs. arities_in (marked_of a.value) ++ xs) (append-nil (service_arities (service_text l) (place_or m.at m.names.items)))

-- a loop's steps over terms of a node
module _ {X : Type 0} (f : X → Marked) (xs : List X) (i : ℕ) (x : X) (h : i < length xs) (e : x ≡ get_or xs i x) where
  pub arities_more : (own : List LabelArity) → (own ++ arities_in (f x)) ++ arities_among [] (all_marked (map f (drop (i + 1) xs))) ≡ own ++ arities_among [] (all_marked (map f (drop i xs)))
  arities_more own = append_assoc own (arities_in (f x)) (arities_among [] (all_marked (map f (drop (i + 1) xs))))
      ∙ ap (λ y. own ++ arities_among [] (all_marked (map f (y ∷ drop (i + 1) xs)))) e
      ∙ sym (at_drop_more (λ ys. own ++ arities_among [] (all_marked (map f ys))) xs i x h)

  pub name_faults_more : (bound : NameSet) (o : Option CheckFault) → least_of (least_of o (name_faults bound (f x))) (name_faults_below bound [] (all_marked (map f (drop (i + 1) xs)))) ≡ least_of o (name_faults_below bound [] (all_marked (map f (drop i xs))))
  name_faults_more bound o = sym (least_of_joined o (name_faults bound (f x)) (name_faults_below bound [] (all_marked (map f (drop (i + 1) xs)))))
      ∙ ap (λ y. least_of o (name_faults_below bound [] (all_marked (map f (y ∷ drop (i + 1) xs))))) e
      ∙ sym (at_drop_more (λ ys. least_of o (name_faults_below bound [] (all_marked (map f ys)))) xs i x h)

-- a loop's steps over methods
module _ (ms : List Method) (i : ℕ) (m : Method) (h : i < length ms) (e : m ≡ get_or ms i m) where
  pub method_arities_more : (own : List LabelArity) (at : ℕ) (ps : List ℕ) → ((own ++ label_arity Arity m.label.text (length m.parameters.items) (place_or at ps) ∷ []) ++ arities_in (body_of m)) ++ arities_among (method_arities at (map head_of (drop (i + 1) ms)) (behind (names_of m) (later ps))) (all_marked (map body_of (drop (i + 1) ms))) ≡ own ++ arities_among (method_arities at (map head_of (drop i ms)) ps) (all_marked (map body_of (drop i ms)))
  method_arities_more own at ps = append_assoc (own ++ label_arity Arity m.label.text (length m.parameters.items) (place_or at ps) ∷ []) (arities_in (body_of m)) _
      ∙ append_assoc own (label_arity Arity m.label.text (length m.parameters.items) (place_or at ps) ∷ []) _
      ∙ ap (λ y. own ++ arities_among (method_arities at (map head_of (y ∷ drop (i + 1) ms)) ps) (all_marked (map body_of (y ∷ drop (i + 1) ms)))) e
      ∙ sym (at_drop_more (λ ys. own ++ arities_among (method_arities at (map head_of ys) ps) (all_marked (map body_of ys))) ms i m h)

  pub body_faults_more : (bound : NameSet) (o : Option CheckFault) → least_of (least_of o (name_faults (with_names (names_of m) bound) (body_of m))) (name_faults_below bound (map names_of (drop (i + 1) ms)) (all_marked (map body_of (drop (i + 1) ms)))) ≡ least_of o (name_faults_below bound (map names_of (drop i ms)) (all_marked (map body_of (drop i ms))))
  body_faults_more bound o = sym (least_of_joined o (name_faults (with_names (names_of m) bound) (body_of m)) (name_faults_below bound (map names_of (drop (i + 1) ms)) (all_marked (map body_of (drop (i + 1) ms)))))
      ∙ ap (λ y. least_of o (name_faults_below bound (map names_of (y ∷ drop (i + 1) ms)) (all_marked (map body_of (y ∷ drop (i + 1) ms))))) e
      ∙ sym (at_drop_more (λ ys. least_of o (name_faults_below bound (map names_of ys) (all_marked (map body_of ys)))) ms i m h)

pub ruleset walk_laws = (append-nil, append_assoc, least_of_joined, arities_call, arities_active, arities_make, faults_make, the_lemmas)
