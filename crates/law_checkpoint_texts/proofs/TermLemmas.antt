-- What stands in terms: texts, operators, and the terms below a node.
use Rattle.std.proofs.Common.{◌≡◌, ◌^◌, List, [], ◌∷◌, ◌++◌, Some, refl, sym, ◌∙◌, append_assoc, arith}
use Rattle.asp_model.specs.Names.{Text}
use Rattle.asp_model.specs.Readable.{HasArity}
use Rattle.asp_model.specs.Term.{SignShape, Add, Subtract, Multiply, Divide, Remainder, Less, Equal, MethodHead, Tree, Trees, node, none, more, child_count}
use Rattle.checkpoint_text.specs.Items.{Items, number_items, list_items, text_items, option_items, pair_items, term_items}
use Rattle.checkpoint_text.specs.Reading.{Reader, nothing, both, list_of, text, option_of, place, sign, method_with}
use Rattle.checkpoint_text.specs.Writable.{AreAll, AllBelow}
use Rattle.checkpoint_text.proofs.TermLemmas.{sign_items}
use Rattle.checkpoint_text.proofs.ObjectLemmas.{field_by, method_by, zipped, behind}
use Rattle.law_checkpoint_texts.proofs.SureLemmas.{IsSureOf, IsAny, both_sure, reads_sure, number_sure, list_sure, any_list_sure, at_variant, nothing_sure, any_option_sure}

-- Texts and numbers

pub text_sure : IsSureOf text text_items (λ t. IsAny t)
text_sure = any_list_sure (number_sure (2 ^ 8) (omega arith))

pub texts_sure : IsSureOf (list_of text) (list_items text_items) (λ ts. IsAny ts)
texts_sure = any_list_sure text_sure

pub optional_text_sure : IsSureOf (option_of text) (option_items text_items) (λ o. IsAny o)
optional_text_sure = any_option_sure text_sure

pub place_sure : IsSureOf place number_items (λ n. IsAny n)
place_sure = number_sure (2 ^ 64) (omega arith)

-- Operators

abbrev signs : List (Reader SignShape)
signs =
    nothing Add ∷ nothing Subtract ∷ nothing Multiply ∷ nothing Divide ∷ nothing Remainder ∷ nothing Less ∷ nothing
    Equal ∷ []

one_sign : (s : SignShape) (ws : Items) (r : SignShape × Items) → sign (sign_items s ++ ws) ≡ Some r → r ≡ (s, ws)
one_sign Add ws r e = nothing_sure Add ws r (at_variant 0 signs [] ws r (omega arith) e)
one_sign Subtract ws r e = nothing_sure Subtract ws r (at_variant 1 signs [] ws r (omega arith) e)
one_sign Multiply ws r e = nothing_sure Multiply ws r (at_variant 2 signs [] ws r (omega arith) e)
one_sign Divide ws r e = nothing_sure Divide ws r (at_variant 3 signs [] ws r (omega arith) e)
one_sign Remainder ws r e = nothing_sure Remainder ws r (at_variant 4 signs [] ws r (omega arith) e)
one_sign Less ws r e = nothing_sure Less ws r (at_variant 5 signs [] ws r (omega arith) e)
one_sign Equal ws r e = nothing_sure Equal ws r (at_variant 6 signs [] ws r (omega arith) e)

pub sign_sure : IsSureOf sign sign_items (λ s. IsAny s)
sign_sure = record { sure = λ s ws r h e. one_sign s ws r e }

-- Terms whose nodes have what they ask for

abbrev mutual
  pub HasArities : Tree → Type 0
  HasArities (node h ts) = HasArity h (child_count ts) × HaveArities ts

  pub HaveArities : Trees → Type 0
  HaveArities none = Unit {0}
  HaveArities (more t ts) = HasArities t × HaveArities ts

pub arities_below : (ts : Trees) → HaveArities ts → AllBelow HasArities ts
arities_below none h = tt
arities_below (more t ts) h = (h.0, arities_below ts h.1)

-- each with the term that stands below for it
pub zip_arities : {K : Type 0} (ks : List K) (ts : Trees) → AllBelow HasArities ts
    → AreAll (λ z. IsAny z.0 × HasArities z.1) (zipped ks ts)
zip_arities [] ts a = tt
zip_arities (k ∷ ks) none a = tt
zip_arities (k ∷ ks) (more t ts) a = ((tt, a.0), zip_arities ks ts a.1)

pub behind_arities : {K : Type 0} (ks : List K) (ts : Trees) → AllBelow HasArities ts
    → AllBelow HasArities (behind ks ts)
behind_arities [] ts a = a
behind_arities (k ∷ ks) none a = tt
behind_arities (k ∷ ks) (more t ts) a = behind_arities ks ts a.1

-- Fields and methods

bracketed : (a b c d : Items) → a ++ (b ++ (c ++ d)) ≡ ((a ++ b) ++ c) ++ d
bracketed a b c d = sym (append_assoc (a ++ b) c d ∙ append_assoc a b (c ++ d))

module _ (p : Reader Tree) (s : IsSureOf p term_items HasArities) where
  abbrev in_order : MethodHead × Tree → Text × (Text × (List Text × Tree))
  in_order x = (x.0.label, (x.0.slf, (x.0.parameters, x.1)))

  pub method_sure : IsSureOf (method_with p) method_by (λ x. IsAny x.0 × HasArities x.1)
  method_sure = reads_sure (both text (both text (both (list_of text) p)))
      (pair_items text_items (pair_items text_items (pair_items (list_items text_items) term_items)))
      (λ r. IsAny r.0 × (IsAny r.1.0 × (IsAny r.1.1.0 × HasArities r.1.1.1)))
      (λ r. (record { label = r.0; slf = r.1.0; parameters = r.1.1.0 }, r.1.1.1))
      in_order method_by (λ x. IsAny x.0 × HasArities x.1)
      (both_sure text_sure (both_sure text_sure (both_sure texts_sure s)))
      (λ x h. (tt, (tt, (tt, h.1)))) (λ x h. refl)
      (λ x. bracketed (text_items x.0.label) (text_items x.0.slf) (list_items text_items x.0.parameters)
      (term_items x.1))

  pub object_sure : IsSureOf (both (list_of (both text p)) (list_of (method_with p)))
      (pair_items (list_items field_by) (list_items method_by))
      (λ r. AreAll (λ z. IsAny z.0 × HasArities z.1) r.0 × AreAll (λ z. IsAny z.0 × HasArities z.1) r.1)
  object_sure = both_sure (list_sure (both_sure text_sure s)) (list_sure method_sure)
