-- The value that a holder of a future has seen, and the one that the table has.
use Rattle.std.proofs.Common.{◌≡◌, Bool, T, true, false, List, [], ◌∷◌, Option, Some, None, cond, sym, ap, subst, ◌∙◌}
use Rattle.std.specs.Prelude.{◌↔◌, IsSome}
use Rattle.std.specs.Arc.{arc_value}
use Rattle.std.specs.FinMap.{find}
use Rattle.std.specs.Option.{option_map}
use Rattle.std.specs.Ordering.{is_eq}
use Rattle.asp_model.specs.declared.name.FutureName.{FutureName}
use Rattle.asp_model.specs.Shapes.{future_shape}
use Rattle.code_table.specs.declared.cells.Parcel.{Parcel}
use Rattle.code_table.specs.declared.code.Node.{Node}
use Rattle.code_table.specs.Answers.{AnswerView}
use Rattle.code_table.specs.Shapes.{parcel_shape, store_of}
use Rattle.code_table.specs.Shown.{answer_items}
use Rattle.law_chases.proofs.FutureLemmas.{no_some, some_is}
use Rattle.future_table.specs.Confirmed.{HasSeen, IsSeen, cells_of}
use Rattle.future_table.specs.Values.{AreOfCode, by_name, values_of}
use Rattle.future_table.proofs.TableLemmas.{found_shape}

of_code : (k : List Node) (f : FutureName) (es : List (FutureName × Parcel)) (q : Parcel)
    → AreOfCode k es → find by_name f es ≡ Some q → arc_value q.code ≡ k
of_code k f [] q h e = no_some e
of_code k f (x ∷ es) q h e = by (is_eq (by_name f x.0)) (of_code k f es q h.1) e
  where
    by : (b : Bool) → (find by_name f es ≡ Some q → arc_value q.code ≡ k)
        → cond b (Some x.1) (find by_name f es) ≡ Some q → arc_value q.code ≡ k
    by true later g = ap (λ (p : Parcel). arc_value p.code) (sym (some_is g)) ∙ h.0
    by false later g = later g

module _ (f : FutureName) (es : List (FutureName × Parcel)) (q : Parcel) (found : find by_name f es ≡ Some q) where
  cells_found : cells_of f es ≡ Some q.cells.items
  cells_found = ap (option_map (λ (p : Parcel). p.cells.items)) found

  pub confirmed : (o : Option AnswerView) (b : Bool) → IsSome o → ((b ≡ true) ↔ IsSeen q.cells.items o)
      → ((b ≡ true) ↔ (cells_of f es ≡ option_map answer_items o))
  confirmed None b some same = absurd (subst T (sym some) tt)
  confirmed (Some a) b some same =
      (λ e. cells_found ∙ ap Some (sym (same.0 e)), λ e. same.1 (sym (some_is (sym cells_found ∙ e))))

  pub confirmed_value : (k : List Node) (o : Option AnswerView) → AreOfCode k es → IsSeen q.cells.items o
      → HasSeen k (future_shape f) (values_of es) o
  confirmed_value k None of seen = absurd seen
  confirmed_value k (Some a) of seen =
      let code = of_code k f es q of found in
      (parcel_shape q, sym (found_shape f es) ∙ ap (option_map parcel_shape) found, λ i. store_of (code i) (sym seen i))

-- nothing is confirmed where the future has no value
pub unconfirmed : (f : FutureName) (es : List (FutureName × Parcel)) (o : Option AnswerView) → find by_name f es ≡ None
    → IsSome o → ((false ≡ true) ↔ (cells_of f es ≡ option_map answer_items o))
unconfirmed f es None none some = absurd (subst T (sym some) tt)
unconfirmed f es (Some a) none some =
    (λ h. absurd (subst T (sym h) tt), λ h. no_some (sym (ap (option_map (λ (p : Parcel). p.cells.items)) none) ∙ h))
