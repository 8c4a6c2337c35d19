use Rattle.std.proofs.Common.{◌≡◌, ◌∙◌, List, ℕ, ap, subst, sym}
use Rattle.std.specs.List.{flat_map}
use Rattle.asp_model.specs.Term.{locations_below}
use Rattle.code_table.specs.declared.class.Class.{Class}
use Rattle.code_table.specs.declared.code.Kind.{Kind}
use Rattle.code_table.specs.declared.code.MethodCode.{MethodCode}
use Rattle.code_table.specs.Sound.{KindSound, MethodsSound}
use Rattle.path_equal.specs.Held.{body_held, methods_behind}
use Rattle.path_equal.specs.Searches.{searched}
use Rattle.path_equal.proofs.HeldLemmas.{bodies_found}
use Rattle.path_equal.proofs.code.past_kind.Goals as goal

pub returns-in-Make : goal.returns-in-Make
returns-in-Make c = record {
  searched = λ ps s.
      let ns = c.args.places.now in
      let ms : List MethodCode = c.in-Make.class.value.methods.items in
      let start = c.args.search in
      let methods : c.deref-in-Make.result.now ≡ ms = c.deref-in-Make.ensures.value ∙ ap (λ (k : Class). k.methods.items) c.deref.ensures in
      c.past_methods.ensures.searched ps (subst (MethodsSound ps) (sym methods) (subst (KindSound ps) c.in-Make.is s).0)
      ∙ ap (λ (xs : List MethodCode). searched (flat_map (body_held ns ps) xs) start) methods
      ∙ ap (λ (xs : List ℕ). searched xs start) (bodies_found ns ps ms)
      ∙ sym (ap (λ (k : Kind). searched (locations_below (methods_behind ns ps k)) start) c.in-Make.is);
}
