-- The redex of the definition that is told.
use Rattle.std.specs.Prelude.{◌≡◌, List, [], ◌∷◌, map}
use Rattle.std.specs.Option.{option_map}
use Rattle.asp_model.specs.Term as term
use Rattle.asp_model.specs.Term.{Tree, none, more}
use Rattle.asp_model.specs.Split as split
use Rattle.asp_model.specs.Store.{Store}
use Rattle.asp_model.specs.Contraction.{LineShape, Becomes, contract, strict_operands, strict_members}
use Rattle.asp_model.specs.Shapes.{sign_shape}
use Rattle.step_rows.specs.declared.redex.Redex.{Redex}
use Rattle.step_rows.specs.declared.redex.Redex.TheVariants as redex
use Rattle.step_rows.specs.Decisions.{value_redex}

-- it reads no operand, and contracts over every store
pub record IsFree (r : split.Redex) : Type 0 where
  pub operands : strict_operands r.head r.places ≡ []
  pub members : (s : Store) → strict_members s r.head r.places ≡ []
  pub goes : (s : Store) → (t : Tree) × (u : Store) × (added : List LineShape) × (contract s r ≡ Becomes t u added)

abbrev pub IsRedex : split.Redex → Redex → Type 0
IsRedex r redex.Goes = IsFree r
IsRedex r (redex.Get i l) = r ≡ value_redex (term.Get l.now.text) (i ∷ [])
IsRedex r (redex.Put i l k) = r ≡ value_redex (term.Put l.now.text) (i ∷ k ∷ [])
IsRedex r (redex.Call i l ks) = r ≡ value_redex (term.Call l.now.text) (i ∷ ks.now)
IsRedex r (redex.Clone i) = r ≡ value_redex term.Clone (i ∷ [])
IsRedex r (redex.Active i l) = r ≡ value_redex (term.Active (option_map (λ x. x.now.text) l)) (i ∷ [])
IsRedex r (redex.Serve ls) = r ≡ value_redex (term.Serve (map (λ x. x.text) ls.now)) []
IsRedex r (redex.If i) = (a b : Tree) × (r ≡ record { head = term.If; places = i ∷ []; behind = more a (more b none) })
IsRedex r (redex.Operate sign i k) = r ≡ value_redex (term.Operate (sign_shape sign)) (i ∷ k ∷ [])
IsRedex r (redex.Print i) = r ≡ value_redex term.Print (i ∷ [])
IsRedex r (redex.Scatter i l k) = r ≡ value_redex (term.Scatter l.now.text) (i ∷ k ∷ [])
IsRedex r (redex.Size i) = r ≡ value_redex term.Size (i ∷ [])
IsRedex r (redex.Member i k) = r ≡ value_redex term.Member (i ∷ k ∷ [])
IsRedex r (redex.WaitAll i) = r ≡ value_redex term.WaitAll (i ∷ [])
IsRedex r (redex.Pending ls) = r ≡ value_redex (term.Pending (map (λ x. x.text) ls.now)) []
