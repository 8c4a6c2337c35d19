-- The contexts of a standing: each hole is reduced in place, and all before it are locations.
use Rattle.std.proofs.Common.{ℕ, List, [], ◌∷◌, take, reverse, sym, subst}
use Rattle.std.specs.List.{AllByRecursion}
use Rattle.asp_model.specs.Configuration.{ServiceShape}
use Rattle.asp_model.specs.Term.{Tree}
use Rattle.code_table.specs.declared.code.Node.{Node}
use Rattle.code_laws.specs.Splitting.{AreContexts}
use Rattle.step_machine.specs.declared.frames.Frame.{Frame}
use Rattle.step_machine.specs.Items.{Item, Waits, Suspends, contexts_of, services_of}
use Rattle.step_machine.specs.Stacks.{IsStack, but_last}
use Rattle.step_machine.specs.Standing.{Standing, View, taken}
use Rattle.step_machine.proofs.MoveLemmas.{are_contexts}

abbrev HaveContexts : List ServiceShape → Type 0
HaveContexts = AllByRecursion (λ s. AreContexts s.contexts)

suspended_contexts : (k : List Node) (fs : List Frame) (env operands : List ℕ) (xs : List Item) → IsStack k fs env operands xs → HaveContexts (services_of xs)
suspended_contexts k [] env operands [] h = tt
suspended_contexts k [] env operands (x ∷ xs) h = absurd h
suspended_contexts k (f ∷ fs) env operands [] h = absurd h
suspended_contexts k (f ∷ fs) env operands (Waits c ∷ xs) h = suspended_contexts k fs (take f.height env) (but_last f.done operands) xs h.2
suspended_contexts k (f ∷ fs) env operands (Suspends g ∷ xs) h =
    let below : List ℕ = take f.height env in
    (are_contexts k fs below (but_last f.done operands) xs h.2, suspended_contexts k fs below (but_last f.done operands) xs h.2)

pub holes_of : (k : List Node) (v : View) (t : Tree) (vs : List ServiceShape) (st : Standing k v t vs) → AreContexts (contexts_of st.items)
holes_of k v t vs st = are_contexts k (reverse v.frames) v.env (but_last (taken v.focus) v.operands) st.items st.stack

pub suspended_holes_of : (k : List Node) (v : View) (t : Tree) (vs : List ServiceShape) → Standing k v t vs → AllByRecursion (λ s. AreContexts s.contexts) vs
suspended_holes_of k v t vs st = subst HaveContexts (sym st.suspended) (suspended_contexts k (reverse v.frames) v.env (but_last (taken v.focus) v.operands) st.items st.stack)
