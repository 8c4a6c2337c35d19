use Rattle.std.proofs.Common.{◌≡◌, ◌<◌, ◌+◌, ◌∙◌, ◌++◌, ◌∷◌, [], Some, None, List, drop, sym, ap, subst}
use Rattle.std.proofs.lemmas.List.{drop_more}
use Rattle.asp_model.specs.Configuration.{RequestShape}
use Rattle.request_queue.specs.Places.{Places, placed}
use Rattle.request_queue.specs.Requests.{lent_shapes, shapes_of}
use Rattle.request_queue.proofs.ShapeLemmas.{lent_more, shapes_placed}
use Rattle.request_queue.proofs.arrivals.put_behind.Goals.{in-Some+in_ok-push, in_default}
use Rattle.request_queue.proofs.arrivals.put_behind.Goals as goal

pub loop-at-preserved : goal.loop-at-preserved
loop-at-preserved c =
    let ps : Places = c.args.places.now.items in
    let i = c.loop-at.at in
    let rest : Places = drop (i + 1) ps in
    let old = c.loop-at.pending.items in
    let lt = subst (λ n. i < n) (c.len-at-end.ensures ∙ c.args.places.now.ok.0) c.loop-at-test.true in
    let here : drop i ps ≡ c.index.result.now ∷ rest = drop_more ps i c.index.result.now lt ∙ ap (λ x. x ∷ rest) (sym c.index.ensures) in
    elim c.match-index.branch [
      | in-Some+in_ok-push w ↦
          let b = w.in-Some.request in
          let shown : drop i ps ≡ Some b ∷ rest = here ∙ ap (λ x. x ∷ rest) w.in-Some.is in
          ap (λ v. lent_shapes v.items ++ shapes_of (placed 0 rest)) w.pending-is
          ∙ ap (λ xs. lent_shapes xs ++ shapes_of (placed 0 rest)) w.in_ok-push.ensures.items
          ∙ ap (λ (rs : List RequestShape). lent_shapes (old ++ w.deref.result ∷ []) ++ rs) (shapes_placed 0 1 rest)
          ∙ lent_more old w.deref.result (0, b.value) (placed 1 rest) w.deref.ensures
          ∙ ap (λ (xs : Places). lent_shapes old ++ shapes_of (placed 0 xs)) (sym shown)
          ∙ c.loop-at.invariant
      | in_default w ↦
          let shown : drop i ps ≡ None ∷ rest = here ∙ ap (λ x. x ∷ rest) w.in_default.is in
          ap (λ v. lent_shapes v.items ++ shapes_of (placed 0 rest)) w.pending-is
          ∙ ap (λ (rs : List RequestShape). lent_shapes old ++ rs) (shapes_placed 0 1 rest)
          ∙ ap (λ (xs : Places). lent_shapes old ++ shapes_of (placed 0 xs)) (sym shown)
          ∙ c.loop-at.invariant
    ]
