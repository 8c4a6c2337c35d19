use Rattle.std.proofs.Common.{◌≡◌, ◌+◌, ◌∙◌, ℕ, cond, Some, map, subst, sym}
use Rattle.std.specs.BTreeMap.{BTreeMap, get, is_at}
use Rattle.asp_model.specs.Names.{Name, name_cmp}
use Rattle.explain.specs.OrderKept.{log_entry}
use Rattle.explain.proofs.LogLemmas.{AreNoted, known_more, new_more}
use Rattle.explain.proofs.PlaceLemmas.{name_turned}
use Rattle.explain.proofs.SameLemmas.{there}
use Rattle.explain.proofs.differences.logs.numbers_in.Goals.{then-not-contains_key+in_ok-copy+in_ok-insert, else-not-contains_key}
use Rattle.explain.proofs.differences.logs.numbers_in.Goals as goal

pub loop-i-preserved : goal.loop-i-preserved
loop-i-preserved c =
    let es = c.args.lists.now in
    let lists = map log_entry es in
    let e = c.index-lists-i.result in
    let i = c.loop-i.i in
    let at = there log_entry es i e c.index-lists-i.is c.loop-i-test.true in
    elim c.if-not-contains_key.branch [
      | then-not-contains_key+in_ok-copy+in_ok-insert w ↦
          let updates = subst (λ (k : Name). (n : Name) → get name_cmp w.insert.new.self n ≡ cond (is_at (name_cmp k) n) (Some i) (get name_cmp c.loop-i.numbers n)) w.in_ok-copy.ensures.name w.in_ok-insert.ensures.updates.0 in
          subst (λ (m : BTreeMap Name ℕ). AreNoted lists m (i + 1)) (sym w.numbers-is)
          (new_more lists c.loop-i.numbers i (log_entry e) c.loop-i.invariant at (sym c.contains_key.ensures ∙ w.if-not-contains_key.true) w.insert.new.self updates (λ n. name_turned e.0 n))
      | else-not-contains_key w ↦
          subst (λ (m : BTreeMap Name ℕ). AreNoted lists m (i + 1)) (sym w.numbers-is)
          (known_more lists c.loop-i.numbers i (log_entry e) c.loop-i.invariant at (sym c.contains_key.ensures ∙ w.if-not-contains_key.false))
    ]
