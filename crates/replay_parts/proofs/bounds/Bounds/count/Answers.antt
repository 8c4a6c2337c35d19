use Rattle.std.proofs.Common.{◌≡◌, ◌<◌, ◌≤◌, ℕ, List, length, map, slice_index_or, sym, ap, subst}
use Rattle.asp_model.specs.Names.{Name}
use Rattle.asp_model.specs.Replay.{zero_or}
use Rattle.replay_parts.specs.declared.bounds.Bounds.{Bounds}
use Rattle.replay_parts.specs.Bounds.{IsAscending, IsNumbered, count_within}
use Rattle.replay_parts.specs.Roster.{Leads}
use Rattle.replay_parts.proofs.EntryLemmas.{entry_numbered, none_numbered}
use Rattle.replay_parts.proofs.bounds.Bounds.count.Goals as goal

pub returns-in-Some : goal.returns-in-Some
returns-in-Some c = record {
  count = λ ns n roster numbered has.
      let es : List (Name × ℕ) = c.in-Listed.counts.now.entries.items in
      let order = subst IsAscending c.in-Listed.is c.requires.ascending in
      let leads : Leads (map (λ (x : Name × ℕ). x.0) es) ns = subst (λ (ms : List Name). Leads ms ns) order.2 (subst (λ b. IsNumbered b ns) c.in-Listed.is numbered) in
      let x : Name × ℕ = c.in-Some.count.now in
      let k = c.args.number in
      let within : k < length es = subst (λ (xs : List (Name × ℕ)). k < length xs) c.deref.ensures.value c.in-Some.ensures.lookup.3.0 in
      let is : x ≡ slice_index_or es k x = subst (λ (xs : List (Name × ℕ)). x ≡ slice_index_or xs k x) c.deref.ensures.value c.in-Some.ensures.lookup.1 in
      subst (λ (b : Bounds). x.1 ≡ count_within b n) (sym c.in-Listed.is) (ap zero_or (entry_numbered es ns n k x order.1 leads has within is));
}

pub returns-in-None : goal.returns-in-None
returns-in-None c = record {
  count = λ ns n roster numbered has.
      let es : List (Name × ℕ) = c.in-Listed.counts.now.entries.items in
      let order = subst IsAscending c.in-Listed.is c.requires.ascending in
      let leads : Leads (map (λ (x : Name × ℕ). x.0) es) ns = subst (λ (ms : List Name). Leads ms ns) order.2 (subst (λ b. IsNumbered b ns) c.in-Listed.is numbered) in
      let k = c.args.number in
      let past : length es ≤ k = subst (λ (xs : List (Name × ℕ)). length xs ≤ k) c.deref.ensures.value c.in-None.ensures.lookup.3 in
      subst (λ (b : Bounds). 0 ≡ count_within b n) (sym c.in-Listed.is) (ap zero_or (none_numbered es ns n k roster leads has past));
}
