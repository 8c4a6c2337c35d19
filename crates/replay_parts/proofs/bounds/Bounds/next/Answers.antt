use Rattle.std.proofs.Common.{◌≡◌, ◌∙◌, ◌<◌, ◌≤◌, List, Some, None, length, map, slice_index_or, sym, ap, subst}
use Rattle.std.specs.FinMap.{find}
use Rattle.std.specs.Global.{Vec}
use Rattle.asp_model.specs.declared.outcome.Reception.{Reception}
use Rattle.asp_model.specs.Configuration.{ReceptionShape}
use Rattle.asp_model.specs.Names.{Name, name_cmp}
use Rattle.asp_model.specs.Shapes.{reception_shape}
use Rattle.asp_model.specs.Step.{reception_at}
use Rattle.replay_parts.specs.declared.bounds.Bounds.{Bounds}
use Rattle.replay_parts.specs.declared.bounds.Next.TheVariants as next
use Rattle.replay_parts.specs.Bounds.{IsAscending, IsNextAmong, IsNextAt, IsNumbered, lists_within}
use Rattle.replay_parts.specs.Roster.{Leads}
use Rattle.replay_parts.proofs.EntryLemmas.{entry_numbered, log_found, no_log, none_numbered}
use Rattle.replay_parts.proofs.bounds.Bounds.next.Goals as goal

pub returns-in-Some : goal.returns-in-Some
returns-in-Some c = record {
  next = λ ns n roster numbered has.
      let es : List (Name × Vec Reception) = c.in-Listed.lists.now.entries.items in
      let order = subst IsAscending c.in-Listed.is c.requires.ascending in
      let leads : Leads (map (λ (x : Name × Vec Reception). x.0) es) ns = subst (λ b. IsNumbered b ns) c.in-Listed.is numbered in
      let x : Name × Vec Reception = c.in-Some.list.now in
      let k = c.args.to in
      let within : k < length es = subst (λ (xs : List (Name × Vec Reception)). k < length xs) c.deref.ensures.value c.in-Some.ensures.lookup.3.0 in
      let is : x ≡ slice_index_or es k x = subst (λ (xs : List (Name × Vec Reception)). x ≡ slice_index_or xs k x) c.deref.ensures.value c.in-Some.ensures.lookup.1 in
      let here : Some x.1 ≡ find name_cmp n es = entry_numbered es ns n k x order.0 leads has within is in
      let same = ap (λ (xs : List Reception). map reception_shape xs) c.deref-in-Some.ensures.value ∙ sym (log_found es n x.1 here) in
      let next = subst (λ (xs : List ReceptionShape). IsNextAmong xs c.args.place c.next_among.result) same c.next_among.ensures.next in
      subst (λ (b : Bounds). IsNextAt (lists_within b) n c.args.place c.next_among.result) (sym c.in-Listed.is) next;
}

pub returns-in-None : goal.returns-in-None
returns-in-None c = record {
  next = λ ns n roster numbered has.
      let es : List (Name × Vec Reception) = c.in-Listed.lists.now.entries.items in
      let leads : Leads (map (λ (x : Name × Vec Reception). x.0) es) ns = subst (λ b. IsNumbered b ns) c.in-Listed.is numbered in
      let k = c.args.to in
      let past : length es ≤ k = subst (λ (xs : List (Name × Vec Reception)). length xs ≤ k) c.deref.ensures.value c.in-None.ensures.lookup.3 in
      let here : None ≡ find name_cmp n es = none_numbered es ns n k roster leads has past in
      subst (λ (b : Bounds). IsNextAt (lists_within b) n c.args.place next.Nothing) (sym c.in-Listed.is) (ap (λ (xs : List ReceptionShape). reception_at xs c.args.place) (no_log es n here));
}
