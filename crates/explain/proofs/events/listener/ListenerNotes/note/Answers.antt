use Rattle.std.proofs.Common.{◌≡◌, ◌∷◌, ◌++◌, [], Some, None, ap, sym, subst, refl, ◌∙◌, option_map}
use Rattle.std.specs.Option.{option_copied}
use Rattle.std.proofs.lemmas.List.{append-nil}
use Rattle.std.proofs.lemmas.Result.{on_ok_weaker}
use Rattle.explain.specs.declared.events.event.RunEvent.{RunEvent}
use Rattle.explain.specs.declared.events.listener.Listener.{Listener}
use Rattle.run_waits.specs.Books.{or_blank}
use Rattle.explain.specs.Events.{event_by, events_in}
use Rattle.explain.specs.EventsHeard.{IsPage, event_shape, what_shape}
use Rattle.explain.proofs.HeardLemmas.{heard_note, ok_both, tells_if, tells_more}
use Rattle.explain.proofs.events.listener.ListenerNotes.note.Goals as goal

pub returns-in_ok-by-in-Some : goal.returns-in_ok-by-in-Some
returns-in_ok-by-in-Some c = record {
  told = λ xs x tells n.
      let new : Listener = record { alloc = c.args.self.now.alloc; page = c.add.new.self; books = c.tell.new.self } in
      let shown : RunEvent = record { by = c.in_ok-by-in-Some.by; count = c.args.note.count; at = c.args.note.at; what = c.in-Some.what } in
      let w = what_shape c.in-Some.what in
      let same = ap (option_map what_shape) (sym c.in-Some.is) ∙ c.in_ok-what.ensures in
      let e : event_shape shown ≡ event_by x w = λ i. record { by = (c.in_ok-by-in-Some.ensures.name ∙ n.by) i; count = n.count i; what = w } in
      tells_if c.add.result c.args.self.now new x xs tells (λ y zs h.
      on_ok_weaker c.add.result (λ both. heard_note c.args.self.now new c.args.note x n y zs h (c.in_ok-tell.ensures x n) (or_blank (option_copied c.book.result)) c.book.ensures.book (Some w) same
      both.0 (subst (λ v. IsPage c.add.new.self (events_in zs ++ v ∷ [])) e both.1))
      (ok_both _ _ c.add.result c.add.ensures.wish (c.add.ensures.page (events_in zs) h.page)));
}

pub returns-in-None : goal.returns-in-None
returns-in-None c = record {
  told = λ xs x tells n.
      let new : Listener = record { alloc = c.args.self.now.alloc; page = c.args.self.now.page; books = c.tell.new.self } in
      let same = ap (option_map what_shape) (sym c.in-None.is) ∙ c.in_ok-what.ensures in
      tells_more c.args.self.now new x xs tells (λ y zs h.
      heard_note c.args.self.now new c.args.note x n y zs h (c.in_ok-tell.ensures x n) (or_blank (option_copied c.book.result)) c.book.ensures.book None same
      refl (subst (IsPage c.args.self.now.page) (sym (append-nil (events_in zs))) h.page));
}
