use Rattle.std.proofs.Common.{subst, sym}
use Rattle.replay_parts.specs.declared.notes.Event.{Event}
use Rattle.replay_parts.specs.declared.notes.Event.TheVariants as event
use Rattle.replay_parts.specs.Listening.{IsEvent}
use Rattle.run_waits.proofs.BookLemmas.{tell_other}
use Rattle.run_waits.proofs.books.is_entered.Goals as goal

pub returns-in-Made : goal.returns-in-Made
returns-in-Made c = λ no x b h. sym (tell_other (event.Made c.in-Made.field-0) x b (λ no. no) (subst (λ (e : Event). IsEvent e x) c.in-Made.is h))

pub returns-in-Polled : goal.returns-in-Polled
returns-in-Polled c = λ no x b h. sym (tell_other event.Polled x b (λ no. no) (subst (λ (e : Event). IsEvent e x) c.in-Polled.is h))

pub returns-in-Printed : goal.returns-in-Printed
returns-in-Printed c = λ no x b h. sym (tell_other (event.Printed c.in-Printed.field-0) x b (λ no. no) (subst (λ (e : Event). IsEvent e x) c.in-Printed.is h))

pub returns-in-Standing : goal.returns-in-Standing
returns-in-Standing c = λ no x b h. sym (tell_other (event.Standing c.in-Standing.field-0) x b (λ no. no) (subst (λ (e : Event). IsEvent e x) c.in-Standing.is h))

pub returns-in-Faulted : goal.returns-in-Faulted
returns-in-Faulted c = λ no x b h. sym (tell_other (event.Faulted c.in-Faulted.field-0) x b (λ no. no) (subst (λ (e : Event). IsEvent e x) c.in-Faulted.is h))
