use Rattle.std.proofs.Common.{◌∙◌, subst}
use Rattle.std.proofs.lemmas.Result.{on_ok_weaker}
use Rattle.replay_parts.specs.Listening.{IsEvent}
use Rattle.replay_parts.specs.declared.notes.Event.{Event}
use Rattle.replay_parts.specs.declared.notes.Event.TheVariants as event
use Rattle.run_waits.specs.Books.{book_of}
use Rattle.run_waits.proofs.BookLemmas.{tell_answered, tell_other, tell_sent, tell_served}
use Rattle.run_waits.proofs.book.Book.tell.Goals as goal

pub returns-in-Sent : goal.returns-in-Sent
returns-in-Sent c = λ x h. on_ok_weaker c.receive.result
    (λ r. r ∙ tell_sent c.in-Sent.field-0 c.in-Sent.label c.in-Sent.future x (book_of c.args.self.now) (subst (λ (e : Event). IsEvent e x) c.in-Sent.is h))
    c.receive.ensures

pub returns-in-Served : goal.returns-in-Served
returns-in-Served c = λ x h. on_ok_weaker c.serve.result
    (λ r. r ∙ tell_served c.in-Served.wanted x (book_of c.args.self.now) (subst (λ (e : Event). IsEvent e x) c.in-Served.is h))
    c.serve.ensures

pub returns-in-Answered : goal.returns-in-Answered
returns-in-Answered c = λ x h. c.answer.ensures ∙ tell_answered c.in-Answered.field-0 x (book_of c.args.self.now) (subst (λ (e : Event). IsEvent e x) c.in-Answered.is h)

pub returns-in-Made : goal.returns-in-Made
returns-in-Made c = λ x h. tell_other (event.Made c.in-Made.field-0) x (book_of c.args.self.now) (λ no. no) (subst (λ (e : Event). IsEvent e x) c.in-Made.is h)

pub returns-in-Polled : goal.returns-in-Polled
returns-in-Polled c = λ x h. tell_other event.Polled x (book_of c.args.self.now) (λ no. no) (subst (λ (e : Event). IsEvent e x) c.in-Polled.is h)

pub returns-in-Printed : goal.returns-in-Printed
returns-in-Printed c = λ x h. tell_other (event.Printed c.in-Printed.field-0) x (book_of c.args.self.now) (λ no. no) (subst (λ (e : Event). IsEvent e x) c.in-Printed.is h)

pub returns-in-Standing : goal.returns-in-Standing
returns-in-Standing c = λ x h. tell_other (event.Standing c.in-Standing.field-0) x (book_of c.args.self.now) (λ no. no) (subst (λ (e : Event). IsEvent e x) c.in-Standing.is h)

pub returns-in-Faulted : goal.returns-in-Faulted
returns-in-Faulted c = λ x h. tell_other (event.Faulted c.in-Faulted.field-0) x (book_of c.args.self.now) (λ no. no) (subst (λ (e : Event). IsEvent e x) c.in-Faulted.is h)
