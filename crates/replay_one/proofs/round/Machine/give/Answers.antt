use Rattle.std.proofs.Common.{◌≡◌, ◌∙◌, true, Some, None, OnOk, List, refl, ap, slice_get, sym, subst}
use Rattle.asp_model.specs.Names.{Name}
use Rattle.asp_model.specs.Shapes.{future_shape}
use Rattle.asp_model.specs.declared.word.Label.{Label}
use Rattle.code_table.specs.Cells.{held_future}
use Rattle.code_table.specs.declared.future.Future.{Future}
use Rattle.request_queue.specs.Requests.{request_shape}
use Rattle.asp_model.specs.Configuration.{Configuration}
use Rattle.asp_model.specs.Step.{with_effect}
use Rattle.def_journals.specs.Journals.{number_of}
use Rattle.step_activity.specs.declared.act.Given.TheVariants as given
use Rattle.law_schedules.specs.Schedules.{IsNextIn}
use Rattle.replay_population.specs.declared.population.Population.{Population}
use Rattle.replay_one.specs.declared.schedule.Schedule.{Schedule}
use Rattle.replay_parts.specs.Bounds.{lists_within}
use Rattle.replay_population.specs.Population.{AreActorsOf, IsPopulation, with_activity, with_poll, with_request}
use Rattle.replay_population.specs.Giving.{IsGiving}
use Rattle.replay_parts.specs.Roster.{IsEntered}
use Rattle.replay_one.specs.Schedule.{IsMoreReady, Seen, asks_in, noted_in, ready_in, seen, sends_in}
use Rattle.replay_parts.proofs.RosterLemmas.{number_within}
use Rattle.replay_one.proofs.ScheduleLemmas.{handed_by, more_names, more_twice}
use Rattle.replay_one.proofs.GiveLemmas.{filled_handed, made_handed, no_target, nothing_handed, polled_handed, sent_handed, target_number}
use Rattle.replay_population.proofs.GivingLemmas.{filled_is, filled_new, filled_root, made_alone, made_given, made_population, made_unlogged, nothing_population, polled_is, polled_there, sent_is, sent_there}
use Rattle.replay_parts.proofs.ResultLemmas.{any_way, on_ok}
use Rattle.replay_one.proofs.round.Machine.give.Goals as goal

pub returns-in-Nothing : goal.returns-in-Nothing
returns-in-Nothing c =
    let p : Population = c.args.self.now.population in
    let s : Seen = seen p.roster c.args.self.now.schedule in
    record {
      population = λ k e n has h. nothing_population p n k e (subst (λ g. IsGiving p n g k e) c.in-Nothing.is h);
      handed_on = λ k e n has h. nothing_handed p n k e (lists_within c.args.bounds.now) s (subst (λ g. IsGiving p n g k e) c.in-Nothing.is h);
      leads = λ j m h. h;
      passed = λ m j h. h;
      ordered = refl;
    }

pub wake-requires : goal.wake-requires
wake-requires c =
    let q : Population = c.insert.new.self in
    let entered : IsEntered c.in-Made.made c.in_ok-made-in-Made.made c.args.self.now.population.roster q.roster = c.in_ok-made-in-Made.ensures.number in
    record { known = number_within q.roster c.in-Made.made c.in_ok-made-in-Made.made entered.number }

pub returns-in_ok-made-in-Made : goal.returns-in_ok-made-in-Made
returns-in_ok-made-in-Made c =
    let p : Population = c.args.self.now.population in
    let q : Population = c.insert.new.self in
    let m : Name = c.in-Made.made in
    let x = c.in-Made.actor in
    let s : Schedule = c.args.self.now.schedule in
    let t : Schedule = c.wake.new.self in
    let entered : IsEntered m c.in_ok-made-in-Made.made p.roster q.roster = c.in_ok-made-in-Made.ensures.number in
    record {
      population = λ k e n has h.
          let g : IsGiving p n (given.Made m x) k e = subst (λ g. IsGiving p n g k e) c.in-Made.is h in
          let b = made_given p n k e m x g in
          any_way c.wake.result _ (made_population p n k e q m x g (c.in_ok-made-in-Made.ensures.made (with_activity n e.own k) b.0 g.here.population (made_alone p n k e m x g) (made_unlogged p n k e m x g) b.2 b.3 g.here.coded));
      handed_on = λ k e n has h.
          let g : IsGiving p n (given.Made m x) k e = subst (λ g. IsGiving p n g k e) c.in-Made.is h in
          handed_by c.wake.result (IsMoreReady (seen q.roster s) None (seen q.roster t)) (λ (m : Name). number_of m q.roster ≡ Some c.in_ok-made-in-Made.made) (λ m. ready_in (seen q.roster t) m ≡ true) _
          (λ more woken. made_handed p n k e (lists_within c.args.bounds.now) (seen p.roster s) (seen q.roster t) m x g (more_twice (seen p.roster s) (seen q.roster s) (seen q.roster t) (more_names p.roster q.roster s entered.before) more) (woken m entered.number))
          c.wake.ensures.more c.wake.ensures.ready;
      leads = any_way c.wake.result _ entered.leads;
      passed = any_way c.wake.result _ c.in_ok-made-in-Made.ensures.passed;
      ordered = c.wake.ensures.ordered;
    }

pub unreachable-requires : goal.unreachable-requires
unreachable-requires c = no_target c.args.self.now.population c.args.number c.args.target c.args.given c.in-Sent._name c.in-Sent.request c.requires.giving c.in-Sent.is c.in_default.is

pub wake_server-requires : goal.wake_server-requires
wake_server-requires c = record { known = number_within c.args.self.now.population.roster c.in-Sent._name c.in-Some.to (target_number c.args.self.now.population c.args.number c.args.target c.args.given c.in-Sent._name c.in-Sent.request c.requires.giving c.in-Sent.is c.in-Some.to c.in-Some.is) }

pub wake_next-requires-clause-known : goal.wake_next-requires-clause-known
wake_next-requires-clause-known c = number_within c.send.new.self.roster c.in-Sent._name c.in-Some.to (ap (number_of c.in-Sent._name) c.in_ok-send-in-Sent.ensures.roster ∙ target_number c.args.self.now.population c.args.number c.args.target c.args.given c.in-Sent._name c.in-Sent.request c.requires.giving c.in-Sent.is c.in-Some.to c.in-Some.is)

pub wake_next-requires-in-Polled-clause-known : goal.wake_next-requires-in-Polled-clause-known
wake_next-requires-in-Polled-clause-known c = let r = c.requires.giving in number_within c.args.self.now.population.roster r.0 c.args.number r.1

pub returns-in_ok-send-in-Sent : goal.returns-in_ok-send-in-Sent
returns-in_ok-send-in-Sent c =
    let p : Population = c.args.self.now.population in
    let q : Population = c.send.new.self in
    let name : Name = c.in-Sent._name in
    let to = c.in-Some.to in
    let target : number_of name p.roster ≡ Some to = target_number c.args.self.now.population c.args.number c.args.target c.args.given c.in-Sent._name c.in-Sent.request c.requires.giving c.in-Sent.is c.in-Some.to c.in-Some.is in
    let r = c.in-Sent.request in
    let lists = lists_within c.args.bounds.now in
    let roster : q.roster ≡ p.roster = c.in_ok-send-in-Sent.ensures.roster in
    let now : number_of name q.roster ≡ Some to = ap (number_of name) roster ∙ target in
    let s : Seen = seen p.roster c.args.self.now.schedule in
    let u : Seen = seen p.roster c.wake_server.new.self in
    let v : Seen = seen q.roster c.wake_server.new.self in
    let t : Seen = seen q.roster c.wake_next.new.schedule in
    let same : v ≡ u = ap (λ (ns : List Name). seen ns c.wake_server.new.self) roster in
    record {
      population = λ k e n has h.
          let g : IsGiving p n (given.Sent name r) k e = subst (λ g. IsGiving p n g k e) c.in-Sent.is h in
          any_way c.wake_next.result _ (subst (IsPopulation q) (sent_is p n k e name r g) (c.in_ok-send-in-Sent.ensures.received (with_activity n e.own k) name g.here.population target (sent_there p n k e name r g)));
      handed_on = λ k e n has h.
          let g : IsGiving p n (given.Sent name r) k e = subst (λ g. IsGiving p n g k e) c.in-Sent.is h in
          let d : Configuration = with_request name (request_shape r) (with_activity n e.own k) in
          let there = sent_there p n k e name r g in
          let population : IsPopulation q d = c.in_ok-send-in-Sent.ensures.received (with_activity n e.own k) name g.here.population target there in
          let next : (m : Name) → IsNextIn lists (with_effect n e k) name m → sends_in v m name ≡ true → OnOk c.wake_next.result (ready_in t m ≡ true) =
          λ m i. c.wake_next.ensures.next d name m population now there (subst (λ c'. IsNextIn lists c' name m) (sym (sent_is p n k e name r g)) i) in
          handed_by c.wake_next.result (IsMoreReady v None t) (λ m. IsNextIn lists (with_effect n e k) name m × (sends_in v m name ≡ true)) (λ m. ready_in t m ≡ true) _
          (λ more woken. sent_handed p n k e lists s v t name r g (subst (IsMoreReady s None) (sym same) c.in_ok-wake_server-in-Sent.ensures.more) (λ a. subst (λ (w : Seen). ready_in w name ≡ true) (sym same) (c.in_ok-wake_server-in-Sent.ensures.ready name target (subst (λ (l : Label). asks_in s name l.text ≡ true) (sym c.as_label.ensures.label) a))) more (λ m i a. woken m (i, a)))
          c.wake_next.ensures.more (λ m x. next m x.0 x.1);
      leads = any_way c.wake_next.result _ (λ j m h. ap (λ (ns : List Name). slice_get ns j) roster ∙ h);
      passed = any_way c.wake_next.result _ c.in_ok-send-in-Sent.ensures.passed;
      ordered = on_ok c.wake_next.result _ _ (λ e. e ∙ c.in_ok-wake_server-in-Sent.ensures.ordered) c.wake_next.ensures.ordered;
    }

pub send-requires : goal.send-requires
send-requires c =
    let p : Population = c.args.self.now.population in
    let r = c.requires.giving in
    let g : IsGiving p r.0 (given.Sent c.in-Sent._name c.in-Sent.request) r.2 r.3 = subst (λ g. IsGiving p r.0 g r.2 r.3) c.in-Sent.is r.4 in
    record { code = subst (λ k. AreActorsOf k p) (sym g.here.coded) g.here.population.actors; known = (c.in-Sent._name, target_number c.args.self.now.population c.args.number c.args.target c.args.given c.in-Sent._name c.in-Sent.request c.requires.giving c.in-Sent.is c.in-Some.to c.in-Some.is) }

pub fill-requires : goal.fill-requires
fill-requires c =
    let p : Population = c.args.self.now.population in
    let r = c.requires.giving in
    let f = c.in-Filled.future in
    let v = c.in-Filled.value in
    let g : IsGiving p r.0 (given.Filled f v) r.2 r.3 = subst (λ g. IsGiving p r.0 g r.2 r.3) c.in-Filled.is r.4 in
    record { absent = filled_new p r.0 r.2 r.3 f v g; one_root = filled_root p r.0 r.2 r.3 f v g }

pub returns-in_ok-wake_noted-in-Filled : goal.returns-in_ok-wake_noted-in-Filled
returns-in_ok-wake_noted-in-Filled c =
    let p : Population = c.args.self.now.population in
    let q : Population = c.fill.new.self in
    let f = c.in-Filled.future in
    let v = c.in-Filled.value in
    let s : Seen = seen p.roster c.args.self.now.schedule in
    let now : Seen = seen p.roster c.wake_noted.new.self in
    let more : IsMoreReady s (Some (held_future f)) now = subst (λ (x : Future). IsMoreReady s (Some (future_shape x.name)) now) c.deref.ensures c.in_ok-wake_noted-in-Filled.ensures.more in
    let woken : (m : Name) → noted_in s (held_future f) m ≡ true → ready_in now m ≡ true = subst (λ (x : Future). (m : Name) → noted_in s (future_shape x.name) m ≡ true → ready_in now m ≡ true) c.deref.ensures c.in_ok-wake_noted-in-Filled.ensures.ready in
    record {
      population = λ k e n has h.
          let g : IsGiving p n (given.Filled f v) k e = subst (λ g. IsGiving p n g k e) c.in-Filled.is h in
          on_ok c.fill.result _ _ (subst (IsPopulation q) (filled_is p n k e f v g)) (c.fill.ensures.filled (with_activity n e.own k) g.here.population g.here.coded);
      handed_on = λ k e n has h. on_ok c.fill.result _ _ (λ (roster : q.roster ≡ p.roster).
          let then : Seen = seen q.roster c.wake_noted.new.self in
          let same : then ≡ now = ap (λ (ns : List Name). seen ns c.wake_noted.new.self) roster in
          filled_handed p n k e (lists_within c.args.bounds.now) s then f v (subst (λ g. IsGiving p n g k e) c.in-Filled.is h) (subst (IsMoreReady s (Some (held_future f))) (sym same) more) (λ m a. subst (λ (w : Seen). ready_in w m ≡ true) (sym same) (woken m a))) c.fill.ensures.roster;
      leads = on_ok c.fill.result _ _ (λ (roster : q.roster ≡ p.roster) j m h. ap (λ (ns : List Name). slice_get ns j) roster ∙ h) c.fill.ensures.roster;
      passed = c.fill.ensures.passed;
      ordered = any_way c.fill.result _ c.in_ok-wake_noted-in-Filled.ensures.ordered;
    }

pub returns-in-Polled : goal.returns-in-Polled
returns-in-Polled c =
    let p : Population = c.args.self.now.population in
    let lists = lists_within c.args.bounds.now in
    let s : Seen = seen p.roster c.args.self.now.schedule in
    let t : Seen = seen p.roster c.wake_next-in-Polled.new.schedule in
    record {
      population = λ k e n has h.
          let g : IsGiving p n given.Polled k e = subst (λ g. IsGiving p n g k e) c.in-Polled.is h in
          any_way c.wake_next-in-Polled.result _ (subst (IsPopulation p) (polled_is p n k e g) g.here.population);
      handed_on = λ k e n has h.
          let g : IsGiving p n given.Polled k e = subst (λ g. IsGiving p n g k e) c.in-Polled.is h in
          let d : Configuration = with_poll n given.Polled (with_activity n e.own k) in
          let there = polled_there p n k e g in
          let next : (m : Name) → IsNextIn lists (with_effect n e k) n m → sends_in s m n ≡ true → OnOk c.wake_next-in-Polled.result (ready_in t m ≡ true) =
          λ m i. c.wake_next-in-Polled.ensures.next d n m g.here.population has there (subst (λ c'. IsNextIn lists c' n m) (sym (polled_is p n k e g)) i) in
          handed_by c.wake_next-in-Polled.result (IsMoreReady s None t) (λ m. IsNextIn lists (with_effect n e k) n m × (sends_in s m n ≡ true)) (λ m. ready_in t m ≡ true) _
          (λ more woken. polled_handed p n k e lists s t g more (λ m i a. woken m (i, a)))
          c.wake_next-in-Polled.ensures.more (λ m x. next m x.0 x.1);
      leads = any_way c.wake_next-in-Polled.result _ (λ j m h. h);
      passed = any_way c.wake_next-in-Polled.result _ (λ m j h. h);
      ordered = c.wake_next-in-Polled.ensures.ordered;
    }
