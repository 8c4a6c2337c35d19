use Rattle.replay_services.proofs.ListenerLemmas.{deaf_to_lines}
use Rattle.replay_services.proofs.listener.ListenerNotes.hears_lines.Goals as goal

pub returns : goal.returns
returns c = record { deaf = λ no. deaf_to_lines c.args.self.now }
