use Rattle.activity_step.proofs.state.State.quick_let.Goals as goal

pub returns : goal.returns
returns c = record {
  taken = λ k number from x t vs s ls h at is. c.taken.ensures.taken k c.let_advance.new.self t vs s ls (c.let_advance.ensures.advance k number from x t vs s ls h at is);
}
