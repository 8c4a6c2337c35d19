use Rattle.activity_step.proofs.state.State.quick_make.Goals as goal

pub returns : goal.returns
returns c = record {
  taken = λ k from n t vs s ls h at class is. c.taken.ensures.taken k c.make_advance.new.self t vs s ls (c.make_advance.ensures.advance k from n t vs s ls h at class is);
}
