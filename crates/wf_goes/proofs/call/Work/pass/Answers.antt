use Rattle.wf_goes.proofs.NextLemmas.{passed}
use Rattle.wf_goes.proofs.call.Work.pass.Goals as goal

pub returns-then-self-len : goal.returns-then-self-len
returns-then-self-len c = passed c.self.inside.done c.self.inside.todo.items c.args.self.now c.self.view_is
