use Rattle.wf_flat.proofs.ChangeLemmas.{sync_alone}
use Rattle.wf_flat.proofs.state.Flat.sync.Goals as goal

pub returns-clause-state : goal.returns-clause-state
returns-clause-state c generation page e =
    rw (c.set_met.ensures, c.leave.ensures) (sync_alone c.args.self.now c.args.hart generation page c.args.met.items c.requires.alone e)
