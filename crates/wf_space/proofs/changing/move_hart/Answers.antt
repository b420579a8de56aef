use Rattle.std.proofs.Common.{refl}
use Rattle.wf_views.specs.Views.{with_resident}
use Rattle.wf_space.proofs.GiveLemmas.{view_there}
use Rattle.wf_space.proofs.changing.move_hart.Goals as goal

pub release-requires : goal.release-requires
release-requires c = view_there c.args.records.now.views c.admit.new.self c.args.new c.args.old (with_resident c.args.hart) (λ x. refl) (rw c.unwrap.ensures at c.admit.ensures.ok) c.requires.0
