use Rattle.std.proofs.Common.{◌∙◌, refl}
use Rattle.wf_views.specs.Views.{with_node_room, with_reach_room}
use Rattle.wf_mapping.proofs.ReserveLemmas.{alike_with, room_twice, there_still}
use Rattle.wf_mapping.proofs.reserving.reserve_view.Goals as goal

pub reserve_reach-requires : goal.reserve_reach-requires
reserve_reach-requires c = there_still c.args.views.now c.reserve_nodes.new.self c.args.generation c.args.n c.requires c.in_ok-reserve_nodes.ensures.ok

pub returns-in_err-reserve_reach-clause-alike : goal.returns-in_err-reserve_reach-clause-alike
returns-in_err-reserve_reach-clause-alike c = rw c.in_err-reserve_reach.ensures.err (alike_with (with_node_room c.args.n) (λ v. refl) c.args.views.now c.reserve_nodes.new.self c.args.generation c.in_ok-reserve_nodes.ensures.ok)

pub returns-clause-made : goal.returns-clause-made
returns-clause-made c = room_twice c.args.views.now c.reserve_nodes.new.self c.reserve_reach.new.self c.args.generation c.args.n c.in_ok-reserve_nodes.ensures.ok c.in_ok-reserve_reach.ensures.ok

pub returns-clause-alike : goal.returns-clause-alike
returns-clause-alike c =
    alike_with (with_reach_room c.args.n) (λ v. refl) c.reserve_nodes.new.self c.reserve_reach.new.self c.args.generation c.in_ok-reserve_reach.ensures.ok
    ∙ alike_with (with_node_room c.args.n) (λ v. refl) c.args.views.now c.reserve_nodes.new.self c.args.generation c.in_ok-reserve_nodes.ensures.ok
