use Rattle.std.proofs.Common.{◌≡◌, ◌≤◌, ◌*◌, ◌-◌, ap, arith, length}
use Rattle.std.specs.List.{flat_map}
use Rattle.wf_views.specs.declared.plan.Change.TheVariants.{Page}
use Rattle.wf_mapping.specs.Plans.{node_marked, node_noted, page_marked}
use Rattle.wf_mapping.proofs.PlanLemmas.{noted_few, room_left}
use Rattle.wf_mapping.proofs.planning.plan_changes.Goals as goal

pub note_nodes-requires : goal.note_nodes-requires
note_nodes-requires c =
    let pages = c.args.pages.now in
    let nodes = c.args.nodes.now in
    let a : c.mark_pages.new.changes.room ≡ c.args.changes.now.room - length pages = room_left page_marked pages c.args.changes.now c.mark_pages.new.changes c.mark_pages.ensures in
    let b : c.mark_nodes.new.changes.room ≡ c.mark_pages.new.changes.room - length nodes = room_left node_marked nodes c.mark_pages.new.changes c.mark_nodes.new.changes c.mark_nodes.ensures in
    let d : c.note_pages.new.changes.room ≡ c.mark_nodes.new.changes.room - length pages = room_left Page pages c.mark_nodes.new.changes c.note_pages.new.changes c.note_pages.ensures in
    let e : c.push.new.self.room ≡ c.note_pages.new.changes.room - 1 = ap (λ l. l.room) c.push.ensures in
    let few : length (flat_map node_noted nodes) ≤ 2 * length nodes = noted_few nodes in
    omega (arith, c.requires)
