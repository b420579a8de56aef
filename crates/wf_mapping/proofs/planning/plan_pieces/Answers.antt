use Rattle.std.proofs.Common.{◌≡◌, ◌≤◌, ◌-◌, arith, length}
use Rattle.std.specs.List.{flat_map}
use Rattle.wf_mapping.specs.Plans.{node_filled, page_filled, page_live, pointer_stored}
use Rattle.wf_mapping.proofs.PlanLemmas.{room_left, stored_few}
use Rattle.wf_mapping.proofs.planning.plan_pieces.Goals as goal

pub store_pointers-requires : goal.store_pointers-requires
store_pointers-requires c =
    let pages = c.args.pages.now in
    let nodes = c.args.nodes.now in
    let a : c.fill_pages.new.pieces.room ≡ c.args.pieces.now.room - length pages = room_left page_filled pages c.args.pieces.now c.fill_pages.new.pieces c.fill_pages.ensures.pieces in
    let b : c.fill_nodes.new.pieces.room ≡ c.fill_pages.new.pieces.room - length nodes = room_left (node_filled nodes) nodes c.fill_pages.new.pieces c.fill_nodes.new.pieces c.fill_nodes.ensures.pieces in
    let d : c.make_pages_live.new.pieces.room ≡ c.fill_nodes.new.pieces.room - length pages = room_left page_live pages c.fill_nodes.new.pieces c.make_pages_live.new.pieces c.make_pages_live.ensures in
    let few : length (flat_map (pointer_stored c.args.records.now) nodes) ≤ length nodes = stored_few c.args.records.now nodes in
    omega (arith, c.requires.room)
