use Rattle.std.proofs.Common.{◌≡◌, ◌∙◌, ℕ, List, ap, drop, length}
use Rattle.wf_mapping.specs.Layout.{free_in}
use Rattle.wf_mapping.specs.Nodes.{nodes_placed}
use Rattle.wf_creating.specs.Layout.{texts_placed}
use Rattle.wf_patching.specs.Layout.{shared_placed}
use Rattle.wf_patching.proofs.PlacedLemmas.{lacked_placed, own_placed, pages_placed_first, taken, text_placed}
use Rattle.wf_patching.proofs.layout.place_patch.Goals as goal

pub returns-clause-text : goal.returns-clause-text
returns-clause-text c =
    let free : List ℕ = free_in c.args.records.now in
    c.in_ok-placed.ensures.text ∙ ap (texts_placed c.args.numbers.now) (c.deref.ensures.value ∙ c.in_ok-frames.ensures) ∙ text_placed c.args.numbers.now c.args.shared.now c.args.lacked.now c.args.own.now free

pub returns-clause-shared : goal.returns-clause-shared
returns-clause-shared c =
    let free : List ℕ = free_in c.args.records.now in
    c.in_ok-placed.ensures.shared ∙ ap (λ (fs : List ℕ). shared_placed c.args.shared.now (drop (length c.args.numbers.now) fs)) (c.deref.ensures.value ∙ c.in_ok-frames.ensures)
    ∙ pages_placed_first c.args.numbers.now c.args.shared.now c.args.lacked.now c.args.own.now free

pub returns-clause-nodes : goal.returns-clause-nodes
returns-clause-nodes c =
    let free : List ℕ = free_in c.args.records.now in
    let behind : c.other_frames-behind_shared.result.now ≡ drop (length c.args.shared.now) (drop (length c.args.numbers.now) (taken c.args.numbers.now c.args.shared.now c.args.lacked.now c.args.own.now free)) =
    c.other_frames-behind_shared.ensures ∙ ap (drop (length c.args.shared.now)) (c.other_frames-behind_text.ensures ∙ ap (drop (length c.args.numbers.now)) (c.deref-2.ensures.value ∙ c.in_ok-frames.ensures)) in
    c.in_ok-tables.ensures.nodes ∙ ap (nodes_placed c.args.lacked.now) behind ∙ lacked_placed c.args.numbers.now c.args.shared.now c.args.lacked.now c.args.own.now free

pub returns-clause-table : goal.returns-clause-table
returns-clause-table c =
    let free : List ℕ = free_in c.args.records.now in
    let behind : c.other_frames-behind_shared.result.now ≡ drop (length c.args.shared.now) (drop (length c.args.numbers.now) (taken c.args.numbers.now c.args.shared.now c.args.lacked.now c.args.own.now free)) =
    c.other_frames-behind_shared.ensures ∙ ap (drop (length c.args.shared.now)) (c.other_frames-behind_text.ensures ∙ ap (drop (length c.args.numbers.now)) (c.deref-2.ensures.value ∙ c.in_ok-frames.ensures)) in
    c.in_ok-tables.ensures.table ∙ ap (λ (fs : List ℕ). nodes_placed c.args.own.now (drop (length c.args.lacked.now) fs)) behind ∙ own_placed c.args.numbers.now c.args.shared.now c.args.lacked.now c.args.own.now free
