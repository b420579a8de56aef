use Rattle.std.proofs.Common.{◌≡◌, List, sym, ap, ◌∙◌}
use Rattle.wf_views.specs.Views.{view_of}
use Rattle.wf_homes.proofs.FoundLemmas.{at_some}
use Rattle.wf_views.specs.declared.view.TextAt.{TextAt}
use Rattle.wf_space.specs.Changes.{HasOwnFrames, all_given, node_frames, text_frames}
use Rattle.wf_space.proofs.GiveLemmas.{give_back, give_front}
use Rattle.wf_space.proofs.changing.remove_view.Goals as goal

pub give_text-requires : goal.give_text-requires
give_text-requires c =
    let own = at_some (view_of c.args.records.now.views c.args.generation) (HasOwnFrames c.args.records.now.frames) c.in-Some.view (sym c.in-Some.ensures.value) c.requires in
    let front = give_front c.args.records.now.frames (text_frames c.in-Some.view.text) (node_frames c.in-Some.view.nodes.items) own in
    let e : c.deref.result.now ≡ c.in-Some.view.text = cc in
    rw e front

pub give_nodes-requires : goal.give_nodes-requires
give_nodes-requires c =
    let own = at_some (view_of c.args.records.now.views c.args.generation) (HasOwnFrames c.args.records.now.frames) c.in-Some.view (sym c.in-Some.ensures.value) c.requires in
    let back = give_back c.args.records.now.frames (text_frames c.in-Some.view.text) (node_frames c.in-Some.view.nodes.items) own in
    let texts : c.deref.result.now ≡ c.in-Some.view.text = cc in
    let nodes : c.as_slice.result.now ≡ c.in-Some.view.nodes.items = cc in
    let given : c.give_text.new.frames ≡ all_given c.args.records.now.frames (text_frames c.in-Some.view.text) = c.give_text.ensures ∙ ap (λ (text : List TextAt). all_given c.args.records.now.frames (text_frames text)) texts in
    rw (given, nodes) back
