use Rattle.std.proofs.Common.{◌≡◌, ◌<◌, ◌≤◌, ◌+◌, ◌∙◌, List, length, refl, sym, ap, subst}
use Rattle.std.specs.Prelude.{slice_get}
use Rattle.std.proofs.lemmas.Option.{slice_get-get_or}
use Rattle.wf_views.specs.declared.view.NodeAt.{NodeAt}
use Rattle.wf_views.specs.Views.{ViewValue}
use Rattle.wf_start.specs.Laying.{node_words}
use Rattle.wf_laying.proofs.LayLemmas.{all_laid, next_so_far, none_so_far}
use Rattle.wf_laying.proofs.laying.lay_nodes.Goals as goal

abbrev none : NodeAt
none = record { level = 0; prefix = 0; frame = 0 }

pub loop-i-init : goal.loop-i-init
loop-i-init c = none_so_far (node_words c.args.view.now) c.args.words.now c.args.first c.args.view.now.nodes.items

pub loop-i-preserved : goal.loop-i-preserved
loop-i-preserved c =
    let same : c.as_slice-node-items.result.now ≡ c.args.view.now.nodes.items = c.as_slice-node-items.ensures ∙ ap (λ (v : ViewValue). v.nodes.items) c.view.view_is in
    next_so_far (node_words c.args.view.now) c.args.words.now c.loop-i.words c.lay_node.new.words c.args.first (c.args.first + c.loop-i.i) c.loop-i.i (c.loop-i.i + 1) c.args.view.now.nodes.items _ _ c.loop-i.invariant refl refl
    (subst (λ (ns : List NodeAt). c.loop-i.i < length ns) same c.loop-i-test.true) c.requires.few
    (ap (λ (ns : List NodeAt). slice_get ns c.loop-i.i) (sym same) ∙ slice_get-get_or c.as_slice-node-items.result.now c.loop-i.i none c.loop-i-test.true) refl c.in_ok-lay_node.ensures

pub returns : goal.returns
returns c =
    all_laid (node_words c.args.view.now) c.args.words.now c.loop-i.words c.args.first c.args.view.now.nodes.items c.loop-i.i c.loop-i.invariant
    (subst (λ (ns : List NodeAt). length ns ≤ c.loop-i.i) (c.as_slice-node-items.ensures ∙ ap (λ (v : ViewValue). v.nodes.items) c.view.view_is) c.loop-i-test.false)
