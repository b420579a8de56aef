use Rattle.std.proofs.Common.{◌≡◌, ◌∙◌, ℕ, List, length, ap, subst}
use Rattle.wf_start.specs.Laying.{node_words}
use Rattle.wf_space.specs.Pieces.{IsFilled}
use Rattle.wf_laying.proofs.EntryLemmas.{node_whole}
use Rattle.wf_laying.proofs.laying.lay_node.Goals as goal

pub fill_frame-requires-clause-whole : goal.fill_frame-requires-clause-whole
fill_frame-requires-clause-whole c = ap length (c.deref.ensures.value ∙ c.in_ok-entries.ensures) ∙ node_whole c.args.view.now c.args.node

pub returns : goal.returns
returns c =
    let same : c.deref.result.now ≡ node_words c.args.view.now c.args.node = c.deref.ensures.value ∙ c.in_ok-entries.ensures in
    subst (λ (page : List ℕ). IsFilled c.args.words.now c.fill_frame.new.words c.args.frame page) same c.fill_frame.ensures
