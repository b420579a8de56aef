use Rattle.std.proofs.Common.{◌∙◌, List, ℕ, ap, length}
use Rattle.wf_creating.proofs.TableLemmas.{node_whole}
use Rattle.wf_creating.proofs.filling.words_at_birth.Goals as goal

pub put_leaves-requires : goal.put_leaves-requires
put_leaves-requires c = ap (λ (words : List ℕ). length words) c.words_of_node-words.ensures.words ∙ node_whole c.args.nodes.now c.args.new
