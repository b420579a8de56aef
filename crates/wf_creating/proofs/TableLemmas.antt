-- The words of nodes are those of a whole page.
use Rattle.std.proofs.Common.{◌≡◌, ◌∙◌, ℕ, List, [], ◌∷◌, length, refl, inl, inr}
use Rattle.std.specs.List.{fold}
use Rattle.std.proofs.lemmas.List.{length-replicate, length-set}
use Rattle.wf_homes.proofs.ListLemmas.{true_or_false}
use Rattle.wf_mapping.specs.declared.nodes.NewNode.{NewNode}
use Rattle.wf_mapping.specs.Blanks.{blank, zeros}
use Rattle.wf_mapping.specs.Plans.{is_below, with_pointer, words_of_node}

pub zeros_many : (n : ℕ) → length (zeros n) ≡ n
unfolding zeros
zeros_many n = length-replicate n 0

pub pointer_whole : (above below : NewNode) (words : List ℕ) → length (with_pointer above words below) ≡ length words
pointer_whole above below words = elim (true_or_false (is_below above below)) [
  | inl t ↦ (rw t (length-set words _ _))
  | inr t ↦ (rw t refl)
]

pub pointers_whole : (above : NewNode) (nodes : List NewNode) (words : List ℕ) → length (fold (with_pointer above) words nodes) ≡ length words
pointers_whole above [] words = refl
pointers_whole above (below ∷ nodes) words = pointers_whole above nodes (with_pointer above words below) ∙ pointer_whole above below words

pub node_whole : (nodes : List NewNode) (above : NewNode) → length (words_of_node nodes above) ≡ 512
node_whole nodes above = pointers_whole above nodes blank ∙ zeros_many 512
