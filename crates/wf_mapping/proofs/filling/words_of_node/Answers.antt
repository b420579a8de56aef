use Rattle.std.proofs.Common.{◌≡◌, ◌∙◌, length, ap, ℕ, List}
use Rattle.std.proofs.lemmas.List.{length-replicate}
use Rattle.wf_mapping.specs.Blanks.{zeros}
use Rattle.wf_mapping.proofs.filling.words_of_node.Goals as goal

zeros_length : (n : ℕ) → length (zeros n) ≡ n
unfolding zeros
zeros_length n = length-replicate n 0

pub put_pointers-requires : goal.put_pointers-requires
put_pointers-requires c = ap (λ (words : List ℕ). length words) c.take-words.ensures.page ∙ zeros_length 512
