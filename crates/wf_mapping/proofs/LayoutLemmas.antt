-- Frames that are divided between pages and nodes.
use Rattle.std.proofs.Common.{◌≡◌, ◌+◌, ℕ, zero, suc, List, [], ◌∷◌, drop, length, take, refl, ap, ◌∙◌, arith}
use Rattle.std.proofs.lemmas.List.{drop-take}
use Rattle.wf_mapping.specs.declared.nodes.MissingNode.{MissingNode}
use Rattle.wf_mapping.specs.declared.nodes.NewNode.{NewNode}
use Rattle.wf_mapping.specs.Nodes.{node_placed, nodes_placed}

pub take_less : (n m : ℕ) (xs : List ℕ) → take n (take (n + m) xs) ≡ take n xs
take_less zero m xs = refl
take_less (suc n) m [] = (let e : suc n + m ≡ suc (n + m) = omega arith in rw e refl)
take_less (suc n) m (x ∷ xs) = (let e : suc n + m ≡ suc (n + m) = omega arith in rw e (ap (λ (ys : List ℕ). x ∷ ys) (take_less n m xs)))

placed_few : (ms : List MissingNode) (xs : List ℕ) → nodes_placed ms (take (length ms) xs) ≡ nodes_placed ms xs
placed_few [] xs = refl
placed_few (m ∷ ms) [] = refl
placed_few (m ∷ ms) (x ∷ xs) = ap (λ (ns : List NewNode). node_placed m x ∷ ns) (placed_few ms xs)

pub nodes_laid : (ms : List MissingNode) (n : ℕ) (free : List ℕ) → nodes_placed ms (drop n (take (n + length ms) free)) ≡ nodes_placed ms (drop n free)
nodes_laid ms n free = ap (nodes_placed ms) (drop-take n (length ms) free) ∙ placed_few ms (drop n free)
