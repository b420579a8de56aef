-- Entries that are made one after another.
use Rattle.std.proofs.Common.{◌≡◌, ◌+◌, ◌*◌, ◌++◌, ℕ, zero, suc, List, [], ◌∷◌, length, map, refl, sym, ap, ◌∙◌, arith}
use Rattle.std.specs.List.{range_with_len}
use Rattle.wf_views.specs.declared.view.NodeAt.{NodeAt}
use Rattle.wf_views.specs.Views.{ViewValue}
use Rattle.wf_start.specs.Layout.{first_entry}
use Rattle.wf_start.specs.Laying.{node_words}

-- what is made of the numbers of a range and of the next one
map_next : (f : ℕ → ℕ) (a n : ℕ) → map f (range_with_len a (suc n)) ≡ map f (range_with_len a n) ++ f (a + n) ∷ []
map_next f a zero = (let z : a ≡ a + 0 = omega arith in ap (λ (k : ℕ). f k ∷ []) z)
map_next f a (suc n) = (let z : a + 1 + n ≡ a + suc n = omega arith in ap (λ (ks : List ℕ). f a ∷ ks) (map_next f (a + 1) n ∙ ap (λ (k : ℕ). map f (range_with_len (a + 1) n) ++ f k ∷ []) z))

-- one more entry of a node is there
pub entry_added : (view : ViewValue) (node : NodeAt) (n m entry : ℕ) (made next : List ℕ) → made ≡ map (λ i. first_entry view node.level (node.prefix * 512 + i)) (range_with_len 0 n) → m ≡ n + 1 → entry ≡ first_entry view node.level (node.prefix * 512 + n) → next ≡ made ++ entry ∷ []
    → next ≡ map (λ i. first_entry view node.level (node.prefix * 512 + i)) (range_with_len 0 m)
entry_added view node n m entry made next are e is pushed =
    let f : ℕ → ℕ = λ i. first_entry view node.level (node.prefix * 512 + i) in
    let one : suc n ≡ m = omega arith in
    let z : n ≡ 0 + n = omega arith in
    pushed ∙ ap (λ (ws : List ℕ). ws ++ entry ∷ []) are ∙ ap (λ (w : ℕ). map f (range_with_len 0 n) ++ w ∷ []) (is ∙ ap f z) ∙ sym (map_next f 0 n) ∙ ap (λ (k : ℕ). map f (range_with_len 0 k)) one

-- all entries of a node are there
pub all_entries : (view : ViewValue) (node : NodeAt) (n : ℕ) (made : List ℕ) → made ≡ map (λ i. first_entry view node.level (node.prefix * 512 + i)) (range_with_len 0 n) → n ≡ 512 → made ≡ node_words view node
all_entries view node n made are e = are ∙ ap (λ (k : ℕ). map (λ i. first_entry view node.level (node.prefix * 512 + i)) (range_with_len 0 k)) e

length_range : (f : ℕ → ℕ) (a n : ℕ) → length (map f (range_with_len a n)) ≡ n
length_range f a zero = refl
length_range f a (suc n) = ap suc (length_range f (a + 1) n)

-- a node has 512 entries
pub node_whole : (view : ViewValue) (node : NodeAt) → length (node_words view node) ≡ 512
node_whole view node = length_range (λ i. first_entry view node.level (node.prefix * 512 + i)) 0 512
