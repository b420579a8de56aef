-- An entry that isn't 0 leads down; and the walk of an address ends in one way.
use Rattle.std.proofs.Common.{◌≡◌, ◌<◌, ◌≤◌, ◌^◌, ◌∙◌, ◌⊎◌, ℕ, zero, suc, List, ◌∷◌, [], false, inl, inr, refl, sym, ap, subst, arith}
use Rattle.std.proofs.lemmas.Bool.{false≢true}
use Rattle.arrayvec.specs.ArrayVec.{ArrayVec}
use Rattle.wf_outside.specs.declared.sizes.TheConstants.{MOST_FRAMES}
use Rattle.wf_frames.specs.Layout.{WordsValue}
use Rattle.wf_sv39.specs.declared.tree.Walk.{Walk}
use Rattle.wf_sv39.specs.declared.tree.Walk.TheVariants.{Leaf, Missing, Far}
use Rattle.wf_sv39.specs.declared.entry.Leaf as sv39
use Rattle.wf_sv39.specs.declared.entry.Leaf.TheVariants as kind
use Rattle.wf_sv39.specs.Entries.{pte_node, pte_leaf, frame_of}
use Rattle.wf_sv39.specs.Tables.{IsLeaf, IsTable}
use Rattle.wf_sv39.specs.Walks.{is_far, index_at, entry_at, IsPath, IsLower, IsMissing, IsWalk}

-- a pointer isn't 0, and names one frame
pointer_there : (e u : ℕ) → e ≡ pte_node u → e ≡ 0 → ⊥
pointer_there e u h z = omega arith

pointer_one : (e u v : ℕ) → e ≡ pte_node u → e ≡ pte_node v → u ≡ v
pointer_one e u v h k = omega arith

pointer_frame : (e u : ℕ) → e ≡ pte_node u → u < 2 ^ 32 → frame_of e ≡ u
pointer_frame e u h lt = omega arith

index_lt : (level va : ℕ) → index_at level va < 512
index_lt level va = omega arith

there : {A : Type 0} (e : ℕ) → (e ≡ 0) ⊎ A → (e ≡ 0 → ⊥) → A
there e (inl z) h = absurd (h z)
there e (inr a) h = a

-- what an entry that isn't 0 leads to
pub record Descends (words : WordsValue) (level node va frame : ℕ) : Type 0 where
  pub low : frame < words.frames
  pub points : entry_at words node (suc level) va ≡ pte_node frame
  pub table : IsTable words level frame

pub descends : (words : WordsValue) (level node va e f : ℕ) → IsTable words (suc level) node → words.frames ≤ MOST_FRAMES → e ≡ entry_at words node (suc level) va → (e ≡ 0 → ⊥) → f ≡ frame_of e → Descends words level node va f
descends words level node va e f table few is ne fr =
    let h = table (index_at (suc level) va) (index_lt (suc level) va) in
    let p = there _ h.0 (λ z. ne (is ∙ z)) in
    let g : frame_of e ≡ p.frame = pointer_frame e p.frame (is ∙ p.is) (omega (arith, p.low)) in
    subst (Descends words level node va) (sym (fr ∙ g)) (record { low = p.low; points = p.is; table = h.1 p.frame p.is })

pub fits : (words : WordsValue) (level node va f : ℕ) → Descends words level node va f → words.frames ≤ MOST_FRAMES → f < 2 ^ 32
fits words level node va f d few = omega (arith, d.low)

pub is_leaf : (words : WordsValue) (node va e : ℕ) → IsTable words 0 node → e ≡ entry_at words node 0 va → (e ≡ 0 → ⊥) → IsLeaf words.frames e
is_leaf words node va e table is ne =
    let h = table (index_at 0 va) (index_lt 0 va) in
    subst (IsLeaf words.frames) (sym is) (there _ h (λ z. ne (is ∙ z)))

leaf_bits_there : (e f : ℕ) (leaf : sv39.Leaf) → e ≡ pte_leaf f leaf → e ≡ 0 → ⊥
leaf_bits_there e f kind.Private h z = omega arith
leaf_bits_there e f kind.Read h z = omega arith
leaf_bits_there e f kind.Write h z = omega arith

module _ (words : WordsValue) (root va : ℕ) where
  lower_one : (n m : ℕ) → IsLower words root va n → IsLower words root va m → n ≡ m
  lower_one n m h k =
      let u = pointer_one _ _ _ h.first k.first in
      let second : entry_at words k.upper 1 va ≡ pte_node n = subst (λ u. entry_at words u 1 va ≡ pte_node n) u h.second in
      pointer_one _ _ _ second k.second

  lower_of : (path : List ℕ) (leaf : ℕ) (h : IsPath words root va path leaf) → IsLower words root va h.lower
  lower_of path leaf h = record { upper = h.upper; first = h.first; second = h.second }

  leaf_there : (leaf : ℕ) → IsLeaf words.frames leaf → leaf ≡ 0 → ⊥
  leaf_there leaf h z = leaf_bits_there leaf h.frame h.leaf h.is z

  -- nothing on a path is missing
  path_whole : (path : List ℕ) (leaf level : ℕ) → IsPath words root va path leaf → IsMissing words root va level → ⊥
  path_whole path leaf zero h k =
      let n = lower_one _ _ (lower_of path leaf h) k.is_node in
      leaf_there leaf h.is_leaf (sym (subst (λ n. entry_at words n 0 va ≡ leaf) n h.third) ∙ k.is_zero)
  path_whole path leaf (suc zero) h k =
      let u = pointer_one _ _ _ h.first k.is_node in
      pointer_there _ h.lower (subst (λ n. entry_at words n 1 va ≡ pte_node h.lower) u h.second) k.is_zero
  path_whole path leaf (suc (suc zero)) h k = pointer_there _ h.upper h.first (subst (λ n. entry_at words n 2 va ≡ 0) k.is_node k.is_zero)
  path_whole path leaf (suc (suc (suc level))) h k = k.is_node

  above_lower : (n m : ℕ) → IsLower words root va n → entry_at words root 2 va ≡ pte_node m → entry_at words m 1 va ≡ 0 → ⊥
  above_lower n m h p z =
      let u = pointer_one _ _ _ h.first p in
      pointer_there _ n (subst (λ u. entry_at words u 1 va ≡ pte_node n) u h.second) z

  -- where an entry is missing, those above are there
  upper_first : (l m : ℕ) → IsMissing words root va l → IsMissing words root va m → l ≡ m
  upper_first zero zero h k = refl
  upper_first (suc zero) (suc zero) h k = refl
  upper_first (suc (suc zero)) (suc (suc zero)) h k = refl
  upper_first zero (suc zero) h k = absurd (above_lower h.node k.node h.is_node k.is_node k.is_zero)
  upper_first (suc zero) zero h k = absurd (above_lower k.node h.node k.is_node h.is_node h.is_zero)
  upper_first zero (suc (suc zero)) h k = absurd (pointer_there _ h.is_node.upper h.is_node.first (subst (λ n. entry_at words n 2 va ≡ 0) k.is_node k.is_zero))
  upper_first (suc (suc zero)) zero h k = absurd (pointer_there _ k.is_node.upper k.is_node.first (subst (λ n. entry_at words n 2 va ≡ 0) h.is_node h.is_zero))
  upper_first (suc zero) (suc (suc zero)) h k = absurd (pointer_there _ h.node h.is_node (subst (λ n. entry_at words n 2 va ≡ 0) k.is_node k.is_zero))
  upper_first (suc (suc zero)) (suc zero) h k = absurd (pointer_there _ k.node k.is_node (subst (λ n. entry_at words n 2 va ≡ 0) h.is_node h.is_zero))
  upper_first (suc (suc (suc l))) m h k = absurd h.is_node
  upper_first zero (suc (suc (suc m))) h k = absurd k.is_node
  upper_first (suc zero) (suc (suc (suc m))) h k = absurd k.is_node
  upper_first (suc (suc zero)) (suc (suc (suc m))) h k = absurd k.is_node

  one_path : (path more : List ℕ) (leaf other : ℕ) → IsPath words root va path leaf → IsPath words root va more other → (path ≡ more) × (leaf ≡ other)
  one_path path more leaf other h k =
      let u : h.upper ≡ k.upper = pointer_one _ _ _ h.first k.first in
      let l : h.lower ≡ k.lower = lower_one _ _ (lower_of path leaf h) (lower_of more other k) in
      let e : leaf ≡ other = sym (subst (λ n. entry_at words n 0 va ≡ leaf) l h.third) ∙ k.third in
      (h.path_is ∙ (λ i. pte_node (u i) ∷ pte_node (l i) ∷ e i ∷ []) ∙ sym k.path_is, e)

  -- a walk ends in one way
  pub one_walk : (w v : Walk) → IsWalk words root va w → IsWalk words root va v → w ≡ v
  one_walk Far Far h k = refl
  one_walk Far (Leaf pte path) h k = absurd (false≢true (sym k.0 ∙ h))
  one_walk Far (Missing level) h k = absurd (false≢true (sym k.0 ∙ h))
  one_walk (Leaf pte path) Far h k = absurd (false≢true (sym h.0 ∙ k))
  one_walk (Missing level) Far h k = absurd (false≢true (sym h.0 ∙ k))
  one_walk (Leaf pte path) (Missing level) h k = absurd (path_whole path.items pte level h.1 k.1)
  one_walk (Missing level) (Leaf pte path) h k = absurd (path_whole path.items pte level k.1 h.1)
  one_walk (Missing l) (Missing m) h k = ap Missing (upper_first l m h.1 k.1)
  one_walk (Leaf pte path) (Leaf other more) h k =
      let e = one_path path.items more.items pte other h.1 k.1 in
      λ i. Leaf (e.1 i) (record { items = e.0 i })

  -- an entry that is 0 ends a walk at its level
  pub missing_1 : (f e : ℕ) → is_far va ≡ false → Descends words 1 root va f → e ≡ entry_at words f 1 va → e ≡ 0 → IsWalk words root va (Missing 1)
  missing_1 f e near d is z = (near, record { node = f; is_node = d.points; is_zero = sym is ∙ z })

  pub missing_0 : (f g e : ℕ) → is_far va ≡ false → Descends words 1 root va f → Descends words 0 f va g → e ≡ entry_at words g 0 va → e ≡ 0 → IsWalk words root va (Missing 0)
  missing_0 f g e near d h is z =
      (near, record { node = g; is_node = record { upper = f; first = d.points; second = h.points }; is_zero = sym is ∙ z })

  -- and a leaf ends it
  pub leaf_found : (f g a b e : ℕ) (path : ArrayVec ℕ) → is_far va ≡ false → Descends words 1 root va f → Descends words 0 f va g → a ≡ entry_at words root 2 va → b ≡ entry_at words f 1 va → e ≡ entry_at words g 0 va → (e ≡ 0 → ⊥)
      → path.items ≡ a ∷ b ∷ e ∷ [] → IsWalk words root va (Leaf e path)
  leaf_found f g a b e path near d h first second is ne items = (
    near,
    record {
      upper = f;
      lower = g;
      first = d.points;
      second = h.points;
      third = sym is;
      is_leaf = is_leaf words g va e h.table is ne;
      path_is = items ∙ (λ i. (first ∙ d.points) i ∷ (second ∙ h.points) i ∷ e ∷ []);
    },
  )
