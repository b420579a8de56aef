-- The words of a view's nodes are a table, which leads to its leaves.
use Rattle.std.proofs.Common.{◌≡◌, ◌<◌, ◌⊎◌, ◌+◌, ◌*◌, ◌/◌, ◌^◌, ℕ, Bool, true, false, Option, Some, None, refl, sym, ap, subst, ◌∙◌, inl, inr, arith, if◌then◌else◌}
use Rattle.wf_frames.specs.Layout.{WordsValue}
use Rattle.wf_sv39.specs.declared.entry.Leaf.TheVariants.{Private}
use Rattle.wf_sv39.specs.Entries.{pte_node}
use Rattle.wf_sv39.specs.Tables.{IsLeaf, IsPointer, IsTable, entry_in}
use Rattle.wf_sv39.specs.Walks.{entry_at, index_at}
use Rattle.wf_views.specs.declared.records.Records.{Records}
use Rattle.wf_views.specs.Views.{ViewValue, generation_number, view_of}
use Rattle.wf_flat.specs.Memory.{data_in, has_met}
use Rattle.wf_flat.specs.State.{FlatState, GenState, PageState}
use Rattle.wf_homes.specs.Homes.{DataOf, Homes, NodeOf, Tenant, TextOf, home_frame}
use Rattle.wf_homes.specs.Entries.{SpellsView, data_leaf, entry_for, leaf_to, pointer_to, private_or, right_leaf, shared_leaf}
use Rattle.wf_homes.specs.Kept.{IsKeptView}
use Rattle.wf_homes.specs.Stands.{StandsFor}
use Rattle.wf_homes.proofs.FoundLemmas.{found_number}
use Rattle.wf_homes.proofs.PlaceLemmas.{home_low}

-- the places of an address in nodes
root_index : (va : ℕ) → va < 2 ^ 38 → 0 * 512 + index_at 2 va ≡ va / 4096 / 512 / 512
root_index va lt = omega arith

upper_index : (va : ℕ) → va / 4096 / 512 / 512 * 512 + index_at 1 va ≡ va / 4096 / 512
upper_index va = omega arith

lower_index : (va : ℕ) → va / 4096 / 512 * 512 + index_at 0 va ≡ va / 4096
lower_index va = omega arith

small_index : (level va : ℕ) → index_at level va < 512
small_index level va = omega arith

-- what a pointer to a node, if there is one, says
pub points : (o : Option ℕ) (next : ℕ) → pointer_to o ≡ pte_node next → o ≡ Some next
points None next e = absurd (omega arith)
points (Some f) next e = let same : f ≡ next = omega arith in ap Some same

pub no_pointer : (o : Option ℕ) → pointer_to o ≡ 0 → o ≡ None
no_pointer None e = refl
no_pointer (Some f) e = absurd (omega arith)

module _ (words : WordsValue) (r : Records) (homes : Homes) (s : FlatState) (g : ℕ) (gen : GenState) (view : ViewValue) (st : StandsFor words r homes s) (here : view_of r.views g ≡ Some view) (kept : IsKeptView words homes s gen view) where
  pub numbered : gen.number ≡ g
  numbered = sym kept.generation ∙ found_number generation_number r.views.views g view here

  pub low : (t : Tenant) (f : ℕ) → home_frame homes t ≡ Some f → f < words.frames
  low t f e = rw st.sizes.of_words (home_low homes s t f st.housed.separate e)

  pub root_home : home_frame homes (NodeOf g 2 0) ≡ Some view.root
  root_home = subst (λ (k : ℕ). home_frame homes (NodeOf k 2 0) ≡ Some view.root) numbered kept.root

  spells : (level prefix frame : ℕ) → home_frame homes (NodeOf g level prefix) ≡ Some frame → (i : ℕ) → i < 512 → entry_in words frame i ≡ entry_for homes s g level (prefix * 512 + i)
  spells level prefix frame e i lt = subst (λ (k : ℕ). SpellsView words homes s k) numbered kept.spelled level prefix frame e i lt

  -- an entry at level 0
  leaf_or_none : (page : ℕ) → (entry_for homes s g 0 page ≡ 0) ⊎ IsLeaf words.frames (entry_for homes s g 0 page)
  leaf_or_none page = by_text (home_frame homes (TextOf g page)) refl
    where
      by_data : (o : Option PageState) → (data_leaf homes o ≡ 0) ⊎ IsLeaf words.frames (data_leaf homes o)
      by_data None = inl refl
      by_data (Some p) = by_home (home_frame homes (DataOf p.number)) refl
        where
          by_home : (o : Option ℕ) → home_frame homes (DataOf p.number) ≡ o → (leaf_to o (right_leaf p.write) ≡ 0) ⊎ IsLeaf words.frames (leaf_to o (right_leaf p.write))
          by_home None e = inl refl
          by_home (Some f) e = inr (record { frame = f; leaf = right_leaf p.write; low = low (DataOf p.number) f e; is = refl })

      by_met : (b : Bool) → ((if b then data_leaf homes (data_in s.pages page) else 0) ≡ 0) ⊎ IsLeaf words.frames (if b then data_leaf homes (data_in s.pages page) else 0)
      by_met true = by_data (data_in s.pages page)
      by_met false = inl refl

      by_text : (o : Option ℕ) → home_frame homes (TextOf g page) ≡ o → (private_or o (shared_leaf homes s g page) ≡ 0) ⊎ IsLeaf words.frames (private_or o (shared_leaf homes s g page))
      by_text None e = by_met (has_met s.met g page)
      by_text (Some f) e = inr (record { frame = f; leaf = Private; low = low (TextOf g page) f e; is = refl })

  -- an entry above
  pointer_or_none : (t : Tenant) → (pointer_to (home_frame homes t) ≡ 0) ⊎ IsPointer words.frames (pointer_to (home_frame homes t))
  pointer_or_none t = by_home (home_frame homes t) refl
    where
      by_home : (o : Option ℕ) → home_frame homes t ≡ o → (pointer_to o ≡ 0) ⊎ IsPointer words.frames (pointer_to o)
      by_home None e = inl refl
      by_home (Some f) e = inr (record { frame = f; low = low t f e; is = refl })

  table_0 : (prefix frame : ℕ) → home_frame homes (NodeOf g 0 prefix) ≡ Some frame → IsTable words 0 frame
  table_0 prefix frame e i lt = subst (λ (x : ℕ). (x ≡ 0) ⊎ IsLeaf words.frames x) (sym (spells 0 prefix frame e i lt)) (leaf_or_none (prefix * 512 + i))

  table_1 : (prefix frame : ℕ) → home_frame homes (NodeOf g 1 prefix) ≡ Some frame → IsTable words 1 frame
  table_1 prefix frame e i lt =
      let t : Tenant = NodeOf g 0 (prefix * 512 + i) in
      let entry : entry_in words frame i ≡ pointer_to (home_frame homes t) = spells 1 prefix frame e i lt in (
        subst (λ (x : ℕ). (x ≡ 0) ⊎ IsPointer words.frames x) (sym entry) (pointer_or_none t),
        λ next q. table_0 (prefix * 512 + i) next (points (home_frame homes t) next (sym entry ∙ q)),
      )

  pub table_2 : IsTable words 2 view.root
  table_2 i lt =
      let t : Tenant = NodeOf g 1 (0 * 512 + i) in
      let entry : entry_in words view.root i ≡ pointer_to (home_frame homes t) = spells 2 0 view.root root_home i lt in (
        subst (λ (x : ℕ). (x ≡ 0) ⊎ IsPointer words.frames x) (sym entry) (pointer_or_none t),
        λ next q. table_1 (0 * 512 + i) next (points (home_frame homes t) next (sym entry ∙ q)),
      )

  -- the entries on the path of an address
  module _ (va : ℕ) where
    pub root_entry : va < 2 ^ 38 → entry_at words view.root 2 va ≡ pointer_to (home_frame homes (NodeOf g 1 (va / 4096 / 512 / 512)))
    root_entry lt = spells 2 0 view.root root_home (index_at 2 va) (small_index 2 va) ∙ ap (λ (n : ℕ). pointer_to (home_frame homes (NodeOf g 1 n))) (root_index va lt)

    pub upper_entry : (u : ℕ) → home_frame homes (NodeOf g 1 (va / 4096 / 512 / 512)) ≡ Some u → entry_at words u 1 va ≡ pointer_to (home_frame homes (NodeOf g 0 (va / 4096 / 512)))
    upper_entry u e = spells 1 (va / 4096 / 512 / 512) u e (index_at 1 va) (small_index 1 va) ∙ ap (λ (n : ℕ). pointer_to (home_frame homes (NodeOf g 0 n))) (upper_index va)

    pub lower_entry : (l : ℕ) → home_frame homes (NodeOf g 0 (va / 4096 / 512)) ≡ Some l → entry_at words l 0 va ≡ entry_for homes s g 0 (va / 4096)
    lower_entry l e = spells 0 (va / 4096 / 512) l e (index_at 0 va) (small_index 0 va) ∙ ap (entry_for homes s g 0) (lower_index va)
