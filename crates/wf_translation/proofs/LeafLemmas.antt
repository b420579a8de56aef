-- What the walk of an address finds is what the flat state says.
use Rattle.std.proofs.Common.{◌≡◌, ◌<◌, ◌≤◌, ◌/◌, ◌^◌, ◌==◌, ℕ, zero, suc, List, [], ◌∷◌, Bool, true, false, Option, Some, None, map, refl, sym, ap, subst, ◌∙◌, inl, inr, arith, if◌then◌else◌}
use Rattle.std.specs.Prelude.{IsSome, IsSomeAnd, MatchOption, option_and_then, slice_get}
use Rattle.std.specs.Option.{option_map}
use Rattle.std.specs.List.{AllByRecursion}
use Rattle.std.proofs.lemmas.Bool.Decides.{nat_tests}
use Rattle.wf_outside.specs.Images.{text_numbers}
use Rattle.wf_outside.specs.Pages.{PageValue}
use Rattle.wf_frames.specs.Layout.{WordsValue}
use Rattle.wf_sv39.specs.declared.entry.Leaf.{Leaf}
use Rattle.wf_sv39.specs.declared.entry.Leaf.TheVariants.{Private, Read, Write}
use Rattle.wf_sv39.specs.Entries.{pte_leaf}
use Rattle.wf_sv39.specs.Tables.{IsTable}
use Rattle.wf_sv39.specs.Walks.{IsMissing, IsPath, entry_at}
use Rattle.wf_views.specs.declared.records.Records.{Records}
use Rattle.wf_views.specs.declared.view.TextAt.{TextAt}
use Rattle.wf_views.specs.Lists.{found_by}
use Rattle.wf_views.specs.Views.{ViewValue, view_of}
use Rattle.wf_flat.specs.Accesses.{generation_text, is_ending, text_in}
use Rattle.wf_flat.specs.Lists as flat
use Rattle.wf_flat.specs.Memory.{data_in, has_met, page_in}
use Rattle.wf_flat.specs.State.{FlatState, GenState, PageState}
use Rattle.wf_flat.proofs.ListLemmas.{and_some, some_and}
use Rattle.wf_homes.specs.Homes.{DataOf, Homes, NodeOf, TextOf, home_frame}
use Rattle.wf_homes.specs.Entries.{data_leaf, entry_for, leaf_to, private_or, right_leaf, shared_leaf}
use Rattle.wf_homes.specs.Kept.{HasNodeFor, HasWords, IsKeptPage, IsKeptText, IsKeptView, LiesIn, text_frame, text_page}
use Rattle.wf_homes.specs.Stands.{StandsFor, living, living_at}
use Rattle.wf_homes.proofs.ListLemmas.{true_or_false}
use Rattle.wf_translation.specs.declared.translation.Translation.{Translation}
use Rattle.wf_translation.specs.declared.translation.Translation.TheVariants.{Text, Missing}
use Rattle.wf_translation.specs.Translations.{AddressTold, CanTranslate, HasNoLeaf, IsMapped, IsRoot, IsTranslation, LeafTold, leaf_page}
use Rattle.wf_translation.proofs.NodeLemmas.{none_below}
use Rattle.wf_translation.proofs.TableLemmas.{low, lower_entry, no_pointer, numbered, points, root_entry, root_home, table_2, upper_entry}

-- what holds of all elements holds of the one of a number, which has the number
found_all : {A : Type 0} (key : A → ℕ) (P : A → Type 0) (xs : List A) (n : ℕ) (x : A) → AllByRecursion P xs → flat.found_by key xs n ≡ Some x → P x
found_all key P [] n x all e = absurd cc
found_all key P (y ∷ ys) n x all e = elim (true_or_false (key y == n)) [
  | inl t ↦ (let k : Some y ≡ Some x = (rw t at e) in let same : y ≡ x = cc in subst P same all.0)
  | inr t ↦ found_all key P ys n x all.1 (rw t at e)
]

found_number : {A : Type 0} (key : A → ℕ) (xs : List A) (n : ℕ) (x : A) → flat.found_by key xs n ≡ Some x → key x ≡ n
found_number key [] n x e = absurd cc
found_number key (y ∷ ys) n x e = elim (true_or_false (key y == n)) [
  | inl t ↦ (let k : Some y ≡ Some x = (rw t at e) in let same : y ≡ x = cc in let num : key y ≡ n = grind (arith, nat_tests) in rw (sym same) num)
  | inr t ↦ found_number key ys n x (rw t at e)
]

-- no element has a number that is past all
none_past : {A : Type 0} (key : A → ℕ) (last n : ℕ) (xs : List A) → AllByRecursion (λ x. key x < last) xs → last ≤ n → flat.found_by key xs n ≡ None
none_past key last n [] all le = refl
none_past key last n (x ∷ xs) all le =
    let lt : key x < last = all.0 in
    let apart : (key x == n) ≡ false = grind (arith, nat_tests) in
    rw apart (none_past key last n xs all.1 le)

-- pages of the same numbers: where none is text of the state, none is text of the view
same_none : (ts : List TextAt) (ps : List PageValue) (n : ℕ) → map text_page ts ≡ text_numbers ps → page_in ps n ≡ None → found_by text_page ts n ≡ None
same_none [] ps n e none = refl
same_none (t ∷ ts) [] n e none = absurd cc
same_none (t ∷ ts) (p ∷ ps) n e none =
    let head : t.page ≡ p.number = cc in
    let rest : map text_page ts ≡ text_numbers ps = cc in
    elim (true_or_false (p.number == n)) [
      | inl y ↦ absurd (let k : Some p ≡ None = rw y at none in cc)
      | inr na ↦ (let other : (t.page == n) ≡ false = rw head na in rw other (same_none ts ps n rest (rw na at none)))
    ]

-- the element at a place
place_all : {A : Type 0} (P : A → Type 0) (xs : List A) (i : ℕ) (x : A) → AllByRecursion P xs → slice_get xs i ≡ Some x → P x
place_all P [] i x all e = absurd cc
place_all P (y ∷ ys) zero x all e = (let k : Some y ≡ Some x = e in let same : y ≡ x = cc in subst P same all.0)
place_all P (y ∷ ys) (suc i) x all e = place_all P ys i x all.1 e

-- a generation has a view
record HasRootOf (r : Records) (g : ℕ) : Type 0 where
  pub view : ViewValue
  pub here : view_of r.views g ≡ Some view

-- a generation that has a view lives
pub record Lives (words : WordsValue) (r : Records) (homes : Homes) (s : FlatState) (g : ℕ) (view : ViewValue) : Type 0 where
  pub gen : GenState
  pub at : slice_get s.gens g ≡ Some gen
  pub kept : IsKeptView words homes s gen view

living_is : (o : Option GenState) (gen : GenState) → option_and_then living o ≡ Some gen → o ≡ Some gen
living_is None gen e = absurd cc
living_is (Some other) gen e = by_live other.live e
  where
    by_live : (b : Bool) → (if b then Some other else None) ≡ Some gen → Some other ≡ Some gen
    by_live true k = k
    by_live false k = absurd cc

pub lives : (words : WordsValue) (r : Records) (homes : Homes) (s : FlatState) (g : ℕ) (view : ViewValue) → StandsFor words r homes s → view_of r.views g ≡ Some view → Lives words r homes s g view
lives words r homes s g view st here = by_living (living_at s g) refl (st.views g)
  where
    by_living : (o : Option GenState) → living_at s g ≡ o → MatchOption o (view_of r.views g ≡ None) (λ gen. IsSomeAnd (view_of r.views g) (IsKeptView words homes s gen)) → Lives words r homes s g view
    by_living None e none = absurd (let k : None ≡ Some view = sym none ∙ here in cc)
    by_living (Some gen) e kept = record { gen = gen; at = living_is (slice_get s.gens g) gen e; kept = subst (λ (o : Option ViewValue). IsSomeAnd o (IsKeptView words homes s gen)) here kept }

-- leaves are not 0, and tell their frame
leaf_there : (f : ℕ) (leaf : Leaf) → pte_leaf f leaf ≡ 0 → ⊥
leaf_there f Private z = omega arith
leaf_there f Read z = omega arith
leaf_there f Write z = omega arith

module _ (words : WordsValue) (r : Records) (homes : Homes) (s : FlatState) (g : ℕ) (gen : GenState) (view : ViewValue) (st : StandsFor words r homes s) (here : view_of r.views g ≡ Some view) (at : slice_get s.gens g ≡ Some gen) (kept : IsKeptView words homes s gen view)
    (mapped : IsMapped s) where
  named : gen.number ≡ g
  named = numbered words r homes s g gen view st here kept

  text_is : generation_text s g ≡ gen.text
  text_is = ap text_in at

  -- a page of text lies in its home
  record HasTextHome (page : ℕ) (p : PageValue) : Type 0 where
    pub frame : ℕ
    pub home : home_frame homes (TextOf g page) ≡ Some frame
    pub has : HasWords words frame p.words

  text_home : (page : ℕ) (p : PageValue) → page_in gen.text page ≡ Some p → HasTextHome page p
  text_home page p e =
      let num : p.number ≡ page = found_number (λ (q : PageValue). q.number) gen.text page p e in
      let text : IsKeptText words homes gen.number p = found_all (λ (q : PageValue). q.number) (IsKeptText words homes gen.number) gen.text page p kept.text e in
      let lies = some_and (home_frame homes (TextOf gen.number p.number)) (λ frame. HasWords words frame p.words) text in
      let same : home_frame homes (TextOf g page) ≡ Some lies.0 = subst (λ (k : ℕ). home_frame homes (TextOf k page) ≡ Some lies.0) named (subst (λ (n : ℕ). home_frame homes (TextOf gen.number n) ≡ Some lies.0) num lies.1) in
      record { frame = lies.0; home = same; has = lies.2 }

  no_text_home : (page : ℕ) → page_in gen.text page ≡ None → home_frame homes (TextOf g page) ≡ None
  no_text_home page e =
      let none : found_by text_page view.text page ≡ None = same_none view.text gen.text page kept.pages e in
      let a : option_and_then (λ (v : ViewValue). text_frame v page) (view_of r.views g) ≡ home_frame homes (TextOf g page) = st.at_home (TextOf g page) in
      let b : option_and_then (λ (v : ViewValue). text_frame v page) (view_of r.views g) ≡ text_frame view page = ap (option_and_then (λ (v : ViewValue). text_frame v page)) here in
      sym a ∙ b ∙ ap (option_map (λ (t : TextAt). t.frame)) none

  -- and so does a page of data
  record HasDataHome (p : PageState) : Type 0 where
    pub frame : ℕ
    pub home : home_frame homes (DataOf p.number) ≡ Some frame
    pub lies : LiesIn words r p frame

  data_home : (page : ℕ) (p : PageState) → data_in s.pages page ≡ Some p → HasDataHome p
  data_home page p e =
      let lies = some_and (home_frame homes (DataOf p.number)) (LiesIn words r p) (found_all (λ (q : PageState). q.number) (IsKeptPage words r homes) s.pages page p st.pages e) in
      record { frame = lies.0; home = lies.1; lies = lies.2 }

  -- where the entry is 0
  module _ (page : ℕ) where
    text_entry : (p : PageValue) (e : page_in gen.text page ≡ Some p) → entry_for homes s g 0 page ≡ pte_leaf (text_home page p e).frame Private
    text_entry p e = ap (λ (o : Option ℕ). private_or o (shared_leaf homes s g page)) (text_home page p e).home

    shared_entry : page_in gen.text page ≡ None → entry_for homes s g 0 page ≡ shared_leaf homes s g page
    shared_entry e = ap (λ (o : Option ℕ). private_or o (shared_leaf homes s g page)) (no_text_home page e)

    data_entry : (p : PageState) (e : data_in s.pages page ≡ Some p) → data_leaf homes (data_in s.pages page) ≡ pte_leaf (data_home page p e).frame (right_leaf p.write)
    data_entry p e = ap (data_leaf homes) e ∙ ap (λ (o : Option ℕ). leaf_to o (right_leaf p.write)) (data_home page p e).home

    no_text : (none : page_in gen.text page ≡ None) → page_in (generation_text s g) page ≡ None
    no_text none = ap (λ (text : List PageValue). page_in text page) text_is ∙ none

    pub no_leaf : entry_for homes s g 0 page ≡ 0 → HasNoLeaf s g page
    no_leaf zero_entry = by_text (page_in gen.text page) refl
      where
        by_data : page_in gen.text page ≡ None → has_met s.met g page ≡ true → (o : Option PageState) → data_in s.pages page ≡ o → data_in s.pages page ≡ None
        by_data none met None e = e
        by_data none met (Some p) e = absurd (leaf_there (data_home page p e).frame (right_leaf p.write) (
            let yes : shared_leaf homes s g page ≡ data_leaf homes (data_in s.pages page) = rw met refl in
            sym (data_entry p e) ∙ sym yes ∙ sym (shared_entry none) ∙ zero_entry
            ))

        by_text : (o : Option PageValue) → page_in gen.text page ≡ o → HasNoLeaf s g page
        by_text None none = record { no_text = no_text none; no_data = λ met. by_data none met (data_in s.pages page) refl }
        by_text (Some p) e = absurd (leaf_there (text_home page p e).frame Private (sym (text_entry p e) ∙ zero_entry))

    -- where there is no node
    node_for_text : (p : PageValue) → page_in gen.text page ≡ Some p → IsSome (home_frame homes (NodeOf g 0 (page / 512)))
    node_for_text p e =
        let num : p.number ≡ page = found_number (λ (q : PageValue). q.number) gen.text page p e in
        let node : HasNodeFor homes gen.number p.number = found_all (λ (q : PageValue). q.number) (λ (q : PageValue). HasNodeFor homes gen.number q.number) gen.text page p (numbers_all (HasNodeFor homes gen.number) gen.text kept.leaves.text) e in
        subst (λ (k : ℕ). HasNodeFor homes k page) named (subst (HasNodeFor homes gen.number) num node)
      where
        numbers_all : (P : ℕ → Type 0) (ps : List PageValue) → AllByRecursion P (text_numbers ps) → AllByRecursion (λ (q : PageValue). P q.number) ps
        numbers_all P [] all = tt
        numbers_all P (q ∷ qs) all = (all.0, numbers_all P qs all.1)

    node_for_data : (p : PageState) → data_in s.pages page ≡ Some p → has_met s.met g page ≡ true → IsSome (home_frame homes (NodeOf g 0 (page / 512)))
    node_for_data p e met =
        let num : p.number ≡ page = found_number (λ (q : PageState). q.number) s.pages page p e in
        let node : is_ending p.stage ≡ false → HasNodeFor homes gen.number p.number =
        found_all (λ (q : PageState). q.number) (λ (q : PageState). is_ending q.stage ≡ false → HasNodeFor homes gen.number q.number) s.pages page p kept.leaves.pages e in
        let stays : is_ending p.stage ≡ true → (k : ℕ) → has_met s.met k p.number ≡ false =
        found_all (λ (q : PageState). q.number) (λ (q : PageState). is_ending q.stage ≡ true → (k : ℕ) → has_met s.met k q.number ≡ false) s.pages page p mapped.met_stay e in
        elim (true_or_false (is_ending p.stage)) [
          | inl t ↦ absurd (let k : has_met s.met g page ≡ false = subst (λ (n : ℕ). has_met s.met g n ≡ false) num (stays t g) in let both : true ≡ false = sym met ∙ k in cc)
          | inr t ↦ subst (λ (k : ℕ). HasNodeFor homes k page) named (subst (HasNodeFor homes gen.number) num (node t))
        ]

    none_there : (o : Option ℕ) → o ≡ None → IsSome o → ⊥
    none_there None e is = absurd cc
    none_there (Some f) e is = absurd cc

    pub no_node : home_frame homes (NodeOf g 0 (page / 512)) ≡ None → HasNoLeaf s g page
    no_node none = by_text (page_in gen.text page) refl
      where
        by_data : has_met s.met g page ≡ true → (o : Option PageState) → data_in s.pages page ≡ o → data_in s.pages page ≡ None
        by_data met None e = e
        by_data met (Some p) e = absurd (none_there (home_frame homes (NodeOf g 0 (page / 512))) none (node_for_data p e met))

        by_text : (o : Option PageValue) → page_in gen.text page ≡ o → HasNoLeaf s g page
        by_text None e = record { no_text = no_text e; no_data = λ met. by_data met (data_in s.pages page) refl }
        by_text (Some p) e = absurd (none_there (home_frame homes (NodeOf g 0 (page / 512))) none (node_for_text p e))

    -- where the entry is a leaf
    pub leaf_found : (pte : ℕ) (found : Translation) → entry_for homes s g 0 page ≡ pte → (pte ≡ 0 → ⊥)
        → LeafTold words.frames pte found → IsTranslation words r s g page found
    leaf_found pte found is there tells = by_text (page_in gen.text page) refl
      where
        shared : (none : page_in gen.text page ≡ None) (met : has_met s.met g page ≡ true) (p : PageState) (e : data_in s.pages page ≡ Some p) (write : Bool) → p.write ≡ write → found ≡ leaf_page (data_home page p e).frame (right_leaf write) → IsTranslation words r s g page found
        shared none met p e true w f = subst (IsTranslation words r s g page) (sym f) (record { no_text = no_text none; met = met; there = and_some (data_in s.pages page) (λ (q : PageState). (q.write ≡ true) × LiesIn words r q (data_home page p e).frame) p e (w, (data_home page p e).lies) })
        shared none met p e false w f = subst (IsTranslation words r s g page) (sym f) (record { no_text = no_text none; met = met; there = and_some (data_in s.pages page) (λ (q : PageState). (q.write ≡ false) × LiesIn words r q (data_home page p e).frame) p e (w, (data_home page p e).lies) })

        by_data : page_in gen.text page ≡ None → has_met s.met g page ≡ true → (o : Option PageState) → data_in s.pages page ≡ o → IsTranslation words r s g page found
        by_data none met None e = absurd (there (
            let yes : shared_leaf homes s g page ≡ data_leaf homes (data_in s.pages page) = rw met refl in
            sym is ∙ shared_entry none ∙ yes ∙ ap (data_leaf homes) e
            ))
        by_data none met (Some p) e =
            let yes : shared_leaf homes s g page ≡ data_leaf homes (data_in s.pages page) = rw met refl in
            let leaf : pte ≡ pte_leaf (data_home page p e).frame (right_leaf p.write) = sym is ∙ shared_entry none ∙ yes ∙ data_entry p e in
            shared none met p e p.write refl (tells (data_home page p e).frame (right_leaf p.write) (low words r homes s g gen view st here kept (DataOf p.number) (data_home page p e).frame (data_home page p e).home) leaf)

        by_met : page_in gen.text page ≡ None → (b : Bool) → has_met s.met g page ≡ b → IsTranslation words r s g page found
        by_met none true met = by_data none met (data_in s.pages page) refl
        by_met none false met = absurd (there (let no : shared_leaf homes s g page ≡ 0 = rw met refl in sym is ∙ shared_entry none ∙ no))

        by_text : (o : Option PageValue) → page_in gen.text page ≡ o → IsTranslation words r s g page found
        by_text None none = by_met none (has_met s.met g page) refl
        by_text (Some p) e =
            let f : found ≡ Text (text_home page p e).frame = tells (text_home page p e).frame Private (low words r homes s g gen view st here kept (TextOf g page) (text_home page p e).frame (text_home page p e).home) (sym is ∙ text_entry p e) in
            let there_is : page_in (generation_text s g) page ≡ Some p = ap (λ (text : List PageValue). page_in text page) text_is ∙ e in
            subst (IsTranslation words r s g page) (sym f) (and_some (page_in (generation_text s g) page) (λ (q : PageValue). HasWords words (text_home page p e).frame q.words) p there_is (text_home page p e).has)

    -- where the page is past all addresses
    pub no_page : 0x4000000 ≤ page → HasNoLeaf s g page
    no_page le = record {
      no_text = no_text (none_past (λ (q : PageValue). q.number) 0x4000000 page gen.text (place_all (λ (k : GenState). AllByRecursion (λ q. q.number < 0x4000000) k.text) s.gens g gen mapped.text_low at) le);
      no_data = λ met. none_past (λ (q : PageState). q.number) 0x4000000 page s.pages mapped.data_low le;
    }

  -- how the walk of an address ends
  module _ (va : ℕ) (lt : va < 2 ^ 38) where
    abbrev page : ℕ
    page = va / 4096

    no_upper : home_frame homes (NodeOf g 1 (page / 512 / 512)) ≡ None → HasNoLeaf s g page
    no_upper none = no_node page (none_below g (page / 512) homes s st.housed none)

    missing_found : (level : ℕ) → IsMissing words view.root va level → HasNoLeaf s g page
    missing_found zero m =
        let a : home_frame homes (NodeOf g 1 (page / 512 / 512)) ≡ Some m.is_node.upper = points (home_frame homes (NodeOf g 1 (page / 512 / 512))) m.is_node.upper (sym (root_entry words r homes s g gen view st here kept va lt) ∙ m.is_node.first) in
        let b : home_frame homes (NodeOf g 0 (page / 512)) ≡ Some m.node = points (home_frame homes (NodeOf g 0 (page / 512))) m.node (sym (upper_entry words r homes s g gen view st here kept va m.is_node.upper a) ∙ m.is_node.second) in
        no_leaf page (sym (lower_entry words r homes s g gen view st here kept va m.node b) ∙ m.is_zero)
    missing_found (suc zero) m =
        let a : home_frame homes (NodeOf g 1 (page / 512 / 512)) ≡ Some m.node = points (home_frame homes (NodeOf g 1 (page / 512 / 512))) m.node (sym (root_entry words r homes s g gen view st here kept va lt) ∙ m.is_node) in
        no_node page (no_pointer (home_frame homes (NodeOf g 0 (page / 512))) (sym (upper_entry words r homes s g gen view st here kept va m.node a) ∙ m.is_zero))
    missing_found (suc (suc zero)) m =
        let z : entry_at words view.root 2 va ≡ 0 = subst (λ (n : ℕ). entry_at words n 2 va ≡ 0) m.is_node m.is_zero in
        no_upper (no_pointer (home_frame homes (NodeOf g 1 (page / 512 / 512))) (sym (root_entry words r homes s g gen view st here kept va lt) ∙ z))
    missing_found (suc (suc (suc level))) m = absurd m.is_node

    path_found : (path : List ℕ) (pte : ℕ) (found : Translation) → IsPath words view.root va path pte
        → LeafTold words.frames pte found → IsTranslation words r s g page found
    path_found path pte found p tells =
        let a : home_frame homes (NodeOf g 1 (page / 512 / 512)) ≡ Some p.upper = points (home_frame homes (NodeOf g 1 (page / 512 / 512))) p.upper (sym (root_entry words r homes s g gen view st here kept va lt) ∙ p.first) in
        let b : home_frame homes (NodeOf g 0 (page / 512)) ≡ Some p.lower = points (home_frame homes (NodeOf g 0 (page / 512))) p.lower (sym (upper_entry words r homes s g gen view st here kept va p.upper a) ∙ p.second) in
        leaf_found page pte found (sym (lower_entry words r homes s g gen view st here kept va p.lower b) ∙ p.third) (λ z. leaf_there p.is_leaf.frame p.is_leaf.leaf (sym p.is_leaf.is ∙ z)) tells

-- the view whose root this is
pub record HasRoot (r : Records) (g root : ℕ) : Type 0 where
  pub view : ViewValue
  pub here : view_of r.views g ≡ Some view
  pub is : view.root ≡ root

rooted : (o : Option ViewValue) (root : ℕ) → option_map (λ (v : ViewValue). v.root) o ≡ Some root → (v : ViewValue) × (o ≡ Some v) × (v.root ≡ root)
rooted None root e = absurd cc
rooted (Some v) root e = (v, refl, (let k : Some v.root ≡ Some root = e in cc))

root_view : (r : Records) (g root : ℕ) → IsRoot r g root → HasRoot r g root
root_view r g root e = let v = rooted (view_of r.views g) root e in record { view = v.0; here = v.1; is = v.2 }

some_view : (r : Records) (g : ℕ) (o : Option ViewValue) → view_of r.views g ≡ o → IsSome o → HasRootOf r g
some_view r g None e is = absurd cc
some_view r g (Some v) e is = record { view = v; here = e }

-- the words are a table below the root
pub tabled : (words : WordsValue) (r : Records) (g root : ℕ) → CanTranslate words r g → IsRoot r g root → (root < words.frames) × IsTable words 2 root
tabled words r g root can e =
    let v = root_view r g root e in
    let l = lives words r can.homes can.state g v.view can.stands v.here in
    subst (λ (n : ℕ). (n < words.frames) × IsTable words 2 n) v.is (
      low words r can.homes can.state g l.gen v.view can.stands v.here l.kept (NodeOf g 2 0) v.view.root (root_home words r can.homes can.state g l.gen v.view can.stands v.here l.kept),
      table_2 words r can.homes can.state g l.gen v.view can.stands v.here l.kept,
    )

-- what the end of a walk tells of an address
pub leaf_told : (words : WordsValue) (r : Records) (g root va : ℕ) (path : List ℕ) (pte : ℕ) (found : Translation) → IsRoot r g root → va < 2 ^ 38 → IsPath words root va path pte
    → LeafTold words.frames pte found → AddressTold words r g va found
leaf_told words r g root va path pte found e lt p tells homes s st mapped =
    let v = root_view r g root e in
    let l = lives words r homes s g v.view st v.here in
    path_found words r homes s g l.gen v.view st v.here l.at l.kept mapped va lt path pte found (subst (λ (n : ℕ). IsPath words n va path pte) (sym v.is) p) tells

pub missing_told : (words : WordsValue) (r : Records) (g root va level : ℕ) → IsRoot r g root → va < 2 ^ 38 → IsMissing words root va level → AddressTold words r g va Missing
missing_told words r g root va level e lt m homes s st mapped =
    let v = root_view r g root e in
    let l = lives words r homes s g v.view st v.here in
    missing_found words r homes s g l.gen v.view st v.here l.at l.kept mapped va lt level (subst (λ (n : ℕ). IsMissing words n va level) (sym v.is) m)

pub past_told : (words : WordsValue) (r : Records) (g va : ℕ) → CanTranslate words r g → 2 ^ 38 ≤ va → AddressTold words r g va Missing
past_told words r g va can le homes s st mapped =
    let v = some_view r g (view_of r.views g) refl can.view in
    let l = lives words r homes s g v.view st v.here in
    no_page words r homes s g l.gen v.view st v.here l.at l.kept mapped (va / 4096) (omega arith)
