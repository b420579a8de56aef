-- The leaves of a page are cleared: what words and records stand for then.
use Rattle.std.proofs.Common.{◌≡◌, ◌≢◌, ◌<◌, ◌+◌, ◌*◌, ◌/◌, ◌%◌, ◌==◌, ℕ, zero, suc, List, [], ◌∷◌, true, false, not, Option, Some, None, refl, sym, ap, subst, ◌∙◌, inl, inr, arith, is_some}
use Rattle.std.specs.Prelude.{IsSomeAnd, MatchOption, option_and_then, slice_index}
use Rattle.std.specs.Option.{option_map}
use Rattle.std.specs.List.{AllByRecursion}
use Rattle.std.proofs.lemmas.Bool.{cases_lt}
use Rattle.std.proofs.lemmas.Bool.Decides.{nat_tests}
use Rattle.wf_frames.specs.Layout.{WordsValue, frame_word_place, word_place}
use Rattle.wf_views.specs.declared.records.Records.{Records}
use Rattle.wf_views.specs.Lists.{found_by, has_number, itself, without_by}
use Rattle.wf_views.specs.Views.{ViewValue, forgets, forgotten, generation_number, view_of}
use Rattle.wf_outside.specs.Pages.{PageValue}
use Rattle.wf_flat.specs.Memory.{data_in, has_met}
use Rattle.wf_flat.specs.State.{FlatState, GenState, PageState}
use Rattle.wf_effects.specs.Effects.{met_but_page}
use Rattle.wf_homes.specs.Homes.{DataOf, Homes, NodeOf, Tenant, TextOf, home_frame}
use Rattle.wf_homes.specs.Entries.{SpellsView, entry_for, private_or, shared_leaf}
use Rattle.wf_homes.specs.Kept.{HasMet, HasWords, IsKeptFrame, IsKeptPage, IsKeptText, IsKeptView, LiesIn, node_frame, recorded_frame, text_frame, word_of_frame}
use Rattle.wf_homes.specs.Stands.{StandsFor, living_at}
use Rattle.wf_homes.proofs.FoundLemmas.{found_number, some_more}
use Rattle.wf_homes.proofs.ListLemmas.{all_kept, all_more, one_or_two, true_or_false}
use Rattle.wf_homes.proofs.PlaceLemmas.{home_low, homes_apart, place_past, place_tells}
use Rattle.wf_space.proofs.LeaveLemmas.{both_same, data_low, found_mapped, found_without, gone_without, met_same}
use Rattle.wf_space.specs.Leaving.{AreCleared, ClearedStand, HasLeaf, MayForget, page_forgotten}

-- no generation has met the page
pub met_gone : (met : List (ℕ × ℕ)) (page g : ℕ) → AllByRecursion (λ x. x.1 < 0x4000000) met → page < 0x4000000 → has_met (met_but_page met page) g page ≡ false
met_gone [] page g all low = refl
met_gone (x ∷ xs) page g all low = elim (true_or_false (x.1 == page)) [
  | inl t ↦ (rw t (met_gone xs page g all.1 low))
  | inr t ↦ (
      let u : (x.0 * 0x4000000 + x.1 == g * 0x4000000 + page) ≡ false = key_apart x.0 x.1 g page t all.0 low in
      rw (t, u) (met_gone xs page g all.1 low)
      )
]
  where
    key_apart : (a b c d : ℕ) → (b == d) ≡ false → b < 0x4000000 → d < 0x4000000 → (a * 0x4000000 + b == c * 0x4000000 + d) ≡ false
    key_apart a b c d t lb ld = elim (true_or_false (a * 0x4000000 + b == c * 0x4000000 + d)) [
      | inl u ↦ absurd (
          let e : a * 0x4000000 + b ≡ c * 0x4000000 + d = grind (arith, nat_tests) in
          let same : b ≡ d = omega arith in
          let w : (b == d) ≡ true = grind (arith, nat_tests) in
          let k : true ≡ false = sym w ∙ t in
          cc
          )
      | inr u ↦ u
    ]

-- what a chain of two finds, where it finds it
then_some : {A B : Type 0} (o : Option A) (f : A → Option B) (y : B) → option_and_then f o ≡ Some y → (x : A) × (o ≡ Some x) × (f x ≡ Some y)
then_some None f y e = absurd cc
then_some (Some x) f y e = (x, refl, e)

module _ (words new : WordsValue) (r : Records) (homes : Homes) (s : FlatState) (page : ℕ) (st : StandsFor words r homes s) (may : MayForget homes s page) (are : AreCleared words new r page) where
  abbrev after_r : Records
  after_r = record r { views = forgotten page r.views }

  abbrev after_s : FlatState
  after_s = page_forgotten s page

  -- the frames of leaves are homes of nodes
  leaf_home : (node : ℕ) (has : HasLeaf r page node) → home_frame homes (NodeOf has.generation 0 (page / 512)) ≡ Some node
  leaf_home node has = sym (st.at_home (NodeOf has.generation 0 (page / 512))) ∙ rw has.there has.node_at

  leaf_low : (node : ℕ) → HasLeaf r page node → node < words.frames
  leaf_low node has =
      let lt : node < s.limits.frames = home_low homes s (NodeOf has.generation 0 (page / 512)) node st.housed.separate (leaf_home node has) in
      let same : words.frames ≡ s.limits.frames = st.sizes.of_words in
      omega arith

  frame_word_same : (f : ℕ) → f < s.limits.frames → slice_index new.items (frame_word_place f) ≡ slice_index words.items (frame_word_place f)
  frame_word_same f lt =
      let same : words.frames ≡ s.limits.frames = st.sizes.of_words in
      are.others (frame_word_place f) (λ node has e. place_past words.frames f node (page % 512) (omega arith) e)

  -- a word of the home of another tenant stays
  word_same : (t : Tenant) (f i : ℕ) → home_frame homes t ≡ Some f → i < 512 → ((g : ℕ) → t ≡ NodeOf g 0 (page / 512) → i ≡ page % 512 → has_met s.met g page ≡ true → ⊥) → word_of_frame new f i ≡ word_of_frame words f i
  word_same t f i home lt apart =
      let same : new.frames ≡ words.frames = are.frames in
      ap (λ (n : ℕ). slice_index new.items (word_place n f i)) same
      ∙ are.others (word_place words.frames f i) (λ node has e. (
      let two = place_tells words.frames f node i (page % 512) lt (omega arith) e in
      let one : t ≡ NodeOf has.generation 0 (page / 512) = homes_apart homes s t (NodeOf has.generation 0 (page / 512)) f st.housed.separate home (rw two.0 (leaf_home node has)) in
      apart has.generation one two.1 (met_is node has)
      ))
    where
      met_is : (node : ℕ) (has : HasLeaf r page node) → has_met s.met has.generation page ≡ true
      met_is node has = by_living (living_at s has.generation) (st.views has.generation)
        where
          by_living : (o : Option GenState) → MatchOption o (view_of r.views has.generation ≡ None) (λ gen. IsSomeAnd (view_of r.views has.generation) (IsKeptView words homes s gen)) → has_met s.met has.generation page ≡ true
          by_living None e = absurd (let k : Some has.view ≡ None = sym has.there ∙ e in cc)
          by_living (Some gen) kept =
              let k : IsSomeAnd (Some has.view) (IsKeptView words homes s gen) = subst (λ (o : Option ViewValue). IsSomeAnd o (IsKeptView words homes s gen)) has.there kept in
              let v : IsKeptView words homes s gen has.view = k in
              let g : has.view.generation ≡ has.generation = found_number generation_number r.views.views has.generation has.view has.there in
              ap (λ (n : ℕ). has_met s.met n page) (sym g) ∙ sym (v.met.same page may.low) ∙ has.met

  -- the leaf of a generation that has met the page
  leaf_is : (k fr : ℕ) → home_frame homes (NodeOf k 0 (page / 512)) ≡ Some fr → has_met s.met k page ≡ true → HasLeaf r page fr
  leaf_is k fr home met =
      let v = then_some (view_of r.views k) (λ view. node_frame view 0 (page / 512)) fr (st.at_home (NodeOf k 0 (page / 512)) ∙ home) in
      record {
        generation = k;
        view = v.0;
        there = v.1;
        met = by_living v.0 v.1 (living_at s k) (st.views k);
        node_at = v.2;
      }
    where
      by_living : (w : ViewValue) → view_of r.views k ≡ Some w → (o : Option GenState) → MatchOption o (view_of r.views k ≡ None) (λ gen. IsSomeAnd (view_of r.views k) (IsKeptView words homes s gen)) → has_number w.met.items page ≡ true
      by_living w there None e = absurd (let x : Some w ≡ None = sym there ∙ e in cc)
      by_living w there (Some gen) kept =
          let x : IsSomeAnd (Some w) (IsKeptView words homes s gen) = subst (λ (o : Option ViewValue). IsSomeAnd o (IsKeptView words homes s gen)) there kept in
          let v : IsKeptView words homes s gen w = x in
          let g : w.generation ≡ k = found_number generation_number r.views.views k w there in
          v.met.same page may.low ∙ ap (λ (n : ℕ). has_met s.met n page) g ∙ met

  -- pages, frames, text
  page_kept : (p : PageState) → IsKeptPage words r homes p → IsKeptPage new after_r homes p
  page_kept p kept = some_more (home_frame homes (DataOf p.number)) (LiesIn words r p) (LiesIn new after_r p) (λ f e lies. (
      let w : slice_index new.items (frame_word_place f) ≡ slice_index words.items (frame_word_place f) = frame_word_same f (home_low homes s (DataOf p.number) f st.housed.separate e) in
      record {
        recorded = lies.recorded;
        same_words = λ i lt. word_same (DataOf p.number) f i e lt (λ g one j met. absurd cc) ∙ lies.same_words i lt;
        writes = rw w lies.writes;
        taken = rw w lies.taken;
        live = rw w lies.live;
      }
      )) kept

  frame_kept : (f : ℕ) → f < s.limits.frames → IsKeptFrame words r homes s.births f → IsKeptFrame new after_r homes s.births f
  frame_kept f lt kept =
      let w : slice_index new.items (frame_word_place f) ≡ slice_index words.items (frame_word_place f) = frame_word_same f lt in
      record {
        state = kept.state;
        incarnation = rw w kept.incarnation;
        few = rw w kept.few;
        not_live = λ none. rw w (kept.not_live none);
        not_taken = λ none. rw w (kept.not_taken none);
      }

  text_kept : (k : ℕ) (p : PageValue) → IsKeptText words homes k p → IsKeptText new homes k p
  text_kept k p kept = some_more (home_frame homes (TextOf k p.number)) (λ f. HasWords words f p.words) (λ f. HasWords new f p.words) (λ f e has. λ i lt. word_same (TextOf k p.number) f i e lt (λ g one j met. absurd cc) ∙ has i lt) kept

  -- entries
  unmet_after : (g : ℕ) → has_met after_s.met g page ≡ false
  unmet_after g = met_gone s.met page g may.met_low may.low

  shared_after : (g q : ℕ) → q ≢ page → shared_leaf homes after_s g q ≡ shared_leaf homes s g q
  shared_after g q apart = elim (cases_lt q 0x4000000) [
    | inl lt ↦ (let m : has_met after_s.met g q ≡ has_met s.met g q = met_same s.met page g q may.low lt apart in rw m refl)
    | inr ge ↦ (
        let a : data_in s.pages q ≡ None = data_low s.pages q may.pages_low ge in
        rw a (both_same (has_met after_s.met g q) 0 ∙ sym (both_same (has_met s.met g q) 0))
        )
  ]

  shared_unmet : (g : ℕ) → has_met s.met g page ≡ false → shared_leaf homes s g page ≡ 0
  shared_unmet g e = rw e refl

  entry_gone : (k : ℕ) → entry_for homes after_s k 0 page ≡ 0
  entry_gone k = (let a : home_frame homes (TextOf k page) ≡ None = may.no_text k in let b : has_met after_s.met k page ≡ false = unmet_after k in rw (a, b) refl)

  entry_unmet : (k : ℕ) → has_met s.met k page ≡ false → entry_for homes s k 0 page ≡ 0
  entry_unmet k e = (let a : home_frame homes (TextOf k page) ≡ None = may.no_text k in rw (a, e) refl)

  entry_other : (k q : ℕ) → q ≢ page → entry_for homes s k 0 q ≡ entry_for homes after_s k 0 q
  entry_other k q apart = ap (private_or (home_frame homes (TextOf k q))) (sym (shared_after k q apart))

  spelled_kept : (k : ℕ) → SpellsView words homes s k → SpellsView new homes after_s k
  spelled_kept k spells zero prefix f e i lt = elim (one_or_two (prefix * 512 + i) page) [
    | inr apart ↦ (
        word_same (NodeOf k 0 prefix) f i e lt (λ g one j met. (
        let b : prefix ≡ page / 512 = cc in
        apart (omega arith)
        ))
        ∙ spells zero prefix f e i lt
        ∙ entry_other k (prefix * 512 + i) apart
        )
    | inl same ↦ (
        let b : prefix ≡ page / 512 = omega arith in
        let c : i ≡ page % 512 = omega arith in
        elim (true_or_false (has_met s.met k page)) [
          | inl met ↦ (
              let leaf : HasLeaf r page f = leaf_is k f (rw b at e) met in
              let n : new.frames ≡ words.frames = are.frames in
              ap (λ (m : ℕ). slice_index new.items (word_place m f i)) n
              ∙ ap (λ (j : ℕ). slice_index new.items (word_place words.frames f j)) c
              ∙ are.cleared f leaf
              ∙ sym (entry_gone k)
              ∙ ap (λ (q : ℕ). entry_for homes after_s k 0 q) (sym same)
              )
          | inr unmet ↦ (
              word_same (NodeOf k 0 prefix) f i e lt (λ g one j met. (
              let d : k ≡ g = cc in
              let x : true ≡ false = sym met ∙ (rw d at unmet) in
              absurd cc
              ))
              ∙ spells zero prefix f e i lt
              ∙ ap (λ (q : ℕ). entry_for homes s k 0 q) same
              ∙ entry_unmet k unmet
              ∙ sym (entry_gone k)
              ∙ ap (λ (q : ℕ). entry_for homes after_s k 0 q) (sym same)
              )
        ]
        )
  ]
  spelled_kept k spells (suc level) prefix f e i lt =
      word_same (NodeOf k (suc level) prefix) f i e lt (λ g one j met. (let l : suc level ≡ 0 = cc in absurd (omega arith)))
      ∙ spells (suc level) prefix f e i lt

  -- views
  met_kept : (v : ViewValue) → HasMet v s → HasMet (forgets page v) after_s
  met_kept v has = record {
    same = λ q lt. (elim (one_or_two q page) [
      | inl same ↦ (
          let gone : found_by itself (without_by itself v.met.items page) q ≡ None = rw same (gone_without itself v.met.items page) in
          rw gone (sym (rw same (unmet_after v.generation)))
          )
      | inr apart ↦ (
          let stays : found_by itself (without_by itself v.met.items page) q ≡ found_by itself v.met.items q = found_without itself v.met.items page q apart in
          ap is_some stays ∙ has.same q lt ∙ sym (met_same s.met page v.generation q may.low lt apart)
          )
    ]);
    low = all_kept (λ n. not (n == page)) (λ n. n < 0x4000000) (λ n. n < 0x4000000) (λ n k lt. lt) v.met.items has.low;
  }

  view_kept : (gen : GenState) (v : ViewValue) → IsKeptView words homes s gen v → IsKeptView new homes after_s gen (forgets page v)
  view_kept gen v kept = record {
    generation = kept.generation;
    parent = kept.parent;
    patches = kept.patches;
    jumps = kept.jumps;
    reach = kept.reach;
    root = kept.root;
    pages = kept.pages;
    nodes = kept.nodes;
    met = met_kept v kept.met;
    residents = kept.residents;
    text = all_more (IsKeptText words homes gen.number) (IsKeptText new homes gen.number) (text_kept gen.number) gen.text kept.text;
    leaves = record { text = kept.leaves.text; pages = kept.leaves.pages };
    spelled = spelled_kept gen.number kept.spelled;
  }

  view_after : (k : ℕ) → view_of after_r.views k ≡ option_map (forgets page) (view_of r.views k)
  view_after k = found_mapped generation_number (forgets page) (λ v. refl) r.views.views k

  views_kept : (k : ℕ) → MatchOption (living_at after_s k) (view_of after_r.views k ≡ None) (λ gen. IsSomeAnd (view_of after_r.views k) (IsKeptView new homes after_s gen))
  views_kept k = by_living (living_at s k) (st.views k)
    where
      by_living : (o : Option GenState) → MatchOption o (view_of r.views k ≡ None) (λ gen. IsSomeAnd (view_of r.views k) (IsKeptView words homes s gen))
          → MatchOption o (view_of after_r.views k ≡ None) (λ gen. IsSomeAnd (view_of after_r.views k) (IsKeptView new homes after_s gen))
      by_living None e = view_after k ∙ rw e refl
      by_living (Some gen) kept = rw (view_after k) (by_view (view_of r.views k) kept)
        where
          by_view : (o : Option ViewValue) → IsSomeAnd o (IsKeptView words homes s gen) → IsSomeAnd (option_map (forgets page) o) (IsKeptView new homes after_s gen)
          by_view None h = h
          by_view (Some v) h = view_kept gen v h

  home_kept : (t : Tenant) → recorded_frame after_r t ≡ recorded_frame r t
  home_kept (TextOf k n) = rw (view_after k) (by_view (view_of r.views k))
    where
      by_view : (o : Option ViewValue) → option_and_then (λ v. text_frame v n) (option_map (forgets page) o) ≡ option_and_then (λ v. text_frame v n) o
      by_view None = refl
      by_view (Some v) = refl
  home_kept (NodeOf k level prefix) = rw (view_after k) (by_view (view_of r.views k))
    where
      by_view : (o : Option ViewValue) → option_and_then (λ v. node_frame v level prefix) (option_map (forgets page) o) ≡ option_and_then (λ v. node_frame v level prefix) o
      by_view None = refl
      by_view (Some v) = refl
  home_kept (DataOf n) = refl

  zero_kept : slice_index new.items 0 ≡ 0
  zero_kept = are.others 0 (λ node has e. absurd (omega arith)) ∙ st.zero_word

  pub cleared_standing : StandsFor new after_r homes after_s
  cleared_standing = record {
    sizes = record {
      of_records = st.sizes.of_records;
      of_words = are.frames ∙ st.sizes.of_words;
      whole = are.size ∙ st.sizes.whole;
      of_frames = st.sizes.of_frames;
      last_birth = st.sizes.last_birth;
    };
    zero_word = zero_kept;
    housed = record {
      separate = record { once = st.housed.separate.once; apart = st.housed.separate.apart; low = st.housed.separate.low; counted = st.housed.separate.counted };
      each = st.housed.each;
    };
    at_home = λ t. home_kept t ∙ st.at_home t;
    pages = all_more (IsKeptPage words r homes) (IsKeptPage new after_r homes) page_kept s.pages st.pages;
    frames = λ f lt. frame_kept f lt (st.frames f lt);
    views = views_kept;
    born = st.born;
    last = st.last;
    births = st.births;
    raised = st.raised;
  }

pub clear_standing : ClearedStand
clear_standing words new r homes s page st may are = cleared_standing words new r homes s page st may are
