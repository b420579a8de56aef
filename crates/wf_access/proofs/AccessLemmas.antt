-- A page of data changes with the words of its frame, and keeps its number, right and stage; and harts change that run on:
-- what words and records stand for then.
use Rattle.std.proofs.Common.{◌≡◌, ◌≢◌, ◌<◌, ◌+◌, ◌*◌, ◌==◌, ◌++◌, ℕ, zero, suc, List, [], ◌∷◌, true, false, Option, Some, None, length, map, refl, sym, ap, subst, ◌∙◌, inl, inr, arith, if◌then◌else◌}
use Rattle.std.specs.Prelude.{IsSomeAnd, MatchOption, slice_get, slice_index}
use Rattle.std.specs.Option.{option_map}
use Rattle.std.specs.List.{AllByRecursion, flat_map}
use Rattle.std.specs.Set.{is_member}
use Rattle.std.proofs.lemmas.Bool.Decides.{nat_tests}
use Rattle.wf_frames.specs.Layout.{WordsValue, frame_word_place}
use Rattle.wf_views.specs.declared.records.Records.{Records}
use Rattle.wf_views.specs.Views.{ViewValue, view_of}
use Rattle.wf_outside.specs.Pages.{PageValue}
use Rattle.wf_flat.specs.declared.event.Actor.{Actor}
use Rattle.wf_flat.specs.Accesses.{is_ending}
use Rattle.wf_flat.specs.Lists.{changed_by}
use Rattle.wf_flat.specs.Memory.{data_in, has_met}
use Rattle.wf_flat.specs.State.{FlatState, GenState, HartState, PageState}
use Rattle.wf_homes.specs.Homes.{DataOf, Homes, NodeOf, Tenant, TextOf, home_frame, node_tenants, same_tenant, tenants_of, text_tenants}
use Rattle.wf_homes.specs.Entries.{SpellsView, data_leaf, private_or, shared_leaf}
use Rattle.wf_homes.specs.Kept.{HasNodeFor, HasResidents, HasWords, IsKeptFrame, IsKeptPage, IsKeptText, IsKeptView, LiesIn, fields_at, word_of_frame}
use Rattle.wf_homes.specs.Stands.{StandsFor, living_at}
use Rattle.wf_homes.proofs.FoundLemmas.{some_more}
use Rattle.wf_homes.proofs.ListLemmas.{all_map, all_more, one_or_two, true_or_false}
use Rattle.wf_homes.proofs.PlaceLemmas.{home_low}
use Rattle.wf_access.proofs.HartLemmas.{ran, runs_on}

-- only the words of one frame change, and the count of writes in its frame word
pub record IsOneFrame (old new : WordsValue) (frame : ℕ) : Type 0 where
  pub frames : new.frames ≡ old.frames
  pub size : length new.items ≡ length old.items
  pub zero_word : slice_index new.items 0 ≡ slice_index old.items 0
  pub inc : (fields_at new frame).inc ≡ (fields_at old frame).inc
  pub taken : (fields_at new frame).taken ≡ (fields_at old frame).taken
  pub live : (fields_at new frame).live ≡ (fields_at old frame).live
  pub others : (f : ℕ) → f < old.frames → f ≢ frame → slice_index new.items (frame_word_place f) ≡ slice_index old.items (frame_word_place f)
  pub words : (f i : ℕ) → f < old.frames → f ≢ frame → i < 512 → word_of_frame new f i ≡ word_of_frame old f i

-- a page keeps its number, right and stage
pub record KeepsPage (g : PageState → PageState) : Type 0 where
  pub number : (p : PageState) → (g p).number ≡ p.number
  pub write : (p : PageState) → (g p).write ≡ p.write
  pub stage : (p : PageState) → (g p).stage ≡ p.stage

abbrev pub number_of : PageState → ℕ
number_of p = p.number

all_two : (P Q : PageState → Type 0) (xs : List PageState) → AllByRecursion P xs → AllByRecursion Q xs → AllByRecursion (λ x. P x × Q x) xs
all_two P Q [] a b = tt
all_two P Q (x ∷ xs) a b = ((a.0, b.0), all_two P Q xs a.1 b.1)

module _ (n : ℕ) (g : PageState → PageState) (keeps : KeepsPage g) where
  abbrev pub changed_if : PageState → PageState
  changed_if p = if p.number == n then g p else p

  numbers_same : (ps : List PageState) → map (λ (p : PageState). DataOf p.number) (map changed_if ps) ≡ map (λ (p : PageState). DataOf p.number) ps
  numbers_same [] = refl
  numbers_same (p ∷ ps) = elim (true_or_false (p.number == n)) [
    | inl t ↦ (rw (t, keeps.number p) (ap (λ (ts : List Tenant). DataOf p.number ∷ ts) (numbers_same ps)))
    | inr t ↦ (rw t (ap (λ (ts : List Tenant). DataOf p.number ∷ ts) (numbers_same ps)))
  ]

  leaf_same : (homes : Homes) (ps : List PageState) (q : ℕ) → data_leaf homes (data_in (map changed_if ps) q) ≡ data_leaf homes (data_in ps q)
  leaf_same homes [] q = refl
  leaf_same homes (p ∷ ps) q = elim (true_or_false (p.number == n)) [
    | inl t ↦ (elim (true_or_false (p.number == q)) [
      | inl u ↦ (rw (t, keeps.number p, u, keeps.write p) refl)
      | inr u ↦ (rw (t, keeps.number p, u) (leaf_same homes ps q))
    ])
    | inr t ↦ (elim (true_or_false (p.number == q)) [
      | inl u ↦ (rw (t, u) refl)
      | inr u ↦ (rw (t, u) (leaf_same homes ps q))
    ])
  ]

module _ (old new : WordsValue) (r : Records) (homes : Homes) (s : FlatState) (n frame : ℕ) (g : PageState → PageState) (Q : PageState → Type 0) (harts : List HartState) (inside : Option Actor) (st : StandsFor old r homes s) (one : IsOneFrame old new frame)
    (only : (t : Tenant) → home_frame homes t ≡ Some frame → t ≡ DataOf n) (keeps : KeepsPage g) (all : AllByRecursion Q s.pages)
    (lies_on : (p : PageState) (f : ℕ) → Q p → p.number ≡ n → home_frame homes (DataOf p.number) ≡ Some f → LiesIn old r p f → LiesIn new r (g p) f)
    (run : (h : ℕ) → option_map ran (slice_get harts h) ≡ option_map ran (slice_get s.harts h)) where
  abbrev pub after : FlatState
  after = record s { pages = changed_by number_of s.pages n g; harts = harts; inside = inside }

  low_of : (f : ℕ) → f < s.limits.frames → f < old.frames
  low_of f lt = (let e : old.frames ≡ s.limits.frames = st.sizes.of_words in omega arith)

  text_apart : (k m f : ℕ) → home_frame homes (TextOf k m) ≡ Some f → f ≢ frame
  text_apart k m f e same = (let two : TextOf k m ≡ DataOf n = only (TextOf k m) (rw same at e) in absurd cc)

  node_apart : (k level prefix f : ℕ) → home_frame homes (NodeOf k level prefix) ≡ Some f → f ≢ frame
  node_apart k level prefix f e same = (let two : NodeOf k level prefix ≡ DataOf n = only (NodeOf k level prefix) (rw same at e) in absurd cc)

  data_apart : (m f : ℕ) → m ≢ n → home_frame homes (DataOf m) ≡ Some f → f ≢ frame
  data_apart m f apart e same = (let two : DataOf m ≡ DataOf n = only (DataOf m) (rw same at e) in apart cc)

  home_is_low : (t : Tenant) (f : ℕ) → home_frame homes t ≡ Some f → f < old.frames
  home_is_low t f e = low_of f (home_low homes s t f st.housed.separate e)

  page_changed : (p : PageState) → p.number ≡ n → Q p → IsKeptPage old r homes p → IsKeptPage new r homes (g p)
  page_changed p same q kept =
      subst (λ (m : ℕ). IsSomeAnd (home_frame homes (DataOf m)) (LiesIn new r (g p))) (sym (keeps.number p)) (some_more (home_frame homes (DataOf p.number)) (LiesIn old r p) (LiesIn new r (g p)) (λ f e lies. lies_on p f q same e lies) kept)

  page_kept : (p : PageState) → IsKeptPage old r homes p × Q p → IsKeptPage new r homes (changed_if n g keeps p)
  page_kept p kept = elim (true_or_false (p.number == n)) [
    | inl t ↦ (rw t (page_changed p (grind (arith, nat_tests)) kept.1 kept.0))
    | inr t ↦ (
        let apart : p.number ≢ n = (λ same. absurd (let u : (p.number == n) ≡ true = grind (arith, nat_tests) in let v : true ≡ false = sym u ∙ t in cc)) in
        rw t (some_more (home_frame homes (DataOf p.number)) (LiesIn old r p) (LiesIn new r p) (λ f e lies. (
        let lt : f < old.frames = home_is_low (DataOf p.number) f e in
        let w : slice_index new.items (frame_word_place f) ≡ slice_index old.items (frame_word_place f) = one.others f lt (data_apart p.number f apart e) in
        record {
          recorded = lies.recorded;
          same_words = λ i li. one.words f i lt (data_apart p.number f apart e) li ∙ lies.same_words i li;
          writes = rw w lies.writes;
          taken = rw w lies.taken;
          live = rw w lies.live;
        }
        )) kept.0)
        )
  ]

  frame_kept : (f : ℕ) → f < s.limits.frames → IsKeptFrame old r homes s.births f → IsKeptFrame new r homes s.births f
  frame_kept f lt kept = elim (one_or_two f frame) [
    | inl same ↦ (
        let i : (fields_at new f).inc ≡ (fields_at old f).inc = rw same one.inc in
        let l : (fields_at new f).live ≡ (fields_at old f).live = rw same one.live in
        let t : (fields_at new f).taken ≡ (fields_at old f).taken = rw same one.taken in
        record {
          state = kept.state;
          incarnation = rw i kept.incarnation;
          few = rw i kept.few;
          not_live = λ none. l ∙ kept.not_live none;
          not_taken = λ none. t ∙ kept.not_taken none;
        }
        )
    | inr apart ↦ (
        let w : slice_index new.items (frame_word_place f) ≡ slice_index old.items (frame_word_place f) = one.others f (low_of f lt) apart in
        record {
          state = kept.state;
          incarnation = rw w kept.incarnation;
          few = rw w kept.few;
          not_live = λ none. rw w (kept.not_live none);
          not_taken = λ none. rw w (kept.not_taken none);
        }
        )
  ]

  text_kept : (k : ℕ) (p : PageValue) → IsKeptText old homes k p → IsKeptText new homes k p
  text_kept k p kept = some_more (home_frame homes (TextOf k p.number)) (λ f. HasWords old f p.words) (λ f. HasWords new f p.words) (λ f e has. λ i lt. one.words f i (home_is_low (TextOf k p.number) f e) (text_apart k p.number f e) lt ∙ has i lt) kept

  shared_same : (k q : ℕ) → shared_leaf homes after k q ≡ shared_leaf homes s k q
  shared_same k q = ap (λ (m : ℕ). if has_met s.met k q then m else 0) (leaf_same n g keeps homes s.pages q)

  spelled_kept : (k : ℕ) → SpellsView old homes s k → SpellsView new homes after k
  spelled_kept k spells zero prefix f e i lt =
      one.words f i (home_is_low (NodeOf k 0 prefix) f e) (node_apart k 0 prefix f e) lt ∙ spells zero prefix f e i lt ∙ ap (private_or (home_frame homes (TextOf k (prefix * 512 + i)))) (sym (shared_same k (prefix * 512 + i)))
  spelled_kept k spells (suc level) prefix f e i lt = one.words f i (home_is_low (NodeOf k (suc level) prefix) f e) (node_apart k (suc level) prefix f e) lt ∙ spells (suc level) prefix f e i lt

  leaf_node : (k : ℕ) (p : PageState) → (is_ending p.stage ≡ false → HasNodeFor homes k p.number) → is_ending (changed_if n g keeps p).stage ≡ false → HasNodeFor homes k (changed_if n g keeps p).number
  leaf_node k p has = elim (true_or_false (p.number == n)) [
    | inl t ↦ (rw (t, keeps.number p, keeps.stage p) has)
    | inr t ↦ (rw t has)
  ]

  residents_kept : (v : ViewValue) → HasResidents v s → HasResidents v after
  residents_kept v has h = (
    λ t. runs_on v.generation (slice_get s.harts h) (slice_get harts h) (sym (run h)) ((has h).0 t),
    λ q. (has h).1 (runs_on v.generation (slice_get harts h) (slice_get s.harts h) (run h) q),
  )

  view_kept : (gen : GenState) (v : ViewValue) → IsKeptView old homes s gen v → IsKeptView new homes after gen v
  view_kept gen v kept = record {
    generation = kept.generation;
    parent = kept.parent;
    patches = kept.patches;
    jumps = kept.jumps;
    reach = kept.reach;
    root = kept.root;
    pages = kept.pages;
    nodes = kept.nodes;
    met = record { same = kept.met.same; low = kept.met.low };
    residents = residents_kept v kept.residents;
    text = all_more (IsKeptText old homes gen.number) (IsKeptText new homes gen.number) (text_kept gen.number) gen.text kept.text;
    leaves = record {
      text = kept.leaves.text;
      pages = all_map (λ p. is_ending p.stage ≡ false → HasNodeFor homes gen.number p.number) (λ p. is_ending p.stage ≡ false → HasNodeFor homes gen.number p.number) (changed_if n g keeps) (leaf_node gen.number) s.pages kept.leaves.pages;
    };
    spelled = spelled_kept gen.number kept.spelled;
  }

  views_kept : (k : ℕ) → MatchOption (living_at s k) (view_of r.views k ≡ None) (λ gen. IsSomeAnd (view_of r.views k) (IsKeptView old homes s gen))
      → MatchOption (living_at after k) (view_of r.views k ≡ None) (λ gen. IsSomeAnd (view_of r.views k) (IsKeptView new homes after gen))
  views_kept k = by_living (living_at s k)
    where
      by_living : (o : Option GenState) → MatchOption o (view_of r.views k ≡ None) (λ gen. IsSomeAnd (view_of r.views k) (IsKeptView old homes s gen))
          → MatchOption o (view_of r.views k ≡ None) (λ gen. IsSomeAnd (view_of r.views k) (IsKeptView new homes after gen))
      by_living None e = e
      by_living (Some gen) kept = some_more (view_of r.views k) (IsKeptView old homes s gen) (IsKeptView new homes after gen) (λ v e h. view_kept gen v h) kept

  tenants_same : tenants_of after ≡ tenants_of s
  tenants_same = ap (λ (ts : List Tenant). flat_map text_tenants s.gens ++ ts ++ flat_map node_tenants s.gens) (numbers_same n g keeps s.pages)

  pub standing : StandsFor new r homes after
  standing = record {
    sizes = record {
      of_records = st.sizes.of_records;
      of_words = one.frames ∙ st.sizes.of_words;
      whole = one.size ∙ st.sizes.whole;
      of_frames = st.sizes.of_frames;
      last_birth = st.sizes.last_birth;
    };
    zero_word = one.zero_word ∙ st.zero_word;
    housed = record {
      separate = record { once = st.housed.separate.once; apart = st.housed.separate.apart; low = st.housed.separate.low; counted = st.housed.separate.counted };
      each = λ t. st.housed.each t ∙ ap (λ (ts : List Tenant). is_member same_tenant ts t) (sym tenants_same);
    };
    at_home = st.at_home;
    pages = all_map (λ p. IsKeptPage old r homes p × Q p) (IsKeptPage new r homes) (changed_if n g keeps) page_kept s.pages (all_two (IsKeptPage old r homes) Q s.pages st.pages all);
    frames = λ f lt. frame_kept f lt (st.frames f lt);
    views = λ k. views_kept k (st.views k);
    born = st.born;
    last = st.last;
    births = st.births;
    raised = st.raised;
  }
