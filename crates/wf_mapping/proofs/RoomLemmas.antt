-- What words and records stand for where there is more room in records.
use Rattle.std.proofs.Common.{◌≡◌, ◌==◌, ℕ, List, [], ◌∷◌, Option, Some, None, map, refl, sym, subst, ◌∙◌, inl, inr}
use Rattle.std.specs.Prelude.{IsSomeAnd, MatchOption, option_and_then}
use Rattle.std.specs.Option.{option_map}
use Rattle.wf_frames.specs.Layout.{WordsValue}
use Rattle.wf_views.specs.declared.records.Records.{Records}
use Rattle.wf_views.specs.Lists.{found_by}
use Rattle.wf_views.specs.Views.{ViewValue, generation_number, view_of}
use Rattle.wf_flat.specs.State.{FlatState, GenState}
use Rattle.wf_homes.specs.Homes.{DataOf, Homes, NodeOf, Tenant, TextOf, home_frame}
use Rattle.wf_homes.specs.Kept.{IsKeptFrame, IsKeptPage, IsKeptView, LiesIn, node_frame, recorded_frame, text_frame}
use Rattle.wf_homes.specs.Stands.{StandsFor, living_at}
use Rattle.wf_homes.proofs.FoundLemmas.{some_more}
use Rattle.wf_homes.proofs.ListLemmas.{all_more, true_or_false}
use Rattle.wf_mapping.specs.Laws.{RoomStands}
use Rattle.wf_mapping.specs.Room.{roomless_view, without_room}

found_roomless : (vs : List ViewValue) (g : ℕ) → found_by generation_number (map roomless_view vs) g ≡ option_map roomless_view (found_by generation_number vs g)
found_roomless [] g = refl
found_roomless (v ∷ vs) g = elim (true_or_false (v.generation == g)) [
  | inl t ↦ (rw t refl)
  | inr t ↦ (rw t (found_roomless vs g))
]

module _ (words : WordsValue) (r : Records) (homes : Homes) (s : FlatState) where
  abbrev q : Records
  q = without_room r

  view_is : (g : ℕ) → view_of q.views g ≡ option_map roomless_view (view_of r.views g)
  view_is g = found_roomless r.views.views g

  recorded_is : (t : Tenant) → recorded_frame q t ≡ recorded_frame r t
  recorded_is (TextOf g page) = rw (view_is g) (by_view (view_of r.views g))
    where
      by_view : (o : Option ViewValue) → option_and_then (λ v. text_frame v page) (option_map roomless_view o) ≡ option_and_then (λ v. text_frame v page) o
      by_view None = refl
      by_view (Some v) = refl
  recorded_is (DataOf page) = refl
  recorded_is (NodeOf g level prefix) = rw (view_is g) (by_view (view_of r.views g))
    where
      by_view : (o : Option ViewValue) → option_and_then (λ v. node_frame v level prefix) (option_map roomless_view o) ≡ option_and_then (λ v. node_frame v level prefix) o
      by_view None = refl
      by_view (Some v) = refl

  less : (gen : GenState) (v : ViewValue) → IsKeptView words homes s gen v → IsKeptView words homes s gen (roomless_view v)
  less gen v kept = record {
    generation = kept.generation;
    parent = kept.parent;
    patches = kept.patches;
    jumps = kept.jumps;
    reach = kept.reach;
    root = kept.root;
    pages = kept.pages;
    nodes = kept.nodes;
    met = record { same = kept.met.same; low = kept.met.low };
    residents = kept.residents;
    text = kept.text;
    leaves = kept.leaves;
    spelled = kept.spelled;
  }

  more : (gen : GenState) (v : ViewValue) → IsKeptView words homes s gen (roomless_view v) → IsKeptView words homes s gen v
  more gen v kept = record {
    generation = kept.generation;
    parent = kept.parent;
    patches = kept.patches;
    jumps = kept.jumps;
    reach = kept.reach;
    root = kept.root;
    pages = kept.pages;
    nodes = kept.nodes;
    met = record { same = kept.met.same; low = kept.met.low };
    residents = kept.residents;
    text = kept.text;
    leaves = kept.leaves;
    spelled = kept.spelled;
  }

  roomless_stands : StandsFor words r homes s → StandsFor words q homes s
  roomless_stands st = record {
    sizes = record {
      of_records = st.sizes.of_records;
      of_words = st.sizes.of_words;
      whole = st.sizes.whole;
      of_frames = st.sizes.of_frames;
      last_birth = st.sizes.last_birth;
    };
    zero_word = st.zero_word;
    housed = st.housed;
    at_home = λ t. recorded_is t ∙ st.at_home t;
    pages = all_more (IsKeptPage words r homes) (IsKeptPage words q homes) (λ p kept. some_more (home_frame homes (DataOf p.number)) (LiesIn words r p) (LiesIn words q p) (λ f e lies. record {
      recorded = lies.recorded;
      same_words = lies.same_words;
      writes = lies.writes;
      taken = lies.taken;
      live = lies.live;
    }) kept) s.pages st.pages;
    frames = λ f lt. (let kept : IsKeptFrame words r homes s.births f = st.frames f lt in record {
      state = kept.state;
      incarnation = kept.incarnation;
      few = kept.few;
      not_live = kept.not_live;
      not_taken = kept.not_taken;
    });
    views = λ g. by_living g (living_at s g) (st.views g);
    born = st.born;
    last = st.last;
    births = st.births;
    raised = st.raised;
  }
    where
      by_living : (g : ℕ) (o : Option GenState) → MatchOption o (view_of r.views g ≡ None) (λ gen. IsSomeAnd (view_of r.views g) (IsKeptView words homes s gen))
          → MatchOption o (view_of q.views g ≡ None) (λ gen. IsSomeAnd (view_of q.views g) (IsKeptView words homes s gen))
      by_living g None e = view_is g ∙ rw e refl
      by_living g (Some gen) kept = rw (view_is g) (by_view (view_of r.views g) kept)
        where
          by_view : (o : Option ViewValue) → IsSomeAnd o (IsKeptView words homes s gen) → IsSomeAnd (option_map roomless_view o) (IsKeptView words homes s gen)
          by_view None h = h
          by_view (Some v) h = less gen v h

  roomy_stands : StandsFor words q homes s → StandsFor words r homes s
  roomy_stands st = record {
    sizes = record {
      of_records = st.sizes.of_records;
      of_words = st.sizes.of_words;
      whole = st.sizes.whole;
      of_frames = st.sizes.of_frames;
      last_birth = st.sizes.last_birth;
    };
    zero_word = st.zero_word;
    housed = st.housed;
    at_home = λ t. sym (recorded_is t) ∙ st.at_home t;
    pages = all_more (IsKeptPage words q homes) (IsKeptPage words r homes) (λ p kept. some_more (home_frame homes (DataOf p.number)) (LiesIn words q p) (LiesIn words r p) (λ f e lies. record {
      recorded = lies.recorded;
      same_words = lies.same_words;
      writes = lies.writes;
      taken = lies.taken;
      live = lies.live;
    }) kept) s.pages st.pages;
    frames = λ f lt. (let kept : IsKeptFrame words q homes s.births f = st.frames f lt in record {
      state = kept.state;
      incarnation = kept.incarnation;
      few = kept.few;
      not_live = kept.not_live;
      not_taken = kept.not_taken;
    });
    views = λ g. by_living g (living_at s g) (st.views g);
    born = st.born;
    last = st.last;
    births = st.births;
    raised = st.raised;
  }
    where
      none_back : (o : Option ViewValue) → option_map roomless_view o ≡ None → o ≡ None
      none_back None e = refl
      none_back (Some v) e = absurd cc

      by_living : (g : ℕ) (o : Option GenState) → MatchOption o (view_of q.views g ≡ None) (λ gen. IsSomeAnd (view_of q.views g) (IsKeptView words homes s gen))
          → MatchOption o (view_of r.views g ≡ None) (λ gen. IsSomeAnd (view_of r.views g) (IsKeptView words homes s gen))
      by_living g None e = none_back (view_of r.views g) (sym (view_is g) ∙ e)
      by_living g (Some gen) kept = by_view (view_of r.views g) (subst (λ (o : Option ViewValue). IsSomeAnd o (IsKeptView words homes s gen)) (view_is g) kept)
        where
          by_view : (o : Option ViewValue) → IsSomeAnd (option_map roomless_view o) (IsKeptView words homes s gen) → IsSomeAnd o (IsKeptView words homes s gen)
          by_view None h = h
          by_view (Some v) h = more gen v h

pub room_alike : RoomStands
room_alike r q e = λ words homes s st. roomy_stands words q homes s (subst (λ (p : Records). StandsFor words p homes s) (sym e) (roomless_stands words r homes s st))
