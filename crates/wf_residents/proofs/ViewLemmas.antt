-- Words and records stand for states that differ in their harts, where views differ in their residents.
use Rattle.std.proofs.Common.{◌≡◌, ℕ, List, Option, Some, None, refl, ◌∙◌}
use Rattle.std.specs.Prelude.{IsSomeAnd, MatchOption, option_and_then}
use Rattle.std.specs.Option.{option_map}
use Rattle.wf_frames.specs.Layout.{WordsValue}
use Rattle.wf_views.specs.declared.records.Records.{Records}
use Rattle.wf_views.specs.Lists.{RoomyValue}
use Rattle.wf_views.specs.Views.{ViewValue, ViewsValue, view_of}
use Rattle.wf_flat.specs.declared.event.Actor.{Actor}
use Rattle.wf_flat.specs.State.{FlatState, GenState, HartState, PageState}
use Rattle.wf_homes.specs.Homes.{DataOf, Homes, NodeOf, Tenant, TextOf, home_frame}
use Rattle.wf_homes.specs.Kept.{HasResidents, IsKeptFrame, IsKeptPage, IsKeptView, LiesIn, node_frame, recorded_frame, text_frame}
use Rattle.wf_homes.specs.Stands.{StandsFor, living_at}
use Rattle.wf_homes.proofs.FoundLemmas.{some_more}
use Rattle.wf_homes.proofs.ListLemmas.{all_more}
use Rattle.wf_space.specs.Alike.{with_harts}

-- a view with these residents
abbrev pub peopled : RoomyValue ℕ → ViewValue → ViewValue
peopled residents view = record view { residents = residents }

module _ (words : WordsValue) (r : Records) (homes : Homes) (s : FlatState) (st : StandsFor words r homes s) (views : ViewsValue) (people : ViewValue → RoomyValue ℕ) (harts : List HartState) (inside : Option Actor) where
  abbrev after : Records
  after = record r { views = views }

  abbrev state : FlatState
  state = with_harts s harts inside

  abbrev change : ViewValue → ViewValue
  change view = peopled (people view) view

  module _ (each : (k : ℕ) → view_of views k ≡ option_map change (view_of r.views k)) (last : views.last ≡ r.views.last) (who : (v : ViewValue) → HasResidents v s → HasResidents (change v) state) where
    view_kept : (gen : GenState) (v : ViewValue) → IsKeptView words homes s gen v → IsKeptView words homes state gen (change v)
    view_kept gen v kept = record {
      generation = kept.generation;
      parent = kept.parent;
      patches = kept.patches;
      jumps = kept.jumps;
      reach = kept.reach;
      root = kept.root;
      pages = kept.pages;
      nodes = kept.nodes;
      met = record { same = kept.met.same; low = kept.met.low };
      residents = who v kept.residents;
      text = kept.text;
      leaves = record { text = kept.leaves.text; pages = kept.leaves.pages };
      spelled = kept.spelled;
    }

    views_kept : (k : ℕ) → MatchOption (living_at state k) (view_of views k ≡ None) (λ gen. IsSomeAnd (view_of views k) (IsKeptView words homes state gen))
    views_kept k = by_living (living_at s k) (st.views k)
      where
        by_living : (o : Option GenState) → MatchOption o (view_of r.views k ≡ None) (λ gen. IsSomeAnd (view_of r.views k) (IsKeptView words homes s gen))
            → MatchOption o (view_of views k ≡ None) (λ gen. IsSomeAnd (view_of views k) (IsKeptView words homes state gen))
        by_living None e = each k ∙ rw e refl
        by_living (Some gen) kept = rw (each k) (by_view (view_of r.views k) kept)
          where
            by_view : (o : Option ViewValue) → IsSomeAnd o (IsKeptView words homes s gen) → IsSomeAnd (option_map change o) (IsKeptView words homes state gen)
            by_view None h = h
            by_view (Some v) h = view_kept gen v h

    home_kept : (t : Tenant) → recorded_frame after t ≡ recorded_frame r t
    home_kept (TextOf k page) = rw (each k) (by_view (view_of r.views k))
      where
        by_view : (o : Option ViewValue) → option_and_then (λ v. text_frame v page) (option_map change o) ≡ option_and_then (λ v. text_frame v page) o
        by_view None = refl
        by_view (Some v) = refl
    home_kept (DataOf page) = refl
    home_kept (NodeOf k level prefix) = rw (each k) (by_view (view_of r.views k))
      where
        by_view : (o : Option ViewValue) → option_and_then (λ v. node_frame v level prefix) (option_map change o) ≡ option_and_then (λ v. node_frame v level prefix) o
        by_view None = refl
        by_view (Some v) = refl

    page_kept : (p : PageState) → IsKeptPage words r homes p → IsKeptPage words after homes p
    page_kept p kept = some_more (home_frame homes (DataOf p.number)) (LiesIn words r p) (LiesIn words after p) (λ f e lies. record {
      recorded = lies.recorded;
      same_words = lies.same_words;
      writes = lies.writes;
      taken = lies.taken;
      live = lies.live;
    }) kept

    frame_kept : (f : ℕ) → IsKeptFrame words r homes s.births f → IsKeptFrame words after homes s.births f
    frame_kept f kept = record {
      state = kept.state;
      incarnation = kept.incarnation;
      few = kept.few;
      not_live = kept.not_live;
      not_taken = kept.not_taken;
    }

    pub peopled_stands : StandsFor words after homes state
    peopled_stands = record {
      sizes = record {
        of_records = st.sizes.of_records;
        of_words = st.sizes.of_words;
        whole = st.sizes.whole;
        of_frames = st.sizes.of_frames;
        last_birth = st.sizes.last_birth;
      };
      zero_word = st.zero_word;
      housed = record {
        separate = record { once = st.housed.separate.once; apart = st.housed.separate.apart; low = st.housed.separate.low; counted = st.housed.separate.counted };
        each = st.housed.each;
      };
      at_home = λ t. home_kept t ∙ st.at_home t;
      pages = all_more (IsKeptPage words r homes) (IsKeptPage words after homes) page_kept s.pages st.pages;
      frames = λ f lt. frame_kept f (st.frames f lt);
      views = views_kept;
      born = st.born;
      last = last ∙ st.last;
      births = st.births;
      raised = st.raised;
    }
