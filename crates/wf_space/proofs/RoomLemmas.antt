-- Room that is made in a view.
use Rattle.std.proofs.Common.{◌≡◌, ◌≤◌, ◌==◌, ℕ, true, Option, Some, None, length, refl, sym, subst, ◌∙◌, inl, inr, arith, if◌then◌else◌}
use Rattle.std.specs.Prelude.{IsSomeAnd, MatchOption, option_and_then}
use Rattle.std.specs.Option.{option_map}
use Rattle.std.proofs.lemmas.Bool.Decides.{nat_tests}
use Rattle.wf_frames.specs.Layout.{WordsValue}
use Rattle.wf_views.specs.declared.pages.PageAt.{PageAt}
use Rattle.wf_views.specs.declared.plan.Plan.{Plan}
use Rattle.wf_views.specs.declared.records.Records.{Records}
use Rattle.wf_views.specs.Lists.{MayAdd}
use Rattle.wf_views.specs.Pages.{page_at}
use Rattle.wf_views.specs.Views.{ViewValue, ViewsValue, generation_number, view_of, with_met_room, with_view}
use Rattle.wf_flat.specs.State.{FlatState, GenState, PageState}
use Rattle.wf_homes.specs.Homes.{DataOf, Homes, NodeOf, Tenant, TextOf, home_frame}
use Rattle.wf_homes.specs.Kept.{IsKeptFrame, IsKeptPage, IsKeptView, LiesIn, node_frame, recorded_frame, text_frame}
use Rattle.wf_homes.specs.Stands.{StandsFor, living_at}
use Rattle.wf_homes.proofs.FoundLemmas.{found_changed, found_number, some_more}
use Rattle.wf_homes.proofs.ListLemmas.{all_more, true_or_false}
use Rattle.wf_space.specs.declared.job.Job.TheVariants.{Sync}
use Rattle.wf_space.specs.Leaves.{leaf_stored}
use Rattle.wf_space.specs.Jobs.{CanMeet, CanSync, HasRoomFor, RecordsHaveRoom, node_in, pieces_of, with_room_for}

-- the leaf of a page is one piece at most
pub one_stored : (frames : ℕ) (page : Option PageAt) (node : Option ℕ) → length (leaf_stored frames page node) ≤ 1
one_stored frames None _ = omega arith
one_stored frames (Some page) None = omega arith
one_stored frames (Some page) (Some node) = omega arith

-- there is room for a page that is met
pub met_room : (v : ViewsValue) (g page : ℕ) (P : ViewValue → Type 0) → IsSomeAnd (view_of v g) P → IsSomeAnd (view_of (with_view v g (with_met_room 1)) g) (λ view. MayAdd page view.met)
met_room v g page P there = rw (found_changed generation_number (with_met_room 1) (λ x. refl) v.views g g) (by_view (view_of v g) refl there)
  where
    by_view : (o : Option ViewValue) → view_of v g ≡ o → IsSomeAnd o P → IsSomeAnd (option_map (λ x. if generation_number x == g then with_met_room 1 x else x) o) (λ view. MayAdd page view.met)
    by_view None e h = h
    by_view (Some x) e h =
        let number : x.generation ≡ g = found_number generation_number v.views g x e in
        let t : (x.generation == g) ≡ true = grind (arith, nat_tests) in
        rw t (inr (omega arith))

-- there is room for a page that is met
pub room_made : (r q : Records) (g page : ℕ) (plan : Plan) → CanSync r g page → q ≡ with_room_for r (Sync g page) → 1 ≤ plan.pieces.room → 1 ≤ plan.changes.room → HasRoomFor q (Sync g page) plan
room_made r q g page plan can e a b = record {
  pieces = (let k : length (pieces_of q (Sync g page)) ≤ 1 = one_stored q.limits.frames (page_at q.pages page) (node_in q g page) in omega arith);
  changes = b;
  records = subst (λ (p : Records). RecordsHaveRoom p (Sync g page)) (sym e) (met_room r.views g page (CanMeet page) can.view);
}

-- and the page can be met still
pub can_after : (r q : Records) (g page : ℕ) → CanSync r g page → q ≡ with_room_for r (Sync g page) → CanSync q g page
can_after r q g page can e = subst (λ (p : Records). CanSync p g page) (sym e) (record {
  here = can.here;
  view = rw (found_changed generation_number (with_met_room 1) (λ x. refl) r.views.views g g) (by_view (view_of r.views g) can.view);
})
  where
    by_view : (o : Option ViewValue) → IsSomeAnd o (CanMeet page) → IsSomeAnd (option_map (λ x. if generation_number x == g then with_met_room 1 x else x) o) (CanMeet page)
    by_view None h = h
    by_view (Some x) h = elim (true_or_false (x.generation == g)) [
      | inl t ↦ (rw t (record { node = h.node; new = h.new }))
      | inr t ↦ (rw t h)
    ]

-- what words and records stand for stays, where a view has more room
module _ (words : WordsValue) (r : Records) (homes : Homes) (s : FlatState) (g n : ℕ) (st : StandsFor words r homes s) where
  abbrev after : Records
  after = record r { views = with_view r.views g (with_met_room n) }

  abbrev roomy : ViewValue → ViewValue
  roomy v = if generation_number v == g then with_met_room n v else v

  view_after : (k : ℕ) → view_of after.views k ≡ option_map roomy (view_of r.views k)
  view_after k = found_changed generation_number (with_met_room n) (λ v. refl) r.views.views g k

  view_kept : (gen : GenState) (v : ViewValue) → IsKeptView words homes s gen v → IsKeptView words homes s gen (roomy v)
  view_kept gen v kept = elim (true_or_false (v.generation == g)) [
    | inl t ↦ rw t (record {
      generation = kept.generation;
      parent = kept.parent;
      patches = kept.patches;
      jumps = kept.jumps;
      reach = kept.reach;
      root = kept.root;
      pages = kept.pages;
      nodes = kept.nodes;
      met = record { same = kept.met.same; low = kept.met.low };
      residents = kept.residents;
      text = kept.text;
      leaves = kept.leaves;
      spelled = kept.spelled;
    })
    | inr t ↦ rw t kept
  ]

  views_kept : (k : ℕ) → MatchOption (living_at s k) (view_of after.views k ≡ None) (λ gen. IsSomeAnd (view_of after.views k) (IsKeptView words homes s gen))
  views_kept k = by_living (living_at s k) (st.views k)
    where
      by_living : (o : Option GenState) → MatchOption o (view_of r.views k ≡ None) (λ gen. IsSomeAnd (view_of r.views k) (IsKeptView words homes s gen))
          → MatchOption o (view_of after.views k ≡ None) (λ gen. IsSomeAnd (view_of after.views k) (IsKeptView words homes s gen))
      by_living None e = view_after k ∙ rw e refl
      by_living (Some gen) kept = rw (view_after k) (by_view (view_of r.views k) kept)
        where
          by_view : (o : Option ViewValue) → IsSomeAnd o (IsKeptView words homes s gen) → IsSomeAnd (option_map roomy o) (IsKeptView words homes s gen)
          by_view None h = h
          by_view (Some v) h = view_kept gen v h

  home_kept : (t : Tenant) → recorded_frame after t ≡ recorded_frame r t
  home_kept (TextOf k page) = rw (view_after k) (by_view (view_of r.views k))
    where
      by_view : (o : Option ViewValue) → option_and_then (λ v. text_frame v page) (option_map roomy o) ≡ option_and_then (λ v. text_frame v page) o
      by_view None = refl
      by_view (Some v) = elim (true_or_false (v.generation == g)) [
        | inl t ↦ rw t refl
        | inr t ↦ rw t refl
      ]
  home_kept (DataOf page) = refl
  home_kept (NodeOf k level prefix) = rw (view_after k) (by_view (view_of r.views k))
    where
      by_view : (o : Option ViewValue) → option_and_then (λ v. node_frame v level prefix) (option_map roomy o) ≡ option_and_then (λ v. node_frame v level prefix) o
      by_view None = refl
      by_view (Some v) = elim (true_or_false (v.generation == g)) [
        | inl t ↦ rw t refl
        | inr t ↦ rw t refl
      ]

  page_kept : (p : PageState) → IsKeptPage words r homes p → IsKeptPage words after homes p
  page_kept p kept = some_more (home_frame homes (DataOf p.number)) (LiesIn words r p) (LiesIn words after p) (λ f e lies. record {
    recorded = lies.recorded;
    same_words = lies.same_words;
    writes = lies.writes;
    taken = lies.taken;
    live = lies.live;
  }) kept

  frame_kept : (f : ℕ) → IsKeptFrame words r homes s.births f → IsKeptFrame words after homes s.births f
  frame_kept f kept = record {
    state = kept.state;
    incarnation = kept.incarnation;
    few = kept.few;
    not_live = kept.not_live;
    not_taken = kept.not_taken;
  }

  pub roomy_stands : StandsFor words after homes s
  roomy_stands = record {
    sizes = record {
      of_records = st.sizes.of_records;
      of_words = st.sizes.of_words;
      whole = st.sizes.whole;
      of_frames = st.sizes.of_frames;
      last_birth = st.sizes.last_birth;
    };
    zero_word = st.zero_word;
    housed = st.housed;
    at_home = λ t. home_kept t ∙ st.at_home t;
    pages = all_more (IsKeptPage words r homes) (IsKeptPage words after homes) page_kept s.pages st.pages;
    frames = λ f lt. frame_kept f (st.frames f lt);
    views = views_kept;
    born = st.born;
    last = st.last;
    births = st.births;
    raised = st.raised;
  }
