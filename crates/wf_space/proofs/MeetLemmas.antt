-- A generation meets a page of data: its plan, and what words and records stand for then.
use Rattle.std.proofs.Common.{◌≡◌, ◌<◌, ◌/◌, ◌%◌, ◌==◌, ℕ, List, [], ◌∷◌, true, false, Option, Some, None, refl, sym, ap, subst, ◌∙◌, inl, inr, arith, is_some}
use Rattle.std.specs.Prelude.{IsSome, IsSomeAnd, MatchOption, option_and_then, slice_get, unwrap_or}
use Rattle.std.specs.Option.{option_map}
use Rattle.std.specs.List.{AllByRecursion}
use Rattle.wf_outside.specs.Pages.{LimitsValue}
use Rattle.wf_frames.specs.Layout.{WordsValue, word_count, word_place}
use Rattle.wf_views.specs.declared.plan.Change.{Change}
use Rattle.wf_views.specs.declared.plan.Piece.{Piece}
use Rattle.wf_views.specs.declared.plan.Piece.TheVariants.{Pte}
use Rattle.wf_views.specs.declared.plan.Plan.{Plan}
use Rattle.wf_views.specs.declared.records.Records.{Records}
use Rattle.wf_views.specs.Lists.{has_number}
use Rattle.wf_views.specs.Pages.{page_at}
use Rattle.wf_views.specs.Views.{ViewValue, generation_number, view_of, with_page_met, with_view}
use Rattle.wf_flat.specs.declared.state.Stage.TheVariants.{Here}
use Rattle.wf_flat.specs.Accesses.{is_ending, is_going}
use Rattle.wf_flat.specs.Changes.{page_met}
use Rattle.wf_flat.specs.Memory.{data_in, has_met}
use Rattle.wf_flat.specs.State.{FlatState, GenState, PageState}
use Rattle.wf_flat.proofs.FoundLemmas.{key_of_found}
use Rattle.wf_homes.specs.Entries.{data_leaf, leaf_to, right_leaf}
use Rattle.wf_homes.specs.Homes.{DataOf, Homes, NodeOf, TextOf, home_frame}
use Rattle.wf_homes.specs.Kept.{HasNodeFor, IsKeptPage, IsKeptView, LiesIn, node_frame, record_of, with_word}
use Rattle.wf_homes.specs.Laws.{MayMeet}
use Rattle.wf_homes.specs.Stands.{StandsFor, living, living_at}
use Rattle.wf_homes.proofs.FoundLemmas.{found_number, some_at}
use Rattle.wf_homes.proofs.ListLemmas.{true_or_false}
use Rattle.wf_homes.proofs.PlaceLemmas.{home_low, place_low}
use Rattle.wf_homes.proofs.SyncLemmas.{sync_standing}
use Rattle.wf_space.specs.declared.job.Job.TheVariants.{Sync}
use Rattle.wf_space.specs.Carried.{MaySync}
use Rattle.wf_space.specs.Changes.{MayNote, with_changes}
use Rattle.wf_space.specs.Leaves.{leaf_for, leaf_place, node_for}
use Rattle.wf_space.specs.Jobs.{CanMeet, CanSync, IsHereAt, IsPlanOf, RecordsHaveRoom, pieces_of}
use Rattle.wf_space.specs.Pieces.{ArePerformed, MayPerformAll}

-- what is there, and what holds of it
pub some_of : {A : Type 0} (o : Option A) (P : A → Type 0) → IsSomeAnd o P → (x : A) × (o ≡ Some x) × P x
some_of None P h = absurd h
some_of (Some x) P h = (x, refl, h)

pub some_is : {A : Type 0} (o : Option A) → IsSome o → (x : A) × (o ≡ Some x)
some_is None e = absurd cc
some_is (Some x) e = (x, refl)

match_some : {A : Type 0} (o : Option A) (N : Type 0) (P : A → Type 0) (x : A) → o ≡ Some x → MatchOption o N P → P x
match_some {A = A} o N P x e h = (let k : MatchOption (Some x) N P = subst (λ (p : Option A). MatchOption p N P) e h in k)

pub found_each : (P : PageState → Type 0) (xs : List PageState) (n : ℕ) (x : PageState) → AllByRecursion P xs → data_in xs n ≡ Some x → P x
found_each P [] n x all e = absurd cc
found_each P (y ∷ ys) n x all e = elim (true_or_false (y.number == n)) [
  | inl t ↦ (let k : Some y ≡ Some x = (rw t at e) in let same : y ≡ x = cc in subst P same all.0)
  | inr t ↦ found_each P ys n x all.1 (rw t at e)
]

live_is : (o : Option GenState) → unwrap_or (option_map (λ gen. gen.live) o) false ≡ true → (gen : GenState) × (option_and_then living o ≡ Some gen)
live_is None e = absurd cc
live_is (Some gen) e = (let t : gen.live ≡ true = e in (gen, rw t refl))

-- what is found of the page and the view
pub record IsFound (r : Records) (homes : Homes) (s : FlatState) (g page : ℕ) : Type 0 where
  pub met : PageState
  pub frame : ℕ
  pub view : ViewValue
  pub node : ℕ
  pub there : data_in s.pages page ≡ Some met
  pub number : met.number ≡ page
  pub here : met.stage ≡ Here
  pub recorded : page_at r.pages page ≡ Some (record_of met frame)
  pub home : home_frame homes (DataOf page) ≡ Some frame
  pub view_at : view_of r.views g ≡ Some view
  pub node_at : home_frame homes (NodeOf g 0 (page / 512)) ≡ Some node
  pub node_there : node_for view page ≡ Some node
  pub new : has_number view.met.items page ≡ false

module _ (words : WordsValue) (r : Records) (homes : Homes) (s : FlatState) (g page : ℕ) (st : StandsFor words r homes s) (may : MaySync s g page) where
  found : IsFound r homes s g page
  found =
      let p = some_of (data_in s.pages page) (λ (q : PageState). q.stage ≡ Here) may.here in
      let number : p.0.number ≡ page = key_of_found (λ (q : PageState). q.number) s.pages page p.0 p.1 in
      let f = some_of (home_frame homes (DataOf p.0.number)) (LiesIn words r p.0) (found_each (IsKeptPage words r homes) s.pages page p.0 st.pages p.1) in
      let gen = live_is (slice_get s.gens g) may.live in
      let v = some_of (view_of r.views g) (IsKeptView words homes s gen.0)
      (match_some (living_at s g) (view_of r.views g ≡ None) (λ (x : GenState). IsSomeAnd (view_of r.views g) (IsKeptView words homes s x)) gen.0 gen.1 (st.views g)) in
      let generation : v.0.generation ≡ g = found_number generation_number r.views.views g v.0 v.1 in
      let same : gen.0.number ≡ g = sym v.2.generation ∙ generation in
      let lasts : is_ending p.0.stage ≡ false = ap is_ending p.2 in
      let has : HasNodeFor homes gen.0.number p.0.number =
      found_each (λ (q : PageState). is_ending q.stage ≡ false → HasNodeFor homes gen.0.number q.number) s.pages page p.0 v.2.leaves.pages p.1 lasts in
      let n = some_is (home_frame homes (NodeOf g 0 (page / 512))) (rw (same, number) at has) in
      let in_view : node_frame v.0 0 (page / 512) ≡ home_frame homes (NodeOf g 0 (page / 512)) = rw v.1 at (st.at_home (NodeOf g 0 (page / 512))) in
      let low : p.0.number < 0x4000000 = found_each (λ (q : PageState). q.number < 0x4000000) s.pages page p.0 may.low p.1 in
      let new : has_number v.0.met.items page ≡ false =
      v.2.met.same page (rw number at low) ∙ ap (λ (k : ℕ). has_met s.met k page) generation ∙ may.new in
      record {
        met = p.0;
        frame = f.0;
        view = v.0;
        node = n.0;
        there = p.1;
        number = number;
        here = p.2;
        recorded = ap (λ (n : ℕ). page_at r.pages n) (sym number) ∙ f.2.recorded;
        home = ap (λ (n : ℕ). home_frame homes (DataOf n)) (sym number) ∙ f.1;
        view_at = v.1;
        node_at = n.1;
        node_there = in_view ∙ n.1;
        new = new;
      }

  pub can_sync : CanSync r g page
  can_sync = record {
    here = some_at (page_at r.pages page) IsHereAt (record_of found.met found.frame) found.recorded (record { not_going = ap is_going found.here; not_ending = ap is_ending found.here });
    view = some_at (view_of r.views g) (CanMeet page) found.view found.view_at (record { node = ap is_some found.node_there; new = found.new });
  }

  no_text : home_frame homes (TextOf g page) ≡ None
  no_text = none_is (home_frame homes (TextOf g page)) (st.housed.each (TextOf g page) ∙ may.no_text)
    where
      none_is : (o : Option ℕ) → is_some o ≡ false → o ≡ None
      none_is None e = refl
      none_is (Some x) e = absurd cc

  frames_are : r.limits.frames ≡ words.frames
  frames_are = ap (λ (l : LimitsValue). l.frames) st.sizes.of_records ∙ sym st.sizes.of_words

  abbrev at : ℕ
  at = leaf_place r.limits.frames found.node found.met.number

  abbrev value : ℕ
  value = leaf_for (record_of found.met found.frame)

  abbrev place : ℕ
  place = word_place words.frames found.node (page % 512)

  at_is : at ≡ place
  at_is = ap (λ (n : ℕ). word_place n found.node (found.met.number % 512)) frames_are ∙ ap (λ (n : ℕ). word_place words.frames found.node (n % 512)) found.number

  home_is : home_frame homes (DataOf found.met.number) ≡ Some found.frame
  home_is = ap (λ (n : ℕ). home_frame homes (DataOf n)) found.number ∙ found.home

  value_is : value ≡ data_leaf homes (Some found.met)
  value_is = sym (ap (λ (o : Option ℕ). leaf_to o (right_leaf found.met.write)) home_is)

  at_low : at < word_count words.frames
  at_low =
      let lt : found.node < s.limits.frames = home_low homes s (NodeOf g 0 (page / 512)) found.node st.housed.separate found.node_at in
      let same : words.frames ≡ s.limits.frames = st.sizes.of_words in
      let low : place < word_count words.frames = place_low words.frames found.node (page % 512) (omega arith) (omega arith) in
      subst (λ (n : ℕ). n < word_count words.frames) (sym at_is) low

  pieces_are : pieces_of r (Sync g page) ≡ Pte at value ∷ []
  pieces_are = rw (found.recorded, found.view_at, found.node_there) refl

  may_meet : MayMeet homes s g page found.node found.met
  may_meet = record { there = found.there; node_at = found.node_at; no_text = no_text; low = may.low }

  abbrev after : Records
  after = record r { views = with_view r.views g (with_page_met page) }

  module _ (plan : Plan) (is : IsPlanOf r (Sync g page) plan) where
    pub changes_may : RecordsHaveRoom r (Sync g page) → MayNote r plan.changes.items
    changes_may room = subst (MayNote r) (sym is.changes) (room, tt)

    pub pieces_may : MayPerformAll words (with_changes r plan.changes.items) plan.pieces.items
    pieces_may = subst (MayPerformAll words (with_changes r plan.changes.items)) (sym (is.pieces ∙ pieces_are)) (at_low, λ next q done. tt)

    pub carried : (new : WordsValue) (q : Records) → ArePerformed words (with_changes r plan.changes.items) plan.pieces.items new q → (h : ℕ) → StandsFor new q homes (page_met s h g page)
    carried new q performed h =
        let one : ArePerformed words (with_changes r plan.changes.items) (Pte at value ∷ []) new q =
        subst (λ (pieces : List Piece). ArePerformed words (with_changes r plan.changes.items) pieces new q) (is.pieces ∙ pieces_are) performed in
        let two : ArePerformed words after (Pte at value ∷ []) new q = subst (λ (changes : List Change). ArePerformed words (with_changes r changes) (Pte at value ∷ []) new q) is.changes one in
        let w : new ≡ with_word words place (data_leaf homes (Some found.met)) =
        two.rest.0 ∙ two.done.0 ∙ ap (λ (k : ℕ). with_word words k value) at_is ∙ ap (λ (k : ℕ). with_word words place k) value_is in
        let p : q ≡ after = two.rest.1 ∙ two.done.1 in
        let standing = sync_standing words r homes s h g page found.node found.met st may_meet in
        subst (λ (x : WordsValue). StandsFor x q homes (page_met s h g page)) (sym w)
        (subst (λ (x : Records). StandsFor (with_word words place (data_leaf homes (Some found.met))) x homes (page_met s h g page)) (sym p) standing)
