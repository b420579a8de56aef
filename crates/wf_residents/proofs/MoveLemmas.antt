-- A hart that moves: it is in a view, its move can be made, and what words and records stand for then.
use Rattle.std.proofs.Common.{◌≡◌, ◌≢◌, ◌==◌, ◌↔◌, ◌⊎◌, ◌<◌, ℕ, List, [], ◌∷◌, Bool, true, false, Option, Some, None, refl, sym, ap, subst, ◌∙◌, inl, inr, arith, if◌then◌else◌, is_some, map}
use Rattle.std.specs.Prelude.{IsSomeAnd, IsTrue, MatchOption, slice_get, unwrap_or}
use Rattle.std.specs.Option.{option_map}
use Rattle.std.specs.List.{AllByRecursion, find}
use Rattle.wf_outside.specs.Lists.{IsRising}
use Rattle.std.proofs.lemmas.Bool.Decides.{nat_tests}
use Rattle.wf_frames.specs.Layout.{WordsValue}
use Rattle.wf_views.specs.declared.plan.Change.{Change}
use Rattle.wf_views.specs.declared.plan.Change.TheVariants.{Move}
use Rattle.wf_views.specs.declared.records.Records.{Records}
use Rattle.wf_views.specs.Lists.{MayAdd, RoomyValue, found_by, has_number, number_added, number_removed}
use Rattle.wf_views.specs.Views.{ViewValue, generation_number, view_of, with_resident, with_view, without_resident}
use Rattle.wf_flat.specs.declared.state.Life.TheVariants.{Running}
use Rattle.wf_flat.specs.State.{FlatState, GenState, HartState}
use Rattle.wf_effects.specs.Effects.{hart_moved, moved_to}
use Rattle.wf_effects.specs.Generations.{is_live}
use Rattle.wf_homes.specs.Homes.{Homes}
use Rattle.wf_homes.specs.Kept.{HasResidents, IsKeptView, IsResident}
use Rattle.wf_homes.specs.Stands.{StandsFor, living_at}
use Rattle.wf_homes.proofs.FoundLemmas.{at_some, found_changed, found_number, some_at}
use Rattle.wf_homes.proofs.ListLemmas.{all_more, one_or_two, true_or_false}
use Rattle.wf_space.proofs.AlikeLemmas.{harts_differ}
use Rattle.wf_space.proofs.MeetLemmas.{some_of}
use Rattle.wf_space.specs.Changes.{MayNote, with_changes}
use Rattle.wf_residents.specs.declared.migration.Migration.{Migration}
use Rattle.wf_residents.specs.Carried.{MayMigrate}
use Rattle.wf_residents.specs.Laws.{MigrationStands, MigrationsCanBeMade}
use Rattle.wf_residents.specs.Plans.{HasRoomToMove, changes_between, migration_changes}
use Rattle.wf_residents.specs.Refusals.{CanMigrate, has_resident, residence_of}
use Rattle.wf_residents.proofs.HartLemmas.{at_is, if_of, is_at, known, others_stay, unknown, was_at}
use Rattle.wf_residents.proofs.KeepLemmas.{added_here, added_other, removed_here, removed_other}
use Rattle.wf_residents.proofs.ViewLemmas.{peopled, peopled_stands}

-- who is in views when a hart moves
came : ℕ → ℕ → ViewValue → RoomyValue ℕ
came h new v = if generation_number v == new then number_added h v.residents else v.residents

move_people : ℕ → ℕ → ℕ → ViewValue → RoomyValue ℕ
move_people h old new v = if generation_number v == old then number_removed h (came h new v) else came h new v

-- numbers that are tested
pub test_yes : (a b : ℕ) → (a == b) ≡ true → a ≡ b
test_yes a b e = grind (arith, nat_tests)

test_no : (a b : ℕ) → (a == b) ≡ false → a ≢ b
test_no a b e same = absurd (let t : (a == b) ≡ true = grind (arith, nat_tests) in let k : true ≡ false = sym t ∙ e in cc)

pub yes_test : (a b : ℕ) → a ≡ b → (a == b) ≡ true
yes_test a b e = grind (arith, nat_tests)

no_test : (a b : ℕ) → a ≢ b → (a == b) ≡ false
no_test a b apart = grind (arith, nat_tests)

-- the view of a generation that lives
pub live_view : (words : WordsValue) (r : Records) (homes : Homes) (s : FlatState) → StandsFor words r homes s → (g : ℕ) → is_live s g ≡ true
    → (gen : GenState) × (slice_get s.gens g ≡ Some gen) × (gen.live ≡ true) × IsSomeAnd (view_of r.views g) (IsKeptView words homes s gen)
live_view words r homes s st g live = by_gen (slice_get s.gens g) refl live
  where
    by_gen : (o : Option GenState) → slice_get s.gens g ≡ o → unwrap_or (option_map (λ gen. gen.live) o) false ≡ true
        → (gen : GenState) × (slice_get s.gens g ≡ Some gen) × (gen.live ≡ true) × IsSomeAnd (view_of r.views g) (IsKeptView words homes s gen)
    by_gen None e l = absurd cc
    by_gen (Some gen) e l =
        let t : gen.live ≡ true = l in
        let at : living_at s g ≡ Some gen = rw (e, t) refl in
        let kept : IsSomeAnd (view_of r.views g) (IsKeptView words homes s gen) =
        (let h : MatchOption (Some gen) (view_of r.views g ≡ None) (λ gen. IsSomeAnd (view_of r.views g) (IsKeptView words homes s gen)) = subst (λ (o : Option GenState). MatchOption o (view_of r.views g ≡ None) (λ gen. IsSomeAnd (view_of r.views g) (IsKeptView words homes s gen))) at (st.views g) in h) in
        (gen, e, t, kept)

-- each view is found by its generation, where these rise
pub rising_found : (vs : List ViewValue) → IsRising (map generation_number vs) → AllByRecursion (λ v. found_by generation_number vs v.generation ≡ Some v) vs
rising_found [] up = tt
rising_found (v ∷ vs) up = (
  (let u : (v.generation == v.generation) ≡ true = yes_test v.generation v.generation refl in rw u refl),
  later vs vs up.0 (rising_found vs up.1),
)
  where
    later : (ws us : List ViewValue) → AllByRecursion (λ m. v.generation < m) (map generation_number ws) → AllByRecursion (λ w. found_by generation_number us w.generation ≡ Some w) ws
        → AllByRecursion (λ w. found_by generation_number (v ∷ us) w.generation ≡ Some w) ws
    later [] us above all = tt
    later (w ∷ ws) us above all = (
      (let lt : v.generation < w.generation = above.0 in let u : (v.generation == w.generation) ≡ false = grind (arith, nat_tests) in rw u all.0),
      later ws us above.1 all.1,
    )

-- a search among views finds the one of a number, where each that passes has it
find_view : (p : ViewValue → Bool) (vs : List ViewValue) (g : ℕ) → AllByRecursion (λ v. p v ≡ true → v.generation ≡ g) vs
    → IsSomeAnd (found_by generation_number vs g) (λ v. p v ≡ true) → option_map generation_number (find p vs) ≡ Some g
find_view p [] g each there = absurd there
find_view p (v ∷ vs) g each there = elim (true_or_false (p v)) [
  | inl t ↦ rw t (ap Some (each.0 t))
  | inr t ↦ (elim (true_or_false (v.generation == g)) [
    | inl u ↦ absurd (let k : p v ≡ true = rw u at there in let f : true ≡ false = sym k ∙ t in cc)
    | inr u ↦ rw t (find_view p vs g each.1 (rw u at there))
  ])
]

module _ (words : WordsValue) (r : Records) (homes : Homes) (s : FlatState) (st : StandsFor words r homes s) where
  -- the residents of a view are the harts that run in its generation
  pub people_of : (k : ℕ) (v : ViewValue) → view_of r.views k ≡ Some v → HasResidents v s
  people_of k v e = by_living (living_at s k) (st.views k)
    where
      by_living : (o : Option GenState) → MatchOption o (view_of r.views k ≡ None) (λ gen. IsSomeAnd (view_of r.views k) (IsKeptView words homes s gen)) → HasResidents v s
      by_living None none = absurd (let f : Some v ≡ None = sym e ∙ none in cc)
      by_living (Some gen) kept = (at_some (view_of r.views k) (IsKeptView words homes s gen) v e kept).residents

  module _ (m : Migration) (up : IsRising (map generation_number r.views.views)) (may : MayMigrate s m) where
    abbrev h : ℕ
    h = m.hart

    abbrev new : ℕ
    new = m.generation

    hart : (x : HartState) × (slice_get s.harts h ≡ Some x) × ((x.life ≡ Running) × (is_live s x.generation ≡ true))
    hart = some_of (slice_get s.harts h) (λ (x : HartState). (x.life ≡ Running) × (is_live s x.generation ≡ true)) may.runs

    abbrev old : ℕ
    old = hart.0.generation

    runs_there : (g : ℕ) → old ≡ g → IsResident s g h
    runs_there g e = some_at (slice_get s.harts h) (λ (x : HartState). (x.life ≡ Running) × (x.generation ≡ g)) hart.0 hart.1 (hart.2.0, e)

    old_view : (v : ViewValue) × (view_of r.views old ≡ Some v) × (has_resident h v ≡ true)
    old_view =
        let live = live_view words r homes s st old hart.2.1 in
        let v = some_of (view_of r.views old) (IsKeptView words homes s live.0) live.3 in
        let number : v.0.generation ≡ old = found_number generation_number r.views.views old v.0 v.1 in
        (v.0, v.1, (v.2.residents h).1 (runs_there v.0.generation (sym number)))

    resides : residence_of r h ≡ Some old
    resides = find_view (has_resident h) r.views.views old
        (all_more (λ v. found_by generation_number r.views.views v.generation ≡ Some v) (λ v. has_resident h v ≡ true → v.generation ≡ old)
        (λ v e t. (sym (was_at s h (moved_to new) hart.0 hart.1 v.generation ((people_of v.generation v e h).0 t)))) r.views.views (rising_found r.views.views up))
        (some_at (view_of r.views old) (λ v. has_resident h v ≡ true) old_view.0 old_view.1 old_view.2)

    pub can_migrate : CanMigrate r h
    can_migrate = ap is_some resides

    changes_are : migration_changes r m ≡ changes_between h old new
    changes_are = rw resides refl

    new_view : (v : ViewValue) × (view_of r.views new ≡ Some v)
    new_view =
        let live = live_view words r homes s st new may.live in
        let v = some_of (view_of r.views new) (IsKeptView words homes s live.0) live.3 in
        (v.0, v.1)

    pub can_note : HasRoomToMove r m → MayNote r (migration_changes r m)
    can_note room = subst (MayNote r) (sym changes_are) (by_test (old == new) refl)
      where
        by_test : (b : Bool) → (old == new) ≡ b → MayNote r (changes_between h old new)
        by_test true e = rw e tt
        by_test false e = rw e ((ap is_some old_view.1, some_at (view_of r.views new) (λ v. MayAdd h v.residents) new_view.0 new_view.1 (room new_view.0 new_view.1)), tt)

    -- the state after the move
    abbrev after : FlatState
    after = hart_moved s h new

    here_after : (g : ℕ) → new ≡ g → IsResident after g h
    here_after g e = at_is s h (moved_to new) hart.0 hart.1 g (hart.2.0, e)

    only_after : (g : ℕ) → IsResident after g h → new ≡ g
    only_after g is = (is_at s h (moved_to new) hart.0 hart.1 g is).1

    -- within its own generation
    own : old ≡ new → StandsFor words r homes after
    own same = harts_differ words r homes s after.harts s.inside st (λ g x. by_hart g x (one_or_two x h))
      where
        by_hart : (g x : ℕ) → (x ≡ h) ⊎ (x ≢ h) → IsResident s g x ↔ IsResident after g x
        by_hart g x (inl i) = subst (λ (y : ℕ). IsResident s g y ↔ IsResident after g y) (sym i)
            (λ is. here_after g (sym same ∙ was_at s h (moved_to new) hart.0 hart.1 g is), λ is. runs_there g (same ∙ only_after g is))
        by_hart g x (inr apart) = (let stay = others_stay s h (moved_to new) g x apart in (λ is. stay.1 is, λ is. stay.0 is))

    -- between two
    module _ (two : old ≢ new) where
      who_h : (v : ViewValue) → HasResidents v s → IsTrue (has_number (move_people h old new v).items h) ↔ IsResident after v.generation h
      unfolding move_people came
      who_h v has = by_tests (v.generation == old) (v.generation == new) refl refl
        where
          by_tests : (a b : Bool) → (v.generation == old) ≡ a → (v.generation == new) ≡ b → IsTrue (has_number (move_people h old new v).items h) ↔ IsResident after v.generation h
          by_tests true b e f =
              let no_more : has_number (move_people h old new v).items h ≡ false = rw e (removed_here h (came h new v)) in
              unknown (has_number (move_people h old new v).items h) (IsResident after v.generation h) no_more (λ is. two (sym (test_yes v.generation old e) ∙ sym (only_after v.generation is)))
          by_tests false true e f =
              let there : has_number (move_people h old new v).items h ≡ true = rw (e, f) (added_here h v.residents) in
              known (has_number (move_people h old new v).items h) (IsResident after v.generation h) there (here_after v.generation (sym (test_yes v.generation new f)))
          by_tests false false e f = rw (e, f) (
            λ t. absurd (test_no v.generation old e (sym (was_at s h (moved_to new) hart.0 hart.1 v.generation ((has h).0 t)))),
            λ is. absurd (test_no v.generation new f (sym (only_after v.generation is))),
          )

      others_same : (v : ViewValue) (x : ℕ) → x ≢ h → has_number (move_people h old new v).items x ≡ has_number v.residents.items x
      unfolding move_people came
      others_same v x apart = by_tests (v.generation == old) (v.generation == new) refl refl
        where
          by_tests : (a b : Bool) → (v.generation == old) ≡ a → (v.generation == new) ≡ b → has_number (move_people h old new v).items x ≡ has_number v.residents.items x
          by_tests true true e f = rw (e, f) (removed_other h x (number_added h v.residents) apart ∙ added_other h x v.residents apart)
          by_tests true false e f = rw (e, f) (removed_other h x v.residents apart)
          by_tests false true e f = rw (e, f) (added_other h x v.residents apart)
          by_tests false false e f = rw (e, f) refl

      who : (v : ViewValue) → HasResidents v s → (x : ℕ) → IsTrue (has_number (move_people h old new v).items x) ↔ IsResident after v.generation x
      who v has x = elim (one_or_two x h) [
        | inl i ↦ subst (λ (y : ℕ). IsTrue (has_number (move_people h old new v).items y) ↔ IsResident after v.generation y) (sym i) (who_h v has)
        | inr apart ↦ (
            let stay = others_stay s h (moved_to new) v.generation x apart in
            let alike : has_number (move_people h old new v).items x ≡ has_number v.residents.items x = others_same v x apart in
            (λ t. stay.1 ((has x).0 (sym alike ∙ t)), λ is. (alike ∙ (has x).1 (stay.0 is)))
            )
      ]

      views_are : (k : ℕ) → view_of (with_view (with_view r.views new (with_resident h)) old (without_resident h)) k ≡ option_map (λ v. peopled (move_people h old new v) v) (view_of r.views k)
      unfolding move_people came
      views_are k =
          found_changed generation_number (without_resident h) (λ x. refl) (with_view r.views new (with_resident h)).views old k
          ∙ ap (option_map (if_of old (without_resident h))) (found_changed generation_number (with_resident h) (λ x. refl) r.views.views new k)
          ∙ same (view_of r.views k)
        where
          by_tests : (v : ViewValue) (a b : Bool) → (v.generation == old) ≡ a → (v.generation == new) ≡ b → if_of old (without_resident h) (if_of new (with_resident h) v) ≡ peopled (move_people h old new v) v
          by_tests v true true e f = rw (f, e) refl
          by_tests v true false e f = rw (f, e) refl
          by_tests v false true e f = rw (f, e) refl
          by_tests v false false e f = rw (f, e) refl

          same : (o : Option ViewValue) → option_map (if_of old (without_resident h)) (option_map (if_of new (with_resident h)) o) ≡ option_map (λ v. peopled (move_people h old new v) v) o
          same None = refl
          same (Some v) = ap Some (by_tests v (v.generation == old) (v.generation == new) refl refl)

      between : StandsFor words (with_changes r (Move h old new ∷ [])) homes after
      between = peopled_stands words r homes s st (with_view (with_view r.views new (with_resident h)) old (without_resident h)) (move_people h old new) after.harts s.inside views_are refl who

    pub moved_stands : StandsFor words (with_changes r (migration_changes r m)) homes after
    moved_stands = subst (λ (changes : List Change). StandsFor words (with_changes r changes) homes after) (sym changes_are) (by_test (old == new) refl)
      where
        by_test : (b : Bool) → (old == new) ≡ b → StandsFor words (with_changes r (changes_between h old new)) homes after
        by_test true e = rw e (own (test_yes old new e))
        by_test false e = rw e (between (test_no old new e))

pub move_standing : MigrationStands
move_standing words r homes s m st up may = moved_stands words r homes s st m up may

pub move_may : MigrationsCanBeMade
move_may words r homes s m st up may = (can_migrate words r homes s st m up may, can_note words r homes s st m up may)
