-- Harts that move and stop, and the views that they are in.
use Rattle.std.proofs.Common.{◌≡◌, ◌≢◌, ◌==◌, ◌↔◌, ℕ, zero, suc, List, [], ◌∷◌, Bool, true, false, Option, Some, None, refl, sym, ap, subst, ◌∙◌, inl, inr, arith, if◌then◌else◌}
use Rattle.std.specs.Prelude.{IsSomeAnd, IsTrue, slice_get}
use Rattle.std.specs.Option.{option_map}
use Rattle.std.proofs.lemmas.Bool.Decides.{nat_tests}
use Rattle.wf_frames.specs.Layout.{WordsValue}
use Rattle.wf_views.specs.declared.records.Records.{Records}
use Rattle.wf_views.specs.Lists.{RoomyValue, has_number, number_removed, roomier}
use Rattle.wf_views.specs.Views.{ViewValue, generation_number, view_of, with_resident_room, with_view, without_resident}
use Rattle.wf_flat.specs.declared.state.Life.TheVariants.{Running}
use Rattle.wf_flat.specs.Changes.{change_hart}
use Rattle.wf_flat.specs.Lists.{changed_at}
use Rattle.wf_flat.specs.State.{FlatState, HartState}
use Rattle.wf_flat.specs.Steps.{OfRunning}
use Rattle.wf_flat.proofs.HartLemmas.{changed_get}
use Rattle.wf_flat.proofs.ListLemmas.{changed_next}
use Rattle.wf_homes.specs.Homes.{Homes}
use Rattle.wf_homes.specs.Kept.{IsResident}
use Rattle.wf_homes.specs.Stands.{StandsFor}
use Rattle.wf_homes.proofs.FoundLemmas.{at_some, found_changed, some_at}
use Rattle.wf_homes.proofs.ListLemmas.{one_or_two, true_or_false}
use Rattle.wf_space.proofs.MeetLemmas.{some_of}
use Rattle.wf_residents.specs.Laws.{ResidentRoomStands, StopStands}
use Rattle.wf_residents.proofs.KeepLemmas.{removed_here, removed_other}
use Rattle.wf_residents.proofs.ViewLemmas.{peopled, peopled_stands}

-- what stands elsewhere than the change
pub changed_past : {A : Type 0} (xs : List A) (i k : ℕ) (f : A → A) → k ≢ i → slice_get (changed_at xs i f) k ≡ slice_get xs k
changed_past [] i k f apart = refl
changed_past (x ∷ xs) zero zero f apart = absurd (apart refl)
changed_past (x ∷ xs) zero (suc k) f apart = refl
changed_past (x ∷ xs) (suc i) zero f apart = rw (changed_next x xs i f) refl
changed_past (x ∷ xs) (suc i) (suc k) f apart = rw (changed_next x xs i f) (changed_past xs i k f (λ e. apart (ap suc e)))

-- a test that is known, and a fact that is known
pub known : (b : Bool) (P : Type 0) → b ≡ true → P → IsTrue b ↔ P
known b P e p = (λ t. p, λ q. e)

pub unknown : (b : Bool) (P : Type 0) → b ≡ false → (P → ⊥) → IsTrue b ↔ P
unknown b P e none = (λ t. absurd (let k : true ≡ false = sym t ∙ e in cc), λ p. absurd (none p))

-- the hart that changes
module _ (s : FlatState) (h : ℕ) (f : HartState → HartState) where
  abbrev after : FlatState
  after = change_hart s h f

  -- the others stay where they are
  pub others_stay : (g x : ℕ) → x ≢ h → IsResident after g x ↔ IsResident s g x
  others_stay g x apart =
      let e : slice_get after.harts x ≡ slice_get s.harts x = changed_past s.harts h x f apart in (
        λ is. subst (λ (o : Option HartState). IsSomeAnd o (λ hart. (hart.life ≡ Running) × (hart.generation ≡ g))) e is,
        λ is. subst (λ (o : Option HartState). IsSomeAnd o (λ hart. (hart.life ≡ Running) × (hart.generation ≡ g))) (sym e) is,
      )

  module _ (hart : HartState) (there : slice_get s.harts h ≡ Some hart) where
    changed : slice_get after.harts h ≡ Some (f hart)
    changed = changed_get s.harts h f hart there

    pub is_at : (g : ℕ) → IsResident after g h → ((f hart).life ≡ Running) × ((f hart).generation ≡ g)
    is_at g is = at_some (slice_get after.harts h) (λ (x : HartState). (x.life ≡ Running) × (x.generation ≡ g)) (f hart) changed is

    pub at_is : (g : ℕ) → ((f hart).life ≡ Running) × ((f hart).generation ≡ g) → IsResident after g h
    at_is g is = some_at (slice_get after.harts h) (λ (x : HartState). (x.life ≡ Running) × (x.generation ≡ g)) (f hart) changed is

    pub was_at : (g : ℕ) → IsResident s g h → hart.generation ≡ g
    was_at g is = (at_some (slice_get s.harts h) (λ (x : HartState). (x.life ≡ Running) × (x.generation ≡ g)) hart there is).1

-- a view that changes where it is that of a generation
abbrev pub if_of : ℕ → (ViewValue → ViewValue) → ViewValue → ViewValue
if_of g f v = if generation_number v == g then f v else v

-- room for a resident
room_people : ℕ → ViewValue → RoomyValue ℕ
room_people g v = if generation_number v == g then roomier 1 v.residents else v.residents

pub room_standing : ResidentRoomStands
unfolding room_people
room_standing r g = λ words homes s st.
    peopled_stands words r homes s st (with_view r.views g (with_resident_room 1)) (room_people g) s.harts s.inside
    (λ k. (found_changed generation_number (with_resident_room 1) (λ x. refl) r.views.views g k ∙ same (view_of r.views k)))
    refl (λ v has h. by_test s v (generation_number v == g) h refl (has h))
  where
    same : (o : Option ViewValue) → option_map (if_of g (with_resident_room 1)) o ≡ option_map (λ v. peopled (room_people g v) v) o
    same None = refl
    same (Some v) = elim (true_or_false (generation_number v == g)) [
      | inl t ↦ (rw t refl)
      | inr t ↦ (rw t refl)
    ]

    by_test : (s : FlatState) (v : ViewValue) (b : Bool) (h : ℕ) → (generation_number v == g) ≡ b → IsTrue (has_number v.residents.items h) ↔ IsResident s v.generation h → IsTrue (has_number (room_people g v).items h) ↔ IsResident s v.generation h
    by_test s v true h e has = rw e has
    by_test s v false h e has = rw e has

-- a hart leaves a view
stop_people : ℕ → ℕ → ViewValue → RoomyValue ℕ
stop_people h g v = if generation_number v == g then number_removed h v.residents else v.residents

stop_stands_for : (words : WordsValue) (r : Records) (homes : Homes) (s : FlatState) (h g : ℕ) (stop : HartState → HartState) → StandsFor words r homes s → OfRunning s h (λ x. x.generation ≡ g)
    → ((x : HartState) → (stop x).life ≢ Running) → StandsFor words (record r { views = with_view r.views g (without_resident h) }) homes (change_hart s h stop)
unfolding stop_people
stop_stands_for words r homes s h g stop st runs stops =
    peopled_stands words r homes s st (with_view r.views g (without_resident h)) (stop_people h g) (change_hart s h stop).harts s.inside
    (λ k. (found_changed generation_number (without_resident h) (λ x. refl) r.views.views g k ∙ same (view_of r.views k)))
    refl (λ v has x. who v x (has x) (generation_number v == g) refl)
  where
    hart : (x : HartState) × (slice_get s.harts h ≡ Some x) × ((x.life ≡ Running) × (x.generation ≡ g))
    hart = some_of (slice_get s.harts h) (λ (x : HartState). (x.life ≡ Running) × (x.generation ≡ g)) runs

    same : (o : Option ViewValue) → option_map (if_of g (without_resident h)) o ≡ option_map (λ v. peopled (stop_people h g v) v) o
    same None = refl
    same (Some v) = elim (true_or_false (generation_number v == g)) [
      | inl t ↦ (rw t refl)
      | inr t ↦ (rw t refl)
    ]

    none_there : (k : ℕ) → IsResident (change_hart s h stop) k h → ⊥
    none_there k is = stops hart.0 (is_at s h stop hart.0 hart.1 k is).0

    who : (v : ViewValue) (x : ℕ) → IsTrue (has_number v.residents.items x) ↔ IsResident s v.generation x → (b : Bool) → (generation_number v == g) ≡ b
        → IsTrue (has_number (stop_people h g v).items x) ↔ IsResident (change_hart s h stop) v.generation x
    who v x has true e = elim (one_or_two x h) [
      | inl i ↦ (let gone : has_number (number_removed h v.residents).items h ≡ false = removed_here h v.residents in
          subst (λ (y : ℕ). IsTrue (has_number (stop_people h g v).items y) ↔ IsResident (change_hart s h stop) v.generation y) (sym i) (rw e (unknown (has_number (number_removed h v.residents).items h) (IsResident (change_hart s h stop) v.generation h) gone (none_there v.generation))))
      | inr apart ↦ (
          let alike : has_number (number_removed h v.residents).items x ≡ has_number v.residents.items x = removed_other h x v.residents apart in
          let stay = others_stay s h stop v.generation x apart in
          rw e (λ t. stay.1 (has.0 (sym alike ∙ t)), λ is. (alike ∙ has.1 (stay.0 is)))
          )
    ]
    who v x has false e = elim (one_or_two x h) [
      | inl i ↦ (
          let apart : g ≢ v.generation = (λ f. (let t : (v.generation == g) ≡ true = grind (arith, nat_tests) in let k : true ≡ false = sym t ∙ e in cc)) in
          subst (λ (y : ℕ). IsTrue (has_number (stop_people h g v).items y) ↔ IsResident (change_hart s h stop) v.generation y) (sym i)
          (rw e (λ t. absurd (apart (sym hart.2.1 ∙ was_at s h stop hart.0 hart.1 v.generation (subst (IsResident s v.generation) i (has.0 (subst (λ (y : ℕ). has_number v.residents.items y ≡ true) (sym i) t))))), λ is. absurd (none_there v.generation is)))
          )
      | inr apart ↦ (
          let stay = others_stay s h stop v.generation x apart in
          rw e (λ t. stay.1 (has.0 t), λ is. has.1 (stay.0 is))
          )
    ]

pub stop_standing : StopStands
stop_standing words r homes s h g stop st runs stops = stop_stands_for words r homes s h g stop st runs stops
