-- Each frame of a state at the start is kept, and births are counted.
use Rattle.std.proofs.Common.{◌≡◌, ◌<◌, ◌≤◌, ◌+◌, ◌-◌, ◌&&◌, ℕ, zero, suc, List, [], ◌∷◌, Bool, true, false, Some, length, refl, ap, subst, ◌∙◌, inl, inr, arith, nat_eq}
use Rattle.std.specs.Prelude.{IsSomeAnd, nat_le, nat_lt, slice_get, slice_index, sum_by}
use Rattle.std.specs.Map.{values_of}
use Rattle.std.specs.Set.{is_member}
use Rattle.std.proofs.lemmas.Bool.{cases_lt}
use Rattle.std.proofs.lemmas.Bool.Decides.{nat_tests}
use Rattle.std.proofs.lemmas.List.Sums.{sum_by-cons}
use Rattle.std.proofs.lemmas.Option.{slice_get_cases}
use Rattle.wf_frames.specs.declared.state.Frame.{Frame}
use Rattle.wf_frames.specs.declared.state.FrameState.TheVariants.{Free, InUse}
use Rattle.wf_frames.specs.Layout.{WordsValue, frame_word_place}
use Rattle.wf_views.specs.declared.records.Records.{Records}
use Rattle.wf_views.specs.Views.{ViewValue}
use Rattle.wf_flat.specs.Counts.{used_of}
use Rattle.wf_flat.specs.State.{FlatState, GenState}
use Rattle.wf_homes.specs.Homes.{DataOf, Homes, Tenant, home_frame, is_home, tenants_of}
use Rattle.wf_homes.specs.Kept.{HasNoData, IsKeptFrame, fields_at, state_of}
use Rattle.wf_homes.proofs.CountLemmas.{tenants_length}
use Rattle.wf_homes.proofs.FoundLemmas.{some_at}
use Rattle.wf_homes.proofs.ListLemmas.{true_or_false}
use Rattle.wf_start.specs.Layout.{numbered}
use Rattle.wf_start.specs.Start.{AreFirstRecords, AreFirstWords, IsFirst, IsFirstView, data_first, is_data_frame, nodes_first}
use Rattle.wf_start.proofs.KeepLemmas.{data_at, homes, used_is}

-- the frames that are numbered are members, and others are not
inside : (a : ℕ) (xs : List Tenant) (f : ℕ) → a ≤ f → f < a + length xs → is_member nat_eq (values_of (numbered a xs)) f ≡ true
inside a [] f le lt = absurd (omega arith)
inside a (x ∷ xs) f le lt = elim (true_or_false (nat_eq f a)) [
  | inl t ↦ (rw t refl)
  | inr t ↦ (rw t (inside (a + 1) xs f (grind (arith, nat_tests)) (omega arith)))
]

outside : (a : ℕ) (xs : List Tenant) (f : ℕ) → a + length xs ≤ f → is_member nat_eq (values_of (numbered a xs)) f ≡ false
outside a [] f le = refl
outside a (x ∷ xs) f le =
    let lt : a < f = omega arith in
    let t : nat_eq f a ≡ false = grind (arith, nat_tests) in
    rw t (outside (a + 1) xs f (omega arith))

and_first : (a b : Bool) → (a && b) ≡ true → a ≡ true
and_first true b e = refl
and_first false b e = absurd cc

and_second : (a b : Bool) → (a && b) ≡ true → b ≡ true
and_second true b e = e
and_second false b e = absurd cc

-- incarnations are as many at least as frames that have one
sum_big : (fs : List Frame) (t d : ℕ) → ((j : ℕ) → j < d → IsSomeAnd (slice_get fs (t + j)) (λ x. 1 ≤ x.incarnation)) → d ≤ sum_by (λ (f : Frame). f.incarnation) fs
sum_big [] t zero each = omega arith
sum_big [] t (suc d) each = absurd (each 0 (omega arith))
sum_big (x ∷ fs) (suc t) d each =
    let rest : d ≤ sum_by (λ (f : Frame). f.incarnation) fs =
    sum_big fs t d (λ j lt. (let z : suc t + j ≡ suc (t + j) = omega arith in subst (λ (k : ℕ). IsSomeAnd (slice_get (x ∷ fs) k) (λ y. 1 ≤ y.incarnation)) z (each j lt))) in
    omega (arith, sum_by-cons (λ (f : Frame). f.incarnation) x fs)
sum_big (x ∷ fs) zero zero each = omega arith
sum_big (x ∷ fs) zero (suc d) each =
    let here : 1 ≤ x.incarnation = each 0 (omega arith) in
    let rest : d ≤ sum_by (λ (f : Frame). f.incarnation) fs =
    sum_big fs zero d (λ j lt. (let z : 0 + suc j ≡ suc (0 + j) = omega arith in subst (λ (k : ℕ). IsSomeAnd (slice_get (x ∷ fs) k) (λ y. 1 ≤ y.incarnation)) z (each (suc j) (omega arith)))) in
    omega (arith, sum_by-cons (λ (f : Frame). f.incarnation) x fs)

module _ (s : FlatState) (gen : GenState) (harts : ℕ) (view : ViewValue) (r : Records) (words : WordsValue) (first : IsFirst s gen harts) (fv : IsFirstView s gen harts view) (fr : AreFirstRecords s gen view r) (fw : AreFirstWords s gen view words)
    (le : 1 ≤ s.limits.last_birth) where
  abbrev homed : Homes
  homed = homes s gen harts view r words first fv fr fw

  home_yes : (f : ℕ) → f < used_of s → is_home homed f ≡ true
  home_yes f lt = inside 0 (tenants_of s) f (omega arith) (omega (arith, tenants_length s))

  home_no : (f : ℕ) → used_of s ≤ f → is_home homed f ≡ false
  home_no f ge = outside 0 (tenants_of s) f (omega (arith, tenants_length s))

  abbrev in_data : Frame
  in_data = record { state = InUse; incarnation = 1 }

  data_used : (f : ℕ) → is_data_frame s gen f ≡ true → f < nodes_first s gen
  data_used f d = (let b : nat_lt f (nodes_first s gen) ≡ true = and_second (nat_le (data_first gen) f) (nat_lt f (nodes_first s gen)) d in grind (arith, nat_tests))

  data_past : (f : ℕ) → is_data_frame s gen f ≡ true → data_first gen ≤ f
  data_past f d = (let a : nat_le (data_first gen) f ≡ true = and_first (nat_le (data_first gen) f) (nat_lt f (nodes_first s gen)) d in grind (arith, nat_tests))

  data_recorded : (f : ℕ) → f < s.limits.frames → is_data_frame s gen f ≡ true → slice_get r.frames.frames f ≡ Some in_data
  data_recorded f lt d =
      let small : f < nodes_first s gen = data_used f d in
      let low : f < used_of s = omega (arith, used_is s gen harts view r words first fv fr fw) in
      let a : nat_lt f (used_of s) ≡ true = grind (arith, nat_tests) in
      let b : nat_lt 0 s.limits.last_birth ≡ true = grind (arith, nat_tests) in
      fr.frames f lt ∙ rw (a, d, b) refl

  data_kept : (f : ℕ) → f < s.limits.frames → is_data_frame s gen f ≡ true → IsKeptFrame words r homed s.births f
  data_kept f lt d =
      let small : f < nodes_first s gen = data_used f d in
      let past : data_first gen ≤ f = data_past f d in
      let low : f < used_of s = omega (arith, used_is s gen harts view r words first fv fr fw) in
      let yes : is_home homed f ≡ true = home_yes f low in
      let w : slice_index words.items (frame_word_place f) ≡ 0x8000010000000000 = fw.frame_words f lt ∙ rw d refl in
      let births : s.births ≡ length s.pages = first.births in
      record {
        state = some_at (slice_get r.frames.frames f) (λ (y : Frame). y.state ≡ state_of homed f) in_data (data_recorded f lt d) (rw yes refl);
        incarnation = some_at (slice_get r.frames.frames f) (λ (y : Frame). y.incarnation ≡ (fields_at words f).inc) in_data (data_recorded f lt d) (rw w refl);
        few = rw w (omega arith);
        not_live = λ none. absurd (lodged none);
        not_taken = λ none. rw w refl;
      }
    where
      lodged : HasNoData homed f → ⊥
      lodged none = elim (slice_get_cases s.pages (f - data_first gen)).1 [
        | inl p ↦ (
            let at : home_frame homed (DataOf p.0.number) ≡ Some (data_first gen + (f - data_first gen)) = data_at s gen harts view r words first fv fr fw (f - data_first gen) p.0 p.2 in
            let past : data_first gen ≤ f = data_past f d in
            let z : data_first gen + (f - data_first gen) ≡ f = omega arith in
            none p.0.number (at ∙ ap Some z)
            )
        | inr p ↦ absurd (let small : f < nodes_first s gen = data_used f d in let past : data_first gen ≤ f = data_past f d in omega arith)
      ]

  other_kept : (f : ℕ) → f < s.limits.frames → is_data_frame s gen f ≡ false → IsKeptFrame words r homed s.births f
  other_kept f lt d =
      let w : slice_index words.items (frame_word_place f) ≡ 0 = fw.frame_words f lt ∙ rw d refl in
      elim (cases_lt f (used_of s)) [
        | inl low ↦ (
            let a : nat_lt f (used_of s) ≡ true = grind (arith, nat_tests) in
            let x : Frame = record { state = InUse; incarnation = 0 } in
            let is : slice_get r.frames.frames f ≡ Some x = fr.frames f lt ∙ rw (a, d) refl in
            let yes : is_home homed f ≡ true = home_yes f low in
            record {
              state = some_at (slice_get r.frames.frames f) (λ (y : Frame). y.state ≡ state_of homed f) x is (rw yes refl);
              incarnation = some_at (slice_get r.frames.frames f) (λ (y : Frame). y.incarnation ≡ (fields_at words f).inc) x is (rw w refl);
              few = rw w (omega arith);
              not_live = λ none. rw w refl;
              not_taken = λ none. rw w refl;
            }
            )
        | inr ge ↦ (
            let a : nat_lt f (used_of s) ≡ false = grind (arith, nat_tests) in
            let x : Frame = record { state = Free; incarnation = 0 } in
            let is : slice_get r.frames.frames f ≡ Some x = fr.frames f lt ∙ rw a refl in
            let no_home : is_home homed f ≡ false = home_no f ge in
            record {
              state = some_at (slice_get r.frames.frames f) (λ (y : Frame). y.state ≡ state_of homed f) x is (rw no_home refl);
              incarnation = some_at (slice_get r.frames.frames f) (λ (y : Frame). y.incarnation ≡ (fields_at words f).inc) x is (rw w refl);
              few = rw w (omega arith);
              not_live = λ none. rw w refl;
              not_taken = λ none. rw w refl;
            }
            )
      ]

  pub frame_kept : (f : ℕ) → f < s.limits.frames → IsKeptFrame words r homed s.births f
  frame_kept f lt = elim (true_or_false (is_data_frame s gen f)) [
    | inl d ↦ data_kept f lt d
    | inr d ↦ other_kept f lt d
  ]

  pub births_raised : s.births ≤ sum_by (λ (f : Frame). f.incarnation) r.frames.frames
  births_raised = rw first.births (sum_big r.frames.frames (data_first gen) (length s.pages) each)
    where
      each : (j : ℕ) → j < length s.pages → IsSomeAnd (slice_get r.frames.frames (data_first gen + j)) (λ x. 1 ≤ x.incarnation)
      each j lt =
          let a : nat_le (data_first gen) (data_first gen + j) ≡ true = grind (arith, nat_tests) in
          let b : nat_lt (data_first gen + j) (nodes_first s gen) ≡ true = grind (arith, nat_tests) in
          let d : is_data_frame s gen (data_first gen + j) ≡ true = rw (a, b) refl in
          let u : used_of s ≤ s.limits.frames = first.fits in
          let low : data_first gen + j < s.limits.frames = omega (arith, used_is s gen harts view r words first fv fr fw) in
          some_at (slice_get r.frames.frames (data_first gen + j)) (λ (x : Frame). 1 ≤ x.incarnation) in_data (data_recorded (data_first gen + j) low d) (omega arith)
