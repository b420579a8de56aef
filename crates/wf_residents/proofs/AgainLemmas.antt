-- Frames can be used again where a page of data leaves.
use Rattle.std.proofs.Common.{◌≡◌, ◌≢◌, ◌<◌, ◌==◌, ◌||◌, ℕ, Bool, true, false, not, Option, Some, None, refl, sym, ap, subst, ◌∙◌, inl, inr, arith, if◌then◌else◌, nat_eq}
use Rattle.std.specs.Prelude.{nat_lt, slice_get}
use Rattle.std.specs.Option.{option_map}
use Rattle.std.proofs.lemmas.Bool.Decides.{nat_tests}
use Rattle.wf_frames.specs.declared.state.Frame.{Frame}
use Rattle.wf_frames.specs.Frames.{given}
use Rattle.wf_views.specs.declared.records.Records.{Records}
use Rattle.wf_flat.specs.State.{FlatState, PageState}
use Rattle.wf_homes.specs.Homes.{DataOf, Homes, home_frame, is_worn, without_page}
use Rattle.wf_homes.specs.Kept.{HasNoData}
use Rattle.wf_homes.proofs.ListLemmas.{one_or_two, true_or_false}
use Rattle.wf_space.proofs.LeftLemmas.{home_left}
use Rattle.wf_space.proofs.MeetLemmas.{some_of}
use Rattle.wf_space.specs.Leaving.{IsInLast, MayGo}
use Rattle.wf_residents.specs.Carried.{CanBeUsedAgain}
use Rattle.wf_residents.specs.Laws.{LeavesCanBeUsedAgain}
use Rattle.wf_residents.proofs.GivenLemmas.{changed_one, same_incarnation}
use Rattle.wf_residents.proofs.OwnLemmas.{equal_test}

below_last : (n last : ℕ) → false ≡ not (nat_lt n last) → n < last
below_last n last e = elim (true_or_false (nat_lt n last)) [
  | inl t ↦ grind (arith, nat_tests)
  | inr t ↦ absurd (let k : false ≡ true = rw t at e in cc)
]

second_false : (a b : Bool) → (a || b) ≡ false → b ≡ false
second_false true b e = absurd cc
second_false false b e = e

module _ (r : Records) (homes : Homes) (s : FlatState) (page frame : ℕ) (leaving : PageState) (may : MayGo homes s page frame leaving) (again : CanBeUsedAgain r homes) where
  -- its frame is worn where it is the last time
  worn_here : is_worn (without_page homes page true) frame ≡ true
  worn_here = (let t : nat_eq frame frame ≡ true = equal_test frame frame refl in rw may.home (rw t refl))

  worn_before : (b : Bool) (f : ℕ) → is_worn (without_page homes page b) f ≡ false → is_worn homes f ≡ false
  worn_before false f e = e
  worn_before true f e = second_false (nat_eq f frame) (is_worn homes f) (rw may.home at e)

  -- no page of data was in another frame
  none_before : (b : Bool) (f : ℕ) → f ≢ frame → HasNoData (without_page homes page b) f → HasNoData homes f
  none_before b f apart none n there = elim (one_or_two n page) [
    | inl same ↦ (
        let k : Some f ≡ Some frame = sym (subst (λ (m : ℕ). home_frame homes (DataOf m) ≡ Some f) same there) ∙ may.home in
        let one : f ≡ frame = cc in
        apart one
        )
    | inr other ↦ (
        let u : (page == n) ≡ false = grind (arith, nat_tests) in
        none n (home_left homes page b (DataOf n) ∙ rw u there)
        )
  ]

  incarnation_of : (f : ℕ) (x y : Frame) → slice_get r.frames.frames f ≡ Some x → option_map (λ z. if nat_eq f frame then given r.frames.last_birth z else z) (slice_get r.frames.frames f) ≡ Some y → y.incarnation ≡ x.incarnation
  incarnation_of f x y a e =
      let k : Some (if nat_eq f frame then given r.frames.last_birth x else x) ≡ Some y = (rw a at e) in
      let same : (if nat_eq f frame then given r.frames.last_birth x else x) ≡ y = cc in
      ap (λ (z : Frame). z.incarnation) (sym same) ∙ same_incarnation (nat_eq f frame) r.frames.last_birth x

  by_worn : (b : Bool) → IsInLast r frame b → (f : ℕ) (x : Frame) → slice_get r.frames.frames f ≡ Some x → is_worn (without_page homes page b) f ≡ false → HasNoData (without_page homes page b) f → x.incarnation < r.frames.last_birth
  by_worn b last f x a fresh none = elim (one_or_two f frame) [
    | inl same ↦ here b last (subst (λ (n : ℕ). is_worn (without_page homes page b) n ≡ false) same fresh) (subst (λ (n : ℕ). slice_get r.frames.frames n ≡ Some x) same a)
    | inr apart ↦ again f x a (worn_before b f fresh) (none_before b f apart none)
  ]
    where
      here : (b : Bool) → IsInLast r frame b → is_worn (without_page homes page b) frame ≡ false → slice_get r.frames.frames frame ≡ Some x → x.incarnation < r.frames.last_birth
      here true last fresh at_frame = absurd (let k : true ≡ false = sym worn_here ∙ fresh in cc)
      here false last fresh at_frame =
          let l = some_of (slice_get r.frames.frames frame) (λ (z : Frame). false ≡ not (nat_lt z.incarnation r.frames.last_birth)) last in
          let k : Some l.0 ≡ Some x = sym l.1 ∙ at_frame in
          let same : l.0 ≡ x = cc in
          below_last x.incarnation r.frames.last_birth (subst (λ (z : Frame). false ≡ not (nat_lt z.incarnation r.frames.last_birth)) same l.2)

pub leaves_again : LeavesCanBeUsedAgain
leaves_again r homes s page frame leaving worn may last again f y e fresh none = by_frame (slice_get r.frames.frames f) refl
  where
    found : option_map (λ z. if nat_eq f frame then given r.frames.last_birth z else z) (slice_get r.frames.frames f) ≡ Some y
    found = sym (changed_one r.frames.frames frame f (given r.frames.last_birth)) ∙ e

    by_frame : (o : Option Frame) → slice_get r.frames.frames f ≡ o → y.incarnation < r.frames.last_birth
    by_frame None a = absurd (let k : None ≡ Some y = rw a at found in cc)
    by_frame (Some x) a =
        let same : y.incarnation ≡ x.incarnation = incarnation_of r homes s page frame leaving may again f x y a found in
        let lt : x.incarnation < r.frames.last_birth = by_worn r homes s page frame leaving may again worn last f x a fresh none in
        omega arith
