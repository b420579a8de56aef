-- The frames after homes are taken.
use Rattle.std.proofs.Common.{◌≡◌, ◌≢◌, ◌<◌, ◌+◌, ℕ, zero, suc, List, [], ◌∷◌, Bool, true, false, Option, Some, length, refl, sym, ap, subst, ◌∙◌, inl, inr, arith, nat_eq, if◌then◌else◌}
use Rattle.std.specs.Prelude.{IsSomeAnd, nat_lt, slice_get, sum_by}
use Rattle.std.specs.List.{AllByRecursion, IsDistinct}
use Rattle.std.specs.Map.{values_of}
use Rattle.std.specs.Option.{option_map}
use Rattle.std.proofs.lemmas.Bool.Decides.{nat_tests}
use Rattle.std.proofs.lemmas.List.Sums.{sum_by-cons}
use Rattle.wf_frames.specs.declared.state.Frame.{Frame}
use Rattle.wf_frames.specs.Frames.{FramesValue, changed_at, with_frame}
use Rattle.wf_frames.proofs.FrameLemmas.{length_changed}
use Rattle.wf_homes.specs.Homes.{Tenant}
use Rattle.wf_homes.proofs.ListLemmas.{all_more, map_all}
use Rattle.wf_space.proofs.MeetLemmas.{some_of}
use Rattle.wf_space.specs.Changes.{marked}
use Rattle.wf_mapped.proofs.AnyLemmas.{AnyIs, all_and}
use Rattle.wf_mapped.proofs.ChangeLemmas.{frames_taken, is_data}

-- one frame changes
changed_here : (fs : List Frame) (i : ℕ) (g : Frame → Frame) → slice_get (changed_at fs i g) i ≡ option_map g (slice_get fs i)
changed_here [] i g = refl
changed_here (f ∷ fs) zero g = refl
changed_here (f ∷ fs) (suc i) g = changed_here fs i g

pub changed_there : (fs : List Frame) (i k : ℕ) (g : Frame → Frame) → k ≢ i → slice_get (changed_at fs i g) k ≡ slice_get fs k
changed_there [] i k g apart = refl
changed_there (f ∷ fs) zero zero g apart = absurd (apart refl)
changed_there (f ∷ fs) zero (suc k) g apart = refl
changed_there (f ∷ fs) (suc i) zero g apart = refl
changed_there (f ∷ fs) (suc i) (suc k) g apart = changed_there fs i k g (λ e. apart (ap suc e))

-- what holds of all frames, of one
pub frame_at : (P : Frame → Type 0) (fs : List Frame) (i : ℕ) (f : Frame) → AllByRecursion P fs → slice_get fs i ≡ Some f → P f
frame_at P [] i f all e = absurd cc
frame_at P (x ∷ fs) zero f all e = (let same : x ≡ f = cc in subst P same all.0)
frame_at P (x ∷ fs) (suc i) f all e = frame_at P fs i f all.1 e

-- a number is none of others
pub apart_of : (n : ℕ) (hs : List (Tenant × ℕ)) → AllByRecursion (λ m. nat_eq n m ≡ false) (values_of hs) → AllByRecursion (λ h. h.1 ≢ n) hs
apart_of n hs all = map_all (λ h. h.1 ≢ n) (λ m. nat_eq n m ≡ false) (λ (h : Tenant × ℕ). h.1) (λ h f same. absurd (let t : nat_eq n h.1 ≡ true = (let e : n ≡ h.1 = sym same in grind (arith, nat_tests)) in let k : true ≡ false = sym t ∙ f in cc)) hs all

pub taken_length : (hs : List (Tenant × ℕ)) (v : FramesValue) → length (frames_taken hs v).frames ≡ length v.frames
taken_length [] v = refl
taken_length (h ∷ hs) v = taken_length hs (with_frame v h.1 (marked v.last_birth (is_data h.0))) ∙ length_changed v.frames h.1 (marked v.last_birth (is_data h.0))

pub taken_last : (hs : List (Tenant × ℕ)) (v : FramesValue) → (frames_taken hs v).last_birth ≡ v.last_birth
taken_last [] v = refl
taken_last (h ∷ hs) v = taken_last hs (with_frame v h.1 (marked v.last_birth (is_data h.0)))

pub taken_other : (hs : List (Tenant × ℕ)) (v : FramesValue) (fr : ℕ) → AllByRecursion (λ h. h.1 ≢ fr) hs → slice_get (frames_taken hs v).frames fr ≡ slice_get v.frames fr
taken_other [] v fr all = refl
taken_other (h ∷ hs) v fr all = taken_other hs (with_frame v h.1 (marked v.last_birth (is_data h.0))) fr all.1 ∙ changed_there v.frames h.1 fr (marked v.last_birth (is_data h.0)) (λ e. all.0 (sym e))

-- the one of these homes that is a frame
pub record IsTakenAs (hs : List (Tenant × ℕ)) (v : FramesValue) (P : Tenant → ℕ → Type 0) (fr : ℕ) : Type 0 where
  pub tenant : Tenant
  pub is : P tenant fr
  pub frame : slice_get (frames_taken hs v).frames fr ≡ option_map (marked v.last_birth (is_data tenant)) (slice_get v.frames fr)

pub taken_as : (hs : List (Tenant × ℕ)) (v : FramesValue) (P : Tenant → ℕ → Type 0) (fr : ℕ) → IsDistinct nat_eq (values_of hs) → AllByRecursion (λ h. P h.0 h.1) hs → AnyIs (λ h. h.1 ≡ fr) hs → IsTakenAs hs v P fr
unfolding IsDistinct
taken_as [] v P fr d all any = absurd any
taken_as (h ∷ hs) v P fr d all (inl e) = record {
  tenant = h.0;
  is = subst (P h.0) e all.0;
  frame = subst (λ (k : ℕ). slice_get (frames_taken hs (with_frame v h.1 (marked v.last_birth (is_data h.0)))).frames k ≡ option_map (marked v.last_birth (is_data h.0)) (slice_get v.frames k)) e
      (taken_other hs (with_frame v h.1 (marked v.last_birth (is_data h.0))) h.1 (apart_of h.1 hs d.0) ∙ changed_here v.frames h.1 (marked v.last_birth (is_data h.0)));
}
taken_as (h ∷ hs) v P fr d all (inr any) =
    let rest = taken_as hs (with_frame v h.1 (marked v.last_birth (is_data h.0))) P fr d.1 all.1 any in
    let apart : h.1 ≢ fr = none_of hs (apart_of h.1 hs d.0) any in
    record { tenant = rest.tenant; is = rest.is; frame = rest.frame ∙ ap (option_map (marked v.last_birth (is_data rest.tenant))) (changed_there v.frames h.1 fr (marked v.last_birth (is_data h.0)) (λ e. apart (sym e))) }
  where
    none_of : (ks : List (Tenant × ℕ)) → AllByRecursion (λ k. k.1 ≢ h.1) ks → AnyIs (λ k. k.1 ≡ fr) ks → h.1 ≢ fr
    none_of [] apart any e = absurd any
    none_of (k ∷ ks) apart (inl same) e = apart.0 (same ∙ sym e)
    none_of (k ∷ ks) apart (inr any) e = none_of ks apart.1 any e

-- a frame can be raised
abbrev pub CanRise : FramesValue → ℕ → Type 0
CanRise v frame = IsSomeAnd (slice_get v.frames frame) (λ f. f.incarnation < v.last_birth)

-- how many of these are homes of data
abbrev pub data_count : List (Tenant × ℕ) → ℕ
data_count [] = 0
data_count (h ∷ hs) = if is_data h.0 then suc (data_count hs) else data_count hs

sum_changed : (fs : List Frame) (i n : ℕ) (g : Frame → Frame) → IsSomeAnd (slice_get fs i) (λ f. (g f).incarnation ≡ f.incarnation + n) → sum_by (λ f. f.incarnation) (changed_at fs i g) ≡ sum_by (λ f. f.incarnation) fs + n
sum_changed [] i n g h = absurd h
sum_changed (f ∷ fs) zero n g h =
    let a : sum_by (λ f. f.incarnation) (g f ∷ fs) ≡ (g f).incarnation + sum_by (λ f. f.incarnation) fs = sum_by-cons (λ (f : Frame). f.incarnation) (g f) fs in
    let b : sum_by (λ f. f.incarnation) (f ∷ fs) ≡ f.incarnation + sum_by (λ f. f.incarnation) fs = sum_by-cons (λ (f : Frame). f.incarnation) f fs in
    let c : (g f).incarnation ≡ f.incarnation + n = h in
    omega arith
sum_changed (f ∷ fs) (suc i) n g h =
    let a : sum_by (λ f. f.incarnation) (f ∷ changed_at fs i g) ≡ f.incarnation + sum_by (λ f. f.incarnation) (changed_at fs i g) = sum_by-cons (λ (f : Frame). f.incarnation) f (changed_at fs i g) in
    let b : sum_by (λ f. f.incarnation) (f ∷ fs) ≡ f.incarnation + sum_by (λ f. f.incarnation) fs = sum_by-cons (λ (f : Frame). f.incarnation) f fs in
    let c : sum_by (λ f. f.incarnation) (changed_at fs i g) ≡ sum_by (λ f. f.incarnation) fs + n = sum_changed fs i n g h in
    omega arith

pub taken_sum : (hs : List (Tenant × ℕ)) (v : FramesValue) → IsDistinct nat_eq (values_of hs) → AllByRecursion (λ h. CanRise v h.1) hs → sum_by (λ f. f.incarnation) (frames_taken hs v).frames ≡ sum_by (λ f. f.incarnation) v.frames + data_count hs
unfolding IsDistinct
taken_sum [] v d all = omega arith
taken_sum (h ∷ hs) v d all =
    by_kind (λ b. taken_sum hs (with_frame v h.1 (marked v.last_birth b)) d.1
    (all_more (λ k. (k.1 ≢ h.1) × CanRise v k.1) (λ k. CanRise (with_frame v h.1 (marked v.last_birth b)) k.1)
    (λ k both. subst (λ (o : Option Frame). IsSomeAnd o (λ f. f.incarnation < v.last_birth)) (sym (changed_there v.frames h.1 k.1 (marked v.last_birth b) both.0)) both.1) hs
    (all_and (λ k. k.1 ≢ h.1) (λ k. CanRise v k.1) hs (apart_of h.1 hs d.0) all.1))) (is_data h.0) refl
  where
    by_kind : ((b : Bool) → sum_by (λ f. f.incarnation) (frames_taken hs (with_frame v h.1 (marked v.last_birth b))).frames ≡ sum_by (λ f. f.incarnation) (changed_at v.frames h.1 (marked v.last_birth b)) + data_count hs) → (b : Bool) → is_data h.0 ≡ b → sum_by (λ f. f.incarnation) (frames_taken hs (with_frame v h.1 (marked v.last_birth (is_data h.0)))).frames ≡ sum_by (λ f. f.incarnation) v.frames + (if is_data h.0 then suc (data_count hs) else data_count hs)
    by_kind rest true e =
        let x = some_of (slice_get v.frames h.1) (λ (f : Frame). f.incarnation < v.last_birth) all.0 in
        let up : IsSomeAnd (slice_get v.frames h.1) (λ f. (marked v.last_birth true f).incarnation ≡ f.incarnation + 1) = subst (λ (o : Option Frame). IsSomeAnd o (λ f. (marked v.last_birth true f).incarnation ≡ f.incarnation + 1)) (sym x.1)
        (let lt : x.0.incarnation < v.last_birth = x.2 in let t : nat_lt x.0.incarnation v.last_birth ≡ true = grind (arith, nat_tests) in rw t (omega arith)) in
        let a : sum_by (λ f. f.incarnation) (changed_at v.frames h.1 (marked v.last_birth true)) ≡ sum_by (λ f. f.incarnation) v.frames + 1 = sum_changed v.frames h.1 1 (marked v.last_birth true) up in
        let c : sum_by (λ f. f.incarnation) (frames_taken hs (with_frame v h.1 (marked v.last_birth true))).frames ≡ sum_by (λ f. f.incarnation) (changed_at v.frames h.1 (marked v.last_birth true)) + data_count hs = rest true in
        subst (λ (b : Bool). sum_by (λ f. f.incarnation) (frames_taken hs (with_frame v h.1 (marked v.last_birth b))).frames ≡ sum_by (λ f. f.incarnation) v.frames + (if b then suc (data_count hs) else data_count hs)) (sym e) (let k : sum_by (λ f. f.incarnation) (frames_taken hs (with_frame v h.1 (marked v.last_birth true))).frames ≡ sum_by (λ f. f.incarnation) v.frames + suc (data_count hs) = omega arith in k)
    by_kind rest false e =
        let x = some_of (slice_get v.frames h.1) (λ (f : Frame). f.incarnation < v.last_birth) all.0 in
        let up : IsSomeAnd (slice_get v.frames h.1) (λ f. (marked v.last_birth false f).incarnation ≡ f.incarnation + 0) = subst (λ (o : Option Frame). IsSomeAnd o (λ f. (marked v.last_birth false f).incarnation ≡ f.incarnation + 0)) (sym x.1) (omega arith) in
        let a : sum_by (λ f. f.incarnation) (changed_at v.frames h.1 (marked v.last_birth false)) ≡ sum_by (λ f. f.incarnation) v.frames + 0 = sum_changed v.frames h.1 0 (marked v.last_birth false) up in
        let c : sum_by (λ f. f.incarnation) (frames_taken hs (with_frame v h.1 (marked v.last_birth false))).frames ≡ sum_by (λ f. f.incarnation) (changed_at v.frames h.1 (marked v.last_birth false)) + data_count hs = rest false in
        subst (λ (b : Bool). sum_by (λ f. f.incarnation) (frames_taken hs (with_frame v h.1 (marked v.last_birth b))).frames ≡ sum_by (λ f. f.incarnation) v.frames + (if b then suc (data_count hs) else data_count hs)) (sym e) (let k : sum_by (λ f. f.incarnation) (frames_taken hs (with_frame v h.1 (marked v.last_birth false))).frames ≡ sum_by (λ f. f.incarnation) v.frames + data_count hs = omega arith in k)
