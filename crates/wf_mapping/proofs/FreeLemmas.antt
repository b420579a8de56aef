-- The frames that are free by records, and by homes.
use Rattle.std.proofs.Common.{◌≡◌, ◌<◌, ◌+◌, ◌&&◌, ℕ, suc, List, [], ◌∷◌, Bool, true, false, not, length, refl, ap, subst, ◌∙◌, inl, inr, arith, add-one, if◌then◌else◌}
use Rattle.std.specs.List.{filter, range_with_len}
use Rattle.wf_frames.specs.declared.state.Frame.{Frame}
use Rattle.wf_frames.specs.declared.state.FrameState.TheVariants.{Free, InUse, Worn}
use Rattle.wf_frames.specs.Frames.{HasState, free_ones, is_free, places_from}
use Rattle.wf_homes.specs.Homes.{Homes, is_home, is_worn}
use Rattle.wf_homes.specs.Kept.{state_of}
use Rattle.wf_homes.proofs.ListLemmas.{true_or_false}
use Rattle.wf_mapping.specs.Laws.{FreeFramesAgree}

-- whether a frame is free, by homes
abbrev pub is_spare : Homes → ℕ → Bool
is_spare homes frame = not (is_home homes frame) && not (is_worn homes frame)

by_state : (home worn : Bool) → is_free (if home then InUse else (if worn then Worn else Free)) ≡ (not home && not worn)
by_state true worn = refl
by_state false true = refl
by_state false false = refl

module _ (homes : Homes) where
  free_from : (fs : List Frame) (n : ℕ) → ((i : ℕ) → i < length fs → HasState fs i (state_of homes (n + i))) → places_from n (free_ones fs) ≡ filter (is_spare homes) (range_with_len n (length fs))
  free_from [] n each = refl
  free_from (f ∷ fs) n each =
      let z : n + 0 ≡ n = omega arith in
      let here : f.state ≡ state_of homes (n + 0) = each 0 (omega arith) in
      let free : is_free f.state ≡ is_spare homes n = ap is_free here ∙ ap (λ (k : ℕ). is_free (state_of homes k)) z ∙ by_state (is_home homes n) (is_worn homes n) in
      let next : n + 1 ≡ suc n = add-one n in
      let rest : places_from (suc n) (free_ones fs) ≡ filter (is_spare homes) (range_with_len (suc n) (length fs)) = free_from fs (suc n) (λ i lt. (
      let k : n + suc i ≡ suc n + i = omega arith in
      let h : HasState (f ∷ fs) (suc i) (state_of homes (n + suc i)) = each (suc i) (omega arith) in
      subst (λ (m : ℕ). HasState fs i (state_of homes m)) k h
      )) in
      elim (true_or_false (is_spare homes n)) [
        | inl t ↦ (
            let u : is_free f.state ≡ true = free ∙ t in
            rw (u, t, next) (ap (λ (ks : List ℕ). n ∷ ks) rest)
            )
        | inr t ↦ (
            let u : is_free f.state ≡ false = free ∙ t in
            rw (u, t, next) rest
            )
      ]

pub free_agree : FreeFramesAgree
free_agree words r homes s st =
    let len : length r.frames.frames ≡ s.limits.frames = st.sizes.of_frames in
    free_from homes r.frames.frames 0 (λ i lt. (
    let z : i ≡ 0 + i = omega arith in
    subst (λ (m : ℕ). HasState r.frames.frames i (state_of homes m)) z (st.frames i (omega arith)).state
    )) ∙ ap (λ (n : ℕ). filter (is_spare homes) (range_with_len 0 n)) len
