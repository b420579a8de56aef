-- What a birth is refused for by the records, and by the table of calls.
use Rattle.std.proofs.Common.{◌≡◌, ◌+◌, ◌-◌, ℕ, [], ◌∷◌, Bool, true, Option, Some, None, length, refl, ap, ◌∙◌, inl, inr, arith, if◌then◌else◌}
use Rattle.std.specs.Prelude.{nat_lt}
use Rattle.wf_outside.specs.declared.refusal.Refusal.{Refusal}
use Rattle.wf_outside.specs.declared.refusal.Refusal.TheVariants.{NoView, Views}
use Rattle.wf_outside.specs.Lists.{first_of}
use Rattle.wf_frames.specs.Layout.{WordsValue}
use Rattle.wf_views.specs.declared.records.Records.{Records}
use Rattle.wf_flat.specs.Counts.{used_of}
use Rattle.wf_flat.specs.State.{FlatState}
use Rattle.wf_effects.specs.Generations.{is_live}
use Rattle.wf_homes.specs.Homes.{Homes}
use Rattle.wf_homes.proofs.ListLemmas.{true_or_false}
use Rattle.wf_verdict.specs.Verdict.{more_than_free, no_frames, no_more_views, no_view}
use Rattle.wf_mapping.specs.Layout.{free_in}
use Rattle.wf_mapping.proofs.AgreeLemmas.{free_same}
use Rattle.wf_creating.specs.Laws.{CreateRefusalsAgree, StandsInOrder, born_of_parent}
use Rattle.wf_creating.specs.Layout.{need_at_birth}
use Rattle.wf_creating.specs.Refusals.{no_frames_at_birth, no_view_in, views_in}
use Rattle.wf_creating.proofs.LaidLemmas.{need_born}
use Rattle.wf_creating.proofs.ParentLemmas.{as_many_born, view_there}

module _ (words : WordsValue) (r : Records) (homes : Homes) (s : FlatState) (parent : ℕ) (o : StandsInOrder words r homes s) where
  pub no_view_same : no_view_in r parent ≡ no_view s parent
  no_view_same = ap (λ (b : Bool). let some : Option Refusal = if b then None else Some (NoView parent) in some) (view_there words r homes s o parent)

  pub views_same : views_in r ≡ no_more_views s
  views_same = ap (λ (k : ℕ). let some : Option Refusal = if nat_lt k 1024 then None else Some Views in some) (as_many_born words r homes s o)

  pub frames_same : is_live s parent ≡ true → no_frames_at_birth r parent ≡ no_frames s (born_of_parent s parent)
  unfolding no_frames
  frames_same live =
      let n : used_of s + need_at_birth r parent ≡ used_of (born_of_parent s parent) = need_born words r homes s parent o live in
      let d : need_at_birth r parent ≡ used_of (born_of_parent s parent) - used_of s = omega arith in
      ap (λ (k : ℕ). more_than_free k (length (free_in r))) d ∙ ap (more_than_free (used_of (born_of_parent s parent) - used_of s)) (free_same words r homes s o.stands o.tidy o.views)

  all_same : first_of (no_view_in r parent ∷ views_in r ∷ no_frames_at_birth r parent ∷ []) ≡ first_of (no_view s parent ∷ no_more_views s ∷ no_frames s (born_of_parent s parent) ∷ [])
  all_same =
      ap (λ (a : Option Refusal). first_of (a ∷ views_in r ∷ no_frames_at_birth r parent ∷ [])) no_view_same
      ∙ ap (λ (a : Option Refusal). first_of (no_view s parent ∷ a ∷ no_frames_at_birth r parent ∷ [])) views_same
      ∙ elim (true_or_false (is_live s parent)) [
        | inl t ↦ ap (λ (a : Option Refusal). first_of (no_view s parent ∷ no_more_views s ∷ a ∷ [])) (frames_same t)
        | inr t ↦ (
            let none : no_view s parent ≡ Some (NoView parent) = ap (λ (b : Bool). let some : Option Refusal = if b then None else Some (NoView parent) in some) t in
            rw none refl
            )
      ]

pub birth_refused : CreateRefusalsAgree
birth_refused words r homes s parent deltas next o = all_same words r homes s parent o
