-- What a patch is refused for by the records, and by the table of calls.
use Rattle.std.proofs.Common.{◌≡◌, ℕ, List, [], ◌∷◌, Bool, true, Option, Some, None, refl, sym, ap, ◌∙◌, inl, inr, if◌then◌else◌}
use Rattle.std.specs.Prelude.{nat_lt}
use Rattle.std.specs.Option.{option_or}
use Rattle.wf_outside.specs.declared.refusal.Refusal.{Refusal}
use Rattle.wf_outside.specs.declared.refusal.Refusal.TheVariants.{Lacks, NoView}
use Rattle.wf_outside.specs.Images.{DeltaValue}
use Rattle.wf_outside.specs.Lists.{first_of}
use Rattle.wf_frames.specs.Layout.{WordsValue}
use Rattle.wf_views.specs.declared.records.Records.{Records}
use Rattle.wf_flat.specs.State.{FlatState}
use Rattle.wf_effects.specs.Generations.{is_live, newest}
use Rattle.wf_effects.specs.Texts.{pages_of}
use Rattle.wf_homes.specs.Homes.{Homes}
use Rattle.wf_homes.proofs.ListLemmas.{true_or_false}
use Rattle.wf_space.specs.Jobs.{leaving_in}
use Rattle.wf_verdict.specs.Verdict.{delta_at, lacks, leaving, no_frames, no_more_views, no_view, overlap, patched}
use Rattle.wf_mapping.specs.Refusals.{overlap_in}
use Rattle.wf_mapping.proofs.AgreeLemmas.{leaving_same, overlap_same}
use Rattle.wf_residents.proofs.NewestLemmas.{newest_same}
use Rattle.wf_creating.specs.Laws.{StandsInOrder}
use Rattle.wf_creating.specs.Refusals.{no_view_in, views_in}
use Rattle.wf_creating.proofs.ParentLemmas.{patches_same}
use Rattle.wf_creating.proofs.RefusalLemmas.{no_view_same, views_same}
use Rattle.wf_patching.specs.Laws.{UnfitPatchesAgree}
use Rattle.wf_patching.specs.Refusals.{lacks_in}

-- the first of some, or else another, is the first of them all
pub or_first : (a b c d e o : Option Refusal) → option_or (first_of (a ∷ b ∷ c ∷ d ∷ e ∷ [])) o ≡ first_of (a ∷ b ∷ c ∷ d ∷ e ∷ o ∷ [])
or_first (Some x) b c d e o = refl
or_first None (Some x) c d e o = refl
or_first None None (Some x) d e o = refl
or_first None None None (Some x) e o = refl
or_first None None None None (Some x) o = refl
or_first None None None None None None = refl
or_first None None None None None (Some x) = refl

module _ (words : WordsValue) (r : Records) (homes : Homes) (s : FlatState) (parent patch : ℕ) (delta : DeltaValue) (o : StandsInOrder words r homes s) where
  lacks_same : is_live s parent ≡ true → lacks_in r parent patch ≡ lacks s parent patch
  lacks_same live = ap (λ (k : ℕ). let some : Option Refusal = if nat_lt k patch then Some (Lacks k) else None in some) (patches_same words r homes s o parent live)

  -- the refusals but for want of frames
  pub five_same : (f : Option Refusal) → first_of (no_view_in r parent ∷ lacks_in r parent patch ∷ views_in r ∷ overlap_in r (pages_of delta) ∷ leaving_in r (pages_of delta) ∷ f ∷ [])
      ≡ first_of (no_view s parent ∷ lacks s parent patch ∷ no_more_views s ∷ overlap s (pages_of delta) ∷ leaving s (pages_of delta) ∷ f ∷ [])
  five_same f =
      let ps : List ℕ = pages_of delta in
      ap (λ (a : Option Refusal). first_of (a ∷ lacks_in r parent patch ∷ views_in r ∷ overlap_in r ps ∷ leaving_in r ps ∷ f ∷ [])) (no_view_same words r homes s parent o)
      ∙ ap (λ (a : Option Refusal). first_of (no_view s parent ∷ lacks_in r parent patch ∷ a ∷ overlap_in r ps ∷ leaving_in r ps ∷ f ∷ [])) (views_same words r homes s parent o)
      ∙ ap (λ (a : Option Refusal). first_of (no_view s parent ∷ lacks_in r parent patch ∷ no_more_views s ∷ a ∷ leaving_in r ps ∷ f ∷ [])) (overlap_same words r homes s o.stands o.tidy o.views ps)
      ∙ ap (λ (a : Option Refusal). first_of (no_view s parent ∷ lacks_in r parent patch ∷ no_more_views s ∷ overlap s ps ∷ a ∷ f ∷ [])) (leaving_same words r homes s o.stands o.tidy o.views ps)
      ∙ elim (true_or_false (is_live s parent)) [
        | inl t ↦ ap (λ (a : Option Refusal). first_of (no_view s parent ∷ a ∷ no_more_views s ∷ overlap s ps ∷ leaving s ps ∷ f ∷ [])) (lacks_same t)
        | inr t ↦ (
            let none : no_view s parent ≡ Some (NoView parent) = ap (λ (b : Bool). let some : Option Refusal = if b then None else Some (NoView parent) in some) t in
            rw none refl
            )
      ]

newest_is : {A : Type 0} (a b : A) → Some a ≡ Some b → a ≡ b
newest_is a b e = cc

pub unfit_same : UnfitPatchesAgree
unfit_same words r homes s parent patch deltas next o new =
    let delta : DeltaValue = delta_at deltas patch in
    let f : Option Refusal = no_frames s (patched deltas s patch) in
    let ps : List ℕ = pages_of delta in
    let e : parent ≡ newest s = newest_is parent (newest s) (sym new ∙ newest_same words r homes s o.stands o.views) in
    or_first (no_view_in r parent) (lacks_in r parent patch) (views_in r) (overlap_in r ps) (leaving_in r ps) f
    ∙ five_same words r homes s parent patch delta o f
    ∙ ap (λ (g : ℕ). first_of (no_view s g ∷ lacks s g patch ∷ no_more_views s ∷ overlap s ps ∷ leaving s ps ∷ f ∷ [])) e
