-- No whole access changes a mapping.
use Rattle.std.proofs.Common.{◌≡◌, ◌<◌, ◌%◌, ◌==◌, ℕ, List, [], ◌∷◌, false, map, refl, sym, ap, subst, ◌∙◌, inl, inr}
use Rattle.std.specs.Prelude.{IsSomeAnd, slice_get}
use Rattle.wf_outside.specs.Pages.{page_of}
use Rattle.wf_frames.specs.FrameWords.{fields_of}
use Rattle.wf_frames.specs.Layout.{WordsValue}
use Rattle.wf_flat.specs.Changes.{change_hart, change_page, leave_hart, looked_with, page_taken, put_with, swapped_by, try_ended, written_by, ended}
use Rattle.wf_flat.specs.Lists.{changed_by}
use Rattle.wf_flat.specs.State.{FlatState, PageState}
use Rattle.wf_flat.specs.Steps.{access_in}
use Rattle.wf_flat.proofs.ListLemmas.{some_and}
use Rattle.wf_homes.specs.Kept.{fields_at}
use Rattle.wf_homes.proofs.ListLemmas.{one_or_two, true_or_false}
use Rattle.wf_access.specs.Laws.{AnswersKeepMappings, HaveSameMappings, LastLooksKeepMappings, StoresKeepMappings, bytes_at, mapping_of}
use Rattle.wf_access.specs.Stores.{with_store}
use Rattle.wf_access.proofs.AccessLemmas.{IsOneFrame, number_of}
use Rattle.wf_access.proofs.WholeLemmas.{after_is, changed_same, kept_back, one_frame}

-- a change that keeps numbers and births keeps mappings
mappings_same : (ps : List PageState) (n : ℕ) (g : PageState → PageState) → ((p : PageState) → mapping_of (g p) ≡ mapping_of p) → map mapping_of (changed_by number_of ps n g) ≡ map mapping_of ps
mappings_same [] n g keeps = refl
mappings_same (p ∷ ps) n g keeps = elim (true_or_false (p.number == n)) [
  | inl t ↦ (rw t (ap (λ (ms : List (ℕ × ℕ)). mapping_of (g p) ∷ ms) (mappings_same ps n g keeps) ∙ ap (λ (m : ℕ × ℕ). m ∷ map mapping_of ps) (keeps p)))
  | inr t ↦ (rw t (ap (λ (ms : List (ℕ × ℕ)). mapping_of p ∷ ms) (mappings_same ps n g keeps)))
]

same_inc : (old new : WordsValue) (frame frames : ℕ) → old.frames ≡ frames → IsOneFrame old new frame → (f : ℕ) → f < frames → (fields_at new f).inc ≡ (fields_at old f).inc
same_inc old new frame frames e one f lt = elim (one_or_two f frame) [
  | inl same ↦ (rw same one.inc)
  | inr apart ↦ (ap (λ (w : ℕ). (fields_of w).inc) (one.others f (rw e lt) apart))
]

pub stores_keep_mappings : StoresKeepMappings
stores_keep_mappings words r homes s h va width value frame page st whole may =
    let hart = some_and (slice_get s.harts h) (λ hart. IsSomeAnd (access_in hart) (λ access. access.va ≡ va) × (hart.put ≡ false)) may.tries in
    let access = some_and (access_in hart.0) (λ access. access.va ≡ va) hart.2.0 in
    let new : WordsValue = with_store words (bytes_at frame va width) value s.limits.last_writes in
    let inc = same_inc words new frame s.limits.frames st.sizes.of_words (one_frame words r homes s h va width value frame page st whole may) in (
      subst (HaveSameMappings words new s)
          (sym (after_is s h va page written_by (put_with (va % 4096) width value) (record { number = λ p. refl; write = λ p. refl; stage = λ p. refl }) (λ p. refl) (λ x. refl) hart.0 access.0 hart.1 access.1 access.2 may.there))
          (record { pages = mappings_same s.pages (page_of va) _ (λ p. refl); frames = refl; incarnations = inc }),
      λ got. subst (HaveSameMappings words new s)
          (sym (after_is s h va page (swapped_by got) (put_with (va % 4096) width value) (record { number = λ p. refl; write = λ p. refl; stage = λ p. refl }) (λ p. refl) (λ x. refl) hart.0 access.0 hart.1 access.1 access.2 may.there))
          (record { pages = mappings_same s.pages (page_of va) _ (λ p. refl); frames = refl; incarnations = inc }),
    )

pub last_looks_keep_mappings : LastLooksKeepMappings
last_looks_keep_mappings words r s h va width value frame page may =
    let hart = some_and (slice_get s.harts h) (λ hart. IsSomeAnd (access_in hart) (λ access. access.va ≡ va) × (hart.put ≡ false)) may.tries in
    let access = some_and (access_in hart.0) (λ access. access.va ≡ va) hart.2.0 in
    let taken : FlatState = page_taken s h (page_of va) in
    let same : change_page taken (page_of va) (λ p. p) ≡ taken = ap (λ (ps : List PageState). record taken { pages = ps }) (changed_same taken.pages (page_of va)) in
    subst (λ (t : FlatState). HaveSameMappings words words s (try_ended (change_hart t h (looked_with taken va width value)) h)) same (
    subst (HaveSameMappings words words s)
    (sym (after_is s h va page (looked_with taken va width value) (λ p. p) (record { number = λ p. refl; write = λ p. refl; stage = λ p. refl }) (λ p. refl) (λ x. refl) hart.0 access.0 hart.1 access.1 access.2 may.there))
    (record { pages = mappings_same s.pages (page_of va) _ (λ p. refl); frames = refl; incarnations = λ f lt. refl })
    )

pub answers_keep_mappings : AnswersKeepMappings
answers_keep_mappings words s h answer is_answer none =
    subst (λ (t : FlatState). HaveSameMappings words words s (leave_hart t h ended)) (kept_back s h answer is_answer none) (record { pages = refl; frames = refl; incarnations = λ f lt. refl })
