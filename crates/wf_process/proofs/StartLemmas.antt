-- A process at the start of a run.
use Rattle.std.proofs.Common.{◌≡◌, ◌≤◌, ◌+◌, ◌++◌, ℕ, zero, suc, List, [], ◌∷◌, Some, None, length, refl, sym, subst, ap, ◌∙◌, length-append, add-one, arith}
use Rattle.std.specs.Prelude.{slice_get}
use Rattle.wf_outside.specs.declared.sizes.TheConstants.{MOST_FRAMES}
use Rattle.wf_outside.specs.Images.{DeltaValue, ImageValue}
use Rattle.wf_outside.specs.Pages.{LimitsValue}
use Rattle.wf_frames.specs.Layout.{WordsValue}
use Rattle.wf_views.specs.declared.records.Records.{Records}
use Rattle.wf_flat.specs.declared.event.Entry.{Entry}
use Rattle.wf_flat.specs.Boot.{boot_arch, boot_hart, boot_harts, boot_of}
use Rattle.wf_flat.specs.Counts.{used_of}
use Rattle.wf_flat.specs.State.{FlatState, HartState}
use Rattle.wf_homes.specs.Homes.{Homes, homes_at_boot}
use Rattle.wf_homes.specs.Stands.{StandsFor}
use Rattle.wf_sound.specs.Laws.{IsStart}
use Rattle.wf_sound.proofs.StartLemmas.{start_sound}
use Rattle.wf_process.specs.declared.hart.KeptHart.{KeptHart}
use Rattle.wf_process.specs.Harts.{kept_first, kept_firsts}
use Rattle.wf_process.specs.Bodies.{IsBodyOf, IsKeptHart}
use Rattle.wf_process.specs.Processes.{IsProcess, start_of}

pub no_kept : (entry : ℕ) → [] ≡ kept_firsts entry 0
unfolding kept_firsts
no_kept entry = refl

pub more_kept : (entry n : ℕ) → kept_firsts entry n ++ kept_first (boot_arch entry n) ∷ [] ≡ kept_firsts entry (n + 1)
unfolding kept_firsts
more_kept entry n = rw add-one refl

pub ruleset kept_steps = (no_kept, more_kept)

-- two lists of one length, of which the elements at each place have to do with one another, still do
-- so with one more each
both_more : {A B : Type 0} (P : A → B → Type 0) (xs : List A) (ys : List B) (x : A) (y : B) → length ys ≡ length xs
    → ((i : ℕ) (a : A) (b : B) → slice_get xs i ≡ Some a → slice_get ys i ≡ Some b → P a b) → P x y
    → (i : ℕ) (a : A) (b : B) → slice_get (xs ++ x ∷ []) i ≡ Some a → slice_get (ys ++ y ∷ []) i ≡ Some b → P a b
both_more P [] [] x y same each p zero a b e d = let f : x ≡ a = cc in let g : y ≡ b = cc in subst (λ z. P z b) f (subst (λ z. P x z) g p)
both_more P [] [] x y same each p (suc i) a b e d = absurd cc
both_more P [] (z ∷ ys) x y same each p i a b e d = absurd (omega arith)
both_more P (z ∷ xs) [] x y same each p i a b e d = absurd (omega arith)
both_more P (z ∷ xs) (w ∷ ys) x y same each p zero a b e d = each zero a b e d
both_more P (z ∷ xs) (w ∷ ys) x y same each p (suc i) a b e d = both_more P xs ys x y (omega arith) (λ j. each (suc j)) p i a b e d

harts_count : (entry n : ℕ) → length (boot_harts entry n) ≡ n
unfolding boot_harts
harts_count entry zero = refl
harts_count entry (suc n) = let rest = harts_count entry n in let both = length-append (boot_harts entry n) (boot_hart entry n ∷ []) in omega arith

kept_count : (entry n : ℕ) → length (kept_firsts entry n) ≡ n
unfolding kept_firsts
kept_count entry zero = refl
kept_count entry (suc n) = let rest = kept_count entry n in let both = length-append (kept_firsts entry n) (kept_first (boot_arch entry n) ∷ []) in omega arith

module _ (words : WordsValue) (homes : Homes) (s : FlatState) (entry : ℕ) where
  first_is : (n : ℕ) → IsKeptHart words homes s (boot_hart entry n) (kept_first (boot_arch entry n))
  first_is n = record { told = record { generation = refl; arch = refl; fetched = refl; looked = refl; put = refl; life = refl }; reservation = tt }

  firsts_are : (n i : ℕ) (hart : HartState) (kept : KeptHart) → slice_get (boot_harts entry n) i ≡ Some hart → slice_get (kept_firsts entry n) i ≡ Some kept → IsKeptHart words homes s hart kept
  unfolding boot_harts kept_firsts
  firsts_are zero i hart kept e d = absurd cc
  firsts_are (suc n) i hart kept e d =
      both_more (IsKeptHart words homes s) (boot_harts entry n) (kept_firsts entry n) (boot_hart entry n) (kept_first (boot_arch entry n)) (kept_count entry n ∙ sym (harts_count entry n)) (firsts_are n) (first_is n) i hart kept e d

-- the births of a start are its pages, of which there are no more than frames
few_births : (image : ImageValue) (harts : ℕ) (limits : LimitsValue) → used_of (boot_of image harts limits) ≤ limits.frames → limits.frames ≤ MOST_FRAMES → (boot_of image harts limits).births ≤ MOST_FRAMES
few_births image harts limits fits few = omega arith

module _ (deltas : List DeltaValue) (image : ImageValue) (harts : ℕ) (limits : LimitsValue) (start : IsStart deltas image harts limits) (words : WordsValue) (r : Records)
    (stands : StandsFor words r (homes_at_boot (boot_of image harts limits)) (boot_of image harts limits)) where
  first_body : IsBodyOf (boot_of image harts limits) (record { words = words; records = r; harts = kept_firsts image.entry harts; inside = None })
  first_body = record {
    homes = homes_at_boot (boot_of image harts limits);
    stands = stands;
    harts = record {
      count = kept_count image.entry harts ∙ sym (harts_count image.entry harts);
      each = firsts_are words (homes_at_boot (boot_of image harts limits)) (boot_of image harts limits) image.entry harts;
    };
    inside = refl;
  }

  first_process : IsProcess (start_of deltas image harts limits) [] (record { words = words; records = r; harts = kept_firsts image.entry harts; inside = None })
  first_process = record {
    sound = start_sound deltas image harts limits start;
    births = few_births image harts limits start.frames start.sizes.many_frames;
    legal = tt;
    stands = first_body;
  }

  pub booted : (entries : List Entry) (kept : List KeptHart) (entry : ℕ) → entries ≡ [] → entry ≡ image.entry → kept ≡ kept_firsts entry harts
      → IsProcess (start_of deltas image harts limits) entries (record { words = words; records = r; harts = kept; inside = None })
  booted entries kept entry none at are =
      let first : kept ≡ kept_firsts image.entry harts = are ∙ ap (λ (e : ℕ). kept_firsts e harts) at in
      subst (λ (es : List Entry). IsProcess (start_of deltas image harts limits) es (record { words = words; records = r; harts = kept; inside = None })) (sym none)
      (subst (λ (ks : List KeptHart). IsProcess (start_of deltas image harts limits) [] (record { words = words; records = r; harts = ks; inside = None })) (sym first) first_process)
