-- Stages that read one file, and the image of one.
use Rattle.std.proofs.Common.{◌≡◌, ◌<◌, ◌≤◌, ◌+◌, ◌⊎◌, ℕ, List, Bool, true, false, cond, Option, Some, None, Result, Ok, Err, length, refl, sym, ap, ◌∙◌, inl, inr, arith}
use Rattle.std.specs.Prelude.{nat_lt}
use Rattle.std.proofs.lemmas.Bool.Decides.{nat_tests}
use Rattle.wf_outside.specs.Images.{ImageValue}
use Rattle.elf_load.specs.Loaded.{image_of}
use Rattle.wf_status.specs.declared.rules.ImageRule.{ImageRule}
use Rattle.wf_status.specs.declared.status.Status.{Status}
use Rattle.wf_status.specs.declared.status.Status.TheVariants.{Image, Limit, Memory, Shelf}
use Rattle.wf_status.specs.declared.status.LimitKind.TheVariants as limits
use Rattle.wf_fetch.specs.Fetching.{IsImageStatus, IsLimit}
use Rattle.wf_fetch.specs.Held.{HoldsBytes, HoldsWithin, IsLongerThan, max_file}
use Rattle.wf_fetch.specs.Loaded.{elf_of, image_fault, loaded, unless_fault}
use Rattle.wf_fetch.specs.Stages.{◌>>=◌, IsReadFault, bytes_within, image_stage, unless_broken}

-- tests of numbers
pub less : (n m : ℕ) → n < m → nat_lt n m ≡ true
less n m h = grind (arith, nat_tests)

pub not_less : (n m : ℕ) → m ≤ n → nat_lt n m ≡ false
not_less n m h = grind (arith, nat_tests)

-- a stage that gives something, and one that fails
abbrev pub given : {A : Type 0} → A → Result A Status
given x = Ok x

abbrev pub refused : {A : Type 0} → Status → Result A Status
refused status = Err status

-- a stage after which another gave something gave something itself
pub bind_ok : {A B : Type 0} (r : Result A Status) (f : A → Result B Status) (y : B) → (r >>= f) ≡ Ok y → (x : A) × (r ≡ Ok x) × (f x ≡ Ok y)
bind_ok (Ok x) f y e = (x, refl, e)
bind_ok (Err d) f y e = absurd cc

-- ---- the bytes of a file

pub bytes_read : (most : ℕ) (held : Option (List ℕ)) (bytes : List ℕ) → HoldsWithin most held (λ b. b ≡ bytes) → bytes_within most held ≡ Ok bytes
bytes_read most None bytes h = absurd h
bytes_read most (Some b) bytes h =
    ap (λ (t : Bool). cond t (refused {A = List ℕ} (Limit limits.File (most + 1) most)) (given b)) (not_less most (length b) h.0)
    ∙ ap (λ (x : List ℕ). given x) h.1

pub bytes_long : (most : ℕ) (held : Option (List ℕ)) → IsLongerThan most held → bytes_within most held ≡ Err (Limit limits.File (most + 1) most)
bytes_long most None h = absurd h
bytes_long most (Some b) h = ap (λ (t : Bool). cond t (refused {A = List ℕ} (Limit limits.File (most + 1) most)) (given b)) (less most (length b) h)

pub limit_same : (allowed number most : ℕ) → number ≡ allowed + 1 → most ≡ allowed → Limit limits.File (allowed + 1) allowed ≡ Limit limits.File number most
limit_same allowed number most e f = ap (λ (n : ℕ). Limit limits.File n allowed) (sym e) ∙ ap (λ (m : ℕ). Limit limits.File number m) (sym f)

-- ---- the image of a file

abbrev in_bytes : List ℕ → Result ImageValue Status
in_bytes bytes = unless_broken (image_fault bytes) (image_of (elf_of bytes))

image_after : (held : Option (List ℕ)) (bytes : List ℕ) → HoldsBytes held (λ b. b ≡ bytes) → image_stage held ≡ in_bytes bytes
image_after held bytes h = ap (λ (r : Result (List ℕ) Status). r >>= in_bytes) (bytes_read max_file held bytes h)

image_kept : (fault : Option (ImageRule × ℕ)) (made image : ImageValue) → unless_fault fault made ≡ Some image → unless_broken fault made ≡ Ok image
image_kept None made image e = let same : made ≡ image = cc in ap (λ (i : ImageValue). given i) same
image_kept (Some fault) made image e = absurd cc

image_loaded : (bytes : List ℕ) (image : ImageValue) → loaded bytes ≡ Some image → in_bytes bytes ≡ Ok image
unfolding loaded
image_loaded bytes image e = image_kept (image_fault bytes) (image_of (elf_of bytes)) image e

pub image_found : (held : Option (List ℕ)) (image : ImageValue) → HoldsBytes held (λ bytes. loaded bytes ≡ Some image) → image_stage held ≡ Ok image
image_found None image h = absurd h
image_found (Some bytes) image h = image_after (Some bytes) bytes (h.0, refl) ∙ image_loaded bytes image h.1

image_broken : (held : Option (List ℕ)) (rule : ImageRule) (at : ℕ) → HoldsBytes held (λ bytes. image_fault bytes ≡ Some (rule, at)) → image_stage held ≡ Err (Image rule at)
image_broken None rule at h = absurd h
image_broken (Some bytes) rule at h =
    image_after (Some bytes) bytes (h.0, refl) ∙ ap (λ (f : Option (ImageRule × ℕ)). unless_broken f (image_of (elf_of bytes))) h.1

image_long : (held : Option (List ℕ)) (number most : ℕ) → IsLimit held number most → image_stage held ≡ Err (Limit limits.File number most)
image_long held number most h =
    ap (λ (r : Result (List ℕ) Status). r >>= in_bytes) (bytes_long max_file held h.2)
    ∙ ap (λ (s : Status). refused {A = ImageValue} s) (limit_same max_file number most h.0 h.1)

-- why there is no image is the answer of its stage, unless the read failed or memory ran out
pub image_cause : (held : Option (List ℕ)) (status : Status) → IsImageStatus held status → IsReadFault status ⊎ (image_stage held ≡ Err status)
image_cause held Shelf h = inl (inl refl)
image_cause held Memory h = inl (inr refl)
image_cause held (Limit limits.File number most) h = inr (image_long held number most h)
image_cause held (Image rule at) h = inr (image_broken held rule at h)
image_cause held other h = absurd h
