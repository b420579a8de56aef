-- What patches are built over, one behind the other, and how what is built fits there.
use Rattle.std.specs.Prelude.{◌≡◌, ◌<◌, ◌≤◌, ℕ, ◌+◌, ◌%◌, List, [], ◌∷◌, ◌++◌, true, false, length, max}
use Rattle.std.specs.List.{AllByRecursion, range_with_len}
use Rattle.wf_outside.specs.declared.image.Jump.{Jump}
use Rattle.wf_outside.specs.declared.sizes.TheConstants.{DATA_END, DATA_END_PAGE}
use Rattle.wf_outside.specs.Images.{DeltaValue, ImageValue, data_numbers, text_numbers}
use Rattle.wf_outside.specs.Pages.{IsPage}
use Rattle.patch_build.specs.Areas.{AreaValue}
use Rattle.patch_build.specs.Jumps.{HasSame, addresses_of, has_jump, meets_jump, overlap}

-- the first page behind all of these
abbrev pub page_behind : List ℕ → ℕ
page_behind [] = 0
page_behind (n ∷ ns) = max (n + 1) (page_behind ns)

-- what the first patch of an image is built over: the pages behind the image's highest are free
abbrev pub area_over : ImageValue → AreaValue
area_over image = record {
  next = max (page_behind (text_numbers image.text)) (page_behind (data_numbers image.pages));
  text = text_numbers image.text;
  jumps = [];
}

-- the first page behind those of a patch that begin here
abbrev pub next_behind : ℕ → DeltaValue → ℕ
next_behind next delta = next + length delta.private + length delta.shared

-- what the next patch is built over, behind one that was built over this
abbrev pub area_with : AreaValue → DeltaValue → AreaValue
area_with area delta = record {
  next = next_behind area.next delta;
  text = area.text ++ text_numbers delta.private;
  jumps = area.jumps ++ addresses_of delta.jumps;
}

-- patches find the same in two areas: the same page is free first, the same pages are text, and the
-- same jumps are there
pub record IsSameArea (one other : AreaValue) : Type 0 where
  pub next : one.next ≡ other.next
  pub text : HasSame one.text other.text
  pub jumps : one.jumps ≡ other.jumps

-- the pages of a patch are the free ones from the first on, text first, up to a page among those of
-- data; and all are whole
pub record HasPages (next : ℕ) (delta : DeltaValue) : Type 0 where
  pub private : text_numbers delta.private ≡ range_with_len next (length delta.private)
  pub shared : data_numbers delta.shared
      ≡ range_with_len (next + length delta.private) (length delta.shared)
  pub low : next_behind next delta ≤ DATA_END_PAGE
  pub private_whole : AllByRecursion (λ page. IsPage page.number page.words) delta.private
  pub shared_whole : AllByRecursion (λ page. IsPage page.number page.words) delta.shared

-- a jump stands in the text, below the stacks and at a multiple of 4, and meets none of these
-- earlier ones that does not begin at the same byte
pub record StandsIn (area : AreaValue) (jump : Jump) : Type 0 where
  pub text : has_jump area.text jump.at ≡ true
  pub low : jump.at < DATA_END
  pub even : jump.at % 4 ≡ 0
  pub apart : meets_jump area.jumps [] jump.at ≡ false

-- no two jumps share a byte
abbrev pub AreApart : List Jump → Type 0
AreApart [] = Unit {0}
AreApart (jump ∷ jumps) =
    AllByRecursion (λ other. overlap jump.at other.at ≡ false) jumps × AreApart jumps

-- a patch fits what it was built over: its pages are free, its jumps stand in the text, and no two
-- of them meet
pub record FitsArea (area : AreaValue) (delta : DeltaValue) : Type 0 where
  pub pages : HasPages area.next delta
  pub stand : AllByRecursion (StandsIn area) delta.jumps
  pub apart : AreApart delta.jumps

-- patches fit one behind the other, the first over this area
abbrev pub FitBehind : AreaValue → List DeltaValue → Type 0
FitBehind area [] = Unit {0}
FitBehind area (delta ∷ deltas) = FitsArea area delta × FitBehind (area_with area delta) deltas
