-- The places of sections.
use Rattle.std.proofs.Common.{◌≡◌, ◌<◌, ◌≤◌, ◌+◌, ◌*◌, ◌^◌, ℕ, suc, zero, List, [], ◌∷◌, Bool, true, false, cond, None, Some, IsSome, refl, ap, sym, subst, arith, length}
use Rattle.std.specs.List.{fold}
use Rattle.std.proofs.lemmas.Grind.{div_ceil_times}
use Rattle.elf_read.specs.declared.records.Section.{Section}
use Rattle.elf_link.specs.Links.{AreLow}
use Rattle.wf_outside.specs.declared.sizes.TheConstants.{DATA_END, PAGE_SIZE}
use Rattle.patch_build.specs.declared.constants.TheConstants.{SHF_EXECINSTR, SHF_WRITE}
use Rattle.patch_build.specs.declared.layout.Ends.{Ends}
use Rattle.patch_build.specs.declared.layout.Starts.{Starts}
use Rattle.patch_build.specs.declared.region.Region.{Region}
use Rattle.patch_build.specs.declared.region.Region.TheVariants.{Text, Constants, Data}
use Rattle.patch_build.specs.Layout.{AreStarts, ends_with, end_in, region_end, end_with, first_page, no_ends, offset_behind, places_behind}
use Rattle.patch_build.specs.Links.{HasPlaces}
use Rattle.patch_build.specs.Sections.{has_flag, is_loaded, is_of, region_of}
use Rattle.patch_build.proofs.LayoutLemmas.{end-grows}

-- there are as many places as sections
pub length-places_behind : (starts : Starts) (ends : Ends) (ss : List Section) → length (places_behind starts ends ss) ≡ length ss
length-places_behind starts ends [] = refl
length-places_behind starts ends (s ∷ ss) = ap (λ n. suc n) (length-places_behind starts (ends_with ends s) ss)

some_at : (b : Bool) (v : ℕ) → b ≡ true → IsSome (cond b (Some v) None)
some_at true v e = refl
some_at false v e = absurd (cc)

-- a section that is loaded has a place
pub placed-behind : (starts : Starts) (ends : Ends) (ss : List Section) → HasPlaces ss (places_behind starts ends ss)
placed-behind starts ends [] n s is loaded = absurd (cc)
placed-behind starts ends (x ∷ ss) zero s is loaded =
    let e : s ≡ x = cc in
    some_at (is_loaded x) _ (subst (λ (y : Section). is_loaded y ≡ true) e loaded)
placed-behind starts ends (x ∷ ss) (suc n) s is loaded = placed-behind starts (ends_with ends x) ss n s is loaded

-- a section that is loaded is of its region
pub is_of-region_of : (s : Section) → is_loaded s ≡ true → is_of (region_of s) s ≡ true
is_of-region_of s l = by_flags (has_flag SHF_EXECINSTR s) (has_flag SHF_WRITE s) refl refl where
  by_flags : (x w : Bool) → has_flag SHF_EXECINSTR s ≡ x → has_flag SHF_WRITE s ≡ w
      → is_of (cond x Text (cond w Data Constants)) s ≡ true
  by_flags true w ex ew = rw (l, ex) refl
  by_flags false true ex ew = rw (l, ex, ew) refl
  by_flags false false ex ew = rw (l, ex, ew) refl

-- the end of a region with one section more
pub end_in-ends_with : (ends : Ends) (s : Section) (region : Region) → end_in (ends_with ends s) region ≡ end_with region (end_in ends region) s
end_in-ends_with ends s Text = refl
end_in-ends_with ends s Constants = refl
end_in-ends_with ends s Data = refl

-- the sections behind these ends have room below the first address past those of data
abbrev pub Fits : Starts → Ends → List Section → Type 0
Fits starts ends ss = (region : Region)
    → PAGE_SIZE * first_page starts region + fold (end_with region) (end_in ends region) ss ≤ DATA_END

some_when : (b : Bool) (v w : ℕ) → cond b (Some v) None ≡ Some w → (b ≡ true) × (v ≡ w)
some_when true v w e = (refl, cc)
some_when false v w e = absurd (cc)

put_end : (b : Bool) (m n at : ℕ) → b ≡ true → cond b (m + n) at ≡ m + n
put_end true m n at e = refl
put_end false m n at e = absurd (cc)

-- each ends low
pub low-behind : (starts : Starts) (ends : Ends) (ss : List Section) → Fits starts ends ss → AreLow (places_behind starts ends ss) ss
low-behind starts ends [] fits n place s placed is = absurd (cc)
low-behind starts ends (x ∷ ss) fits zero place s placed is =
    let e : s ≡ x = cc in
    let r = region_of x in
    let p = some_when (is_loaded x) _ place placed in
    let at = offset_behind (end_in ends r) x in
    let h = fits r in
    let k = end-grows r (end_with r (end_in ends r) x) ss in
    let f = put_end (is_of r x) at x.sh_size (end_in ends r) (is_of-region_of x p.0) in
    let z : s.sh_size ≡ x.sh_size = ap (λ (y : Section). y.sh_size) e in
    omega (arith, p.1)
low-behind starts ends (x ∷ ss) fits (suc n) place s placed is =
    low-behind starts (ends_with ends x) ss
    (λ region. subst (λ (at : ℕ). PAGE_SIZE * first_page starts region + fold (end_with region) at ss ≤ DATA_END) (sym (end_in-ends_with ends x region)) (fits region))
    n place s placed is

-- the regions fit where their pages do
pub fits-starts : (starts : Starts) (ss : List Section) → AreStarts starts ss → Fits starts no_ends ss
fits-starts starts ss are Text = let h = are.text in let k = are.constants in let l = are.variables in let m = are.low in omega (arith, div_ceil_times (region_end Text ss) PAGE_SIZE)
fits-starts starts ss are Constants = let h = are.text in let k = are.constants in let l = are.variables in let m = are.low in omega (arith, div_ceil_times (region_end Constants ss) PAGE_SIZE)
fits-starts starts ss are Data = let h = are.text in let k = are.constants in let l = are.variables in let m = are.low in omega (arith, div_ceil_times (region_end Data ss) PAGE_SIZE)

-- where a section begins in its region, there is room for it
pub room_at : (region : Region) (at : ℕ) (s : Section) → is_loaded s ≡ true → region_of s ≡ region → end_with region at s < 2 ^ 32 → offset_behind at s + s.sh_size < 2 ^ 32
room_at region at s loaded e room =
    let is : is_of region s ≡ true = subst (λ (r : Region). is_of r s ≡ true) e (is_of-region_of s loaded) in
    let f = put_end (is_of region s) (offset_behind at s) s.sh_size at is in
    omega arith
