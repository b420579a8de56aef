-- What the patches of a run are built over, and that no two of their jumps meet in part.
use Rattle.std.proofs.Common.{◌≡◌, ◌≤◌, ◌+◌, ◌==◌, ◌&&◌, ◌||◌, inl, inr, ℕ, zero, suc, List, [], ◌∷◌, ◌++◌, Some, None, Bool, true, false, not, refl, sym, subst, ap, ◌∙◌, arith}
use Rattle.std.specs.Prelude.{slice_get}
use Rattle.std.specs.List.{AllByRecursion, list_any}
use Rattle.std.proofs.lemmas.Bool.{and_parts}
use Rattle.std.proofs.lemmas.Bool.Decides.{nat_tests}
use Rattle.wf_outside.specs.declared.image.Jump.{Jump}
use Rattle.wf_outside.specs.Images.{DeltaValue, text_numbers}
use Rattle.wf_outside.specs.Pages.{PageValue, page_of}
use Rattle.wf_flat.proofs.ListLemmas.{all_append}
use Rattle.wf_sound.proofs.AllLemmas.{all_back, all_front, all_more, one_or_two}
use Rattle.patch_build.specs.Areas.{AreaValue}
use Rattle.patch_build.specs.Fits.{AreApart, FitBehind, FitsArea, StandsIn, area_with}
use Rattle.patch_build.specs.Jumps.{addresses_of, has_page, overlap}
use Rattle.patch_run_laws.specs.Built.{FittingJumpsAreClear, IsClear, IsClearOf, all_jumps}
use Rattle.patch_run_laws.proofs.JumpLemmas.{HasPlace, overlap_flips}
use Rattle.patch_run_laws.proofs.TextLemmas.{IsThere}

-- what the patch of a number is built over
abbrev pub area_at : AreaValue → List DeltaValue → ℕ → AreaValue
area_at area deltas zero = area
area_at area [] (suc n) = area
area_at area (delta ∷ deltas) (suc n) = area_at (area_with area delta) deltas n

area_end : (area : AreaValue) (n : ℕ) → area_at area [] n ≡ area
area_end area zero = refl
area_end area (suc n) = refl

pub area_next : (area : AreaValue) (deltas : List DeltaValue) (k : ℕ) (delta : DeltaValue) → slice_get deltas k ≡ Some delta → area_at area deltas (suc k) ≡ area_with (area_at area deltas k) delta
area_next area [] k delta e = absurd (cc)
area_next area (d ∷ ds) zero delta e = (let same : d ≡ delta = cc in ap (area_with area) same)
area_next area (d ∷ ds) (suc k) delta e = area_next (area_with area d) ds k delta e

pub area_past : (area : AreaValue) (deltas : List DeltaValue) (k : ℕ) → slice_get deltas k ≡ None → area_at area deltas (suc k) ≡ area_at area deltas k
area_past area [] k e = sym (area_end area k)
area_past area (d ∷ ds) zero e = absurd (cc)
area_past area (d ∷ ds) (suc k) e = area_past (area_with area d) ds k e

area_first : (P : ℕ → Type 0) (area : AreaValue) (deltas : List DeltaValue) (n : ℕ) → AllByRecursion P (area_at area deltas n).text → AllByRecursion P area.text
area_first P area deltas zero all = all
area_first P area [] (suc n) all = all
area_first P area (delta ∷ deltas) (suc n) all = all_front P area.text (text_numbers delta.private) (area_first P (area_with area delta) deltas n all)

-- a patch that comes before is built over less
pub area_before : (P : ℕ → Type 0) (area : AreaValue) (deltas : List DeltaValue) (k n : ℕ) → k ≤ n → AllByRecursion P (area_at area deltas n).text → AllByRecursion P (area_at area deltas k).text
area_before P area deltas zero n le all = area_first P area deltas n all
area_before P area deltas (suc k) zero le all = absurd (omega arith)
area_before P area [] (suc k) (suc n) le all = all
area_before P area (delta ∷ deltas) (suc k) (suc n) le all = area_before P (area_with area delta) deltas k n (omega arith) all

pub fits_at : (area : AreaValue) (deltas : List DeltaValue) (k : ℕ) (delta : DeltaValue) → FitBehind area deltas → slice_get deltas k ≡ Some delta → FitsArea (area_at area deltas k) delta
fits_at area [] k delta fit e = absurd (cc)
fits_at area (d ∷ ds) zero delta fit e = (let same : d ≡ delta = cc in subst (FitsArea area) same fit.0)
fits_at area (d ∷ ds) (suc k) delta fit e = fits_at (area_with area d) ds k delta fit.1 e

-- a jump that stands in an area has its place in a text with the area's pages
page_there : (text : List PageValue) (pages : List ℕ) (at : ℕ) → AllByRecursion (IsThere text) pages → has_page pages at ≡ true → IsThere text (page_of at)
page_there text [] at all e = absurd (cc)
page_there text (n ∷ ns) at all e = elim (one_or_two n (page_of at)) [
  | inl same ↦ subst (IsThere text) same all.0
  | inr apart ↦ page_there text ns at all.1 (let past : (n == page_of at) ≡ false = grind (arith, nat_tests) in or_past (n == page_of at) (has_page ns at) past e)
]
  where
    or_past : (a b : Bool) → a ≡ false → (a || b) ≡ true → b ≡ true
    or_past true b p q = absurd (cc)
    or_past false b p q = q

has_place : (text : List PageValue) (area : AreaValue) (jump : Jump) → AllByRecursion (IsThere text) area.text → StandsIn area jump → HasPlace text jump
has_place text area jump all stands =
    let h = and_parts (has_page area.text jump.at) (has_page area.text (jump.at + 7)) stands.text in
    let even = stands.even in
    let same : page_of (jump.at + 7) ≡ page_of (jump.at + 4) = omega (arith, even) in
    record {
      first = page_there text area.text jump.at all h.0;
      second = subst (IsThere text) same (page_there text area.text (jump.at + 7) all h.1);
    }

pub have_places : (text : List PageValue) (area : AreaValue) (jumps : List Jump) → AllByRecursion (IsThere text) area.text → AllByRecursion (StandsIn area) jumps → AllByRecursion (HasPlace text) jumps
have_places text area jumps all stand = all_more (StandsIn area) (HasPlace text) (λ jump stands. has_place text area jump all stands) jumps stand

-- each is clear of those behind it
abbrev AreClear : List Jump → Type 0
AreClear [] = Unit {0}
AreClear (jump ∷ jumps) = IsClearOf jumps jump × AreClear jumps

clear_flips : (one other : Jump) → IsClear one.at other → IsClear other.at one
clear_flips one other (inl same) = inl (sym same)
clear_flips one other (inr apart) = inr (overlap_flips one.at other.at apart)

with_first : (first : Jump) (all xs : List Jump) → AllByRecursion (IsClear first.at) xs → AllByRecursion (IsClearOf all) xs → AllByRecursion (IsClearOf (first ∷ all)) xs
with_first first all [] one each = tt
with_first first all (x ∷ xs) one each = ((clear_flips first x one.0, each.0), with_first first all xs one.1 each.1)

all_clear : (jumps : List Jump) → AreClear jumps → AllByRecursion (IsClearOf jumps) jumps
all_clear [] clear = tt
all_clear (jump ∷ jumps) clear = ((inl refl, clear.0), with_first jump jumps jumps clear.0 (all_clear jumps clear.1))

-- those of one patch share no byte
apart_clear : (jumps : List Jump) → AreApart jumps → AreClear jumps
apart_clear [] apart = tt
apart_clear (jump ∷ jumps) apart = (all_more (λ other. overlap jump.at other.at ≡ false) (IsClear jump.at) (λ other e. inr e) jumps apart.0, apart_clear jumps apart.1)

both_clear : (xs ys : List Jump) → AreClear xs → AreClear ys → AllByRecursion (IsClearOf ys) xs → AreClear (xs ++ ys)
both_clear [] ys one other each = other
both_clear (x ∷ xs) ys one other each = (all_append (IsClear x.at) xs ys one.0 each.0, both_clear xs ys one.1 other each.1)

-- and none meets one of an area in part
abbrev IsClearIn : List ℕ → Jump → Type 0
IsClearIn earlier jump = AllByRecursion (λ at. IsClear at jump) earlier

not_met : (at : ℕ) (earlier : List ℕ) (jump : Jump) → jump.at ≡ at → list_any (λ other. overlap at other && not (other == at)) earlier ≡ false → IsClearIn earlier jump
not_met at [] jump is e = tt
not_met at (a ∷ earlier) jump is e = (by_tests (overlap at a) (a == at) refl refl (or_parts _ _ e).0, not_met at earlier jump is (or_parts _ _ e).1)
  where
    or_parts : (x y : Bool) → (x || y) ≡ false → (x ≡ false) × (y ≡ false)
    or_parts false false e = (refl, refl)
    or_parts false true e = absurd (cc)
    or_parts true y e = absurd (cc)

    by_tests : (x y : Bool) → overlap at a ≡ x → (a == at) ≡ y → (x && not y) ≡ false → IsClear a jump
    by_tests false y p q e = inr (overlap_flips jump.at a (subst (λ (n : ℕ). overlap n a ≡ false) (sym is) p))
    by_tests true true p q e = inl (let same : a ≡ at = grind (arith, nat_tests) in same ∙ sym is)
    by_tests true false p q e = absurd (cc)

stand_clear : (area : AreaValue) (jumps : List Jump) → AllByRecursion (StandsIn area) jumps → AllByRecursion (IsClearIn area.jumps) jumps
stand_clear area jumps stand = all_more (StandsIn area) (IsClearIn area.jumps) (λ jump stands. not_met jump.at area.jumps jump refl stands.apart) jumps stand

-- each of a patch is clear of each behind it
crossed : (xs ys : List Jump) → AllByRecursion (IsClearIn (addresses_of xs)) ys → AllByRecursion (IsClearOf ys) xs
crossed [] ys all = tt
crossed (x ∷ xs) ys all = (
  all_more (IsClearIn (addresses_of (x ∷ xs))) (IsClear x.at) (λ y each. each.0) ys all,
  crossed xs ys (all_more (IsClearIn (addresses_of (x ∷ xs))) (IsClearIn (addresses_of xs)) (λ y each. each.1) ys all),
)

record Clear (area : AreaValue) (deltas : List DeltaValue) : Type 0 where
  within : AllByRecursion (IsClearIn area.jumps) (all_jumps deltas)
  among : AreClear (all_jumps deltas)

clear_behind : (area : AreaValue) (deltas : List DeltaValue) → FitBehind area deltas → Clear area deltas
clear_behind area [] fit = record { within = tt; among = tt }
clear_behind area (delta ∷ deltas) fit =
    let rest = clear_behind (area_with area delta) deltas fit.1 in
    record {
      within = all_append (IsClearIn area.jumps) delta.jumps (all_jumps deltas) (stand_clear area delta.jumps fit.0.stand)
          (all_more (IsClearIn (area.jumps ++ addresses_of delta.jumps)) (IsClearIn area.jumps) (λ jump each. all_front (λ at. IsClear at jump) area.jumps (addresses_of delta.jumps) each) (all_jumps deltas) rest.within);
      among = both_clear delta.jumps (all_jumps deltas) (apart_clear delta.jumps fit.0.apart) rest.among
          (crossed delta.jumps (all_jumps deltas)
          (all_more (IsClearIn (area.jumps ++ addresses_of delta.jumps)) (IsClearIn (addresses_of delta.jumps)) (λ jump each. all_back (λ at. IsClear at jump) area.jumps (addresses_of delta.jumps) each) (all_jumps deltas) rest.within));
    }

-- what holds of all jumps holds of those of a patch
pub jumps_at : (P : Jump → Type 0) (deltas : List DeltaValue) (k : ℕ) (delta : DeltaValue) → AllByRecursion P (all_jumps deltas) → slice_get deltas k ≡ Some delta → AllByRecursion P delta.jumps
jumps_at P [] k delta all e = absurd (cc)
jumps_at P (d ∷ ds) zero delta all e = (let same : d ≡ delta = cc in subst (λ (d : DeltaValue). AllByRecursion P d.jumps) same (all_front P d.jumps (all_jumps ds) all))
jumps_at P (d ∷ ds) (suc k) delta all e = jumps_at P ds k delta (all_back P d.jumps (all_jumps ds) all) e

-- no jump of a patch meets another of the run in part
pub none_meet : FittingJumpsAreClear
none_meet area deltas fit = all_clear (all_jumps deltas) (clear_behind area deltas fit).among
