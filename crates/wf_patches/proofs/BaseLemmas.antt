-- What patches are built over, by what is found there.
use Rattle.std.proofs.Common.{◌≡◌, ◌==◌, ◌||◌, ◌&&◌, ◌+◌, ℕ, List, [], ◌∷◌, ◌++◌, Bool, true, false, cond, not, Some, refl, ap, sym, subst, ◌∙◌}
use Rattle.std.specs.Prelude.{if◌then◌else◌, unwrap_or}
use Rattle.std.specs.List.{AllByRecursion, filter, list_any}
use Rattle.std.specs.Map.{lookup}
use Rattle.std.specs.Str.{bytes_eq}
use Rattle.std.proofs.lemmas.List.Folds.{list_any-append}
use Rattle.std.proofs.lemmas.Slice.Eq.{bytes_eq-Decides}
use Rattle.wf_outside.specs.declared.image.Jump.{Jump}
use Rattle.wf_outside.specs.declared.image.Name.{Name}
use Rattle.wf_outside.specs.Images.{DeltaValue, ImageValue, text_numbers}
use Rattle.elf_syms.specs.declared.found.Found.{Found}
use Rattle.elf_syms.specs.declared.found.Found.TheVariants as found
use Rattle.elf_syms.specs.Names.{FindsAs, NamesValue, found_for, image_names, no_names, with_list}
use Rattle.elf_syms.specs.Telling.{has_name, or_else, told_by, told_of}
use Rattle.patch_build.specs.Areas.{AreaValue, BuiltValue}
use Rattle.patch_build.specs.Fits.{FitBehind, FitsArea, HasPages, IsSameArea, StandsIn, area_over, area_with, next_behind}
use Rattle.patch_build.specs.Jumps.{addresses_of, has_jump, has_page, meets_jump}
use Rattle.wf_outside.specs.Pages.{page_of}
use Rattle.wf_patches.specs.Bases.{BaseValue, IsSameBase, finds_of, base_over, base_with}

-- a list that has no entry of a name tells nothing of it
filter_none : (name : List ℕ) (list : List Name) → list_any (has_name name) list ≡ false → filter (has_name name) list ≡ []
filter_none name [] none = refl
filter_none name (entry ∷ list) none = by_test (λ h. filter_none name list h) (has_name name entry) refl none
  where
    by_test : (list_any (has_name name) list ≡ false → filter (has_name name) list ≡ []) → (b : Bool) → has_name name entry ≡ b → (b || list_any (has_name name) list) ≡ false
        → (if b then entry ∷ filter (has_name name) list else filter (has_name name) list) ≡ []
    by_test rest true is none = absurd (cc)
    by_test rest false is none = rest none

told_none : (name : List ℕ) (list : List Name) → list_any (has_name name) list ≡ false → told_of list name ≡ found.None
told_none name list none = ap told_by (filter_none name list none)

any_filter : (p : Name → Bool) (name : List ℕ) (list : List Name) → list_any (has_name name) list ≡ false → list_any (has_name name) (filter p list) ≡ false
any_filter p name [] none = refl
any_filter p name (entry ∷ list) none = by_test (λ h. any_filter p name list h) (p entry) (has_name name entry) refl none
  where
    by_test : (list_any (has_name name) list ≡ false → list_any (has_name name) (filter p list) ≡ false) → (b h : Bool) → has_name name entry ≡ h → (h || list_any (has_name name) list) ≡ false
        → list_any (has_name name) (if b then entry ∷ filter p list else filter p list) ≡ false
    by_test rest b true is none = absurd (cc)
    by_test rest true false is none = rw is (rest none)
    by_test rest false false is none = rest none

-- what is found in a list of all its names: what is to be, of each that is there
look : (finds : List ℕ → Found) (name : List ℕ) (list : List Name) (rest : NamesValue)
    → found_for (finds_of finds list ++ rest) name ≡ (if list_any (has_name name) list then finds name else found_for rest name)
look finds name [] rest = refl
look finds name (entry ∷ list) rest = by_test (look finds name list rest) (bytes_eq name entry.name) refl
  where
    by_test : (found_for (finds_of finds list ++ rest) name ≡ (if list_any (has_name name) list then finds name else found_for rest name)) → (b : Bool) → bytes_eq name entry.name ≡ b
        → unwrap_or (cond b (Some (finds entry.name)) (lookup (bytes_eq name) (finds_of finds list ++ rest))) found.None
        ≡ (if b || list_any (has_name name) list then finds name else found_for rest name)
    by_test behind true is =
        let same : name ≡ entry.name = (bytes_eq-Decides name entry.name).0 is in
        ap finds (sym same)
    by_test behind false is = behind

-- where a list is put before names, it decides
pub finds_with : (names : NamesValue) (list : List Name) → FindsAs (finds_of (with_list list (found_for names)) list ++ names) (with_list list (found_for names))
finds_with names list name = look (with_list list (found_for names)) name list names ∙ by_test (list_any (has_name name) list) refl
  where
    by_test : (b : Bool) → list_any (has_name name) list ≡ b
        → (if b then with_list list (found_for names) name else found_for names name) ≡ with_list list (found_for names) name
    by_test true is = refl
    by_test false is = sym (ap (λ (f : Found). or_else f (found_for names name)) (told_none name list is))

append_none : (names : NamesValue) → names ++ [] ≡ names
append_none [] = refl
append_none (n ∷ names) = ap (λ ns. n ∷ ns) (append_none names)

-- the names of an image
pub finds_over : (list : List Name) → FindsAs (finds_of (image_names list) list) (image_names list)
finds_over list name =
    ap (λ (ns : NamesValue). found_for ns name) (sym (append_none (finds_of (image_names list) list)))
    ∙ look (image_names list) name list []
    ∙ by_test (list_any (has_name name) list) refl
  where
    by_test : (b : Bool) → list_any (has_name name) list ≡ b → (if b then image_names list name else found.None) ≡ image_names list name
    by_test true is = refl
    by_test false is =
        let globals = told_none name (filter (λ entry. entry.global) list) (any_filter (λ entry. entry.global) name list is) in
        let locals = told_none name (filter (λ entry. not entry.global) list) (any_filter (λ entry. not entry.global) name list is) in
        sym (ap (λ (f : Found). or_else f (with_list (filter (λ entry. not entry.global) list) no_names name)) globals
        ∙ ap (λ (f : Found). or_else f found.None) locals)

-- an image's base
pub same_over : (image : ImageValue) (base : BaseValue) → FindsAs base.names (image_names image.names) → IsSameArea base.area (area_over image)
    → IsSameBase base (base_over image)
same_over image base finds area = record {
  names = λ name. finds name ∙ sym (finds_over image.names name);
  area = area;
}

area_itself : (area other : AreaValue) → area ≡ other → IsSameArea area other
area_itself area other is = record { next = ap (λ (a : AreaValue). a.next) is; text = λ test. ap (λ (a : AreaValue). list_any test a.text) is; jumps = ap (λ (a : AreaValue). a.jumps) is }

-- the base behind a patch
pub same_with : (old new : BaseValue) (built : BuiltValue) → FindsAs new.names (with_list built.names (found_for old.names)) → new.area ≡ area_with old.area built.delta
    → IsSameBase new (base_with old built)
same_with old new built finds area = record {
  names = λ name. finds name ∙ sym (finds_with old.names built.names name);
  area = area_itself new.area (area_with old.area built.delta) area;
}

-- bases that are the same stay so
area_same : (one other : AreaValue) (delta : DeltaValue) → IsSameArea one other → IsSameArea (area_with one delta) (area_with other delta)
area_same one other delta same = record {
  next = ap (λ (n : ℕ). next_behind n delta) same.next;
  text = λ test. list_any-append test one.text (text_numbers delta.private)
      ∙ ap (λ (b : Bool). b || list_any test (text_numbers delta.private)) (same.text test)
      ∙ sym (list_any-append test other.text (text_numbers delta.private));
  jumps = ap (λ (js : List ℕ). js ++ addresses_of delta.jumps) same.jumps;
}

pub bases_same : (one other : BaseValue) (built : BuiltValue) → IsSameBase one other → IsSameBase (base_with one built) (base_with other built)
bases_same one other built same = record {
  names = λ name. finds_with one.names built.names name
      ∙ ap (λ (f : Found). or_else (told_of built.names name) f) (same.names name)
      ∙ sym (finds_with other.names built.names name);
  area = area_same one.area other.area built.delta same.area;
}

-- what fits an area fits one that is the same
stands_same : (one other : AreaValue) (jump : Jump) → IsSameArea one other → StandsIn one jump → StandsIn other jump
stands_same one other jump same stands = record {
  text = sym (same_text jump.at) ∙ stands.text;
  low = stands.low;
  even = stands.even;
  apart = ap (λ (js : List ℕ). meets_jump js [] jump.at) (sym same.jumps) ∙ stands.apart;
}
  where
    same_text : (at : ℕ) → has_jump one.text at ≡ has_jump other.text at
    same_text at =
        ap (λ (t : Bool). t && has_page one.text (at + 7)) (same.text (λ n. n == page_of at))
        ∙ ap (λ (t : Bool). has_page other.text at && t) (same.text (λ n. n == page_of (at + 7)))

all_stand : (one other : AreaValue) (jumps : List Jump) → IsSameArea one other → AllByRecursion (StandsIn one) jumps → AllByRecursion (StandsIn other) jumps
all_stand one other [] same all = tt
all_stand one other (jump ∷ jumps) same all = (stands_same one other jump same all.0, all_stand one other jumps same all.1)

pub fits_same : (one other : AreaValue) (delta : DeltaValue) → IsSameArea one other → FitsArea one delta → FitsArea other delta
fits_same one other delta same fits = record {
  pages = subst (λ (n : ℕ). HasPages n delta) same.next fits.pages;
  stand = all_stand one other delta.jumps same fits.stand;
  apart = fits.apart;
}

pub behind_same : (one other : AreaValue) (deltas : List DeltaValue) → IsSameArea one other → FitBehind one deltas → FitBehind other deltas
behind_same one other [] same fit = tt
behind_same one other (delta ∷ deltas) same fit =
    (fits_same one other delta same fit.0, behind_same (area_with one delta) (area_with other delta) deltas (area_same one other delta same) fit.1)
