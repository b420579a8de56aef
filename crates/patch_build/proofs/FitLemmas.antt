-- What is built fits what it was built over.
use Rattle.std.proofs.Common.{◌≡◌, ◌<◌, ◌≤◌, ◌+◌, ◌%◌, ◌==◌, ◌&&◌, ◌||◌, ℕ, suc, zero, List, [], ◌∷◌, ◌++◌, Bool, true, false, not, Option, None, Some, Result, Ok, Err, IfOk, refl, ap, sym, subst, ◌∙◌, arith, length, map, length-append}
use Rattle.std.proofs.lemmas.List.{map-append}
use Rattle.std.specs.Prelude.{if◌then◌else◌, min, nat_lt, ◌-◌, ◌^◌}
use Rattle.std.specs.Bool.{then_some}
use Rattle.std.specs.List.{AllByRecursion, list_any, range_with_len}
use Rattle.std.specs.Option.{option_map_or}
use Rattle.std.proofs.lemmas.Bool.Decides.{nat_tests}
use Rattle.std.proofs.lemmas.List.FromFn.{length-map-range_with_len}
use Rattle.wf_outside.specs.declared.image.Jump.{Jump}
use Rattle.wf_outside.specs.declared.sizes.TheConstants.{DATA_END, DATA_END_PAGE, PAGE_WORDS}
use Rattle.wf_outside.specs.Images.{data_numbers, text_numbers}
use Rattle.wf_outside.specs.Lists.{first_of}
use Rattle.wf_outside.specs.Pages.{DataPageValue, IsPage, PageValue}
use Rattle.elf_load.specs.Loaded.{words_in}
use Rattle.elf_read.specs.declared.records.Section.{Section}
use Rattle.elf_read.specs.Elf.{ElfValue}
use Rattle.elf_syms.specs.declared.found.Found.{Found}
use Rattle.elf_syms.specs.Names.{NamesValue, found_for}
use Rattle.elf_link.specs.Results.{and_then, or_told}
use Rattle.patch_file.specs.declared.patch.Replace.{Replace}
use Rattle.patch_file.specs.Patches.{PatchValue}
use Rattle.patch_rules.specs.declared.lines.LineRule.{LineRule}
use Rattle.patch_build.specs.declared.fault.BuildFault.{BuildFault}
use Rattle.patch_build.specs.declared.fault.BuildFault.TheVariants as build
use Rattle.patch_build.specs.declared.region.Region.TheVariants.{Text, Constants, Data}
use Rattle.patch_build.specs.Areas.{AreaValue, BuiltValue, IsArea}
use Rattle.patch_build.proofs.AreaLemmas.{none_high}
use Rattle.patch_build.specs.Builds.{built_at, built_of, built_with, unless_fault}
use Rattle.patch_build.specs.Fits.{AreApart, FitsArea, HasPages, StandsIn, next_behind}
use Rattle.patch_build.specs.Jumps.{can_jump, has_jump, has_page, jump_from, jumps_behind, line_jump, line_refusal, meets_jump, one_of, overlap}
use Rattle.patch_build.specs.Layout.{all_pages, area_fault, pages_of, places_of, starts_of}
use Rattle.patch_build.specs.Links.{LinkedValue, linked_of, link_fault}
use Rattle.patch_build.specs.Names.{common_fault, names_of}
use Rattle.patch_build.specs.Pages.{bytes_of, page_of_data, page_of_text}
use Rattle.patch_build.specs.Sections.{section_fault}
use Rattle.patch_build.specs.declared.naming.Wanted.TheVariants.{Functions}
use Rattle.elf_syms.specs.Telling.{told_of}
use Rattle.patch_build.specs.declared.constants.TheConstants.{MOST_PATCH_PAGES}

-- pages of numbers in a row
text_row : (bytes : List ℕ) (first k n : ℕ) → text_numbers (map (page_of_text bytes first) (range_with_len k n)) ≡ range_with_len (first + k) n
text_row bytes first k zero = refl
text_row bytes first k (suc n) =
    let e : first + (k + 1) ≡ first + k + 1 = omega arith in
    ap (λ (l : List ℕ). (first + k) ∷ l) (text_row bytes first (k + 1) n ∙ ap (λ (m : ℕ). range_with_len m n) e)

data_row : (bytes : List ℕ) (first : ℕ) (write : Bool) (k n : ℕ) → data_numbers (map (page_of_data bytes first write) (range_with_len k n)) ≡ range_with_len (first + k) n
data_row bytes first write k zero = refl
data_row bytes first write k (suc n) =
    let e : first + (k + 1) ≡ first + k + 1 = omega arith in
    ap (λ (l : List ℕ). (first + k) ∷ l) (data_row bytes first write (k + 1) n ∙ ap (λ (m : ℕ). range_with_len m n) e)

pub row-append : (a m n : ℕ) → range_with_len a m ++ range_with_len (a + m) n ≡ range_with_len a (m + n)
row-append a zero n =
    let e : a + 0 ≡ a = omega arith in
    let f : 0 + n ≡ n = omega arith in
    rw (e, f) refl
row-append a (suc m) n =
    let e : a + suc m ≡ a + 1 + m = omega arith in
    let f : suc (m + n) ≡ suc m + n = omega arith in
    ap (λ (l : List ℕ). a ∷ l) (ap (λ (k : ℕ). range_with_len (a + 1) m ++ range_with_len k n) e ∙ row-append (a + 1) m n)
    ∙ ap (λ (k : ℕ). range_with_len a k) f

words_length : (n : ℕ) (bytes : List ℕ) → length (words_in n bytes) ≡ n
unfolding words_in
words_length n bytes = length-map-range_with_len _ 0 n

-- each page is whole
text_whole : (bytes : List ℕ) (first k n : ℕ) → first + (k + n) ≤ DATA_END_PAGE
    → AllByRecursion (λ page. IsPage page.number page.words) (map (page_of_text bytes first) (range_with_len k n))
text_whole bytes first k zero low = tt
text_whole bytes first k (suc n) low =
    (record { whole = words_length PAGE_WORDS _; low = omega arith }, text_whole bytes first (k + 1) n (omega arith))

data_whole : (bytes : List ℕ) (first : ℕ) (write : Bool) (k n : ℕ) → first + (k + n) ≤ DATA_END_PAGE
    → AllByRecursion (λ page. IsPage page.number page.words) (map (page_of_data bytes first write) (range_with_len k n))
data_whole bytes first write k zero low = tt
data_whole bytes first write k (suc n) low =
    (record { whole = words_length PAGE_WORDS _; low = omega arith }, data_whole bytes first write (k + 1) n (omega arith))

both : {A : Type 0} (P : A → Type 0) (xs ys : List A) → AllByRecursion P xs → AllByRecursion P ys → AllByRecursion P (xs ++ ys)
both P [] ys all also = also
both P (x ∷ xs) ys all also = (all.0, both P xs ys all.1 also)

-- pages of three regions, one behind the other
rows : (text constants variables : List ℕ) (next m n k : ℕ) (jumps : List Jump) → next + (m + n + k) ≤ DATA_END_PAGE
    → HasPages next (record {
      private = map (page_of_text text next) (range_with_len 0 m);
      shared = map (page_of_data constants (next + m) false) (range_with_len 0 n) ++ map (page_of_data variables (next + m + n) true) (range_with_len 0 k);
      jumps = jumps;
    })
rows text constants variables next m n k jumps low =
    let private : List PageValue = map (page_of_text text next) (range_with_len 0 m) in
    let some : List DataPageValue = map (page_of_data constants (next + m) false) (range_with_len 0 n) in
    let more : List DataPageValue = map (page_of_data variables (next + m + n) true) (range_with_len 0 k) in
    let lm : length private ≡ m = length-map-range_with_len (page_of_text text next) 0 m in
    let ln : length some ≡ n = length-map-range_with_len (page_of_data constants (next + m) false) 0 n in
    let lk : length more ≡ k = length-map-range_with_len (page_of_data variables (next + m + n) true) 0 k in
    let l : length (some ++ more) ≡ n + k = length-append some more ∙ ap (λ (x : ℕ). x + length more) ln ∙ ap (λ (x : ℕ). n + x) lk in
    record {
      private = text_row text next 0 m ∙ ap (λ (a : ℕ). range_with_len a m) (omega arith) ∙ ap (λ (x : ℕ). range_with_len next x) (sym lm);
      shared =
          map-append (λ page. page.number) some more
          ∙ ap (λ (xs : List ℕ). xs ++ data_numbers more) (data_row constants (next + m) false 0 n ∙ ap (λ (a : ℕ). range_with_len a n) (omega arith))
          ∙ ap (λ (xs : List ℕ). range_with_len (next + m) n ++ xs) (data_row variables (next + m + n) true 0 k ∙ ap (λ (a : ℕ). range_with_len a k) (omega arith))
          ∙ row-append (next + m) n k
          ∙ ap (λ (x : ℕ). range_with_len (next + x) (n + k)) (sym lm)
          ∙ ap (λ (x : ℕ). range_with_len (next + length private) x) (sym l);
      low = omega (arith, lm, l, low);
      private_whole = text_whole text next 0 m (omega arith);
      shared_whole = both (λ page. IsPage page.number page.words) some more (data_whole constants (next + m) false 0 n (omega arith)) (data_whole variables (next + m + n) true 0 k (omega arith));
    }

rows_end : (text constants variables : List ℕ) (next m n k : ℕ) (jumps : List Jump)
    → next + (m + n + k) ≡ next_behind next (record {
      private = map (page_of_text text next) (range_with_len 0 m);
      shared = map (page_of_data constants (next + m) false) (range_with_len 0 n) ++ map (page_of_data variables (next + m + n) true) (range_with_len 0 k);
      jumps = jumps;
    })
rows_end text constants variables next m n k jumps =
    let some : List DataPageValue = map (page_of_data constants (next + m) false) (range_with_len 0 n) in
    let more : List DataPageValue = map (page_of_data variables (next + m + n) true) (range_with_len 0 k) in
    let lm = length-map-range_with_len (page_of_text text next) 0 m in
    let ln = length-map-range_with_len (page_of_data constants (next + m) false) 0 n in
    let lk = length-map-range_with_len (page_of_data variables (next + m + n) true) 0 k in
    let l : length (some ++ more) ≡ n + k = length-append some more ∙ ap (λ (x : ℕ). x + length more) ln ∙ ap (λ (x : ℕ). n + x) lk in
    omega (arith, lm, l)

-- where the area has room, the last page is among those of data
low_pages : (next : ℕ) (sections : List Section) → area_fault next sections ≡ None → next + all_pages sections ≤ DATA_END_PAGE
low_pages next sections none = by_tests (nat_lt MOST_PATCH_PAGES (all_pages sections)) (nat_lt DATA_END_PAGE (next + all_pages sections)) refl none
  where
    by_tests : (many high : Bool) → nat_lt DATA_END_PAGE (next + all_pages sections) ≡ high
        → (if many || high then Some (build.Area (min (all_pages sections) (2 ^ 64 - 1))) else None) ≡ None
        → next + all_pages sections ≤ DATA_END_PAGE
    by_tests true high is none = absurd (cc)
    by_tests false true is none = absurd (cc)
    by_tests false false is none = grind (arith, nat_tests, is)

-- lines whose jumps stand in the area, and do not meet
four_none : {A : Type 0} (a b c d : Bool) (w x y z : A) → first_of (then_some a w ∷ then_some b x ∷ then_some c y ∷ then_some d z ∷ []) ≡ None
    → (a ≡ false) × (b ≡ false) × (c ≡ false) × (d ≡ false)
four_none true b c d w x y z e = absurd (cc)
four_none false true c d w x y z e = absurd (cc)
four_none false false true d w x y z e = absurd (cc)
four_none false false false true w x y z e = absurd (cc)
four_none false false false false w x y z e = (refl, refl, refl, refl)

in_text : (a b c : Bool) → not (a && b && c) ≡ false → (a ≡ true) × (b ≡ true)
in_text true true true e = (refl, refl)
in_text true true false e = absurd (cc)
in_text true false c e = absurd (cc)
in_text false b c e = absurd (cc)

or_false : (a b : Bool) → (a || b) ≡ false → (a ≡ false) × (b ≡ false)
or_false false false e = (refl, refl)
or_false false true e = absurd (cc)
or_false true b e = absurd (cc)

overlap_flips : (a b : ℕ) → overlap a b ≡ false → overlap b a ≡ false
overlap_flips a b e = by_tests (nat_lt a (b + 8)) (nat_lt b (a + 8)) e
  where
    by_tests : (x y : Bool) → (x && y) ≡ false → (y && x) ≡ false
    by_tests true true e = absurd (cc)
    by_tests true false e = refl
    by_tests false true e = refl
    by_tests false false e = refl

none_meet : (at : ℕ) (jumps : List Jump) → list_any (λ jump. overlap at jump.at) jumps ≡ false → AllByRecursion (λ jump. overlap jump.at at ≡ false) jumps
none_meet at [] e = tt
none_meet at (jump ∷ jumps) e =
    let h = or_false (overlap at jump.at) (list_any (λ jump. overlap at jump.at) jumps) e in
    (overlap_flips at jump.at h.0, none_meet at jumps h.1)

apart-more : (jumps : List Jump) (jump : Jump) → AreApart jumps → AllByRecursion (λ other. overlap other.at jump.at ≡ false) jumps → AreApart (jumps ++ jump ∷ [])
apart-more [] jump apart none = (tt, tt)
apart-more (other ∷ others) jump apart none =
    (both (λ j. overlap other.at j.at ≡ false) others (jump ∷ []) apart.0 (none.0, tt), apart-more others jump apart.1 none.1)

-- a jump that a line makes stands in the area, and meets none of these
record Stands (area : AreaValue) (jumps : List Jump) (jump : Jump) : Type 0 where
  pub stands : StandsIn area jump
  pub apart : AllByRecursion (λ other. overlap other.at jump.at ≡ false) jumps

even_from : (at : ℕ) → (at % 4 == 0) ≡ true → at % 4 ≡ 0
even_from at e = grind (arith, nat_tests, e)

-- a jump in the text is below the stacks
jump_low : (area : AreaValue) → IsArea area.next area.text → (at : ℕ) → has_jump area.text at ≡ true → at < DATA_END
jump_low area kept at there = by_test (nat_lt at DATA_END) refl
  where
    no_page : (a b : Bool) → false ≡ a → (a && b) ≡ true → ⊥
    no_page true b e f = absurd (cc)
    no_page false b e f = absurd (cc)

    by_test : (b : Bool) → nat_lt at DATA_END ≡ b → at < DATA_END
    by_test true is = grind (arith, nat_tests, is)
    by_test false is =
        let high : DATA_END ≤ at = grind (arith, nat_tests, is) in
        let none = none_high area.text area.next at kept.low kept.used high in
        absurd (no_page (has_page area.text at) (has_page area.text (at + 7)) none there)

stands_from : (area : AreaValue) → IsArea area.next area.text → (jumps : List Jump) (size from to : ℕ) → line_refusal area jumps size from to ≡ None → Stands area jumps (jump_from from to)
stands_from area kept jumps size from to none =
    let h = four_none (nat_lt size 8) (not (has_jump area.text from && (from % 4 == 0) && (to % 4 == 0))) (not (can_jump from to)) (meets_jump area.jumps jumps from) _ _ _ _ none in
    let k = in_text (has_jump area.text from) (from % 4 == 0) (to % 4 == 0) h.1 in
    let m = or_false (list_any (λ jump. overlap from jump.at) jumps) (list_any (λ other. overlap from other && not (other == from)) area.jumps) h.3 in
    record {
      stands = record { text = k.0; low = jump_low area kept from k.0; even = even_from from k.1; apart = m.1 };
      apart = none_meet from jumps m.0;
    }

line_stands : (functions : List ℕ → Found) (names : NamesValue) (area : AreaValue) → IsArea area.next area.text → (jumps : List Jump) (r : Replace) (jump : Jump)
    → line_jump functions names area jumps r ≡ Ok jump → Stands area jumps jump
line_stands functions names area kept jumps r jump e = by_new (one_of (functions r.new)) e
  where
    by_refusal : (size from to : ℕ) (o : Option LineRule) → line_refusal area jumps size from to ≡ o
        → option_map_or Err o (Ok (jump_from from to)) ≡ Ok jump → Stands area jumps jump
    by_refusal size from to None is e =
        let same : jump_from from to ≡ jump = cc in
        subst (λ (j : Jump). Stands area jumps j) same (stands_from area kept jumps size from to is)
    by_refusal size from to (Some rule) is e = absurd (cc)

    by_old : (new : ℕ × ℕ) (old : Result (ℕ × ℕ) LineRule)
        → and_then old (λ old. option_map_or Err (line_refusal area jumps old.1 old.0 new.0) (Ok (jump_from old.0 new.0))) ≡ Ok jump
        → Stands area jumps jump
    by_old new (Ok old) e = by_refusal old.1 old.0 new.0 (line_refusal area jumps old.1 old.0 new.0) refl e
    by_old new (Err rule) e = absurd (cc)

    by_new : (new : Result (ℕ × ℕ) LineRule)
        → and_then new (λ new. and_then (one_of (found_for names r.old)) (λ old.
        option_map_or Err (line_refusal area jumps old.1 old.0 new.0) (Ok (jump_from old.0 new.0)))) ≡ Ok jump
        → Stands area jumps jump
    by_new (Ok new) e = by_old new (one_of (found_for names r.old)) e
    by_new (Err rule) e = absurd (cc)

-- all jumps of a patch stand in the area, and none meets another
pub record AllStand (area : AreaValue) (jumps : List Jump) : Type 0 where
  pub stand : AllByRecursion (StandsIn area) jumps
  pub apart : AreApart jumps

lines_stand : (functions : List ℕ → Found) (names : NamesValue) (area : AreaValue) → IsArea area.next area.text → (jumps : List Jump) (rs : List Replace) (all : List Jump)
    → AllStand area jumps → jumps_behind functions names area jumps rs ≡ Ok all → AllStand area all
lines_stand functions names area kept jumps [] all so e =
    let same : jumps ≡ all = cc in subst (λ (js : List Jump). AllStand area js) same so
lines_stand functions names area kept jumps (r ∷ rs) all so e =
    by_line (λ more now. lines_stand functions names area kept more rs all now) (line_jump functions names area jumps r) refl e
  where
    by_line : ((more : List Jump) → AllStand area more → jumps_behind functions names area more rs ≡ Ok all → AllStand area all)
        → (o : Result Jump LineRule) → line_jump functions names area jumps r ≡ o
        → and_then (or_told (build.Line r.line) o) (λ jump. jumps_behind functions names area (jumps ++ jump ∷ []) rs) ≡ Ok all
        → AllStand area all
    by_line go (Ok jump) is e =
        let here = line_stands functions names area kept jumps r jump is in
        go (jumps ++ jump ∷ [])
        (record { stand = both (StandsIn area) jumps (jump ∷ []) so.stand (here.stands, tt); apart = apart-more jumps jump so.apart here.apart }) e
    by_line go (Err rule) is e = absurd (cc)

-- a patch that was built fits, and its pages end there
pub record Fits (area : AreaValue) (built : BuiltValue) : Type 0 where
  pub fits : FitsArea area built.delta
  pub next : built.next ≡ next_behind area.next built.delta

with_jumps : (object : ElfValue) (area : AreaValue) (places : List (Option ℕ)) (linked : List LinkedValue) (jumps : List Jump)
    → area.next + all_pages object.sections ≤ DATA_END_PAGE → AllStand area jumps
    → Fits area (built_with object (starts_of area.next object.sections) places linked jumps)
unfolding built_with
with_jumps object area places linked jumps low so = record {
  fits = record {
    pages = rows (bytes_of Text object.sections linked) (bytes_of Constants object.sections linked) (bytes_of Data object.sections linked)
        area.next (pages_of Text object.sections) (pages_of Constants object.sections) (pages_of Data object.sections) jumps low;
    stand = so.stand;
    apart = so.apart;
  };
  next = rows_end (bytes_of Text object.sections linked) (bytes_of Constants object.sections linked) (bytes_of Data object.sections linked)
      area.next (pages_of Text object.sections) (pages_of Constants object.sections) (pages_of Data object.sections) jumps;
}

at_fits : (patch : PatchValue) (object : ElfValue) (names : NamesValue) (area : AreaValue) → IsArea area.next area.text → (places : List (Option ℕ)) (built : BuiltValue)
    → area.next + all_pages object.sections ≤ DATA_END_PAGE
    → built_at patch object names area (starts_of area.next object.sections) places ≡ Ok built → Fits area built
unfolding built_at
at_fits patch object names area kept places built low e = by_jumps (jumps_behind (told_of (names_of Functions object places)) names area [] patch.replaces) refl e
  where
    by_links : (jumps : List Jump) → AllStand area jumps → (o : Option BuildFault)
        → unless_fault o (Ok (built_with object (starts_of area.next object.sections) places (linked_of object places names) jumps)) ≡ Ok built
        → Fits area built
    by_links jumps so None e =
        let same : built_with object (starts_of area.next object.sections) places (linked_of object places names) jumps ≡ built = cc in
        subst (λ (b : BuiltValue). Fits area b) same (with_jumps object area places (linked_of object places names) jumps low so)
    by_links jumps so (Some fault) e = absurd (cc)

    by_jumps : (o : Result (List Jump) BuildFault) → jumps_behind (told_of (names_of Functions object places)) names area [] patch.replaces ≡ o
        → and_then o (λ jumps. unless_fault (link_fault (linked_of object places names) object.relas)
        (Ok (built_with object (starts_of area.next object.sections) places (linked_of object places names) jumps))) ≡ Ok built
        → Fits area built
    by_jumps (Ok jumps) is e =
        by_links jumps (lines_stand (told_of (names_of Functions object places)) names area kept [] patch.replaces jumps (record { stand = tt; apart = tt }) is)
        (link_fault (linked_of object places names) object.relas) e
    by_jumps (Err fault) is e = absurd (cc)

unless_ok : {A : Type 0} (o : Option BuildFault) (r : Result A BuildFault) (x : A) → unless_fault o r ≡ Ok x → (o ≡ None) × (r ≡ Ok x)
unless_ok None r x e = (refl, e)
unless_ok (Some fault) r x e = absurd (cc)

pub built_fits : (patch : PatchValue) (object : ElfValue) (names : NamesValue) (area : AreaValue) → IsArea area.next area.text → (built : BuiltValue)
    → built_of patch object names area ≡ Ok built → Fits area built
unfolding built_of
built_fits patch object names area kept built e =
    let sections = unless_ok (section_fault 0 object.sections) _ built e in
    let symbols = unless_ok (common_fault 0 object.symbols) _ built sections.1 in
    let pages = unless_ok (area_fault area.next object.sections) _ built symbols.1 in
    at_fits patch object names area kept (places_of (starts_of area.next object.sections) object.sections) built (low_pages area.next object.sections pages.0) pages.1

-- the same of a result
pub result_fits : (patch : PatchValue) (object : ElfValue) (names : NamesValue) (area : AreaValue) → IsArea area.next area.text → (r : Result BuiltValue BuildFault)
    → IfOk r (λ built. built_of patch object names area ≡ Ok built)
    → IfOk r (λ built. FitsArea area built.delta) × IfOk r (λ built. built.next ≡ next_behind area.next built.delta)
result_fits patch object names area kept (Ok built) is = let h = built_fits patch object names area kept built is in (h.fits, h.next)
result_fits patch object names area kept (Err fault) is = (tt, tt)
