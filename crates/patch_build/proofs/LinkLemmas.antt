-- Sections that are relocated, and their bytes.
use Rattle.std.proofs.Common.{◌≡◌, ◌<◌, ◌≤◌, ◌+◌, ◌^◌, ℕ, suc, zero, List, [], ◌∷◌, ◌++◌, Bool, true, false, cond, not, ◌&&◌, refl, ap, sym, subst, ◌∙◌, arith, length, take, drop, get_or, length-append, append_assoc, Option, None}
use Rattle.std.specs.List.{AllZip, fold}
use Rattle.std.proofs.lemmas.List.{take_more}
use Rattle.elf_read.specs.declared.records.Section.{Section}
use Rattle.std.proofs.Math.ListN.{length-replicate}
use Rattle.patch_build.specs.declared.constants.TheConstants.{SHF_EXECINSTR}
use Rattle.patch_build.specs.declared.region.Region.{Region}
use Rattle.patch_build.specs.declared.region.Region.TheVariants.{Text, Constants, Data}
use Rattle.std.specs.Option.{option_map_or}
use Rattle.std.proofs.lemmas.Option.{slice_get-get_or}
use Rattle.elf_link.specs.Applied.{relocated}
use Rattle.elf_link.specs.Links.{link_of, size_of}
use Rattle.elf_read.specs.Elf.{ElfValue}
use Rattle.elf_syms.specs.Names.{NamesValue}
use Rattle.patch_build.specs.declared.constants.TheConstants.{MOST_PATCH_PAGES}
use Rattle.patch_build.specs.declared.layout.Ends.{Ends}
use Rattle.patch_build.specs.Layout.{HasRoom, all_pages, region_end, end_with, offset_behind}
use Rattle.patch_build.specs.Links.{AreSized, LinkedValue, linked_as, linked_at, linked_from}
use Rattle.patch_build.specs.Pages.{bytes_behind, bytes_with, padded}
use Rattle.patch_build.specs.Sections.{has_flag, is_loaded, is_of}
use Rattle.patch_build.proofs.LayoutLemmas.{end-grows, end-le, region_end-few}

zip-push : {A B : Type 0} (P : A → B → Type 0) (xs : List A) (ys : List B) (x : A) (y : B) → AllZip P xs ys → P x y → AllZip P (xs ++ x ∷ []) (ys ++ y ∷ [])
zip-push P [] [] x y all p = (p, tt)
zip-push P [] (b ∷ ys) x y all p = absurd all
zip-push P (a ∷ xs) [] x y all p = absurd all
zip-push P (a ∷ xs) (b ∷ ys) x y all p = (all.0, zip-push P xs ys x y all.1 p)

-- one more section
pub sized-more : (ss : List Section) (ls : List LinkedValue) (i : ℕ) (d : Section) (l : LinkedValue) → i < length ss
    → AreSized (take i ss) ls → (is_loaded (get_or ss i d) ≡ true → length l.bytes ≤ (get_or ss i d).sh_size) → AreSized (take (i + 1) ss) (ls ++ l ∷ [])
sized-more ss ls i d l lt all p =
    subst (λ (xs : List Section). AreSized xs (ls ++ l ∷ [])) (sym (take_more ss i d lt)) (zip-push _ (take i ss) ls (get_or ss i d) l all p)

-- there are as many of both
pub sized-length : (ss : List Section) (ls : List LinkedValue) → AreSized ss ls → length ss ≡ length ls
sized-length [] [] all = refl
sized-length [] (l ∷ ls) all = absurd all
sized-length (s ∷ ss) [] all = absurd all
sized-length (s ∷ ss) (l ∷ ls) all = ap (λ n. suc n) (sized-length ss ls all.1)

-- one of them
pub sized-at : (ss : List Section) (ls : List LinkedValue) (i : ℕ) (d : Section) (e : LinkedValue) → AreSized ss ls → i < length ss
    → is_loaded (get_or ss i d) ≡ true → length (get_or ls i e).bytes ≤ (get_or ss i d).sh_size
sized-at [] ls i d e all lt loaded = absurd (omega arith)
sized-at (s ∷ ss) [] i d e all lt loaded = absurd all
sized-at (s ∷ ss) (l ∷ ls) zero d e all lt loaded = all.0 loaded
sized-at (s ∷ ss) (l ∷ ls) (suc i) d e all lt loaded = sized-at ss ls i d e all.1 (omega arith) loaded

and_first : (a b : Bool) → (a && b) ≡ true → a ≡ true
and_first true b e = refl
and_first false b e = absurd (cc)

-- a section of a region is loaded
pub loaded-of : (region : Region) (s : Section) → is_of region s ≡ true → is_loaded s ≡ true
loaded-of Text s e = and_first (is_loaded s) _ e
loaded-of Constants s e = and_first (is_loaded s) _ (and_first (is_loaded s && not (has_flag SHF_EXECINSTR s)) _ e)
loaded-of Data s e = and_first (is_loaded s) _ (and_first (is_loaded s && not (has_flag SHF_EXECINSTR s)) _ e)

-- the next section comes behind the bytes
bytes-step : (region : Region) (ss : List Section) (ls : List LinkedValue) (i : ℕ) (d : Section) (e : LinkedValue) (bytes : List ℕ) → i < length ss → length ss ≡ length ls
    → bytes_behind region bytes (drop i ss) (drop i ls) ≡ bytes_behind region (bytes_with region bytes (get_or ss i d) (get_or ls i e)) (drop (suc i) ss) (drop (suc i) ls)
bytes-step region [] ls i d e bytes lt same = absurd (omega arith)
bytes-step region (s ∷ ss) [] i d e bytes lt same = absurd (omega arith)
bytes-step region (s ∷ ss) (l ∷ ls) zero d e bytes lt same = refl
bytes-step region (s ∷ ss) (l ∷ ls) (suc i) d e bytes lt same = bytes-step region ss ls i d e bytes (omega arith) (omega arith)

pub bytes-more : (region : Region) (ss : List Section) (ls : List LinkedValue) (i : ℕ) (d : Section) (l : LinkedValue) (old new all : List ℕ) → i < length ss → length ss ≡ length ls
    → l ≡ get_or ls i l → new ≡ bytes_with region old (get_or ss i d) l → bytes_behind region old (drop i ss) (drop i ls) ≡ all
    → bytes_behind region new (drop (i + 1) ss) (drop (i + 1) ls) ≡ all
bytes-more region ss ls i d l old new all lt same at is so_far =
    let n : i + 1 ≡ suc i = omega arith in
    ap (λ (k : ℕ). bytes_behind region new (drop k ss) (drop k ls)) n
    ∙ ap (λ (bs : List ℕ). bytes_behind region bs (drop (suc i) ss) (drop (suc i) ls)) (is ∙ ap (λ (x : LinkedValue). bytes_with region old (get_or ss i d) x) at)
    ∙ sym (bytes-step region ss ls i d l old lt same) ∙ so_far

ends-step : (region : Region) (ss : List Section) (i : ℕ) (d : Section) (at : ℕ) → i < length ss
    → fold (end_with region) at (drop i ss) ≡ fold (end_with region) (end_with region at (get_or ss i d)) (drop (suc i) ss)
ends-step region [] i d at lt = absurd (omega arith)
ends-step region (s ∷ ss) zero d at lt = refl
ends-step region (s ∷ ss) (suc i) d at lt = ends-step region ss i d at (omega arith)

put-length : (b : Bool) (n size : ℕ) (old more : List ℕ) → length old ≤ n → (b ≡ true → length more ≤ size)
    → length (cond b (padded n old ++ more) old) ≤ cond b (n + size) (length old)
put-length true n size old more le few =
    let f : length more ≤ size = few refl in
    simp (length-append, length-replicate) (omega arith)
put-length false n size old more le few = omega arith

-- one section more ends no higher than it is to
pub ends-more : (region : Region) (ss : List Section) (ls : List LinkedValue) (i : ℕ) (d : Section) (l : LinkedValue) (old new : List ℕ) (top : ℕ)
    → AreSized ss ls → i < length ss → l ≡ get_or ls i l → new ≡ bytes_with region old (get_or ss i d) l
    → fold (end_with region) (length old) (drop i ss) ≤ top → fold (end_with region) (length new) (drop (i + 1) ss) ≤ top
ends-more region ss ls i d l old new top sized lt at is so_far =
    let s = get_or ss i d in
    let small : is_of region s ≡ true → length l.bytes ≤ s.sh_size =
    λ b. subst (λ (x : LinkedValue). length x.bytes ≤ s.sh_size) (sym at) (sized-at ss ls i d l sized lt (loaded-of region s b)) in
    let le : length (bytes_with region old s l) ≤ end_with region (length old) s =
    put-length (is_of region s) (offset_behind (length old) s) s.sh_size old l.bytes (omega arith) small in
    let n : i + 1 ≡ suc i = omega arith in
    let f : fold (end_with region) (length new) (drop (suc i) ss) ≤ fold (end_with region) (end_with region (length old) s) (drop (suc i) ss) =
    end-le region (length new) (end_with region (length old) s) (drop (suc i) ss) (subst (λ (bs : List ℕ). length bs ≤ end_with region (length old) s) (sym is) le) in
    let g = ends-step region ss i d (length old) lt in
    subst (λ (k : ℕ). fold (end_with region) (length new) (drop k ss) ≤ top) (sym n) (omega (arith, f, g, so_far))

-- the next section has room
pub ends-room : (region : Region) (ss : List Section) (i : ℕ) (d : Section) (at top : ℕ) → i < length ss → fold (end_with region) at (drop i ss) ≤ top
    → end_with region at (get_or ss i d) ≤ top
ends-room region ss i d at top lt so_far =
    let g = ends-step region ss i d at lt in
    let h = end-grows region (end_with region at (get_or ss i d)) (drop (suc i) ss) in
    omega arith

pub ends-room-few : (region : Region) (ss : List Section) (i : ℕ) (d : Section) (at n : ℕ) → all_pages ss ≤ MOST_PATCH_PAGES → i < length ss → n ≡ at
    → fold (end_with region) at (drop i ss) ≤ region_end region ss → end_with region n (get_or ss i d) < 2 ^ 32
ends-room-few region ss i d at n few lt same so_far =
    let h = ends-room region ss i d at (region_end region ss) lt so_far in
    let k = region_end-few region ss few in
    subst (λ (m : ℕ). end_with region m (get_or ss i d) < 2 ^ 32) (sym same) (omega (arith, h, k))

-- in each region
pub places-room : (ends : Ends) (ss : List Section) (i : ℕ) (d : Section) → all_pages ss ≤ MOST_PATCH_PAGES → i < length ss
    → fold (end_with Text) ends.text (drop i ss) ≡ region_end Text ss
    → fold (end_with Constants) ends.constants (drop i ss) ≡ region_end Constants ss
    → fold (end_with Data) ends.variables (drop i ss) ≡ region_end Data ss
    → HasRoom ends (get_or ss i d)
places-room ends ss i d few lt text constants variables Text = ends-room-few Text ss i d ends.text ends.text few lt refl (omega (arith, text))
places-room ends ss i d few lt text constants variables Constants = ends-room-few Constants ss i d ends.constants ends.constants few lt refl (omega (arith, constants))
places-room ends ss i d few lt text constants variables Data = ends-room-few Data ss i d ends.variables ends.variables few lt refl (omega (arith, variables))

linked-step : (object : ElfValue) (places : List (Option ℕ)) (names : NamesValue) (ss : List Section) (n i : ℕ) (d : Section) → i < length ss
    → linked_from object places names n (drop i ss) ≡ linked_at object places names n (get_or ss i d) ∷ linked_from object places names (n + 1) (drop (suc i) ss)
linked-step object places names [] n i d lt = absurd (omega arith)
linked-step object places names (s ∷ ss) n zero d lt = refl
linked-step object places names (s ∷ ss) n (suc i) d lt = linked-step object places names ss n i d (omega arith)

pub linked-more : (object : ElfValue) (places : List (Option ℕ)) (names : NamesValue) (ss : List Section) (i : ℕ) (d : Section) (old new all : List LinkedValue) (l : LinkedValue)
    → i < length ss → new ≡ old ++ l ∷ [] → l ≡ linked_at object places names i (get_or ss i d)
    → old ++ linked_from object places names i (drop i ss) ≡ all → new ++ linked_from object places names (i + 1) (drop (i + 1) ss) ≡ all
linked-more object places names ss i d old new all l lt is at so_far =
    let n : i + 1 ≡ suc i = omega arith in
    ap (λ (k : ℕ). new ++ linked_from object places names (i + 1) (drop k ss)) n
    ∙ ap (λ (ls : List LinkedValue). ls ++ linked_from object places names (i + 1) (drop (suc i) ss)) (is ∙ ap (λ (x : LinkedValue). old ++ x ∷ []) at)
    ∙ append_assoc old (linked_at object places names i (get_or ss i d) ∷ []) (linked_from object places names (i + 1) (drop (suc i) ss))
    ∙ ap (λ (ls : List LinkedValue). old ++ ls) (sym (linked-step object places names ss i i d lt)) ∙ so_far

pub loaded-in : (ss ts : List Section) (i : ℕ) (d : Section) (b : Bool) → ss ≡ ts → is_loaded (get_or ss i d) ≡ b → is_loaded (get_or ts i d) ≡ b
loaded-in ss ts i d b e h = subst (λ (xs : List Section). is_loaded (get_or xs i d) ≡ b) e h

pub lt-in : (ss ts : List Section) (i : ℕ) → ss ≡ ts → i < length ss → i < length ts
lt-in ss ts i e h = subst (λ (xs : List Section). i < length xs) e h

pub at-loaded : (object : ElfValue) (places : List (Option ℕ)) (names : NamesValue) (n : ℕ) (s : Section) (l : LinkedValue)
    → is_loaded s ≡ true → l ≡ linked_as (relocated (link_of object places names n)) → l ≡ linked_at object places names n s
at-loaded object places names n s l loaded is = is ∙ by_test (is_loaded s) loaded where
  by_test : (b : Bool) → b ≡ true → linked_as (relocated (link_of object places names n)) ≡ cond b (linked_as (relocated (link_of object places names n))) (record { bytes = []; fault = None })
  by_test true e = refl
  by_test false e = absurd (cc)

pub at-none : (object : ElfValue) (places : List (Option ℕ)) (names : NamesValue) (n : ℕ) (s : Section) (bs : List ℕ)
    → is_loaded s ≡ false → bs ≡ [] → (let r : LinkedValue = record { bytes = bs; fault = None } in r ≡ linked_at object places names n s)
at-none object places names n s bs loaded is = ap (λ (x : List ℕ). let r : LinkedValue = record { bytes = x; fault = None } in r) is ∙ by_test (is_loaded s) loaded where
  by_test : (b : Bool) → b ≡ false → (let r : LinkedValue = record { bytes = []; fault = None } in r ≡ cond b (linked_as (relocated (link_of object places names n))) (record { bytes = []; fault = None }))
  by_test false e = refl
  by_test true e = absurd (cc)

-- one more section, as sized
pub sized-new : (object : ElfValue) (i : ℕ) (d : Section) (ls new : List LinkedValue) (l : LinkedValue) → i < length object.sections → AreSized (take i object.sections) ls
    → new ≡ ls ++ l ∷ [] → (is_loaded (get_or object.sections i d) ≡ true → length l.bytes ≤ size_of object i) → AreSized (take (i + 1) object.sections) new
sized-new object i d ls new l lt all is few =
    let size : size_of object i ≡ (get_or object.sections i d).sh_size =
    ap (λ (o : Option Section). option_map_or (λ (s : Section). s.sh_size) o 0) (slice_get-get_or object.sections i d lt) in
    subst (λ (xs : List LinkedValue). AreSized (take (i + 1) object.sections) xs) (sym is)
    (sized-more object.sections ls i d l lt all (λ t. subst (λ (n : ℕ). length l.bytes ≤ n) size (few t)))

pub never : {A : Type 0} (b : Bool) → b ≡ false → b ≡ true → A
never true e f = absurd (cc)
never false e f = absurd (cc)

-- what stands past the last section
abbrev pub no_section : Section
no_section = record { sh_name = 0; sh_type = 0; sh_flags = 0; sh_addr = 0; sh_offset = 0; sh_size = 0; sh_link = 0; sh_info = 0; sh_addralign = 0; sh_entsize = 0 }

-- a section that is not loaded, with these bytes
abbrev pub empty : List ℕ → LinkedValue
empty bytes = record { bytes = bytes; fault = None }
