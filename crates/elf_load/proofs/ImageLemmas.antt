-- The image is that of the headers, in whatever order the segments are kept.
use Rattle.std.proofs.Common.{◌≡◌, ℕ, cond, ◌*◌, List, [], ◌∷◌, Bool, true, false, true≢false, not, ◌||◌, ◌&&◌, refl, sym, ap, ◌∙◌, length, arith}
use mathlib.Core.Path.{fun_ext}
use Rattle.std.specs.Prelude.{◌==◌, Option, None, Some, map}
use Rattle.std.specs.List.{AllByRecursion, filter, find, list_any}
use Rattle.std.specs.Option.{option_map_or}
use Rattle.std.proofs.lemmas.Bool.Decides.{nat_tests}
use Rattle.elf_read.specs.declared.records.Segment.{Segment}
use Rattle.elf_read.specs.Elf.{ElfValue}
use Rattle.wf_outside.specs.declared.image.Name.{Name}
use Rattle.wf_outside.specs.Pages.{PageValue, DataPageValue}
use Rattle.wf_outside.specs.Images.{ImageValue}
use Rattle.wf_outside.specs.declared.sizes.TheConstants.{DATA_END_PAGE}
use Rattle.elf_load.specs.Segments.{loads_of, meets, is_executable, is_writable, is_met, is_text, is_data, may_write}
use Rattle.elf_load.specs.Placing.{is_placeable, goes_before, AreInOrder, ArePlaced}
use Rattle.elf_load.specs.Loaded.{covers, given, byte_at, words_in, page_words, loaded_text, loaded_data, pages_below, page_behind, is_defined, name_of, image_with, image_of}
use Rattle.elf_load.proofs.FillingLemmas.{holds_apart}
use Rattle.elf_load.proofs.PageLemmas.{bytes_alike}

-- what is found is among them
found_any : (p q : Segment → Bool) (ss : List Segment) (s : Segment) → find p ss ≡ Some s → q s ≡ true → list_any q ss ≡ true
found_any p q [] s e h = cc
found_any p q (t ∷ ss) s e h = by_test (p t) e (λ f. found_any p q ss s f h)
  where
    or_else : (b c : Bool) → c ≡ true → (b || c) ≡ true
    or_else b c k = grind arith

    by_test : (b : Bool) → cond b (Some t) (find p ss) ≡ Some s → (find p ss ≡ Some s → list_any q ss ≡ true) → (q t || list_any q ss) ≡ true
    by_test true f k = let here : t ≡ s = cc in rw (ap q here ∙ h) refl
    by_test false f k = or_else (q t) _ (k f)

-- and what passes is found
found_holds : (p : Segment → Bool) (ss : List Segment) (s : Segment) → find p ss ≡ Some s → p s ≡ true
found_holds p [] s e = cc
found_holds p (t ∷ ss) s e = by_test (p t) refl e (found_holds p ss s)
  where
    by_test : (b : Bool) → p t ≡ b → cond b (Some t) (find p ss) ≡ Some s → (find p ss ≡ Some s → p s ≡ true) → p s ≡ true
    by_test true h f k = let here : t ≡ s = cc in ap p (sym here) ∙ h
    by_test false h f k = k f

none_any : (p : Segment → Bool) (ss : List Segment) → find p ss ≡ None → list_any p ss ≡ false
none_any p [] e = refl
none_any p (t ∷ ss) e = by_test (p t) e (none_any p ss)
  where
    by_test : (b : Bool) → cond b (Some t) (find p ss) ≡ None → (find p ss ≡ None → list_any p ss ≡ false) → (b || list_any p ss) ≡ false
    by_test true f k = cc
    by_test false f k = k f

any_none : (p : Segment → Bool) (ss : List Segment) → list_any p ss ≡ false → find p ss ≡ None
any_none p [] e = refl
any_none p (t ∷ ss) e = by_test (p t) e (any_none p ss)
  where
    by_test : (b : Bool) → (b || list_any p ss) ≡ false → (list_any p ss ≡ false → find p ss ≡ None) → cond b (Some t) (find p ss) ≡ None
    by_test true f k = cc
    by_test false f k = k f

-- nothing behind a segment holds an address that the segment holds
alone_holds : (size : ℕ) (s : Segment) (ss : List Segment) (a : ℕ) → is_placeable size s ≡ true → AllByRecursion (λ t. goes_before s t ≡ true) ss → covers s a ≡ true → list_any (λ t. covers t a) ss ≡ false
alone_holds size s [] a h all held = refl
alone_holds size s (t ∷ ss) a h all held = rw (others (covers t a) refl) (alone_holds size s ss a h all.1 held)
  where
    others : (b : Bool) → covers t a ≡ b → covers t a ≡ false
    others true e = absurd (true≢false (sym held ∙ holds_apart size s t a h all.0 e))
    others false e = e

-- the byte of rising segments is that of the one that holds the address
pub byte_of_holder : (file : List ℕ) (size : ℕ) (ss : List Segment) (a b : ℕ) → AreInOrder ss → AllByRecursion (λ s. is_placeable size s ≡ true) ss
    → list_any (λ t. covers t a && (given file t a == b)) ss ≡ true → byte_at file ss a ≡ b
byte_of_holder file size [] a b rising each any = absurd (true≢false (sym any))
byte_of_holder file size (s ∷ ss) a b rising each any = by_test (covers s a) refl (byte_of_holder file size ss a b rising.1 each.1)
  where
    later : (c d : Bool) → (c || d) ≡ false → d ≡ false
    later c d e = grind arith

    neither : (c d e f : Bool) → (c || e) ≡ false → f ≡ false → ((c && d) || f) ≡ false
    neither c d e f h k = grind arith

    weaker : (ts : List Segment) → list_any (λ t. covers t a) ts ≡ false → list_any (λ t. covers t a && (given file t a == b)) ts ≡ false
    weaker [] e = refl
    weaker (t ∷ ts) e = neither (covers t a) (given file t a == b) _ _ e (weaker ts (later (covers t a) _ e))

    here : (c d e : Bool) → c ≡ true → ((c && d) || e) ≡ true → e ≡ false → d ≡ true
    here c d e h k l = grind arith

    there : (c d e : Bool) → c ≡ false → ((c && d) || e) ≡ true → e ≡ true
    there c d e h k = grind arith

    equal : (m n : ℕ) → (m == n) ≡ true → m ≡ n
    equal m n e = grind (arith, nat_tests)

    by_test : (c : Bool) → covers s a ≡ c → (list_any (λ t. covers t a && (given file t a == b)) ss ≡ true → byte_at file ss a ≡ b)
        → option_map_or (λ t. given file t a) (cond c (Some s) (find (λ t. covers t a) ss)) 0 ≡ b
    by_test true h k = equal (given file s a) b (here (covers s a) (given file s a == b) _ h any (weaker ss (alone_holds size s ss a each.0 rising.0 h)))
    by_test false h k = k (there (covers s a) (given file s a == b) _ h any)

-- so it is the byte of the headers, in their own order
byte_same : (file : List ℕ) (size : ℕ) (loads placed : List Segment) (a : ℕ) → ArePlaced size loads placed → byte_at file placed a ≡ byte_at file loads a
byte_same file size loads placed a are = by_found (find (λ t. covers t a) loads) refl
  where
    pass : (s : Segment) → covers s a ≡ true → (covers s a && (given file s a == given file s a)) ≡ true
    pass s h = grind (arith, nat_tests)

    by_found : (o : Option Segment) → find (λ t. covers t a) loads ≡ o → byte_at file placed a ≡ option_map_or (λ s. given file s a) o 0
    by_found None e = ap (λ o. option_map_or (λ s. given file s a) o 0) (any_none (λ t. covers t a) placed (are.same (λ t. covers t a) ∙ none_any (λ t. covers t a) loads e))
    by_found (Some s) e =
        byte_of_holder file size placed a (given file s a) are.rising are.each
        (are.same (λ t. covers t a && (given file t a == given file s a)) ∙ found_any (λ t. covers t a) (λ t. covers t a && (given file t a == given file s a)) loads s e (pass s (found_holds (λ t. covers t a) loads s e)))

words_same : (file : List ℕ) (size : ℕ) (loads placed : List Segment) (n : ℕ) → ArePlaced size loads placed → page_words file placed n ≡ page_words file loads n
words_same file size loads placed n are = ap (words_in 512) (bytes_alike file placed loads (4096 * n) 4096 (λ a lo hi. byte_same file size loads placed a are))

-- an image of its parts
abbrev image_by : ElfValue → (ℕ → Bool) → (ℕ → Bool) → (ℕ → Bool) → (ℕ → PageValue) → (ℕ → DataPageValue) → ImageValue
image_by elf text pages met text_at page_at = record {
  text = map text_at (pages_below DATA_END_PAGE text);
  pages = map page_at (pages_below DATA_END_PAGE pages);
  entry = elf.entry;
  names = map (name_of elf.bytes) (filter is_defined elf.symbols);
  end = page_behind (pages_below DATA_END_PAGE met);
}

-- the image of the segments as they are placed is that of the headers
pub image_same : (elf : ElfValue) (placed : List Segment) → ArePlaced (length elf.bytes) (loads_of elf.segments) placed → image_with elf placed ≡ image_of elf
unfolding image_of
image_same elf placed are =
    ap (λ t. image_by elf t (is_data placed) (is_met placed) (loaded_text elf.bytes placed) (loaded_data elf.bytes placed)) text
    ∙ ap (λ d. image_by elf (is_text loads) d (is_met placed) (loaded_text elf.bytes placed) (loaded_data elf.bytes placed)) others
    ∙ ap (λ m. image_by elf (is_text loads) (is_data loads) m (loaded_text elf.bytes placed) (loaded_data elf.bytes placed)) met
    ∙ ap (λ f. image_by elf (is_text loads) (is_data loads) (is_met loads) f (loaded_data elf.bytes placed)) text_at
    ∙ ap (λ f. image_by elf (is_text loads) (is_data loads) (is_met loads) (loaded_text elf.bytes loads) f) page_at
  where
    loads : List Segment
    loads = loads_of elf.segments

    text : is_text placed ≡ is_text loads
    text = fun_ext (λ n. are.same (λ s. meets s n && is_executable s))

    met : is_met placed ≡ is_met loads
    met = fun_ext (λ n. are.same (λ s. meets s n))

    others : is_data placed ≡ is_data loads
    others = ap (λ m. λ n. m n && not (is_text placed n)) met ∙ ap (λ t. λ n. is_met loads n && not (t n)) text

    text_at : loaded_text elf.bytes placed ≡ loaded_text elf.bytes loads
    text_at = fun_ext (λ n. ap (λ words. (let page : PageValue = record { number = n; words = words } in page)) (words_same elf.bytes (length elf.bytes) loads placed n are))

    page_at : loaded_data elf.bytes placed ≡ loaded_data elf.bytes loads
    page_at = fun_ext (λ n.
        ap (λ words. (let page : DataPageValue = record { number = n; write = may_write placed n; words = words } in page)) (words_same elf.bytes (length elf.bytes) loads placed n are)
        ∙ ap (λ write. (let page : DataPageValue = record { number = n; write = write; words = page_words elf.bytes loads n } in page)) (are.same (λ s. meets s n && is_writable s)))

-- an image whose parts are told
pub image_told : (elf : ElfValue) (placed : List Segment) → ArePlaced (length elf.bytes) (loads_of elf.segments) placed
    → (text : List PageValue) (pages : List DataPageValue) (entry : ℕ) (names : List Name) (numbers : List ℕ) (end : ℕ)
    → text ≡ map (loaded_text elf.bytes placed) (pages_below DATA_END_PAGE (is_text placed)) → pages ≡ map (loaded_data elf.bytes placed) (pages_below DATA_END_PAGE (is_data placed))
    → entry ≡ elf.entry → names ≡ map (name_of elf.bytes) (filter is_defined elf.symbols) → numbers ≡ pages_below DATA_END_PAGE (is_met placed) → end ≡ page_behind numbers
    → (let image : ImageValue = record { text = text; pages = pages; entry = entry; names = names; end = end } in image ≡ image_of elf)
image_told elf placed are text pages entry names numbers end t p e n m b =
    ap (λ t. (let image : ImageValue = record { text = t; pages = pages; entry = entry; names = names; end = end } in image)) t
    ∙ ap (λ p. image_with_parts p entry names end) p
    ∙ ap (λ e. image_with_parts ds e names end) e
    ∙ ap (λ n. image_with_parts ds elf.entry n end) n
    ∙ ap (λ b. image_with_parts ds elf.entry ns b) (b ∙ ap page_behind m)
    ∙ image_same elf placed are
  where
    ds : List DataPageValue
    ds = map (loaded_data elf.bytes placed) (pages_below DATA_END_PAGE (is_data placed))

    ns : List Name
    ns = map (name_of elf.bytes) (filter is_defined elf.symbols)

    image_with_parts : List DataPageValue → ℕ → List Name → ℕ → ImageValue
    image_with_parts p e n b = record { text = map (loaded_text elf.bytes placed) (pages_below DATA_END_PAGE (is_text placed)); pages = p; entry = e; names = n; end = b }
