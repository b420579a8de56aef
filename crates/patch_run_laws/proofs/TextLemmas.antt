-- Words of texts that are spliced.
use Rattle.std.proofs.Common.{◌≡◌, ◌≢◌, ◌<◌, ◌%◌, ◌^◌, ℕ, List, [], ◌∷◌, ◌++◌, length, Option, Some, None, Bool, true, false, ◌==◌, if◌then◌else◌, is_some, refl, sym, subst, ap, ◌∙◌, inl, inr, arith}
use Rattle.std.specs.Prelude.{IsSomeAnd}
use Rattle.std.specs.Option.{option_map}
use Rattle.std.specs.List.{AllByRecursion}
use Rattle.std.proofs.lemmas.Bool.Decides.{nat_tests}
use Rattle.std.proofs.lemmas.List.{length-set, map-append}
use Rattle.wf_outside.specs.Images.{text_numbers}
use Rattle.wf_outside.specs.Pages.{PageValue, page_of}
use Rattle.wf_flat.specs.Lists.{found_by, sorted_by}
use Rattle.wf_flat.specs.Memory.{page_in, word_at, word_in}
use Rattle.wf_flat.proofs.ListLemmas.{all_append, and_some, some_and}
use Rattle.wf_flat.proofs.SortLemmas.{all_sorted}
use Rattle.wf_effects.specs.Texts.{page_with, text_with, with_pages}
use Rattle.wf_sound.proofs.AllLemmas.{all_back, all_found, all_map, all_more, found_front, found_here, found_map, found_past, found_sorted, one_or_two}
use Rattle.patch_run_laws.proofs.WordLemmas.{number_kept, number_put}

-- a page has all its words
abbrev pub IsWhole : PageValue → Type 0
IsWhole page = length page.words ≡ 512

-- a page of a number is in a text, and whole
abbrev pub IsThere : List PageValue → ℕ → Type 0
IsThere text n = IsSomeAnd (page_in text n) IsWhole

-- the element of a number has the number
found_number : {A : Type 0} (key : A → ℕ) (xs : List A) (n : ℕ) (x : A) → found_by key xs n ≡ Some x → key x ≡ n
found_number key [] n x e = absurd (cc)
found_number key (y ∷ ys) n x e = elim (one_or_two (key y) n) [
  | inl same ↦ (let one : y ≡ x = (let f = found_here key y ys n same in cc) in subst (λ y. key y ≡ n) one same)
  | inr apart ↦ found_number key ys n x (sym (found_past key y ys n apart) ∙ e)
]

-- what a page becomes where four bytes are put
abbrev changed : ℕ → ℕ → PageValue → PageValue
changed at value page = if page.number == page_of at then page_with (at % 4096) value page else page

changed_number : (at value : ℕ) (page : PageValue) → (changed at value page).number ≡ page.number
changed_number at value page = by_test (page.number == page_of at)
  where
    by_test : (b : Bool) → (if b then page_with (at % 4096) value page else page).number ≡ page.number
    by_test true = refl
    by_test false = refl

changed_whole : (at value : ℕ) (page : PageValue) → IsWhole page → IsWhole (changed at value page)
changed_whole at value page whole = by_test (page.number == page_of at)
  where
    by_test : (b : Bool) → IsWhole (if b then page_with (at % 4096) value page else page)
    by_test true = rw length-set whole
    by_test false = whole

changed_here : (at value : ℕ) (page : PageValue) → page.number ≡ page_of at → changed at value page ≡ page_with (at % 4096) value page
changed_here at value page here = (let t : (page.number == page_of at) ≡ true = grind (arith, nat_tests) in rw t refl)

changed_past : (at value : ℕ) (page : PageValue) → page.number ≢ page_of at → changed at value page ≡ page
changed_past at value page past = (let t : (page.number == page_of at) ≡ false = grind (arith, nat_tests) in rw t refl)

page_found : (text : List PageValue) (at value n : ℕ) → page_in (text_with text at value) n ≡ option_map (changed at value) (page_in text n)
page_found text at value n = found_map (λ (page : PageValue). page.number) (changed at value) (changed_number at value) text n

-- pages stay
pub whole_with : (text : List PageValue) (at value : ℕ) → AllByRecursion IsWhole text → AllByRecursion IsWhole (text_with text at value)
whole_with text at value all = all_map IsWhole IsWhole (changed at value) (changed_whole at value) text all

pub there_with : (text : List PageValue) (at value n : ℕ) → IsThere text n → IsThere (text_with text at value) n
there_with text at value n there =
    let w = some_and (page_in text n) IsWhole there in
    and_some (page_in (text_with text at value) n) IsWhole (changed at value w.0) (page_found text at value n ∙ ap (option_map (changed at value)) w.1) (changed_whole at value w.0 w.2)

-- the four bytes that were put
pub word_put : (text : List PageValue) (at value : ℕ) → IsThere text (page_of at) → at % 4 ≡ 0 → value < 2 ^ 32 → word_at (text_with text at value) at ≡ Some value
word_put text at value there even small =
    let w = some_and (page_in text (page_of at)) IsWhole there in
    let here : w.0.number ≡ page_of at = found_number (λ (page : PageValue). page.number) text (page_of at) w.0 w.1 in
    let whole : length w.0.words ≡ 512 = w.2 in
    let read : PageValue → ℕ = λ page. word_in page.words (at % 4096) in
    ap (option_map read) (page_found text at value (page_of at) ∙ ap (option_map (changed at value)) w.1)
    ∙ ap Some (ap read (changed_here at value w.0 here) ∙ number_put w.0.words (at % 4096) value (omega arith) (omega arith) small)

-- and others
word_beside : (text : List PageValue) (at value k : ℕ) → page_of k ≡ page_of at → IsThere text (page_of at) → at % 4 ≡ 0 → k % 4 ≡ 0 → at ≢ k → word_at (text_with text at value) k ≡ word_at text k
word_beside text at value k same there even other apart =
    let w = some_and (page_in text (page_of at)) IsWhole there in
    let here : w.0.number ≡ page_of at = found_number (λ (page : PageValue). page.number) text (page_of at) w.0 w.1 in
    let whole : length w.0.words ≡ 512 = w.2 in
    let found : page_in text (page_of k) ≡ Some w.0 = ap (page_in text) same ∙ w.1 in
    let read : PageValue → ℕ = λ page. word_in page.words (k % 4096) in
    let differ : at % 4096 ≢ k % 4096 = λ e. apart (omega arith) in
    ap (option_map read) (page_found text at value (page_of k) ∙ ap (option_map (changed at value)) found)
    ∙ ap Some (ap read (changed_here at value w.0 here) ∙ number_kept w.0.words (at % 4096) value (k % 4096) (omega arith) (omega arith) (omega arith) differ)
    ∙ sym (ap (option_map read) found)

word_past : (text : List PageValue) (at value k : ℕ) → page_of k ≢ page_of at → word_at (text_with text at value) k ≡ word_at text k
word_past text at value k far =
    ap (option_map (λ (page : PageValue). word_in page.words (k % 4096))) (page_found text at value (page_of k) ∙ unchanged (page_in text (page_of k)) refl)
  where
    unchanged : (o : Option PageValue) → page_in text (page_of k) ≡ o → option_map (changed at value) o ≡ o
    unchanged None e = refl
    unchanged (Some page) e =
        let number : page.number ≡ page_of k = found_number (λ (page : PageValue). page.number) text (page_of k) page e in
        ap Some (changed_past at value page (λ here. far (sym number ∙ here)))

pub word_kept : (text : List PageValue) (at value k : ℕ) → IsThere text (page_of at) → at % 4 ≡ 0 → k % 4 ≡ 0 → at ≢ k → word_at (text_with text at value) k ≡ word_at text k
word_kept text at value k there even other apart = elim (one_or_two (page_of k) (page_of at)) [
  | inl same ↦ word_beside text at value k same there even other apart
  | inr far ↦ word_past text at value k far
]

-- with more pages
pub word_paged : (text more : List PageValue) (at word : ℕ) → word_at text at ≡ Some word → word_at (with_pages text more) at ≡ Some word
word_paged text more at word is = by_page (page_in text (page_of at)) refl is
  where
    read : PageValue → ℕ
    read page = word_in page.words (at % 4096)

    by_page : (o : Option PageValue) → page_in text (page_of at) ≡ o → option_map read o ≡ Some word → word_at (with_pages text more) at ≡ Some word
    by_page None e f = absurd (cc)
    by_page (Some page) e f = ap (option_map read) (found_sorted (λ (page : PageValue). page.number) (text ++ more) (page_of at) ∙ found_front (λ (page : PageValue). page.number) text more (page_of at) page e) ∙ f

pub whole_paged : (text more : List PageValue) → AllByRecursion IsWhole text → AllByRecursion IsWhole more → AllByRecursion IsWhole (with_pages text more)
whole_paged text more all other = all_sorted IsWhole (λ (page : PageValue). page.number) (text ++ more) (all_append IsWhole text more all other)

pub there_paged : (text more : List PageValue) (n : ℕ) → IsThere text n → IsThere (with_pages text more) n
there_paged text more n there =
    let w = some_and (page_in text n) IsWhole there in
    and_some (page_in (with_pages text more) n) IsWhole w.0 (found_sorted (λ (page : PageValue). page.number) (text ++ more) n ∙ found_front (λ (page : PageValue). page.number) text more n w.0 w.1) w.2

-- the pages of a text are in it
numbered : (text : List PageValue) → AllByRecursion (λ n. is_some (page_in text n) ≡ true) (text_numbers text)
numbered [] = tt
numbered (page ∷ text) = (
  ap is_some (found_here (λ (page : PageValue). page.number) page text page.number refl),
  all_more (λ n. is_some (page_in text n) ≡ true) (λ n. is_some (page_in (page ∷ text) n) ≡ true) later (text_numbers text) (numbered text),
)
  where
    later : (n : ℕ) → is_some (page_in text n) ≡ true → is_some (page_in (page ∷ text) n) ≡ true
    later n e = elim (one_or_two page.number n) [
      | inl same ↦ ap is_some (found_here (λ (page : PageValue). page.number) page text n same)
      | inr apart ↦ (ap is_some (found_past (λ (page : PageValue). page.number) page text n apart) ∙ e)
    ]

there_whole : (text : List PageValue) (n : ℕ) → AllByRecursion IsWhole text → is_some (page_in text n) ≡ true → IsThere (sorted_by (λ page. page.number) text) n
there_whole text n all e = by_page (page_in text n) refl e
  where
    by_page : (o : Option PageValue) → page_in text n ≡ o → is_some o ≡ true → IsThere (sorted_by (λ page. page.number) text) n
    by_page None is f = absurd (cc)
    by_page (Some page) is f =
        and_some (page_in (sorted_by (λ page. page.number) text) n) IsWhole page (found_sorted (λ (page : PageValue). page.number) text n ∙ is) (all_found (λ (page : PageValue). page.number) IsWhole text n page all is)

pub there_sorted : (text : List PageValue) → AllByRecursion IsWhole text → AllByRecursion (IsThere (sorted_by (λ page. page.number) text)) (text_numbers text)
there_sorted text all = all_more (λ n. is_some (page_in text n) ≡ true) (IsThere (sorted_by (λ page. page.number) text)) (λ n e. there_whole text n all e) (text_numbers text) (numbered text)

pub there_more : (text more : List PageValue) → AllByRecursion IsWhole text → AllByRecursion IsWhole more → AllByRecursion (IsThere (with_pages text more)) (text_numbers more)
there_more text more all other =
    all_back (IsThere (with_pages text more)) (text_numbers text) (text_numbers more)
    (subst (λ (ns : List ℕ). AllByRecursion (IsThere (with_pages text more)) ns) (map-append (λ (page : PageValue). page.number) text more)
    (there_sorted (text ++ more) (all_append IsWhole text more all other)))
