-- What an address is in a generation, as the state says that words and records stand for.
use Rattle.std.specs.Prelude.{ℕ, Bool, true, false, None, Some, ◌≡◌, ◌<◌, IsSome, IsSomeAnd}
use Rattle.std.specs.Option.{option_map}
use Rattle.std.specs.List.{AllByRecursion}
use Rattle.wf_outside.specs.declared.sizes.TheConstants.{ADDRESS_PAGES}
use Rattle.wf_outside.specs.Pages.{page_of}
use Rattle.wf_frames.specs.Layout.{WordsValue}
use Rattle.wf_sv39.specs.declared.entry.Leaf.{Leaf}
use Rattle.wf_sv39.specs.declared.entry.Leaf.TheVariants.{Private, Read, Write}
use Rattle.wf_sv39.specs.Entries.{pte_leaf}
use Rattle.wf_views.specs.declared.records.Records.{Records}
use Rattle.wf_views.specs.Views.{view_of}
use Rattle.wf_flat.specs.Accesses.{generation_text, is_ending}
use Rattle.wf_flat.specs.Memory.{data_in, has_met, page_in}
use Rattle.wf_flat.specs.State.{FlatState}
use Rattle.wf_homes.specs.Homes.{Homes}
use Rattle.wf_homes.specs.Kept.{HasWords, LiesIn}
use Rattle.wf_homes.specs.Stands.{StandsFor}
use Rattle.wf_translation.specs.declared.translation.Translation.{Translation}
use Rattle.wf_translation.specs.declared.translation.Translation.TheVariants.{Text, Data, Missing}

-- what the leaf for a frame says of its page
abbrev pub leaf_page : ℕ → Leaf → Translation
leaf_page frame Private = Text frame
leaf_page frame Read = Data frame false
leaf_page frame Write = Data frame true

-- a leaf for one of so many frames tells this of its page
abbrev pub LeafTold : ℕ → ℕ → Translation → Type 0
LeafTold frames pte translation =
    (frame : ℕ) (leaf : Leaf) → frame < frames → pte ≡ pte_leaf frame leaf
    → translation ≡ leaf_page frame leaf

-- the page that is found, if one is, lies in one of so many frames
abbrev pub HasFrame : ℕ → Translation → Type 0
HasFrame frames (Text frame) = frame < frames
HasFrame frames (Data frame write) = frame < frames
HasFrame frames Missing = Unit {0}

-- the root of a generation's table lies in this frame
abbrev pub IsRoot : Records → ℕ → ℕ → Type 0
IsRoot r generation root =
    option_map (λ view. view.root) (view_of r.views generation) ≡ Some root

-- a page is one of data that a generation shares with others: it is none of its text, and the
-- generation has met it; it has this right, and lies in this frame
pub record IsShared (words : WordsValue) (r : Records) (s : FlatState)
    (generation page frame : ℕ) (write : Bool) : Type 0 where
  pub no_text : page_in (generation_text s generation) page ≡ None
  pub met : has_met s.met generation page ≡ true
  pub there : IsSomeAnd (data_in s.pages page) (λ p. (p.write ≡ write) × LiesIn words r p frame)

-- a generation has no leaf for a page: it is none of its text, and no page of data that it has met
pub record HasNoLeaf (s : FlatState) (generation page : ℕ) : Type 0 where
  pub no_text : page_in (generation_text s generation) page ≡ None
  pub no_data : has_met s.met generation page ≡ true → data_in s.pages page ≡ None

-- What a page is in a generation: a page of its text, whose words are those of the frame; or a page
-- of data that it shares; or nothing that it has a leaf for.
abbrev pub IsTranslation : WordsValue → Records → FlatState → ℕ → ℕ → Translation → Type 0
IsTranslation words r s generation page (Text frame) =
    IsSomeAnd (page_in (generation_text s generation) page) (λ p. HasWords words frame p.words)
IsTranslation words r s generation page (Data frame write) =
    IsShared words r s generation page frame write
IsTranslation words r s generation page Missing = HasNoLeaf s generation page

-- all pages are those of addresses, and no generation has met one that is Ending
pub record IsMapped (s : FlatState) : Type 0 where
  pub text_low : AllByRecursion
      (λ gen. AllByRecursion (λ page. page.number < ADDRESS_PAGES) gen.text) s.gens
  pub data_low : AllByRecursion (λ page. page.number < ADDRESS_PAGES) s.pages
  pub met_stay : AllByRecursion (λ page. is_ending page.stage ≡ true
      → (generation : ℕ) → has_met s.met generation page.number ≡ false) s.pages

-- addresses can be walked in a generation: words and records stand for a state, and it has a view
pub record CanTranslate (words : WordsValue) (r : Records) (generation : ℕ) : Type 0 where
  pub homes : Homes
  pub state : FlatState
  pub stands : StandsFor words r homes state
  pub view : IsSome (view_of r.views generation)

-- whatever state words and records stand for, it says this of an address in a generation
abbrev pub AddressTold : WordsValue → Records → ℕ → ℕ → Translation → Type 0
AddressTold words r generation va translation =
    (homes : Homes) (s : FlatState) → StandsFor words r homes s → IsMapped s
    → IsTranslation words r s generation (page_of va) translation
