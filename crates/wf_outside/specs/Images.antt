-- Images and the pages of patches, without where they lie in memory.
use Rattle.std.specs.Prelude.{◌≡◌, ◌<◌, ◌++◌, ◌%◌, ℕ, List, All, Contains, map, nat_eq}
use Rattle.std.specs.List.{IsDistinct}
use Rattle.wf_outside.specs.declared.image.Name.{Name}
use Rattle.wf_outside.specs.declared.image.Jump.{Jump}
use Rattle.wf_outside.specs.declared.sizes.TheConstants.{DATA_END_PAGE}
use Rattle.wf_outside.specs.Pages.{PageValue, DataPageValue, page_of}

-- what is loaded, as clauses see it: pages of text and of data, and where the first instruction is
pub record ImageValue : Type 0 where
  pub text : List PageValue
  pub pages : List DataPageValue
  pub entry : ℕ
  pub names : List Name
  pub end : ℕ

-- the numbers of pages of text
abbrev pub text_numbers : List PageValue → List ℕ
text_numbers pages = map (λ page. page.number) pages

-- the numbers of pages of data
abbrev pub data_numbers : List DataPageValue → List ℕ
data_numbers pages = map (λ page. page.number) pages

-- what an image keeps
pub record IsImage (text : List PageValue) (pages : List DataPageValue) (entry : ℕ) : Type 0 where
  -- no page is there twice
  pub distinct : IsDistinct nat_eq (text_numbers text ++ data_numbers pages)
  -- all lie below the stacks
  pub text_low : All (λ n. n < DATA_END_PAGE) (text_numbers text)
  pub data_low : All (λ n. n < DATA_END_PAGE) (data_numbers pages)
  -- the first instruction is one of text
  pub aligned : entry % 4 ≡ 0
  pub is_text : Contains (text_numbers text) (page_of entry)

-- what a patch brings, as clauses see it
pub record DeltaValue : Type 0 where
  pub private : List PageValue
  pub shared : List DataPageValue
  pub jumps : List Jump
