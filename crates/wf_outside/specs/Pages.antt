-- Pages and sizes, without where they lie in memory.
use Rattle.std.specs.Prelude.{◌≡◌, ◌<◌, ◌≤◌, ◌/◌, ℕ, List, Bool, length}
use Rattle.wf_outside.specs.declared.sizes.TheConstants.{PAGE_SIZE, PAGE_WORDS, ADDRESS_PAGES, LEAST_FRAMES, MOST_FRAMES, MOST_WRITES, MOST_BIRTHS}

-- the number of the page in which an address lies
abbrev pub page_of : ℕ → ℕ
page_of address = address / PAGE_SIZE

-- a page of text as clauses see it: its number, and its words of 64 bits
pub record PageValue : Type 0 where
  pub number : ℕ
  pub words : List ℕ

-- a page of data as clauses see it: its number, whether it may be written, and its words of 64 bits
pub record DataPageValue : Type 0 where
  pub number : ℕ
  pub write : Bool
  pub words : List ℕ

-- what a page keeps: it has the words of a page, and lies below 2 ^ 38
pub record IsPage (number : ℕ) (words : List ℕ) : Type 0 where
  pub whole : length words ≡ PAGE_WORDS
  pub low : number < ADDRESS_PAGES

-- the sizes of a machine as clauses see them
pub record LimitsValue : Type 0 where
  pub frames : ℕ
  pub last_writes : ℕ
  pub last_birth : ℕ

-- what sizes keep: each has its least and its most
pub record AreLimits (frames last_writes last_birth : ℕ) : Type 0 where
  pub few_frames : LEAST_FRAMES ≤ frames
  pub many_frames : frames ≤ MOST_FRAMES
  pub some_writes : 1 ≤ last_writes
  pub all_writes : last_writes ≤ MOST_WRITES
  pub some_birth : 1 ≤ last_birth
  pub all_births : last_birth ≤ MOST_BIRTHS
