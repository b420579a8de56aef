-- What the words of a command tell, by the command's usage: the grammar of words.
use Rattle.std.specs.Prelude.{ℕ, List, [], ◌∷◌, ◌++◌, Bool, true, false, ◌==◌, ◌&&◌, Option, Some, None, is_some, find, option_map, option_and_then, if◌then◌else◌, codes}
use Rattle.std.specs.List.{list_all, list_any, before_first, after_first}
use Rattle.std.specs.Str.{bytes_eq}

-- a word of a command line, in bytes
abbrev pub Word : Type 0
Word = List ℕ

-- What a command is told: its names, of which each is one word, in this order; its options with a
-- value; and its options without one.
pub record Usage : Type 0 where
  pub names : List Word
  pub values : List Word
  pub flags : List Word

-- what was told, in the order of the words: of a name its word, of an option its value, and of an
-- option without a value an empty one
abbrev pub Told : Type 0
Told = List (Word × Word)

-- what was told of a name or an option
abbrev pub told_of : Word → Told → Option Word
told_of name told = option_map (λ t. t.1) (find (λ t. bytes_eq t.0 name) told)

-- something was told of a name or an option
abbrev pub is_told : Word → Told → Bool
is_told name told = list_any (λ t. bytes_eq t.0 name) told

-- where a reader of words stands: what was told, the names that are still to come, the option whose
-- value is the next word, and whether `--` came
pub record Heard : Type 0 where
  pub told : Told
  pub left : List Word
  pub waits : Option Word
  pub past : Bool

-- one more thing is told; nothing is told twice
abbrev pub with_told : Word → Word → Heard → Option Heard
with_told name word h =
    if is_told name h.told then None
    else Some (record h { told = h.told ++ (name, word) ∷ []; waits = None })

-- the word stands for the first of these names; where there is none it is one too many
abbrev pub first_told : List Word → Word → Heard → Option Heard
first_told [] word h = None
first_told (name ∷ left) word h = with_told name word (record h { left = left })

-- the word stands for the next name
abbrev pub name_heard : Word → Heard → Option Heard
name_heard word h = first_told h.left word h

-- the name is one of these
abbrev pub is_among : Word → List Word → Bool
is_among name names = list_any (λ n. bytes_eq n name) names

-- An option of this name stands, with the value that stands behind its `=`, where it has one. Else
-- its value is the next word, or it is an option without a value.
abbrev pub named_heard : Usage → Word → Option Word → Heard → Option Heard
named_heard u name (Some value) h = if is_among name u.values then with_told name value h else None
named_heard u name None h =
    if is_among name u.values then Some (record h { waits = Some name })
    else if is_among name u.flags then with_told name [] h
    else None

-- what stands behind the first `=` (61) of a text
abbrev pub behind_equals : Word → Option Word
behind_equals text =
    if list_any (λ c. c == 61) text then Some (after_first (λ c. c == 61) text) else None

-- an option stands, of which this stands behind two dashes: `NAME` or `NAME=VALUE`; an option that
-- has one dash is none
abbrev pub option_heard : Usage → Option Word → Heard → Option Heard
option_heard u None h = None
option_heard u (Some text) h =
    named_heard u (before_first (λ c. c == 61) text) (behind_equals text) h

-- the word begins with a dash (45) and goes on, so that it is an option or `--`
abbrev pub is_dashed : Word → Bool
is_dashed [] = false
is_dashed (c ∷ []) = false
is_dashed (c ∷ d ∷ rest) = c == 45

-- what stands behind the two dashes with which the word begins
abbrev pub behind_dashes : Word → Option Word
behind_dashes [] = None
behind_dashes (c ∷ []) = None
behind_dashes (c ∷ d ∷ rest) = if c == 45 && d == 45 then Some rest else None

-- One more word before any `--`: the value that an option waits for, which is no dashed word; or
-- `--`, an option, or a name.
abbrev pub early_heard : Usage → Option Word → Word → Heard → Option Heard
early_heard u (Some option) word h = if is_dashed word then None else with_told option word h
early_heard u None word h =
    if bytes_eq word (codes "--") then Some (record h { past = true })
    else if is_dashed word then option_heard u (behind_dashes word) h
    else name_heard word h

-- one more word; behind `--` each is a name
abbrev pub word_heard : Usage → Heard → Word → Option Heard
word_heard u h word = if h.past then name_heard word h else early_heard u h.waits word h

-- more words, one after another
abbrev pub words_heard : Usage → List Word → Heard → Option Heard
words_heard u [] h = Some h
words_heard u (word ∷ words) h = option_and_then (words_heard u words) (word_heard u h word)

-- what was told, where each of these names was
abbrev pub with_all : List Word → Told → Option Told
with_all names told = if list_all (λ name. is_told name told) names then Some told else None

-- what was told by words that end here: no option waits for its value
abbrev pub ended : Heard → Option Told
ended h = if is_some h.waits then None else Some h.told

-- before the first word
abbrev pub unheard : Usage → Heard
unheard u = record { told = []; left = u.names; waits = None; past = false }

-- What the words behind a command tell; none where they are not of its usage.
unfoldable pub told_by : Usage → List Word → Option Told
told_by u words =
    option_and_then (with_all u.names) (option_and_then ended (words_heard u words (unheard u)))
