-- How lines and words are cut off.
use Rattle.std.proofs.Common.{◌≡◌, ◌≢◌, ◌<◌, ◌≤◌, ◌+◌, ◌++◌, ◌∷◌, [], ℕ, List, cond, eqb, length, take, drop, get_or, refl, sym, ap, ◌∙◌, arith, add-one, drop-cons, append_assoc, append-nil, inl, inr}
use Rattle.std.proofs.lemmas.List.{take_all, drop_all, drop-drop, take_more}
use Rattle.std.proofs.lemmas.Bool.{cases_eq}
use Rattle.std.proofs.lemmas.Bool.Decides.{nat_tests}
use Rattle.wf_text.specs.Lines.{with_first, lines_of, before, from, unspaced, are_graphic}
use Rattle.std.specs.Prelude.{◌&&◌, nat_le, Bool, true, false}

before_cell : (mark c : ℕ) (cs : List ℕ) → before mark (c ∷ cs) ≡ cond (eqb c mark) [] (c ∷ before mark cs)
unfolding before
before_cell mark c cs = refl

from_cell : (mark c : ℕ) (cs : List ℕ) → from mark (c ∷ cs) ≡ cond (eqb c mark) (c ∷ cs) (from mark cs)
unfolding from
from_cell mark c cs = refl

pub before_mark : (mark c : ℕ) (cs : List ℕ) → c ≡ mark → before mark (c ∷ cs) ≡ []
before_mark mark c cs e = grind (arith, nat_tests, before_cell mark c cs)

pub before_more : (mark c : ℕ) (cs : List ℕ) → c ≢ mark → before mark (c ∷ cs) ≡ c ∷ before mark cs
before_more mark c cs e = grind (arith, nat_tests, before_cell mark c cs)

pub from_mark : (mark c : ℕ) (cs : List ℕ) → c ≡ mark → from mark (c ∷ cs) ≡ c ∷ cs
from_mark mark c cs e = grind (arith, nat_tests, from_cell mark c cs)

pub from_more : (mark c : ℕ) (cs : List ℕ) → c ≢ mark → from mark (c ∷ cs) ≡ from mark cs
from_more mark c cs e = grind (arith, nat_tests, from_cell mark c cs)

-- how far a search for the mark has come
pub record IsSearched (mark : ℕ) (bytes : List ℕ) (i : ℕ) : Type 0 where
  pub front : before mark bytes ≡ take i bytes ++ before mark (drop i bytes)
  pub rest : from mark bytes ≡ from mark (drop i bytes)

pub searched_none : (mark : ℕ) (bytes : List ℕ) → IsSearched mark bytes 0
searched_none mark bytes = record { front = refl; rest = refl }

cell_at : (bytes : List ℕ) (i : ℕ) → i < length bytes → drop i bytes ≡ get_or bytes i 0 ∷ drop (i + 1) bytes
cell_at bytes i h = rw add-one (drop-cons bytes i 0 h)

pub found_front : (mark : ℕ) (bytes : List ℕ) (i : ℕ) → IsSearched mark bytes i → i < length bytes → get_or bytes i 0 ≡ mark → before mark bytes ≡ take i bytes
found_front mark bytes i s h e =
    s.front ∙ ap (λ (xs : List ℕ). take i bytes ++ before mark xs) (cell_at bytes i h)
    ∙ ap (λ (xs : List ℕ). take i bytes ++ xs) (before_mark mark (get_or bytes i 0) (drop (i + 1) bytes) e) ∙ append-nil (take i bytes)

pub found_rest : (mark : ℕ) (bytes : List ℕ) (i : ℕ) → IsSearched mark bytes i → i < length bytes → get_or bytes i 0 ≡ mark → from mark bytes ≡ drop i bytes
found_rest mark bytes i s h e =
    s.rest ∙ ap (from mark) (cell_at bytes i h) ∙ from_mark mark (get_or bytes i 0) (drop (i + 1) bytes) e ∙ sym (cell_at bytes i h)

pub searched_more : (mark : ℕ) (bytes : List ℕ) (i : ℕ) → IsSearched mark bytes i → i < length bytes → get_or bytes i 0 ≢ mark → IsSearched mark bytes (i + 1)
searched_more mark bytes i s h e = record {
  front =
      s.front ∙ ap (λ (xs : List ℕ). take i bytes ++ before mark xs) (cell_at bytes i h)
      ∙ ap (λ (xs : List ℕ). take i bytes ++ xs) (before_more mark (get_or bytes i 0) (drop (i + 1) bytes) e)
      ∙ sym (append_assoc (take i bytes) (get_or bytes i 0 ∷ []) (before mark (drop (i + 1) bytes)))
      ∙ ap (λ (xs : List ℕ). xs ++ before mark (drop (i + 1) bytes)) (sym (take_more bytes i 0 h));
  rest = s.rest ∙ ap (from mark) (cell_at bytes i h) ∙ from_more mark (get_or bytes i 0) (drop (i + 1) bytes) e;
}

nothing_before : (mark : ℕ) → before mark [] ≡ []
unfolding before
nothing_before mark = refl

nothing_from : (mark : ℕ) → from mark [] ≡ []
unfolding from
nothing_from mark = refl

pub all_front : (mark : ℕ) (bytes : List ℕ) (i : ℕ) → IsSearched mark bytes i → length bytes ≤ i → before mark bytes ≡ take (length bytes) bytes
all_front mark bytes i s h =
    s.front ∙ ap (λ (xs : List ℕ). take i bytes ++ before mark xs) (drop_all i bytes h) ∙ ap (λ (xs : List ℕ). take i bytes ++ xs) (nothing_before mark)
    ∙ append-nil (take i bytes) ∙ take_all i bytes h ∙ sym (take_all (length bytes) bytes (omega arith))

pub all_rest : (mark : ℕ) (bytes : List ℕ) (i : ℕ) → IsSearched mark bytes i → length bytes ≤ i → from mark bytes ≡ drop (length bytes) bytes
all_rest mark bytes i s h =
    s.rest ∙ ap (from mark) (drop_all i bytes h) ∙ nothing_from mark ∙ sym (drop_all (length bytes) bytes (omega arith))

pub ruleset search_steps = (found_front, found_rest, searched_more, all_front, all_rest)

lines_cell : (c : ℕ) (cs : List ℕ) → lines_of (c ∷ cs) ≡ cond (eqb c 10) ([] ∷ lines_of cs) (with_first c (lines_of cs))
unfolding lines_of
lines_cell c cs = refl

lines_newline : (c : ℕ) (cs : List ℕ) → c ≡ 10 → lines_of (c ∷ cs) ≡ [] ∷ lines_of cs
lines_newline c cs e = grind (arith, nat_tests, lines_cell c cs)

lines_more : (c : ℕ) (cs : List ℕ) → c ≢ 10 → lines_of (c ∷ cs) ≡ with_first c (lines_of cs)
lines_more c cs e = grind (arith, nat_tests, lines_cell c cs)

no_lines : lines_of [] ≡ []
unfolding lines_of
no_lines = refl

abbrev Splits : List ℕ → Type 0
Splits bytes = lines_of bytes ≡ before 10 bytes ∷ lines_of (drop 1 (from 10 bytes))

-- a line of one byte more
longer : (c : ℕ) (ds : List ℕ) → (ds ≢ [] → Splits ds) → with_first c (lines_of ds) ≡ (c ∷ before 10 ds) ∷ lines_of (drop 1 (from 10 ds))
longer c [] h =
    ap (with_first c) no_lines ∙ ap (λ (xs : List ℕ). (c ∷ xs) ∷ []) (sym (nothing_before 10))
    ∙ ap (λ (xs : List (List ℕ)). (c ∷ before 10 []) ∷ xs) (sym (ap (λ (xs : List ℕ). lines_of (drop 1 xs)) (nothing_from 10) ∙ no_lines))
longer c (d ∷ ds) h = ap (with_first c) (h (λ e. cc))

-- the first line is what stands before the first newline
pub lines_split : (bytes : List ℕ) → bytes ≢ [] → Splits bytes
lines_split [] h = absurd (h refl)
lines_split (c ∷ cs) h =
    elim (cases_eq c 10) [
      | inl e ↦
          lines_newline c cs e ∙ ap (λ (xs : List ℕ). xs ∷ lines_of cs) (sym (before_mark 10 c cs e))
          ∙ ap (λ (xs : List ℕ). before 10 (c ∷ cs) ∷ lines_of (drop 1 xs)) (sym (from_mark 10 c cs e))
      | inr e ↦
          lines_more c cs e ∙ longer c cs (lines_split cs)
          ∙ ap (λ (xs : List ℕ). xs ∷ lines_of (drop 1 (from 10 cs))) (sym (before_more 10 c cs e))
          ∙ ap (λ (xs : List ℕ). before 10 (c ∷ cs) ∷ lines_of (drop 1 xs)) (sym (from_more 10 c cs e))
    ]

-- where the newline of the first line stands
pub line_at_place : (bytes : List ℕ) (end : ℕ) → bytes ≢ [] → before 10 bytes ≡ take end bytes → from 10 bytes ≡ drop end bytes → lines_of bytes ≡ take end bytes ∷ lines_of (drop (end + 1) bytes)
line_at_place bytes end h a b =
    lines_split bytes h ∙ ap (λ (xs : List ℕ). xs ∷ lines_of (drop 1 (from 10 bytes))) a ∙ ap (λ (xs : List ℕ). take end bytes ∷ lines_of (drop 1 xs)) b
    ∙ ap (λ (xs : List ℕ). take end bytes ∷ lines_of xs) (drop-drop 1 end bytes)

pub line_to_end : (bytes : List ℕ) → bytes ≢ [] → before 10 bytes ≡ take (length bytes) bytes → from 10 bytes ≡ drop (length bytes) bytes → lines_of bytes ≡ bytes ∷ lines_of []
line_to_end bytes h a b =
    lines_split bytes h ∙ ap (λ (xs : List ℕ). xs ∷ lines_of (drop 1 (from 10 bytes))) (a ∙ take_all (length bytes) bytes (omega arith))
    ∙ ap (λ (xs : List ℕ). bytes ∷ lines_of (drop 1 xs)) (b ∙ drop_all (length bytes) bytes (omega arith))

unspaced_cell : (c : ℕ) (cs : List ℕ) → unspaced (c ∷ cs) ≡ cond (eqb c 32) (unspaced cs) (c ∷ cs)
unfolding unspaced
unspaced_cell c cs = refl

pub unspaced_space : (c : ℕ) (cs : List ℕ) → c ≡ 32 → unspaced (c ∷ cs) ≡ unspaced cs
unspaced_space c cs e = grind (arith, nat_tests, unspaced_cell c cs)

pub unspaced_word : (c : ℕ) (cs : List ℕ) → c ≢ 32 → unspaced (c ∷ cs) ≡ c ∷ cs
unspaced_word c cs e = grind (arith, nat_tests, unspaced_cell c cs)

pub unspaced_nothing : unspaced [] ≡ []
unfolding unspaced
unspaced_nothing = refl

pub spaces_more : (bytes : List ℕ) (i : ℕ) → i < length bytes → get_or bytes i 0 ≡ 32 → unspaced (drop i bytes) ≡ unspaced (drop (i + 1) bytes)
spaces_more bytes i h e = ap unspaced (cell_at bytes i h) ∙ unspaced_space (get_or bytes i 0) (drop (i + 1) bytes) e

pub spaces_end : (bytes : List ℕ) (i : ℕ) → i < length bytes → get_or bytes i 0 ≢ 32 → unspaced (drop i bytes) ≡ drop i bytes
spaces_end bytes i h e = ap unspaced (cell_at bytes i h) ∙ unspaced_word (get_or bytes i 0) (drop (i + 1) bytes) e ∙ sym (cell_at bytes i h)

pub spaces_all : (bytes : List ℕ) (i : ℕ) → length bytes ≤ i → unspaced (drop i bytes) ≡ []
spaces_all bytes i h = ap unspaced (drop_all i bytes h) ∙ unspaced_nothing

pub ruleset space_steps = (spaces_more, spaces_end, spaces_all)

graphic_cell : (c : ℕ) (cs : List ℕ) → are_graphic (c ∷ cs) ≡ (nat_le 33 c && nat_le c 126 && are_graphic cs)
unfolding are_graphic
graphic_cell c cs = refl

graphic_none : are_graphic [] ≡ true
unfolding are_graphic
graphic_none = refl

graphic_at : (word : List ℕ) (i : ℕ) → i < length word → are_graphic (drop i word) ≡ (nat_le 33 (get_or word i 0) && nat_le (get_or word i 0) 126 && are_graphic (drop (i + 1) word))
graphic_at word i h = ap are_graphic (rw add-one (drop-cons word i 0 h)) ∙ graphic_cell (get_or word i 0) (drop (i + 1) word)

low_false : (c : ℕ) (b : Bool) → c < 33 → (nat_le 33 c && nat_le c 126 && b) ≡ false
low_false c b h = grind (arith, nat_tests)

high_false : (c : ℕ) (b : Bool) → 126 < c → (nat_le 33 c && nat_le c 126 && b) ≡ false
high_false c b h = grind (arith, nat_tests)

both_same : (c : ℕ) (b : Bool) → 33 ≤ c → c ≤ 126 → (nat_le 33 c && nat_le c 126 && b) ≡ b
both_same c b g h = grind (arith, nat_tests)

pub graphic_low : (word : List ℕ) (i : ℕ) → i < length word → get_or word i 0 < 33 → are_graphic (drop i word) ≡ false
graphic_low word i h e = graphic_at word i h ∙ low_false (get_or word i 0) (are_graphic (drop (i + 1) word)) e

pub graphic_high : (word : List ℕ) (i : ℕ) → i < length word → 126 < get_or word i 0 → are_graphic (drop i word) ≡ false
graphic_high word i h e = graphic_at word i h ∙ high_false (get_or word i 0) (are_graphic (drop (i + 1) word)) e

pub graphic_goes : (word : List ℕ) (i : ℕ) → i < length word → 33 ≤ get_or word i 0 → get_or word i 0 ≤ 126 → are_graphic (drop i word) ≡ are_graphic (drop (i + 1) word)
graphic_goes word i h a b = graphic_at word i h ∙ both_same (get_or word i 0) (are_graphic (drop (i + 1) word)) a b

pub graphic_ends : (word : List ℕ) (i : ℕ) → length word ≤ i → are_graphic (drop i word) ≡ true
graphic_ends word i h = ap are_graphic (drop_all i word h) ∙ graphic_none

pub ruleset graphic_steps = (graphic_low, graphic_high, graphic_goes, graphic_ends)
