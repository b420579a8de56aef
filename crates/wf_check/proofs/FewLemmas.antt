-- A journal names at most 64 patches.
use Rattle.std.proofs.Common.{◌≡◌, ◌≤◌, ◌++◌, ℕ, suc, List, [], ◌∷◌, true, false, Option, Some, None, Result, Ok, Err, length, drop, eqb, refl, subst, arith, inl, inr, length-append}
use Rattle.std.specs.Prelude.{◌==◌, codes, if◌then◌else◌, nat_eq, nat_lt}
use Rattle.std.specs.List.{starts_with}
use Rattle.std.proofs.lemmas.Bool.Decides.{nat_tests}
use Rattle.std.proofs.lemmas.Option.{none-some}
use Rattle.wf_text.specs.Lines.{lines_of, name_of}
use Rattle.wf_text.specs.Numbers.{number_of}
use Rattle.wf_text.proofs.NumberLemmas.{chosen, ten, number_sound}
use Rattle.wf_flat.specs.declared.event.Entry.{Entry}
use Rattle.wf_journal.specs.Events.{entry_of}
use Rattle.wf_journal.specs.Fields.{◌>>=◌, word_at, ended}
use Rattle.wf_journal.specs.Journals.{JournalValue, SoFar, and_then, journal_of, next_line, patch_named, sizes_of, so_far, started, with_entry, with_line, with_lines, with_patch}

-- ---- the number of a patch

-- something after which there is something is there
bind_some : {A B : Type 0} (o : Option A) (f : A → Option B) (y : B) → (o >>= f) ≡ Some y → (x : A) × (o ≡ Some x) × (f x ≡ Some y)
bind_some None f y e = absurd cc
bind_some (Some x) f y e = (x, refl, e)

abbrev with_number : ℕ → ℕ → List ℕ → List ℕ → Option (List ℕ)
with_number n number rest file = if n == number then ended rest file else None

abbrev behind_number : ℕ → List ℕ → ℕ → Option (List ℕ)
behind_number number rest n = word_at rest >>= λ name. name_of name.0 >>= λ file. with_number n number name.1 file

abbrev behind_word : ℕ → List ℕ × List ℕ → Option (List ℕ)
behind_word number told = number_of 10 63 told.0 >>= behind_number number told.1

same_number : (n number : ℕ) → eqb n number ≡ true → n ≡ number
same_number n number e = grind (arith, nat_tests)

number_few : (number : ℕ) (told : List ℕ × List ℕ) (name : List ℕ) → behind_word number told ≡ Some name → number ≤ 63
number_few number told name e =
    let n = bind_some (number_of 10 63 told.0) (behind_number number told.1) name e in
    let word = bind_some (word_at told.1) (λ (w : List ℕ × List ℕ). name_of w.0 >>= λ file. with_number n.0 number w.1 file) name n.2 in
    let file = bind_some (name_of word.0.0) (with_number n.0 number word.0.1) name word.2 in
    let few : n.0 ≤ 63 = (number_sound 10 ten 63 told.0 n.0 (omega arith) n.1).few in
    elim (chosen (eqb n.0 number) (ended word.0.1 file.0) None (Some name) file.2) [
      | inl p ↦ let same : n.0 ≡ number = same_number n.0 number p.0 in omega arith
      | inr p ↦ absurd (none-some name p.1)
    ]

patch_few : (number : ℕ) (line name : List ℕ) → patch_named number line ≡ Some name → number ≤ 63
unfolding patch_named
patch_few number line name e =
    elim (chosen (starts_with nat_eq line (codes "patch")) (word_at (drop 5 line) >>= behind_word number) None (Some name) e) [
      | inl p ↦ let told = bind_some (word_at (drop 5 line)) (behind_word number) name p.1 in number_few number told.0 name told.2
      | inr p ↦ absurd (none-some name p.1)
    ]

-- ---- the patches behind a line

-- at most 64 patches
abbrev IsFew : JournalValue → Type 0
IsFew journal = length journal.patches ≤ 64

kept : (one more : SoFar) → Some one ≡ Some more → IsFew one.journal → IsFew more.journal
kept one more e few = let same : one ≡ more = cc in subst (λ (s : SoFar). IsFew s.journal) same few

entry_kept : (journal : JournalValue) (entry : Option Entry) (more : SoFar) → IsFew journal → with_entry journal entry ≡ Some more → IsFew more.journal
entry_kept journal None more few e = absurd (none-some more e)
entry_kept journal (Some entry) more few e = kept (so_far (record journal { entries = journal.entries ++ entry ∷ [] }) true) more e few

one_more : (names : List (List ℕ)) (name : List ℕ) → length names ≤ 63 → length (names ++ name ∷ []) ≤ 64
one_more names name few = omega (arith, length-append names (name ∷ []))

patch_kept : (journal : JournalValue) (name : Option (List ℕ)) (other : Option SoFar) (more : SoFar) → ((told : List ℕ) → name ≡ Some told → length journal.patches ≤ 63)
    → (other ≡ Some more → IsFew more.journal) → with_patch journal name other ≡ Some more → IsFew more.journal
patch_kept journal None other more room rest e = rest e
patch_kept journal (Some told) other more room rest e =
    kept (so_far (record journal { patches = journal.patches ++ told ∷ [] }) false) more e (one_more journal.patches told (room told refl))

abbrev behind_listings : SoFar → List ℕ → Option SoFar
behind_listings so line =
    if so.body
    then with_entry so.journal (entry_of so.journal.harts line)
    else with_patch so.journal (patch_named (length so.journal.patches) line) (with_entry so.journal (entry_of so.journal.harts line))

abbrev behind_finals : SoFar → List ℕ → Option SoFar
behind_finals so line = if starts_with nat_eq line (codes "| ") then Some (so_far so.journal true) else behind_listings so line

abbrev before_finals : SoFar → List ℕ → Option SoFar
before_finals so line = if nat_lt 0 (length so.journal.end) then None else behind_finals so line

listings_kept : (so : SoFar) (line : List ℕ) (more : SoFar) → IsFew so.journal → behind_listings so line ≡ Some more → IsFew more.journal
listings_kept so line more few e =
    let entry = entry_of so.journal.harts line in
    elim (chosen so.body (with_entry so.journal entry) (with_patch so.journal (patch_named (length so.journal.patches) line) (with_entry so.journal entry)) (Some more) e) [
      | inl p ↦ entry_kept so.journal entry more few p.1
      | inr p ↦ patch_kept so.journal (patch_named (length so.journal.patches) line) (with_entry so.journal entry) more
          (λ told named. patch_few (length so.journal.patches) line told named) (λ f. entry_kept so.journal entry more few f) p.1
    ]

finals_kept : (so : SoFar) (line : List ℕ) (more : SoFar) → IsFew so.journal → before_finals so line ≡ Some more → IsFew more.journal
finals_kept so line more few e =
    elim (chosen (nat_lt 0 (length so.journal.end)) None (behind_finals so line) (Some more) e) [
      | inl p ↦ absurd (none-some more p.1)
      | inr p ↦ (elim (chosen (starts_with nat_eq line (codes "| ")) (Some (so_far so.journal true)) (behind_listings so line) (Some more) p.1) [
        | inl q ↦ kept (so_far so.journal true) more q.1 few
        | inr q ↦ listings_kept so line more few q.1
      ])
    ]

line_kept : (so : SoFar) (line : List ℕ) (more : SoFar) → IsFew so.journal → with_line so line ≡ Some more → IsFew more.journal
unfolding with_line
line_kept so line more few e =
    let ended = so_far (record so.journal { end = so.journal.end ++ line ∷ [] }) true in
    elim (chosen (starts_with nat_eq line (codes "= ")) (Some ended) (before_finals so line) (Some more) e) [
      | inl p ↦ kept ended more p.1 few
      | inr p ↦ finals_kept so line more few p.1
    ]

-- ---- the patches of a journal

abbrev as_read : JournalValue → Result JournalValue ℕ
as_read journal = Ok journal

next_ok : {A : Type 0} (number : ℕ) (o : Option A) (rest : A → Result JournalValue ℕ) (journal : JournalValue) → next_line number o rest ≡ Ok journal → (x : A) × (o ≡ Some x) × (rest x ≡ Ok journal)
next_ok number None rest journal e = absurd cc
next_ok number (Some x) rest journal e = (x, refl, e)

no_lines : (so : SoFar) (number : ℕ) (journal : JournalValue) → with_lines so number [] ≡ Ok journal → so.journal ≡ journal
unfolding with_lines
no_lines so number journal e = let same : as_read so.journal ≡ as_read journal = e in cc

one_line : (so : SoFar) (number : ℕ) (line : List ℕ) (lines : List (List ℕ)) (journal : JournalValue) → with_lines so number (line ∷ lines) ≡ Ok journal
    → next_line number (with_line so line) (λ more. with_lines more (suc number) lines) ≡ Ok journal
unfolding with_lines
one_line so number line lines journal e = e

lines_kept : (so : SoFar) (number : ℕ) (lines : List (List ℕ)) (journal : JournalValue) → IsFew so.journal → with_lines so number lines ≡ Ok journal → IsFew journal
lines_kept so number [] journal few e = subst IsFew (no_lines so number journal e) few
lines_kept so number (line ∷ lines) journal few e =
    let next = next_ok number (with_line so line) (λ (more : SoFar). with_lines more (suc number) lines) journal (one_line so number line lines journal e) in
    lines_kept next.0 (suc number) lines journal (line_kept so line next.0 few next.1) next.2

abbrev Sizes : Type 0
Sizes = ℕ × ℕ × List (List ℕ)

and_ok : (r : Result Sizes ℕ) (f : Sizes → Result JournalValue ℕ) (journal : JournalValue) → and_then r f ≡ Ok journal → (x : Sizes) × (r ≡ Ok x) × (f x ≡ Ok journal)
and_ok (Ok x) f journal e = (x, refl, e)
and_ok (Err number) f journal e = absurd cc

pub few_patches : (bytes : List ℕ) (journal : JournalValue) → journal_of bytes ≡ Ok journal → length journal.patches ≤ 64
unfolding journal_of
few_patches bytes journal e =
    let sizes = and_ok (sizes_of (lines_of bytes)) (λ (s : Sizes). with_lines (started s.0 s.1) 4 s.2) journal e in
    lines_kept (started sizes.0.0 sizes.0.1) 4 sizes.0.2 journal (omega arith) sizes.2
