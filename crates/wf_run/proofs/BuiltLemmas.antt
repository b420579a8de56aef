-- Which commands of a script are built, and which is the first that is not.
use Rattle.std.proofs.Common.{◌≡◌, ◌<◌, ◌≤◌, ℕ, zero, suc, List, [], ◌∷◌, Bool, true, false, cond, Option, Some, None, Bor, length, get_or, refl, sym, ap, ◌∙◌, inl, inr, arith}
use Rattle.std.specs.Prelude.{IfSome, MatchOption, nat_lt, not, position, slice_get}
use Rattle.std.specs.Option.{option_copied}
use Rattle.std.specs.List.{HoldsAt, position_or_len}
use Rattle.std.proofs.lemmas.Bool.Decides.{nat_tests}
use Rattle.std.proofs.lemmas.List.Quantifiers.{position-Some}
use Rattle.std.proofs.lemmas.Option.{slice_get_past, slice_get_read}
use Rattle.std.proofs.lemmas.List.Sums.{fails_before_first}
use Rattle.wf_text.proofs.NumberLemmas.{chosen}
use Rattle.wf_script.specs.declared.command.Command.{Command}
use Rattle.wf_script.specs.declared.command.Command.TheVariants.{Run}
use Rattle.wf_follow.specs.Unbuilt.{AreBuilt, first_unbuilt, is_built_command}

not_true : (b : Bool) → not b ≡ true → b ≡ false
not_true true e = cc
not_true false e = refl

not_false : (b : Bool) → not b ≡ false → b ≡ true
not_false true e = refl
not_false false e = cc

-- the first command that is not built stands at this place
unbuilt_at : (commands : List Command) (lines : List ℕ) (i : ℕ) (d : Command) → i < length commands → is_built_command (get_or commands i d) ≡ false
    → ((k : ℕ) → k < i → is_built_command (get_or commands k d) ≡ true) → first_unbuilt commands lines ≡ slice_get lines i
unbuilt_at [] lines i d h not_built each_built = absurd (omega arith)
unbuilt_at (command ∷ commands) [] i d h not_built each_built = refl
unbuilt_at (command ∷ commands) (line ∷ lines) zero d h not_built each_built = ap (λ (b : Bool). cond b (first_unbuilt commands lines) (Some line)) not_built
unbuilt_at (command ∷ commands) (line ∷ lines) (suc i) d h not_built each_built =
    ap (λ (b : Bool). cond b (first_unbuilt commands lines) (Some line)) (each_built 0 (omega arith))
    ∙ unbuilt_at commands lines i d (omega arith) not_built (λ k lt. each_built (suc k) (omega arith))

-- there is none
unbuilt_nowhere : (commands : List Command) (lines : List ℕ) (d : Command) → ((k : ℕ) → k < length commands → is_built_command (get_or commands k d) ≡ true) → first_unbuilt commands lines ≡ None
unbuilt_nowhere [] lines d each_built = refl
unbuilt_nowhere (command ∷ commands) [] d each_built = refl
unbuilt_nowhere (command ∷ commands) (line ∷ lines) d each_built =
    ap (λ (b : Bool). cond b (first_unbuilt commands lines) (Some line)) (each_built 0 (omega arith))
    ∙ unbuilt_nowhere commands lines d (λ k lt. each_built (suc k) (omega arith))

abbrev is_unbuilt : Command → Bool
is_unbuilt command = not (is_built_command command)

pub unbuilt_found : (commands : List Command) (lines : List ℕ) (i : ℕ) → position (λ (c : Command). not (is_built_command c)) commands ≡ Some i → first_unbuilt commands lines ≡ slice_get lines i
unbuilt_found commands lines i e =
    let place = position-Some is_unbuilt commands i (Run 0) e in
    unbuilt_at commands lines i (Run 0) place.0 (not_true (is_built_command (get_or commands i (Run 0))) place.1)
    (λ k lt. not_false (is_built_command (get_or commands k (Run 0))) (place.2 k lt))

past : (n m : ℕ) → nat_lt n m ≡ false → m ≤ n
past n m e = grind (arith, nat_tests)

pub unbuilt_not_found : (commands : List Command) (lines : List ℕ) → position (λ (c : Command). not (is_built_command c)) commands ≡ None → first_unbuilt commands lines ≡ None
unbuilt_not_found commands lines e =
    elim (chosen (nat_lt (position_or_len is_unbuilt commands) (length commands)) (Some (position_or_len is_unbuilt commands)) None None e) [
      | inl p ↦ let none : Some (position_or_len is_unbuilt commands) ≡ None = p.1 in absurd cc
      | inr p ↦
          let all : length commands ≤ position_or_len is_unbuilt commands = past (position_or_len is_unbuilt commands) (length commands) p.0 in
          unbuilt_nowhere commands lines (Run 0) (λ k lt. not_false (is_built_command (get_or commands k (Run 0))) (fails_before_first is_unbuilt commands k (Run 0) (omega arith)))
    ]

pub ruleset unbuilt_steps = (unbuilt_found, unbuilt_not_found)

-- what is copied of an element of lines, if there is one
pub copied_line : (found : Option (Bor ℕ)) (lines : List ℕ) (i : ℕ) → IfSome found (λ x. x.now ≡ get_or lines i x.now)
    → MatchOption found (length lines ≤ i) (λ x. (i < length lines) × HoldsAt (λ y. x.now ≡ y) lines i) → option_copied found ≡ slice_get lines i
copied_line None lines i at past = sym (slice_get_past lines i past)
copied_line (Some x) lines i at within = sym (slice_get_read lines (length lines) i x.now refl within.0 at)

-- where none of as many lines is that of such a command, all commands are built
pub all_built : (commands : List Command) (lines : List ℕ) → length lines ≡ length commands → first_unbuilt commands lines ≡ None → AreBuilt commands
all_built [] lines same none = tt
all_built (command ∷ commands) [] same none = absurd (omega arith)
all_built (command ∷ commands) (line ∷ lines) same none =
    elim (chosen (is_built_command command) (first_unbuilt commands lines) (Some line) None none) [
      | inl p ↦ (p.0, all_built commands lines (omega arith) p.1)
      | inr p ↦ let wrong : Some line ≡ None = p.1 in absurd cc
    ]
