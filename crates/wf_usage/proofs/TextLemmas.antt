-- Whether words are text, one after another.
use Rattle.std.proofs.Common.{◌≡◌, ◌∙◌, ◌<◌, ◌+◌, ◌++◌, refl, sym, ap, ap₂, arith, Bool, true, false, List, [], ◌∷◌, ℕ, zero, suc, IsUtf8, drop, drop-cons, get_or, length, map, take, add-one, Bor}
use Rattle.std.proofs.lemmas.List.{map-append}
use Rattle.std.specs.Prelude.{◌&&◌}
use Rattle.std.specs.List.{list_all}
use Rattle.std.specs.Str.{is_utf8}
use Rattle.std.proofs.lemmas.Str.{IsUtf8-from_is_utf8, is_utf8-from_IsUtf8}
use Rattle.wf_usage.specs.Usages.{Word}

-- the words from a place on are text where its word is and those behind it are
here : (words : List Word) (i : ℕ) (w : Word) → i < length words → w ≡ get_or words i w → list_all is_utf8 (drop i words) ≡ (is_utf8 w && list_all is_utf8 (drop (i + 1) words))
here words i w lt at =
    ap (list_all is_utf8) (drop-cons words i w lt)
    ∙ (ap (λ (v : Word). is_utf8 v && list_all is_utf8 (drop (suc i) words)) (sym at)
    ∙ ap (λ (k : ℕ). is_utf8 w && list_all is_utf8 (drop k words)) (sym (add-one i)))

no_text : (w : Word) → ¬ (IsUtf8 w) → is_utf8 w ≡ false
no_text w raw = go (is_utf8 w) refl
  where
    go : (b : Bool) → is_utf8 w ≡ b → is_utf8 w ≡ false
    go true e = absurd (raw (IsUtf8-from_is_utf8 w e))
    go false e = e

-- a word that is no text
pub raw_word : (words : List Word) (i : ℕ) (w : Word) → i < length words → w ≡ get_or words i w → ¬ (IsUtf8 w) → list_all is_utf8 (drop i words) ≡ list_all is_utf8 words → list_all is_utf8 words ≡ false
raw_word words i w lt at raw rest = sym rest ∙ (here words i w lt at ∙ ap (λ (b : Bool). b && list_all is_utf8 (drop (i + 1) words)) (no_text w raw))

-- one more word that is text
pub text_word : (words : List Word) (i : ℕ) (w : Word) → i < length words → w ≡ get_or words i w → IsUtf8 w → list_all is_utf8 (drop i words) ≡ list_all is_utf8 words → list_all is_utf8 (drop (i + 1) words) ≡ list_all is_utf8 words
text_word words i w lt at text rest = ap (λ (b : Bool). b && list_all is_utf8 (drop (i + 1) words)) (sym (is_utf8-from_IsUtf8 w text)) ∙ (sym (here words i w lt at) ∙ rest)

take_more : (words : List Word) (i : ℕ) (w : Word) → i < length words → take i words ++ get_or words i w ∷ [] ≡ take (suc i) words
take_more [] i w lt = absurd (omega arith)
take_more (x ∷ xs) zero w lt = refl
take_more (x ∷ xs) (suc i) w lt = ap (λ (r : List Word). x ∷ r) (take_more xs i w (omega arith))

-- one more text, of the next word
pub more_texts : (texts : List (Bor Word)) (t : Bor Word) (words : List Word) (i : ℕ) (w : Word) → i < length words → w ≡ get_or words i w → t.now ≡ w → map (λ (s : Bor Word). s.now) texts ≡ take i words
    → map (λ (s : Bor Word). s.now) (texts ++ t ∷ []) ≡ take (i + 1) words
more_texts texts t words i w lt at is so_far =
    map-append (λ (s : Bor Word). s.now) texts (t ∷ [])
    ∙ (ap₂ (λ (a : List Word) (b : Word). a ++ b ∷ []) so_far (is ∙ at)
    ∙ (take_more words i w lt ∙ ap (λ (k : ℕ). take k words) (sym (add-one i))))
