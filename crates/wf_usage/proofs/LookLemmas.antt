-- What a word looks like: to the grammar, and to `clap`.
use Rattle.std.proofs.Common.{◌≡◌, ◌<◌, refl, ap, arith, Bool, true, false, List, [], ◌∷◌, codes, Some, None, ℕ, eqb, length, get_or, IsUtf8, encode_utf8_all, chars}
use Rattle.std.specs.Prelude.{slice_get}
use Rattle.std.specs.List.{list_all}
use Rattle.std.specs.Str.{bytes_eq, is_utf8}
use Rattle.std.proofs.lemmas.Bool.{and_parts, eqb-true}
use Rattle.std.proofs.lemmas.Str.{IsCharBoundary-after_ascii, IsUtf8-drop, IsUtf8-from_is_utf8, encodes-chars}
use Rattle.clap.specs.Lexer.{long_of, name_and_value, short_of}
use Rattle.wf_usage.specs.Usages.{Word, behind_dashes, is_dashed}

-- each word is UTF-8
abbrev pub AreUtf8 : List Word → Type 0
AreUtf8 [] = Unit {0}
AreUtf8 (w ∷ ws) = IsUtf8 w × AreUtf8 ws

pub utf8_words : (ws : List Word) → list_all is_utf8 ws ≡ true → AreUtf8 ws
utf8_words [] e = tt
utf8_words (w ∷ ws) e =
    let parts = and_parts (is_utf8 w) (list_all is_utf8 ws) e in
    (IsUtf8-from_is_utf8 w parts.0, utf8_words ws parts.1)

-- a word is `--`; `--TEXT`; a dash, and what follows is no dash; or a name
pub data Look (w : Word) : Type 0 where
  at_end : bytes_eq w (codes "--") ≡ true → is_dashed w ≡ true → Look w
  at_long : (text : Word) → bytes_eq w (codes "--") ≡ false → is_dashed w ≡ true → behind_dashes w ≡ Some text → long_of w ≡ Some (name_and_value text) → Look w
  at_short : (y : ℕ) (ys : Word) (c : ℕ) → bytes_eq w (codes "--") ≡ false → is_dashed w ≡ true → behind_dashes w ≡ None → long_of w ≡ None → short_of w ≡ Some (y ∷ ys) → slice_get (chars (y ∷ ys)) 0 ≡ Some c → Look w
  at_name : bytes_eq w (codes "--") ≡ false → is_dashed w ≡ false → long_of w ≡ None → short_of w ≡ None → Look w

-- a text that has a byte has a character
first_char : (y : ℕ) (ys : Word) → IsUtf8 (y ∷ ys) → (c : ℕ) × (slice_get (chars (y ∷ ys)) 0 ≡ Some c)
first_char y ys text = go (chars (y ∷ ys)) (encodes-chars (y ∷ ys) text)
  where
    go : (cs : List ℕ) → encode_utf8_all cs ≡ y ∷ ys → (c : ℕ) × (slice_get cs 0 ≡ Some c)
    go [] e = let bad : 0 ≡ length (y ∷ ys) = ap (λ (zs : List ℕ). length zs) e in absurd (omega (arith, bad))
    go (c ∷ cs) e = (c, refl)

-- what follows a dash is text
behind_dash : (x y : ℕ) (ys : Word) → eqb x 45 ≡ true → IsUtf8 (x ∷ y ∷ ys) → IsUtf8 (y ∷ ys)
behind_dash x y ys dash text =
    let low : get_or (x ∷ y ∷ ys) 0 0 < 128 = omega (arith, eqb-true x 45 dash) in
    IsUtf8-drop (x ∷ y ∷ ys) 1 text (IsCharBoundary-after_ascii (x ∷ y ∷ ys) 0 text (omega arith) low)

look_one : (x : ℕ) (b : Bool) → eqb x 45 ≡ b → Look (x ∷ [])
look_one x true e = at_name (rw e refl) refl (rw e refl) (rw e refl)
look_one x false e = at_name (rw e refl) refl (rw e refl) (rw e refl)

look_short : (x y : ℕ) (ys : Word) → eqb x 45 ≡ true → eqb y 45 ≡ false → IsUtf8 (x ∷ y ∷ ys) → Look (x ∷ y ∷ ys)
look_short x y ys e f text =
    let first = first_char y ys (behind_dash x y ys e text) in
    at_short y ys first.0 (rw (e, f) refl) e (rw (e, f) refl) (rw (e, f) refl) (rw (e, f) refl) first.1

look_two : (x y : ℕ) (b d : Bool) → eqb x 45 ≡ b → eqb y 45 ≡ d → IsUtf8 (x ∷ y ∷ []) → Look (x ∷ y ∷ [])
look_two x y true true e f text = at_end (rw (e, f) refl) e
look_two x y true false e f text = look_short x y [] e f text
look_two x y false d e f text = at_name (rw e refl) e (rw e refl) (rw e refl)

look_more : (x y z : ℕ) (zs : Word) (b d : Bool) → eqb x 45 ≡ b → eqb y 45 ≡ d → IsUtf8 (x ∷ y ∷ z ∷ zs) → Look (x ∷ y ∷ z ∷ zs)
look_more x y z zs true true e f text = at_long (z ∷ zs) (rw (e, f) refl) e (rw (e, f) refl) (rw (e, f) refl)
look_more x y z zs true false e f text = look_short x y (z ∷ zs) e f text
look_more x y z zs false d e f text = at_name (rw e refl) e (rw e refl) (rw e refl)

pub look : (w : Word) → IsUtf8 w → Look w
look [] text = at_name refl refl refl refl
look (x ∷ []) text = look_one x (eqb x 45) refl
look (x ∷ y ∷ []) text = look_two x y (eqb x 45) (eqb y 45) refl refl text
look (x ∷ y ∷ z ∷ zs) text = look_more x y z zs (eqb x 45) (eqb y 45) refl refl text
