-- What is put has the size that is known before any name is.
use Rattle.std.proofs.Common.{◌≡◌, ◌≤◌, ◌+◌, ◌-◌, ◌*◌, ◌/◌, ◌^◌, ℕ, ℤ, zero, suc, Bool, true, false, List, [], ◌∷◌, ◌++◌, length, Option, Some, None, Result, Ok, Err, refl, sym, ap, ◌∙◌, arith}
use Rattle.std.proofs.lemmas.Bool.{and_parts, leb-true}
use Rattle.std.proofs.lemmas.List.{length-replicate, length-append}
use Rattle.std.proofs.lemmas.Option.{none-some, same_Some}
use Rattle.std.specs.Prelude.{nat_le, replicate, if◌then◌else◌}
use Rattle.std.specs.Result.{result_ok}
use Rattle.byteorder.specs.Endian.{little_bytes}
use Rattle.byteorder.specs.Numbers.{length-bytes_low_first}
use Rattle.hex.proofs.HexLemmas.{decode_of-ok}
use Rattle.hex.specs.Hex.{decode_of}
use Rattle.hex.specs.declared.error.FromHexError.{FromHexError}
use Rattle.rv_inst.specs.declared.inst.Inst.{Inst}
use Rattle.rv_inst.specs.Spelling.{word_of}
use Rattle.asm_lines.specs.Choice.{◌>>=◌, when}
use Rattle.asm_lines.specs.Statements.{Asked, Empty, Section, Align, Zero, Number, Hex, Ascii, Li, Plain, Named}
use Rattle.asm_lines.specs.declared.statement.SectionId.{SectionId}
use Rattle.asm_lines.specs.declared.statement.SectionId.TheVariants as section
use Rattle.asm_lines.specs.declared.statement.Use.{Use}
use Rattle.asm_lines.specs.declared.statement.Use.TheVariants as use_
use Rattle.asm_bytes.specs.Bytes.{bytes_of, align_bytes, has_room, li_bytes, nops, number_bytes, put_bytes, use_bytes}
use Rattle.asm_bytes.specs.Shorts.{call_code, la_code, long_li, short_li}
use Rattle.asm_bytes.specs.Sizes.{gap, li_size, may_stand, size_of, bytes_taken, use_size}
use Rattle.asm_bytes.specs.Words.{code_bytes, has_word, is_number}

-- the length of bytes, if there are any
abbrev pub HasLength : Option (List ℕ) → ℕ → Type 0
HasLength bytes n = (found : List ℕ) → bytes ≡ Some found → length found ≡ n

little : (width n : ℕ) → length (little_bytes width n) ≡ width
little width n = length-bytes_low_first 0 width n

of_when : (test : Bool) (bytes : List ℕ) (n : ℕ) → length bytes ≡ n → HasLength (when test bytes) n
of_when true bytes n h found e = ap length (sym (same_Some _ _ e)) ∙ h
of_when false bytes n h found e = cc e

-- instructions take four bytes each
code : (insts : List Inst) → HasLength (code_bytes insts) (4 * length insts)
unfolding code_bytes
code [] found e = ap length (sym (same_Some _ _ e))
code (inst ∷ rest) found e = by (has_word inst) (code_bytes rest) (code rest) e
  where
    by : (test : Bool) (back : Option (List ℕ)) → HasLength back (4 * length rest)
        → (when test (little_bytes 4 (word_of inst)) >>= (λ front. back >>= (λ b. Some (front ++ b)))) ≡ Some found
        → length found ≡ 4 * suc (length rest)
    by true (Some bytes) h e =
        let n : length bytes ≡ 4 * length rest = h bytes refl in
        let whole = ap length (sym (same_Some _ _ e)) in
        grind (arith, whole, n, length-append, little)
    by true None h e = cc e
    by false back h e = cc e

number : (width : ℕ) (z : ℤ) → HasLength (number_bytes width z) width
unfolding number_bytes
number width z = of_when (has_room width z) _ width (little width _)

used : (address target : ℕ) (what : Use) → HasLength (use_bytes address target what) (use_size what)
unfolding use_bytes call_code la_code
used address target use_.Globl found e = ap length (sym (same_Some _ _ e))
used address target use_.Size found e = ap length (sym (same_Some _ _ e))
used address target (use_.Address width addend) found e = number width _ found e
used address target (use_.Branch cond rs1 rs2) found e = code _ found e
used address target (use_.Jal rd) found e = code _ found e
used address target use_.Call found e = code _ found e
used address target (use_.La rd) found e = code _ found e

li : (rd : ℕ) (value : ℤ) → HasLength (li_bytes rd value) (li_size value)
unfolding li_bytes long_li
li rd value found e = by (is_number 12 value) (is_number 32 value) e
  where
    by : (small fits : Bool)
        → (if small then code_bytes (short_li rd value) else if fits then code_bytes (long_li rd value) else None) ≡ Some found
        → length found ≡ (if small then 4 else 8)
    by true fits e = code (short_li rd value) found e
    by false true e = code (long_li rd value) found e
    by false false e = cc e

nop_bytes : (count : ℕ) → length (nops count) ≡ 4 * count
nop_bytes zero = refl
nop_bytes (suc count) =
    let rest = nop_bytes count in
    omega (arith, rest)

-- up to a multiple of 4 and then by fours is up to a multiple of 2 ^ n
by_fours : (n offset : ℕ) → 2 ≤ n → n ≤ 12 → gap 4 offset + 4 * ((gap (2 ^ n) offset - gap 4 offset) / 4) ≡ gap (2 ^ n) offset
by_fours zero offset low high = absurd (omega arith)
by_fours (suc zero) offset low high = absurd (omega arith)
by_fours (suc (suc zero)) offset low high = omega arith
by_fours (suc (suc (suc zero))) offset low high = omega arith
by_fours (suc (suc (suc (suc zero)))) offset low high = omega arith
by_fours (suc (suc (suc (suc (suc zero))))) offset low high = omega arith
by_fours (suc (suc (suc (suc (suc (suc zero)))))) offset low high = omega arith
by_fours (suc (suc (suc (suc (suc (suc (suc zero))))))) offset low high = omega arith
by_fours (suc (suc (suc (suc (suc (suc (suc (suc zero)))))))) offset low high = omega arith
by_fours (suc (suc (suc (suc (suc (suc (suc (suc (suc zero))))))))) offset low high = omega arith
by_fours (suc (suc (suc (suc (suc (suc (suc (suc (suc (suc zero)))))))))) offset low high = omega arith
by_fours (suc (suc (suc (suc (suc (suc (suc (suc (suc (suc (suc zero))))))))))) offset low high = omega arith
by_fours (suc (suc (suc (suc (suc (suc (suc (suc (suc (suc (suc (suc zero)))))))))))) offset low high = omega arith
by_fours (suc (suc (suc (suc (suc (suc (suc (suc (suc (suc (suc (suc (suc m))))))))))))) offset low high = absurd (omega arith)

filled : (id : SectionId) (n offset : ℕ) → may_stand id (Align n) ≡ true → length (align_bytes id n offset) ≡ gap (2 ^ n) offset
unfolding align_bytes may_stand
filled section.Text n offset h =
    let bounds = and_parts (nat_le 2 n) (nat_le n 12) h in
    let fours = (gap (2 ^ n) offset - gap 4 offset) / 4 in
    let zeros = length-replicate {A = ℕ} (gap 4 offset) 0 in
    let words = nop_bytes fours in
    let all = by_fours n offset (leb-true 2 n bounds.0) (leb-true n 12 bounds.1) in
    length-append (replicate (gap 4 offset) 0) (nops fours) ∙ omega (arith, zeros, words, all)
filled section.Rodata n offset h = length-replicate (gap (2 ^ n) offset) 0
filled section.Data n offset h = length-replicate (gap (2 ^ n) offset) 0
filled section.Bss n offset h = length-replicate (gap (2 ^ n) offset) 0

decoded : (digits : List ℕ) → HasLength (result_ok (decode_of digits)) (length digits / 2)
decoded digits found e = by (decode_of digits) refl e
  where
    by : (r : Result (List ℕ) FromHexError) → decode_of digits ≡ r → result_ok r ≡ Some found → length found ≡ length digits / 2
    by (Ok bytes) h e =
        let twice : length digits ≡ 2 * length bytes = (decode_of-ok digits bytes h).2 in
        let same = ap length (sym (same_Some _ _ e)) in
        omega (arith, twice, same)
    by (Err fault) h e = cc e

put : (id : SectionId) (offset address target : ℕ) (asked : Asked) → may_stand id asked ≡ true
    → HasLength (put_bytes id offset address target asked) (bytes_taken offset asked)
unfolding put_bytes bytes_taken
put id offset address target Empty h found e = ap length (sym (same_Some _ _ e))
put id offset address target (Section _) h found e = ap length (sym (same_Some _ _ e))
put id offset address target (Align n) h found e = ap length (sym (same_Some _ _ e)) ∙ filled id n offset h
put id offset address target (Zero n) h found e = ap length (sym (same_Some _ _ e)) ∙ length-replicate n 0
put id offset address target (Number width value) h found e = number width value found e
put id offset address target (Hex digits) h found e = decoded digits found e
put id offset address target (Ascii text) h found e = ap length (sym (same_Some _ _ e))
put id offset address target (Li rd value) h found e = li rd value found e
put id offset address target (Plain inst) h found e = code (inst ∷ []) found e
put id offset address target (Named what name) h found e = used address target what found e

pub has_its_size : (id : SectionId) (offset address target : ℕ) (asked : Asked) (bytes : List ℕ)
    → bytes_of id offset address target asked ≡ Some bytes → size_of id offset asked ≡ Some (length bytes)
unfolding bytes_of size_of
has_its_size id offset address target asked bytes e = by (may_stand id asked) refl
  where
    by : (test : Bool) → may_stand id asked ≡ test → size_of id offset asked ≡ Some (length bytes)
    by true h =
        let there : put_bytes id offset address target asked ≡ Some bytes = rw h at e in
        rw h (ap Some (sym (put id offset address target asked h bytes there)))
    by false h = absurd (none-some bytes (rw h at e))
