-- The names in statements have no zero byte.
use Rattle.std.proofs.Common.{◌≡◌, ◌≢◌, ◌+◌, ◌-◌, [], ◌∷◌, ℕ, ℤ, pos, List, Bool, true, false, cond, length, Option, Some, None, refl, sym, ap, subst, ◌∙◌, inl, inr, IfSome}
use Rattle.std.specs.Prelude.{◌==◌, ◌&&◌, codes, drop, int_le, nat_le, slice_index, slice_range, take, unsigned_abs}
use Rattle.std.specs.Option.{option_map}
use Rattle.std.specs.List.{list_all}
use Rattle.std.specs.Str.{bytes_eq}
use Rattle.std.proofs.lemmas.Bool.{cases_Bool}
use Rattle.asm_lines.specs.declared.statement.Use.{Use}
use Rattle.asm_lines.specs.declared.statement.Use.TheVariants as use_
use Rattle.asm_lines.specs.Bytes.{code_of, is_name, is_name_byte, name_len, trimmed_start}
use Rattle.asm_lines.specs.Choice.{◌>>=◌, or_else, when}
use Rattle.asm_lines.specs.Directives as directives
use Rattle.asm_lines.specs.Directives.{is_printable}
use Rattle.asm_lines.specs.Instructions as instructions
use Rattle.asm_lines.specs.Lines as lines
use Rattle.asm_lines.specs.Lines.{LineValue, line_of}
use Rattle.asm_lines.specs.Numbers.{number_of}
use Rattle.asm_lines.specs.Operands.{addend_of, immediate_of, name_and_addend, name_of, pair, register_and_name, register_and_number, two_registers}
use Rattle.asm_lines.specs.Registers.{register_of}
use Rattle.asm_lines.specs.Shorts as shorts
use Rattle.asm_lines.specs.Statements.{Asked, Empty, Section, Align, Zero, Number, Hex, Ascii, Li, Plain, Named}
use Rattle.rv_alu.specs.declared.op.Cond.{Cond}
use Rattle.rv_inst.specs.declared.inst.Inst.TheVariants as inst
use Rattle.rv_asm.specs.Uses.{IsPlainName}

and_last : (a b : Bool) → (a && b) ≡ true → b ≡ true
and_last true b e = e
and_last false b e = absurd cc

and_first : (a b : Bool) → (a && b) ≡ true → a ≡ true
and_first true b e = refl
and_first false b e = absurd cc

no_zero : (b : ℕ) → is_name_byte b ≡ true → b ≢ 0
no_zero b e = λ z. let t : is_name_byte 0 ≡ true = ap is_name_byte (sym z) ∙ e in cc

no_zeros : (name : List ℕ) → list_all is_name_byte name ≡ true → IsPlainName name
no_zeros [] e = tt
no_zeros (b ∷ bs) e = (no_zero b (and_first (is_name_byte b) (list_all is_name_byte bs) e), no_zeros bs (and_last (is_name_byte b) (list_all is_name_byte bs) e))

-- the name in a statement has no zero byte
abbrev pub HasPlainName : Asked → Type 0
HasPlainName Empty = Unit {0}
HasPlainName (Section _) = Unit {0}
HasPlainName (Align n) = Unit {0}
HasPlainName (Zero count) = Unit {0}
HasPlainName (Number width value) = Unit {0}
HasPlainName (Hex digits) = Unit {0}
HasPlainName (Ascii text) = Unit {0}
HasPlainName (Li rd value) = Unit {0}
HasPlainName (Plain inst) = Unit {0}
HasPlainName (Named what name) = IsPlainName name

-- what holds of a value, if there is one
record Has {A : Type 0} (P : A → Type 0) (o : Option A) : Type 0 where
  of : (x : A) → o ≡ Some x → P x

has_none : {A : Type 0} (P : A → Type 0) → Has P None
has_none P = record { of = λ x e. absurd cc }

has_some : {A : Type 0} (P : A → Type 0) (y : A) → P y → Has P (Some y)
has_some P y h = record { of = λ x e. let same : y ≡ x = cc in subst P same h }

has_else : {A : Type 0} (P : A → Type 0) (a b : Option A) → Has P a → Has P b → Has P (or_else a b)
has_else P None b h k = k
has_else P (Some x) b h k = h

has_cond : {A : Type 0} (P : A → Type 0) (t : Bool) (a b : Option A) → Has P a → Has P b → Has P (cond t a b)
has_cond P true a b h k = h
has_cond P false a b h k = k

has_map : {A B : Type 0} (P : B → Type 0) (f : A → B) (o : Option A) → Has (λ x. P (f x)) o → Has P (option_map f o)
has_map P f None h = has_none P
has_map P f (Some x) h = has_some P (f x) (h.of x refl)

has_then : {A B : Type 0} (P : B → Type 0) (o : Option A) (f : A → Option B) → Has (λ x. Has P (f x)) o → Has P (o >>= f)
has_then P None f h = has_none P
has_then P (Some x) f h = h.of x refl

each : {A : Type 0} (P : A → Type 0) (o : Option A) → ((x : A) → P x) → Has P o
each P o h = record { of = λ x e. h x }

-- operands
name_plain : (text : List ℕ) → Has IsPlainName (name_of text)
name_plain text = record {
  of = λ name e. elim (cases_Bool (is_name text)) [
    | inl t ↦ let there : Some text ≡ Some name = rw t at e in let same : text ≡ name = cc in subst IsPlainName same (no_zeros text (and_last _ (list_all is_name_byte text) t))
    | inr t ↦ let missing : None ≡ Some name = rw t at e in absurd cc
  ];
}

register_name_plain : (args : List ℕ) → Has (λ (r : ℕ × List ℕ). IsPlainName r.1) (register_and_name args)
unfolding register_and_name
register_name_plain args =
    has_then (λ (r : ℕ × List ℕ). IsPlainName r.1) (pair args) _ (each _ (pair args) (λ p.
    has_then (λ (r : ℕ × List ℕ). IsPlainName r.1) (register_of p.0) _ (each _ (register_of p.0) (λ a.
    has_then (λ (r : ℕ × List ℕ). IsPlainName r.1) (name_of p.1) _ (record { of = λ name e. has_some _ (a, name) ((name_plain p.1).of name e) })))))

addend_name_plain : (text : List ℕ) → Has (λ (r : List ℕ × ℤ). IsPlainName r.0) (name_and_addend text)
unfolding name_and_addend
addend_name_plain text =
    let name = take (name_len text) text in
    let rest = drop (name_len text) text in
    has_then (λ (r : List ℕ × ℤ). IsPlainName r.0) (name_of name) _ (record {
      of = λ n e. has_then (λ (r : List ℕ × ℤ). IsPlainName r.0) (addend_of rest) _ (each _ (addend_of rest) (λ addend. has_some _ (n, addend) ((name_plain name).of n e)));
    })

-- statements
named : (what : Use) (text : List ℕ) → Has HasPlainName (option_map (λ name. Named what name) (name_of text))
named what text = has_map HasPlainName (λ name. Named what name) (name_of text) (name_plain text)

branch_plain : (mnemonic args : List ℕ) → Has HasPlainName (instructions.branch mnemonic args)
unfolding instructions.branch
branch_plain mnemonic args =
    has_then HasPlainName _ _ (each _ _ (λ (c : Cond).
    has_then HasPlainName (pair args) _ (each _ _ (λ p.
    has_then HasPlainName (register_of p.0) _ (each _ _ (λ rs1.
    has_then HasPlainName (pair p.1) _ (each _ _ (λ q.
    has_then HasPlainName (register_of q.0) _ (each _ _ (λ rs2.
    has_else HasPlainName (option_map (λ off. Plain (inst.Branch c rs1 rs2 off)) (immediate_of q.1)) _
    (has_map HasPlainName (λ off. Plain (inst.Branch c rs1 rs2 off)) (immediate_of q.1) (each _ _ (λ off. tt)))
    (named (use_.Branch c rs1 rs2) q.1)))))))))))

jal_to_plain : (rd : ℕ) (target : List ℕ) → Has HasPlainName (instructions.jal_to rd target)
unfolding instructions.jal_to
jal_to_plain rd target =
    has_else HasPlainName (option_map (λ off. Plain (inst.Jal rd off)) (immediate_of target)) _
    (has_map HasPlainName (λ off. Plain (inst.Jal rd off)) (immediate_of target) (each _ _ (λ off. tt)))
    (named (use_.Jal rd) target)

jal_plain : (mnemonic args : List ℕ) → Has HasPlainName (instructions.jal mnemonic args)
unfolding instructions.jal
jal_plain mnemonic args =
    has_cond HasPlainName (bytes_eq mnemonic (codes "jal")) _ _
    (has_then HasPlainName (pair args) _ (each _ _ (λ p. has_then HasPlainName (register_of p.0) _ (each _ _ (λ rd. jal_to_plain rd p.1)))))
    (has_none HasPlainName)

bare_plain : (mnemonic args : List ℕ) → Has HasPlainName (shorts.bare_short mnemonic args)
unfolding shorts.bare_short
bare_plain mnemonic [] =
    has_cond HasPlainName (bytes_eq mnemonic (codes "nop")) _ _ (has_some HasPlainName _ tt)
    (has_cond HasPlainName (bytes_eq mnemonic (codes "ret")) _ _ (has_some HasPlainName _ tt) (has_none HasPlainName))
bare_plain mnemonic (b ∷ bs) = has_none HasPlainName

short_plain : (mnemonic args : List ℕ) → Has HasPlainName (shorts.short mnemonic args)
unfolding shorts.short
short_plain mnemonic args =
    has_cond HasPlainName (bytes_eq mnemonic (codes "mv")) _ _ (has_map HasPlainName _ (two_registers args) (each _ _ (λ r. tt)))
    (has_cond HasPlainName (bytes_eq mnemonic (codes "li")) _ _ (has_map HasPlainName _ (register_and_number args) (each _ _ (λ r. tt)))
    (has_cond HasPlainName (bytes_eq mnemonic (codes "la")) _ _ (has_map HasPlainName (λ (r : ℕ × List ℕ). Named (use_.La r.0) r.1) (register_and_name args) (register_name_plain args))
    (has_cond HasPlainName (bytes_eq mnemonic (codes "call")) _ _ (named use_.Call args)
    (has_cond HasPlainName (bytes_eq mnemonic (codes "j")) _ _ (named (use_.Jal 0) args)
    (bare_plain mnemonic args)))))

section_plain : (mnemonic args : List ℕ) → Has HasPlainName (directives.section_directive mnemonic args)
unfolding directives.section_directive
section_plain mnemonic [] =
    has_cond HasPlainName (bytes_eq mnemonic (codes ".text")) _ _ (has_some HasPlainName _ tt)
    (has_cond HasPlainName (bytes_eq mnemonic (codes ".rodata")) _ _ (has_some HasPlainName _ tt)
    (has_cond HasPlainName (bytes_eq mnemonic (codes ".data")) _ _ (has_some HasPlainName _ tt)
    (has_cond HasPlainName (bytes_eq mnemonic (codes ".bss")) _ _ (has_some HasPlainName _ tt) (has_none HasPlainName))))
section_plain mnemonic (b ∷ bs) = has_none HasPlainName

-- a number from which a statement is made that has no name
unnamed : (t : Bool) (statement : Asked) → HasPlainName statement → Has HasPlainName (when t statement)
unnamed true statement h = has_some HasPlainName statement h
unnamed false statement h = has_none HasPlainName

place_plain : (mnemonic args : List ℕ) → Has HasPlainName (directives.place_directive mnemonic args)
unfolding directives.place_directive
place_plain mnemonic args =
    has_cond HasPlainName (bytes_eq mnemonic (codes ".globl")) _ _ (named use_.Globl args)
    (has_cond HasPlainName (bytes_eq mnemonic (codes ".size")) _ _ (named use_.Size args)
    (has_cond HasPlainName (bytes_eq mnemonic (codes ".align")) _ _ (has_then HasPlainName (number_of args) _ (each _ _ (λ n. unnamed (int_le (pos 0) n && int_le n (pos 12)) (Align (unsigned_abs n)) tt)))
    (section_plain mnemonic args)))

number_plain : (width : ℕ) (args : List ℕ) → Has HasPlainName (directives.number width args)
number_plain width args = has_map HasPlainName _ (number_of args) (each _ _ (λ n. tt))

number_or_name_plain : (width : ℕ) (args : List ℕ) → Has HasPlainName (directives.number_or_name width args)
unfolding directives.number_or_name
number_or_name_plain width args =
    has_else HasPlainName (directives.number width args) _ (number_plain width args)
    (has_map HasPlainName (λ (r : List ℕ × ℤ). Named (use_.Address width r.1) r.0) (name_and_addend args) (addend_name_plain args))

hex_plain : (args : List ℕ) → Has HasPlainName (directives.hex_digits args)
unfolding directives.hex_digits
hex_plain args = unnamed _ (Hex args) tt

ascii_plain : (args : List ℕ) → Has HasPlainName (directives.ascii args)
unfolding directives.ascii
ascii_plain args =
    has_cond HasPlainName (nat_le 2 (length args) && slice_index args 0 == 34 && slice_index args (length args - 1) == 34) _ _
    (unnamed (list_all is_printable (slice_range args 1 (length args - 1))) (Ascii (slice_range args 1 (length args - 1))) tt) (has_none HasPlainName)

directive_plain : (mnemonic args : List ℕ) → Has HasPlainName (directives.directive mnemonic args)
unfolding directives.directive
directive_plain mnemonic args =
    has_cond HasPlainName (bytes_eq mnemonic (codes ".byte")) _ _ (number_plain 1 args)
    (has_cond HasPlainName (bytes_eq mnemonic (codes ".half")) _ _ (number_plain 2 args)
    (has_cond HasPlainName (bytes_eq mnemonic (codes ".word")) _ _ (number_or_name_plain 4 args)
    (has_cond HasPlainName (bytes_eq mnemonic (codes ".dword")) _ _ (number_or_name_plain 8 args)
    (has_cond HasPlainName (bytes_eq mnemonic (codes ".zero")) _ _ (has_then HasPlainName (number_of args) _ (each _ _ (λ n. unnamed (int_le (pos 0) n) (Zero (unsigned_abs n)) tt)))
    (has_cond HasPlainName (bytes_eq mnemonic (codes ".hex")) _ _ (hex_plain args)
    (has_cond HasPlainName (bytes_eq mnemonic (codes ".ascii")) _ _ (ascii_plain args)
    (place_plain mnemonic args)))))))

with_plain : (mnemonic args : List ℕ) → Has HasPlainName (lines.statement_with mnemonic args)
unfolding lines.statement_with
with_plain mnemonic args =
    has_else HasPlainName (option_map Plain (lines.plain mnemonic args)) _ (has_map HasPlainName Plain (lines.plain mnemonic args) (each _ _ (λ i. tt)))
    (has_else HasPlainName (instructions.branch mnemonic args) _ (branch_plain mnemonic args)
    (has_else HasPlainName (instructions.jal mnemonic args) _ (jal_plain mnemonic args)
    (has_else HasPlainName (shorts.short mnemonic args) _ (short_plain mnemonic args) (directive_plain mnemonic args))))

statement_plain : (text : List ℕ) → Has HasPlainName (lines.statement_of text)
unfolding lines.statement_of
statement_plain [] = has_some HasPlainName Empty tt
statement_plain (b ∷ bs) = with_plain _ _

-- a line, whose label has no zero byte either
pub record IsPlainLine (l : LineValue) : Type 0 where
  pub label : IfSome l.label IsPlainName
  pub asked : HasPlainName l.asked

labelled_plain : (n : ℕ) (code : List ℕ) (l : LineValue) → lines.labelled n code ≡ Some l → IsPlainLine l
unfolding lines.labelled
labelled_plain n code l e =
    let label : Option (List ℕ) = Some (take n code) in
    let rest = lines.statement_of (trimmed_start (drop (n + 1) code)) in
    elim (cases_Bool (is_name (take n code))) [
      | inl t ↦
          let there : option_map (lines.with_label label) rest ≡ Some l = rw t at e in
          (has_map IsPlainLine (lines.with_label label) rest (record { of = λ asked k. record { label = no_zeros (take n code) (and_last _ (list_all is_name_byte (take n code)) t); asked = (statement_plain (trimmed_start (drop (n + 1) code))).of asked k } })).of l there
      | inr t ↦ let missing : None ≡ Some l = rw t at e in absurd cc
    ]

pub plain_line : (text : List ℕ) (l : LineValue) → line_of text ≡ Some l → IsPlainLine l
unfolding line_of
plain_line text l e =
    let rest = lines.statement_of (code_of text) in
    elim (cases_Bool (slice_index (code_of text) (name_len (code_of text)) == 58)) [
      | inl t ↦ labelled_plain (name_len (code_of text)) (code_of text) l (rw t at e)
      | inr t ↦
          let there : option_map (lines.with_label None) rest ≡ Some l = rw t at e in
          (has_map IsPlainLine (lines.with_label None) rest (record { of = λ asked k. record { label = tt; asked = (statement_plain (code_of text)).of asked k } })).of l there
    ]
