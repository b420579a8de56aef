-- What statements put at the end of a section.
use Rattle.std.proofs.Common.{◌≡◌, ◌<◌, ◌≤◌, ◌+◌, ◌^◌, [], ◌++◌, ℕ, List, Bool, true, false, cond, length, Option, Some, None, Result, Ok, Err, refl, sym, ap, subst, ◌∙◌, arith}
use Rattle.std.specs.Prelude.{nat_lt}
use Rattle.std.specs.Option.{ok_or}
use Rattle.std.proofs.lemmas.Bool.Decides.{nat_tests}
use Rattle.asm_bytes.specs.Bytes.{appended, bytes_of, put_bytes, use_bytes}
use Rattle.asm_bytes.specs.Sizes.{may_stand, size_of, bytes_taken}
use Rattle.asm_lines.specs.Choice.{when}
use Rattle.asm_lines.specs.declared.statement.SectionId.{SectionId}
use Rattle.asm_lines.specs.declared.statement.SectionId.TheVariants as section
use Rattle.asm_lines.specs.declared.statement.Use.{Use}
use Rattle.asm_lines.specs.declared.statement.Use.TheVariants as use_
use Rattle.asm_lines.specs.Statements.{Asked, Empty, Section, Align, Zero, Number, Hex, Ascii, Li, Plain, Named}
use Rattle.rv_asm.specs.declared.fault.AsmFault.{AsmFault}
use Rattle.rv_asm.specs.declared.fault.AsmFault.TheVariants as fault
use Rattle.rv_asm.specs.declared.fault.AsmRule.TheVariants as rule
use Rattle.rv_asm.specs.declared.named.Symbol.{Symbol}
use Rattle.rv_asm.specs.declared.sizes.SectionSizes.{SectionSizes}
use Rattle.rv_asm.specs.Answers.{Becomes, IsFaultOf, or_at}
use Rattle.elf_write.specs.declared.module.Form.{Form}
use Rattle.rv_asm.specs.Drafts.{symbol_values}
use Rattle.rv_asm.specs.Labels.{LabelValue}
use Rattle.rv_asm.specs.Uses.{UseValue}
use Rattle.rv_asm.specs.SecondPass.{DraftValue, lengthened, here, offset_in, put, with_bytes}

-- the law of sizes, as it is called for
abbrev pub HasItsSize : Type 0
HasItsSize = (id : SectionId) (offset address target : ℕ) (statement : Asked) (bytes : List ℕ) → bytes_of id offset address target statement ≡ Some bytes → size_of id offset statement ≡ Some (length bytes)

-- a draft as its fields show it
abbrev pub shown : Form → SectionSizes → SectionId → List ℕ → List ℕ → List ℕ → ℕ → List Symbol → List LabelValue → List UseValue → DraftValue
shown form sizes id text rodata rwdata bss symbols labels uses =
    record { form = form; sizes = sizes; section = id; text = text; rodata = rodata; rwdata = rwdata; bss = bss; symbols = symbol_values symbols; labels = labels; uses = uses }

lengthened_none : (number : ℕ) (b : Option (List ℕ)) (d : DraftValue) → b ≡ None → lengthened number b d ≡ Err (fault.At number rule.Range)
unfolding lengthened
lengthened_none number b d e = rw e refl

lengthened_long : (number : ℕ) (b : Option (List ℕ)) (d : DraftValue) → ((bytes : List ℕ) → b ≡ Some bytes → 2 ^ 32 < offset_in d d.section + length bytes) → lengthened number b d ≡ Err (fault.At number rule.Range)
unfolding lengthened
lengthened_long number None d h = refl
lengthened_long number (Some bytes) d h =
    let long : 2 ^ 32 < offset_in d d.section + length bytes = h bytes refl in
    let t : nat_lt (2 ^ 32) (offset_in d d.section + length bytes) ≡ true = grind (arith, nat_tests) in
    ap (λ (v : Bool). cond v (Err (fault.At number rule.Range)) (Ok (with_bytes d.section bytes d))) t

lengthened_fits : (number : ℕ) (b : Option (List ℕ)) (d : DraftValue) (bytes : List ℕ) → b ≡ Some bytes → offset_in d d.section + length bytes ≤ 2 ^ 32 → lengthened number b d ≡ Ok (with_bytes d.section bytes d)
unfolding lengthened
lengthened_fits number b d bytes e h =
    let t : nat_lt (2 ^ 32) (offset_in d d.section + length bytes) ≡ false = grind (arith, nat_tests) in
    rw e (ap (λ (v : Bool). cond v (Err (fault.At number rule.Range)) (Ok (with_bytes d.section bytes d))) t)

length_is : (law : HasItsSize) (id : SectionId) (offset address target size : ℕ) (asked : Asked) (bytes : List ℕ) → size_of id offset asked ≡ Some size → bytes_of id offset address target asked ≡ Some bytes → length bytes ≡ size
length_is law id offset address target size asked bytes e f = let g = law id offset address target asked bytes f in cc

pub put_refused : (law : HasItsSize) (number target : ℕ) (asked : Asked) (d : DraftValue) → size_of d.section (offset_in d d.section) asked ≡ None → put number target asked d ≡ Err (fault.At number rule.Range)
put_refused law number target asked d e =
    lengthened_long number (bytes_of d.section (offset_in d d.section) (here d) target asked) d
    (λ bytes f. let g = law d.section (offset_in d d.section) (here d) target asked bytes f in absurd cc)

pub put_long : (law : HasItsSize) (number target size : ℕ) (asked : Asked) (d : DraftValue) → size_of d.section (offset_in d d.section) asked ≡ Some size → 2 ^ 32 < offset_in d d.section + size
    → put number target asked d ≡ Err (fault.At number rule.Range)
put_long law number target size asked d e h =
    lengthened_long number (bytes_of d.section (offset_in d d.section) (here d) target asked) d
    (λ bytes f. let g : length bytes ≡ size = length_is law d.section (offset_in d d.section) (here d) target size asked bytes e f in omega arith)

put_fits : (law : HasItsSize) (number target size : ℕ) (asked : Asked) (d : DraftValue) (bytes : List ℕ) → size_of d.section (offset_in d d.section) asked ≡ Some size → offset_in d d.section + size ≤ 2 ^ 32
    → bytes_of d.section (offset_in d d.section) (here d) target asked ≡ Some bytes → put number target asked d ≡ Ok (with_bytes d.section bytes d)
put_fits law number target size asked d bytes e h f =
    let g : length bytes ≡ size = length_is law d.section (offset_in d d.section) (here d) target size asked bytes e f in
    lengthened_fits number (bytes_of d.section (offset_in d d.section) (here d) target asked) d bytes f (omega arith)

arm : (law : HasItsSize) (r : Result (Unit {0}) AsmFault) (number target size : ℕ) (asked : Asked) (d made : DraftValue) (old new : List ℕ) (b : Option (List ℕ))
    → b ≡ bytes_of d.section (offset_in d d.section) (here d) target asked → size_of d.section (offset_in d d.section) asked ≡ Some size → offset_in d d.section + size ≤ 2 ^ 32
    → Becomes r new (or_at number rule.Range (appended old b)) → ((bytes : List ℕ) → new ≡ old ++ bytes → with_bytes d.section bytes d ≡ made) → Becomes r made (put number target asked d)
arm law (Ok u) number target size asked d made old new None e f h put_is shows = absurd cc
arm law (Err fault.Memory) number target size asked d made old new b e f h put_is shows = tt
arm law (Err (fault.At line broken)) number target size asked d made old new None e f h put_is shows = lengthened_none number _ d (sym e) ∙ cc
arm law (Ok u) number target size asked d made old new (Some bytes) e f h put_is shows =
    let same : new ≡ old ++ bytes = cc in
    put_fits law number target size asked d bytes f h (sym e) ∙ ap Ok (shows bytes same)
arm law (Err (fault.At line broken)) number target size asked d made old new (Some bytes) e f h put_is shows = absurd cc

-- what is put at the end of a section with contents
pub put_arm : (law : HasItsSize) (r : Result (Unit {0}) AsmFault) (number target : ℕ) (asked : Asked) (d now made : DraftValue) (offset size address : ℕ) (old new : List ℕ)
    → d ≡ now → offset ≡ offset_in now now.section → size_of d.section offset asked ≡ Some size → offset + size ≤ 2 ^ 32 → address ≡ here now → offset_in d d.section ≡ length old
    → Becomes r new (or_at number rule.Range (appended old (bytes_of d.section (length old) address target asked)))
    → ((bytes : List ℕ) → new ≡ old ++ bytes → with_bytes d.section bytes d ≡ made) → Becomes r made (put number target asked now)
put_arm law r number target asked d now made offset size address old new is at size_is short address_is long put_is shows =
    let here_is : address ≡ here d = address_is ∙ ap here (sym is) in
    let offset_is : offset ≡ offset_in d d.section = at ∙ ap (λ (u : DraftValue). offset_in u u.section) (sym is) in
    subst (λ (u : DraftValue). Becomes r made (put number target asked u)) is
    (arm law r number target size asked d made old new (bytes_of d.section (length old) address target asked)
    (ap (λ (n : ℕ). bytes_of d.section n address target asked) (sym long) ∙ ap (λ (n : ℕ). bytes_of d.section (offset_in d d.section) n target asked) here_is)
    (ap (λ (n : ℕ). size_of d.section n asked) (sym offset_is) ∙ size_is) (omega arith) put_is shows)

-- ---- .bss

when_some : {A : Type 0} (b : Bool) (x y : A) → when b x ≡ Some y → b ≡ true
when_some true x y e = refl
when_some false x y e = absurd cc

stands : (id : SectionId) (offset size : ℕ) (asked : Asked) → size_of id offset asked ≡ Some size → may_stand id asked ≡ true
unfolding size_of
stands id offset size asked e = when_some (may_stand id asked) (bytes_taken offset asked) size e

zeros_use : (address target : ℕ) (what : Use) (name : List ℕ) → may_stand section.Bss (Named what name) ≡ true → (bytes : List ℕ) × (use_bytes address target what ≡ Some bytes)
unfolding may_stand use_bytes
zeros_use address target use_.Globl name e = ([], refl)
zeros_use address target use_.Size name e = ([], refl)
zeros_use address target (use_.Address width addend) name e = absurd cc
zeros_use address target (use_.Branch cond rs1 rs2) name e = absurd cc
zeros_use address target (use_.Jal rd) name e = absurd cc
zeros_use address target use_.Call name e = absurd cc
zeros_use address target (use_.La rd) name e = absurd cc

zeros : (offset address target : ℕ) (asked : Asked) → may_stand section.Bss asked ≡ true → (bytes : List ℕ) × (put_bytes section.Bss offset address target asked ≡ Some bytes)
unfolding may_stand put_bytes
zeros offset address target Empty e = (_, refl)
zeros offset address target (Section _) e = (_, refl)
zeros offset address target (Align n) e = (_, refl)
zeros offset address target (Zero n) e = (_, refl)
zeros offset address target (Number width value) e = absurd cc
zeros offset address target (Hex digits) e = absurd cc
zeros offset address target (Ascii text) e = absurd cc
zeros offset address target (Li rd value) e = absurd cc
zeros offset address target (Plain inst) e = absurd cc
zeros offset address target (Named what name) e = zeros_use address target what name e

bss_bytes : (offset address target : ℕ) (asked : Asked) → may_stand section.Bss asked ≡ true → (bytes : List ℕ) × (bytes_of section.Bss offset address target asked ≡ Some bytes)
unfolding bytes_of
bss_bytes offset address target asked e =
    let made = zeros offset address target asked e in
    (made.0, ap (λ (b : Bool). cond b (put_bytes section.Bss offset address target asked) None) e ∙ made.1)

pub put_bss : (law : HasItsSize) (number target : ℕ) (asked : Asked) (d now : DraftValue) (offset size : ℕ)
    → d ≡ now → offset ≡ offset_in now now.section → size_of d.section offset asked ≡ Some size → offset + size ≤ 2 ^ 32 → d.section ≡ section.Bss
    → put number target asked now ≡ Ok (record d { bss = d.bss + size })
put_bss law number target asked d now offset size is at size_is short bss =
    let offset_is : offset ≡ offset_in d d.section = at ∙ ap (λ (u : DraftValue). offset_in u u.section) (sym is) in
    let sized : size_of d.section (offset_in d d.section) asked ≡ Some size = ap (λ (n : ℕ). size_of d.section n asked) (sym offset_is) ∙ size_is in
    let may : may_stand section.Bss asked ≡ true = ap (λ (id : SectionId). may_stand id asked) (sym bss) ∙ stands d.section (offset_in d d.section) size asked sized in
    let made = bss_bytes (offset_in d d.section) (here d) target asked may in
    let there : bytes_of d.section (offset_in d d.section) (here d) target asked ≡ Some made.0 = ap (λ (id : SectionId). bytes_of id (offset_in d d.section) (here d) target asked) bss ∙ made.1 in
    let long : length made.0 ≡ size = length_is law d.section (offset_in d d.section) (here d) target size asked made.0 sized there in
    ap (put number target asked) (sym is)
    ∙ put_fits law number target size asked d made.0 sized (omega arith) there
    ∙ ap (λ (id : SectionId). Ok (with_bytes id made.0 d)) bss
    ∙ ap (λ (n : ℕ). Ok (record d { bss = d.bss + n })) long

-- ---- where nothing is put

refused_by : (o : Option ℕ) (e x : AsmFault) → ok_or o e ≡ Err x → (o ≡ None) × (x ≡ e)
refused_by None e x h = (refl, cc)
refused_by (Some n) e x h = absurd cc

pub put_refuses : (law : HasItsSize) (number target : ℕ) (asked : Asked) (d now : DraftValue) (offset : ℕ) (e : AsmFault) (o : Option ℕ) (r : Result ℕ AsmFault)
    → d ≡ now → offset ≡ offset_in now now.section → o ≡ size_of d.section offset asked → r ≡ ok_or o (fault.At number rule.Range) → r ≡ Err e → IsFaultOf e (put number target asked now)
put_refuses law number target asked d now offset e o r is at size_is made failed =
    let why = refused_by o (fault.At number rule.Range) e (sym made ∙ failed) in
    let offset_is : offset ≡ offset_in d d.section = at ∙ ap (λ (u : DraftValue). offset_in u u.section) (sym is) in
    subst (λ (x : AsmFault). IsFaultOf x (put number target asked now)) (sym why.1)
    (ap (put number target asked) (sym is)
    ∙ put_refused law number target asked d (ap (λ (n : ℕ). size_of d.section n asked) (sym offset_is) ∙ sym size_is ∙ why.0))

pub put_over : (law : HasItsSize) (number target : ℕ) (asked : Asked) (d now : DraftValue) (offset size : ℕ)
    → d ≡ now → offset ≡ offset_in now now.section → size_of d.section offset asked ≡ Some size → 2 ^ 32 < offset + size → put number target asked now ≡ Err (fault.At number rule.Range)
put_over law number target asked d now offset size is at size_is long =
    let offset_is : offset ≡ offset_in d d.section = at ∙ ap (λ (u : DraftValue). offset_in u u.section) (sym is) in
    ap (put number target asked) (sym is)
    ∙ put_long law number target size asked d (ap (λ (n : ℕ). size_of d.section n asked) (sym offset_is) ∙ size_is) (omega arith)
