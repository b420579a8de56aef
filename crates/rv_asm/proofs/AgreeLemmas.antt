-- Both passes agree: a section becomes as long as the first pass says, so a label stands where its line puts bytes.
use Rattle.std.proofs.Common.{◌≡◌, ◌<◌, ◌≤◌, ◌+◌, ◌-◌, ◌^◌, [], ◌∷◌, ◌++◌, ℕ, suc, List, Bool, true, false, cond, length, Option, Some, None, Result, Ok, Err, refl, sym, ap, subst, ◌∙◌, arith, inl, inr, IfSome}
use Rattle.std.specs.Prelude.{◌==◌, ◌&&◌, nat_le, nat_lt, is_some, slice_get, unwrap_or, if◌then◌else◌}
use Rattle.std.specs.List.{AllByRecursion}
use Rattle.std.proofs.lemmas.Bool.{cases_Bool}
use Rattle.std.proofs.lemmas.Bool.Decides.{nat_tests}
use Rattle.std.proofs.lemmas.List.{length-append}
use Rattle.std.proofs.lemmas.Option.{get_or_from_slice_get, slice_get_within}
use Rattle.asm_bytes.specs.Bytes.{bytes_of}
use Rattle.asm_bytes.specs.Sizes.{may_stand, puts_nothing, size_of, bytes_taken}
use Rattle.asm_bytes.proofs.SizeLemmas.{has_its_size}
use Rattle.asm_lines.specs.declared.statement.SectionId.{SectionId}
use Rattle.asm_lines.specs.declared.statement.SectionId.TheVariants as section
use Rattle.asm_lines.specs.declared.statement.Use.{Use}
use Rattle.asm_lines.specs.declared.statement.Use.TheVariants as use_
use Rattle.asm_lines.specs.Lines.{LineValue, line_of}
use Rattle.asm_lines.specs.Statements.{Asked, Empty, Section, Align, Zero, Number, Hex, Ascii, Li, Plain, Named}
use Rattle.elf_write.specs.declared.module.Form.{Form}
use Rattle.elf_write.specs.declared.module.Form.TheVariants.{Exec, Object}
use Rattle.elf_write.specs.declared.module.ModSymbol.{ModSymbol}
use Rattle.wf_outside.proofs.RisingLemmas.{all_at}
use Rattle.rv_asm.specs.declared.fault.AsmFault.{AsmFault}
use Rattle.rv_asm.specs.declared.fault.AsmFault.TheVariants as fault
use Rattle.rv_asm.specs.declared.fault.AsmRule.{AsmRule}
use Rattle.rv_asm.specs.declared.fault.AsmRule.TheVariants as rule
use Rattle.rv_asm.specs.declared.first_pass.Survey.{Survey}
use Rattle.rv_asm.specs.declared.sizes.SectionSizes.{SectionSizes}
use Rattle.rv_asm.specs.Answers.{◌>>=◌, or_at}
use Rattle.rv_asm.specs.FirstPass as pass_1
use Rattle.rv_asm.specs.FirstPass.{grown, section_after, size_in, start, surveyed, surveyed_line, counted, labels_with}
use Rattle.rv_asm.specs.Labels.{LabelValue, as_global, changed, of_size, place_named, section_number, symbol_named}
use Rattle.rv_asm.specs.Names.{is_la, own_label}
use Rattle.rv_asm.specs.SecondPass.{DraftValue, blank, done, drafted, drafted_line, has_addend, here, home_of, is_settled, left, lengthened, lengths, offset_in, put, sized, unlinked, used, with_bytes, with_symbol}
use Rattle.rv_asm.specs.Uses.{AreCloseUses, IsCloseUse, IsPlainName, UseValue, kept, use_in}
use Rattle.rv_asm.proofs.NamedLemmas.{HasPlainName, plain_line}

-- ---- answers that are Ok

pub bind_ok : {A B : Type 0} (r : Result A AsmFault) (f : A → Result B AsmFault) (y : B) → (r >>= f) ≡ Ok y → (x : A) × (r ≡ Ok x) × (f x ≡ Ok y)
bind_ok (Ok x) f y e = (x, refl, e)
bind_ok (Err x) f y e = absurd cc

at_ok : {A : Type 0} (number : ℕ) (broken : AsmRule) (o : Option A) (x : A) → or_at number broken o ≡ Ok x → o ≡ Some x
at_ok number broken None x e = absurd cc
at_ok number broken (Some y) x e = cc

chosen : {A B : Type 0} (b : Bool) (r : Result A B) (e : B) (x : A) → cond b (Err e) r ≡ Ok x → (b ≡ false) × (r ≡ Ok x)
chosen true r e x h = absurd cc
chosen false r e x h = (refl, h)

chosen_first : {A B : Type 0} (b : Bool) (r : Result A B) (e : B) (x : A) → cond b r (Err e) ≡ Ok x → r ≡ Ok x
chosen_first true r e x h = h
chosen_first false r e x h = absurd cc

-- ---- how long sections are

pub record AreShort (z : SectionSizes) : Type 0 where
  pub text : z.text ≤ 2 ^ 32
  pub rodata : z.rodata ≤ 2 ^ 32
  pub rwdata : z.rwdata ≤ 2 ^ 32
  pub bss : z.bss ≤ 2 ^ 32

pub offset_is : (d : DraftValue) (id : SectionId) → offset_in d id ≡ size_in (lengths d) id
offset_is d section.Text = refl
offset_is d section.Rodata = refl
offset_is d section.Data = refl
offset_is d section.Bss = refl

pub size_short : (z : SectionSizes) (id : SectionId) → AreShort z → size_in z id ≤ 2 ^ 32
size_short z section.Text h = h.text
size_short z section.Rodata h = h.rodata
size_short z section.Data h = h.rwdata
size_short z section.Bss h = h.bss

counted_short : (n : ℕ) → n ≤ 2 ^ 32 → n ≡ counted n
counted_short n h = omega arith

grown_none : (id : SectionId) (z : SectionSizes) → AreShort z → z ≡ grown id 0 z
grown_none section.Text z h = ap (λ (n : ℕ). record z { text = n }) (let s = h.text in omega arith)
grown_none section.Rodata z h = ap (λ (n : ℕ). record z { rodata = n }) (let s = h.rodata in omega arith)
grown_none section.Data z h = ap (λ (n : ℕ). record z { rwdata = n }) (let s = h.rwdata in omega arith)
grown_none section.Bss z h = ap (λ (n : ℕ). record z { bss = n }) (let s = h.bss in omega arith)

-- what a draft knows from the first pass stays
pub record Kept (d e : DraftValue) : Type 0 where
  pub form : e.form ≡ d.form
  pub sizes : e.sizes ≡ d.sizes
  pub labels : e.labels ≡ d.labels
  pub uses : e.uses ≡ d.uses

pub kept_same : (d : DraftValue) → Kept d d
kept_same d = record { form = refl; sizes = refl; labels = refl; uses = refl }

pub kept_on : (d e f : DraftValue) → Kept d e → Kept e f → Kept d f
kept_on d e f h k = record { form = k.form ∙ h.form; sizes = k.sizes ∙ h.sizes; labels = k.labels ∙ h.labels; uses = k.uses ∙ h.uses }

-- a draft with bytes at the end of a section is longer there, and not too long
record Longer (d e : DraftValue) (id : SectionId) (more : ℕ) : Type 0 where
  section : e.section ≡ d.section
  kept : Kept d e
  grown_by : lengths e ≡ grown id more (lengths d)
  short : AreShort (lengths e)
  symbols : e.symbols ≡ d.symbols

longer : (d : DraftValue) (id : SectionId) (bytes : List ℕ) → AreShort (lengths d) → offset_in d id + length bytes ≤ 2 ^ 32 → Longer d (with_bytes id bytes d) id (length bytes)
longer d section.Text bytes h fits =
    let long = length-append d.text bytes in
    record {
      section = refl;
      kept = record { form = refl; sizes = refl; labels = refl; uses = refl };
      symbols = refl;
      grown_by = ap (λ (n : ℕ). record (lengths d) { text = n }) (omega arith);
      short = record { text = omega arith; rodata = h.rodata; rwdata = h.rwdata; bss = h.bss };
    }
longer d section.Rodata bytes h fits =
    let long = length-append d.rodata bytes in
    record {
      section = refl;
      kept = record { form = refl; sizes = refl; labels = refl; uses = refl };
      symbols = refl;
      grown_by = ap (λ (n : ℕ). record (lengths d) { rodata = n }) (omega arith);
      short = record { text = h.text; rodata = omega arith; rwdata = h.rwdata; bss = h.bss };
    }
longer d section.Data bytes h fits =
    let long = length-append d.rwdata bytes in
    record {
      section = refl;
      kept = record { form = refl; sizes = refl; labels = refl; uses = refl };
      symbols = refl;
      grown_by = ap (λ (n : ℕ). record (lengths d) { rwdata = n }) (omega arith);
      short = record { text = h.text; rodata = h.rodata; rwdata = omega arith; bss = h.bss };
    }
longer d section.Bss bytes h fits =
    record {
      section = refl;
      kept = record { form = refl; sizes = refl; labels = refl; uses = refl };
      symbols = refl;
      grown_by = ap (λ (n : ℕ). record (lengths d) { bss = n }) (omega arith);
      short = record { text = h.text; rodata = h.rodata; rwdata = h.rwdata; bss = omega arith };
    }

lengthened_ok : (number : ℕ) (b : Option (List ℕ)) (d e : DraftValue) → lengthened number b d ≡ Ok e → (bytes : List ℕ) × (b ≡ Some bytes) × (offset_in d d.section + length bytes ≤ 2 ^ 32) × (e ≡ with_bytes d.section bytes d)
unfolding lengthened
lengthened_ok number None d e h = absurd cc
lengthened_ok number (Some bytes) d e h =
    let c = chosen (nat_lt (2 ^ 32) (offset_in d d.section + length bytes)) (Ok (with_bytes d.section bytes d)) (fault.At number rule.Range) e h in
    let t : nat_lt (2 ^ 32) (offset_in d d.section + length bytes) ≡ false = c.0 in
    (bytes, refl, grind (arith, nat_tests), cc)

put_longer : (number target : ℕ) (asked : Asked) (d e : DraftValue) (size : ℕ) → AreShort (lengths d) → put number target asked d ≡ Ok e → size_of d.section (offset_in d d.section) asked ≡ Some size → Longer d e d.section size
put_longer number target asked d e size h made sized_is =
    let x = lengthened_ok number (bytes_of d.section (offset_in d d.section) (here d) target asked) d e made in
    let law = has_its_size d.section (offset_in d d.section) (here d) target asked x.0 x.1 in
    let same : length x.0 ≡ size = cc in
    subst (λ (n : ℕ). Longer d e d.section n) same (subst (λ (u : DraftValue). Longer d u d.section (length x.0)) (sym x.3) (longer d d.section x.0 h x.2))

-- ---- a statement

pub record Step (d : DraftValue) (asked : Asked) (e : DraftValue) : Type 0 where
  pub section : e.section ≡ section_after d.section asked
  pub kept : Kept d e
  pub grown_by : (size : ℕ) → size_of d.section (offset_in d d.section) asked ≡ Some size → lengths e ≡ grown d.section size (lengths d)
  pub short : AreShort (lengths e)

put_step : (number target : ℕ) (asked : Asked) (d e : DraftValue) → AreShort (lengths d) → d.section ≡ section_after d.section asked → put number target asked d ≡ Ok e → Step d asked e
put_step number target asked d e h stays made =
    let x = lengthened_ok number (bytes_of d.section (offset_in d d.section) (here d) target asked) d e made in
    let law = has_its_size d.section (offset_in d d.section) (here d) target asked x.0 x.1 in
    let long : Longer d e d.section (length x.0) = subst (λ (u : DraftValue). Longer d u d.section (length x.0)) (sym x.3) (longer d d.section x.0 h x.2) in
    record {
      section = long.section ∙ stays;
      kept = long.kept;
      grown_by = λ size e. let same : length x.0 ≡ size = cc in long.grown_by ∙ ap (λ (n : ℕ). grown d.section n (lengths d)) same;
      short = long.short;
    }

abbrev pub drawn : DraftValue → Result DraftValue AsmFault
drawn d = Ok d

still : (asked : Asked) (d u e : DraftValue) → drawn u ≡ drawn e → AreShort (lengths d) → lengths u ≡ lengths d → Kept d u → u.section ≡ section_after d.section asked
    → ((size : ℕ) → size_of d.section (offset_in d d.section) asked ≡ Some size → size ≡ 0) → Step d asked e
still asked d u e made h long kept same_section none =
    let same : u ≡ e = cc in
    subst (Step d asked) same (record {
      section = same_section;
      kept = kept;
      grown_by = λ size k. long ∙ grown_none d.section (lengths d) h ∙ ap (λ (n : ℕ). grown d.section n (lengths d)) (sym (none size k));
      short = subst AreShort (sym long) h;
    })

empty_size : (id : SectionId) (offset size : ℕ) → size_of id offset Empty ≡ Some size → size ≡ 0
unfolding size_of may_stand bytes_taken
empty_size id offset size e = cc

section_size : (id after : SectionId) (offset size : ℕ) → size_of id offset (Section after) ≡ Some size → size ≡ 0
unfolding size_of may_stand bytes_taken
section_size id after offset size e = cc

globl_size : (id : SectionId) (offset size : ℕ) (name : List ℕ) → size_of id offset (Named use_.Globl name) ≡ Some size → size ≡ 0
unfolding size_of may_stand bytes_taken
globl_size id offset size name e = cc

size_size : (id : SectionId) (offset size : ℕ) (name : List ℕ) → size_of id offset (Named use_.Size name) ≡ Some size → size ≡ 0
unfolding size_of may_stand bytes_taken
size_size id offset size name e = cc

sized_ok : (number : ℕ) (name : List ℕ) (s : ModSymbol) (d e : DraftValue) → sized number name s d ≡ Ok e → drawn (with_symbol name (of_size (here d - s.value)) d) ≡ drawn e
unfolding sized
sized_ok number name s d e h = chosen_first (s.section == section_number d.section && nat_le s.value (here d)) (Ok (with_symbol name (of_size (here d - s.value)) d)) (fault.At number rule.Range) e h

used_step : (number : ℕ) (what : Use) (name : List ℕ) (s : ModSymbol) (d e : DraftValue) → AreShort (lengths d) → used number what name s d ≡ Ok e → Step d (Named what name) e
unfolding used
used_step number use_.Globl name s d e h made = still (Named use_.Globl name) d (with_symbol name as_global d) e made h refl (record { form = refl; sizes = refl; labels = refl; uses = refl }) refl (λ size k. globl_size d.section (offset_in d d.section) size name k)
used_step number use_.Size name s d e h made =
    still (Named use_.Size name) d (with_symbol name (of_size (here d - s.value)) d) e (sized_ok number name s d e made) h refl (record { form = refl; sizes = refl; labels = refl; uses = refl }) refl (λ size k. size_size d.section (offset_in d d.section) size name k)
used_step number (use_.Address width addend) name s d e h made = put_step number s.value (Named (use_.Address width addend) name) d e h refl made
used_step number (use_.Branch cond rs1 rs2) name s d e h made = put_step number s.value (Named (use_.Branch cond rs1 rs2) name) d e h refl made
used_step number (use_.Jal rd) name s d e h made = put_step number s.value (Named (use_.Jal rd) name) d e h refl made
used_step number use_.Call name s d e h made = put_step number s.value (Named use_.Call name) d e h refl made
used_step number (use_.La rd) name s d e h made = put_step number s.value (Named (use_.La rd) name) d e h refl made

-- what is put for a use that is left to a linker is as long as the use
same_size : (id : SectionId) (offset : ℕ) (what : Use) (name : List ℕ) → size_of id offset (unlinked what name) ≡ size_of id offset (Named what name)
unfolding size_of may_stand bytes_taken
same_size id offset use_.Globl name = refl
same_size id offset use_.Size name = refl
same_size id offset (use_.Address width addend) name = refl
same_size id offset (use_.Branch cond rs1 rs2) name = refl
same_size id offset (use_.Jal rd) name = refl
same_size id offset use_.Call name = refl
same_size id offset (use_.La rd) name = refl

stays_there : (id : SectionId) (what : Use) (name : List ℕ) → id ≡ section_after id (unlinked what name)
stays_there id use_.Globl name = refl
stays_there id use_.Size name = refl
stays_there id (use_.Address width addend) name = refl
stays_there id (use_.Branch cond rs1 rs2) name = refl
stays_there id (use_.Jal rd) name = refl
stays_there id use_.Call name = refl
stays_there id (use_.La rd) name = refl

left_ok : (number : ℕ) (what : Use) (name : List ℕ) (d e : DraftValue) → left number what name d ≡ Ok e → put number (here d) (unlinked what name) d ≡ Ok e
unfolding left
left_ok number what name d e h = chosen_first (has_addend what) (put number (here d) (unlinked what name) d) (fault.At number rule.Range) e h

left_step : (number : ℕ) (what : Use) (name : List ℕ) (d e : DraftValue) → AreShort (lengths d) → left number what name d ≡ Ok e → Step d (Named what name) e
left_step number what name d e h made =
    let step = put_step number (here d) (unlinked what name) d e h (stays_there d.section what name) (left_ok number what name d e made) in
    record {
      section = step.section ∙ sym (stays_there d.section what name);
      kept = step.kept;
      grown_by = λ size k. step.grown_by size (same_size d.section (offset_in d d.section) what name ∙ k);
      short = step.short;
    }

-- a use that is done with here, or is left to a linker
pub settled_or_left : (P : Type 0) (number : ℕ) (what : Use) (name : List ℕ) (d e : DraftValue) → done number (Named what name) d ≡ Ok e
    → ((s : ModSymbol) → used number what name s d ≡ Ok e → P) → (left number what name d ≡ Ok e → P) → P
unfolding done
settled_or_left P number what name d e made here_done left_over =
    elim (cases_Bool (is_settled d.form d.section what (home_of name d.symbols))) [
      | inl t ↦
          let found : (or_at number rule.Unknown (symbol_named name d.symbols) >>= λ (s : ModSymbol). used number what name s d) ≡ Ok e = rw t at made in
          let x = bind_ok (or_at number rule.Unknown (symbol_named name d.symbols)) (λ (s : ModSymbol). used number what name s d) e found in
          here_done x.0 x.2
      | inr t ↦ let more : left number what name d ≡ Ok e = rw t at made in left_over more
    ]

pub done_step : (number : ℕ) (asked : Asked) (d e : DraftValue) → AreShort (lengths d) → done number asked d ≡ Ok e → Step d asked e
unfolding done
done_step number Empty d e h made = still Empty d d e made h refl (record { form = refl; sizes = refl; labels = refl; uses = refl }) refl (λ size k. empty_size d.section (offset_in d d.section) size k)
done_step number (Section to) d e h made = still (Section to) d (record d { section = to }) e made h refl (record { form = refl; sizes = refl; labels = refl; uses = refl }) refl (λ size k. section_size d.section to (offset_in d d.section) size k)
done_step number (Align n) d e h made = put_step number 0 (Align n) d e h refl made
done_step number (Zero count) d e h made = put_step number 0 (Zero count) d e h refl made
done_step number (Number width value) d e h made = put_step number 0 (Number width value) d e h refl made
done_step number (Hex digits) d e h made = put_step number 0 (Hex digits) d e h refl made
done_step number (Ascii text) d e h made = put_step number 0 (Ascii text) d e h refl made
done_step number (Li rd value) d e h made = put_step number 0 (Li rd value) d e h refl made
done_step number (Plain inst) d e h made = put_step number 0 (Plain inst) d e h refl made
done_step number (Named what name) d e h made =
    settled_or_left (Step d (Named what name) e) number what name d e made (λ s k. used_step number what name s d e h k) (λ k. left_step number what name d e h k)

-- ---- a line, and all lines

-- a label stands within 2 ^ 32 bytes of its section's start, under a name without zero bytes
pub record IsNear (l : LabelValue) : Type 0 where
  pub offset : l.offset ≤ 2 ^ 32
  pub named : IsPlainName l.name

pub record Agree (form : Form) (s : Survey) (d : DraftValue) : Type 0 where
  pub section : d.section ≡ s.section
  pub sizes : lengths d ≡ s.sizes
  pub short : AreShort (lengths d)
  pub labels : AllByRecursion IsNear s.labels
  pub uses : AreCloseUses s.uses
  pub none : form ≡ Exec → s.uses ≡ []

all_push : {X : Type 0} (P : X → Type 0) (xs : List X) (x : X) → AllByRecursion P xs → P x → AllByRecursion P (xs ++ x ∷ [])
all_push P [] x all p = (p, tt)
all_push P (y ∷ ys) x all p = (all.0, all_push P ys x all.1 p)

labels_near : (number : ℕ) (label : Option (List ℕ)) (s : Survey) (labels : List LabelValue) → labels_with number label s ≡ Ok labels → AllByRecursion IsNear s.labels → size_in s.sizes s.section ≤ 2 ^ 32
    → ((name : List ℕ) → label ≡ Some name → IsPlainName name) → AllByRecursion IsNear labels
unfolding labels_with
labels_near number None s labels made all short named = let same : s.labels ≡ labels = cc in subst (AllByRecursion IsNear) same all
labels_near number (Some name) s labels made all short named =
    let more : List LabelValue = s.labels ++ record { name = name; section = s.section; offset = size_in s.sizes s.section } ∷ [] in
    let c = chosen (is_some (place_named name s.labels)) (Ok more) (fault.At number rule.Twice) labels made in
    let same : more ≡ labels = cc in
    subst (AllByRecursion IsNear) same (all_push IsNear s.labels (record { name = name; section = s.section; offset = size_in s.sizes s.section }) all (record { offset = short; named = named name refl }))

if_some : {A : Type 0} (b : Bool) (o : Option A) (y : A) → cond b o None ≡ Some y → (b ≡ true) × (o ≡ Some y)
if_some true o y e = (refl, e)
if_some false o y e = absurd cc

abbrev seen : Survey → Result Survey AsmFault
seen s = Ok s

seen_same : (s t : Survey) → seen s ≡ seen t → s ≡ t
seen_same s t e = cc

pub drawn_same : (d e : DraftValue) → drawn d ≡ drawn e → d ≡ e
drawn_same d e h = cc

-- a survey with labels
abbrev with_labels : List LabelValue → Survey → Survey
with_labels labels s = record s { labels = labels }

-- a survey with the use of a name
abbrev pub with_use : Form → List (List ℕ) → Asked → List LabelValue → Survey → Survey
with_use form names asked labels s =
    let own = own_label names s.taken asked in
    record s {
      labels = labels;
      taken = if is_some own then suc s.taken else s.taken;
      uses = s.uses ++ kept form (use_in s.section (size_in s.sizes s.section) asked (unwrap_or own []));
    }

pub used_ok : (form : Form) (names : List (List ℕ)) (number : ℕ) (asked : Asked) (s t : Survey) → pass_1.used form names number asked s ≡ Ok t
    → (labels : List LabelValue) × (labels_with number (own_label names s.taken asked) s ≡ Ok labels) × (with_use form names asked labels s ≡ t)
unfolding pass_1.used
used_ok form names number asked s t made =
    let own = own_label names s.taken asked in
    let x = bind_ok (labels_with number own s) _ t made in
    (x.0, x.1, seen_same (with_use form names asked x.0 s) t x.2)

-- the names of local labels have no zero byte
own_plain : (names : List (List ℕ)) (taken : ℕ) (asked : Asked) → AllByRecursion IsPlainName names → (name : List ℕ) → own_label names taken asked ≡ Some name → IsPlainName name
own_plain names taken asked plain name e =
    let c = if_some (is_la asked) (slice_get names taken) name e in
    let within : taken < length names = slice_get_within names taken name c.1 in
    subst IsPlainName (get_or_from_slice_get names taken name name c.1) (all_at IsPlainName names taken name plain within)

or_empty_plain : (o : Option (List ℕ)) → ((name : List ℕ) → o ≡ Some name → IsPlainName name) → IsPlainName (unwrap_or o [])
or_empty_plain None plain = tt
or_empty_plain (Some name) plain = plain name refl

use_close : (form : Form) (id : SectionId) (offset : ℕ) (asked : Asked) (label : List ℕ) → offset ≤ 2 ^ 32 → HasPlainName asked → IsPlainName label → AreCloseUses (kept form (use_in id offset asked label))
use_close Exec id offset asked label short named plain = tt
use_close Object id offset Empty label short named plain = tt
use_close Object id offset (Section _) label short named plain = tt
use_close Object id offset (Align n) label short named plain = tt
use_close Object id offset (Zero count) label short named plain = tt
use_close Object id offset (Number width value) label short named plain = tt
use_close Object id offset (Hex digits) label short named plain = tt
use_close Object id offset (Ascii text) label short named plain = tt
use_close Object id offset (Li rd value) label short named plain = tt
use_close Object id offset (Plain inst) label short named plain = tt
use_close Object id offset (Named what name) label short named plain =
    elim (cases_Bool (puts_nothing what)) [
      | inl t ↦ rw t tt
      | inr t ↦ rw t ((record { offset = short; name = named; label = plain }), tt)
    ]

all_both : {X : Type 0} (P : X → Type 0) (xs ys : List X) → AllByRecursion P xs → AllByRecursion P ys → AllByRecursion P (xs ++ ys)
all_both P [] ys h k = k
all_both P (x ∷ xs) ys h k = (h.0, all_both P xs ys h.1 k)

label_plain : (o : Option (List ℕ)) (name : List ℕ) → IfSome o IsPlainName → o ≡ Some name → IsPlainName name
label_plain None name h e = absurd cc
label_plain (Some n) name h e = let same : n ≡ name = cc in subst IsPlainName same h

line_agrees : (form : Form) (names : List (List ℕ)) (number : ℕ) (text : List ℕ) (s t : Survey) (d e : DraftValue) → AllByRecursion IsPlainName names → Agree form s d → surveyed_line form names number text s ≡ Ok t → drafted_line number text d ≡ Ok e → Agree form t e
unfolding surveyed_line drafted_line
line_agrees form names number text s t d e plain agree first second =
    let a = bind_ok (or_at number rule.Syntax (line_of text)) _ t first in
    let b = bind_ok (or_at number rule.Syntax (size_of s.section (size_in s.sizes s.section) a.0.asked)) _ t a.2 in
    let c = bind_ok (labels_with number a.0.label s) _ t b.2 in
    let u = bind_ok (pass_1.used form names number a.0.asked (with_labels c.0 s)) _ t c.2 in
    let v = used_ok form names number a.0.asked (with_labels c.0 s) u.0 u.1 in
    let g = bind_ok (or_at number rule.Syntax (line_of text)) (λ (l : LineValue). done number l.asked d) e second in
    let line : line_of text ≡ Some a.0 = at_ok number rule.Syntax (line_of text) a.0 a.1 in
    let whole = plain_line text a.0 line in
    let same : g.0 ≡ a.0 = cc in
    let did : done number a.0.asked d ≡ Ok e = ap (λ (l : LineValue). done number l.asked d) (sym same) ∙ g.2 in
    let step = done_step number a.0.asked d e agree.short did in
    let at : size_in s.sizes s.section ≡ offset_in d d.section = ap (λ (z : SectionSizes). size_in z s.section) (sym agree.sizes) ∙ ap (size_in (lengths d)) (sym agree.section) ∙ sym (offset_is d d.section) in
    let size : size_of s.section (size_in s.sizes s.section) a.0.asked ≡ Some b.0 = at_ok number rule.Syntax (size_of s.section (size_in s.sizes s.section) a.0.asked) b.0 b.1 in
    let size_here : size_of d.section (offset_in d d.section) a.0.asked ≡ Some b.0 =
    ap (λ (id : SectionId). size_of id (offset_in d d.section) a.0.asked) agree.section ∙ ap (λ (n : ℕ). size_of s.section n a.0.asked) (sym at) ∙ size in
    let low : size_in s.sizes s.section ≤ 2 ^ 32 = (let h = size_short (lengths d) d.section agree.short in let o = offset_is d d.section in omega arith) in
    let own = own_label names s.taken a.0.asked in
    let own_named : (name : List ℕ) → own ≡ Some name → IsPlainName name = own_plain names s.taken a.0.asked plain in
    let near : AllByRecursion IsNear c.0 = labels_near number a.0.label s c.0 c.1 agree.labels low (λ name k. label_plain a.0.label name whole.label k) in
    let last : Survey → Survey = λ m. record m { section = section_after s.section a.0.asked; sizes = grown s.section b.0 s.sizes } in
    let after : last (with_use form names a.0.asked v.0 (with_labels c.0 s)) ≡ t = ap last v.2 ∙ seen_same (last u.0) t u.2 in
    let more = kept form (use_in s.section (size_in s.sizes s.section) a.0.asked (unwrap_or own [])) in
    subst (λ (w : Survey). Agree form w e) after (record {
      section = step.section ∙ ap (λ (id : SectionId). section_after id a.0.asked) agree.section;
      sizes = step.grown_by b.0 size_here ∙ ap (λ (id : SectionId). grown id b.0 (lengths d)) agree.section ∙ ap (grown s.section b.0) agree.sizes;
      short = step.short;
      labels = labels_near number own (with_labels c.0 s) v.0 v.1 near low own_named;
      uses = all_both IsCloseUse s.uses more agree.uses (use_close form s.section (size_in s.sizes s.section) a.0.asked (unwrap_or own []) low whole.asked (or_empty_plain own own_named));
      none = λ exec. ap (λ (us : List UseValue). us ++ more) (agree.none exec) ∙ ap (λ (f : Form). kept f (use_in s.section (size_in s.sizes s.section) a.0.asked (unwrap_or own []))) exec;
    })

lines_agree : (form : Form) (names : List (List ℕ)) (number : ℕ) (lines : List (List ℕ)) (s t : Survey) (d e : DraftValue) → AllByRecursion IsPlainName names → Agree form s d → surveyed form names number lines s ≡ Ok t → drafted number lines d ≡ Ok e → Agree form t e
unfolding surveyed drafted
lines_agree form names number [] s t d e plain agree first second =
    let same : s ≡ t = seen_same s t first in
    let alike : d ≡ e = drawn_same d e second in
    subst (λ (u : Survey). Agree form u e) same (subst (Agree form s) alike agree)
lines_agree form names number (text ∷ lines) s t d e plain agree first second =
    let a = bind_ok (surveyed_line form names number text s) (λ (u : Survey). surveyed form names (suc number) lines u) t first in
    let b = bind_ok (drafted_line number text d) (λ (u : DraftValue). drafted (suc number) lines u) e second in
    lines_agree form names (suc number) lines a.0 t b.0 e plain (line_agrees form names number text s a.0 d b.0 plain agree a.1 b.1) a.2 b.2

-- what is drafted agrees with what was surveyed
pub passes_agree : (form : Form) (names lines : List (List ℕ)) (s : Survey) (d : DraftValue) → AllByRecursion IsPlainName names → surveyed form names 1 lines start ≡ Ok s → drafted 1 lines (blank form s) ≡ Ok d → Agree form s d
passes_agree form names lines s d plain first second =
    lines_agree form names 1 lines start s (blank form s) d plain
    (record { section = refl; sizes = refl; short = record { text = omega arith; rodata = omega arith; rwdata = omega arith; bss = omega arith }; labels = tt; uses = tt; none = λ exec. refl })
    first second

-- ---- what holds of the symbols

-- a fact of symbols that stays when others see one of them, and when its size is counted
pub record Stays (P : List ModSymbol → Type 0) : Type 0 where
  pub global : (name : List ℕ) (ss : List ModSymbol) → P ss → P (changed name as_global ss)
  pub size : (name : List ℕ) (n : ℕ) (ss : List ModSymbol) → n < 2 ^ 64 → P ss → P (changed name (of_size n) ss)

put_symbols : (number target : ℕ) (asked : Asked) (d e : DraftValue) → put number target asked d ≡ Ok e → d.symbols ≡ e.symbols
put_symbols number target asked d e made =
    let x = lengthened_ok number (bytes_of d.section (offset_in d d.section) (here d) target asked) d e made in
    let kept : d.symbols ≡ (with_bytes d.section x.0 d).symbols = elim d.section as (λ id. d.symbols ≡ (with_bytes id x.0 d).symbols) [ section.Text ↦ refl | section.Rodata ↦ refl | section.Data ↦ refl | section.Bss ↦ refl ] in
    kept ∙ ap (λ (u : DraftValue). u.symbols) (sym x.3)

all_put : (P : List ModSymbol → Type 0) (number target : ℕ) (asked : Asked) (d e : DraftValue) → P d.symbols → put number target asked d ≡ Ok e → P e.symbols
all_put P number target asked d e all made = subst P (put_symbols number target asked d e made) all

all_used : (P : List ModSymbol → Type 0) → Stays P → (number : ℕ) (what : Use) (name : List ℕ) (s : ModSymbol) (d e : DraftValue) → here d < 2 ^ 64 → P d.symbols → used number what name s d ≡ Ok e → P e.symbols
unfolding used
all_used P stays number use_.Globl name s d e low all made =
    let same = drawn_same (with_symbol name as_global d) e made in
    subst (λ (u : DraftValue). P u.symbols) same (stays.global name d.symbols all)
all_used P stays number use_.Size name s d e low all made =
    let same = drawn_same (with_symbol name (of_size (here d - s.value)) d) e (sized_ok number name s d e made) in
    subst (λ (u : DraftValue). P u.symbols) same (stays.size name (here d - s.value) d.symbols (omega arith) all)
all_used P stays number (use_.Address width addend) name s d e low all made = all_put P number s.value (Named (use_.Address width addend) name) d e all made
all_used P stays number (use_.Branch cond rs1 rs2) name s d e low all made = all_put P number s.value (Named (use_.Branch cond rs1 rs2) name) d e all made
all_used P stays number (use_.Jal rd) name s d e low all made = all_put P number s.value (Named (use_.Jal rd) name) d e all made
all_used P stays number use_.Call name s d e low all made = all_put P number s.value (Named use_.Call name) d e all made
all_used P stays number (use_.La rd) name s d e low all made = all_put P number s.value (Named (use_.La rd) name) d e all made

pub all_done : (P : List ModSymbol → Type 0) → Stays P → (number : ℕ) (asked : Asked) (d e : DraftValue) → here d < 2 ^ 64 → P d.symbols → done number asked d ≡ Ok e → P e.symbols
unfolding done
all_done P stays number Empty d e low all made = let same = drawn_same d e made in subst (λ (u : DraftValue). P u.symbols) same all
all_done P stays number (Section to) d e low all made = let same = drawn_same (record d { section = to }) e made in subst (λ (u : DraftValue). P u.symbols) same all
all_done P stays number (Align n) d e low all made = all_put P number 0 (Align n) d e all made
all_done P stays number (Zero count) d e low all made = all_put P number 0 (Zero count) d e all made
all_done P stays number (Number width value) d e low all made = all_put P number 0 (Number width value) d e all made
all_done P stays number (Hex digits) d e low all made = all_put P number 0 (Hex digits) d e all made
all_done P stays number (Ascii text) d e low all made = all_put P number 0 (Ascii text) d e all made
all_done P stays number (Li rd value) d e low all made = all_put P number 0 (Li rd value) d e all made
all_done P stays number (Plain inst) d e low all made = all_put P number 0 (Plain inst) d e all made
all_done P stays number (Named what name) d e low all made =
    settled_or_left (P e.symbols) number what name d e made (λ s k. all_used P stays number what name s d e low all k) (λ k. all_put P number (here d) (unlinked what name) d e all (left_ok number what name d e k))
