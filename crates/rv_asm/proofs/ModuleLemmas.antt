-- What the symbols and uses of a draft keep.
use Rattle.std.proofs.Common.{◌≡◌, ◌<◌, ◌≤◌, ◌^◌, [], ◌∷◌, ℕ, suc, List, cond, true, false, Ok, refl, sym, ap, subst, ◌∙◌, arith, inl, inr}
use Rattle.std.specs.Prelude.{map}
use Rattle.std.specs.List.{AllByRecursion}
use Rattle.std.specs.Str.{bytes_eq}
use Rattle.std.proofs.lemmas.Bool.{cases_Bool}
use Rattle.asm_lines.specs.declared.statement.SectionId.{SectionId}
use Rattle.asm_lines.specs.declared.statement.SectionId.TheVariants as section
use Rattle.asm_lines.specs.Lines.{LineValue, line_of}
use Rattle.elf_write.specs.declared.module.Form.{Form}
use Rattle.elf_write.specs.declared.module.Form.TheVariants.{Exec, Object}
use Rattle.elf_write.specs.declared.module.ModSymbol.{ModSymbol}
use Rattle.elf_write.specs.Layout.{bases_of}
use Rattle.rv_asm.specs.declared.fault.AsmRule.TheVariants as rule
use Rattle.rv_asm.specs.declared.first_pass.Survey.{Survey}
use Rattle.rv_asm.specs.declared.sizes.SectionSizes.{SectionSizes}
use Rattle.rv_asm.specs.Answers.{or_at}
use Rattle.rv_asm.specs.Drafts.{AreNarrow, IsNarrow, label_names, symbol_names}
use Rattle.rv_asm.specs.FirstPass.{start, surveyed}
use Rattle.rv_asm.specs.Labels.{LabelValue, as_global, changed, of_size, section_number}
use Rattle.rv_asm.specs.SecondPass.{DraftValue, base_of, blank, done, drafted, drafted_line, here, lengths, symbol_of}
use Rattle.rv_asm.specs.Uses.{AreCloseUses, IsPlainName}
use Rattle.rv_asm.proofs.AgreeLemmas.{Agree, AreShort, IsNear, Kept, Stays, all_done, bind_ok, done_step, drawn_same, kept_on, kept_same, offset_is, passes_agree, size_short}

-- ---- addresses are low

base_low : (form : Form) (z : SectionSizes) (id : SectionId) → AreShort z → base_of form z id < 2 ^ 40
unfolding base_of bases_of
base_low Exec z section.Text h = let a = h.text in omega arith
base_low Exec z section.Rodata h = let a = h.text in omega arith
base_low Exec z section.Data h = let a = h.text in let b = h.rodata in omega arith
base_low Exec z section.Bss h = let a = h.text in let b = h.rodata in let c = h.rwdata in omega arith
base_low Object z section.Text h = omega arith
base_low Object z section.Rodata h = omega arith
base_low Object z section.Data h = omega arith
base_low Object z section.Bss h = omega arith

here_low : (d : DraftValue) → AreShort d.sizes → AreShort (lengths d) → here d < 2 ^ 64
unfolding here
here_low d h k =
    let base = base_low d.form d.sizes d.section h in
    let offset = size_short (lengths d) d.section k in
    let same = offset_is d d.section in
    omega arith

-- ---- what holds of the symbols holds in the end

pub record Drafted (P : List ModSymbol → Type 0) (d e : DraftValue) : Type 0 where
  pub symbols : P e.symbols
  pub kept : Kept d e

all_drafted : (P : List ModSymbol → Type 0) → Stays P → (number : ℕ) (lines : List (List ℕ)) (d e : DraftValue) → AreShort d.sizes → AreShort (lengths d) → P d.symbols → drafted number lines d ≡ Ok e → Drafted P d e
unfolding drafted drafted_line
all_drafted P stays number [] d e h k all made = let same = drawn_same d e made in subst (λ (u : DraftValue). Drafted P d u) same (record { symbols = all; kept = kept_same d })
all_drafted P stays number (text ∷ lines) d e h k all made =
    let a = bind_ok (drafted_line number text d) (λ (u : DraftValue). drafted (suc number) lines u) e made in
    let b = bind_ok (or_at number rule.Syntax (line_of text)) (λ (l : LineValue). done number l.asked d) a.0 a.1 in
    let step = done_step number b.0.asked d a.0 k b.2 in
    let rest = all_drafted P stays (suc number) lines a.0 e (subst AreShort (sym step.kept.sizes) h) step.short (all_done P stays number b.0.asked d a.0 (here_low d h k) all b.2) a.2 in
    record { symbols = rest.symbols; kept = kept_on d a.0 e step.kept rest.kept }

-- what a source has that both passes read, with these names for local labels
pub record IsRead (form : Form) (names lines : List (List ℕ)) (s : Survey) (d : DraftValue) : Type 0 where
  pub plain : AllByRecursion IsPlainName names
  pub first : surveyed form names 1 lines start ≡ Ok s
  pub second : drafted 1 lines (blank form s) ≡ Ok d

-- by names that are these
pub is_read : (form : Form) (names plain lines : List (List ℕ)) (s : Survey) (d : DraftValue) → names ≡ plain → AllByRecursion IsPlainName plain → surveyed form names 1 lines start ≡ Ok s → drafted 1 lines (blank form s) ≡ Ok d
    → IsRead form plain lines s d
is_read form names plain lines s d e all first second = record { plain = all; first = ap (λ (ns : List (List ℕ)). surveyed form ns 1 lines start) (sym e) ∙ first; second = second }

pub agreed : (form : Form) (names lines : List (List ℕ)) (s : Survey) (d : DraftValue) → IsRead form names lines s d → Agree form s d
agreed form names lines s d read = passes_agree form names lines s d read.plain read.first read.second

surveyed_short : (form : Form) (names lines : List (List ℕ)) (s : Survey) (d : DraftValue) → IsRead form names lines s d → AreShort s.sizes
surveyed_short form names lines s d read = let agree = agreed form names lines s d read in subst AreShort agree.sizes agree.short

all_read : (P : List ModSymbol → Type 0) → Stays P → (form : Form) (names lines : List (List ℕ)) (s : Survey) (d : DraftValue) → IsRead form names lines s d → P (map (symbol_of form s.sizes) s.labels) → Drafted P (blank form s) d
all_read P stays form names lines s d read all =
    all_drafted P stays 1 lines (blank form s) d (surveyed_short form names lines s d read) (record { text = omega arith; rodata = omega arith; rwdata = omega arith; bss = omega arith }) all read.second

-- ---- what holds of each symbol

-- a fact of a symbol that stays when others see it, and when its size is counted
record StaysOfEach (P : ModSymbol → Type 0) : Type 0 where
  global : (s : ModSymbol) → P s → P (as_global s)
  size : (s : ModSymbol) (n : ℕ) → n < 2 ^ 64 → P s → P (of_size n s)

all_changed : (P : ModSymbol → Type 0) (name : List ℕ) (f : ModSymbol → ModSymbol) → ((s : ModSymbol) → P s → P (f s)) → (ss : List ModSymbol) → AllByRecursion P ss → AllByRecursion P (changed name f ss)
all_changed P name f keeps [] all = tt
all_changed P name f keeps (s ∷ ss) all =
    elim (bytes_eq s.name name) as (λ v. AllByRecursion P (cond v (f s ∷ ss) (s ∷ changed name f ss))) [
      | true ↦ (keeps s all.0, all.1)
      | false ↦ (all.0, all_changed P name f keeps ss all.1)
    ]

each_stays : (P : ModSymbol → Type 0) → StaysOfEach P → Stays (AllByRecursion P)
each_stays P stays = record {
  global = λ name ss all. all_changed P name as_global stays.global ss all;
  size = λ name n ss h all. all_changed P name (of_size n) (λ s p. stays.size s n h p) ss all;
}

each_blank : (P : ModSymbol → Type 0) (form : Form) (z : SectionSizes) → ((l : LabelValue) → IsNear l → P (symbol_of form z l)) → (labels : List LabelValue) → AllByRecursion IsNear labels → AllByRecursion P (map (symbol_of form z) labels)
each_blank P form z each [] near = tt
each_blank P form z each (l ∷ ls) near = (each l near.0, each_blank P form z each ls near.1)

each_read : (P : ModSymbol → Type 0) → StaysOfEach P → (form : Form) (names lines : List (List ℕ)) (s : Survey) (d : DraftValue) → IsRead form names lines s d
    → ((l : LabelValue) → IsNear l → AreShort s.sizes → P (symbol_of form s.sizes l)) → Drafted (AllByRecursion P) (blank form s) d
each_read P stays form names lines s d read each =
    all_read (AllByRecursion P) (each_stays P stays) form names lines s d read
    (each_blank P form s.sizes (λ l near. each l near (surveyed_short form names lines s d read)) s.labels (agreed form names lines s d read).labels)

-- ---- numbers of 64 bits

narrow_stays : StaysOfEach IsNarrow
narrow_stays = record {
  global = λ s p. record { value = p.value; size = p.size };
  size = λ s n h p. record { value = p.value; size = h };
}

are_narrow : (form : Form) (names lines : List (List ℕ)) (s : Survey) (d : DraftValue) → IsRead form names lines s d → Drafted AreNarrow (blank form s) d
are_narrow form names lines s d read =
    each_read IsNarrow narrow_stays form names lines s d read
    (λ l near short. record {
      value = let base = base_low form s.sizes l.section short in let offset = near.offset in omega arith;
      size = omega arith;
    })

pub narrow : (form : Form) (names lines : List (List ℕ)) (s : Survey) (d : DraftValue) → IsRead form names lines s d → AreNarrow d.symbols
narrow form names lines s d read = (are_narrow form names lines s d read).symbols

pub close : (form : Form) (names lines : List (List ℕ)) (s : Survey) (d : DraftValue) → IsRead form names lines s d → AreCloseUses d.uses
close form names lines s d read = subst AreCloseUses (sym (are_narrow form names lines s d read).kept.uses) (agreed form names lines s d read).uses

-- ---- symbols of sections

-- a symbol of a section
pub record IsHome (s : ModSymbol) : Type 0 where
  pub above : 1 ≤ s.section
  pub below : s.section ≤ 4
  pub named : IsPlainName s.name

is_section : (id : SectionId) → (1 ≤ section_number id) × (section_number id ≤ 4)
is_section section.Text = (omega arith, omega arith)
is_section section.Rodata = (omega arith, omega arith)
is_section section.Data = (omega arith, omega arith)
is_section section.Bss = (omega arith, omega arith)

home_stays : StaysOfEach IsHome
home_stays = record {
  global = λ s p. record { above = p.above; below = p.below; named = p.named };
  size = λ s n h p. record { above = p.above; below = p.below; named = p.named };
}

pub are_home : (form : Form) (names lines : List (List ℕ)) (s : Survey) (d : DraftValue) → IsRead form names lines s d → Drafted (AllByRecursion IsHome) (blank form s) d
are_home form names lines s d read =
    each_read IsHome home_stays form names lines s d read
    (λ l near short. record {
      above = (is_section l.section).0;
      below = (is_section l.section).1;
      named = near.named;
    })

-- ---- the names of symbols

names_changed : (name : List ℕ) (f : ModSymbol → ModSymbol) → ((s : ModSymbol) → (f s).name ≡ s.name) → (ss : List ModSymbol) → symbol_names (changed name f ss) ≡ symbol_names ss
names_changed name f keeps [] = refl
names_changed name f keeps (s ∷ ss) =
    elim (cases_Bool (bytes_eq s.name name)) [
      | inl t ↦ rw t (ap (λ (n : List ℕ). n ∷ symbol_names ss) (keeps s))
      | inr t ↦ rw t (ap (λ (ns : List (List ℕ)). s.name ∷ ns) (names_changed name f keeps ss))
    ]

abbrev HaveNames : List (List ℕ) → List ModSymbol → Type 0
HaveNames names ss = symbol_names ss ≡ names

names_stay : (names : List (List ℕ)) → Stays (HaveNames names)
names_stay names = record {
  global = λ name ss e. names_changed name as_global (λ s. refl) ss ∙ e;
  size = λ name n ss h e. names_changed name (of_size n) (λ s. refl) ss ∙ e;
}

names_blank : (form : Form) (z : SectionSizes) (labels : List LabelValue) → symbol_names (map (symbol_of form z) labels) ≡ label_names labels
names_blank form z [] = refl
names_blank form z (l ∷ ls) = ap (λ (ns : List (List ℕ)). l.name ∷ ns) (names_blank form z ls)

-- each symbol has the name of its label
pub same_names : (form : Form) (names lines : List (List ℕ)) (s : Survey) (d : DraftValue) → IsRead form names lines s d → symbol_names d.symbols ≡ label_names d.labels
same_names form names lines s d read =
    let whole = all_read (HaveNames (label_names s.labels)) (names_stay (label_names s.labels)) form names lines s d read (names_blank form s.sizes s.labels) in
    whole.symbols ∙ ap label_names (sym whole.kept.labels)
