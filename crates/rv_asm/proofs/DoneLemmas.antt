-- What statements do to a draft.
use Rattle.std.proofs.Common.{◌≡◌, ◌<◌, ◌-◌, [], ◌∷◌, ℕ, List, Bool, true, false, cond, length, get_or, Option, Some, None, Ok, Err, refl, sym, ap, ◌∙◌, arith}
use Rattle.std.specs.Prelude.{◌==◌, ◌&&◌, map, nat_le}
use Rattle.std.specs.Option.{option_map}
use Rattle.std.specs.Str.{bytes_eq}
use Rattle.std.proofs.Math.ListN.{set}
use Rattle.std.proofs.lemmas.List.{get_or-map, length-map, map-set}
use Rattle.asm_bytes.specs.Sizes.{puts_nothing}
use Rattle.asm_lines.specs.declared.statement.Use.{Use}
use Rattle.asm_lines.specs.declared.statement.Use.TheVariants as use_
use Rattle.asm_lines.specs.Statements.{Named}
use Rattle.asm_lines.specs.declared.statement.SectionId.{SectionId}
use Rattle.elf_write.specs.declared.module.Form.{Form}
use Rattle.elf_write.specs.declared.module.Form.TheVariants.{Exec, Object}
use Rattle.elf_write.specs.declared.module.ModSymbol.{ModSymbol}
use Rattle.rv_asm.specs.declared.fault.AsmFault.TheVariants as fault
use Rattle.rv_asm.specs.declared.fault.AsmRule.TheVariants as rule
use Rattle.rv_asm.specs.declared.named.Symbol.{Symbol}
use Rattle.rv_asm.specs.declared.sizes.SectionSizes.{SectionSizes}
use Rattle.rv_asm.specs.Drafts.{IsDraft, label_names, symbol_names, symbol_value, symbol_values}
use Rattle.rv_asm.specs.Kept.{AreCounted}
use Rattle.rv_asm.specs.Labels.{LabelValue, as_global, of_size, section_number, symbol_named, symbol_place}
use Rattle.rv_asm.specs.SecondPass.{DraftValue, done, here, home_of, is_settled, left, put, sized, symbol_of, used, with_symbol}
use Rattle.rv_asm.specs.Answers.{◌>>=◌, or_at}
use Rattle.rv_asm.proofs.SymbolLemmas.{changed_at, is_first, named_at, named_none, names_stay}

-- the value of the symbol at a place
pub value_at : (symbols : List Symbol) (place : ℕ) (s : Symbol) → place < length symbols → s ≡ get_or symbols place s → symbol_value s ≡ get_or (symbol_values symbols) place (symbol_value s)
value_at symbols place s h e = sym (get_or-map symbol_value symbols place s (symbol_value s) h ∙ ap symbol_value (sym e))

-- a use is done with here
abbrev pub IsSettled : Use → List ℕ → DraftValue → Type 0
IsSettled what name d = is_settled d.form d.section what (home_of name d.symbols) ≡ true

settled_done : (number : ℕ) (what : Use) (name : List ℕ) (d : DraftValue) → IsSettled what name d → done number (Named what name) d ≡ (or_at number rule.Unknown (symbol_named name d.symbols) >>= λ s. used number what name s d)
unfolding done
settled_done number what name d t = rw t refl

pub done_unknown : (number : ℕ) (what : Use) (name : List ℕ) (d : DraftValue) → IsSettled what name d → symbol_place name d.symbols ≡ None → done number (Named what name) d ≡ Err (fault.At number rule.Unknown)
done_unknown number what name d t e = settled_done number what name d t ∙ rw (named_none name d.symbols e) refl

found : (number : ℕ) (what : Use) (name : List ℕ) (d : DraftValue) (place : ℕ) (s : ModSymbol) → IsSettled what name d → symbol_place name d.symbols ≡ Some place → s ≡ get_or d.symbols place s
    → done number (Named what name) d ≡ used number what name s d
found number what name d place s t e f = settled_done number what name d t ∙ rw (named_at name d.symbols place s e f) refl

-- what puts nothing is done with here
pub settled_nothing : (form : Form) (id : SectionId) (what : Use) (home : Option ℕ) → puts_nothing what ≡ true → is_settled form id what home ≡ true
settled_nothing Exec id what home e = refl
settled_nothing Object id what home e = rw e refl

-- what the code found of a use
pub settled_as_shown : (what : Use) (name : List ℕ) (d now : DraftValue) (answer : Bool) (home : Option ℕ) (b : Bool) → d ≡ now → home ≡ home_of name now.symbols → answer ≡ is_settled d.form d.section what home → answer ≡ b
    → is_settled now.form now.section what (home_of name now.symbols) ≡ b
settled_as_shown what name d now answer home b is at e f =
    ap (λ (u : DraftValue). is_settled u.form u.section what (home_of name now.symbols)) (sym is) ∙ ap (is_settled d.form d.section what) (sym at) ∙ sym e ∙ f

-- the section of a symbol by its place
pub home_none : (name : List ℕ) (d now : DraftValue) → d ≡ now → symbol_place name d.symbols ≡ None → home_of name now.symbols ≡ None
home_none name d now is none = ap (λ (u : DraftValue). home_of name u.symbols) (sym is) ∙ ap (λ (o : Option ModSymbol). option_map (λ s. s.section) o) (named_none name d.symbols none)

pub home_at : (name : List ℕ) (d now : DraftValue) (symbols : List Symbol) (place : ℕ) (s : Symbol) → d ≡ now → d.symbols ≡ symbol_values symbols → symbol_place name d.symbols ≡ Some place → s ≡ get_or symbols place s
    → home_of name now.symbols ≡ Some (section_number s.section)
home_at name d now symbols place s is shown at e =
    let long : length d.symbols ≡ length symbols = ap length shown ∙ length-map symbols symbol_value in
    let within = (is_first (λ (t : ModSymbol). bytes_eq t.name name) d.symbols place at).1 in
    let h : place < length symbols = omega (arith, long, within) in
    let this : symbol_value s ≡ get_or d.symbols place (symbol_value s) = value_at symbols place s h e ∙ ap (λ (ss : List ModSymbol). get_or ss place (symbol_value s)) (sym shown) in
    ap (λ (u : DraftValue). home_of name u.symbols) (sym is) ∙ ap (λ (o : Option ModSymbol). option_map (λ t. t.section) o) (named_at name d.symbols place (symbol_value s) at this)

-- a use that is left to a linker
pub done_left : (number : ℕ) (what : Use) (name : List ℕ) (d : DraftValue) → is_settled d.form d.section what (home_of name d.symbols) ≡ false → done number (Named what name) d ≡ left number what name d
unfolding done
done_left number what name d t = rw t refl

pub globl_done : (number : ℕ) (name : List ℕ) (d : DraftValue) (place : ℕ) (s : ModSymbol) → symbol_place name d.symbols ≡ Some place → s ≡ get_or d.symbols place s
    → done number (Named use_.Globl name) d ≡ Ok (record d { symbols = set d.symbols place (as_global s) })
unfolding used
globl_done number name d place s e f =
    found number use_.Globl name d place s (settled_nothing d.form d.section use_.Globl (home_of name d.symbols) refl) e f
    ∙ ap (λ (ss : List ModSymbol). Ok (record d { symbols = ss })) (changed_at name as_global d.symbols place s e f)

pub size_done : (number : ℕ) (name : List ℕ) (d : DraftValue) (place : ℕ) (s : ModSymbol) → symbol_place name d.symbols ≡ Some place → s ≡ get_or d.symbols place s
    → (s.section == section_number d.section && nat_le s.value (here d)) ≡ true
    → done number (Named use_.Size name) d ≡ Ok (record d { symbols = set d.symbols place (of_size (here d - s.value) s) })
unfolding used sized
size_done number name d place s e f t =
    found number use_.Size name d place s (settled_nothing d.form d.section use_.Size (home_of name d.symbols) refl) e f
    ∙ ap (λ (b : Bool). cond b (Ok (with_symbol name (of_size (here d - s.value)) d)) (Err (fault.At number rule.Range))) t
    ∙ ap (λ (ss : List ModSymbol). Ok (record d { symbols = ss })) (changed_at name (of_size (here d - s.value)) d.symbols place s e f)

pub size_far : (number : ℕ) (name : List ℕ) (d : DraftValue) (place : ℕ) (s : ModSymbol) → symbol_place name d.symbols ≡ Some place → s ≡ get_or d.symbols place s
    → (s.section == section_number d.section && nat_le s.value (here d)) ≡ false
    → done number (Named use_.Size name) d ≡ Err (fault.At number rule.Range)
unfolding used sized
size_far number name d place s e f t =
    found number use_.Size name d place s (settled_nothing d.form d.section use_.Size (home_of name d.symbols) refl) e f
    ∙ ap (λ (b : Bool). cond b (Ok (with_symbol name (of_size (here d - s.value)) d)) (Err (fault.At number rule.Range))) t

uses : (number : ℕ) (what : Use) (name : List ℕ) (s : ModSymbol) (d : DraftValue) → puts_nothing what ≡ false → used number what name s d ≡ put number s.value (Named what name) d
unfolding used
uses number use_.Globl name s d e = absurd cc
uses number use_.Size name s d e = absurd cc
uses number (use_.Address width addend) name s d e = refl
uses number (use_.Branch cond rs1 rs2) name s d e = refl
uses number (use_.Jal rd) name s d e = refl
uses number use_.Call name s d e = refl
uses number (use_.La rd) name s d e = refl

pub use_done : (number : ℕ) (what : Use) (name : List ℕ) (d : DraftValue) (place : ℕ) (s : ModSymbol) → puts_nothing what ≡ false → IsSettled what name d → symbol_place name d.symbols ≡ Some place → s ≡ get_or d.symbols place s
    → done number (Named what name) d ≡ put number s.value (Named what name) d
use_done number what name d place s n t e f = found number what name d place s t e f ∙ uses number what name s d n

-- ---- the same of symbols as the code keeps them

seen : (name : List ℕ) (d now : DraftValue) (symbols : List Symbol) (place : ℕ) (s : Symbol) → d ≡ now → d.symbols ≡ symbol_values symbols → place < length now.symbols → s ≡ get_or symbols place s
    → symbol_value s ≡ get_or d.symbols place (symbol_value s)
seen name d now symbols place s is shown h e =
    let long : length d.symbols ≡ length symbols = ap length shown ∙ length-map symbols symbol_value in
    let same : length d.symbols ≡ length now.symbols = ap (λ (u : DraftValue). length u.symbols) is in
    value_at symbols place s (omega arith) e ∙ ap (λ (ss : List ModSymbol). get_or ss place (symbol_value s)) (sym shown)

pub globl_seen : (number : ℕ) (name : List ℕ) (d now : DraftValue) (symbols : List Symbol) (place : ℕ) (s t : Symbol) → d ≡ now → d.symbols ≡ symbol_values symbols
    → symbol_place name now.symbols ≡ Some place → place < length now.symbols → s ≡ get_or symbols place s → symbol_value t ≡ as_global (symbol_value s)
    → done number (Named use_.Globl name) now ≡ Ok (record d { symbols = symbol_values (set symbols place t) })
globl_seen number name d now symbols place s t is shown at h e changes =
    ap (done number (Named use_.Globl name)) (sym is)
    ∙ globl_done number name d place (symbol_value s) (ap (λ (u : DraftValue). symbol_place name u.symbols) is ∙ at) (seen name d now symbols place s is shown h e)
    ∙ ap (λ (ss : List ModSymbol). Ok (record d { symbols = ss }))
    (ap (λ (ss : List ModSymbol). set ss place (as_global (symbol_value s))) shown ∙ ap (set (symbol_values symbols) place) (sym changes) ∙ sym (map-set symbol_value symbols place t))

pub size_seen : (number : ℕ) (name : List ℕ) (d now : DraftValue) (symbols : List Symbol) (place : ℕ) (s t : Symbol) (at : ℕ) → d ≡ now → d.symbols ≡ symbol_values symbols
    → symbol_place name now.symbols ≡ Some place → place < length now.symbols → s ≡ get_or symbols place s
    → (section_number s.section == section_number d.section && nat_le s.address at) ≡ true → at ≡ here now → symbol_value t ≡ of_size (at - s.address) (symbol_value s)
    → done number (Named use_.Size name) now ≡ Ok (record d { symbols = symbol_values (set symbols place t) })
size_seen number name d now symbols place s t at is shown found_at h e test place_is changes =
    let here_is : at ≡ here d = place_is ∙ ap here (sym is) in
    ap (done number (Named use_.Size name)) (sym is)
    ∙ size_done number name d place (symbol_value s) (ap (λ (u : DraftValue). symbol_place name u.symbols) is ∙ found_at) (seen name d now symbols place s is shown h e)
    (ap (λ (n : ℕ). section_number s.section == section_number d.section && nat_le s.address n) (sym here_is) ∙ test)
    ∙ ap (λ (n : ℕ). Ok (record d { symbols = set d.symbols place (of_size (n - s.address) (symbol_value s)) })) (sym here_is)
    ∙ ap (λ (ss : List ModSymbol). Ok (record d { symbols = ss }))
    (ap (λ (ss : List ModSymbol). set ss place (of_size (at - s.address) (symbol_value s))) shown ∙ ap (set (symbol_values symbols) place) (sym changes) ∙ sym (map-set symbol_value symbols place t))

pub size_seen_far : (number : ℕ) (name : List ℕ) (d now : DraftValue) (symbols : List Symbol) (place : ℕ) (s : Symbol) (at : ℕ) → d ≡ now → d.symbols ≡ symbol_values symbols
    → symbol_place name now.symbols ≡ Some place → place < length now.symbols → s ≡ get_or symbols place s
    → (section_number s.section == section_number d.section && nat_le s.address at) ≡ false → at ≡ here now
    → done number (Named use_.Size name) now ≡ Err (fault.At number rule.Range)
size_seen_far number name d now symbols place s at is shown found_at h e test place_is =
    let here_is : at ≡ here d = place_is ∙ ap here (sym is) in
    ap (done number (Named use_.Size name)) (sym is)
    ∙ size_far number name d place (symbol_value s) (ap (λ (u : DraftValue). symbol_place name u.symbols) is ∙ found_at) (seen name d now symbols place s is shown h e)
    (ap (λ (n : ℕ). section_number s.section == section_number d.section && nat_le s.address n) (sym here_is) ∙ test)

pub use_seen : (number : ℕ) (what : Use) (name : List ℕ) (d now : DraftValue) (symbols : List Symbol) (place : ℕ) (s : Symbol) → puts_nothing what ≡ false → IsSettled what name now → d ≡ now → d.symbols ≡ symbol_values symbols
    → symbol_place name now.symbols ≡ Some place → place < length now.symbols → s ≡ get_or symbols place s
    → done number (Named what name) now ≡ put number s.address (Named what name) now
use_seen number what name d now symbols place s n t is shown at h e =
    use_done number what name now place (symbol_value s) n t at (seen name d now symbols place s is shown h e ∙ ap (λ (u : DraftValue). get_or u.symbols place (symbol_value s)) is)

-- what a draft keeps, where a symbol changes that keeps its name
pub draft_stays : (sizes : SectionSizes) (labels : List LabelValue) (symbols : List Symbol) (count : ℕ) (place : ℕ) (s t : Symbol) → IsDraft sizes labels (symbol_values symbols)
    → s ≡ get_or symbols place s → place < count → count ≡ length (symbol_values symbols) → (symbol_value t).name ≡ (symbol_value s).name → IsDraft sizes labels (symbol_values (set symbols place t))
draft_stays sizes labels symbols count place s t kept e h long same = record {
  counted = kept.counted;
  named =
      ap symbol_names (map-set symbol_value symbols place t)
      ∙ names_stay (symbol_values symbols) place (symbol_value s) (symbol_value t) (value_at symbols place s (let l = length-map symbols symbol_value in omega arith) e) same
      ∙ kept.named;
}

blank_names : (form : Form) (sizes : SectionSizes) (labels : List LabelValue) → symbol_names (map (symbol_of form sizes) labels) ≡ label_names labels
blank_names form sizes [] = refl
blank_names form sizes (l ∷ ls) = ap (λ (names : List (List ℕ)). l.name ∷ names) (blank_names form sizes ls)

-- what the first draft keeps
pub blank_draft : (form : Form) (sizes : SectionSizes) (labels : List LabelValue) (symbols : List ModSymbol) → AreCounted sizes → symbols ≡ map (symbol_of form sizes) labels → IsDraft sizes labels symbols
blank_draft form sizes labels symbols counted e = record { counted = counted; named = ap symbol_names e ∙ blank_names form sizes labels }
