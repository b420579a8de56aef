-- A file from its parts.
use Rattle.std.proofs.Common.{◌≡◌, ◌++◌, ◌∙◌, ℕ, List, [], ◌∷◌, Result, Ok, Err, OnOk, ap, length, refl}
use Rattle.std.proofs.lemmas.List.{append_assoc}
use Rattle.std.specs.List.{flat_map}
use Rattle.elf_read.specs.declared.records.Segment.{Segment}
use Rattle.elf_write.specs.declared.layout.Bases.{Bases}
use Rattle.elf_write.specs.declared.layout.Layout.{Layout}
use Rattle.elf_write.specs.declared.layout.Plan.{Plan}
use Rattle.elf_write.specs.declared.layout.Sizes.{Sizes}
use Rattle.elf_write.specs.declared.module.Form.{Form}
use Rattle.elf_write.specs.Layout.{bases_in, layout_of, plan_of, sizes_with}
use Rattle.elf_write.specs.Modules.{ModuleValue}
use Rattle.elf_write.specs.Names.{section_names}
use Rattle.elf_write.specs.Parts.{locals, strings, symbol_table}
use Rattle.elf_write.specs.Places.{halves, words, xwords}
use Rattle.elf_write.specs.Records.{section_bytes}
use Rattle.elf_write.specs.Written.{front_bytes, if_segments, sections_in, segments_in, table_bytes, with_contents, with_tables, written_by}

-- a plan by its parts
abbrev plan_by : Form → Sizes → Layout → Bases → Plan
plan_by form sizes layout bases = record { form = form; sizes = sizes; layout = layout; bases = bases }

pub plan_is : (m : ModuleValue) (names : ℕ) (form : Form) (s : Sizes) (l : Layout) (b : Bases) → names ≡ length (strings m.symbols) → form ≡ m.form → s ≡ sizes_with m names → l ≡ layout_of form s → b ≡ bases_in form s.text s.rodata s.rwdata
    → plan_by form s l b ≡ plan_of m
unfolding sizes_with
plan_is m names form s l b n f e h i = rw (i, h, e, f, n) refl

pub written_is : (p : Plan) (m : ModuleValue) (segments : List Segment) (headers symbols names sections front contents out : List ℕ)
    → segments ≡ segments_in p
    → headers ≡ flat_map section_bytes (sections_in p (length (locals m.symbols)))
    → symbols ≡ symbol_table m.symbols
    → names ≡ strings m.symbols
    → sections ≡ section_names p.sizes
    → front ≡ front_bytes p m.entry segments
    → contents ≡ with_contents m p.layout front
    → out ≡ with_tables p.layout symbols names sections headers contents
    → out ≡ written_by p m
unfolding written_by
written_is p m segments headers symbols names sections front contents out s h y n k f c o = rw (o, c, f, s, h, y, n, k) refl

-- the rest of the header, step by step
pub tables_are : {X E : Type 0} (r : Result X E) (segments headers sections names place size : ℕ) (old one two out : List ℕ) → place ≡ if_segments segments 64 → size ≡ if_segments segments 56
    → one ≡ old ++ xwords (place ∷ headers ∷ [])
    → two ≡ one ++ words (0 ∷ [])
    → OnOk r (out ≡ two ++ halves (64 ∷ size ∷ segments ∷ 64 ∷ sections ∷ names ∷ []))
    → OnOk r (out ≡ old ++ table_bytes segments headers sections names)
tables_are (Err e) segments headers sections names place size old one two out p s a b h = tt
tables_are (Ok x) segments headers sections names place size old one two out p s a b h =
    let places = xwords (if_segments segments 64 ∷ headers ∷ []) in
    let counts = halves (64 ∷ if_segments segments 56 ∷ segments ∷ 64 ∷ sections ∷ names ∷ []) in
    h ∙ rw (b, a, p, s) (ap (λ (l : List ℕ). l ++ counts) (append_assoc old places (words (0 ∷ []))) ∙ append_assoc old (places ++ words (0 ∷ [])) counts)
