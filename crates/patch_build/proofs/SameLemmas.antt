-- What building does not look at.
use Rattle.std.proofs.Common.{◌≡◌, ℕ, ◌+◌, ◌%◌, ◌==◌, ◌&&◌, List, [], ◌∷◌, ◌++◌, Bool, not, Option, None, Some, Result, Ok, Err, refl, ap, ◌∙◌}
use Rattle.std.proofs.Math.Path.{fun_ext}
use Rattle.std.specs.Prelude.{if◌then◌else◌, nat_lt, slice_get, unwrap_or, ◌^◌}
use Rattle.std.specs.Bool.{then_some}
use Rattle.std.specs.Option.{option_map_or}
use Rattle.wf_outside.specs.declared.image.Jump.{Jump}
use Rattle.wf_outside.specs.Lists.{first_of}
use Rattle.wf_outside.specs.Pages.{page_of}
use Rattle.elf_read.specs.declared.records.Section.{Section}
use Rattle.elf_read.specs.Elf.{ElfValue}
use Rattle.elf_syms.specs.declared.found.Found.{Found}
use Rattle.elf_syms.specs.Names.{NamesValue, found_for}
use Rattle.elf_syms.specs.Telling.{told_of}
use Rattle.elf_link.specs.declared.fault.LinkFault.{LinkFault}
use Rattle.elf_link.specs.declared.fault.LinkFault.TheVariants.{Rule}
use Rattle.elf_link.specs.Applied.{all_applied, applied, applied_as, group_applied, put_at}
use Rattle.elf_link.specs.Links.{contents_of, link_of, place_of}
use Rattle.elf_link.specs.Symbols.{found_address, is_weak, symbol_address, symbol_name}
use Rattle.elf_link.specs.Values.{high_at, within, without_addend}
use Rattle.elf_fields.specs.declared.bounds.Bounds.TheVariants.{Pair}
use Rattle.elf_fields.specs.declared.formula.Formula.TheVariants.{Relative}
use Rattle.elf_fields.specs.declared.relocation.Relocation.{Relocation}
use Rattle.elf_fields.specs.declared.relocation.Relocation.TheVariants.{Nothing, Put, Paired}
use Rattle.elf_fields.specs.Formulas.{value_of}
use Rattle.elf_fields.specs.Relocations.{relocation_of}
use Rattle.elf_read.specs.declared.constants.TheConstants.{SHN_UNDEF, SHN_ABS}
use Rattle.elf_read.specs.declared.records.Rela.{Rela}
use Rattle.elf_read.specs.Relas.{RelaGroupValue, relocation_type, symbol_number}
use Rattle.patch_rules.specs.declared.links.LinkRule.{LinkRule}
use Rattle.patch_rules.specs.declared.links.LinkRule.TheVariants as link
use Rattle.elf_link.specs.Results.{and_then, or_told}
use Rattle.patch_file.specs.declared.patch.Replace.{Replace}
use Rattle.patch_file.specs.Patches.{PatchValue}
use Rattle.patch_rules.specs.declared.lines.LineRule.{LineRule}
use Rattle.patch_rules.specs.declared.lines.LineRule.TheVariants.{NoFunction, TooSmall, JumpReach, JumpsMeet}
use Rattle.patch_build.specs.declared.fault.BuildFault.{BuildFault}
use Rattle.patch_build.specs.declared.fault.BuildFault.TheVariants as build
use Rattle.patch_build.specs.declared.layout.Starts.{Starts}
use Rattle.patch_build.specs.declared.naming.Wanted.TheVariants.{Functions}
use Rattle.patch_build.specs.Areas.{AreaValue, BuiltValue}
use Rattle.patch_build.specs.Builds.{built_at, built_of, built_with, unless_fault}
use Rattle.patch_build.specs.Fits.{IsSameArea}
use Rattle.patch_build.specs.Jumps.{can_jump, has_jump, has_page, jump_from, jumps_behind, line_jump, line_refusal, meets_jump, one_of}
use Rattle.patch_build.specs.Laws.{BuildsAreSame}
use Rattle.patch_build.specs.Layout.{area_fault, places_of, starts_of}
use Rattle.patch_build.specs.Links.{LinkedValue, linked_as, linked_at, linked_from, linked_of, link_fault}
use Rattle.patch_build.specs.Names.{common_fault, names_of}
use Rattle.patch_build.specs.Sections.{is_loaded, section_fault}

-- symbols have the addresses that are found of names
same_symbol : (object : ElfValue) (places : List (Option ℕ)) (one other : NamesValue) (n k : ℕ) → found_for one ≡ found_for other
    → symbol_address (link_of object places one n) k ≡ symbol_address (link_of object places other n) k
same_symbol object places one other n k same =
    ap (λ (finds : List ℕ → Found).
    if k == 0 then Ok 0
    else option_map_or (λ s.
    if s.st_shndx == SHN_ABS then Ok s.st_value
    else if s.st_shndx == SHN_UNDEF
    then (if s.st_name.len == 0 then Err link.NoSymbol else found_address (is_weak s) (finds (symbol_name object.bytes s)))
    else option_map_or (λ place. Ok ((place + s.st_value) % 2 ^ 64)) (place_of places s.st_shndx) (Err link.NoSymbol))
    (slice_get object.symbols k) (Err link.NoSymbol)) same

-- so an entry does the same
same_as : (object : ElfValue) (places : List (Option ℕ)) (one other : NamesValue) (n : ℕ) (bytes : List ℕ) (r : Rela) (o : Option Relocation) → found_for one ≡ found_for other
    → applied_as (link_of object places one n) bytes r o ≡ applied_as (link_of object places other n) bytes r o
same_as object places one other n bytes r None same = refl
same_as object places one other n bytes r (Some Nothing) same = refl
same_as object places one other n bytes r (Some (Put formula field bounds)) same =
    ap (λ (address : ℕ → Result ℕ LinkRule). put_at field bytes r.r_offset
    (λ old. and_then (and_then (address (symbol_number r)) (λ symbol. Ok (value_of formula (record {
      symbol = symbol;
      addend = r.r_addend;
      place = unwrap_or (place_of places n) 0 + r.r_offset;
      old = old;
    })))) (within bounds)))
    (fun_ext (λ k. same_symbol object places one other n k same))
same_as object places one other n bytes r (Some (Paired field)) same =
    ap (λ (address : ℕ → Result ℕ LinkRule). put_at field bytes r.r_offset
    (λ old. and_then (and_then (address (symbol_number r)) (λ label.
    option_map_or (λ high. and_then (and_then (address (symbol_number high)) (λ symbol. Ok (value_of Relative (record {
      symbol = symbol;
      addend = high.r_addend;
      place = label;
      old = 0;
    })))) (without_addend r))
    (high_at (link_of object places one n) label) (Err link.NoPair))) (within Pair)))
    (fun_ext (λ k. same_symbol object places one other n k same))

same_applied : (object : ElfValue) (places : List (Option ℕ)) (one other : NamesValue) (n : ℕ) (bytes : List ℕ) (r : Rela) → found_for one ≡ found_for other
    → applied (link_of object places one n) bytes r ≡ applied (link_of object places other n) bytes r
unfolding applied
same_applied object places one other n bytes r same = same_as object places one other n bytes r (relocation_of (relocation_type r)) same

same_group : (object : ElfValue) (places : List (Option ℕ)) (one other : NamesValue) (n group index : ℕ) (bytes : List ℕ) (rs : List Rela) → found_for one ≡ found_for other
    → group_applied (link_of object places one n) group index bytes rs ≡ group_applied (link_of object places other n) group index bytes rs
same_group object places one other n group index bytes [] same = refl
same_group object places one other n group index bytes (r ∷ rs) same =
    ap (λ (o : Result (List ℕ) LinkRule). and_then (or_told (Rule group index) o) (λ next. group_applied (link_of object places one n) group (index + 1) next rs))
    (same_applied object places one other n bytes r same)
    ∙ ap (λ (rest : List ℕ → Result (List ℕ) LinkFault). and_then (or_told (Rule group index) (applied (link_of object places other n) bytes r)) rest)
    (fun_ext (λ next. same_group object places one other n group (index + 1) next rs same))

same_all : (object : ElfValue) (places : List (Option ℕ)) (one other : NamesValue) (n : ℕ) (bytes : List ℕ) (gs : List RelaGroupValue) → found_for one ≡ found_for other
    → all_applied (link_of object places one n) bytes gs ≡ all_applied (link_of object places other n) bytes gs
same_all object places one other n bytes [] same = refl
same_all object places one other n bytes (g ∷ gs) same =
    ap (λ (o : Result (List ℕ) LinkFault). and_then (if g.target == n then o else Ok bytes) (λ next. all_applied (link_of object places one n) next gs))
    (same_group object places one other n g.section 0 bytes g.relas same)
    ∙ ap (λ (rest : List ℕ → Result (List ℕ) LinkFault). and_then (if g.target == n then group_applied (link_of object places other n) g.section 0 bytes g.relas else Ok bytes) rest)
    (fun_ext (λ next. same_all object places one other n next gs same))

same_linked : (object : ElfValue) (places : List (Option ℕ)) (one other : NamesValue) (n : ℕ) (ss : List Section) → found_for one ≡ found_for other
    → linked_from object places one n ss ≡ linked_from object places other n ss
same_linked object places one other n [] same = refl
same_linked object places one other n (s ∷ ss) same =
    let here : linked_at object places one n s ≡ linked_at object places other n s =
    ap (λ (o : Result (List ℕ) LinkFault). if is_loaded s then linked_as o else record { bytes = []; fault = None })
    (same_all object places one other n (contents_of object n) object.relas same) in
    ap (λ (l : LinkedValue). l ∷ linked_from object places one (n + 1) ss) here
    ∙ ap (λ (ls : List LinkedValue). linked_at object places other n s ∷ ls) (same_linked object places one other (n + 1) ss same)

-- a line is refused alike in areas that are the same
same_refusal : (area over : AreaValue) (jumps : List Jump) (size from to : ℕ) → IsSameArea area over
    → line_refusal area jumps size from to ≡ line_refusal over jumps size from to
same_refusal area over jumps size from to same =
    ap (λ (t : Bool). first_of (then_some (nat_lt size 8) TooSmall
    ∷ then_some (not (t && (from % 4 == 0) && (to % 4 == 0))) NoFunction
    ∷ then_some (not (can_jump from to)) JumpReach
    ∷ then_some (meets_jump area.jumps jumps from) JumpsMeet
    ∷ [])) (same_text from)
    ∙ ap (λ (js : List ℕ). first_of (then_some (nat_lt size 8) TooSmall
    ∷ then_some (not (has_jump over.text from && (from % 4 == 0) && (to % 4 == 0))) NoFunction
    ∷ then_some (not (can_jump from to)) JumpReach
    ∷ then_some (meets_jump js jumps from) JumpsMeet
    ∷ [])) same.jumps
  where
    same_text : (at : ℕ) → has_jump area.text at ≡ has_jump over.text at
    same_text at =
        ap (λ (t : Bool). t && has_page area.text (at + 7)) (same.text (λ n. n == page_of at))
        ∙ ap (λ (t : Bool). has_page over.text at && t) (same.text (λ n. n == page_of (at + 7)))

-- and makes the same jump
same_line : (functions : List ℕ → Found) (one other : NamesValue) (area over : AreaValue) (jumps : List Jump) (r : Replace)
    → found_for one ≡ found_for other → IsSameArea area over
    → line_jump functions one area jumps r ≡ line_jump functions other over jumps r
same_line functions one other area over jumps r found same =
    ap (λ (finds : List ℕ → Found). and_then (one_of (functions r.new)) (λ new.
    and_then (one_of (finds r.old)) (λ old.
    option_map_or Err (line_refusal area jumps old.1 old.0 new.0) (Ok (jump_from old.0 new.0))))) found
    ∙ ap (λ (refusal : ℕ → ℕ → ℕ → Option LineRule). and_then (one_of (functions r.new)) (λ new.
    and_then (one_of (found_for other r.old)) (λ old.
    option_map_or Err (refusal old.1 old.0 new.0) (Ok (jump_from old.0 new.0)))))
    (fun_ext (λ size. fun_ext (λ from. fun_ext (λ to. same_refusal area over jumps size from to same))))

same_lines : (functions : List ℕ → Found) (one other : NamesValue) (area over : AreaValue) (jumps : List Jump) (rs : List Replace)
    → found_for one ≡ found_for other → IsSameArea area over
    → jumps_behind functions one area jumps rs ≡ jumps_behind functions other over jumps rs
same_lines functions one other area over jumps [] found same = refl
same_lines functions one other area over jumps (r ∷ rs) found same =
    ap (λ (o : Result Jump LineRule). and_then (or_told (build.Line r.line) o) (λ jump. jumps_behind functions one area (jumps ++ jump ∷ []) rs)) (same_line functions one other area over jumps r found same)
    ∙ ap (λ (rest : Jump → Result (List Jump) BuildFault). and_then (or_told (build.Line r.line) (line_jump functions other over jumps r)) rest)
    (fun_ext (λ jump. same_lines functions one other area over (jumps ++ jump ∷ []) rs found same))

same_at : (patch : PatchValue) (object : ElfValue) (one other : NamesValue) (area over : AreaValue) (starts : Starts) (places : List (Option ℕ))
    → found_for one ≡ found_for other → IsSameArea area over
    → built_at patch object one area starts places ≡ built_at patch object other over starts places
unfolding built_at
same_at patch object one other area over starts places found same =
    ap (λ (linked : List LinkedValue). and_then
    (jumps_behind (told_of (names_of Functions object places)) one area [] patch.replaces)
    (λ jumps. unless_fault (link_fault linked object.relas) (Ok (built_with object starts places linked jumps))))
    (same_linked object places one other 0 object.sections found)
    ∙ ap (λ (o : Result (List Jump) BuildFault). and_then o
    (λ jumps. unless_fault (link_fault (linked_of object places other) object.relas) (Ok (built_with object starts places (linked_of object places other) jumps))))
    (same_lines (told_of (names_of Functions object places)) one other area over [] patch.replaces found same)

pub same_builds : BuildsAreSame
unfolding built_of
same_builds patch object one other area over finds same =
    let found : found_for one ≡ found_for other = fun_ext finds in
    ap (λ (next : ℕ). unless_fault (section_fault 0 object.sections)
    (unless_fault (common_fault 0 object.symbols)
    (unless_fault (area_fault next object.sections)
    (built_at patch object one area (starts_of next object.sections) (places_of (starts_of next object.sections) object.sections))))) same.next
    ∙ ap (λ (r : Result BuiltValue BuildFault). unless_fault (section_fault 0 object.sections)
    (unless_fault (common_fault 0 object.symbols)
    (unless_fault (area_fault over.next object.sections) r)))
    (same_at patch object one other area over (starts_of over.next object.sections) (places_of (starts_of over.next object.sections) object.sections) found same)
