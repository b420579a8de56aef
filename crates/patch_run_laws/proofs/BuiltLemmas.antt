-- The jumps of a patch that was built are those of its lines.
use Rattle.std.proofs.Common.{◌≡◌, ◌+◌, ◌%◌, ◌==◌, ◌&&◌, ℕ, ℤ, List, [], ◌∷◌, ◌++◌, Bool, true, false, not, Option, None, Some, Result, Ok, Err, refl, ap, subst, arith}
use Rattle.std.proofs.lemmas.Bool.{and_parts}
use Rattle.std.proofs.lemmas.Bool.Decides.{nat_tests}
use Rattle.std.proofs.lemmas.Int.{ints}
use Rattle.std.specs.Bool.{then_some}
use Rattle.std.specs.List.{AllByRecursion}
use Rattle.std.specs.Option.{option_map_or}
use Rattle.wf_outside.specs.declared.image.Jump.{Jump}
use Rattle.wf_outside.specs.Images.{DeltaValue}
use Rattle.wf_outside.specs.Lists.{first_of}
use Rattle.wf_flat.proofs.ListLemmas.{all_append}
use Rattle.rv_encode.specs.Jumps.{CanJump, IsInReach, distance}
use Rattle.elf_fields.specs.Bounds.{reaches}
use Rattle.elf_fields.specs.declared.bounds.Bounds.TheVariants.{Pair}
use Rattle.elf_read.specs.Elf.{ElfValue}
use Rattle.elf_syms.specs.declared.found.Found.{Found}
use Rattle.elf_syms.specs.Names.{NamesValue, found_for}
use Rattle.elf_syms.specs.Telling.{told_of}
use Rattle.elf_link.specs.Results.{and_then, or_told}
use Rattle.patch_file.specs.declared.patch.Replace.{Replace}
use Rattle.patch_file.specs.Patches.{PatchValue}
use Rattle.patch_rules.specs.declared.lines.LineRule.{LineRule}
use Rattle.patch_build.specs.declared.fault.BuildFault.{BuildFault}
use Rattle.patch_build.specs.declared.fault.BuildFault.TheVariants as build
use Rattle.patch_build.specs.declared.layout.Starts.{Starts}
use Rattle.patch_build.specs.declared.naming.Wanted.TheVariants.{Functions}
use Rattle.patch_build.specs.Areas.{AreaValue, BuiltValue}
use Rattle.patch_build.specs.Builds.{built_at, built_of, built_with, unless_fault}
use Rattle.patch_build.specs.Jumps.{can_jump, has_jump, jump_from, jumps_behind, line_jump, line_refusal, meets_jump, one_of}
use Rattle.patch_build.specs.Layout.{area_fault, places_of, starts_of}
use Rattle.patch_build.specs.Links.{LinkedValue, linked_of, link_fault}
use Rattle.patch_build.specs.Names.{common_fault, names_of}
use Rattle.patch_build.specs.Sections.{section_fault}
use Rattle.wf_status.specs.declared.status.Status.{Status}
use Rattle.wf_fetch.specs.Stages.{◌>>=◌}
use Rattle.wf_patches.specs.Bases.{BaseValue, base_over, base_with}
use Rattle.wf_patches.specs.Stages.{fault_status, file_stage, object_stage, patch_stage, patches_from, patches_stage}
use Rattle.patch_run_laws.specs.Built.{BuiltPatchesHaveBuiltJumps, FilesBringBuiltJumps, IsBuilt, IsBuiltJump}

-- a line that is not refused
four_none : {A : Type 0} (a b c d : Bool) (w x y z : A) → first_of (then_some a w ∷ then_some b x ∷ then_some c y ∷ then_some d z ∷ []) ≡ None → (b ≡ false) × (c ≡ false)
four_none true b c d w x y z e = absurd (cc)
four_none false true c d w x y z e = absurd (cc)
four_none false false true d w x y z e = absurd (cc)
four_none false false false d w x y z e = (refl, refl)

not_false : (b : Bool) → not b ≡ false → b ≡ true
not_false true e = refl
not_false false e = absurd (cc)

even_from : (at : ℕ) → (at % 4 == 0) ≡ true → at % 4 ≡ 0
even_from at e = grind (arith, nat_tests)

target_even : (to : ℕ) → (to % 2 == 0) ≡ true → to % 2 ≡ 0
target_even to e = grind (arith, nat_tests)

in_reach : (v : ℤ) → reaches Pair v ≡ true → IsInReach v
in_reach v e = grind (arith, ints)

can_jump_from : (from to : ℕ) → can_jump from to ≡ true → CanJump from to
can_jump_from from to e =
    let h = and_parts (to % 2 == 0) (reaches Pair (distance from to)) e in
    (target_even to h.0, in_reach (distance from to) h.1)

from_line : (area : AreaValue) (jumps : List Jump) (size from to : ℕ) → line_refusal area jumps size from to ≡ None → IsBuiltJump (jump_from from to)
from_line area jumps size from to none =
    let h = four_none _ (not (has_jump area.text from && (from % 4 == 0) && (to % 4 == 0))) (not (can_jump from to)) (meets_jump area.jumps jumps from) _ _ _ _ none in
    let k = and_parts (has_jump area.text from && (from % 4 == 0)) (to % 4 == 0) (not_false _ h.0) in
    record {
      even = even_from from (and_parts (has_jump area.text from) (from % 4 == 0) k.0).1;
      to = to;
      reach = can_jump_from from to (not_false _ h.1);
      bytes = refl;
    }

line_built : (functions : List ℕ → Found) (names : NamesValue) (area : AreaValue) (jumps : List Jump) (r : Replace) (jump : Jump) → line_jump functions names area jumps r ≡ Ok jump → IsBuiltJump jump
line_built functions names area jumps r jump e = by_new (one_of (functions r.new)) e
  where
    by_refusal : (size from to : ℕ) (o : Option LineRule) → line_refusal area jumps size from to ≡ o → option_map_or Err o (Ok (jump_from from to)) ≡ Ok jump → IsBuiltJump jump
    by_refusal size from to None is e =
        let same : jump_from from to ≡ jump = cc in
        subst IsBuiltJump same (from_line area jumps size from to is)
    by_refusal size from to (Some rule) is e = absurd (cc)

    by_old : (new : ℕ × ℕ) (old : Result (ℕ × ℕ) LineRule)
        → and_then old (λ old. option_map_or Err (line_refusal area jumps old.1 old.0 new.0) (Ok (jump_from old.0 new.0))) ≡ Ok jump → IsBuiltJump jump
    by_old new (Ok old) e = by_refusal old.1 old.0 new.0 (line_refusal area jumps old.1 old.0 new.0) refl e
    by_old new (Err rule) e = absurd (cc)

    by_new : (new : Result (ℕ × ℕ) LineRule)
        → and_then new (λ new. and_then (one_of (found_for names r.old)) (λ old.
        option_map_or Err (line_refusal area jumps old.1 old.0 new.0) (Ok (jump_from old.0 new.0)))) ≡ Ok jump
        → IsBuiltJump jump
    by_new (Ok new) e = by_old new (one_of (found_for names r.old)) e
    by_new (Err rule) e = absurd (cc)

lines_built : (functions : List ℕ → Found) (names : NamesValue) (area : AreaValue) (jumps : List Jump) (rs : List Replace) (all : List Jump)
    → AllByRecursion IsBuiltJump jumps → jumps_behind functions names area jumps rs ≡ Ok all → AllByRecursion IsBuiltJump all
lines_built functions names area jumps [] all so e =
    let same : jumps ≡ all = cc in subst (λ (js : List Jump). AllByRecursion IsBuiltJump js) same so
lines_built functions names area jumps (r ∷ rs) all so e =
    by_line (λ more now. lines_built functions names area more rs all now) (line_jump functions names area jumps r) refl e
  where
    by_line : ((more : List Jump) → AllByRecursion IsBuiltJump more → jumps_behind functions names area more rs ≡ Ok all → AllByRecursion IsBuiltJump all)
        → (o : Result Jump LineRule) → line_jump functions names area jumps r ≡ o
        → and_then (or_told (build.Line r.line) o) (λ jump. jumps_behind functions names area (jumps ++ jump ∷ []) rs) ≡ Ok all
        → AllByRecursion IsBuiltJump all
    by_line go (Ok jump) is e = go (jumps ++ jump ∷ []) (all_append IsBuiltJump jumps (jump ∷ []) so (line_built functions names area jumps r jump is, tt)) e
    by_line go (Err rule) is e = absurd (cc)

-- what is built brings these
with_jumps : (object : ElfValue) (starts : Starts) (places : List (Option ℕ)) (linked : List LinkedValue) (jumps : List Jump)
    → AllByRecursion IsBuiltJump jumps → AllByRecursion IsBuiltJump (built_with object starts places linked jumps).delta.jumps
unfolding built_with
with_jumps object starts places linked jumps so = so

at_built : (patch : PatchValue) (object : ElfValue) (names : NamesValue) (area : AreaValue) (starts : Starts) (places : List (Option ℕ)) (built : BuiltValue)
    → built_at patch object names area starts places ≡ Ok built → AllByRecursion IsBuiltJump built.delta.jumps
unfolding built_at
at_built patch object names area starts places built e = by_jumps (jumps_behind (told_of (names_of Functions object places)) names area [] patch.replaces) refl e
  where
    by_links : (jumps : List Jump) → AllByRecursion IsBuiltJump jumps → (o : Option BuildFault)
        → unless_fault o (Ok (built_with object starts places (linked_of object places names) jumps)) ≡ Ok built → AllByRecursion IsBuiltJump built.delta.jumps
    by_links jumps so None e =
        let same : built_with object starts places (linked_of object places names) jumps ≡ built = cc in
        subst (λ (b : BuiltValue). AllByRecursion IsBuiltJump b.delta.jumps) same (with_jumps object starts places (linked_of object places names) jumps so)
    by_links jumps so (Some fault) e = absurd (cc)

    by_jumps : (o : Result (List Jump) BuildFault) → jumps_behind (told_of (names_of Functions object places)) names area [] patch.replaces ≡ o
        → and_then o (λ jumps. unless_fault (link_fault (linked_of object places names) object.relas) (Ok (built_with object starts places (linked_of object places names) jumps))) ≡ Ok built
        → AllByRecursion IsBuiltJump built.delta.jumps
    by_jumps (Ok jumps) is e =
        by_links jumps (lines_built (told_of (names_of Functions object places)) names area [] patch.replaces jumps tt is) (link_fault (linked_of object places names) object.relas) e
    by_jumps (Err fault) is e = absurd (cc)

unless_ok : {A : Type 0} (o : Option BuildFault) (r : Result A BuildFault) (x : A) → unless_fault o r ≡ Ok x → r ≡ Ok x
unless_ok None r x e = e
unless_ok (Some fault) r x e = absurd (cc)

jumps_built : (patch : PatchValue) (object : ElfValue) (names : NamesValue) (area : AreaValue) (built : BuiltValue) → built_of patch object names area ≡ Ok built → AllByRecursion IsBuiltJump built.delta.jumps
unfolding built_of
jumps_built patch object names area built e =
    let sections = unless_ok (section_fault 0 object.sections) _ built e in
    let symbols = unless_ok (common_fault 0 object.symbols) _ built sections in
    let pages = unless_ok (area_fault area.next object.sections) _ built symbols in
    at_built patch object names area (starts_of area.next object.sections) (places_of (starts_of area.next object.sections) object.sections) built pages

pub all_built : BuiltPatchesHaveBuiltJumps
all_built [] all = tt
all_built (delta ∷ deltas) all = (
  subst (λ (d : DeltaValue). AllByRecursion IsBuiltJump d.jumps) all.0.brings (jumps_built all.0.patch all.0.object all.0.names all.0.area all.0.built all.0.is),
  all_built deltas all.1,
)

-- and so of the patches that files mean
module _ (held : List ℕ → Option (List ℕ)) where
  built_by : (patch : ℕ) (base : BaseValue) (file : PatchValue) (object : ElfValue) (built : BuiltValue) (r : Result BuiltValue BuildFault) → built_of file object base.names base.area ≡ r → or_told (fault_status patch) r ≡ Ok built → IsBuilt built.delta
  built_by patch base file object built (Ok other) is e =
      let same : other ≡ built = cc in
      record { patch = file; object = object; names = base.names; area = base.area; built = other; is = is; brings = ap (λ (b : BuiltValue). b.delta) same }
  built_by patch base file object built (Err fault) is e = absurd (cc)

  stage_built : (patch : ℕ) (base : BaseValue) (name : List ℕ) (built : BuiltValue) → patch_stage held patch base name ≡ Ok built → IsBuilt built.delta
  unfolding patch_stage
  stage_built patch base name built e = by_file (file_stage patch (held name)) e
    where
      by_object : (file : PatchValue) (o : Result ElfValue Status) → (o >>= (λ object. or_told (fault_status patch) (built_of file object base.names base.area))) ≡ Ok built → IsBuilt built.delta
      by_object file (Ok object) e = built_by patch base file object built (built_of file object base.names base.area) refl e
      by_object file (Err status) e = absurd (cc)

      by_file : (o : Result PatchValue Status) → (o >>= (λ file. object_stage patch (held file.object) >>= (λ object. or_told (fault_status patch) (built_of file object base.names base.area)))) ≡ Ok built → IsBuilt built.delta
      by_file (Ok file) e = by_object file (object_stage patch (held file.object)) e
      by_file (Err status) e = absurd (cc)

  from_built : (patch : ℕ) (base : BaseValue) (names : List (List ℕ)) (deltas : List DeltaValue) → patches_from held patch base names ≡ Ok deltas → AllByRecursion IsBuilt deltas
  from_built patch base [] deltas e = (let same : [] ≡ deltas = cc in subst (AllByRecursion IsBuilt) same tt)
  from_built patch base (name ∷ names) deltas e = by_stage (λ built rest is. from_built (patch + 1) (base_with base built) names rest is) (patch_stage held patch base name) refl e
    where
      by_rest : (built : BuiltValue) → IsBuilt built.delta → ((rest : List DeltaValue) → patches_from held (patch + 1) (base_with base built) names ≡ Ok rest → AllByRecursion IsBuilt rest)
          → (o : Result (List DeltaValue) Status) → patches_from held (patch + 1) (base_with base built) names ≡ o → (o >>= (λ rest. Ok (built.delta ∷ rest))) ≡ Ok deltas → AllByRecursion IsBuilt deltas
      by_rest built one go (Ok rest) is e = (let same : built.delta ∷ rest ≡ deltas = cc in subst (AllByRecursion IsBuilt) same (one, go rest is))
      by_rest built one go (Err status) is e = absurd (cc)

      by_stage : ((built : BuiltValue) (rest : List DeltaValue) → patches_from held (patch + 1) (base_with base built) names ≡ Ok rest → AllByRecursion IsBuilt rest)
          → (o : Result BuiltValue Status) → patch_stage held patch base name ≡ o → (o >>= (λ built. patches_from held (patch + 1) (base_with base built) names >>= (λ rest. Ok (built.delta ∷ rest)))) ≡ Ok deltas → AllByRecursion IsBuilt deltas
      by_stage go (Ok built) is e = by_rest built (stage_built patch base name built is) (go built) (patches_from held (patch + 1) (base_with base built) names) refl e
      by_stage go (Err status) is e = absurd (cc)

pub files_built : FilesBringBuiltJumps
unfolding patches_stage
files_built held image names deltas e = all_built deltas (from_built held 0 (base_over image) names deltas e)
