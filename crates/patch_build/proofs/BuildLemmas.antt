-- What is built, part by part.
use Rattle.std.proofs.Common.{◌≡◌, ℕ, List, [], ◌∷◌, ◌++◌, Option, None, Some, Result, Ok, Err, IfErr, IfOk, OnOk, refl, ap, sym, subst, ◌∙◌, inl, inr}
use Rattle.std.specs.Option.{option_map_or}
use Rattle.elf_link.specs.Results.{and_then, or_told}
use Rattle.elf_read.specs.Elf.{ElfValue}
use Rattle.elf_syms.specs.declared.found.Found.{Found}
use Rattle.elf_syms.specs.Names.{NamesValue, found_for}
use Rattle.elf_syms.specs.Telling.{told_of}
use Rattle.patch_file.specs.Patches.{PatchValue}
use Rattle.patch_file.specs.declared.patch.Replace.{Replace}
use Rattle.wf_outside.specs.declared.image.Jump.{Jump}
use Rattle.wf_outside.specs.declared.image.Name.{Name}
use Rattle.wf_outside.specs.Images.{DeltaValue}
use Rattle.elf_read.specs.declared.records.Section.{Section}
use Rattle.patch_build.specs.Pages.{delta_with}
use Rattle.patch_build.specs.declared.fault.BuildFault.{BuildFault}
use Rattle.patch_build.specs.declared.fault.BuildFault.TheVariants as build
use Rattle.patch_rules.specs.declared.lines.LineRule.{LineRule}
use Rattle.patch_build.specs.declared.layout.Starts.{Starts}
use Rattle.patch_build.specs.Areas.{AreaValue, BuiltValue}
use Rattle.patch_build.specs.Builds.{IsFault, IsFound, built_at, built_of, built_with, unless_fault}
use Rattle.patch_build.specs.Jumps.{jump_from, jumps_behind, line_jump, line_refusal, one_of}
use Rattle.patch_build.specs.Layout.{area_fault, places_of, starts_of}
use Rattle.patch_build.specs.Links.{LinkedValue, linked_of, link_fault}
use Rattle.patch_build.specs.Names.{common_fault, names_of}
use Rattle.patch_build.specs.declared.naming.Wanted.TheVariants.{Every, Functions}
use Rattle.patch_build.specs.Sections.{section_fault}

-- lines make the same jumps where the same functions are found
line-same : (f g : List ℕ → Found) (names : NamesValue) (area : AreaValue) (jumps : List Jump) (r : Replace)
    → ((name : List ℕ) → f name ≡ g name) → line_jump f names area jumps r ≡ line_jump g names area jumps r
line-same f g names area jumps r same =
    ap (λ (x : Found). and_then (one_of x) (λ new.
    and_then (one_of (found_for names r.old)) (λ old.
    option_map_or Err (line_refusal area jumps old.1 old.0 new.0) (Ok (jump_from old.0 new.0)))))
    (same r.new)

pub jumps-same : (f g : List ℕ → Found) (names : NamesValue) (area : AreaValue) (jumps : List Jump) (rs : List Replace)
    → ((name : List ℕ) → f name ≡ g name) → jumps_behind f names area jumps rs ≡ jumps_behind g names area jumps rs
jumps-same f g names area jumps [] same = refl
jumps-same f g names area jumps (r ∷ rs) same =
    ap (λ (o : Result Jump LineRule). and_then (or_told (build.Line r.line) o) (λ jump. jumps_behind f names area (jumps ++ jump ∷ []) rs)) (line-same f g names area jumps r same)
    ∙ by_line (line_jump g names area jumps r) (λ jump. jumps-same f g names area (jumps ++ jump ∷ []) rs same)
  where
    by_line : (o : Result Jump LineRule)
        → ((jump : Jump) → jumps_behind f names area (jumps ++ jump ∷ []) rs ≡ jumps_behind g names area (jumps ++ jump ∷ []) rs)
        → and_then (or_told (build.Line r.line) o) (λ jump. jumps_behind f names area (jumps ++ jump ∷ []) rs)
        ≡ and_then (or_told (build.Line r.line) o) (λ jump. jumps_behind g names area (jumps ++ jump ∷ []) rs)
    by_line (Ok jump) rest = rest jump
    by_line (Err rule) rest = refl

unless-none : {A : Type 0} (o : Option BuildFault) (r : Result A BuildFault) → o ≡ None → unless_fault o r ≡ r
unless-none None r e = refl
unless-none (Some fault) r e = absurd (cc)

unless-some : {A : Type 0} (o : Option BuildFault) (r : Result A BuildFault) (fault : BuildFault) → o ≡ Some fault → unless_fault o r ≡ Err fault
unless-some None r fault e = absurd (cc)
unless-some (Some other) r fault e = cc

-- what stands before the lines is in order
pub record IsInOrder (object : ElfValue) (area : AreaValue) : Type 0 where
  pub sections : section_fault 0 object.sections ≡ None
  pub symbols : common_fault 0 object.symbols ≡ None
  pub pages : area_fault area.next object.sections ≡ None

-- then the lines decide
reached : (patch : PatchValue) (object : ElfValue) (names : NamesValue) (area : AreaValue) → IsInOrder object area
    → built_of patch object names area ≡ built_at patch object names area (starts_of area.next object.sections) (places_of (starts_of area.next object.sections) object.sections)
unfolding built_of
reached patch object names area order =
    unless-none _ _ order.sections ∙ unless-none _ _ order.symbols ∙ unless-none _ _ order.pages

pub in_sections : (patch : PatchValue) (object : ElfValue) (names : NamesValue) (area : AreaValue) (fault : BuildFault)
    → section_fault 0 object.sections ≡ Some fault → IsFault (built_of patch object names area) fault
unfolding built_of
in_sections patch object names area fault e = inr (unless-some _ _ fault e)

pub in_symbols : (patch : PatchValue) (object : ElfValue) (names : NamesValue) (area : AreaValue) (fault : BuildFault)
    → section_fault 0 object.sections ≡ None → common_fault 0 object.symbols ≡ Some fault → IsFault (built_of patch object names area) fault
unfolding built_of
in_symbols patch object names area fault s e = inr (unless-none _ _ s ∙ unless-some _ _ fault e)

pub in_area : (patch : PatchValue) (object : ElfValue) (names : NamesValue) (area : AreaValue) (fault : BuildFault)
    → section_fault 0 object.sections ≡ None → common_fault 0 object.symbols ≡ None → area_fault area.next object.sections ≡ Some fault
    → IsFault (built_of patch object names area) fault
unfolding built_of
in_area patch object names area fault s y e = inr (unless-none _ _ s ∙ unless-none _ _ y ∙ unless-some _ _ fault e)

-- the lines and then the relocations decide
pub record IsReady (patch : PatchValue) (object : ElfValue) (names : NamesValue) (area : AreaValue) (starts : Starts) (places : List (Option ℕ)) : Type 0 where
  pub order : IsInOrder object area
  pub begun : starts ≡ starts_of area.next object.sections
  pub placed : places ≡ places_of starts object.sections

at_places : (patch : PatchValue) (object : ElfValue) (names : NamesValue) (area : AreaValue) (starts : Starts) (places : List (Option ℕ))
    → IsReady patch object names area starts places → built_of patch object names area ≡ built_at patch object names area starts places
at_places patch object names area starts places ready =
    reached patch object names area ready.order
    ∙ ap (λ (s : Starts). built_at patch object names area s (places_of s object.sections)) (sym ready.begun)
    ∙ ap (λ (p : List (Option ℕ)). built_at patch object names area starts p) (sym ready.placed)

lines_first : (patch : PatchValue) (object : ElfValue) (names : NamesValue) (area : AreaValue) (starts : Starts) (places : List (Option ℕ)) (fault : BuildFault)
    → jumps_behind (told_of (names_of Functions object places)) names area [] patch.replaces ≡ Err fault → built_at patch object names area starts places ≡ Err fault
unfolding built_at
lines_first patch object names area starts places fault e =
    ap (λ (r : Result (List Jump) BuildFault). and_then r (λ jumps. unless_fault (link_fault (linked_of object places names) object.relas)
    (Ok (built_with object starts places (linked_of object places names) jumps)))) e

links_then : (patch : PatchValue) (object : ElfValue) (names : NamesValue) (area : AreaValue) (starts : Starts) (places : List (Option ℕ)) (jumps : List Jump)
    → jumps_behind (told_of (names_of Functions object places)) names area [] patch.replaces ≡ Ok jumps
    → built_at patch object names area starts places
    ≡ unless_fault (link_fault (linked_of object places names) object.relas) (Ok (built_with object starts places (linked_of object places names) jumps))
unfolding built_at
links_then patch object names area starts places jumps e =
    ap (λ (r : Result (List Jump) BuildFault). and_then r (λ js. unless_fault (link_fault (linked_of object places names) object.relas)
    (Ok (built_with object starts places (linked_of object places names) js)))) e

pub in_lines : (patch : PatchValue) (object : ElfValue) (names : NamesValue) (area : AreaValue) (starts : Starts) (places : List (Option ℕ)) (fault : BuildFault)
    → IsReady patch object names area starts places
    → IsFault (jumps_behind (told_of (names_of Functions object places)) names area [] patch.replaces) fault
    → IsFault (built_of patch object names area) fault
in_lines patch object names area starts places fault ready (inl memory) = inl memory
in_lines patch object names area starts places fault ready (inr e) =
    inr (at_places patch object names area starts places ready ∙ lines_first patch object names area starts places fault e)

pub in_links : (patch : PatchValue) (object : ElfValue) (names : NamesValue) (area : AreaValue) (starts : Starts) (places : List (Option ℕ)) (jumps : List Jump) (fault : BuildFault)
    → IsReady patch object names area starts places
    → jumps_behind (told_of (names_of Functions object places)) names area [] patch.replaces ≡ Ok jumps
    → IsFound (link_fault (linked_of object places names) object.relas) fault
    → IsFault (built_of patch object names area) fault
in_links patch object names area starts places jumps fault ready made (inl memory) = inl memory
in_links patch object names area starts places jumps fault ready made (inr e) =
    inr (at_places patch object names area starts places ready ∙ links_then patch object names area starts places jumps made ∙ unless-some _ _ fault e)

pub all_built : (patch : PatchValue) (object : ElfValue) (names : NamesValue) (area : AreaValue) (starts : Starts) (places : List (Option ℕ)) (jumps : List Jump) (built : BuiltValue)
    → IsReady patch object names area starts places
    → jumps_behind (told_of (names_of Functions object places)) names area [] patch.replaces ≡ Ok jumps
    → link_fault (linked_of object places names) object.relas ≡ None
    → built ≡ built_with object starts places (linked_of object places names) jumps
    → built_of patch object names area ≡ Ok built
all_built patch object names area starts places jumps built ready made links e =
    at_places patch object names area starts places ready ∙ links_then patch object names area starts places jumps made ∙ unless-none _ _ links ∙ ap Ok (sym e)

-- an error that is handed on
pub err_is : {A : Type 0} (r : Result A BuildFault) (P : BuildFault → Type 0) (fault : BuildFault) → r ≡ Err fault → P fault → IfErr r P
err_is {A = A} r P fault e p = subst (λ (x : Result A BuildFault). IfErr x P) (sym e) p

pub fault-same : {A : Type 0} (r : Result A BuildFault) (f g : List ℕ → Found) (names : NamesValue) (area : AreaValue) (rs qs : List Replace)
    → ((name : List ℕ) → f name ≡ g name) → rs ≡ qs → IfErr r (IsFault (jumps_behind f names area [] rs)) → IfErr r (IsFault (jumps_behind g names area [] qs))
fault-same r f g names area rs qs same e h =
    subst (λ (x : Result (List Jump) BuildFault). IfErr r (IsFault x)) (jumps-same f g names area [] rs same ∙ ap (λ (l : List Replace). jumps_behind g names area [] l) e) h

pub built_with-is : (object : ElfValue) (starts : Starts) (places : List (Option ℕ)) (linked : List LinkedValue) (jumps : List Jump) (delta : DeltaValue) (names : List Name)
    → delta ≡ delta_with starts object.sections linked jumps → names ≡ names_of Every object places
    → (let r : BuiltValue = record { delta = delta; names = names; next = starts.end } in r ≡ built_with object starts places linked jumps)
unfolding built_with
built_with-is object starts places linked jumps delta names d n =
    ap (λ (x : DeltaValue). let r : BuiltValue = record { delta = x; names = names; next = starts.end } in r) d
    ∙ ap (λ (y : List Name). let r : BuiltValue = record { delta = delta_with starts object.sections linked jumps; names = y; next = starts.end } in r) n

pub delta-same : (starts : Starts) (ss ts : List Section) (ks ls : List LinkedValue) (jumps : List Jump) → ss ≡ ts → ks ≡ ls → delta_with starts ss ks jumps ≡ delta_with starts ts ls jumps
delta-same starts ss ts ks ls jumps e f =
    ap (λ (x : List Section). delta_with starts x ks jumps) e ∙ ap (λ (y : List LinkedValue). delta_with starts ts y jumps) f

pub built_from : (patch : PatchValue) (object : ElfValue) (names : NamesValue) (area : AreaValue) (starts : Starts) (places : List (Option ℕ)) (jumps : List Jump) (r : Result BuiltValue BuildFault)
    → IsReady patch object names area starts places
    → jumps_behind (told_of (names_of Functions object places)) names area [] patch.replaces ≡ Ok jumps
    → OnOk r (link_fault (linked_of object places names) object.relas ≡ None)
    → IfOk r (λ built. built ≡ built_with object starts places (linked_of object places names) jumps)
    → IfOk r (λ built. built_of patch object names area ≡ Ok built)
built_from patch object names area starts places jumps (Ok built) ready made links is = all_built patch object names area starts places jumps built ready made links is
built_from patch object names area starts places jumps (Err fault) ready made links is = tt

pub failed_from : (patch : PatchValue) (object : ElfValue) (names : NamesValue) (area : AreaValue) (starts : Starts) (places : List (Option ℕ)) (jumps : List Jump) (r : Result BuiltValue BuildFault)
    → IsReady patch object names area starts places
    → jumps_behind (told_of (names_of Functions object places)) names area [] patch.replaces ≡ Ok jumps
    → IfErr r (IsFound (link_fault (linked_of object places names) object.relas))
    → IfErr r (IsFault (built_of patch object names area))
failed_from patch object names area starts places jumps (Ok built) ready made found = tt
failed_from patch object names area starts places jumps (Err fault) ready made found = in_links patch object names area starts places jumps fault ready made found
