-- What the lines of a patch's file make: a jump over the first bytes of each function that is
-- replaced, or why there is none.
use Rattle.std.specs.Prelude.{◌≡◌, ℕ, ◌+◌, ◌%◌, ◌==◌, ◌&&◌, ◌||◌, Bool, not, List, [], ◌∷◌, ◌++◌, Option, Result, Ok, Err, map, nat_lt}
use Rattle.std.specs.Bool.{then_some}
use Rattle.std.specs.List.{list_any}
use Rattle.std.specs.Option.{option_map_or}
use Rattle.wf_outside.specs.declared.image.Jump.{Jump}
use Rattle.wf_outside.specs.Lists.{first_of}
use Rattle.wf_outside.specs.Pages.{page_of}
use Rattle.rv_encode.specs.Jumps.{distance, jump_bytes}
use Rattle.elf_fields.specs.Bounds.{reaches}
use Rattle.elf_fields.specs.declared.bounds.Bounds.TheVariants.{Pair}
use Rattle.elf_syms.specs.declared.found.Found.{Found}
use Rattle.elf_syms.specs.declared.found.Found.TheVariants as found
use Rattle.elf_syms.specs.Names.{NamesValue, found_for}
use Rattle.elf_link.specs.Results.{and_then, or_told}
use Rattle.patch_file.specs.declared.patch.Replace.{Replace}
use Rattle.patch_build.specs.declared.constants.TheConstants.{JUMP_SIZE}
use Rattle.patch_build.specs.declared.fault.BuildFault.{BuildFault}
use Rattle.patch_build.specs.declared.fault.BuildFault.TheVariants as build
use Rattle.patch_rules.specs.declared.lines.LineRule.{LineRule}
use Rattle.patch_rules.specs.declared.lines.LineRule.TheVariants.{NoFunction, Several, TooSmall, JumpReach, JumpsMeet}
use Rattle.patch_build.specs.Areas.{AreaValue}

-- the one address, and the size, of what is found of a name
abbrev pub one_of : Found → Result (ℕ × ℕ) LineRule
one_of found.None = Err NoFunction
one_of found.Several = Err Several
one_of (found.One addr size) = Ok (addr, size)

-- the page of an address is one of these
abbrev pub has_page : List ℕ → ℕ → Bool
has_page pages at = list_any (λ n. n == page_of at) pages

-- a jump at an address stands in these pages: both its first byte and its last, since it is not
-- longer than a page
abbrev pub has_jump : List ℕ → ℕ → Bool
has_jump pages at = has_page pages at && has_page pages (at + 7)

-- the eight bytes at one address and those at another share some
abbrev pub overlap : ℕ → ℕ → Bool
overlap a b = nat_lt a (b + JUMP_SIZE) && nat_lt b (a + JUMP_SIZE)

-- a jump at an address meets one of these, of the patch itself; or it meets one of an earlier
-- patch that does not begin at the same byte
abbrev pub meets_jump : List ℕ → List Jump → ℕ → Bool
meets_jump earlier jumps at =
    list_any (λ jump. overlap at jump.at) jumps
    || list_any (λ other. overlap at other && not (other == at)) earlier

-- a jump can lead from one address to another: this is even, and not too far
abbrev pub can_jump : ℕ → ℕ → Bool
can_jump from to = (to % 2 == 0) && reaches Pair (distance from to)

-- why a function of this size at an address can't be replaced by one at another
abbrev pub line_refusal : AreaValue → List Jump → ℕ → ℕ → ℕ → Option LineRule
line_refusal area jumps size from to = first_of (
    then_some (nat_lt size JUMP_SIZE) TooSmall
    ∷ then_some (not (has_jump area.text from && (from % 4 == 0) && (to % 4 == 0))) NoFunction
    ∷ then_some (not (can_jump from to)) JumpReach
    ∷ then_some (meets_jump area.jumps jumps from) JumpsMeet
    ∷ [])

-- the jump from one address to another
abbrev pub jump_from : ℕ → ℕ → Jump
jump_from from to = record { at = from; bytes = jump_bytes from to }

-- the jump that a line makes behind these, or why there is none: what takes the place is found
-- among the functions of the object, what is replaced among the names of the image and of the
-- patches before
abbrev pub line_jump : (List ℕ → Found) → NamesValue → AreaValue → List Jump → Replace
    → Result Jump LineRule
line_jump functions names area jumps r =
    and_then (one_of (functions r.new)) (λ new.
    and_then (one_of (found_for names r.old)) (λ old.
    option_map_or Err (line_refusal area jumps old.1 old.0 new.0) (Ok (jump_from old.0 new.0))))

-- the jumps of lines behind these, or the first line that makes none
abbrev pub jumps_behind : (List ℕ → Found) → NamesValue → AreaValue → List Jump → List Replace
    → Result (List Jump) BuildFault
jumps_behind functions names area jumps [] = Ok jumps
jumps_behind functions names area jumps (r ∷ rs) =
    and_then (or_told (build.Line r.line) (line_jump functions names area jumps r))
    (λ jump. jumps_behind functions names area (jumps ++ jump ∷ []) rs)

-- the same tests pass on some address of the one list and of the other
abbrev pub HasSame : List ℕ → List ℕ → Type 0
HasSame xs ys = (test : ℕ → Bool) → list_any test xs ≡ list_any test ys

-- the addresses of jumps
abbrev pub addresses_of : List Jump → List ℕ
addresses_of jumps = map (λ jump. jump.at) jumps
