-- The header of a file that is written.
use Rattle.std.proofs.Common.{◌≡◌, ◌≤◌, ◌<◌, ◌+◌, ◌*◌, ◌^◌, ◌++◌, ℕ, List, [], ◌∷◌, length, refl, arith}
use Rattle.std.proofs.lemmas.Bool.Decides.{nat_tests}
use Rattle.std.proofs.lemmas.List.{length-append}
use Rattle.std.specs.List.{flat_map}
use Rattle.elf_read.specs.declared.records.Segment.{Segment}
use Rattle.elf_read.specs.declared.constants.TheConstants.{EHSIZE, EM_RISCV, EV_CURRENT, PHENTSIZE}
use Rattle.elf_read.specs.Records.{header_of}
use Rattle.elf_write.specs.declared.layout.Plan.{Plan}
use Rattle.elf_write.specs.declared.module.Form.{Form}
use Rattle.elf_write.specs.declared.module.Form.TheVariants.{Exec, Object}
use Rattle.elf_write.specs.Names.{table_count}
use Rattle.elf_write.specs.Places.{halves, words, xwords}
use Rattle.elf_write.specs.Records.{segment_bytes}
use Rattle.elf_write.specs.Written.{front_bytes, if_segments, table_bytes, target_bytes, type_of}
use Rattle.elf_laws.specs.Laws.{header_with}
use Rattle.elf_laws.proofs.RecordLemmas.{length-segment}
use Rattle.elf_laws.proofs.StandLemmas.{length-numbers, numbers_are, stands_back, stands_front, HasNumbers, Stands}

-- the first 16 bytes
abbrev pub ident : List ℕ
ident = 0x7F ∷ 0x45 ∷ 0x4C ∷ 0x46 ∷ 2 ∷ 1 ∷ 1 ∷ 0 ∷ 0 ∷ 0 ∷ 0 ∷ 0 ∷ 0 ∷ 0 ∷ 0 ∷ 0 ∷ []

abbrev kinds : Form → List ℕ
kinds form = type_of form ∷ EM_RISCV ∷ []

type_below : (form : Form) → type_of form < 256 ^ 2
unfolding type_of
type_below Exec = omega arith
type_below Object = omega arith

abbrev counts : ℕ → ℕ → List ℕ
counts n k = 64 ∷ if_segments n 56 ∷ n ∷ 64 ∷ (8 + k) ∷ (7 + k) ∷ []

if_below : (n number bound : ℕ) → 0 < bound → number < bound → if_segments n number < bound
if_below n number bound h k = grind (arith, nat_tests)

-- the fields of the header up to e_entry
pub record HasTarget (form : Form) (start : ℕ) (file : List ℕ) : Type 0 where
  pub ident : Stands 0 ident file
  pub kinds : HasNumbers 2 0 16 (kinds form) file
  pub entry : HasNumbers 8 0 24 (start ∷ []) file

pub has_target : (form : Form) (entry : ℕ) (file : List ℕ) → entry < 256 ^ 8 → Stands 0 (target_bytes form entry) file → HasTarget form entry file
has_target form entry file h s =
    let version : List ℕ = EV_CURRENT ∷ [] in
    let s3 = stands_front 0 (ident ++ halves (kinds form) ++ words version) (xwords (entry ∷ [])) file s in
    let s2 = stands_front 0 (ident ++ halves (kinds form)) (words version) file s3 in
    let s1 = stands_front 0 ident (halves (kinds form)) file s2 in
    let at_16 = stands_back 0 16 ident (halves (kinds form)) file refl s2 in
    let length_24 : length (ident ++ halves (kinds form) ++ words version) ≡ 24 =
    omega (arith, length-append (ident ++ halves (kinds form)) (words version), length-append ident (halves (kinds form)), length-numbers 2 (kinds form), length-numbers 4 version) in
    let at_24 = stands_back 0 24 (ident ++ halves (kinds form) ++ words version) (xwords (entry ∷ [])) file length_24 s in
    record {
      ident = s1;
      kinds = numbers_are 2 0 16 (kinds form) file (type_below form, (omega arith, tt)) at_16;
      entry = numbers_are 8 0 24 (entry ∷ []) file (h, tt) at_24;
    }

-- the fields of the header behind e_entry
pub record HasTables (n k headers : ℕ) (file : List ℕ) : Type 0 where
  pub places : HasNumbers 8 0 32 (if_segments n 64 ∷ headers ∷ []) file
  pub flags : HasNumbers 4 0 48 (0 ∷ []) file
  pub counts : HasNumbers 2 0 52 (counts n k) file

pub has_tables : (n k headers : ℕ) (file : List ℕ) → n < 256 ^ 2 → k ≤ 3 → headers < 256 ^ 8 → Stands 32 (table_bytes n headers (8 + k) (7 + k)) file → HasTables n k headers file
has_tables n k headers file few small low s =
    let places : List ℕ = if_segments n 64 ∷ headers ∷ [] in
    let flags : List ℕ = 0 ∷ [] in
    let s2 = stands_front 32 (xwords places ++ words flags) (halves (counts n k)) file s in
    let s1 = stands_front 32 (xwords places) (words flags) file s2 in
    let at_48 = stands_back 32 16 (xwords places) (words flags) file (length-numbers 8 places) s2 in
    let length_20 : length (xwords places ++ words flags) ≡ 20 =
    omega (arith, length-append (xwords places) (words flags), length-numbers 8 places, length-numbers 4 flags) in
    let at_52 = stands_back 32 20 (xwords places ++ words flags) (halves (counts n k)) file length_20 s in
    record {
      places = numbers_are 8 0 32 places file (if_below n 64 (256 ^ 8) (omega arith) (omega arith), (low, tt)) s1;
      flags = numbers_are 4 0 48 flags file (omega arith, tt) at_48;
      counts = numbers_are 2 0 52 (counts n k) file (omega arith, (if_below n 56 (256 ^ 2) (omega arith) (omega arith), (few, (omega arith, (omega arith, (omega arith, tt)))))) at_52;
    }

pub length-target : (form : Form) (entry : ℕ) → length (target_bytes form entry) ≡ 32
length-target form entry =
    let version : List ℕ = EV_CURRENT ∷ [] in
    omega (arith, length-append (ident ++ halves (kinds form) ++ words version) (xwords (entry ∷ [])), length-append (ident ++ halves (kinds form)) (words version), length-append ident (halves (kinds form)), length-numbers 2 (kinds form), length-numbers 4 version, length-numbers 8 (entry ∷ []))

pub length-tables : (n k headers : ℕ) → length (table_bytes n headers (8 + k) (7 + k)) ≡ 32
length-tables n k headers =
    let places : List ℕ = if_segments n 64 ∷ headers ∷ [] in
    omega (arith, length-append (xwords places ++ words (0 ∷ [])) (halves (counts n k)), length-append (xwords places) (words (0 ∷ [])), length-numbers 8 places, length-numbers 4 (0 ∷ []), length-numbers 2 (counts n k))

length-segments : (segments : List Segment) → length (flat_map segment_bytes segments) ≡ PHENTSIZE * length segments
length-segments [] = refl
length-segments (s ∷ ss) = omega (arith, length-append (segment_bytes s) (flat_map segment_bytes ss), length-segment s, length-segments ss)

pub length-front_bytes : (p : Plan) (entry : ℕ) (segments : List Segment) → length (front_bytes p entry segments) ≡ EHSIZE + PHENTSIZE * length segments
unfolding front_bytes
length-front_bytes p entry segments =
    let k = table_count p.sizes in
    let target = target_bytes p.form entry in
    let tables = table_bytes (length segments) p.layout.headers (8 + k) (7 + k) in
    omega (arith, length-append (target ++ tables) (flat_map segment_bytes segments), length-append target tables, length-target p.form entry, length-tables (length segments) k p.layout.headers, length-segments segments)

-- what stands in a file that begins so
pub record HasFront (p : Plan) (entry : ℕ) (segments : List Segment) (file : List ℕ) : Type 0 where
  pub target : HasTarget p.form entry file
  pub tables : HasTables (length segments) (table_count p.sizes) p.layout.headers file
  pub rest : Stands EHSIZE (flat_map segment_bytes segments) file

pub has_front : (p : Plan) (entry : ℕ) (segments : List Segment) (file : List ℕ) → entry < 256 ^ 8 → length segments < 256 ^ 2 → table_count p.sizes ≤ 3 → p.layout.headers < 256 ^ 8 → Stands 0 (front_bytes p entry segments) file → HasFront p entry segments file
unfolding front_bytes
has_front p entry segments file h few small low s =
    let k = table_count p.sizes in
    let headers = p.layout.headers in
    let target = target_bytes p.form entry in
    let tables = table_bytes (length segments) headers (8 + k) (7 + k) in
    let s2 = stands_front 0 (target ++ tables) (flat_map segment_bytes segments) file s in
    let s1 = stands_front 0 target tables file s2 in
    let at_32 = stands_back 0 32 target tables file (length-target p.form entry) s2 in
    let length_64 : length (target ++ tables) ≡ 64 = omega (arith, length-append target tables, length-target p.form entry, length-tables (length segments) k headers) in
    record {
      target = has_target p.form entry file h s1;
      tables = has_tables (length segments) k headers file few small low at_32;
      rest = stands_back 0 64 (target ++ tables) (flat_map segment_bytes segments) file length_64 s;
    }

pub header_is : (p : Plan) (entry : ℕ) (segments : List Segment) (file : List ℕ) → HasFront p entry segments file → header_of file ≡ header_with p.form entry (length segments) (table_count p.sizes) p.layout.headers
unfolding header_of
header_is p entry segments file f =
    let t = f.target in
    let u = f.tables in
    rw (t.kinds.0, t.kinds.1.0, t.entry.0, u.places.0, u.places.1.0, u.flags.0, u.counts.1.0, u.counts.1.1.0, u.counts.1.1.1.0, u.counts.1.1.1.1.0, u.counts.1.1.1.1.1.0) refl
