-- Texts and files with one more of their kind.
use Rattle.std.proofs.Common.{◌≡◌, ◌<◌, ◌++◌, ◌+◌, ◌-◌, ◌*◌, ℕ, zero, suc, List, [], ◌∷◌, Ok, arith, refl, sym, ap, subst, ◌∙◌, add-one, append_assoc, append-nil}
use Rattle.std.specs.Prelude.{Result, Vec, codes}
use Rattle.std.specs.declared.alloc.Global.{Global}
use Rattle.wf_outside.specs.MemFiles.{files_of}
use Rattle.elf_write.specs.declared.module.Form.{Form}
use Rattle.elf_write.specs.Modules.{ModuleValue}
use Rattle.elf_write.specs.Written.{written}
use Rattle.rv_asm.specs.declared.fault.AsmFault.TheVariants as fault
use Rattle.std.specs.Fmt.{decimal}
use Rattle.rv_asm.specs.declared.fault.AsmFault.{AsmFault}
use Rattle.rv_asm.specs.Answers.{◌>>=◌, IsFaultOf}
use Rattle.rv_asm.specs.Assembled.{assembled}
use Rattle.wf_outside.specs.Files.{File}
use Rattle.elf_write.specs.declared.module.Form.TheVariants.{Exec, Object}
use Rattle.wf_gen.specs.Sources.{added_by, call_lines, function_lines, function_name, functions_lines, object_source, patch_count, patch_name, program_source, round_lines, run_line, text_line}
use Rattle.wf_gen.specs.Files.{file_of, first_files, made_files, patch_pair, with_patch, with_patches}

-- behind what is there, with one line more
pub more : (one : ℕ → List ℕ) (all : ℕ → List ℕ) (front out : List ℕ) (i : ℕ) → all (suc i) ≡ all i ++ one i → out ≡ front ++ all i → out ++ one i ≡ front ++ all (i + 1)
more one all front out i step e =
    ap (λ (xs : List ℕ). xs ++ one i) e ∙ append_assoc front (all i) (one i) ∙ ap (λ (xs : List ℕ). front ++ xs) (sym step) ∙ ap (λ (n : ℕ). front ++ all n) (sym (add-one i))

abbrev pub call_line : ℕ → List ℕ
call_line i = text_line (codes "        jal ra, f" ++ decimal i)

pub calls_step : (i : ℕ) → call_lines (suc i) ≡ call_lines i ++ call_line i
unfolding call_lines
calls_step i = refl

abbrev pub one_function : ℕ → List ℕ
one_function i = function_lines (function_name i) (added_by i)

pub functions_step : (i : ℕ) → functions_lines (suc i) ≡ functions_lines i ++ one_function i
unfolding functions_lines
functions_step i = refl

abbrev pub one_round : ℕ → ℕ → List ℕ
one_round n j = text_line (codes "patch " ++ patch_name j) ++ run_line (3 * n + 2 * suc j + 5)

pub rounds_step : (n j : ℕ) → round_lines n (suc j) ≡ round_lines n j ++ one_round n j
unfolding round_lines
rounds_step n j = append_assoc (round_lines n j) (text_line (codes "patch " ++ patch_name j)) (run_line (3 * n + 2 * suc j + 5))

-- none yet
pub calls_none : (front : List ℕ) → front ≡ front ++ call_lines 0
unfolding call_lines
calls_none front = sym (append-nil front)

pub functions_none : (front : List ℕ) → front ≡ front ++ functions_lines 0
unfolding functions_lines
functions_none front = sym (append-nil front)

pub rounds_none : (n : ℕ) (front : List ℕ) → front ≡ front ++ round_lines n 0
unfolding round_lines
rounds_none n front = sym (append-nil front)

-- a fault stays, whatever was to come behind
fault_stays : {A B : Type 0} (first : Result A AsmFault) (next : A → Result B AsmFault) (e : AsmFault) → IsFaultOf e first → IsFaultOf e (first >>= next)
fault_stays first next fault.Memory f = tt
fault_stays first next (fault.At number rule) f = ap (λ r. r >>= next) f

abbrev bytes_done : List ℕ → Result (List ℕ) AsmFault
bytes_done bytes = Ok bytes

abbrev files_done : List File → Result (List File) AsmFault
files_done files = Ok files

-- the file of a source
pub file_ok : (form : Form) (source bytes : List ℕ) (means : ModuleValue) → assembled form source ≡ Ok means → bytes ≡ written means → file_of form source ≡ Ok bytes
unfolding file_of
file_ok form source bytes means e w = ap (λ (r : Result ModuleValue AsmFault). r >>= (λ m. bytes_done (written m))) e ∙ ap bytes_done (sym w)

pub file_fault : (form : Form) (source : List ℕ) (e : AsmFault) → IsFaultOf e (assembled form source) → IsFaultOf e (file_of form source)
unfolding file_of
file_fault form source e f = fault_stays (assembled form source) (λ m. Ok (written m)) e f

-- files with one more
pub files_more : (files : List (List ℕ × Vec ℕ Global)) (name : List ℕ) (bytes : Vec ℕ Global) → files_of (files ++ (name, bytes) ∷ []) ≡ files_of files ++ (name, bytes.items) ∷ []
files_more [] name bytes = refl
files_more (file ∷ files) name bytes = ap (λ (fs : List File). (file.0, file.1.items) ∷ fs) (files_more files name bytes)

-- files with two more
pub two_more : (old mid new : List (List ℕ × Vec ℕ Global)) (one_name other_name : List ℕ) (one other : Vec ℕ Global) (first second first_bytes second_bytes : List ℕ) → mid ≡ old ++ (one_name, one) ∷ []
    → new ≡ mid ++ (other_name, other) ∷ [] → one_name ≡ first → one.items ≡ first_bytes → other_name ≡ second → other.items ≡ second_bytes
    → files_of new ≡ files_of old ++ (first, first_bytes) ∷ (second, second_bytes) ∷ []
two_more old mid new one_name other_name one other first second first_bytes second_bytes a b p s q t =
    ap files_of b ∙ files_more mid other_name other
    ∙ ap (λ (fs : List (List ℕ × Vec ℕ Global)). files_of fs ++ (other_name, other.items) ∷ []) a
    ∙ ap (λ (fs : List File). fs ++ (other_name, other.items) ∷ []) (files_more old one_name one)
    ∙ append_assoc (files_of old) ((one_name, one.items) ∷ []) ((other_name, other.items) ∷ [])
    ∙ ap (λ (name : List ℕ). files_of old ++ (name, one.items) ∷ (other_name, other.items) ∷ []) p
    ∙ ap (λ (bytes : List ℕ). files_of old ++ (first, bytes) ∷ (other_name, other.items) ∷ []) s
    ∙ ap (λ (name : List ℕ). files_of old ++ (first, first_bytes) ∷ (name, other.items) ∷ []) q
    ∙ ap (λ (bytes : List ℕ). files_of old ++ (first, first_bytes) ∷ (second, bytes) ∷ []) t

-- one patch more
pub patch_ok : (j : ℕ) (files made : List File) (object : List ℕ) → file_of Object (object_source j) ≡ Ok object → made ≡ files ++ patch_pair j object → with_patch j files ≡ Ok made
unfolding with_patch
patch_ok j files made object e same =
    ap (λ (r : Result (List ℕ) AsmFault). r >>= (λ bytes. files_done (files ++ patch_pair j bytes))) e ∙ ap files_done (sym same)

pub patch_fault : (j : ℕ) (files : List File) (e : AsmFault) → IsFaultOf e (file_of Object (object_source j)) → IsFaultOf e (with_patch j files)
unfolding with_patch
patch_fault j files e f = fault_stays (file_of Object (object_source j)) (λ bytes. Ok (files ++ patch_pair j bytes)) e f

pub patches_none : (files : List File) → with_patches files 0 ≡ Ok files
unfolding with_patches
patches_none files = refl

pub patches_more : (first files new : List File) (j : ℕ) → with_patches first j ≡ Ok files → with_patch j files ≡ Ok new → with_patches first (j + 1) ≡ Ok new
unfolding with_patches
patches_more first files new j e f = ap (with_patches first) (add-one j) ∙ ap (λ r. r >>= with_patch j) e ∙ f

-- a fault of a patch is that of all
patches_fault : (first files : List File) (j : ℕ) (e : AsmFault) → with_patches first j ≡ Ok files → IsFaultOf e (with_patch j files) → IsFaultOf e (with_patches first (suc j))
unfolding with_patches
patches_fault first files j e made f = subst (IsFaultOf e) (sym (ap (λ r. r >>= with_patch j) made)) f

next_fault : (first : List File) (j : ℕ) (e : AsmFault) → IsFaultOf e (with_patches first j) → IsFaultOf e (with_patches first (suc j))
unfolding with_patches
next_fault first j e f = fault_stays (with_patches first j) (with_patch j) e f

later_fault : (first : List File) (j k : ℕ) (e : AsmFault) → IsFaultOf e (with_patches first j) → IsFaultOf e (with_patches first (k + j))
later_fault first j zero e f = let same : j ≡ 0 + j = omega arith in subst (λ (n : ℕ). IsFaultOf e (with_patches first n)) same f
later_fault first j (suc k) e f =
    let same : suc (k + j) ≡ suc k + j = omega arith in
    subst (λ (n : ℕ). IsFaultOf e (with_patches first n)) same (next_fault first (k + j) e (later_fault first j k e f))

-- of so many patches one was at fault
pub one_fault : (first files : List File) (j count : ℕ) (e : AsmFault) → with_patches first j ≡ Ok files → j < count → IsFaultOf e (with_patch j files) → IsFaultOf e (with_patches first count)
one_fault first files j count e made few f =
    let all : (count - suc j) + suc j ≡ count = omega arith in
    subst (λ (n : ℕ). IsFaultOf e (with_patches first n)) all (later_fault first (suc j) (count - suc j) e (patches_fault first files j e made f))

-- the program is there, and then patches are
made_with : (n : ℕ) (program : List ℕ) → file_of Exec (program_source n) ≡ Ok program → made_files n ≡ with_patches (first_files n program) (patch_count n)
unfolding made_files
made_with n program e = ap (λ r. r >>= (λ (bytes : List ℕ). with_patches (first_files n bytes) (patch_count n))) e

pub program_fault : (n : ℕ) (e : AsmFault) → IsFaultOf e (file_of Exec (program_source n)) → IsFaultOf e (made_files n)
unfolding made_files
program_fault n e f = fault_stays (file_of Exec (program_source n)) (λ bytes. with_patches (first_files n bytes) (patch_count n)) e f

-- behind the program and the script the patches are
behind_first : (n : ℕ) (program : List ℕ) (first : List File) (count : ℕ) → file_of Exec (program_source n) ≡ Ok program → first ≡ first_files n program → count ≡ patch_count n → with_patches first count ≡ made_files n
behind_first n program first count e same many =
    ap (λ (files : List File). with_patches files count) same ∙ ap (with_patches (first_files n program)) many ∙ sym (made_with n program e)

pub made_ok : (n : ℕ) (program : List ℕ) (first files : List File) (count : ℕ) → file_of Exec (program_source n) ≡ Ok program → first ≡ first_files n program → count ≡ patch_count n
    → with_patches first count ≡ Ok files → made_files n ≡ Ok files
made_ok n program first files count e same many made = sym (behind_first n program first count e same many) ∙ made

pub made_fault : (n : ℕ) (program : List ℕ) (first : List File) (count : ℕ) (fault : AsmFault) → file_of Exec (program_source n) ≡ Ok program → first ≡ first_files n program → count ≡ patch_count n
    → IsFaultOf fault (with_patches first count) → IsFaultOf fault (made_files n)
made_fault n program first count fault e same many f = subst (IsFaultOf fault) (behind_first n program first count e same many) f
