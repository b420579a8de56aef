-- The files of a program of so many functions, with patches for it.
use Rattle.std.specs.Prelude.{ℕ, zero, suc, List, [], ◌∷◌, ◌++◌, Result, Ok, codes}
use Rattle.elf_write.specs.declared.module.Form.{Form}
use Rattle.elf_write.specs.declared.module.Form.TheVariants.{Exec, Object}
use Rattle.elf_write.specs.Written.{written}
use Rattle.rv_asm.specs.declared.fault.AsmFault.{AsmFault}
use Rattle.rv_asm.specs.Answers.{◌>>=◌}
use Rattle.rv_asm.specs.Assembled.{assembled}
use Rattle.wf_outside.specs.Files.{File}
use Rattle.wf_gen.specs.Sources.{object_name, object_source, patch_count, patch_name, patch_text, program_source, script_text}

-- the file of the module of this form that a source means, or the source's first fault
unfoldable pub file_of : Form → List ℕ → Result (List ℕ) AsmFault
file_of form source = assembled form source >>= (λ means. Ok (written means))

-- the two files of a patch: its own, and its object
abbrev pub patch_pair : ℕ → List ℕ → List File
patch_pair j object = (patch_name j, patch_text j) ∷ (object_name j, object) ∷ []

-- files with those of patch j behind them
unfoldable pub with_patch : ℕ → List File → Result (List File) AsmFault
with_patch j files =
    file_of Object (object_source j) >>= (λ object. Ok (files ++ patch_pair j object))

-- files with those of so many patches behind them, one after another
unfoldable pub with_patches : List File → ℕ → Result (List File) AsmFault
with_patches files zero = Ok files
with_patches files (suc j) = with_patches files j >>= with_patch j

-- the files of the program and of its script
abbrev pub first_files : ℕ → List ℕ → List File
first_files n program =
    (codes "prog.elf", program) ∷ (codes "steps.txt", script_text n) ∷ []

-- The files of a program of so many functions: the program, the script, and the patches with their
-- objects; or the first fault of a source, which is assembled.
unfoldable pub made_files : ℕ → Result (List File) AsmFault
made_files n =
    file_of Exec (program_source n)
    >>= (λ program. with_patches (first_files n program) (patch_count n))
