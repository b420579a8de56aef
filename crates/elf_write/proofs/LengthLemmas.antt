-- The length of a file, where the length of the names is capped.
use Rattle.std.proofs.Common.{◌≡◌, ◌≤◌, ◌-◌, ◌^◌, ℕ, min, length, ap, inl, inr, arith}
use Rattle.std.proofs.lemmas.Bool.{cases_lt}
use Rattle.elf_write.specs.declared.layout.Sizes.{Sizes}
use Rattle.elf_write.specs.declared.module.Form.{Form}
use Rattle.elf_write.specs.Layout.{file_length, layout_of, sizes_with}
use Rattle.elf_write.specs.Modules.{ModuleValue}
use Rattle.elf_write.specs.Parts.{strings}

-- the names end in the file
strings-end : (form : Form) (s : Sizes) → s.strings ≤ (layout_of form s).end
unfolding layout_of
strings-end form s = omega arith

pub length_capped : (m : ModuleValue) (n : ℕ) → n ≡ min (length (strings m.symbols)) (2 ^ 64 - 1)
    → min ((layout_of m.form (sizes_with m n)).end) (2 ^ 64 - 1) ≡ min (file_length m) (2 ^ 64 - 1)
unfolding sizes_with
length_capped m n e = elim (cases_lt (length (strings m.symbols)) (2 ^ 64)) [
  | inl below ↦
      let same : n ≡ length (strings m.symbols) = omega (arith, e) in
      ap (λ (k : ℕ). min ((layout_of m.form (sizes_with m k)).end) (2 ^ 64 - 1)) same
  | inr above ↦
      let long = strings-end m.form (sizes_with m n) in
      let longer = strings-end m.form (sizes_with m (length (strings m.symbols))) in
      omega (arith, e, long, longer)
]
