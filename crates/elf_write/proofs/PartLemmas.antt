-- Symbols and names, one after another.
use Rattle.std.proofs.Common.{◌≡◌, ◌<◌, ◌≤◌, ◌+◌, ◌^◌, ◌++◌, ℕ, List, [], ◌∷◌, zero, suc, length, get_or, drop, take, sym, ap, ◌∙◌, add-one, arith}
use Rattle.std.proofs.Math.Seq.{drop-cons}
use Rattle.std.proofs.lemmas.List.{length-append}
use Rattle.std.specs.List.{flat_map}
use Rattle.elf_write.specs.declared.module.ModSymbol.{ModSymbol}
use Rattle.elf_write.specs.Parts.{name_bytes, strings, symbol_bytes, symbols_from}

pub symbols_from-drop : (symbols : List ModSymbol) (name i : ℕ) (d : ModSymbol) → i < length symbols
    → symbols_from name (drop i symbols) ≡ symbol_bytes name (get_or symbols i d) ++ symbols_from (name + length (name_bytes (get_or symbols i d))) (drop (i + 1) symbols)
symbols_from-drop symbols name i d h =
    ap (symbols_from name) (drop-cons symbols i d h)
    ∙ ap (λ (k : ℕ). symbol_bytes name (get_or symbols i d) ++ symbols_from (name + length (name_bytes (get_or symbols i d))) (drop k symbols)) (sym (add-one i))

-- the names of the symbols up to one are no longer than all names
pub strings-take : (symbols : List ModSymbol) (i : ℕ) (d : ModSymbol) → i < length symbols
    → length (strings (take i symbols)) + length (name_bytes (get_or symbols i d)) ≤ length (strings symbols)
strings-take [] i d h = absurd (omega arith)
strings-take (s ∷ ss) zero d h = omega (arith, length-append (name_bytes s) (flat_map name_bytes ss))
strings-take (s ∷ ss) (suc i) d h =
    omega (arith, strings-take ss i d (omega arith), length-append (name_bytes s) (flat_map name_bytes ss), length-append (name_bytes s) (flat_map name_bytes (take i ss)))

-- the place behind the name of a symbol lies in the names, or at their end
pub name_fits : (symbols : List ModSymbol) (i : ℕ) (s : ModSymbol) (bytes : List ℕ) → i < length symbols → s ≡ get_or symbols i s → bytes ≡ s.name
    → length (strings symbols) < 2 ^ 32 → length (strings (take i symbols)) + (length bytes + 1) < 2 ^ 32
name_fits symbols i s bytes h is same short =
    let taken = strings-take symbols i s h in
    let named : length (name_bytes (get_or symbols i s)) ≡ length bytes + 1 =
    ap (λ (t : ModSymbol). length (name_bytes t)) (sym is) ∙ length-append s.name (0 ∷ []) ∙ ap (λ (b : List ℕ). length b + 1) (sym same) in
    omega (arith, taken, named, short)

pub ruleset symbol_steps = symbols_from-drop
