-- Symbols whose numbers fit 64 bits.
use Rattle.std.proofs.Common.{◌≡◌, ◌<◌, [], ◌∷◌, ℕ, suc, zero, List, length, get_or, sym, subst, arith}
use Rattle.rv_asm.specs.declared.named.Symbol.{Symbol}
use Rattle.rv_asm.specs.Drafts.{AreNarrow, IsNarrow, symbol_value, symbol_values}

pub narrow_at : (symbols : List Symbol) (i : ℕ) (s : Symbol) → AreNarrow (symbol_values symbols) → i < length symbols → s ≡ get_or symbols i s → IsNarrow (symbol_value s)
narrow_at [] i s all h e = absurd (omega arith)
narrow_at (t ∷ ts) zero s all h e = subst (λ (u : Symbol). IsNarrow (symbol_value u)) (sym e) all.0
narrow_at (t ∷ ts) (suc i) s all h e = narrow_at ts i s all.1 (omega arith) e
