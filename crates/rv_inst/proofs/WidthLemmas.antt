-- The widths of accesses.
use Rattle.std.proofs.Common.{◌≢◌, ℕ, Bool, true, false, None, inl, inr, refl, arith}
use Rattle.std.proofs.lemmas.Bool.Decides.{nat_tests}
use Rattle.rv_inst.specs.Rows.{IsWidth, load_code, store_code}
use Rattle.rv_inst.specs.Meanings.{atomic_width}

pub load_width : (width : ℕ) (sign : Bool) → load_code width sign ≢ None → IsWidth width
load_width width true there = grind (arith, nat_tests)
load_width width false there = grind (arith, nat_tests)

pub store_width : (width : ℕ) → store_code width ≢ None → IsWidth width
store_width width there = grind (arith, nat_tests)

pub atomic_is_width : (wide : Bool) → IsWidth (atomic_width wide)
atomic_is_width true = inr (inr (inr refl))
atomic_is_width false = inr (inr (inl refl))
