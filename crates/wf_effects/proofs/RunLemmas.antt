-- One more page behind runs.
use Rattle.std.proofs.Common.{◌≡◌, ◌+◌, ◌++◌, ℕ, zero, suc, List, [], ◌∷◌, true, false, length, get_or, set, refl, ap, arith}
use Rattle.wf_outside.specs.Pages.{DataPageValue}
use Rattle.wf_effects.specs.declared.ranges.PageRun.{PageRun}
use Rattle.wf_effects.specs.Ranges.{continues, longer, run_of, with_behind}

-- it joins the last
pub behind_joined : (runs : List PageRun) (page : DataPageValue) (k : ℕ) (d o new : PageRun) → k + 1 ≡ length runs → continues (get_or runs k d) page ≡ true → new ≡ longer (get_or runs k o) → set runs k new ≡ with_behind runs page
behind_joined [] page k d o new h e is = absurd (omega arith)
behind_joined (run ∷ []) page zero d o new h e is = rw (e, is) refl
behind_joined (run ∷ []) page (suc k) d o new h e is = absurd (omega arith)
behind_joined (run ∷ next ∷ runs) page zero d o new h e is = absurd (omega arith)
behind_joined (run ∷ next ∷ runs) page (suc k) d o new h e is = ap (λ (rs : List PageRun). run ∷ rs) (behind_joined (next ∷ runs) page k d o new (omega arith) e is)

-- it does not
pub behind_apart : (runs : List PageRun) (page : DataPageValue) (k : ℕ) (d : PageRun) → k + 1 ≡ length runs → continues (get_or runs k d) page ≡ false → runs ++ run_of page ∷ [] ≡ with_behind runs page
behind_apart [] page k d h e = absurd (omega arith)
behind_apart (run ∷ []) page zero d h e = rw e refl
behind_apart (run ∷ []) page (suc k) d h e = absurd (omega arith)
behind_apart (run ∷ next ∷ runs) page zero d h e = absurd (omega arith)
behind_apart (run ∷ next ∷ runs) page (suc k) d h e = ap (λ (rs : List PageRun). run ∷ rs) (behind_apart (next ∷ runs) page k d (omega arith) e)

-- there is none
pub behind_none : (runs : List PageRun) (page : DataPageValue) → length runs ≡ 0 → runs ++ run_of page ∷ [] ≡ with_behind runs page
behind_none [] page h = refl
behind_none (run ∷ runs) page h = absurd (omega arith)
