use Rattle.std.proofs.Common.{◌≡◌, ◌<◌, ◌∙◌, ℕ, zero, suc, List, [], ◌∷◌, Option, Some, IfOk, length, sym, ap, subst, arith}
use Rattle.std.specs.Prelude.{IsSomeAnd, slice_get}
use Rattle.std.proofs.lemmas.Option.{slice_get-get_or}
use Rattle.wf_outside.specs.declared.refusal.Refusal.{Refusal}
use Rattle.wf_outside.specs.Images.{DeltaValue}
use Rattle.wf_outside.specs.Lists.{first_of}
use Rattle.wf_verdict.proofs.PatchLemmas.{patch_list}
use Rattle.wf_verdict.specs.Verdict.{IsPatch}
use Rattle.wf_verdict.proofs.verdict.patch_refusal.Goals as goal

there : (deltas : List DeltaValue) (i : ℕ) → IsSomeAnd (slice_get deltas i) IsPatch → i < length deltas
there [] i is = absurd is
there (delta ∷ deltas) zero is = omega arith
there (delta ∷ deltas) (suc i) is = let rest = there deltas i is in omega arith

pub returns : goal.returns
returns c =
    let found : slice_get c.args.deltas.now c.args.patch ≡ Some c.index-deltas-patch.result =
    slice_get-get_or c.args.deltas.now c.args.patch c.index-deltas-patch.result (there c.args.deltas.now c.args.patch c.requires.patch)
    ∙ ap Some (sym c.index-deltas-patch.is) in
    subst (λ (refusals : List (Option Refusal)). IfOk c.delta_refusal.result (λ (refusal : Option Refusal). refusal ≡ first_of refusals))
    (patch_list c.args.deltas.now c.args.flat.now c.args.patch c.index-deltas-patch.result found) c.delta_refusal.ensures
