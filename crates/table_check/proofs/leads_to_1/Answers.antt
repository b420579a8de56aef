use Rattle.std.proofs.Common.{◌≡◌, ◌≤◌, ℕ, subst, arith}
use Rattle.wf_outside.specs.declared.sizes.TheConstants.{MOST_FRAMES}
use Rattle.wf_sv39.specs.Entries.{pte_node, frame_of}
use Rattle.wf_sv39.specs.Tables.{IsPointer, IsTable}
use Rattle.table_check.proofs.leads_to_1.Goals as goal

named : (frames pte f next : ℕ) → IsPointer frames pte → frames ≤ MOST_FRAMES → f ≡ frame_of pte → pte ≡ pte_node next → f ≡ next
named frames pte f next p few e h = omega (arith, p.low, p.is)

pub returns-clause-below : goal.returns-clause-below
returns-clause-below c = λ r next e.
    subst (IsTable c.args.words.now 1) (named _ _ _ next (c.is_pointer.ensures c.if-not-is_pointer.false) c.frames.ensures.few c.frame_of.ensures e) (c.is_table_1.ensures r)
