use Rattle.std.proofs.Common.{◌++◌, ◌+◌, ◌*◌, ◌∙◌, ap, List, ℕ, suc, add-one, append_assoc}
use Rattle.std.specs.Prelude.{codes}
use Rattle.std.specs.Fmt.{decimal}
use Rattle.wf_gen.specs.Sources.{patch_name, round_lines, run_line, text_line}
use Rattle.wf_gen.proofs.SourceLemmas.{more, one_round, rounds_none, rounds_step}
use Rattle.wf_gen.proofs.sources.push_rounds.Goals as goal

pub loop-j-init : goal.loop-j-init
loop-j-init c = rounds_none c.args.n c.args.out.now.items

pub loop-j-preserved : goal.loop-j-preserved
loop-j-preserved c =
    c.in_ok-push_numbered-2.ensures
    ∙ ap (λ (xs : List ℕ). xs ++ text_line (codes "run " ++ decimal (3 * c.args.n + 2 * (c.loop-j.j + 1) + 5))) c.in_ok-push_numbered.ensures
    ∙ ap (λ (k : ℕ). (c.loop-j.out.items ++ text_line (codes "patch " ++ patch_name c.loop-j.j)) ++ run_line (3 * c.args.n + 2 * k + 5)) (add-one c.loop-j.j)
    ∙ append_assoc c.loop-j.out.items (text_line (codes "patch " ++ patch_name c.loop-j.j)) (run_line (3 * c.args.n + 2 * suc c.loop-j.j + 5))
    ∙ more (one_round c.args.n) (round_lines c.args.n) c.args.out.now.items c.loop-j.out.items c.loop-j.j (rounds_step c.args.n c.loop-j.j) c.loop-j.invariant
