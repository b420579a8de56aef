use Rattle.std.proofs.Common.{◌∙◌, ℕ, List, ap, map, sym, subst, arith, take}
use Rattle.std.proofs.lemmas.List.{length-map}
use Rattle.std.specs.Prelude.{is_some, not}
use Rattle.std.specs.List.{AllByRecursion, filter, range_with_len}
use Rattle.rv_asm.specs.Names.{name_place, name_values, pcrel_name, with_free}
use Rattle.rv_asm.specs.Uses.{IsPlainName}
use Rattle.rv_asm.proofs.NameLemmas.{candidates_more, free_more, free_names_are, free_plain}
use Rattle.rv_asm.proofs.names.free_names.Goals as goal

pub loop-n-preserved : goal.loop-n-preserved
loop-n-preserved c =
    let used = name_values c.args.used.now in
    let added = c.in_ok-push_free.ensures in
    record {
      free =
          added
          ∙ ap (λ (x : List ℕ). with_free c.args.count used c.loop-n.names.items x) c.in_ok-name.ensures.value
          ∙ free_more c.args.count used c.loop-n.names.items (map pcrel_name (range_with_len 0 c.loop-n.n)) (pcrel_name c.loop-n.n) c.loop-n.invariant.free
          ∙ ap (λ (l : List (List ℕ)). take c.args.count (filter (λ name. not (is_some (name_place name used))) l)) (sym (candidates_more c.loop-n.n));
      plain = subst (AllByRecursion IsPlainName) (sym added) (free_plain c.args.count used c.loop-n.names.items c.in_ok-name.name c.loop-n.invariant.plain c.in_ok-name.ensures.plain);
    }

pub returns-clause-value : goal.returns-clause-value
returns-clause-value c =
    let long = length-map c.args.used.now (λ n. n.now) in
    free_names_are c.args.count c.loop-n.n (name_values c.args.used.now) c.loop-n.names.items c.loop-n.invariant.free (omega (arith, c.loop-n-test.false, c.loop-n.auto.n-end, long))
