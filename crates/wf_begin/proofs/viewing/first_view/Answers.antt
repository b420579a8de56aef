use Rattle.std.proofs.Common.{rules, refl}
use Rattle.wf_begin.proofs.NumberLemmas.{residents_are}
use Rattle.wf_begin.proofs.viewing.first_view.Goals as goal

pub returns : goal.returns
returns c = record {
  generation = refl;
  parent = search rules;
  patches = search rules;
  jumps = search rules;
  root = search rules;
  text = search rules;
  nodes = search rules;
  reach = search rules;
  met = search rules;
  residents = λ h. residents_are c.args.harts h c.in_ok-residents.residents.items c.in_ok-residents.ensures;
}
