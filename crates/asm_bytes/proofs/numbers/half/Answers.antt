use Rattle.std.proofs.Common.{arith}
use Rattle.asm_bytes.proofs.NumberLemmas.{ArePowers, powers}
use Rattle.asm_bytes.proofs.numbers.half.Goals as goal

pub returns : goal.returns
returns c =
    let p : ArePowers c.args.width = powers c.args.width (omega arith) (omega arith) in
    record {
      value = omega (arith, p.small);
      whole = omega (arith, p.twice, p.small);
      bytes = omega (arith, p.twice, p.bytes, p.small);
      small = omega (arith, p.small);
    }
