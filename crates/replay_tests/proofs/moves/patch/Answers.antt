use Rattle.std.proofs.Common.{◌≡◌, [], ◌∷◌, replicate, rules}
use Rattle.replay_tests.proofs.MachineLemmas.{patch_is}
use Rattle.replay_tests.proofs.moves.patch.Goals as goal

pub returns : goal.returns
returns c =
    let jumps : c.push.new.self.items ≡ record { at = c.args.at; bytes = replicate 8 0 } ∷ [] = search rules in
    patch_is c.new.result.items c.new-2.result.items c.push.new.self.items (record { at = c.args.at; bytes = replicate 8 0 }) c.new.ensures.items c.new-2.ensures.items jumps c.requires.even c.requires.low
