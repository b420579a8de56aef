use Rattle.std.proofs.Common.{◌≡◌, [], ◌∷◌, rules}
use Rattle.wf_outside.specs.Images.{text_numbers, data_numbers}
use Rattle.replay_tests.proofs.MachineLemmas.{image_is}
use Rattle.replay_tests.proofs.machines.image.Goals as goal

pub invariant_of-result : goal.invariant_of-result
invariant_of-result c =
    let texts : text_numbers c.push.new.self.items ≡ 0x10 ∷ [] = search rules in
    let datas : data_numbers c.new.result.items ≡ [] = search rules in
    image_is _ _ texts datas
