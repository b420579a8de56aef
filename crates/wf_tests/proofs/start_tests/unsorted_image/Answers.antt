use Rattle.std.proofs.Common.{◌≡◌, [], ◌∷◌, rules}
use Rattle.wf_outside.specs.Images.{text_numbers, data_numbers}
use Rattle.wf_tests.proofs.ImageLemmas.{unsorted_is}
use Rattle.wf_tests.proofs.start_tests.unsorted_image.Goals as goal

pub invariant_of-result : goal.invariant_of-result
invariant_of-result c =
    let texts : text_numbers c.push-2.new.self.items ≡ 0x12 ∷ 0x10 ∷ [] = search rules in
    let datas : data_numbers c.push-4.new.self.items ≡ 0x20 ∷ 0x11 ∷ [] = search rules in
    unsorted_is _ _ texts datas
