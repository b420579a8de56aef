use Rattle.std.proofs.Common.{refl}
use Rattle.wf_space.specs.Pieces.{jumps_put}
use Rattle.wf_space.proofs.CopyLemmas.{rewrites_both}
use Rattle.wf_space.proofs.copying.copy_frame.Goals as goal

pub returns-clause-made : goal.returns-clause-made
returns-clause-made c =
    rewrites_both c.args.words.now c.copy_words.new.words c.put_jumps.new.words c.args.source c.args.frame (λ page. page) (jumps_put c.args.page c.args.jumps.now) (λ page. refl) c.copy_words.ensures.made c.put_jumps.ensures.made
