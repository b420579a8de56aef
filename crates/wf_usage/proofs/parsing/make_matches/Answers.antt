use Rattle.std.proofs.Common.{List, map, subst}
use Rattle.std.proofs.lemmas.Result.{IfOk-weaker}
use Rattle.clap.specs.Words.{App}
use Rattle.wf_usage.specs.Usages.{Word}
use Rattle.wf_usage.specs.Parsed.{IsParse}
use Rattle.wf_usage.proofs.LookLemmas.{utf8_words}
use Rattle.wf_usage.proofs.CommandLemmas.{make_read}
use Rattle.wf_usage.proofs.parsing.make_matches.Goals as goal

pub returns : goal.returns
returns c =
    let words : List Word = map (λ w. w.now) c.args.words.now in
    IfOk-weaker c.parsed.result _ _ (λ m p. make_read words (utf8_words words c.requires.texts) m (subst (λ (a : App). IsParse a words m) c.in_ok-make_reader.ensures p)) c.parsed.ensures
