-- The words for the rules that keep a patch from being built.
use Rattle.std.specs.Prelude.{◌++◌, ℕ, List, codes}
use Rattle.std.specs.Fmt.{decimal, signed_decimal}
use Rattle.patch_rules.specs.declared.lines.LineRule.{LineRule}
use Rattle.patch_rules.specs.declared.lines.LineRule.TheVariants.{NoFunction, Several, TooSmall, JumpReach, JumpsMeet}
use Rattle.patch_rules.specs.declared.links.LinkRule.{LinkRule}
use Rattle.patch_rules.specs.declared.links.LinkRule.TheVariants as link
use Rattle.patch_rules.specs.declared.sections.SectionRule.{SectionRule}
use Rattle.patch_rules.specs.declared.sections.SectionRule.TheVariants.{Tls, Compressed, Align, WriteAndRun}

-- the word for a rule of sections
abbrev pub section_rule_text : SectionRule → List ℕ
section_rule_text Tls = codes "tls"
section_rule_text Compressed = codes "compressed"
section_rule_text Align = codes "align"
section_rule_text WriteAndRun = codes "writeandrun"

-- the word for a rule of lines
abbrev pub line_rule_text : LineRule → List ℕ
line_rule_text NoFunction = codes "nofunction"
line_rule_text Several = codes "several"
line_rule_text TooSmall = codes "toosmall"
line_rule_text JumpReach = codes "jumpreach"
line_rule_text JumpsMeet = codes "jumpsmeet"

-- the word for a rule of entries, with the number of the type, or the value that is out of reach
abbrev pub link_rule_text : LinkRule → List ℕ
link_rule_text (link.Reloc n) = codes "reloc " ++ decimal n
link_rule_text link.Offset = codes "offset"
link_rule_text link.NoSymbol = codes "nosymbol"
link_rule_text link.Several = codes "several"
link_rule_text link.NoPair = codes "nopair"
link_rule_text link.Odd = codes "odd"
link_rule_text (link.Reach value) = codes "reach " ++ signed_decimal value
