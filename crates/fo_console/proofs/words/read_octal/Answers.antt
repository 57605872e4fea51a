use Rattle.std.proofs.Common.{sym, ◌∙◌}
use Rattle.fo_console.proofs.WordLemmas.{octal_none, octal_parsed}
use Rattle.fo_console.proofs.words.read_octal.Goals as goal

pub returns-then-not-is_octal_word : goal.returns-then-not-is_octal_word
returns-then-not-is_octal_word c =
    octal_none c.args.digits.now (sym c.is_octal_word.ensures ∙ c.if-not-is_octal_word.true)

pub returns : goal.returns
returns c =
    c.ok.ensures.value ∙ octal_parsed c.args.digits.now c.from_str_radix.result (sym c.is_octal_word.ensures ∙ c.if-not-is_octal_word.false) c.from_str_radix.ensures.value
