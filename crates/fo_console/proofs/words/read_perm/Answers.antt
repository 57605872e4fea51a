use Rattle.std.proofs.Common.{◌+◌, ◌^◌, sym, ap, ◌∙◌, lit<, arith}
use Rattle.std.specs.Option.{option_map}
use Rattle.std.proofs.lemmas.Str.Pattern.{strip_prefix_char}
use Rattle.fo_console.proofs.WordLemmas.{octal_small, perm_directory, perm_plain}
use Rattle.fo_console.proofs.words.read_perm.Goals as goal

pub returns-in_default : goal.returns-in_default
returns-in_default c =
    let d = strip_prefix_char 100 c.args.word.now c.strip_prefix.result c.strip_prefix.ensures.cases (lit< tt) in
    let none = rw c.in_default.is at d in
    c.read_octal.ensures ∙ perm_plain c.args.word.now none

pub returns-in_err-number : goal.returns-in_err-number
returns-in_err-number c =
    let d = strip_prefix_char 100 c.args.word.now c.strip_prefix.result c.strip_prefix.ensures.cases (lit< tt) in
    let cut = rw c.in-Some.is at d in
    rw c.from_residual.ensures (ap (option_map (λ n. 2 ^ 31 + n)) c.in_err-number.ensures ∙ sym (perm_directory c.args.word.now c.in-Some.digits.now cut))

pub overflow_add-result : goal.overflow_add-result
overflow_add-result c =
    omega (arith, octal_small c.in-Some.digits.now c.in_ok-number.number (sym c.in_ok-number.ensures))

pub returns : goal.returns
returns c =
    let d = strip_prefix_char 100 c.args.word.now c.strip_prefix.result c.strip_prefix.ensures.cases (lit< tt) in
    let cut = rw c.in-Some.is at d in
    ap (option_map (λ n. 2 ^ 31 + n)) c.in_ok-number.ensures ∙ sym (perm_directory c.args.word.now c.in-Some.digits.now cut)
