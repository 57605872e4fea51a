use Rattle.std.proofs.Common.{◌≡◌, sym, ◌∙◌, lit<}
use Rattle.std.specs.Option.{option_map}
use Rattle.std.proofs.lemmas.Result.{IfOk-weaker}
use Rattle.std.proofs.lemmas.Str.Pattern.{strip_prefix_char}
use Rattle.fo_console.proofs.WordLemmas.{path_slash, path_none}
use Rattle.fo_console.proofs.words.read_path.Goals as goal

pub returns-in-Some : goal.returns-in-Some
returns-in-Some c =
    let d = strip_prefix_char 47 c.args.word.now c.strip_prefix.result c.strip_prefix.ensures.cases (lit< tt) in
    let cut = rw c.in-Some.is at d in
    IfOk-weaker c.read_names.result _ _ (λ o e. e ∙ sym (path_slash c.args.word.now c.in-Some.names.now cut)) c.read_names.ensures

pub returns-in-None : goal.returns-in-None
returns-in-None c =
    let d = strip_prefix_char 47 c.args.word.now c.strip_prefix.result c.strip_prefix.ensures.cases (lit< tt) in
    let none = rw c.in-None.is at d in
    path_none c.args.word.now none
