use Rattle.std.specs.Fmt.{decimal}
use Rattle.fo_console.specs.Reply.{mode_text}
use Rattle.fo_console.proofs.ReplyLemmas.{stat_joined}
use Rattle.fo_console.proofs.write.stat_line.Goals as goal

pub returns : goal.returns
returns c =
    let info = c.args.info.now in
    rw (c.in_ok-extend_from_slice.ensures.items, c.as_bytes.ensures.value, c.in_ok-rest.ensures.ok, c.in_ok-mode.ensures, c.in_ok-put_word-4.ensures, c.as_slice-4.ensures, c.in_ok-put_word-3.ensures, c.as_slice-3.ensures, c.in_ok-put_word-2.ensures, c.as_slice-2.ensures, c.in_ok-put_word.ensures, c.as_slice.ensures, c.in_ok-line.ensures.items)
    (stat_joined info.name info.uid info.gid info.muid (mode_text info.mode) (decimal info.length) (decimal info.path))
