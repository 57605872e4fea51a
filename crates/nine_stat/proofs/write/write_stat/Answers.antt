use Rattle.std.proofs.Common.{◌∙◌}
use Rattle.nine_stat.proofs.Records.{parts_whole, inside_short, spelled_whole, record_made}
use Rattle.nine_stat.proofs.write.write_stat.Goals as goal

pub put_string-requires : goal.put_string-requires
put_string-requires c =
    inside_short c.args.stat.now c.as_slice.result.now c.requires (c.as_slice.ensures.value ∙ parts_whole c.args.stat.now c.in_ok-inside.inside.items c.put_numbers.new.out.items c.put_texts.new.out.items c.in_ok-inside.ensures.items c.in_ok-put_numbers.ensures.written c.in_ok-put_texts.ensures)

pub returns-clause-ok : goal.returns-clause-ok
returns-clause-ok c =
    let whole = c.as_slice.ensures.value ∙ parts_whole c.args.stat.now c.in_ok-inside.inside.items c.put_numbers.new.out.items c.put_texts.new.out.items c.in_ok-inside.ensures.items c.in_ok-put_numbers.ensures.written c.in_ok-put_texts.ensures in
    spelled_whole c.args.stat.now c.args.out.now.items c.put_string.new.out.items c.as_slice.result.now whole c.in_ok-put_string.ensures.ok

pub returns-clause-fits : goal.returns-clause-fits
returns-clause-fits c = record_made c.args.stat.now c.requires c.in_ok-put_numbers.ensures.fits
