use Rattle.fo_bring.proofs.Bringing.{gone_here, gone_others, kept_others, loaded_others, brought, clean_gone, clean_joins, clean_loaded, clean_at_once}
use Rattle.fo_bring.proofs.reads.bring.Goals as goal

pub returns-then-not-keep_good-clause-err : goal.returns-then-not-keep_good-clause-err
returns-then-not-keep_good-clause-err g c = gone_here c.args.at c.load_in.new.buffers c.keep_good.new.buffers c.if-not-keep_good.ensures.gone

pub returns-then-not-keep_good-clause-others : goal.returns-then-not-keep_good-clause-others
returns-then-not-keep_good-clause-others g c = gone_others c.args.at c.args.buffers.now c.load_in.new.buffers c.keep_good.new.buffers (loaded_others c.in_default.ensures.ok) c.if-not-keep_good.ensures.gone

pub returns-clause-ok : goal.returns-clause-ok
returns-clause-ok g c = brought c.in_default.ensures.ok c.if-not-keep_good.ensures.kept.0 c.if-not-keep_good.ensures.kept.1

pub returns-clause-others : goal.returns-clause-others
returns-clause-others g c = kept_others (loaded_others c.in_default.ensures.ok) c.if-not-keep_good.ensures.kept.0

pub returns-then-not-keep_good-clause-clean : goal.returns-then-not-keep_good-clause-clean
returns-then-not-keep_good-clause-clean g c = clean_joins (clean_loaded c.in_default.ensures.ok) (clean_gone (g.D.Disk.state c.args.main.now).holds c.args.at c.load_in.new.buffers c.keep_good.new.buffers c.if-not-keep_good.ensures.gone)

pub returns-clause-clean : goal.returns-clause-clean
returns-clause-clean g c = clean_joins (clean_loaded c.in_default.ensures.ok) (clean_at_once (g.D.Disk.state c.args.main.now).holds c.if-not-keep_good.ensures.kept.0)

pub returns-in-Err-clause-clean : goal.returns-in-Err-clause-clean
returns-in-Err-clause-clean g c = clean_at_once (g.D.Disk.state c.args.main.now).holds c.in-Err.ensures.err
