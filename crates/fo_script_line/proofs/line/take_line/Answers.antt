use Rattle.fo_script_line.proofs.Doing.{done_moment, done_console, done_archive, done_archive_all, flush_takes, unlink_takes, flush_all_takes}
use Rattle.fo_script_line.proofs.line.take_line.Goals as goal

pub returns-in-Moment-clause-takes : goal.returns-in-Moment-clause-takes
returns-in-Moment-clause-takes g c = rw c.in-Moment.is (done_moment _ c.in-Moment.moment _)

pub returns-in-Flush-clause-takes : goal.returns-in-Flush-clause-takes
returns-in-Flush-clause-takes g c = rw c.in-Flush.is (flush_takes _ _ _ _ c.take_from.ensures.takes)

pub returns-in-Unlink-clause-takes : goal.returns-in-Unlink-clause-takes
returns-in-Unlink-clause-takes g c = rw c.in-Unlink.is (unlink_takes _ _ _ _ c.take_from-in-Unlink.ensures.takes)

pub returns-in-FlushAll-clause-takes : goal.returns-in-FlushAll-clause-takes
returns-in-FlushAll-clause-takes g c = rw c.in-FlushAll.is (flush_all_takes _ _ _ _ c.take_from-in-FlushAll.ensures.takes)

pub returns-in-Console-clause-takes : goal.returns-in-Console-clause-takes
returns-in-Console-clause-takes g c = rw c.in-Console.is (done_console _ _ _)

pub returns-in-Archive-clause-takes : goal.returns-in-Archive-clause-takes
returns-in-Archive-clause-takes g c = rw c.in-Archive.is (done_archive _ _)

pub returns-in-ArchiveAll-clause-takes : goal.returns-in-ArchiveAll-clause-takes
returns-in-ArchiveAll-clause-takes g c = rw c.in-ArchiveAll.is (done_archive_all _ _)
