use Rattle.fo_files_request.proofs.found.seen.Goals as goal

pub returns-in-Ok-clause-found : goal.returns-in-Ok-clause-found
returns-in-Ok-clause-found g c = (c.in-Ok.way, c.in-Ok.ensures.way, c.in-Ok.ensures.file)
