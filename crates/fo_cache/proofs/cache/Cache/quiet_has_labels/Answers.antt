use Rattle.fo_cache.proofs.cache.Cache.quiet_has_labels.Goals as goal

pub returns : goal.returns
returns g c = λ quiet b two before lt. let f = c.args.self.now.spelled.each b two before lt in (f.settled (quiet.settled b), f.spelled (quiet.clean b))
