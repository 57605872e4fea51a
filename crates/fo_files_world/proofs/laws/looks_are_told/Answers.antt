use Rattle.fo_files_world.proofs.Looks.{info_is, find_is, next_is, read_is}
use Rattle.fo_files_world.proofs.laws.looks_are_told.Goals as goal

pub returns-clause-info : goal.returns-clause-info
returns-clause-info c = λ arena image root w whole trail is. info_is arena image root w is whole trail

pub returns-clause-find : goal.returns-clause-find
returns-clause-find c = λ arena image root w whole trail name is. find_is arena image root w is whole trail name

pub returns-clause-next : goal.returns-clause-next
returns-clause-next c = λ arena image root w whole trail after is. next_is arena image root w is whole trail after

pub returns-clause-read : goal.returns-clause-read
returns-clause-read c = λ arena image root w whole trail offset count is. read_is arena image root w is whole trail offset count
