use Rattle.test_names.proofs.Staying.{device_blocks, device_none}
use Rattle.test_names.proofs.blocks.device.Goals as goal

pub returns-clause-blocks : goal.returns-clause-blocks
returns-clause-blocks c = device_blocks c.new.result c.new.ensures

pub returns-clause-none : goal.returns-clause-none
returns-clause-none c = device_none c.new.result c.new.ensures
