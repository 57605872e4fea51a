mod LabelBlocks
mod Latest
mod Made
mod Left
