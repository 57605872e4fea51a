mod Leaves
mod Map
mod Slots
