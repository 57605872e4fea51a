mod Empty
mod Reach
mod Causes
mod Within
