mod Empty
mod Retiring
mod Untold
