mod Passed
mod Exits
