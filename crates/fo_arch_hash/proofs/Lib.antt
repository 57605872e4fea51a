mod Entries
mod Places
