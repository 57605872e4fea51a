mod Entries
mod Names
mod Roots
mod Tails
mod Tops
