mod Deciding
mod Making
mod Reading
