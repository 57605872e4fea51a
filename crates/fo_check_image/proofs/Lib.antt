mod Bare
mod Deciding
mod Normal
mod Reading
mod Reporting
