mod Aging
mod Growing
