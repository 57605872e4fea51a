mod Intact
mod Refusing
mod Ends
