mod Finishing
mod Forming
mod Growing
mod Putting
mod Sames
mod Storing
mod Taking
