pub mod Moment
pub mod Opened
pub mod Goes
pub mod Ended
